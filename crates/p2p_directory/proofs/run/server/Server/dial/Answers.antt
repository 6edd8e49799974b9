use Rattle.std.proofs.Common.{◌≡◌, Some, sym, ap, ◌∙◌, refl}
use Rattle.std.specs.Prelude.{if◌then◌else◌}
use Rattle.std.specs.BTreeMap.{is_at}
use Rattle.p2p_tracker.specs.Directory.{ingress_in}
use Rattle.p2p_tracker.specs.Seen.{key_of}
use Rattle.p2p_directory.specs.Private.Slots.{held_in}
use Rattle.p2p_directory.proofs.Reservations.Holding.{dialled_key}
use Rattle.std.specs.Duration.{as_nanos}
use Rattle.std.proofs.lemmas.Bool.{true_from_ne_false}
use Rattle.p2p_directory.specs.Run.{settings}
use Rattle.p2p_directory.proofs.Reservations.Served
use Rattle.p2p_directory.proofs.run.server.Server.dial.Goals as goal

of_peer : (g : _) (c : goal.After-put g) → key_of c.in-Ok-Some.reservation ≡ c.args.peer.now
of_peer g c =
    let facts = rw c.in-Ok-Some.field-0-is at c.in-Ok-Some.ensures in
    dialled_key c.args.peer.now (ingress_in g.C.Ord.cmp c.self.inside.directory c.args.peer.now) c.in-Ok-Some.reservation facts.reservation

held : (g : _) (c : goal.After-put g) (q : g.row.C.Denot) →
    held_in g.C.Ord.cmp c.put.new.self q
    ≡ (if is_at (g.C.Ord.cmp c.args.peer.now) q then Some c.in-Ok-Some.reservation else held_in g.C.Ord.cmp
    c.self.inside.slots q)
held g c q =
    c.put.ensures.held q ∙ ap (λ p. if is_at (g.C.Ord.cmp p) q then Some c.in-Ok-Some.reservation else held_in g.C.Ord.cmp c.self.inside.slots q) (of_peer g c)

pub returns-in-Ok-Some-clause-served : goal.returns-in-Ok-Some-clause-served
returns-in-Ok-Some-clause-served g c = rw (← c.self.view_is) (λ bootstrappers myself cfg calls at.
    let facts = rw c.in-Ok-Some.field-0-is at c.in-Ok-Some.ensures in
    Served.served_dialled (settings g.C.Ord.cmp bootstrappers myself cfg) cfg.max_sets.ok g.met.C.PublicKey.exact
    calls _ _ at c.args.peer.now (as_nanos c.args.now) (as_nanos c.args.draw) c.in-Ok-Some.reservation
    (sym facts.answer) facts.reservation facts.granted (held g c))

pub returns-in-Ok-None-clause-served : goal.returns-in-Ok-None-clause-served
returns-in-Ok-None-clause-served g c = rw (← c.self.view_is) (λ bootstrappers myself cfg calls at.
    let facts = rw c.in-Ok-None.field-0-is at c.in-Ok-None.ensures in
    Served.served_not_dialled (settings g.C.Ord.cmp bootstrappers myself cfg) cfg.max_sets.ok
    g.met.C.PublicKey.exact calls _ _ at c.args.peer.now (as_nanos c.args.now) (as_nanos c.args.draw)
    (sym facts.answer) facts.refused (λ q. refl))

pub returns-in-Err-clause-served : goal.returns-in-Err-clause-served
returns-in-Err-clause-served g c = rw (← c.self.view_is) (λ bootstrappers myself cfg calls at.
    Served.served_no_dial (settings g.C.Ord.cmp bootstrappers myself cfg) cfg.max_sets.ok g.met.C.PublicKey.exact
    calls _ _ at c.args.peer.now (as_nanos c.args.now) (as_nanos c.args.draw)
    (true_from_ne_false _ (λ no. let f = sym c.in-Err.is ∙ c.dial.ensures.none no in cc)) c.in-Err.ensures.err (λ q. refl))
