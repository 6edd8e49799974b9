use Rattle.std.proofs.Common.{sym, ◌∙◌, refl}
use Rattle.std.specs.Duration.{as_nanos}
use Rattle.std.proofs.lemmas.Bool.{true_from_ne_false}
use Rattle.p2p_directory.specs.Run.{settings}
use Rattle.p2p_directory.proofs.Reservations.Served
use Rattle.p2p_directory.proofs.run.server.Server.listen.Goals as goal

pub returns-in-Ok-Some-clause-served : goal.returns-in-Ok-Some-clause-served
returns-in-Ok-Some-clause-served g c = rw (← c.self.view_is) (λ bootstrappers myself cfg calls at.
    let facts = rw c.in-Ok-Some.field-0-is at c.in-Ok-Some.ensures in
    Served.served_granted (settings g.C.Ord.cmp bootstrappers myself cfg) cfg.max_sets.ok g.met.C.PublicKey.exact
    calls _ _ at c.args.peer.now (as_nanos c.args.now) (as_nanos c.args.draw)
    (sym facts.answer) facts.granted (rw facts.reservation at c.put.ensures.held))

pub returns-in-Ok-None-clause-served : goal.returns-in-Ok-None-clause-served
returns-in-Ok-None-clause-served g c = rw (← c.self.view_is) (λ bootstrappers myself cfg calls at.
    let facts = rw c.in-Ok-None.field-0-is at c.in-Ok-None.ensures in
    Served.served_refused (settings g.C.Ord.cmp bootstrappers myself cfg) cfg.max_sets.ok g.met.C.PublicKey.exact
    calls _ _ at c.args.peer.now (as_nanos c.args.now) (as_nanos c.args.draw)
    (sym facts.answer) facts.refused (λ q. refl))

pub returns-in-Err-clause-served : goal.returns-in-Err-clause-served
returns-in-Err-clause-served g c = rw (← c.self.view_is) (λ bootstrappers myself cfg calls at.
    Served.served_no_listen (settings g.C.Ord.cmp bootstrappers myself cfg) cfg.max_sets.ok g.met.C.PublicKey.exact
    calls _ _ at c.args.peer.now (as_nanos c.args.now) (as_nanos c.args.draw)
    (true_from_ne_false _ (λ no. let f = sym c.in-Err.is ∙ c.listen.ensures.none no in cc)) c.in-Err.ensures.err (λ q. refl))
