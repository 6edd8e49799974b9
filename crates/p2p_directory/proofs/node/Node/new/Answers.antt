use Rattle.std.proofs.Common.{◌≡◌, [], refl, sym, ap, subst, ◌∙◌, rules}
use Rattle.std.specs.declared.cmp.Ordering.{Ordering}
use Rattle.p2p_discovery.proofs.Sorting.{sorted_nil}
use Rattle.p2p_directory.specs.declared.node.setup.Setup.{Setup}
use Rattle.p2p_directory.specs.Held.{held_of}
use Rattle.p2p_directory.specs.Nodes.{NodeStandsAt, made_of}
use Rattle.p2p_directory.specs.Run.{settings, world_after}
use Rattle.std.specs.Map.{keys_of}
use Rattle.p2p_directory.specs.Private.Serving.{ServerView, StandsAt, node_at}
use Rattle.p2p_directory.specs.Private.Slots.{held_in, contents, AreSlots}
use Rattle.p2p_directory.proofs.Nodes.Standing.{of_server}
use Rattle.p2p_directory.proofs.Reservations.Served.{are_held, stands_at_start}
use Rattle.p2p_directory.proofs.node.Node.new.Goals as goal

-- no slots are in order
no_slots : {C S : Type 0} (cmp : C → C → Ordering) → AreSlots {C = C} {S = S} cmp []
no_slots cmp = record { ordered = sorted_nil cmp; keyed = λ q. tt }

pub new-server-requires : goal.new-server-requires
new-server-requires g c =
    let s = settings g.C.Ord.cmp c.args.setup.bootstrappers.items c.args.setup.myself c.args.setup.cfg in
    let made = c.in_ok-directory.ensures in
    let at = stands_at_start s (record { directory = c.in_ok-directory.directory; slots = c.new.result })
    (search rules) made.config made.sets made.blocks made.cooldowns made.records
    (λ q. ap (λ slots. held_in g.C.Ord.cmp slots q) c.new.ensures) in
    record {
      held = are_held s (world_after s []) c.in_ok-directory.directory (held_in g.C.Ord.cmp c.new.result) at.refines at.holds;
      ordered = subst (AreSlots g.C.Ord.cmp) (sym c.new.ensures) (no_slots g.C.Ord.cmp);
    }

-- it stands where its server does, and no call was accepted
at_start : {C S : Type 0} (cmp : C → C → Ordering) (given : Setup C S) (v : ServerView C S) →
    v.slots ≡ [] → StandsAt (settings cmp given.bootstrappers.items given.myself given.cfg) [] v →
    NodeStandsAt (made_of cmp given) [] (node_at (made_of cmp given).limits (made_of cmp given).verifier v)
at_start cmp given v none at =
    let m = made_of cmp given in
    of_server m [] (node_at m.limits m.verifier v) v refl
    (λ q. ap (λ slots. held_of cmp (contents slots) q) none ∙ sym (ap (λ slots. held_in cmp slots q) none)) refl refl at

pub invariant_of-result : goal.invariant_of-result
invariant_of-result g c =
    let cmp = g.C.Ord.cmp in
    let s = settings cmp c.args.setup.bootstrappers.items c.args.setup.myself c.args.setup.cfg in
    let made = c.in_ok-directory.ensures in
    let v : ServerView g.row.C.Denot g.row.C-Signature.Denot = record { directory = c.in_ok-directory.directory; slots = c.new.result } in
    let at = stands_at_start s v (search rules) made.config made.sets made.blocks made.cooldowns made.records
    (λ q. ap (λ slots. held_in cmp slots q) c.new.ensures) in (
      c.requires.bits,
      rw c.new-server.ensures (subst (AreSlots cmp) (sym c.new.ensures) (no_slots cmp)),
      record {
        given = c.args.setup;
        calls = [];
        stands = rw (c.new-server.ensures, c.verifier-verifier.ensures) (at_start cmp c.args.setup v c.new.ensures at);
      },
    )

pub returns-clause-stands : goal.returns-clause-stands
returns-clause-stands g c =
    let cmp = g.C.Ord.cmp in
    let s = settings cmp c.args.setup.bootstrappers.items c.args.setup.myself c.args.setup.cfg in
    let made = c.in_ok-directory.ensures in
    let v : ServerView g.row.C.Denot g.row.C-Signature.Denot = record { directory = c.in_ok-directory.directory; slots = c.new.result } in
    let at = stands_at_start s v (search rules) made.config made.sets made.blocks made.cooldowns made.records
    (λ q. ap (λ slots. held_in cmp slots q) c.new.ensures) in
    rw (c.new-server.ensures, c.verifier-verifier.ensures) (at_start cmp c.args.setup v c.new.ensures at)

pub returns-clause-room : goal.returns-clause-room
returns-clause-room g c = rw c.new-server.ensures (ap keys_of c.new.ensures)
