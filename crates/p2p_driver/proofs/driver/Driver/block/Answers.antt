use Rattle.std.proofs.Common.{ap, max, subst, refl, ◌∙◌}
use Rattle.std.specs.Duration.{as_nanos}
use Rattle.p2p_directory.specs.Received.{Wire}
use Rattle.p2p_driver.specs.Drivers.{Does, DriverView, seen, wire_with}
use Rattle.p2p_driver.specs.Happenings.{Happening}
use Rattle.p2p_driver.proofs.DrivingGrants.{frees_after}
use Rattle.p2p_driver.proofs.Standing.{at_once}
use Rattle.p2p_driver.proofs.Driving.{goes_on, no_earlier}
use Rattle.p2p_driver.proofs.DrivingApplication.{bars}
use Rattle.p2p_driver.proofs.DrivingSets.{room_stays}
use Rattle.p2p_driver.proofs.driver.Driver.block.Given as given
use Rattle.p2p_driver.proofs.driver.Driver.block.Goals as goal

-- how keys are, by the type of the keys
abbrev wire_in : (g : given.Over) → Wire g.row.C.Denot g.row.C-Signature.Denot
wire_in g = wire_with g.C.PublicKey.verifies g.C.FixedBytes.spelled g.C.Signature.FixedBytes.spelled g.C.FixedBytes.SIZE
    g.C.FixedBytes.value g.C.Signature.FixedBytes.SIZE g.C.Signature.FixedBytes.value

pub invariant_of-self-2 : goal.invariant_of-self-2
invariant_of-self-2 g c = let d = c.self.inside in (
  goes_on (Happening.Barred c.args.peer.now c.later-time.result c.in-Some.taken) _ _ c.self.invariant.0
      (bars g.C.Ord.cmp (wire_in g) d.node d.pace d.greeting (as_nanos d.cooldown) d.next_dial (as_nanos d.latest) d.next d.arrivals d.answers d.reads d.links d.actions.items
      c.args.peer.now c.later-time.result c.in-Some.taken c.block.new.node _ c.shut.new.links c.shut.new.actions.items ((refl, refl), refl)
      (no_earlier (as_nanos d.latest) (as_nanos c.args.now.steady) (as_nanos c.later-time.result) c.later-time.ensures)
      c.in-Some.ensures.made c.in-Some.ensures.taken c.shut.ensures.links c.shut.ensures.counts c.shut.ensures.said),
  room_stays d.arrivals d.answers d.links c.shut.new.links d.actions c.shut.new.actions c.self.invariant.1 c.shut.ensures.room,
)

pub returns : goal.returns
returns g c = let d = c.self.inside in
    frees_after g.C.Ord.cmp (wire_in g) c.later-time.result (as_nanos c.args.now.steady) (λ t. Happening.Barred c.args.peer.now t c.in-Some.taken) _ _ _
    (c.later-time.ensures ∙ ap (λ (v : DriverView g.row.C.Denot g.row.C-Signature.Denot). max v.latest (as_nanos c.args.now.steady)) c.self.view_is)
    (subst (λ v. Does g.C.Ord.cmp (wire_in g) (Happening.Barred c.args.peer.now c.later-time.result c.in-Some.taken) v
    (seen c.block.new.node d.pace d.greeting (as_nanos d.cooldown) (at_once d.next_dial) (as_nanos c.later-time.result) d.next d.arrivals d.answers d.reads
    c.shut.new.links c.shut.new.actions.items))
    c.self.view_is
    (bars g.C.Ord.cmp (wire_in g) d.node d.pace d.greeting (as_nanos d.cooldown) d.next_dial (as_nanos d.latest) d.next d.arrivals d.answers d.reads d.links d.actions.items
    c.args.peer.now c.later-time.result c.in-Some.taken c.block.new.node _ c.shut.new.links c.shut.new.actions.items ((refl, refl), refl)
    (no_earlier (as_nanos d.latest) (as_nanos c.args.now.steady) (as_nanos c.later-time.result) c.later-time.ensures)
    c.in-Some.ensures.made c.in-Some.ensures.taken c.shut.ensures.links c.shut.ensures.counts c.shut.ensures.said))
    c.free_all_unfit.ensures.did c.free_all_unfit.ensures.none
