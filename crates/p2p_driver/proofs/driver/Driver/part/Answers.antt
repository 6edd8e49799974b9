use Rattle.std.specs.Duration.{as_nanos}
use Rattle.p2p_directory.specs.Received.{Wire}
use Rattle.p2p_driver.specs.Drivers.{wire_with}
use Rattle.p2p_driver.specs.Happenings.{Happening}
use Rattle.p2p_driver.proofs.Driving.{goes_on, no_earlier}
use Rattle.p2p_driver.proofs.DrivingApplication.{parts, part_answered, there_is}
use Rattle.p2p_driver.proofs.DrivingSets.{room_stays}
use Rattle.p2p_driver.proofs.driver.Driver.part.Given as given
use Rattle.p2p_driver.proofs.driver.Driver.part.Goals as goal

-- how keys are, by the type of the keys
abbrev wire_in : (g : given.Over) → Wire g.row.C.Denot g.row.C-Signature.Denot
wire_in g = wire_with g.C.PublicKey.verifies g.C.FixedBytes.spelled g.C.Signature.FixedBytes.spelled g.C.FixedBytes.SIZE
    g.C.FixedBytes.value g.C.Signature.FixedBytes.SIZE g.C.Signature.FixedBytes.value

pub invariant_of-self : goal.invariant_of-self
invariant_of-self g c = let d = c.self.inside in (
  goes_on (Happening.Parted c.args.peer.now c.later-self-inside.result) _ _ c.self.invariant.0
      (parts g.C.Ord.cmp (wire_in g) d.node d.pace d.greeting (as_nanos d.cooldown) d.next_dial (as_nanos d.latest) d.next d.arrivals d.answers d.reads d.links d.actions.items
      c.args.peer.now c.later-self-inside.result c.shut.new.links c.shut.new.actions.items
      (there_is _ _ _ c.is_none.result c.get.ensures c.is_none.ensures c.if-is_none.false)
      (no_earlier (as_nanos d.latest) (as_nanos c.args.now.steady) (as_nanos c.later-self-inside.result) c.later-self-inside.ensures)
      c.shut.ensures.links c.shut.ensures.counts c.shut.ensures.said),
  room_stays d.arrivals d.answers d.links c.shut.new.links d.actions c.shut.new.actions c.self.invariant.1 c.shut.ensures.room,
)

pub returns : goal.returns
returns g c = let d = c.self.inside in
    part_answered g.C.Ord.cmp (wire_in g) c.args.peer.now (as_nanos c.args.now.steady) _ _ _ c.self.view_is
    (there_is _ _ _ c.is_none.result c.get.ensures c.is_none.ensures c.if-is_none.false) c.later-self-inside.result c.later-self-inside.ensures
    (parts g.C.Ord.cmp (wire_in g) d.node d.pace d.greeting (as_nanos d.cooldown) d.next_dial (as_nanos d.latest) d.next d.arrivals d.answers d.reads d.links d.actions.items
    c.args.peer.now c.later-self-inside.result c.shut.new.links c.shut.new.actions.items
    (there_is _ _ _ c.is_none.result c.get.ensures c.is_none.ensures c.if-is_none.false)
    (no_earlier (as_nanos d.latest) (as_nanos c.args.now.steady) (as_nanos c.later-self-inside.result) c.later-self-inside.ensures)
    c.shut.ensures.links c.shut.ensures.counts c.shut.ensures.said)
