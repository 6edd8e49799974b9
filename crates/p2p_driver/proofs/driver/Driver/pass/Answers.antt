use Rattle.std.proofs.Common.{◌≤◌, sym, subst}
use Rattle.std.specs.Duration.{as_nanos}
use Rattle.p2p_directory.specs.Received.{Wire}
use Rattle.p2p_driver.specs.Drivers.{DriverView, Does, seen, wire_with}
use Rattle.p2p_driver.specs.Happenings.{Happening}
use Rattle.p2p_driver.proofs.Driving.{goes_on}
use Rattle.p2p_driver.proofs.DrivingTimers.{passes}
use Rattle.p2p_driver.proofs.driver.Driver.pass.Given as given
use Rattle.p2p_driver.proofs.driver.Driver.pass.Goals as goal

-- how keys are, by the type of the keys
abbrev wire_in : (g : given.Over) → Wire g.row.C.Denot g.row.C-Signature.Denot
wire_in g = wire_with g.C.PublicKey.verifies g.C.FixedBytes.spelled g.C.Signature.FixedBytes.spelled g.C.FixedBytes.SIZE
    g.C.FixedBytes.value g.C.Signature.FixedBytes.SIZE g.C.Signature.FixedBytes.value

pub invariant_of-self : goal.invariant_of-self
invariant_of-self g c = let d = c.self.inside in (
  goes_on (Happening.Passed c.args.now) _ _ c.self.invariant.0
      (passes g.C.Ord.cmp (wire_in g) d.node d.pace d.greeting (as_nanos d.cooldown) d.next_dial (as_nanos d.latest) d.next d.arrivals d.answers d.reads d.links d.actions.items
      c.args.now c.pass.new.node
      (subst (λ (v : DriverView g.row.C.Denot g.row.C-Signature.Denot). v.latest ≤ as_nanos c.args.now) (sym c.self.view_is) c.requires)
      c.pass.ensures),
  c.self.invariant.1,
)

pub returns-clause-did : goal.returns-clause-did
returns-clause-did g c = let d = c.self.inside in
    subst (λ v. Does g.C.Ord.cmp (wire_in g) (Happening.Passed c.args.now) v
    (seen c.pass.new.node d.pace d.greeting (as_nanos d.cooldown) d.next_dial (as_nanos c.args.now) d.next d.arrivals d.answers d.reads d.links d.actions.items))
    c.self.view_is
    (passes g.C.Ord.cmp (wire_in g) d.node d.pace d.greeting (as_nanos d.cooldown) d.next_dial (as_nanos d.latest) d.next d.arrivals d.answers d.reads d.links d.actions.items
    c.args.now c.pass.new.node
    (subst (λ (v : DriverView g.row.C.Denot g.row.C-Signature.Denot). v.latest ≤ as_nanos c.args.now) (sym c.self.view_is) c.requires)
    c.pass.ensures)
