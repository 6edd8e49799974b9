use Rattle.std.proofs.Common.{subst, refl}
use Rattle.std.specs.Duration.{as_nanos}
use Rattle.p2p_directory.specs.Received.{Wire}
use Rattle.p2p_driver.specs.Drivers.{DoesAt, seen, wire_with}
use Rattle.p2p_driver.specs.Happenings.{Happening}
use Rattle.p2p_driver.proofs.Standing.{at_once}
use Rattle.p2p_driver.proofs.Driving.{goes_on, no_earlier}
use Rattle.p2p_driver.proofs.DrivingApplication.{gives}
use Rattle.p2p_driver.proofs.driver.Driver.update_peers.Given as given
use Rattle.p2p_driver.proofs.driver.Driver.update_peers.Goals as goal

-- how keys are, by the type of the keys
abbrev wire_in : (g : given.Over) → Wire g.row.C.Denot g.row.C-Signature.Denot
wire_in g = wire_with g.C.PublicKey.verifies g.C.FixedBytes.spelled g.C.Signature.FixedBytes.spelled g.C.FixedBytes.SIZE
    g.C.FixedBytes.value g.C.Signature.FixedBytes.SIZE g.C.Signature.FixedBytes.value

pub invariant_of-self : goal.invariant_of-self
invariant_of-self g c = let d = c.self.inside in (
  goes_on (Happening.Given c.args.infos.items c.later-self-inside.result) _ _ c.self.invariant.0
      (gives g.C.Ord.cmp (wire_in g) d.node d.pace d.greeting (as_nanos d.cooldown) d.next_dial (as_nanos d.latest) d.next d.arrivals d.answers d.reads d.links d.actions.items
      c.args.infos.items c.later-self-inside.result c.update.new.node _ ((refl, refl), refl)
      (no_earlier (as_nanos d.latest) (as_nanos c.args.now.steady) (as_nanos c.later-self-inside.result) c.later-self-inside.ensures)
      c.update.ensures),
  c.self.invariant.1,
)

pub returns : goal.returns
returns g c = let d = c.self.inside in
    subst (λ v. DoesAt g.C.Ord.cmp (wire_in g) (as_nanos c.args.now.steady) (Happening.Given c.args.infos.items) v
    (seen c.update.new.node d.pace d.greeting (as_nanos d.cooldown) (at_once d.next_dial) (as_nanos c.later-self-inside.result) d.next d.arrivals d.answers d.reads d.links d.actions.items))
    c.self.view_is (
      c.later-self-inside.result,
      c.later-self-inside.ensures,
      (gives g.C.Ord.cmp (wire_in g) d.node d.pace d.greeting (as_nanos d.cooldown) d.next_dial (as_nanos d.latest) d.next d.arrivals d.answers d.reads d.links d.actions.items
          c.args.infos.items c.later-self-inside.result c.update.new.node _ ((refl, refl), refl)
          (no_earlier (as_nanos d.latest) (as_nanos c.args.now.steady) (as_nanos c.later-self-inside.result) c.later-self-inside.ensures)
          c.update.ensures),
    )
