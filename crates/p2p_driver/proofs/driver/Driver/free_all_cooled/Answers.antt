use Rattle.std.proofs.Common.{◌∙◌, ap, refl, sym, subst}
use Rattle.std.specs.Duration.{as_nanos}
use Rattle.p2p_directory.specs.Received.{Wire}
use Rattle.p2p_driver.specs.Drivers.{DriverView, wire_with}
use Rattle.p2p_driver.specs.Timers.{NoneCooled}
use Rattle.p2p_driver.proofs.DrivingGrants.{frees_none, frees_more}
use Rattle.p2p_driver.proofs.driver.Driver.free_all_cooled.Given as given
use Rattle.p2p_driver.proofs.driver.Driver.free_all_cooled.Goals as goal

-- how keys are, by the type of the keys
abbrev wire_in : (g : given.Over) → Wire g.row.C.Denot g.row.C-Signature.Denot
wire_in g = wire_with g.C.PublicKey.verifies g.C.FixedBytes.spelled g.C.Signature.FixedBytes.spelled g.C.FixedBytes.SIZE
    g.C.FixedBytes.value g.C.Signature.FixedBytes.SIZE g.C.Signature.FixedBytes.value

pub cooled-init : goal.cooled-init
cooled-init g c = (c.requires, frees_none g.C.Ord.cmp (wire_in g) c.args.now c.args.self.now, λ none. refl)

pub cooled-preserved : goal.cooled-preserved
cooled-preserved g c = let one = c.free_cooled.ensures.one c.cooled-test.true in (
  ap (λ (v : DriverView g.row.C.Denot g.row.C-Signature.Denot). v.latest) one.rest ∙ c.cooled.invariant.0,
  frees_more g.C.Ord.cmp (wire_in g) c.args.now c.args.self.now c.cooled.self c.free_cooled.new.self c.cooled.invariant.1 one,
  λ none. absurd (c.free_cooled.ensures.some c.cooled-test.true
      (subst (NoneCooled g.C.Ord.cmp (as_nanos c.args.now)) (sym (c.cooled.invariant.2 none)) none)),
)
