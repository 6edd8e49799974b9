use Rattle.std.proofs.Common.{◌∙◌, sym, subst}
use Rattle.std.specs.Duration.{as_nanos}
use Rattle.p2p_driver.specs.Timers.{NoneLate}
use Rattle.p2p_directory.specs.Received.{Wire}
use Rattle.p2p_driver.specs.Drivers.{wire_with}
use Rattle.p2p_driver.proofs.DrivingTimers.{closes_more}
use Rattle.p2p_driver.proofs.driver.Driver.close_all_late.Given as given
use Rattle.p2p_driver.proofs.driver.Driver.close_all_late.Goals as goal

-- how keys are, by the type of the keys
abbrev wire_in : (g : given.Over) → Wire g.row.C.Denot g.row.C-Signature.Denot
wire_in g = wire_with g.C.PublicKey.verifies g.C.FixedBytes.spelled g.C.Signature.FixedBytes.spelled g.C.FixedBytes.SIZE
    g.C.FixedBytes.value g.C.Signature.FixedBytes.SIZE g.C.Signature.FixedBytes.value

pub late-preserved : goal.late-preserved
late-preserved g c = let one = c.close_late.ensures.one c.late-test.true in (
  one.latest ∙ c.late.invariant.0,
  closes_more g.C.Ord.cmp (wire_in g) c.args.now c.args.self.now c.late.self c.close_late.new.self c.late.invariant.1 one,
  λ none. absurd (c.close_late.ensures.late c.late-test.true
      (subst (NoneLate g.C.Ord.cmp (as_nanos c.args.now)) (sym (c.late.invariant.2 none)) none)),
)
