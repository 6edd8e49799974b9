use Rattle.std.proofs.Common.{◌∙◌, ap}
use Rattle.p2p_directory.specs.Received.{Wire}
use Rattle.p2p_driver.specs.Drivers.{DriverView, wire_with}
use Rattle.p2p_driver.proofs.DrivingGrants.{frees_none, frees_more}
use Rattle.p2p_driver.proofs.driver.Driver.free_all_unfit.Given as given
use Rattle.p2p_driver.proofs.driver.Driver.free_all_unfit.Goals as goal

-- how keys are, by the type of the keys
abbrev wire_in : (g : given.Over) → Wire g.row.C.Denot g.row.C-Signature.Denot
wire_in g = wire_with g.C.PublicKey.verifies g.C.FixedBytes.spelled g.C.Signature.FixedBytes.spelled g.C.FixedBytes.SIZE
    g.C.FixedBytes.value g.C.Signature.FixedBytes.SIZE g.C.Signature.FixedBytes.value

pub unfit-init : goal.unfit-init
unfit-init g c = (c.requires, frees_none g.C.Ord.cmp (wire_in g) c.args.now c.args.self.now)

pub unfit-preserved : goal.unfit-preserved
unfit-preserved g c = let one = c.free_unfit.ensures.one c.unfit-test.true in (
  ap (λ (v : DriverView g.row.C.Denot g.row.C-Signature.Denot). v.latest) one.rest ∙ c.unfit.invariant.0,
  frees_more g.C.Ord.cmp (wire_in g) c.args.now c.args.self.now c.unfit.self c.free_unfit.new.self c.unfit.invariant.1 one,
)
