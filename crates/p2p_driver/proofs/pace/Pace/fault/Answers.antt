use Rattle.std.proofs.Common.{refl, ◌∙◌, sym}
use Rattle.p2p_driver.specs.Paces.{meets, settings}
use Rattle.p2p_driver.proofs.Firsts.{first_next}
use Rattle.p2p_driver.proofs.pace.Pace.fault.Goals as goal

pub loop-setting-preserved : goal.loop-setting-preserved
loop-setting-preserved c = record {
  all = refl;
  first = c.loop-setting.invariant.first ∙ first_next (meets c.args.limits.now c.args.self.now)
      settings c.loop-setting.setting-index _ c.loop-setting-test.true
      (sym c.meets.ensures ∙ c.if-not-meets.false);
}
