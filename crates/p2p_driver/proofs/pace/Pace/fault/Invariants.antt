use Rattle.std.proofs.Common.{◌≡◌, not, find, drop}
use Rattle.p2p_driver.specs.Paces.{meets, settings}
use Rattle.p2p_driver.proofs.pace.Pace.fault.Given as goal

-- the first fault is the first of those that are left
abbrev pub invariant-loop-setting : goal.invariant-loop-setting
invariant-loop-setting l = record {
  all : l.setting-items ≡ settings;
  first : find (λ s. not (meets l.limits l.self s)) settings
      ≡ find (λ s. not (meets l.limits l.self s)) (drop l.setting-index settings);
}
