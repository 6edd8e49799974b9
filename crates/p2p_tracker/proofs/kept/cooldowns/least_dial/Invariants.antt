use Rattle.std.proofs.Common.{ℕ, ◌≤◌}
use Rattle.std.specs.Duration.{as_nanos}
use Rattle.std.specs.List.{All}
use Rattle.std.specs.Map.{values_of}
use Rattle.p2p_tracker.proofs.kept.cooldowns.least_dial.Given as goal

-- what is no greater than the least so far and than those that are left is so of all
abbrev pub invariant-loop-cooldown : goal.invariant-loop-cooldown
invariant-loop-cooldown g l = (m : ℕ) → m ≤ l.least → All (λ d. m ≤ as_nanos d.1) (values_of l.cooldown-iterator) →
    All (λ d. m ≤ as_nanos d.1) (values_of l.moments.entries)
