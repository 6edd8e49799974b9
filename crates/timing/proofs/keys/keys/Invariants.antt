use Rattle.std.proofs.Common.{◌≡◌, length}
use Rattle.timing.proofs.keys.keys.Given as goal

-- one key for each place so far
abbrev pub invariant-loop-place : goal.invariant-loop-place
invariant-loop-place l = length l.keys.items ≡ l.place
