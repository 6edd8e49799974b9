use Rattle.std.proofs.Common.{◌≡◌, length}
use Rattle.p2p_driver.specs.Paces.{are_distinct}
use Rattle.p2p_driver.proofs.channels.distinct.Given as goal

-- the channels before had no number that stands again
abbrev pub invariant-loop-channel : goal.invariant-loop-channel
invariant-loop-channel l = are_distinct l.channels ≡ are_distinct l.rest

abbrev pub decreases-loop-channel : goal.decreases-loop-channel
decreases-loop-channel l = length l.rest
