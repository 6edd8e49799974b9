use Rattle.std.proofs.Common.{◌≡◌, ◌+◌}
use Rattle.p2p_driver.specs.Links.{count_of}
use Rattle.p2p_driver.proofs.deadlines.count_of.Given as goal

-- with those that are left, it is the number of all
abbrev pub invariant-loop-held : goal.invariant-loop-held
invariant-loop-held g l = l.count + count_of l.direction l.held-iterator ≡ count_of l.direction l.of_peers.entries
