use Rattle.std.proofs.Common.{◌≡◌, find, drop}
use Rattle.p2p_driver.specs.Arrivals.{has_number}
use Rattle.p2p_driver.proofs.arrivals.get.Given as goal

-- the first is the first of those that are left
abbrev pub invariant-loop-stream : goal.invariant-loop-stream
invariant-loop-stream g l = find (has_number l.number) l.streams
    ≡ find (has_number l.number) (drop l.stream-index l.streams)
