use Rattle.std.proofs.Common.{◌≡◌, ◌++◌, take, drop, map}
use Rattle.p2p_driver.specs.Arrivals.{with_claim, claimed}
use Rattle.p2p_driver.proofs.arrivals.claim.Given as goal

-- with those that are left, it is all
abbrev pub invariant-loop-stream : goal.invariant-loop-stream
invariant-loop-stream g l = claimed l.number l.peer l.fn.streams
    ≡ take l.stream-index l.streams ++ map (with_claim l.number l.peer) (drop l.stream-index l.streams)
