use Rattle.std.specs.Duration.{as_nanos}
use Rattle.p2p_driver.proofs.Least.{IsLeast}
use Rattle.p2p_driver.proofs.arrivals.next_late.Given as goal

-- the least of the deadlines that were walked
abbrev pub invariant-loop-arrival : goal.invariant-loop-arrival
invariant-loop-arrival g l = IsLeast (as_nanos l.first) (as_nanos l.handshake) l.arrivals l.arrival-index
    l.next
