use Rattle.std.proofs.Common.{◌≡◌, ℕ, ◌&&◌, nat_le, drop}
use Rattle.std.specs.List.{list_all}
use Rattle.std.specs.Duration.{as_nanos}
use Rattle.p2p_driver.proofs.Greatest.{within}
use Rattle.p2p_driver.proofs.arrivals.greatest.Given as goal

-- no origin has more than n if the walked ones have at most n, and none of those that are left more
abbrev pub invariant-loop-arrival : goal.invariant-loop-arrival
invariant-loop-arrival g l = (n : ℕ) →
    list_all (within (as_nanos l.grace) (as_nanos l.now) l.arrivals n) l.arrivals
    ≡ (nat_le l.most n && list_all (within (as_nanos l.grace) (as_nanos l.now) l.arrivals n)
    (drop l.arrival-index l.arrivals))
