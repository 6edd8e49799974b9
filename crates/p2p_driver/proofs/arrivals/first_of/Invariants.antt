use Rattle.std.proofs.Common.{◌≡◌, find, drop}
use Rattle.std.specs.Duration.{as_nanos}
use Rattle.p2p_driver.specs.Arrivals.{gives_way}
use Rattle.p2p_driver.proofs.arrivals.first_of.Given as goal

-- the first is the first of those that are left
abbrev pub invariant-loop-arrival : goal.invariant-loop-arrival
invariant-loop-arrival g l =
    find (gives_way (as_nanos l.grace) (as_nanos l.now) l.arrivals l.most l.all) l.arrivals
    ≡ find (gives_way (as_nanos l.grace) (as_nanos l.now) l.arrivals l.most l.all)
    (drop l.arrival-index l.arrivals)
