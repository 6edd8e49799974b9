use Rattle.std.proofs.Common.{◌≡◌, find}
use Rattle.std.specs.Duration.{as_nanos}
use Rattle.p2p_driver.specs.Links.{is_late}
use Rattle.p2p_driver.proofs.deadlines.first_late.Given as goal

-- the first is the first of those that are left
abbrev pub invariant-loop-peer : goal.invariant-loop-peer
invariant-loop-peer g l = find (λ e. is_late l.pace (as_nanos l.now) e.1) l.of_peers.entries
    ≡ find (λ e. is_late l.pace (as_nanos l.now) e.1) l.peer-iterator
