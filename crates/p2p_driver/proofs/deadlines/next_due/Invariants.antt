use Rattle.std.proofs.Common.{◌≡◌, None}
use Rattle.std.specs.Map.{values_of}
use Rattle.p2p_driver.specs.Links.{least_due, next_of}
use Rattle.p2p_driver.proofs.deadlines.next_due.Given as goal

-- with those that are left, it is the least of all
abbrev pub invariant-loop-held : goal.invariant-loop-held
invariant-loop-held g l = least_due (next_of l.pace) None (values_of l.of_peers.entries)
    ≡ least_due (next_of l.pace) l.next (values_of l.held-iterator)
