use Rattle.std.proofs.Common.{◌≡◌, find}
use Rattle.std.specs.Duration.{as_nanos}
use Rattle.p2p_driver.specs.Grants.{is_unfit_entry}
use Rattle.p2p_driver.proofs.grants.first_unfit.Given as goal

-- the first is the first of those that are left
abbrev pub invariant-loop-peer : goal.invariant-loop-peer
invariant-loop-peer g l = find (is_unfit_entry g.C.Ord.cmp l.links l.directory (as_nanos l.now)) l.of_peers.entries
    ≡ find (is_unfit_entry g.C.Ord.cmp l.links l.directory (as_nanos l.now)) l.peer-iterator
