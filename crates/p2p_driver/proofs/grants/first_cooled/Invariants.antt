use Rattle.std.proofs.Common.{◌≡◌, find}
use Rattle.std.specs.Duration.{as_nanos}
use Rattle.p2p_driver.specs.Grants.{is_cooled_entry}
use Rattle.p2p_driver.proofs.grants.first_cooled.Given as goal

-- the first is the first of those that are left
abbrev pub invariant-loop-peer : goal.invariant-loop-peer
invariant-loop-peer g l = find (is_cooled_entry g.C.Ord.cmp l.links (as_nanos l.cooldown) (as_nanos l.now)) l.of_peers.entries
    ≡ find (is_cooled_entry g.C.Ord.cmp l.links (as_nanos l.cooldown) (as_nanos l.now)) l.peer-iterator
