use Rattle.std.proofs.Common.{◌≡◌, None}
use Rattle.std.specs.Duration.{as_nanos}
use Rattle.std.specs.List.{fold}
use Rattle.p2p_driver.specs.Grants.{sooner_cooled}
use Rattle.p2p_driver.proofs.grants.next_cooled.Given as goal

-- with those that are left, it is the least of all
abbrev pub invariant-loop-peer : goal.invariant-loop-peer
invariant-loop-peer g l = fold (sooner_cooled g.C.Ord.cmp l.links (as_nanos l.cooldown)) None l.of_peers.entries
    ≡ fold (sooner_cooled g.C.Ord.cmp l.links (as_nanos l.cooldown)) l.next l.peer-iterator
