use Rattle.std.proofs.Common.{◌≡◌, ◌++◌, filter, true}
use Rattle.std.specs.Duration.{as_nanos}
use Rattle.std.specs.List.{list_any}
use Rattle.std.specs.Map.{keys_of}
use Rattle.p2p_tracker.specs.Blocks.{in_nanos, is_later}
use Rattle.p2p_tracker.proofs.directory.blocked.peers_after.Given as goal

-- with those that are left, all are listed; who is left is one of all
abbrev pub invariant-loop-peer : goal.invariant-loop-peer
invariant-loop-peer g l = record {
  peers : l.peers.items ++ keys_of (filter (is_later (as_nanos l.now)) (in_nanos l.peer-iterator))
      ≡ keys_of (filter (is_later (as_nanos l.now)) (in_nanos l.fn.blocks));
  left : list_any (is_later (as_nanos l.now)) (in_nanos l.peer-iterator) ≡ true → list_any (is_later (as_nanos l.now)) (in_nanos l.fn.blocks) ≡ true;
}
