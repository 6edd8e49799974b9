use Rattle.std.proofs.Common.{◌≡◌, ◌≤◌, ◌+◌, ◌++◌, take, cond, false, length, vec_capacity}
use Rattle.std.specs.List.{filter}
use Rattle.std.specs.Option.{option_map_or}
use Rattle.p2p_tracker.specs.Private.Counts.{one_set_less, is_torn_down_without}
use Rattle.p2p_discovery.specs.Ordered.{has_key}
use Rattle.p2p_tracker.specs.Seen.{record_at}
use Rattle.p2p_tracker.proofs.directory.records.Records.leave_each.Given as goal

-- the peers so far are counted, and those listed whose connections have to end
abbrev pub invariant-loop-peer : goal.invariant-loop-peer
invariant-loop-peer g l = record {
  records : (q : g.row.C.Denot) →
      record_at g.C.Ord.cmp l.self q ≡ cond (has_key g.C.Ord.cmp (take l.peer-index l.peers) q)
      (one_set_less l.role (record_at g.C.Ord.cmp l.initial.self q)) (record_at g.C.Ord.cmp l.initial.self q);
  torn : l.torn.items ≡ l.initial.torn.items
      ++ filter (λ q. option_map_or (is_torn_down_without l.role) (record_at g.C.Ord.cmp l.initial.self q) false)
      (take l.peer-index l.peers);
  capacity : vec_capacity l.torn ≡ vec_capacity l.initial.torn;
  length : length l.torn.items ≤ length l.initial.torn.items + l.peer-index;
}
