use Rattle.std.proofs.Common.{◌≡◌, ◌++◌, drop, vec_capacity}
use Rattle.std.specs.List.{filter}
use Rattle.std.specs.List.Sorted.{IsStrictlySortedBy}
use Rattle.std.specs.Map.{keys_of}
use Rattle.p2p_tracker.specs.Private.Counts.{is_torn_down_without}
use Rattle.p2p_tracker.proofs.SetsAndRecords.Walked.{passes_in}
use Rattle.p2p_tracker.proofs.directory.records.walks.list_torn.Given as goal

-- with those of the records and the peers that are left, all are listed
abbrev pub invariant-loop-key : goal.invariant-loop-key
invariant-loop-key g l = record {
  ordered : IsStrictlySortedBy g.C.Ord.cmp (keys_of l.key-iterator);
  listed : l.torn.items ++ filter (passes_in g.C.Ord.cmp (is_torn_down_without l.role) l.key-iterator) (drop l.at l.peers)
      ≡ l.initial.torn.items ++ filter (passes_in g.C.Ord.cmp (is_torn_down_without l.role) l.map.entries) l.peers;
  capacity : vec_capacity l.torn ≡ vec_capacity l.initial.torn;
}
