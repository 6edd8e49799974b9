use Rattle.std.proofs.Common.{◌≡◌, ◌≤◌, ◌++◌, length}
use Rattle.std.specs.List.Sorted.{IsStrictlySortedBy}
use Rattle.std.specs.Map.{keys_of}
use Rattle.p2p_tracker.specs.Directory.{shared_at, shared_of}
use Rattle.p2p_tracker.proofs.SetsAndRecords.Shared.{chosen_from}
use Rattle.p2p_tracker.proofs.directory.infos.copy_walked.Given as goal

-- with those of the records that are left, from here on, all are listed
abbrev pub invariant-loop-key : goal.invariant-loop-key
invariant-loop-key g l = record {
  within : l.place ≤ length l.keys;
  ordered : IsStrictlySortedBy g.C.Ord.cmp (keys_of l.key-iterator);
  grown : length l.initial.infos.items ≤ length l.infos.items;
  listed : l.infos.items ++ chosen_from (shared_at g.C.Ord.cmp l.key-iterator l.millis) l.place l.keys l.bits
      ≡ l.initial.infos.items ++ shared_of g.C.Ord.cmp l.records l.millis l.peers l.bits;
}
