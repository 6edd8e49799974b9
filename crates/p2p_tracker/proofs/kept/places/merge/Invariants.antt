use Rattle.std.proofs.Common.{◌≡◌, ◌++◌, drop, vec_capacity}
use Rattle.p2p_tracker.proofs.SetsAndRecords.Merged.{merged}
use Rattle.p2p_tracker.proofs.kept.places.merge.Given as goal

-- with what is still to be merged there is all
abbrev pub invariant-loop-at : goal.invariant-loop-at
invariant-loop-at g l = record {
  merged : l.merged.items ++ merged g.C.Ord.cmp l.set l.at (drop l.from l.latest) (drop l.at l.keys)
      ≡ merged g.C.Ord.cmp l.set 0 l.latest l.keys;
  capacity : vec_capacity l.merged ≡ vec_capacity l.initial.merged;
}
