use Rattle.std.proofs.Common.{◌≡◌, ◌++◌, drop, vec_capacity}
use Rattle.p2p_tracker.proofs.kept.places.copy_rest.Given as goal

-- with what is still to be copied there is all
abbrev pub invariant-loop-at : goal.invariant-loop-at
invariant-loop-at g l = record {
  copied : l.copied.items ++ drop l.at l.latest ≡ l.initial.copied.items ++ drop l.from l.latest;
  capacity : vec_capacity l.copied ≡ vec_capacity l.initial.copied;
}
