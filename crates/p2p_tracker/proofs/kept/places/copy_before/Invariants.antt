use Rattle.std.proofs.Common.{◌≡◌, ◌++◌, drop, vec_capacity}
use Rattle.p2p_tracker.specs.Private.Places.{before_key, behind_key}
use Rattle.p2p_tracker.proofs.kept.places.copy_before.Given as goal

-- those that were passed are before the key, and are copied
abbrev pub invariant-loop-at : goal.invariant-loop-at
invariant-loop-at g l = record {
  copied : l.copied.items ++ before_key g.C.Ord.cmp l.key (drop l.at l.latest)
      ≡ l.initial.copied.items ++ before_key g.C.Ord.cmp l.key (drop l.from l.latest);
  rest : behind_key g.C.Ord.cmp l.key (drop l.at l.latest) ≡ behind_key g.C.Ord.cmp l.key (drop l.from l.latest);
  capacity : vec_capacity l.copied ≡ vec_capacity l.initial.copied;
}
