use Rattle.std.proofs.Common.{◌≡◌, drop}
use Rattle.p2p_tracker.specs.Private.Places.{place_of, behind_key}
use Rattle.p2p_tracker.proofs.kept.places.place_from.Given as goal

-- those that were passed are before the key
abbrev pub invariant-loop-at : goal.invariant-loop-at
invariant-loop-at g l = record {
  rest : behind_key g.C.Ord.cmp l.key (drop l.at l.latest) ≡ behind_key g.C.Ord.cmp l.key (drop l.from l.latest);
  met : place_of g.C.Ord.cmp (drop l.at l.latest) l.key ≡ place_of g.C.Ord.cmp (drop l.from l.latest) l.key;
}
