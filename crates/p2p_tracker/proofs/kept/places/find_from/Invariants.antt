use Rattle.std.proofs.Common.{◌≡◌, drop}
use Rattle.std.specs.Map.{keys_of}
use Rattle.p2p_discovery.specs.Ordered.{has_key}
use Rattle.p2p_tracker.specs.Private.Walked.{above}
use Rattle.p2p_tracker.proofs.kept.places.find_from.Given as goal

-- those that were passed are before the key
abbrev pub invariant-loop-at : goal.invariant-loop-at
invariant-loop-at g l = record {
  rest : above g.C.Ord.cmp l.key (drop l.at (keys_of l.latest)) ≡ above g.C.Ord.cmp l.key (drop l.from (keys_of l.latest));
  met : has_key g.C.Ord.cmp (drop l.at (keys_of l.latest)) l.key ≡ has_key g.C.Ord.cmp (drop l.from (keys_of l.latest)) l.key;
}
