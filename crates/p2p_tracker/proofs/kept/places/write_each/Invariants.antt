use Rattle.std.proofs.Common.{◌≡◌, true, take, drop, cond}
use Rattle.std.specs.Map.{keys_of}
use Rattle.p2p_discovery.specs.Ordered.{has_key}
use Rattle.p2p_tracker.specs.Private.Places.{place_of, places_from, first_or}
use Rattle.p2p_tracker.proofs.kept.places.write_each.Given as goal

-- the keys so far have their place, and those that are left stand behind them
abbrev pub invariant-loop-at : goal.invariant-loop-at
invariant-loop-at g l = record {
  keys : keys_of l.latest ≡ keys_of l.initial.latest;
  places : (q : g.row.C.Denot) → place_of g.C.Ord.cmp l.latest q ≡ cond (has_key g.C.Ord.cmp (take l.at l.keys) q)
      (first_or (place_of g.C.Ord.cmp l.initial.latest q) (places_from g.C.Ord.cmp l.set 0 l.keys q))
      (place_of g.C.Ord.cmp l.initial.latest q);
  left : (q : g.row.C.Denot) → has_key g.C.Ord.cmp (drop l.at l.keys) q ≡ true →
      has_key g.C.Ord.cmp (drop l.from (keys_of l.latest)) q ≡ true;
}
