use Rattle.std.proofs.Common.{◌≡◌, ◌≤◌, true, take, drop, map, length, vec_capacity}
use Rattle.p2p_discovery.specs.Ordered.{has_key}
use Rattle.p2p_tracker.specs.Private.Places.{place_of, link_of}
use Rattle.p2p_tracker.proofs.kept.places.links_of.Given as goal

-- the keys so far have their place before, and those that are left find theirs behind
abbrev pub invariant-loop-at : goal.invariant-loop-at
invariant-loop-at g l = record {
  older : map (link_of l.set) l.older.items ≡ map (place_of g.C.Ord.cmp l.latest) (take l.at l.keys);
  left : (q : g.row.C.Denot) → has_key g.C.Ord.cmp (drop l.at l.keys) q ≡ true →
      place_of g.C.Ord.cmp (drop l.from l.latest) q ≡ place_of g.C.Ord.cmp l.latest q;
  room : length l.keys ≤ vec_capacity l.older;
}
