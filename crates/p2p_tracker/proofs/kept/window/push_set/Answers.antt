use Rattle.std.proofs.Common.{◌≡◌, List, [], ◌∷◌, ◌++◌, Option, map, ◌∙◌, ap, sym, subst}
use Rattle.std.specs.Prelude.{IfSome, ◌<◌}
use Rattle.std.specs.List.Sorted.{IsStrictlySortedBy}
use Rattle.std.specs.Map.{keys_of}
use Rattle.p2p_tracker.specs.declared.kept.places.Place.{Place}
use Rattle.p2p_tracker.specs.Private.Places.{place_of, places_from, first_or}
use Rattle.p2p_tracker.specs.Private.Window.{SetWithBits}
use Rattle.p2p_tracker.proofs.SetsAndRecords.Indexed.{indexed_pushed, all_below}
use Rattle.p2p_tracker.proofs.kept.window.push_set.Goals as goal

pub returns-in-Ok-clause-indexed : goal.returns-in-Ok-clause-indexed
returns-in-Ok-clause-indexed g c =
    let cmp = g.C.Ord.cmp in
    let set = c.args.set in
    let old = place_of cmp c.args.places.now in
    let peers : c.as_slice.result.now ≡ keys_of set.primary
    = c.as_slice.ensures.all ∙ c.ordered.ensures ∙ ap keys_of c.primary.ensures.bits in
    let up = subst (IsStrictlySortedBy cmp) (sym c.as_slice.ensures.all) c.as_slice.ensures.sorted in
    indexed_pushed cmp g.met.C.PublicKey.exact c.args.places.now c.add_each.new.self c.args.links.now.items _
    c.in-Ok.older c.args.sets.now.items _ set c.requires.indexed
    (subst (IsStrictlySortedBy cmp) peers up) c.requires.above
    (λ q. c.in-Ok.ensures.ok q ∙ (λ i. first_or (old q) (places_from cmp (c.index.ensures i) 0 (peers i) q)))
    (c.in-Ok.ensures.links ∙ ap (map old) peers)
    (c.push_back_reserved.ensures.items ∙ ap (λ (links : List (List (Option Place))). links ++ c.in-Ok.older ∷ [])
    c.try_reserve-2.ensures.items)
    (c.push_back_reserved-in-Ok.ensures.items ∙ ap (λ (sets : List (SetWithBits g.row.C.Denot)). sets ++ set ∷ [])
    c.try_reserve.ensures.items)

pub add_each-requires-clause-below : goal.add_each-requires-clause-below
add_each-requires-clause-below g c = λ q.
    subst (λ n. IfSome (place_of g.C.Ord.cmp c.args.places.now q) (λ p. p.set < n)) (sym c.index.ensures)
    (all_below g.C.Ord.cmp c.args.places.now c.args.links.now.items c.args.sets.now.items c.args.set
    c.requires.indexed c.requires.above q)
