use Rattle.std.proofs.Common.{◌++◌, ◌+◌, ◌∷◌, [], ◌||◌, take, drop, map, refl, sym, ◌∙◌, ap, subst, arith}
use Rattle.std.specs.Prelude.{unwrap_or}
use Rattle.std.specs.BTreeMap.{is_at}
use Rattle.std.specs.List.Sorted.{IsStrictlySortedBy}
use Rattle.std.specs.Ordering.{is_eq}
use Rattle.std.proofs.lemmas.Cmp.{tied_itself}
use Rattle.std.proofs.lemmas.List.{map_more, map-append}
use Rattle.std.proofs.lemmas.Map.Keys.{sorted_head}
use Rattle.std.proofs.lemmas.Bool.{or_right}
use Rattle.p2p_discovery.specs.Ordered.{has_key}
use Rattle.p2p_tracker.specs.declared.kept.places.Place.{Place}
use Rattle.p2p_tracker.specs.Private.Places.{place_of, link_of}
use Rattle.p2p_tracker.proofs.SetsAndRecords.Merged.{linked, place_behind, above_all}
use Rattle.p2p_tracker.proofs.SetsAndRecords.Naming.{first_left, sorted_drop}
use Rattle.p2p_tracker.proofs.kept.places.links_of.Goals as goal

pub loop-at-preserved : goal.loop-at-preserved
loop-at-preserved g c =
    let cmp = g.C.Ord.cmp in
    let total = g.met.C.Ord.total in
    let exact = g.met.C.PublicKey.exact in
    let keys = c.args.keys.now in
    let at = c.loop-at.at in
    let key = c.index-keys-at.result in
    let es = drop c.loop-at.from c.args.latest.now in
    let f = place_of cmp c.args.latest.now in
    let link = link_of c.args.set in
    let rest = drop (at + 1) keys in
    let here = first_left keys at key c.loop-at-test.true c.index-keys-at.is in
    let later = sorted_head cmp key rest (subst (IsStrictlySortedBy cmp) here (sorted_drop cmp at keys c.requires.keys)) in
    let has = ap (λ ks. has_key cmp ks key) here ∙ ap (λ o. is_eq o || has_key cmp rest key) (tied_itself total key) in
    let own : Place = record { set = c.args.set; at = at } in
    let known = linked c.args.set own (f key) refl (c.requires.below key) in
    record {
      older = ap (map link) c.push_reserved.ensures.items
          ∙ map-append link c.loop-at.older.items (c.unwrap_or.result ∷ [])
          ∙ ap (λ l. l ++ link c.unwrap_or.result ∷ []) c.loop-at.invariant.older
          ∙ ap (λ w. map f (take at keys) ++ link w ∷ []) c.unwrap_or.ensures
          ∙ ap (λ p. map f (take at keys) ++ link (unwrap_or p own) ∷ [])
          (c.place_from-behind.ensures.met ∙ c.loop-at.invariant.left key has)
          ∙ ap (λ o. map f (take at keys) ++ o ∷ []) known
          ∙ ap (λ k. map f (take at keys) ++ f k ∷ []) c.index-keys-at.is
          ∙ sym (map_more f keys at key c.loop-at-test.true);
      left = λ q among.
          ap (λ l. place_of cmp l q) c.place_from-behind.ensures.rest
          ∙ place_behind total exact key q es (above_all exact key rest q later among)
          ∙ c.loop-at.invariant.left q (ap (λ ks. has_key cmp ks q) here ∙ or_right (is_at (cmp key) q) _ among);
      room = omega (arith, c.push_reserved.ensures.capacity, c.loop-at.invariant.room);
    }
