use Rattle.std.proofs.Common.{◌≡◌, ◌++◌, ◌+◌, ◌∷◌, [], suc, drop, length, length-append, append_assoc, sym, ◌∙◌, ap, subst, arith}
use Rattle.std.specs.List.Sorted.{IsStrictlySortedBy}
use Rattle.std.specs.Map.{keys_of}
use Rattle.std.proofs.lemmas.List.{drop_all}
use Rattle.p2p_tracker.specs.declared.kept.places.Place.{Place}
use Rattle.p2p_tracker.specs.Private.Places.{place_of, before_key}
use Rattle.p2p_tracker.proofs.SetsAndRecords.Merged.{merged, merged_places, merged_sorted, merged_length, few_written}
use Rattle.p2p_tracker.proofs.SetsAndRecords.Naming.{first_left}
use Rattle.p2p_tracker.proofs.kept.places.merge.Goals as goal

pub copy_before-from-requires-clause-room : goal.copy_before-from-requires-clause-room
copy_before-from-requires-clause-room g c =
    let keys = c.args.keys.now in
    omega (
      arith,
      few_written g.C.Ord.cmp c.args.set c.loop-at.at c.loop-at.merged.items _ (drop c.loop-at.from c.args.latest.now)
          (drop c.loop-at.at keys) _ c.index-keys-at.result
          (first_left keys c.loop-at.at c.index-keys-at.result c.loop-at-test.true c.index-keys-at.is) c.loop-at.invariant.merged,
      merged_length g.met.C.Ord.total g.met.C.PublicKey.exact c.args.set 0 c.args.latest.now keys c.requires.places
          c.requires.keys,
      c.requires.room,
      c.loop-at.invariant.capacity,
    )

pub push_reserved-requires : goal.push_reserved-requires
push_reserved-requires g c =
    let keys = c.args.keys.now in
    let es = drop c.loop-at.from c.args.latest.now in
    omega (
      arith,
      few_written g.C.Ord.cmp c.args.set c.loop-at.at c.loop-at.merged.items _ es (drop c.loop-at.at keys) _
          c.index-keys-at.result
          (first_left keys c.loop-at.at c.index-keys-at.result c.loop-at-test.true c.index-keys-at.is) c.loop-at.invariant.merged,
      merged_length g.met.C.Ord.total g.met.C.PublicKey.exact c.args.set 0 c.args.latest.now keys c.requires.places
          c.requires.keys,
      c.requires.room,
      c.loop-at.invariant.capacity,
      ap length c.copy_before-from.ensures.copied,
      length-append c.loop-at.merged.items (before_key g.C.Ord.cmp c.index-keys-at.result es),
      c.copy_before-from.ensures.capacity,
      c.copy_before-from.new.copied.ok.0,
    )

pub loop-at-preserved : goal.loop-at-preserved
loop-at-preserved g c =
    let cmp = g.C.Ord.cmp in
    let set = c.args.set in
    let keys = c.args.keys.now in
    let at = c.loop-at.at in
    let key = c.index-keys-at.result in
    let es = drop c.loop-at.from c.args.latest.now in
    let place : Place = record { set = set; at = at } in
    let here = first_left keys at key c.loop-at-test.true c.index-keys-at.is in
    let rest = merged cmp set (at + 1) (drop c.copy_before-from.result c.args.latest.now) (drop (at + 1) keys) in
    let next : at + 1 ≡ suc at = omega arith in
    record {
      merged = ap (λ l. l ++ rest) c.push_reserved.ensures.items
          ∙ append_assoc c.copy_before-from.new.copied.items ((key, place) ∷ []) rest
          ∙ ap (λ l. l ++ (key, place) ∷ rest) c.copy_before-from.ensures.copied
          ∙ append_assoc c.loop-at.merged.items (before_key cmp key es) ((key, place) ∷ rest)
          ∙ (λ j. c.loop-at.merged.items ++ (before_key cmp key es ++ (key, place)
          ∷ merged cmp set (next j) (c.copy_before-from.ensures.rest j) (drop (at + 1) keys)))
          ∙ ap (λ ks. c.loop-at.merged.items ++ merged cmp set at es ks) (sym here)
          ∙ c.loop-at.invariant.merged;
      capacity = c.push_reserved.ensures.capacity ∙ c.copy_before-from.ensures.capacity ∙ c.loop-at.invariant.capacity;
    }

pub copy_rest-requires : goal.copy_rest-requires
copy_rest-requires g c =
    let cmp = g.C.Ord.cmp in
    let keys = c.args.keys.now in
    let es = drop c.loop-at.from c.args.latest.now in
    omega (
      arith,
      ap length c.loop-at.invariant.merged,
      length-append c.loop-at.merged.items (merged cmp c.args.set c.loop-at.at es (drop c.loop-at.at keys)),
      ap (λ ks. length (merged cmp c.args.set c.loop-at.at es ks)) (drop_all c.loop-at.at keys (omega (arith, c.loop-at-test.false))),
      merged_length g.met.C.Ord.total g.met.C.PublicKey.exact c.args.set 0 c.args.latest.now keys c.requires.places
          c.requires.keys,
      c.requires.room,
      c.loop-at.invariant.capacity,
    )

pub returns-clause-sorted : goal.returns-clause-sorted
returns-clause-sorted g c =
    let cmp = g.C.Ord.cmp in
    let keys = c.args.keys.now in
    let es = drop c.loop-at.from c.args.latest.now in
    let all = c.copy_rest.ensures ∙ ap (λ ks. c.loop-at.merged.items ++ merged cmp c.args.set c.loop-at.at es ks)
    (sym (drop_all c.loop-at.at keys (omega (arith, c.loop-at-test.false)))) ∙ c.loop-at.invariant.merged in
    subst (λ l. IsStrictlySortedBy cmp (keys_of l)) (sym all)
    (merged_sorted g.met.C.Ord.total g.met.C.PublicKey.exact c.args.set 0 c.args.latest.now keys c.requires.places c.requires.keys)

pub returns-clause-places : goal.returns-clause-places
returns-clause-places g c = λ q.
    let cmp = g.C.Ord.cmp in
    let keys = c.args.keys.now in
    let es = drop c.loop-at.from c.args.latest.now in
    let all = c.copy_rest.ensures ∙ ap (λ ks. c.loop-at.merged.items ++ merged cmp c.args.set c.loop-at.at es ks)
    (sym (drop_all c.loop-at.at keys (omega (arith, c.loop-at-test.false)))) ∙ c.loop-at.invariant.merged in
    ap (λ l. place_of cmp l q) all
    ∙ merged_places g.met.C.Ord.total g.met.C.PublicKey.exact c.args.set 0 c.args.latest.now keys c.requires.keys q
