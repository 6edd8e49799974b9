use Rattle.std.proofs.Common.{◌≡◌, ◌+◌, ◌&&◌, drop, cond, get_or, refl, sym, ◌∙◌, ap, subst}
use Rattle.std.specs.Prelude.{IsSome}
use Rattle.std.specs.BTreeMap.{is_at}
use Rattle.std.specs.Cmp.{eq_by_cmp_equiv}
use Rattle.std.specs.List.Sorted.{IsStrictlySortedBy}
use Rattle.std.specs.Map.{keys_of}
use Rattle.std.specs.Ordering.{is_lt}
use Rattle.std.proofs.lemmas.List.{take_all}
use Rattle.std.proofs.lemmas.Map.{lookup-set_value, keys-set_value}
use Rattle.std.proofs.lemmas.Map.Keys.{sorted_head}
use Rattle.std.proofs.lemmas.Map.Views.{tells_apart}
use Rattle.std.proofs.lemmas.Bool.{or_right}
use Rattle.p2p_discovery.specs.Ordered.{has_key}
use Rattle.p2p_tracker.specs.declared.kept.places.Place.{Place}
use Rattle.p2p_tracker.specs.Private.Places.{place_of, places_from, first_or}
use Rattle.p2p_tracker.proofs.SetsAndRecords.Merged.{above_all}
use Rattle.p2p_tracker.proofs.SetsAndRecords.Naming.{first_left, one_changed, sorted_drop, names-filter}
use Rattle.p2p_tracker.proofs.SetsAndRecords.Places.{one_added, all_added}
use Rattle.p2p_tracker.proofs.SetsAndRecords.Searches.{found_at, written_at}
use Rattle.p2p_tracker.proofs.kept.places.write_each.Goals as goal

pub loop-at-preserved : goal.loop-at-preserved
loop-at-preserved g c =
    let cmp = g.C.Ord.cmp in
    let total = g.met.C.Ord.total in
    let exact = g.met.C.PublicKey.exact in
    let keys = c.args.keys.now in
    let at = c.loop-at.at in
    let key = c.index-keys-at.result in
    let es = c.loop-at.latest in
    let found = c.find_from-found.result in
    let x = c.index-latest-found.result in
    let place : Place = record { set = c.args.set; at = at } in
    let rest = drop (at + 1) keys in
    let here = first_left keys at key c.loop-at-test.true c.index-keys-at.is in
    let later = sorted_head cmp key rest (subst (IsStrictlySortedBy cmp) here (sorted_drop cmp at keys c.requires.keys)) in
    let up = subst (IsStrictlySortedBy cmp) (sym c.loop-at.invariant.keys) c.requires.places in
    let is_key : (get_or es found x).0 ≡ key = c.find_from-found.ensures.found x in
    let written = written_at total es found key x place up c.find_from-found.ensures.bound is_key in
    let same = keys-set_value (is_at (cmp key)) es place in
    let has = subst IsSome (sym (found_at total es found key x up c.find_from-found.ensures.bound is_key)) refl in
    record {
      keys = ap keys_of written ∙ same ∙ c.loop-at.invariant.keys;
      places = λ q.
          one_changed total exact keys at key c.loop-at-test.true c.index-keys-at.is c.requires.keys
          (λ o. first_or o (places_from cmp c.args.set 0 keys q)) q _ (place_of cmp es q) (place_of cmp c.args.latest.now q)
          (ap (λ l. place_of cmp l q) written
          ∙ lookup-set_value (eq_by_cmp_equiv total) (is_at (cmp key))
          (λ a b e. ap (λ k. is_at (cmp k) b) (tells_apart exact key a e)) q place es has
          ∙ one_added cmp total exact c.args.set keys at key c.loop-at-test.true c.index-keys-at.is c.requires.keys q
          (place_of cmp es q))
          (c.loop-at.invariant.places q);
      left = λ q among.
          let less = above_all exact key rest q later among in
          ap (λ ks. has_key cmp (drop (found + 1) ks) q) (ap keys_of written ∙ same)
          ∙ ap (λ ks. has_key cmp ks q) c.find_from-found.ensures.rest
          ∙ names-filter exact (λ k. is_lt (cmp key k)) (drop c.loop-at.from (keys_of es)) q
          ∙ ap (λ o. is_lt o && has_key cmp (drop c.loop-at.from (keys_of es)) q) less
          ∙ c.loop-at.invariant.left q (ap (λ ks. has_key cmp ks q) here ∙ or_right (is_at (cmp key) q) _ among);
    }

pub returns-clause-places : goal.returns-clause-places
returns-clause-places g c = λ q.
    let cmp = g.C.Ord.cmp in
    let keys = c.args.keys.now in
    let old = place_of cmp c.args.latest.now q in
    c.loop-at.invariant.places q
    ∙ ap (λ ks. cond (has_key cmp ks q) (first_or old (places_from cmp c.args.set 0 keys q)) old)
    (take_all c.loop-at.at keys c.loop-at-test.false)
    ∙ all_added cmp c.args.set keys q old
