-- Keys with their latest places in order: what a walk along them reads, and what they are with the
-- places of more keys.
use Rattle.std.proofs.Common.{◌≡◌, ℕ, suc, ◌<◌, ◌≤◌, ◌+◌, ◌++◌, ◌||◌, Bool, true, false, cond, List, [], ◌∷◌, length}
use Rattle.std.proofs.Common.{map, drop, get_or, not, length-append, refl, sym, ◌∙◌, ap, subst, Option, Some, None, arith}
use mathlib.Core.Bool.{true≢false}
use Rattle.std.specs.Prelude.{is_some, unwrap_or, IfSome, ◌==◌}
use Rattle.std.specs.BTreeMap.{is_at}
use Rattle.std.specs.Cmp.{IsTotalOrder}
use Rattle.std.specs.List.{AllByRecursion, count_by, filter}
use Rattle.std.specs.List.Sorted.{IsStrictlySortedBy}
use Rattle.std.specs.Map.{keys_of, lookup}
use Rattle.std.specs.Ordering.{is_eq, is_lt, ordering_reverse}
use Rattle.std.specs.declared.cmp.Ordering.{Ordering}
use Rattle.std.specs.declared.cmp.Ordering.TheVariants.{Less, Equal, Greater}
use Rattle.std.proofs.lemmas.Bool.Decides.{nat_tests}
use Rattle.std.proofs.lemmas.List.{drop_more, drop-map}
use Rattle.std.proofs.lemmas.Map.Entries.{lookup_head, lookup_tail, lookup-filter-keys}
use Rattle.std.proofs.lemmas.Map.Keys.{sorted_head, sorted_tail}
use Rattle.std.proofs.lemmas.Map.Lookups.{CmpEqualImpliesEq}
use Rattle.std.proofs.lemmas.Map.Views.{tells_apart}
use Rattle.p2p_discovery.specs.Ordered.{has_key}
use Rattle.p2p_tracker.specs.declared.kept.places.Place.{Place}
use Rattle.p2p_tracker.specs.Private.Places.{place_of, places_from, first_or, link_of, before_key, behind_key}
use Rattle.p2p_tracker.proofs.SetsAndRecords.Counting.{one}
use Rattle.p2p_tracker.proofs.SetsAndRecords.Consistent.{count_cons}
use Rattle.p2p_tracker.proofs.SetsAndRecords.Naming.{sorted_drop, all_joined}
use Rattle.p2p_tracker.proofs.SetsAndRecords.Places.{no_place}
use Rattle.p2p_tracker.proofs.SetsAndRecords.Walked.{behind_equal, behind_greater, none_is_it, none_behind}

-- WHAT A WALK READS

module _ {C : Type 0} {cmp : C → C → Ordering} (total : IsTotalOrder cmp) (key : C) where
  -- where all are behind a key, none is before it, and none is it
  all_behind : (es : List (C × Place)) → AllByRecursion (λ y. cmp key y ≡ Less) (keys_of es) →
      behind_key cmp key es ≡ es
  all_behind [] h = refl
  all_behind (e ∷ es) h =
      ap (λ o. cond (is_lt o) (e ∷ behind_key cmp key es) (behind_key cmp key es)) h.0
      ∙ ap (λ rest. e ∷ rest) (all_behind es h.1)

  none_before : (es : List (C × Place)) → AllByRecursion (λ y. cmp key y ≡ Less) (keys_of es) →
      before_key cmp key es ≡ []
  none_before [] h = refl
  none_before (e ∷ es) h =
      ap (λ o. cond (is_lt o) (e ∷ before_key cmp key es) (before_key cmp key es))
      (total.antisymm e.0 key ∙ ap ordering_reverse h.0)
      ∙ none_before es h.1

  module _ (es : List (C × Place)) (i : ℕ) (e : C × Place) (low : i < length es) (is : e ≡ get_or es i e) where
    here : drop i es ≡ e ∷ drop (i + 1) es
    here = drop_more es i e low ∙ ap (λ x. x ∷ drop (i + 1) es) (sym is)

    -- one before the key is passed
    pub less_before : cmp e.0 key ≡ Less →
        before_key cmp key (drop i es) ≡ e ∷ before_key cmp key (drop (i + 1) es)
    less_before less = ap (before_key cmp key) here
        ∙ ap (λ o. cond (is_lt o) (e ∷ before_key cmp key (drop (i + 1) es)) (before_key cmp key (drop (i + 1) es))) less

    pub less_met : cmp e.0 key ≡ Less →
        place_of cmp (drop i es) key ≡ place_of cmp (drop (i + 1) es) key
    less_met less = ap (λ l. place_of cmp l key) here
        ∙ lookup_tail (is_at (cmp key)) e (drop (i + 1) es) (ap is_eq (total.antisymm key e.0 ∙ ap ordering_reverse less))

    module _ (up : IsStrictlySortedBy cmp (keys_of es)) where
      dropped : (j : ℕ) → IsStrictlySortedBy cmp (keys_of (drop j es))
      dropped j = subst (IsStrictlySortedBy cmp) (drop-map (λ (x : C × Place). x.0) j es) (sorted_drop cmp j (keys_of es) up)

      abbrev beyond : List (C × Place)
      beyond = drop (i + 1) es

      later : AllByRecursion (λ y. cmp e.0 y ≡ Less) (keys_of beyond)
      later = sorted_head cmp e.0 (keys_of beyond) (subst (λ l. IsStrictlySortedBy cmp (keys_of l)) here (dropped i))

      -- the key itself is met
      after_equal : cmp e.0 key ≡ Equal → AllByRecursion (λ y. cmp key y ≡ Less) (keys_of beyond)
      after_equal equal = behind_equal total key e.0 equal (keys_of beyond) later

      pub equal_before : cmp e.0 key ≡ Equal → before_key cmp key (drop i es) ≡ []
      equal_before equal = ap (before_key cmp key) here
          ∙ ap (λ o. cond (is_lt o) (e ∷ before_key cmp key beyond) (before_key cmp key beyond)) equal
          ∙ none_before beyond (after_equal equal)

      pub equal_behind : cmp e.0 key ≡ Equal → drop (i + 1) es ≡ behind_key cmp key (drop i es)
      equal_behind equal = sym (all_behind beyond (after_equal equal))
          ∙ ap (λ o. cond (is_lt o) (e ∷ behind_key cmp key beyond) (behind_key cmp key beyond))
          (sym (total.antisymm key e.0 ∙ ap ordering_reverse equal))
          ∙ ap (behind_key cmp key) (sym here)

      pub equal_met : cmp e.0 key ≡ Equal → Some e.1 ≡ place_of cmp (drop i es) key
      equal_met equal =
          sym (lookup_head (is_at (cmp key)) e beyond (ap is_eq (total.antisymm key e.0 ∙ ap ordering_reverse equal)))
          ∙ ap (λ l. place_of cmp l key) (sym here)

      -- one behind the key ends the walk
      from_here : cmp e.0 key ≡ Greater → AllByRecursion (λ y. cmp key y ≡ Less) (keys_of (drop i es))
      from_here greater =
          let less : cmp key e.0 ≡ Less = total.antisymm key e.0 ∙ ap ordering_reverse greater in
          subst (λ l. AllByRecursion (λ y. cmp key y ≡ Less) (keys_of l)) (sym here)
          (less, behind_greater total key e.0 less (keys_of beyond) later)

      pub greater_before : cmp e.0 key ≡ Greater → before_key cmp key (drop i es) ≡ []
      greater_before greater = none_before (drop i es) (from_here greater)

      pub greater_behind : cmp e.0 key ≡ Greater → drop i es ≡ behind_key cmp key (drop i es)
      greater_behind greater = sym (all_behind (drop i es) (from_here greater))

      pub greater_met : cmp e.0 key ≡ Greater → None ≡ place_of cmp (drop i es) key
      greater_met greater = sym (none_behind total key (drop i es) (dropped i) (from_here greater))

-- what is kept for a place before, or for none, in a set above it
pub linked : (index : ℕ) (own : Place) (o : Option Place) → own.set ≡ index → IfSome o (λ p. p.set < index) →
    link_of index (unwrap_or o own) ≡ o
linked index own None here below =
    let same : (own.set == index) ≡ true = grind (arith, nat_tests, here) in
    ap (λ b. cond b None (Some own)) same
linked index own (Some p) here below =
    let other : (p.set == index) ≡ false = grind (arith, nat_tests, below) in
    ap (λ b. cond b None (Some p)) other

module _ {C : Type 0} {cmp : C → C → Ordering} (total : IsTotalOrder cmp) (exact : CmpEqualImpliesEq cmp) where
  -- what is behind a key has the places that it had
  pub place_behind : (k q : C) (es : List (C × Place)) → cmp k q ≡ Less →
      place_of cmp (behind_key cmp k es) q ≡ place_of cmp es q
  place_behind k q es less = lookup-filter-keys (is_at (cmp q)) (λ x. is_lt (cmp k x)) true
      (λ x same. ap (λ y. is_lt (cmp k y)) (sym (tells_apart exact q x same)) ∙ ap is_lt less) es

-- WITH THE PLACES OF MORE KEYS

module _ {C : Type 0} (cmp : C → C → Ordering) where
  -- keys with their places, and more keys that stand at n, and so on, in the set with an index
  abbrev pub merged : ℕ → ℕ → List (C × Place) → List C → List (C × Place)
  merged set n es [] = es
  merged set n es (k ∷ ks) =
      before_key cmp k es ++ (k, record { set = set; at = n }) ∷ merged set (suc n) (behind_key cmp k es) ks

-- a look-up in two lists
skips : {K X : Type 0} (test : K → Bool) (xs ys : List (K × X)) → lookup test xs ≡ None →
    lookup test (xs ++ ys) ≡ lookup test ys
skips test [] ys none = refl
skips test (x ∷ xs) ys none = go (test x.0) refl (skips test xs ys)
  where
    differ : Some x.1 ≡ None → ⊥
    differ e = true≢false (ap is_some e)

    go : (b : Bool) → test x.0 ≡ b → (lookup test xs ≡ None → lookup test (xs ++ ys) ≡ lookup test ys) →
        lookup test ((x ∷ xs) ++ ys) ≡ lookup test ys
    go true passes same = absurd (differ (sym (lookup_head test x xs passes) ∙ none))
    go false fails same = lookup_tail test x (xs ++ ys) fails ∙ same (sym (lookup_tail test x xs fails) ∙ none)

stops : {K X : Type 0} (test : K → Bool) (xs ys : List (K × X)) → lookup test ys ≡ None →
    lookup test (xs ++ ys) ≡ lookup test xs
stops test [] ys none = none
stops test (x ∷ xs) ys none = go (test x.0) refl (stops test xs ys none)
  where
    go : (b : Bool) → test x.0 ≡ b → lookup test (xs ++ ys) ≡ lookup test xs →
        lookup test ((x ∷ xs) ++ ys) ≡ lookup test (x ∷ xs)
    go true passes same = lookup_head test x (xs ++ ys) passes ∙ sym (lookup_head test x xs passes)
    go false fails same = lookup_tail test x (xs ++ ys) fails ∙ same ∙ sym (lookup_tail test x xs fails)

module _ {C : Type 0} {cmp : C → C → Ordering} (total : IsTotalOrder cmp) (exact : CmpEqualImpliesEq cmp) where
  -- by a test of the keys, which answers b at q
  only_keys : (p : C → Bool) (b : Bool) (q : C) (es : List (C × Place)) → p q ≡ b →
      lookup (is_at (cmp q)) (filter (λ e. p e.0) es) ≡ cond b (place_of cmp es q) None
  only_keys p b q es is = lookup-filter-keys (is_at (cmp q)) p b
      (λ x same. ap p (sym (tells_apart exact q x same)) ∙ is) es

  module _ (set n : ℕ) (es : List (C × Place)) (k : C) (ks : List C) (up : IsStrictlySortedBy cmp (k ∷ ks)) (q : C) where
    abbrev p : Place
    p = record { set = set; at = n }

    abbrev more : List (C × Place)
    more = merged cmp set (suc n) (behind_key cmp k es) ks

    abbrev test : C → Bool
    test = is_at (cmp q)

    turned : (o : Ordering) → cmp q k ≡ o → is_at (cmp k) q ≡ is_eq (ordering_reverse o)
    turned o e = ap is_eq (total.antisymm k q ∙ ap ordering_reverse e)

    among : (b : Bool) → is_at (cmp k) q ≡ b →
        first_or (place_of cmp es q) (places_from cmp set n (k ∷ ks) q)
        ≡ first_or (place_of cmp es q) (cond b (p ∷ []) (places_from cmp set (suc n) ks q))
    among b e = ap (λ c. first_or (place_of cmp es q) (cond c (p ∷ []) (places_from cmp set (suc n) ks q))) e

    one_merged : (o : Ordering) → cmp q k ≡ o →
        place_of cmp more q ≡ first_or (place_of cmp (behind_key cmp k es) q) (places_from cmp set (suc n) ks q) →
        lookup test (before_key cmp k es ++ (k, p) ∷ more)
        ≡ first_or (place_of cmp es q) (places_from cmp set n (k ∷ ks) q)
    one_merged Less e seen =
        let none_more : places_from cmp set (suc n) ks q ≡ [] = no_place cmp set (suc n) ks q
        (none_is_it total q ks (behind_greater total q k e ks (sorted_head cmp k ks up))) in
        let gone : place_of cmp (behind_key cmp k es) q ≡ None
        = only_keys (λ x. is_lt (cmp k x)) false q es (ap is_lt (total.antisymm k q ∙ ap ordering_reverse e)) in
        let none : lookup test ((k, p) ∷ more) ≡ None = lookup_tail test (k, p) more (ap is_eq e) ∙ seen
        ∙ (λ i. first_or (gone i) (none_more i)) in
        stops test (before_key cmp k es) ((k, p) ∷ more) none
        ∙ only_keys (λ x. is_lt (cmp x k)) true q es (ap is_lt e)
        ∙ ap (first_or (place_of cmp es q)) (sym none_more)
        ∙ sym (among false (turned Less e))
    one_merged Equal e seen =
        skips test (before_key cmp k es) ((k, p) ∷ more) (only_keys (λ x. is_lt (cmp x k)) false q es (ap is_lt e))
        ∙ lookup_head test (k, p) more (ap is_eq e)
        ∙ sym (among true (turned Equal e))
    one_merged Greater e seen =
        skips test (before_key cmp k es) ((k, p) ∷ more) (only_keys (λ x. is_lt (cmp x k)) false q es (ap is_lt e))
        ∙ lookup_tail test (k, p) more (ap is_eq e)
        ∙ seen
        ∙ ap (λ o. first_or o (places_from cmp set (suc n) ks q))
        (only_keys (λ x. is_lt (cmp k x)) true q es (ap is_lt (total.antisymm k q ∙ ap ordering_reverse e)))
        ∙ sym (among false (turned Greater e))

  -- a key has its place among more keys, or else the one that it had
  pub merged_places : (set n : ℕ) (es : List (C × Place)) (ks : List C) → IsStrictlySortedBy cmp ks → (q : C) →
      place_of cmp (merged cmp set n es ks) q ≡ first_or (place_of cmp es q) (places_from cmp set n ks q)
  merged_places set n es [] up q = refl
  merged_places set n es (k ∷ ks) up q = one_merged set n es k ks up q (cmp q k) refl
      (merged_places set (suc n) (behind_key cmp k es) ks (sorted_tail cmp k ks up) q)

  -- THE KEYS STAY IN ORDER

  filtered_keys : (P : C → Type 0) (p : C × Place → Bool) (es : List (C × Place)) → AllByRecursion P (keys_of es) →
      AllByRecursion P (keys_of (filter p es))
  filtered_keys P p [] h = tt
  filtered_keys P p (e ∷ es) h = go (p e) (filtered_keys P p es h.1)
    where
      go : (b : Bool) → AllByRecursion P (keys_of (filter p es)) →
          AllByRecursion P (keys_of (cond b (e ∷ filter p es) (filter p es)))
      go true rest = (h.0, rest)
      go false rest = rest

  keys_joined : (xs ys : List (C × Place)) → keys_of (xs ++ ys) ≡ keys_of xs ++ keys_of ys
  keys_joined [] ys = refl
  keys_joined (x ∷ xs) ys = ap (λ ks. x.0 ∷ ks) (keys_joined xs ys)

  merged_keys : (P : C → Type 0) (set n : ℕ) (es : List (C × Place)) (ks : List C) → AllByRecursion P (keys_of es) →
      AllByRecursion P ks → AllByRecursion P (keys_of (merged cmp set n es ks))
  merged_keys P set n es [] h all = h
  merged_keys P set n es (k ∷ ks) h all =
      subst (AllByRecursion P) (sym (keys_joined (before_key cmp k es) _))
      (all_joined P (keys_of (before_key cmp k es)) _ (filtered_keys P (λ e. is_lt (cmp e.0 k)) es h)
      (all.0, merged_keys P set (suc n) (behind_key cmp k es) ks (filtered_keys P (λ e. is_lt (cmp k e.0)) es h) all.1))

  pub kept_sorted : (p : C × Place → Bool) (es : List (C × Place)) → IsStrictlySortedBy cmp (keys_of es) →
      IsStrictlySortedBy cmp (keys_of (filter p es))
  unfolding IsStrictlySortedBy
  kept_sorted p [] up = up
  kept_sorted p (e ∷ es) up = go (p e) (kept_sorted p es up.1)
    where
      go : (b : Bool) → IsStrictlySortedBy cmp (keys_of (filter p es)) →
          IsStrictlySortedBy cmp (keys_of (cond b (e ∷ filter p es) (filter p es)))
      go true rest = (filtered_keys (λ y. cmp e.0 y ≡ Less) p es up.0, rest)
      go false rest = rest

  are_before : (k : C) (es : List (C × Place)) → AllByRecursion (λ x. cmp x k ≡ Less) (keys_of (before_key cmp k es))
  are_before k [] = tt
  are_before k (e ∷ es) = go (cmp e.0 k) refl (are_before k es)
    where
      go : (o : Ordering) → cmp e.0 k ≡ o → AllByRecursion (λ x. cmp x k ≡ Less) (keys_of (before_key cmp k es)) →
          AllByRecursion (λ x. cmp x k ≡ Less) (keys_of (cond (is_lt o) (e ∷ before_key cmp k es) (before_key cmp k es)))
      go Less is rest = (is, rest)
      go Equal is rest = rest
      go Greater is rest = rest

  are_behind : (k : C) (es : List (C × Place)) → AllByRecursion (λ x. cmp k x ≡ Less) (keys_of (behind_key cmp k es))
  are_behind k [] = tt
  are_behind k (e ∷ es) = go (cmp k e.0) refl (are_behind k es)
    where
      go : (o : Ordering) → cmp k e.0 ≡ o → AllByRecursion (λ x. cmp k x ≡ Less) (keys_of (behind_key cmp k es)) →
          AllByRecursion (λ x. cmp k x ≡ Less) (keys_of (cond (is_lt o) (e ∷ behind_key cmp k es) (behind_key cmp k es)))
      go Less is rest = (is, rest)
      go Equal is rest = rest
      go Greater is rest = rest

  sorted_joined : (xs : List C) (k : C) (ys : List C) → IsStrictlySortedBy cmp xs → IsStrictlySortedBy cmp (k ∷ ys) →
      AllByRecursion (λ x. cmp x k ≡ Less) xs → IsStrictlySortedBy cmp (xs ++ k ∷ ys)
  unfolding IsStrictlySortedBy
  sorted_joined [] k ys up behind_up all = behind_up
  sorted_joined (x ∷ xs) k ys up behind_up all = (
    all_joined (λ y. cmp x y ≡ Less) xs (k ∷ ys) up.0 (all.0, behind_greater total x k all.0 ys behind_up.0),
    sorted_joined xs k ys up.1 behind_up all.1,
  )

  pub merged_sorted : (set n : ℕ) (es : List (C × Place)) (ks : List C) → IsStrictlySortedBy cmp (keys_of es) →
      IsStrictlySortedBy cmp ks → IsStrictlySortedBy cmp (keys_of (merged cmp set n es ks))
  unfolding IsStrictlySortedBy
  merged_sorted set n es [] up sorted = up
  merged_sorted set n es (k ∷ ks) up sorted =
      subst (IsStrictlySortedBy cmp) (sym (keys_joined (before_key cmp k es) _))
      (sorted_joined (keys_of (before_key cmp k es)) k _ (kept_sorted (λ e. is_lt (cmp e.0 k)) es up) (
        merged_keys (λ y. cmp k y ≡ Less) set (suc n) (behind_key cmp k es) ks (are_behind k es) sorted.0,
        merged_sorted set (suc n) (behind_key cmp k es) ks (kept_sorted (λ e. is_lt (cmp k e.0)) es up) sorted.1,
      )
      (are_before k es))

  -- HOW MANY THERE ARE

  is_new : List (C × Place) → C → Bool
  is_new es q = not (is_some (place_of cmp es q))

  same_count : (k : C) (ks : List C) (es : List (C × Place)) → AllByRecursion (λ y. cmp k y ≡ Less) ks →
      count_by (λ q. not (is_some (place_of cmp (behind_key cmp k es) q))) ks
      ≡ count_by (λ q. not (is_some (place_of cmp es q))) ks
  same_count k [] es all = refl
  same_count k (q ∷ ks) es all =
      count_cons (λ x. not (is_some (place_of cmp (behind_key cmp k es) x))) q ks
      ∙ (λ i. one (not (is_some (place_behind total exact k q es all.0 i))) + same_count k ks es all.1 i)
      ∙ sym (count_cons (λ x. not (is_some (place_of cmp es x))) q ks)

  parted : (k : C) (es : List (C × Place)) → IsStrictlySortedBy cmp (keys_of es) →
      length (before_key cmp k es) + length (behind_key cmp k es) + 1
      ≡ length es + one (not (is_some (place_of cmp es k)))
  parted k [] up = refl
  parted k (e ∷ es) up = go (cmp e.0 k) refl (parted k es (sorted_tail cmp e.0 (keys_of es) up))
    where
      go : (o : Ordering) → cmp e.0 k ≡ o →
          length (before_key cmp k es) + length (behind_key cmp k es) + 1
          ≡ length es + one (not (is_some (place_of cmp es k))) →
          length (before_key cmp k (e ∷ es)) + length (behind_key cmp k (e ∷ es)) + 1
          ≡ suc (length es) + one (not (is_some (place_of cmp (e ∷ es) k)))
      go Less is rest =
          let other : cmp k e.0 ≡ Greater = total.antisymm k e.0 ∙ ap ordering_reverse is in
          let front = ap (λ o. length (cond (is_lt o) (e ∷ before_key cmp k es) (before_key cmp k es))) is in
          let back = ap (λ o. length (cond (is_lt o) (e ∷ behind_key cmp k es) (behind_key cmp k es))) other in
          let met = ap (λ o. one (not (is_some o))) (lookup_tail (is_at (cmp k)) e es (ap is_eq other)) in
          omega (arith, front, back, met, rest)
      go Equal is rest =
          let equal : cmp k e.0 ≡ Equal = total.antisymm k e.0 ∙ ap ordering_reverse is in
          let all = behind_equal total k e.0 is (keys_of es) (sorted_head cmp e.0 (keys_of es) up) in
          let front = ap (λ o. length (cond (is_lt o) (e ∷ before_key cmp k es) (before_key cmp k es))) is
          ∙ ap length (none_before total k es all) in
          let back = ap (λ o. length (cond (is_lt o) (e ∷ behind_key cmp k es) (behind_key cmp k es))) equal
          ∙ ap length (all_behind total k es all) in
          let met = ap (λ o. one (not (is_some o))) (lookup_head (is_at (cmp k)) e es (ap is_eq equal)) in
          omega (arith, front, back, met)
      go Greater is rest =
          let less : cmp k e.0 ≡ Less = total.antisymm k e.0 ∙ ap ordering_reverse is in
          let all = behind_greater total k e.0 less (keys_of es) (sorted_head cmp e.0 (keys_of es) up) in
          let front = ap (λ o. length (cond (is_lt o) (e ∷ before_key cmp k es) (before_key cmp k es))) is
          ∙ ap length (none_before total k es all) in
          let back = ap (λ o. length (cond (is_lt o) (e ∷ behind_key cmp k es) (behind_key cmp k es))) less
          ∙ ap (λ l. suc (length l)) (all_behind total k es all) in
          let met = ap (λ o. one (not (is_some o))) (none_behind total k (e ∷ es) up (less, all)) in
          omega (arith, front, back, met)

  pub merged_length : (set n : ℕ) (es : List (C × Place)) (ks : List C) → IsStrictlySortedBy cmp (keys_of es) →
      IsStrictlySortedBy cmp ks →
      length (merged cmp set n es ks) ≡ length es + count_by (λ q. not (is_some (place_of cmp es q))) ks
  merged_length set n es [] up sorted = omega arith
  merged_length set n es (k ∷ ks) up sorted =
      let front = before_key cmp k es in
      let back = behind_key cmp k es in
      let later = merged_length set (suc n) back ks (kept_sorted (λ e. is_lt (cmp k e.0)) es up) (sorted_tail cmp k ks sorted) in
      omega (
        arith,
        length-append front ((k, record { set = set; at = n }) ∷ merged cmp set (suc n) back ks),
        later,
        parted k es up,
        same_count k ks es (sorted_head cmp k ks sorted),
        count_cons (λ q. not (is_some (place_of cmp es q))) k ks,
      )

-- with what is before a key, and the key, no more are written than there are to be
pub few_written : {C : Type 0} (cmp : C → C → Ordering) (set n : ℕ) (out whole es : List (C × Place)) (ks rest : List C)
    (k : C) → ks ≡ k ∷ rest → out ++ merged cmp set n es ks ≡ whole →
    length out + length (before_key cmp k es) + 1 ≤ length whole
few_written cmp set n out whole es ks rest k here all = omega (
  arith,
  ap length all,
  length-append out (merged cmp set n es ks),
  ap (λ l. length (merged cmp set n es l)) here,
  length-append (before_key cmp k es) ((k, record { set = set; at = n }) ∷ merged cmp set (suc n) (behind_key cmp k es) rest),
)

-- WHERE NO KEY IS NEW

module _ {C : Type 0} {cmp : C → C → Ordering} (exact : CmpEqualImpliesEq cmp) where
  known_here : (b : Bool) → one (not b) ≡ 0 → b ≡ true
  known_here true e = refl
  known_here false e = absurd (omega (arith, e))

  pub none_new : (f : C → Option Place) (ks : List C) (q : C) →
      count_by (λ place. not (is_some place)) (map f ks) ≡ 0 → has_key cmp ks q ≡ true → is_some (f q) ≡ true
  none_new f [] q none has = absurd (true≢false (sym has))
  none_new f (k ∷ ks) q none has =
      let counted = count_cons (λ (place : Option Place). not (is_some place)) (f k) (map f ks) in
      go (is_at (cmp k) q) refl has (known_here (is_some (f k)) (omega (arith, counted, none)))
      (none_new f ks q (omega (arith, counted, none)))
    where
      go : (b : Bool) → is_at (cmp k) q ≡ b → (b || has_key cmp ks q) ≡ true → is_some (f k) ≡ true →
          (has_key cmp ks q ≡ true → is_some (f q) ≡ true) → is_some (f q) ≡ true
      go true same has here rest = ap (λ x. is_some (f x)) (sym (tells_apart exact k q same)) ∙ here
      go false same has here rest = rest has

  pub above_all : (key : C) (ks : List C) (q : C) → AllByRecursion (λ y. cmp key y ≡ Less) ks → has_key cmp ks q ≡ true →
      cmp key q ≡ Less
  above_all key [] q all has = absurd (true≢false (sym has))
  above_all key (k ∷ ks) q all has = go (is_at (cmp k) q) refl has (above_all key ks q all.1)
    where
      go : (b : Bool) → is_at (cmp k) q ≡ b → (b || has_key cmp ks q) ≡ true →
          (has_key cmp ks q ≡ true → cmp key q ≡ Less) → cmp key q ≡ Less
      go true same has rest = ap (cmp key) (sym (tells_apart exact k q same)) ∙ all.0
      go false same has rest = rest has
