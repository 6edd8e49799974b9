-- Entries of a map that are walked in the order of their keys: the first that passes a test, and the least moment.
use Rattle.std.proofs.Common.{◌≡◌, ◌≤◌, ℕ, zero, suc, Bool, true, false, cond, List, [], ◌∷◌, Option, Some, None, find, slice_get, refl, sym, ◌∙◌, ap, subst, arith}
use Rattle.std.proofs.Common.{◌⊎◌, inl, inr, Less, Equal, Greater}
use Rattle.std.specs.Prelude.{IfSome, IfNone, option_map, unwrap_or, if◌then◌else◌}
use Rattle.std.proofs.lemmas.Bool.{cases_lt}
use Rattle.std.specs.declared.cmp.Ordering.{Ordering}
use Rattle.std.specs.BTreeMap.{is_at, insert_entry}
use Rattle.std.specs.Cmp.{IsTotalOrder, eq_by_cmp_equiv}
use Rattle.std.specs.List.{fold}
use Rattle.std.specs.List.Sorted.{IsStrictlySortedBy}
use Rattle.std.specs.Map.{keys_of, lookup, remove_entry}
use Rattle.std.specs.Ordering.{is_eq, match_ordering}
use Rattle.std.specs.Option.{IsSomeAnd}
use Rattle.std.proofs.lemmas.Map.Entries.{place_from_lookup, lookup_from_place}
use Rattle.std.proofs.lemmas.Map.Keys.{IsDistinct-from_sorted}
use Rattle.std.proofs.lemmas.Map.Lookups.{CmpEqualImpliesEq}
use Rattle.std.proofs.lemmas.Map.Views.{tells_apart}
use Rattle.p2p_driver.specs.Arrivals.{lesser_of}

-- THE FIRST that passes a test

-- where the first is found
pub found_at : {A : Type 0} (p : A → Bool) (xs : List A) (x : A) → find p xs ≡ Some x →
    (i : ℕ) × (slice_get xs i ≡ Some x) × (p x ≡ true)
found_at p [] x is = absurd cc
found_at {A} p (y ∷ ys) x is = go (p y) refl is (found_at p ys x)
  where
    later : ((i : ℕ) × (slice_get ys i ≡ Some x) × (p x ≡ true)) →
        (i : ℕ) × (slice_get (y ∷ ys) i ≡ Some x) × (p x ≡ true)
    later at = (suc at.0, at.1, at.2)

    go : (b : Bool) → p y ≡ b → cond b (Some y) (find p ys) ≡ Some x →
        (find p ys ≡ Some x → (i : ℕ) × (slice_get ys i ≡ Some x) × (p x ≡ true)) →
        (i : ℕ) × (slice_get (y ∷ ys) i ≡ Some x) × (p x ≡ true)
    go true e is rest = (zero, is, ap (λ o. p (unwrap_or o y)) (sym is) ∙ e)
    go false e is rest = later (rest is)

-- .. and where none is
pub none_at : {A : Type 0} (p : A → Bool) (xs : List A) → find p xs ≡ None → (i : ℕ) (x : A) →
    slice_get xs i ≡ Some x → p x ≡ false
none_at p [] is i x at = absurd cc
none_at {A} p (y ∷ ys) is i x at = go (p y) refl is (λ f j. none_at p ys f j x) i at
  where
    go : (b : Bool) → p y ≡ b → cond b (Some y) (find p ys) ≡ None →
        (find p ys ≡ None → (j : ℕ) → slice_get ys j ≡ Some x → p x ≡ false) →
        (i : ℕ) → slice_get (y ∷ ys) i ≡ Some x → p x ≡ false
    go true e is rest i at = absurd cc
    go false e is rest zero at = ap (λ o. p (unwrap_or o y)) (sym at) ∙ e
    go false e is rest (suc i) at = rest is i at

-- none is found, so none passes
pub none_of_them : {C V : Type 0} (P : C → V → Type 0) (test : C × V → Bool) (entries : List (C × V)) (r : Option C) → r ≡ option_map (λ e. e.0) (find test entries) →
    ((q : C) (v : V) → find test entries ≡ None → P q v) → IfNone r ((q : C) (v : V) → P q v)
none_of_them P test entries (Some q) is by = tt
none_of_them {C} {V} P test entries None is by = go (find test entries) refl is
  where
    go : (o : Option (C × V)) → find test entries ≡ o → None ≡ option_map (λ e. e.0) o → (q : C) (v : V) → P q v
    go (Some e) f is = absurd cc
    go None f is = λ q v. by q v f

module _ {C V : Type 0} {cmp : C → C → Ordering} (total : IsTotalOrder cmp) (entries : List (C × V))
    (sorted : IsStrictlySortedBy cmp (keys_of entries)) where
  pub placed : (i : ℕ) (e : C × V) → slice_get entries i ≡ Some e → lookup (is_at (cmp e.0)) entries ≡ Some e.1
  placed i e at = lookup_from_place (eq_by_cmp_equiv total) entries i e.0 e.1 (IsDistinct-from_sorted cmp (keys_of entries) sorted) at

  pub first_found : (test : C × V → Bool) (r : Option C) → r ≡ option_map (λ e. e.0) (find test entries) →
      IfSome r (λ q. IsSomeAnd (lookup (is_at (cmp q)) entries) (λ v. test (q, v) ≡ true))
  first_found test r is = go (find test entries) refl r is
    where
      by : (e : C × V) → find test entries ≡ Some e → IsSomeAnd (lookup (is_at (cmp e.0)) entries) (λ v. test (e.0, v) ≡ true)
      by e f = let at = found_at test entries e f in
          subst (λ o. IsSomeAnd o (λ v. test (e.0, v) ≡ true)) (sym (placed at.0 e at.1)) at.2

      go : (o : Option (C × V)) → find test entries ≡ o → (r : Option C) → r ≡ option_map (λ e. e.0) o →
          IfSome r (λ q. IsSomeAnd (lookup (is_at (cmp q)) entries) (λ v. test (q, v) ≡ true))
      go o f None is = tt
      go None f (Some q) is = absurd cc
      go (Some e) f (Some q) is = subst (λ x. IsSomeAnd (lookup (is_at (cmp x)) entries) (λ v. test (x, v) ≡ true))
          (ap (λ o. unwrap_or o q) (sym is)) (by e f)

  -- .. or none does
  pub none_found : CmpEqualImpliesEq cmp → (test : C × V → Bool) (r : Option C) → r ≡ option_map (λ e. e.0) (find test entries) →
      IfNone r ((q : C) (v : V) → lookup (is_at (cmp q)) entries ≡ Some v → test (q, v) ≡ false)
  none_found exact test r is = none_of_them (λ q v. lookup (is_at (cmp q)) entries ≡ Some v → test (q, v) ≡ false) test entries r is (λ q v f has. let at = place_from_lookup (is_at (cmp q)) entries v has in
      subst (λ k. test (k, v) ≡ false) (sym (tells_apart exact q at.1 at.3)) (none_at test entries f at.0 (at.1, v) at.2))

-- THE LEAST MOMENT of those that pass a test

lesser_within : (next : Option ℕ) (m : ℕ) → lesser_of next m ≤ m
lesser_within None m = omega arith
lesser_within (Some n) m = omega arith

lesser_below : (next : Option ℕ) (m n : ℕ) → next ≡ Some n → lesser_of next m ≤ n
lesser_below None m n e = absurd cc
lesser_below (Some k) m n e = omega (arith, ap (λ o. unwrap_or o 0) e)

lesser_one : (next : Option ℕ) (m : ℕ) →
    (lesser_of next m ≡ m) ⊎ (next ≡ Some (lesser_of next m))
lesser_one None m = inl refl
lesser_one (Some n) m = elim (cases_lt n m) [
  | inl less ↦ inr (ap Some (omega (arith, less)))
  | inr more ↦ inl (omega (arith, more))
]

module _ {A : Type 0} (test : A → Bool) (moment : A → ℕ) where
  abbrev pub sooner : Option ℕ → A → Option ℕ
  sooner next x = if test x then Some (lesser_of next (moment x)) else next

  -- one of them has the moment
  abbrev Has : List A → ℕ → Type 0
  Has xs least = (i : ℕ) × (x : A) × (slice_get xs i ≡ Some x) × (test x ≡ true) × (moment x ≡ least)

  abbrev pub IsLeast : List A → Option ℕ → Option ℕ → Type 0
  IsLeast xs next None = (next ≡ None) × ((i : ℕ) (x : A) → slice_get xs i ≡ Some x → test x ≡ false)
  IsLeast xs next (Some least) =
      ((i : ℕ) (x : A) → slice_get xs i ≡ Some x → test x ≡ true → least ≤ moment x)
      × ((m : ℕ) → next ≡ Some m → least ≤ m) × (Has xs least ⊎ (next ≡ Some least))

  step : (x : A) (xs : List A) (next r : Option ℕ) (b : Bool) → test x ≡ b →
      IsLeast xs (if b then Some (lesser_of next (moment x)) else next) r → IsLeast (x ∷ xs) next r
  step x xs next None true is least = absurd (let e = least.0 in cc)
  step x xs next None false is least = (least.0, each)
    where
      each : (i : ℕ) (y : A) → slice_get (x ∷ xs) i ≡ Some y → test y ≡ false
      each zero y at = ap (λ o. test (unwrap_or o x)) (sym at) ∙ is
      each (suc i) y at = least.1 i y at
  step x xs next (Some r) true is least = (each, low, one)
    where
      each : (i : ℕ) (y : A) → slice_get (x ∷ xs) i ≡ Some y → test y ≡ true → r ≤ moment y
      each zero y at timed = let f = ap (λ o. moment (unwrap_or o x)) at in
          omega (arith, f, least.1 (lesser_of next (moment x)) refl, lesser_within next (moment x))
      each (suc i) y at timed = least.0 i y at timed

      low : (m : ℕ) → next ≡ Some m → r ≤ m
      low m e = omega (arith, least.1 (lesser_of next (moment x)) refl, lesser_below next (moment x) m e)

      one : Has (x ∷ xs) r ⊎ (next ≡ Some r)
      one = elim least.2 [
        | inl has ↦ inl (suc has.0, has.1, has.2, has.3, has.4)
        | inr e ↦ elim (lesser_one next (moment x)) [
          | inl here ↦ inl (zero, x, refl, is, sym here ∙ ap (λ o. unwrap_or o 0) e)
          | inr there ↦ inr (there ∙ e)
        ]
      ]
  step x xs next (Some r) false is least = (each, least.1, one)
    where
      each : (i : ℕ) (y : A) → slice_get (x ∷ xs) i ≡ Some y → test y ≡ true → r ≤ moment y
      each zero y at timed = absurd (let f = sym (ap (λ o. test (unwrap_or o x)) at) ∙ is in let g = sym f ∙ timed in cc)
      each (suc i) y at timed = least.0 i y at timed

      one : Has (x ∷ xs) r ⊎ (next ≡ Some r)
      one = elim least.2 [ inl has ↦ inl (suc has.0, has.1, has.2, has.3, has.4) | inr e ↦ inr e ]

  pub least_of : (xs : List A) (next : Option ℕ) → IsLeast xs next (fold sooner next xs)
  least_of [] None = (refl, λ i x at. absurd cc)
  least_of [] (Some m) = (
    λ i x at timed. absurd cc,
    λ n is. omega (arith, ap (λ o. unwrap_or o 0) is),
    inr refl,
  )
  least_of (x ∷ xs) next = step x xs next (fold sooner (sooner next x) xs) (test x) refl (least_of xs (sooner next x))

-- an entry that is put and then removed leaves the others as they were
pub put_back : {K V : Type 0} {cmp : K → K → Ordering} → IsTotalOrder cmp → (v v1 v2 : List (K × V)) (key : K) (value : V) →
    lookup (is_at (cmp key)) v ≡ None → v1 ≡ insert_entry cmp v key value → v2 ≡ remove_entry (is_at (cmp key)) v1 → v2 ≡ v
put_back {K} {V} {cmp} total v v1 v2 key value none put removed = removed ∙ ap (remove_entry (is_at (cmp key))) put ∙ by v none
  where
    here : is_at (cmp key) key ≡ true
    here = (eq_by_cmp_equiv total).refl key

    by : (es : List (K × V)) → lookup (is_at (cmp key)) es ≡ None → remove_entry (is_at (cmp key)) (insert_entry cmp es key value) ≡ es
    by [] none = ap (λ b. cond b [] ((key, value) ∷ [])) here
    by (e ∷ es) none = go (cmp key e.0) refl (by es)
      where
        go : (o : Ordering) → cmp key e.0 ≡ o →
            (lookup (is_at (cmp key)) es ≡ None → remove_entry (is_at (cmp key)) (insert_entry cmp es key value) ≡ es) →
            remove_entry (is_at (cmp key)) (match_ordering o ((key, value) ∷ e ∷ es) ((e.0, value) ∷ es) (e ∷ insert_entry cmp es key value)) ≡ e ∷ es
        go Less is rest = ap (λ b. cond b (e ∷ es) ((key, value) ∷ remove_entry (is_at (cmp key)) (e ∷ es))) here
        go Equal is rest = absurd (let f = sym (ap (λ o. cond (is_eq o) (Some e.1) (lookup (is_at (cmp key)) es)) is) ∙ none in cc)
        go Greater is rest = ap (λ o. cond (is_eq o) (insert_entry cmp es key value) (e ∷ remove_entry (is_at (cmp key)) (insert_entry cmp es key value))) is
            ∙ ap (λ fs. e ∷ fs) (rest (sym (ap (λ o. cond (is_eq o) (Some e.1) (lookup (is_at (cmp key)) es)) is) ∙ none))
