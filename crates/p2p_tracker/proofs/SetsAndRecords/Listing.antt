-- The keys of the entries that pass a test, in order: they list the keys whose entry passes.
use Rattle.std.proofs.Common.{◌≡◌, ℕ, ◌≤◌, ◌⊎◌, min, Bool, true, false, ◌||◌, cond, List, [], ◌∷◌, ◌++◌, filter, Option}
use Rattle.std.proofs.Common.{Some, None, refl, sym, ◌∙◌, ap, subst, arith, append_assoc}
use Rattle.std.specs.Prelude.{if◌then◌else◌, nat_lt}
use mathlib.Core.Logic.{inl, inr}
use Rattle.std.proofs.lemmas.Bool.{ltb-true, ltb-false}
use Rattle.std.specs.declared.cmp.Ordering.{Ordering}
use Rattle.std.specs.declared.cmp.Ordering.TheVariants.{Less}
use Rattle.std.specs.BTreeMap.{is_at}
use Rattle.std.specs.Cmp.{IsTotalOrder, eq_by_cmp_equiv}
use Rattle.std.specs.List.{AllByRecursion, list_any}
use Rattle.std.specs.List.Sorted.{IsStrictlySortedBy}
use Rattle.std.specs.Map.{lookup, keys_of}
use Rattle.std.specs.Option.{option_map_or, option_and_then}
use Rattle.std.specs.Ordering.{is_eq}
use Rattle.std.proofs.lemmas.Cmp.{tied_itself}
use Rattle.std.proofs.lemmas.Map.{lookup-none}
use Rattle.std.proofs.lemmas.Map.Entries.{none_past_head}
use Rattle.std.proofs.lemmas.Map.Keys.{sorted_tail, IsDistinct-from_sorted}
use Rattle.std.proofs.lemmas.Map.Lookups.{CmpEqualImpliesEq}
use Rattle.std.proofs.lemmas.Map.Views.{tells_apart}
use Rattle.p2p_discovery.specs.Ordered.{has_key}
use Rattle.p2p_tracker.specs.Lists.{Lists, IsLeastOf, Somebody}
use Rattle.p2p_tracker.specs.Private.Dialling.{earliest, least_by}

module _ {C X : Type 0} (test : C × X → Bool) where
  all_left : (P : C → Type 0) (es : List (C × X)) → AllByRecursion P (keys_of es) → AllByRecursion P (keys_of (filter test es))
  all_left P [] all = all
  all_left P (e ∷ es) all = go (test e) (all_left P es all.1)
    where
      go : (b : Bool) → AllByRecursion P (keys_of (filter test es)) → AllByRecursion P (keys_of (cond b (e ∷ filter test es) (filter test es)))
      go true rest = (all.0, rest)
      go false rest = rest

  module _ (cmp : C → C → Ordering) where
    -- those that are left are in order
    sorted_left : (es : List (C × X)) → IsStrictlySortedBy cmp (keys_of es) → IsStrictlySortedBy cmp (keys_of (filter test es))
    unfolding IsStrictlySortedBy
    sorted_left [] up = up
    sorted_left (e ∷ es) up = go (test e) (sorted_left es up.1)
      where
        go : (b : Bool) → IsStrictlySortedBy cmp (keys_of (filter test es)) → IsStrictlySortedBy cmp (keys_of (cond b (e ∷ filter test es) (filter test es)))
        go true rest = (all_left (λ y. cmp e.0 y ≡ Less) es up.0, rest)
        go false rest = rest

    -- whether the entry of a key passes
    abbrev passes : List (C × X) → C → Bool
    passes es q = option_map_or (λ x. test (q, x)) (lookup (is_at (cmp q)) es) false

    module _ (total : IsTotalOrder cmp) (alike : (q p : C) (x : X) → is_at (cmp q) p ≡ true → test (q, x) ≡ test (p, x)) where
      among_left : (es : List (C × X)) → IsStrictlySortedBy cmp (keys_of es) → (q : C) → has_key cmp (keys_of (filter test es)) q ≡ passes es q
      among_left [] up q = refl
      among_left (e ∷ es) up q = go (is_at (cmp q) e.0) refl (among_left es (sorted_tail cmp e.0 (keys_of es) up) q)
        where
          left : List (C × X)
          left = filter test es

          here : is_at (cmp e.0) q ≡ is_at (cmp q) e.0
          here = (eq_by_cmp_equiv total).symm e.0 q

          kept : (t : Bool) → is_at (cmp q) e.0 ≡ true → has_key cmp (keys_of left) q ≡ passes es q → has_key cmp (keys_of (cond t (e ∷ left) left)) q ≡ t
          kept true same later = ap (λ b. b || has_key cmp (keys_of left) q) (here ∙ same)
          kept false same later =
              later
              ∙ ap (λ o. option_map_or (λ x. test (q, x)) o false)
              (lookup-none (is_at (cmp q)) es (none_past_head (eq_by_cmp_equiv total) q e es (IsDistinct-from_sorted cmp (keys_of (e ∷ es)) up) same))

          skipped : (t : Bool) → is_at (cmp q) e.0 ≡ false → has_key cmp (keys_of (cond t (e ∷ left) left)) q ≡ has_key cmp (keys_of left) q
          skipped true other = ap (λ b. b || has_key cmp (keys_of left) q) (here ∙ other)
          skipped false other = refl

          go : (b : Bool) → is_at (cmp q) e.0 ≡ b → has_key cmp (keys_of left) q ≡ passes es q →
              has_key cmp (keys_of (cond (test e) (e ∷ left) left)) q ≡ option_map_or (λ x. test (q, x)) (cond b (Some e.1) (lookup (is_at (cmp q)) es)) false
          go true same later = kept (test e) same later ∙ sym (alike q e.0 e.1 same)
          go false other later = skipped (test e) other ∙ later

      -- where the test says alike of keys that compare as equal
      listed_alike : (es : List (C × X)) → IsStrictlySortedBy cmp (keys_of es) → Lists cmp (passes es) (keys_of (filter test es))
      listed_alike es up = record { sorted = sorted_left es up; members = among_left es up }

module _ {C X : Type 0} {cmp : C → C → Ordering} (total : IsTotalOrder cmp) where
  -- where such keys are one
  pub listed : CmpEqualImpliesEq cmp → (test : C × X → Bool) (es : List (C × X)) → IsStrictlySortedBy cmp (keys_of es) →
      Lists cmp (λ q. option_map_or (λ x. test (q, x)) (lookup (is_at (cmp q)) es) false) (keys_of (filter test es))
  listed exact test es up = listed_alike test cmp total (λ q p x same. ap (λ k. test (k, x)) (tells_apart exact q p same)) es up

  -- where the test looks at the value alone
  pub listed_by_value : (test : X → Bool) (es : List (C × X)) → IsStrictlySortedBy cmp (keys_of es) →
      Lists cmp (λ q. option_map_or test (lookup (is_at (cmp q)) es) false) (keys_of (filter (λ e. test e.1) es))
  listed_by_value test es up = listed_alike (λ e. test e.1) cmp total (λ q p x same. refl) es up

  -- where an entry passes, somebody has the property
  pub somebody_passes : CmpEqualImpliesEq cmp → (test : C × X → Bool) (es : List (C × X)) → IsStrictlySortedBy cmp (keys_of es) → list_any test es ≡ true →
      Somebody (λ q. option_map_or (λ x. test (q, x)) (lookup (is_at (cmp q)) es) false)
  somebody_passes exact test es up any =
      let some = some_left test es any in (
        some.0,
        first_listed (λ q. option_map_or (λ x. test (q, x)) (lookup (is_at (cmp q)) es) false) some.0 some.1
            (subst (Lists cmp _) some.2 (listed exact test es up)),
      )
    where
      first_listed : (f : C → Bool) (p : C) (ps : List C) → Lists cmp f (p ∷ ps) → f p ≡ true
      first_listed f p ps lists = sym (lists.members p) ∙ ap (λ o. is_eq o || has_key cmp ps p) (tied_itself total p)

      some_left : (test : C × X → Bool) (es : List (C × X)) → list_any test es ≡ true → (p : C) × (ps : List C) × (keys_of (filter test es) ≡ p ∷ ps)
      some_left test [] any = absurd (cc)
      some_left test (e ∷ es) any = go (test e) any (some_left test es)
        where
          go : (b : Bool) → (b || list_any test es) ≡ true → (list_any test es ≡ true → (p : C) × (ps : List C) × (keys_of (filter test es) ≡ p ∷ ps)) →
              (p : C) × (ps : List C) × (keys_of (cond b (e ∷ filter test es) (filter test es)) ≡ p ∷ ps)
          go true any later = (e.0, keys_of (filter test es), refl)
          go false any later = later any

-- LOOPS OVER ENTRIES: one more

-- those listed so far, with those that are left
pub listed_step : {C X : Type 0} (test : C × X → Bool) (so_far so_far2 all : List C) (e : C × X)
    (left left2 : List (C × X)) → left ≡ e ∷ left2 → so_far ++ keys_of (filter test left) ≡ all →
    so_far2 ≡ so_far ++ (if test e then e.0 ∷ [] else []) → so_far2 ++ keys_of (filter test left2) ≡ all
listed_step test so_far so_far2 all e left left2 is whole more =
    ap (λ ps. ps ++ keys_of (filter test left2)) more ∙ go (test e) ∙ ap (λ es. so_far ++ keys_of (filter test es)) (sym is) ∙ whole
  where
    go : (b : Bool) → (so_far ++ (if b then e.0 ∷ [] else [])) ++ keys_of (filter test left2) ≡ so_far
        ++ keys_of (cond b (e ∷ filter test left2) (filter test left2))
    go true = append_assoc so_far (e.0 ∷ []) (keys_of (filter test left2))
    go false = append_assoc so_far [] (keys_of (filter test left2))

-- who passes of those that are left is one of all
pub left_step : {A : Type 0} (test : A → Bool) (all : Bool) (e : A) (left left2 : List A) → left ≡ e ∷ left2 →
    (list_any test left ≡ true → all ≡ true) → list_any test left2 ≡ true → all ≡ true
left_step test all e left left2 is whole any = whole (ap (list_any test) is ∙ go (test e))
  where
    go : (b : Bool) → (b || list_any test left2) ≡ true
    go true = refl
    go false = any

-- LEAST MOMENTS

pub earliest_assoc : (a b c : Option ℕ) → earliest (earliest a b) c ≡ earliest a (earliest b c)
earliest_assoc (Some a) (Some b) (Some c) = ap Some (omega arith)
earliest_assoc _ _ _ = refl

-- the least moment so far, with that of those that are left
pub least_step : {A : Type 0} (moment : A → Option ℕ) (so_far so_far2 all : Option ℕ) (e : A)
    (left left2 : List A) → left ≡ e ∷ left2 → earliest so_far (least_by moment left) ≡ all →
    so_far2 ≡ earliest so_far (moment e) → earliest so_far2 (least_by moment left2) ≡ all
least_step moment so_far so_far2 all e left left2 is whole more =
    ap (λ o. earliest o (least_by moment left2)) more ∙ earliest_assoc so_far (moment e) (least_by moment left2)
    ∙ ap (λ es. earliest so_far (least_by moment es)) (sym is) ∙ whole

-- the least of the moments of the entries is that of their keys
module _ {C X : Type 0} {cmp : C → C → Ordering} (total : IsTotalOrder cmp) (exact : CmpEqualImpliesEq cmp) (moment : C × X → Option ℕ) where
  -- the moment of a key, by its entry
  abbrev moment_at : List (C × X) → C → Option ℕ
  moment_at es q = option_and_then (λ x. moment (q, x)) (lookup (is_at (cmp q)) es)

  pub least_of_entries : (es : List (C × X)) → IsStrictlySortedBy cmp (keys_of es) → IsLeastOf (moment_at es) (least_by moment es)
  least_of_entries [] up = λ p. refl
  least_of_entries (e ∷ es) up = go (moment e) refl (least_by moment es) (least_of_entries es (sorted_tail cmp e.0 (keys_of es) up))
    where
      -- the key of the first entry has its moment
      first : moment_at (e ∷ es) e.0 ≡ moment e
      first = ap (λ o. option_and_then (λ x. moment (e.0, x)) (cond (is_eq o) (Some e.1) (lookup (is_at (cmp e.0)) es))) (tied_itself total e.0)

      -- a key with a moment among the others has no entry before
      other : (p : C) (n : ℕ) → moment_at es p ≡ Some n → is_at (cmp p) e.0 ≡ true → ⊥
      other p n has same =
          absurd (let f =
          sym (ap (option_and_then (λ x. moment (p, x)))
          (lookup-none (is_at (cmp p)) es
          (none_past_head (eq_by_cmp_equiv total) p e es
          (IsDistinct-from_sorted cmp (keys_of (e ∷ es)) up) same))) ∙ has in cc)

      later : (p : C) (n : ℕ) → moment_at es p ≡ Some n → moment_at (e ∷ es) p ≡ Some n
      later p n has = go2 (is_at (cmp p) e.0) refl
        where
          go2 : (b : Bool) → is_at (cmp p) e.0 ≡ b → option_and_then (λ x. moment (p, x)) (cond b (Some e.1) (lookup (is_at (cmp p)) es)) ≡ Some n
          go2 true same = absurd (other p n has same)
          go2 false apart = has

      -- each key's moment is that of the first entry, or one among the others
      either : (P : Option ℕ → Type 0) (p : C) → P (moment e) → P (moment_at es p) → P (moment_at (e ∷ es) p)
      either P p here there = go2 (is_at (cmp p) e.0) refl
        where
          go2 : (b : Bool) → is_at (cmp p) e.0 ≡ b → P (option_and_then (λ x. moment (p, x)) (cond b (Some e.1) (lookup (is_at (cmp p)) es)))
          go2 true same = subst (λ k. P (moment (k, e.1))) (sym (tells_apart exact p e.0 same)) here
          go2 false apart = there

      go : (o : Option ℕ) → moment e ≡ o → (l : Option ℕ) → IsLeastOf (moment_at es) l → IsLeastOf (moment_at (e ∷ es)) (earliest o l)
      go None is None least = λ p. either (λ m. m ≡ None) p is (least p)
      go None is (Some l) least = (
        (least.0.0, later least.0.0 l least.0.1),
        λ p n. either (λ m. m ≡ Some n → l ≤ n) p (λ has. absurd (let f = sym is ∙ has in cc)) (least.1 p n),
      )
      go (Some m) is None least = (
        (e.0, first ∙ is),
        λ p n. either (λ o. o ≡ Some n → m ≤ n) p (λ has. let f : m ≡ n = (let f = sym is ∙ has in cc) in
            omega (arith, f)) (λ has. absurd (let f = sym (least p) ∙ has in cc)),
      )
      go (Some m) is (Some l) least = (
        pick (le_total m l),
        λ p n. either (λ o. o ≡ Some n → min m l ≤ n) p (λ has. let f : m ≡ n = (let f = sym is ∙ has in cc) in
            omega (arith, f)) (λ has. omega (arith, least.1 p n has)),
      )
        where
          le_total : (a b : ℕ) → (min a b ≡ a) ⊎ (min a b ≡ b)
          le_total a b = half (nat_lt a b) refl
            where
              half : (t : Bool) → nat_lt a b ≡ t → (min a b ≡ a) ⊎ (min a b ≡ b)
              half true e = inl (omega (arith, ltb-true a b e))
              half false e = inr (omega (arith, ltb-false a b e))

          pick : (min m l ≡ m) ⊎ (min m l ≡ l) → (p : C) × (moment_at (e ∷ es) p ≡ Some (min m l))
          pick (inl f) = (e.0, first ∙ is ∙ ap Some (sym f))
          pick (inr f) = (least.0.0, later least.0.0 l least.0.1 ∙ ap Some (sym f))
