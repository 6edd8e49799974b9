-- Keys named one after another by a list without repeats.
use Rattle.std.proofs.Common.{◌≡◌, ℕ, ◌+◌, ◌<◌, Bool, true, false, cond, ◌||◌, ◌&&◌, suc, List, [], ◌∷◌, ◌++◌}
use Rattle.std.proofs.Common.{take, drop, length, get_or, sym, ap, refl, ◌∙◌, subst, arith}
use mathlib.Core.Bool.{true≢false}
use Rattle.std.specs.declared.cmp.Ordering.{Ordering}
use Rattle.std.specs.declared.cmp.Ordering.TheVariants.{Less}
use Rattle.std.specs.BTreeMap.{is_at}
use Rattle.std.specs.Cmp.{IsTotalOrder}
use Rattle.std.specs.List.Sorted.{IsStrictlySortedBy}
use Rattle.std.specs.List.{filter, AllByRecursion, IsDistinct}
use Rattle.std.specs.Ordering.{is_eq, eq_by_cmp}
use Rattle.std.proofs.lemmas.Cmp.{tied_itself, eq_by_cmp_equiv}
use Rattle.std.proofs.lemmas.List.{length-take, get_or-take, get_or_default, take-append-drop, drop_more}
use Rattle.std.proofs.lemmas.List.Folds.{list_any_none, list_any_more, list_any-append}
use Rattle.std.proofs.lemmas.Map.Keys.{Less-from_sorted}
use Rattle.std.proofs.lemmas.Map.Lookups.{CmpEqualImpliesEq}
use Rattle.std.proofs.lemmas.Map.Views.{tells_apart, any-filter_same}
use Rattle.std.proofs.lemmas.Bool.{or_right, or_parts}
use Rattle.p2p_discovery.specs.Ordered.{has_key}

step : {X : Type 0} (a b : Bool) → (b ≡ true → a ≡ false) → (f : X → X) (new now old : X) →
    new ≡ cond b (f now) now → now ≡ cond a (f old) old → new ≡ cond (a || b) (f old) old
step true true h f new now old d e = absurd (true≢false (h refl))
step true false h f new now old d e = d ∙ e
step false true h f new now old d e = d ∙ ap f e
step false false h f new now old d e = d ∙ e

module _ {C : Type 0} {cmp : C → C → Ordering} (o : IsTotalOrder cmp) (exact : CmpEqualImpliesEq cmp)
    (keys : List C) (i : ℕ) (key : C) (low : i < length keys) (is : key ≡ get_or keys i key) where
  module _ (up : IsStrictlySortedBy cmp keys) where
    -- and none before it
    pub not_yet : has_key cmp (take i keys) key ≡ false
    not_yet = list_any_none (λ k. is_at (cmp k) key) (take i keys) (λ j d below.
        let before : j < i = omega (arith, below, length-take i keys) in
        let here : get_or keys i d ≡ key = get_or_default keys i d key low ∙ sym is in
        let less : cmp (get_or keys j d) key ≡ Less = subst (λ k. cmp (get_or keys j d) k ≡ Less) here (Less-from_sorted cmp keys j i d up before low) in
        rw (get_or-take i keys j d before) (ap is_eq less))

    -- a change made for the keys before it, and then for it
    pub one_changed : {X : Type 0} (f : X → X) (q : C) (new now old : X) →
        new ≡ cond (is_at (cmp key) q) (f now) now → now ≡ cond (has_key cmp (take i keys) q) (f old) old →
        new ≡ cond (has_key cmp (take (i + 1) keys) q) (f old) old
    one_changed {X} f q new now old d e =
        let test : C → Bool = λ k. is_at (cmp k) q in
        let more = list_any_more test keys i key low ∙ ap (λ k. has_key cmp (take i keys) q || test k) (sym is) in
        rw more (step (has_key cmp (take i keys) q) (test key)
        (λ same. subst (λ k. has_key cmp (take i keys) k ≡ false) (tells_apart exact key q same) not_yet) f new
        now old d e)

-- those of some keys that pass a test
pub names-filter : {C : Type 0} {cmp : C → C → Ordering} → CmpEqualImpliesEq cmp →
    (test : C → Bool) (keys : List C) (q : C) → has_key cmp (filter test keys) q ≡ (test q && has_key cmp keys q)
names-filter {cmp = cmp} exact test keys q = any-filter_same (λ k. is_at (cmp k) q) test (test q) (λ k e. ap test (tells_apart exact k q e)) keys

all_take : {A : Type 0} (P : A → Type 0) (i : ℕ) (xs : List A) → AllByRecursion P xs → AllByRecursion P (take i xs)
all_take P (suc i) (x ∷ xs) h = (h.0, all_take P i xs h.1)
all_take P _ _ h = tt

-- the first of sorted keys are sorted
pub sorted_take : {C : Type 0} (cmp : C → C → Ordering) (i : ℕ) (keys : List C) → IsStrictlySortedBy cmp keys → IsStrictlySortedBy cmp (take i keys)
unfolding IsStrictlySortedBy
sorted_take cmp (suc i) (x ∷ keys) up = (all_take (λ y. cmp x y ≡ Less) i keys up.0, sorted_take cmp i keys up.1)
sorted_take cmp _ _ up = tt

-- .. and so are the others
pub sorted_drop : {C : Type 0} (cmp : C → C → Ordering) (i : ℕ) (keys : List C) → IsStrictlySortedBy cmp keys → IsStrictlySortedBy cmp (drop i keys)
unfolding IsStrictlySortedBy
sorted_drop cmp (suc i) (x ∷ keys) up = sorted_drop cmp i keys up.1
sorted_drop cmp _ _ up = up

-- the first of those that are left
pub first_left : {A : Type 0} (xs : List A) (i : ℕ) (x : A) → i < length xs → x ≡ get_or xs i x →
    drop i xs ≡ x ∷ drop (i + 1) xs
first_left xs i x low is = drop_more xs i x low ∙ ap (λ y. y ∷ drop (i + 1) xs) (sym is)

-- what is true of each of two lists is true of both
pub all_joined : {A : Type 0} (P : A → Type 0) (xs ys : List A) → AllByRecursion P xs → AllByRecursion P ys → AllByRecursion P (xs ++ ys)
all_joined P [] ys h k = k
all_joined P (x ∷ xs) ys h k = (h.0, all_joined P xs ys h.1 k)

-- none of these keys is x
none_is : {C : Type 0} {cmp : C → C → Ordering} → IsTotalOrder cmp → (x : C) (ys : List C) →
    has_key cmp ys x ≡ false → AllByRecursion (λ y. eq_by_cmp cmp x y ≡ false) ys
none_is o x [] h = tt
none_is {cmp = cmp} o x (y ∷ ys) h =
    let parts = or_parts (is_at (cmp y) x) (has_key cmp ys x) h in
    ((eq_by_cmp_equiv o).symm x y ∙ parts.0, none_is o x ys parts.1)

-- distinct keys and others that are distinct, of which none is among the first, are distinct together
pub distinct_both : {C : Type 0} {cmp : C → C → Ordering} → IsTotalOrder cmp → (xs ys : List C) →
    IsDistinct (eq_by_cmp cmp) xs → IsDistinct (eq_by_cmp cmp) ys →
    ((q : C) → has_key cmp xs q ≡ true → has_key cmp ys q ≡ false) → IsDistinct (eq_by_cmp cmp) (xs ++ ys)
unfolding IsDistinct
distinct_both o [] ys dx dy apart = dy
distinct_both {cmp = cmp} o (x ∷ xs) ys dx dy apart = (
  all_joined (λ y. eq_by_cmp cmp x y ≡ false) xs ys dx.0 (none_is o x ys (apart x (ap (λ b. b || has_key cmp xs x) (ap is_eq (tied_itself o x))))),
  distinct_both o xs ys dx.1 dy (λ q h. apart q (or_right (is_at (cmp x) q) (has_key cmp xs q) h)),
)

or_true_left : (a b : Bool) → a ≡ true → (a || b) ≡ true
or_true_left a b e = ap (λ x. x || b) e

-- a key among the first is among all
pub of_front : {C : Type 0} (cmp : C → C → Ordering) (keys : List C) (i : ℕ) (q : C) → has_key cmp (take i keys) q ≡ true → has_key cmp keys q ≡ true
of_front cmp keys i q h =
    ap (λ ks. has_key cmp ks q) (sym (take-append-drop i keys))
    ∙ list_any-append (λ key. is_at (cmp key) q) (take i keys) (drop i keys)
    ∙ or_true_left (has_key cmp (take i keys) q) (has_key cmp (drop i keys) q) h

-- of two tests that exclude each other, one that holds refutes the other
pub excludes : (a b : Bool) → (a ≡ true → b ≡ false) → b ≡ true → a ≡ false
excludes true b h e = absurd (true≢false (sym e ∙ h refl))
excludes false b h e = refl

-- no keys are distinct
pub none_distinct : {C : Type 0} (e : C → C → Bool) → IsDistinct e []
unfolding IsDistinct
none_distinct e = tt

-- what was counted more and then less is as it was
pub undone : {X : Type 0} (b : Bool) (more less : X → X) (new now old : X) → (b ≡ true → less (more old) ≡ old) →
    new ≡ cond b (less now) now → now ≡ cond b (more old) old → new ≡ old
undone true more less new now old back d e = d ∙ ap less e ∙ back refl
undone false more less new now old back d e = d ∙ e

-- a change at p is the same at q where that is p
pub changed_here : {C X : Type 0} {cmp : C → C → Ordering} → CmpEqualImpliesEq cmp →
    (p q : C) (f : C → X → X) (new now : X) → new ≡ cond (is_at (cmp p) q) (f p now) now →
    new ≡ cond (is_at (cmp p) q) (f q now) now
changed_here {cmp = cmp} exact p q f new now change = change ∙ go (is_at (cmp p) q) refl
  where
    go : (b : Bool) → is_at (cmp p) q ≡ b → cond b (f p now) now ≡ cond b (f q now) now
    go true e = ap (λ k. f k now) (tells_apart exact p q e)
    go false e = refl
