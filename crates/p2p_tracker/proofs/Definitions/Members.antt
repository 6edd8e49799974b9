-- A sorted list of keys is known by its members.
use Rattle.std.proofs.Common.{◌≡◌, Bool, true, false, ◌||◌, List, [], ◌∷◌, refl, sym, ◌∙◌, ap, subst}
use Rattle.std.specs.List.{AllByRecursion}
use Rattle.std.specs.List.Sorted.{IsStrictlySortedBy, IsPermutation}
use Rattle.std.specs.declared.cmp.Ordering.{Ordering}
use Rattle.std.specs.declared.cmp.Ordering.TheVariants.{Less, Equal, Greater}
use Rattle.std.specs.Ordering.{is_eq, ordering_reverse}
use Rattle.std.specs.Cmp.{IsTotalOrder}
use Rattle.std.specs.BTreeMap.{is_at}
use Rattle.std.proofs.lemmas.Map.Lookups.{CmpEqualImpliesEq}
use Rattle.std.proofs.lemmas.Map.Views.{tells_apart}
use Rattle.std.proofs.lemmas.List.Sorted.{list_any-IsPermutation}
use Rattle.p2p_discovery.specs.Ordered.{has_key}

module _ {C : Type 0} {cmp : C → C → Ordering} (total : IsTotalOrder cmp) (exact : CmpEqualImpliesEq cmp) where
  itself : (x : C) → is_at (cmp x) x ≡ true
  itself x = go (cmp x x) refl
    where
      go : (o : Ordering) → cmp x x ≡ o → is_eq o ≡ true
      go Equal e = refl
      go Less e = absurd (let f = sym e ∙ total.antisymm x x ∙ ap ordering_reverse e in cc)
      go Greater e = absurd (let f = sym e ∙ total.antisymm x x ∙ ap ordering_reverse e in cc)

  all_above : (p : C) (xs : List C) → AllByRecursion (λ y. cmp p y ≡ Less) xs → has_key cmp xs p ≡ false
  all_above p [] above = refl
  all_above p (x ∷ xs) above = ap (λ o. is_eq o || has_key cmp xs p) (total.antisymm x p ∙ ap ordering_reverse above.0) ∙ all_above p xs above.1

  above_more : (p x : C) (xs : List C) → cmp p x ≡ Less → AllByRecursion (λ y. cmp x y ≡ Less) xs → AllByRecursion (λ y. cmp p y ≡ Less) xs
  above_more p x [] below above = above
  above_more p x (y ∷ xs) below above = (total.trans p x y below above.0, above_more p x xs below above.1)

  -- what is below the first isn't in
  below_first : (p x : C) (xs : List C) → cmp p x ≡ Less → IsStrictlySortedBy cmp (x ∷ xs) → has_key cmp (x ∷ xs) p ≡ false
  unfolding IsStrictlySortedBy
  below_first p x xs below sorted = all_above p (x ∷ xs) (below, above_more p x xs below sorted.0)

  first_in : (x : C) (xs : List C) → has_key cmp (x ∷ xs) x ≡ true
  first_in x xs = ap (λ b. b || has_key cmp xs x) (itself x)

  pub same_members : (xs ys : List C) → IsStrictlySortedBy cmp xs → IsStrictlySortedBy cmp ys → ((p : C) → has_key cmp xs p ≡ has_key cmp ys p) → xs ≡ ys
  unfolding IsStrictlySortedBy
  same_members [] [] sx sy members = refl
  same_members [] (y ∷ ys) sx sy members = absurd (let e = members y ∙ first_in y ys in cc)
  same_members (x ∷ xs) [] sx sy members = absurd (let e = sym (first_in x xs) ∙ members x in cc)
  same_members (x ∷ xs) (y ∷ ys) sx sy members = go (cmp x y) refl (same_members xs ys sx.1 sy.1)
    where
      tail : x ≡ y → (p : C) → (b : Bool) → is_at (cmp x) p ≡ b → has_key cmp xs p ≡ has_key cmp ys p
      tail e p true f =
          let at_x : x ≡ p = tells_apart exact x p f in
          subst (λ q. has_key cmp xs q ≡ has_key cmp ys q) at_x
          (all_above x xs sx.0 ∙ sym (subst (λ q. has_key cmp ys q ≡ false) (sym e) (all_above y ys sy.0)))
      tail e p false f =
          sym (ap (λ b. b || has_key cmp xs p) f) ∙ members p ∙ ap (λ b. b || has_key cmp ys p) (ap (λ q. is_at (cmp q) p) (sym e) ∙ f)

      go : (o : Ordering) → cmp x y ≡ o → (((p : C) → has_key cmp xs p ≡ has_key cmp ys p) → xs ≡ ys) → x ∷ xs ≡ y ∷ ys
      go Equal e more =
          let one : x ≡ y = exact x y e in
          λ i. one i ∷ more (λ p. tail one p (is_at (cmp x) p) refl) i
      go Less e more = absurd (let f = sym (first_in x xs) ∙ members x ∙ below_first x y ys e sy in cc)
      go Greater e more = absurd (let f = sym (first_in y ys) ∙ sym (members y) ∙ below_first y x xs (total.antisymm y x ∙ ap ordering_reverse e) sx in cc)

  -- so a permutation of a sorted list that is sorted too is that list
  pub same_sorted : (xs ys : List C) → IsStrictlySortedBy cmp xs → IsStrictlySortedBy cmp ys → IsPermutation xs ys → ys ≡ xs
  same_sorted xs ys sx sy moved = sym (same_members xs ys sx sy (λ p. list_any-IsPermutation (λ x. is_at (cmp x) p) xs ys moved))
