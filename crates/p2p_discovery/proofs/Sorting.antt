-- What a sort, a `dedup` and a binary search say of keys in a total order.
use Rattle.std.proofs.Common.{◌≡◌, ℕ, ◌+◌, ◌-◌, [], ◌∷◌, ◌<◌, ◌≤◌, Bool, true, false, List, length, get_or, Err, sym, ap, subst, refl, ◌∙◌, arith, inl, inr}
use Rattle.std.proofs.lemmas.Bool.{cases_lt}
use mathlib.Core.Bool.{true≢false}
use Rattle.std.specs.declared.cmp.Ordering.{Ordering}
use Rattle.std.specs.declared.cmp.Ordering.TheVariants.{Less, Equal, Greater}
use Rattle.std.specs.Cmp.{IsTotalOrder}
use Rattle.std.specs.Ordering.{eq_by_cmp, is_lt, is_eq, ordering_reverse, ordering_index}
use Rattle.std.specs.List.{IsDistinct, AllAdjacentBelow}
use Rattle.std.specs.List.Sorted.{IsStrictlySortedBy, IsSorted, IsSortedBy, IsBinarySearchResult, IsNonDecreasingBy, IsPermutation}
use Rattle.std.proofs.lemmas.Cmp.{tied_itself, eq_by_cmp_equiv}
use Rattle.std.proofs.lemmas.Map.Keys.{Less-from_sorted, apart_from_distinct, IsDistinct-IsPermutation, sorted_from_all_adjacent}
use Rattle.std.proofs.lemmas.List.{get_or_default}
use Rattle.std.proofs.lemmas.List.Sorted.{searchable_from_sorted, all_adjacent_more}
use Rattle.p2p_discovery.specs.Ordered.{IsPlaceOf}
use Rattle.p2p_discovery.proofs.Truth.{Less-not_equal, Greater-not_equal}

pub sorted_nil : {P : Type 0} (R : P → P → Ordering) → IsStrictlySortedBy R []
unfolding IsStrictlySortedBy
sorted_nil R = tt

module _ {P : Type 0} {R : P → P → Ordering} (o : IsTotalOrder R) where
  -- keys that rise strictly do not fall
  pub not_falling : (xs : List P) → IsStrictlySortedBy R xs → IsSortedBy (λ a b. is_lt (R a b)) xs
  not_falling xs up k d low high =
      ap is_lt (o.antisymm (get_or xs (k + 1) d) (get_or xs k d)
      ∙ ap ordering_reverse (Less-from_sorted R xs k (k + 1) d up (omega arith) high))

  -- what a binary search has its premise from
  pub searchable : (xs : List P) (x : P) → IsStrictlySortedBy R xs → IsNonDecreasingBy (λ y. ordering_index (R y x)) xs
  searchable xs x up = searchable_from_sorted o (λ y. y) xs x (not_falling xs up)

  -- a key that a binary search does not find stands nowhere
  pub nowhere : (xs : List P) (x : P) (at : ℕ) → IsStrictlySortedBy R xs → IsBinarySearchResult (λ y. R y x) xs (Err at) → (k : ℕ) → IsPlaceOf x xs k → ⊥
  nowhere xs x at up found k place =
      let parts = found (searchable xs x up) in
      let level : R (get_or xs k x) x ≡ Equal = ap (λ y. R y x) place.at_place ∙ tied_itself o x in
      elim (cases_lt k at) [
        | inl below ↦ Less-not_equal (sym (parts.0 k x (omega (arith, below)) below) ∙ level)
        | inr from ↦ Greater-not_equal (sym (parts.1 k x from place.in_range) ∙ level)
      ]

  rising_by : (r s : Ordering) → s ≡ ordering_reverse r → is_lt s ≡ false → is_eq r ≡ false → r ≡ Less
  rising_by Less s e p q = refl
  rising_by Equal s e p q = absurd (true≢false q)
  rising_by Greater s e p q = absurd (true≢false (sym (ap is_lt e) ∙ p))

  -- of two keys that do not fall and differ, the first is below
  rising : (x y : P) → is_lt (R y x) ≡ false → eq_by_cmp R x y ≡ false → R x y ≡ Less
  rising x y p q = rising_by (R x y) (R y x) (o.antisymm y x) p q

  -- two neighbours that are equal stand in the list from the start
  pub repeated : {E : P → P → Bool} → ((x y : P) → E x y ≡ eq_by_cmp R x y) → (xs ys : List P) →
      IsPermutation xs ys → (k : ℕ) (x y : P) → k + 1 < length ys → get_or ys k x ≡ x → get_or ys (k + 1) y ≡ y →
      E x y ≡ true → IsDistinct (eq_by_cmp R) xs → ⊥
  repeated {E} ties xs ys moved k x y high at_x at_y same distinct =
      let apart = apart_from_distinct (eq_by_cmp R) ys k (k + 1) x
      (IsDistinct-IsPermutation (eq_by_cmp R) (eq_by_cmp_equiv o).symm xs ys moved distinct) (omega arith)
      high in
      let next : get_or ys (k + 1) x ≡ y = get_or_default ys (k + 1) x y high ∙ at_y in
      true≢false (sym same ∙ ties x y ∙ (rw (at_x, next) at apart))

  -- a sorted list whose neighbours differ rises
  pub below_next : {E : P → P → Bool} → ((x y : P) → E x y ≡ eq_by_cmp R x y) → (ys : List P) → IsSorted R ys →
      (k : ℕ) (d x y : P) → k + 1 < length ys → get_or ys k x ≡ x → get_or ys (k + 1) y ≡ y → E x y ≡ false →
      R (get_or ys k d) (get_or ys (k + 1) d) ≡ Less
  below_next {E} ties ys up k d x y high at_x at_y differ =
      let here : get_or ys k d ≡ x = get_or_default ys k d x (omega arith) ∙ at_x in
      let next : get_or ys (k + 1) d ≡ y = get_or_default ys (k + 1) d y high ∙ at_y in
      rw (here, next) (rising x y (rw (here, next) at (up k d (omega arith) high)) (sym (ties x y) ∙ differ))

  -- a list whose neighbours rise up to its end rises
  pub sorted_neighbours : (xs : List P) (k : ℕ) → length xs ≤ k → AllAdjacentBelow (λ x y. R x y ≡ Less) xs k → IsStrictlySortedBy R xs
  sorted_neighbours [] k h up = sorted_nil R
  sorted_neighbours (x ∷ xs) k h up = sorted_from_all_adjacent o (x ∷ xs) x (λ i low. up i x (omega arith))

  -- one more pair of neighbours
  pub grown : (xs : List P) (k : ℕ) → 0 < k → AllAdjacentBelow (λ x y. R x y ≡ Less) xs k →
      ((d : P) → R (get_or xs (k - 1) d) (get_or xs (k - 1 + 1) d) ≡ Less) →
      AllAdjacentBelow (λ x y. R x y ≡ Less) xs (k + 1)
  grown xs k h up more =
      all_adjacent_more xs (λ x y. R x y ≡ Less) k h up
      (λ d. subst (λ n. R (get_or xs (k - 1) d) (get_or xs n d) ≡ Less) {x = k - 1 + 1} (omega arith) (more d))
