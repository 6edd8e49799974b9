-- Bits beside keys, changed at one key.
use Rattle.std.proofs.Common.{◌≡◌, ℕ, zero, suc, ◌<◌, ◌≤◌, Bool, true, false, List, [], ◌∷◌, length, get_or, set, replicate, sym, ap, refl, ◌∙◌, arith}
use Rattle.std.specs.declared.cmp.Ordering.{Ordering}
use Rattle.std.specs.declared.cmp.Ordering.TheVariants.{Less}
use Rattle.std.specs.Cmp.{IsTotalOrder}
use Rattle.std.specs.Ordering.{is_eq, ordering_reverse}
use Rattle.std.specs.BTreeMap.{is_at}
use Rattle.std.specs.List.Sorted.{IsStrictlySortedBy}
use Rattle.std.proofs.lemmas.Map.Keys.{Less-from_sorted}
use Rattle.std.proofs.lemmas.Map.Lookups.{CmpEqualImpliesEq}
use Rattle.std.proofs.lemmas.Map.Views.{tells_apart}
use Rattle.p2p_discovery.specs.Ordered.{IsPlaceOf}
use Rattle.std.specs.List.{zip}
use Rattle.std.specs.Map.{lookup, set_value, values_of, keys_of}
use Rattle.std.specs.Option.{is_some}
use Rattle.p2p_discovery.specs.BitSets.{with_bit, unset}
use Rattle.std.proofs.lemmas.Bool.{false_from_ne_true}

pub zip_unset : {P : Type 0} (xs : List P) → zip xs (replicate (length xs) false) ≡ unset xs
zip_unset [] = refl
zip_unset (x ∷ xs) = ap (λ es. (x, false) ∷ es) (zip_unset xs)

pub peers_zip : {P : Type 0} (xs : List P) (bs : List Bool) → length bs ≡ length xs → keys_of (zip xs bs) ≡ xs
peers_zip [] bs h = refl
peers_zip (x ∷ xs) [] h = absurd (omega (arith, h))
peers_zip (x ∷ xs) (c ∷ bs) h = ap (λ ys. x ∷ ys) (peers_zip xs bs (omega (arith, h)))

pub bits_zip : {P : Type 0} (xs : List P) (bs : List Bool) → length bs ≡ length xs → values_of (zip xs bs) ≡ bs
bits_zip [] [] h = refl
bits_zip [] (c ∷ bs) h = absurd (omega (arith, h))
bits_zip (x ∷ xs) [] h = absurd (omega (arith, h))
bits_zip (x ∷ xs) (c ∷ bs) h = ap (λ ys. c ∷ ys) (bits_zip xs bs (omega (arith, h)))

pub zip_set : {P : Type 0} (xs : List P) (bs : List Bool) (i : ℕ) (b : Bool) → zip xs (set bs i b) ≡ with_bit (zip xs bs) i b
zip_set [] bs i b = refl
zip_set (x ∷ xs) [] i b = refl
zip_set (x ∷ xs) (c ∷ bs) zero b = refl
zip_set (x ∷ xs) (c ∷ bs) (suc i) b = ap (λ es. (x, c) ∷ es) (zip_set xs bs i b)

pub length_zip : {P : Type 0} (xs : List P) (bs : List Bool) → length bs ≡ length xs → length (zip xs bs) ≡ length xs
length_zip [] bs h = refl
length_zip (x ∷ xs) [] h = h
length_zip (x ∷ xs) (c ∷ bs) h = ap suc (length_zip xs bs (omega (arith, h)))

pub past_end : {P : Type 0} (xs : List P) (bs : List Bool) (i : ℕ) (b : Bool) → length bs ≤ i → with_bit (zip xs bs) i b ≡ zip xs bs
past_end [] bs i b h = refl
past_end (x ∷ xs) [] i b h = refl
past_end (x ∷ xs) (c ∷ bs) zero b h = absurd (omega (arith, h))
past_end (x ∷ xs) (c ∷ bs) (suc i) b h = ap (λ es. (x, c) ∷ es) (past_end xs bs i b (omega (arith, h)))

module _ {P : Type 0} (test : P → Bool) where
  -- a key that passes, and none before it
  pub set_at : (key : P) → test key ≡ true → (xs : List P) (bs : List Bool) (i : ℕ) (b : Bool) →
      length bs ≡ length xs → i < length xs → get_or xs i key ≡ key →
      ((j : ℕ) → j < i → test (get_or xs j key) ≡ false) → (zip xs (set bs i b) ≡ set_value test (zip xs bs) b)
      × (is_some (lookup test (zip xs bs)) ≡ true)
  set_at key t [] bs i b same low at before = absurd (omega (arith, low))
  set_at key t (x ∷ xs) [] i b same low at before = absurd (omega (arith, same))
  set_at key t (x ∷ xs) (c ∷ bs) zero b same low at before = let here : test x ≡ true = ap test at ∙ t in rw (here) (refl, refl)
  set_at key t (x ∷ xs) (c ∷ bs) (suc i) b same low at before =
      let apart : test x ≡ false = before 0 (omega arith) in
      let rest = set_at key t xs bs i b (omega (arith, same)) (omega (arith, low)) at (λ j h. before (suc j) (omega (arith, h))) in
      rw (apart) (ap (λ es. (x, c) ∷ es) rest.0, rest.1)

  -- no key passes
  pub set_nowhere : (key : P) (xs : List P) (bs : List Bool) (b : Bool) →
      ((j : ℕ) → j < length xs → test (get_or xs j key) ≡ false) →
      (zip xs bs ≡ set_value test (zip xs bs) b) × (is_some (lookup test (zip xs bs)) ≡ false)
  set_nowhere key [] bs b h = (refl, refl)
  set_nowhere key (x ∷ xs) [] b h = (refl, refl)
  set_nowhere key (x ∷ xs) (c ∷ bs) b h =
      let apart : test x ≡ false = h 0 (omega arith) in
      let rest = set_nowhere key xs bs b (λ j low. h (suc j) (omega (arith, low))) in
      rw (apart) (ap (λ es. (x, c) ∷ es) rest.0, rest.1)

module _ {P : Type 0} {cmp : P → P → Ordering} (o : IsTotalOrder cmp) (exact : CmpEqualImpliesEq cmp) where
  -- a key that stands nowhere is not found
  pub no_place : (key : P) (xs : List P) → ((k : ℕ) → IsPlaceOf key xs k → ⊥) → (j : ℕ) → j < length xs → is_at (cmp key) (get_or xs j key) ≡ false
  no_place key xs h j low =
      false_from_ne_true (is_at (cmp key) (get_or xs j key))
      (λ e. h j (record { in_range = low; at_place = sym (tells_apart exact key (get_or xs j key) e) }))

  -- a key in order is found first at its place
  pub first_there : (key : P) (xs : List P) (i : ℕ) → IsStrictlySortedBy cmp xs → i < length xs →
      get_or xs i key ≡ key → (j : ℕ) → j < i → is_at (cmp key) (get_or xs j key) ≡ false
  first_there key xs i up low at j below =
      let less : cmp (get_or xs j key) key ≡ Less = ap (cmp (get_or xs j key)) (sym at) ∙ Less-from_sorted cmp xs j i key up below low in
      ap is_eq (o.antisymm key (get_or xs j key) ∙ ap ordering_reverse less)
