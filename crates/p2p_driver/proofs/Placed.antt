-- What stands at a place of two lists, one behind the other.
use Rattle.std.proofs.Common.{◌≡◌, ℕ, zero, suc, ◌+◌, ◌<◌, List, [], ◌∷◌, ◌++◌, Some, refl, ◌∙◌, ap, arith}
use Rattle.std.proofs.lemmas.Option.{slice_get-map, slice_get-get_or}
use Rattle.std.specs.Prelude.{length, map, slice_get, option_map, get_or}

-- at a place of the first
pub first_at : {A B : Type 0} (f : A → B) (xs : List A) (ys : List B) (i : ℕ) (d : A) → i < length xs →
    slice_get (map f xs ++ ys) i ≡ Some (f (get_or xs i d))
first_at f [] ys i d less = absurd (omega (arith, less))
first_at f (x ∷ xs) ys zero d less = refl
first_at f (x ∷ xs) ys (suc i) d less = first_at f xs ys i d (omega (arith, less))

-- at one of the second
behind : {A B : Type 0} (f : A → B) (xs : List A) (ys : List B) (i : ℕ) → slice_get (map f xs ++ ys) (i + length xs) ≡ slice_get ys i
behind f [] ys i = ap (slice_get ys) none
  where
    none : i + 0 ≡ i
    none = omega arith
behind f (x ∷ xs) ys i = ap (slice_get (f x ∷ (map f xs ++ ys))) next ∙ behind f xs ys i
  where
    next : i + length (x ∷ xs) ≡ suc (i + length xs)
    next = omega arith

pub second_at : {A B : Type 0} (f : A → B) (xs : List A) (i : ℕ) (d : A) → i < length xs →
    slice_get (map f xs ++ map f xs) (i + length xs) ≡ Some (f (get_or xs i d))
second_at f xs i d less = behind f xs (map f xs) i ∙ slice_get-map f xs i ∙ ap (option_map f) (slice_get-get_or xs i d less)
