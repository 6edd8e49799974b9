-- A list that is gone through, item by item.
use Rattle.std.proofs.Common.{◌≡◌, ◌<◌, List, [], ◌∷◌, ◌++◌, length, get_or, sym, refl, ◌∙◌, ap, subst, arith, append_assoc}
use Rattle.std.proofs.lemmas.List.{append-nil, length-append}
use Rattle.std.specs.List.{All}

-- one more item was taken of a list that is gone through
pub item_left : {A : Type 0} (before rest rest2 all : List A) (x : A) → before ++ rest ≡ all → rest ≡ x ∷ rest2 → length before < length all
item_left before rest rest2 all x whole is = omega (arith, length-append before rest, ap length whole, ap length is)

-- .. and all were taken
pub all_moved : {A : Type 0} (before rest all : List A) → before ++ rest ≡ all → length rest ≡ 0 → before ≡ all
all_moved before [] all whole none = sym (append-nil before) ∙ whole
all_moved before (x ∷ rest) all whole none = absurd (omega (arith, none))

pub item_moved : {A : Type 0} (before rest rest2 all : List A) (x : A) → before ++ rest ≡ all → rest ≡ x ∷ rest2 → (before ++ x ∷ []) ++ rest2 ≡ all
item_moved before rest rest2 all x whole is = append_assoc before (x ∷ []) rest2 ∙ ap (λ ys. before ++ ys) (sym is) ∙ whole

-- what is true of all is true of the one that was taken
pub item_has : {A : Type 0} (P : A → Type 0) (before rest rest2 all : List A) (x : A) → before ++ rest ≡ all → rest ≡ x ∷ rest2 → All P all → P x
item_has {A} P before rest rest2 all x whole is h =
    let e = ap (λ ys. before ++ ys) (sym is) ∙ whole in
    subst P (place before)
    (subst (All P) (sym e) h (length before) x
    (subst (λ ys. length before < length ys) (sym e) (item_left before rest rest2 all x whole is)))
  where
    place : (ys : List A) → get_or (ys ++ x ∷ rest2) (length ys) x ≡ x
    place [] = refl
    place (y ∷ ys) = place ys
