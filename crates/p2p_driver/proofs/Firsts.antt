-- What is found in a list, while it is walked.
use Rattle.std.proofs.Common.{◌≡◌, ℕ, ◌+◌, ◌<◌, Bool, true, false, cond, not, ◌&&◌, List}
use Rattle.std.proofs.Common.{length, Some, find, drop, get_or, ◌∙◌, ap, sym, suc, add-one, drop-cons}
use Rattle.std.specs.List.{list_all}

-- what isn't it is passed
pub passed : {A : Type 0} (p : A → Bool) (xs : List A) (i : ℕ) (x : A) → i < length xs →
    p (get_or xs i x) ≡ false → find p (drop i xs) ≡ find p (drop (i + 1) xs)
passed p xs i x lt is = ap (find p) (drop-cons xs i x lt)
    ∙ ap (λ b. cond b (Some (get_or xs i x)) (find p (drop (suc i) xs))) is
    ∙ ap (λ n. find p (drop n xs)) (sym (add-one i))

-- .. and what is, is found
pub found : {A : Type 0} (p : A → Bool) (xs : List A) (i : ℕ) (x : A) → i < length xs →
    p (get_or xs i x) ≡ true → find p (drop i xs) ≡ Some (get_or xs i x)
found p xs i x lt is = ap (find p) (drop-cons xs i x lt)
    ∙ ap (λ b. cond b (Some (get_or xs i x)) (find p (drop (suc i) xs))) is

-- one that doesn't fail is passed
pub first_next : {A : Type 0} (p : A → Bool) (xs : List A) (i : ℕ) (x : A) → i < length xs →
    p (get_or xs i x) ≡ true →
    find (λ x. not (p x)) (drop i xs) ≡ find (λ x. not (p x)) (drop (i + 1) xs)
first_next p xs i x lt is = passed (λ x. not (p x)) xs i x lt (ap not is)

-- all of those that are left are so if the next one is, and all behind it
pub all_next : {A : Type 0} (p : A → Bool) (xs : List A) (i : ℕ) (x : A) → i < length xs →
    list_all p (drop i xs) ≡ (p (get_or xs i x) && list_all p (drop (i + 1) xs))
all_next p xs i x lt = ap (list_all p) (drop-cons xs i x lt)
    ∙ ap (λ n. p (get_or xs i x) && list_all p (drop n xs)) (sym (add-one i))
