-- Members of lists, and what holds of each.
use Rattle.std.proofs.Common.{◌≡◌, ℕ, suc, zero, ◌<◌, ◌≤◌, Bool, true, false, cond, List, [], ◌∷◌}
use Rattle.std.proofs.Common.{◌++◌, length, Option, Some, None, refl, sym, ◌∙◌, ap, subst, inl, inr, arith}
use Rattle.std.specs.Prelude.{filter, filter_map, count_by, slice_get, ◌⊎◌}
use Rattle.std.specs.List.{AllByRecursion, cons_option, list_any}
use Rattle.std.proofs.lemmas.Bool.{or_left, or_right}
use Rattle.std.proofs.lemmas.List.Sums.{sum_by-cons}

pub inside : {A : Type 0} (a b : A) → Some a ≡ Some b → a ≡ b
inside {A} a b e = let content : Option A → A = λ o. elim o [ None ↦ a | Some x ↦ x ] in
    ap content e

-- ALL

pub all_append : {A : Type 0} (P : A → Type 0) (xs ys : List A) → AllByRecursion P xs →
    AllByRecursion P ys → AllByRecursion P (xs ++ ys)
all_append P [] ys h k = k
all_append P (x ∷ xs) ys h k = (h.0, all_append P xs ys h.1 k)

pub all_filter : {A : Type 0} (P : A → Type 0) (test : A → Bool) (xs : List A) →
    AllByRecursion P xs → AllByRecursion (λ x. P x × (test x ≡ true)) (filter test xs)
all_filter P test [] h = tt
all_filter {A} P test (x ∷ xs) h = go (all_filter P test xs h.1) (test x) refl
  where
    go : AllByRecursion (λ y. P y × (test y ≡ true)) (filter test xs) → (b : Bool) → test x ≡ b →
        AllByRecursion (λ y. P y × (test y ≡ true)) (cond b (x ∷ filter test xs) (filter test xs))
    go rest true e = ((h.0, e), rest)
    go rest false e = rest

pub all_weaker : {A : Type 0} (P Q : A → Type 0) → ((x : A) → P x → Q x) → (xs : List A) →
    AllByRecursion P xs → AllByRecursion Q xs
all_weaker P Q f [] h = tt
all_weaker P Q f (x ∷ xs) h = (f x h.0, all_weaker P Q f xs h.1)

-- MEMBERS

-- x is in the list
abbrev pub Member : {A : Type 0} → List A → A → Type 0
Member [] x = ⊥
Member (y ∷ ys) x = (x ≡ y) ⊎ Member ys x

pub from_members : {A : Type 0} (P : A → Type 0) (xs : List A) → ((x : A) → Member xs x → P x) →
    AllByRecursion P xs
from_members P [] h = tt
from_members P (x ∷ xs) h = (h x (inl refl), from_members P xs (λ y m. h y (inr m)))

pub at_member : {A : Type 0} (P : A → Type 0) (xs : List A) → AllByRecursion P xs → (x : A) →
    Member xs x → P x
at_member P [] h x m = absurd m
at_member P (y ∷ ys) h x (inl is) = subst P (sym is) h.0
at_member P (y ∷ ys) h x (inr m) = at_member P ys h.1 x m

pub member_filter : {A : Type 0} (test : A → Bool) (xs : List A) (x : A) →
    Member (filter test xs) x → Member xs x × (test x ≡ true)
member_filter test [] x m = absurd m
member_filter {A} test (y ∷ ys) x m = go (member_filter test ys x) (test y) refl m
  where
    go : (Member (filter test ys) x → Member ys x × (test x ≡ true)) → (b : Bool) → test y ≡ b →
        Member (cond b (y ∷ filter test ys) (filter test ys)) x →
        Member (y ∷ ys) x × (test x ≡ true)
    go rest true e (inl is) = (inl is, ap test is ∙ e)
    go rest true e (inr n) = (inr (rest n).0, (rest n).1)
    go rest false e n = (inr (rest n).0, (rest n).1)

pub member_at : {A : Type 0} (xs : List A) (place : ℕ) (x : A) → slice_get xs place ≡ Some x →
    Member xs x
member_at [] place x e = absurd (cc)
member_at (y ∷ ys) zero x e = inl (sym (inside y x e))
member_at (y ∷ ys) (suc place) x e = inr (member_at ys place x e)

pub any_member : {A : Type 0} (test : A → Bool) (xs : List A) (x : A) → Member xs x →
    test x ≡ true → list_any test xs ≡ true
any_member test [] x m e = absurd m
any_member test (y ∷ ys) x (inl is) e = or_left (test y) (list_any test ys) (ap test (sym is) ∙ e)
any_member test (y ∷ ys) x (inr m) e = or_right (test y) (list_any test ys)
    (any_member test ys x m e)

pub count_some : {A : Type 0} (test : A → Bool) (xs : List A) (x : A) → Member xs x →
    test x ≡ true → 0 < count_by test xs
count_some test [] x m e = absurd m
count_some test (y ∷ ys) x (inl is) e =
    omega (
      arith,
      sum_by-cons (λ z. cond (test z) 1 0) y ys,
      ap {B = ℕ} (λ b. cond b 1 0)
          (ap test (sym is) ∙ e),
    )
count_some test (y ∷ ys) x (inr m) e =
    omega (arith, sum_by-cons (λ z. cond (test z) 1 0) y ys, count_some test ys x m e)

-- FILTERED MAPS

-- where a member comes from
pub member_filter_map : {A B : Type 0} (f : A → Option B) (xs : List A) (y : B) →
    Member (filter_map f xs) y → (x : A) × Member xs x × (f x ≡ Some y)
member_filter_map f [] y m = absurd m
member_filter_map {A} {B} f (x ∷ xs) y m = go (member_filter_map f xs y) (f x) refl m
  where
    go : (Member (filter_map f xs) y → (z : A) × Member xs z × (f z ≡ Some y)) → (o : Option B) →
        f x ≡ o → Member (cons_option o (filter_map f xs)) y →
        (z : A) × Member (x ∷ xs) z × (f z ≡ Some y)
    go rest None e n = let found = rest n in (found.0, inr found.1, found.2)
    go rest (Some b) e (inl is) = (x, inl refl, e ∙ ap Some (sym is))
    go rest (Some b) e (inr n) = let found = rest n in (found.0, inr found.1, found.2)

-- there are no more than there were
pub length_some : {A B : Type 0} (f : A → Option B) (xs : List A) →
    length (filter_map f xs) ≤ length xs
length_some f [] = omega arith
length_some {A} {B} f (x ∷ xs) = go (length_some f xs) (f x)
  where
    go : length (filter_map f xs) ≤ length xs → (o : Option B) →
        length (cons_option o (filter_map f xs)) ≤ suc (length xs)
    go le None = omega arith
    go le (Some b) = omega arith

-- where one gives what the other gives, or nothing
abbrev pub IsLess : {B : Type 0} → Option B → Option B → Type 0
IsLess o p = (o ≡ None) ⊎ (o ≡ p)

pub length_less : {A B : Type 0} (f g : A → Option B) (xs : List A) →
    ((x : A) → Member xs x → IsLess (f x) (g x)) →
    length (filter_map f xs) ≤ length (filter_map g xs)
length_less f g [] h = omega arith
length_less {A} {B} f g (x ∷ xs) h = go (length_less f g xs (λ y m. h y (inr m))) (f x) (g x)
    (h x (inl refl))
  where
    go : length (filter_map f xs) ≤ length (filter_map g xs) → (o p : Option B) → IsLess o p →
        length (cons_option o (filter_map f xs)) ≤ length (cons_option p (filter_map g xs))
    go le None None l = le
    go le None (Some b) l = omega arith
    go le (Some a) None (inl e) = absurd (cc)
    go le (Some a) None (inr e) = absurd (cc)
    go le (Some a) (Some b) l = omega arith

pub member_less : {A B : Type 0} (f g : A → Option B) (xs : List A) →
    ((x : A) → Member xs x → IsLess (f x) (g x)) → (y : B) → Member (filter_map f xs) y →
    Member (filter_map g xs) y
member_less f g [] h y m = m
member_less {A} {B} f g (x ∷ xs) h y m = go (member_less f g xs (λ z n. h z (inr n)) y) (f x) (g x)
    (h x (inl refl)) m
  where
    go : (Member (filter_map f xs) y → Member (filter_map g xs) y) → (o p : Option B) → IsLess o p →
        Member (cons_option o (filter_map f xs)) y → Member (cons_option p (filter_map g xs)) y
    go rest None None l n = rest n
    go rest None (Some b) l n = inr (rest n)
    go rest (Some a) None (inl e) n = absurd (cc)
    go rest (Some a) None (inr e) n = absurd (cc)
    go rest (Some a) (Some b) (inl e) n = absurd (cc)
    go rest (Some a) (Some b) (inr e) (inl is) = inl (is ∙ inside a b e)
    go rest (Some a) (Some b) (inr e) (inr n) = inr (rest n)
