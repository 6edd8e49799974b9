-- One field behind another, and what it is that was read.
use Rattle.std.proofs.Common.{◌≡◌, ℕ, ◌<◌, Bool, true, false, cond, ◌||◌, List, [], ◌∷◌, ◌++◌}
use Rattle.std.proofs.Common.{length, Result, Ok, Err, refl, sym, ap, arith, ◌⊎◌, inl, inr}
use Rattle.std.proofs.lemmas.List.{length-append}
use Rattle.p2p_discovery.specs.declared.codec.error.CodecError.{CodecError}
use Rattle.p2p_discovery.specs.Reading.{Reading, reads, refuses, outcome_then}

pub or_left : (a b : Bool) → a ≡ true → a || b ≡ true
or_left a b e = rw e refl

pub or_right : (a b : Bool) → b ≡ true → a || b ≡ true
or_right true b e = refl
or_right false b e = e

-- ---- what was read

abbrev pub done : {A : Type 0} → A → Result A CodecError
done x = Ok x

pub ok_is : {A : Type 0} (x y : A) → done x ≡ done y → x ≡ y
ok_is x y e = cc

-- what follows a first field that was read
pub bind_ok : {A B : Type 0} (r : Result (A × List ℕ) CodecError) (f : A → List ℕ → Reading B)
    (y : B × List ℕ) → outcome_then r f ≡ Ok y
    → (x : A × List ℕ) × (r ≡ Ok x) × ((f x.0 x.1).outcome ≡ Ok y)
bind_ok (Ok x) f y e = (x, refl, e)
bind_ok (Err d) f y e = absurd cc

pub guard_ok : {A : Type 0} (t : Bool) (e : CodecError) (x : A) (rest : List ℕ) (y : A)
    (new : List ℕ) → (cond t (refuses e rest) (reads x rest)).outcome ≡ Ok (y, new)
    → (t ≡ false) × (x ≡ y) × (rest ≡ new)
guard_ok true e x rest y new h = absurd cc
guard_ok {A = A} false e x rest y new h =
    let p : ◌≡◌ {A = A × List ℕ} (x, rest) (y, new) = cc in
    (refl, ap (λ (q : A × List ℕ). q.0) p, ap (λ (q : A × List ℕ). q.1) p)

-- ---- where two lists of bytes are split

pub head_is : (b c : ℕ) (x y : List ℕ) → b ∷ x ≡ c ∷ y → b ≡ c
head_is b c x y e = cc

pub tail_is : (b c : ℕ) (x y : List ℕ) → b ∷ x ≡ c ∷ y → x ≡ y
tail_is b c x y e = cc

-- a front of two parts ends behind the first part, or within it
abbrev pub Split : (xs ys front rest : List ℕ) → Type 0
Split xs ys front rest =
    ((mid : List ℕ) × (front ≡ xs ++ mid) × (ys ≡ mid ++ rest))
    ⊎ ((mid : List ℕ) × (xs ≡ front ++ mid) × (0 < length mid))

pub split_at : (xs ys front rest : List ℕ) → xs ++ ys ≡ front ++ rest → Split xs ys front rest
split_at [] ys front rest e = inl (front, refl, e)
split_at (x ∷ xs) ys [] rest e = inr (x ∷ xs, refl, omega arith)
split_at (x ∷ xs) ys (b ∷ front) rest e =
    let h : x ≡ b = head_is x b (xs ++ ys) (front ++ rest) e in
    elim (split_at xs ys front rest (tail_is x b (xs ++ ys) (front ++ rest) e)) [
      | inl s ↦ inl (s.0, (λ i. sym h i ∷ s.1 i), s.2)
      | inr s ↦ inr (s.0, (λ i. h i ∷ s.1 i), s.2)
    ]

-- what one byte alone spells has no other proper front than none
pub one_byte_front : (b c : ℕ) (front rest : List ℕ) → b ∷ [] ≡ c ∷ (front ++ rest)
    → 0 < length rest → ⊥
one_byte_front b c front rest e some =
    omega (arith, ap length (tail_is b c [] (front ++ rest) e), length-append front rest)
