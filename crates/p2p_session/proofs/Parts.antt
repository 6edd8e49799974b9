-- Bytes tell the parts that they were put together from.
use Rattle.std.proofs.Common.{◌≡◌, ℕ, ◌/◌, ◌%◌, ◌<◌, ◌^◌, List, [], ◌∷◌, ◌++◌, length}
use Rattle.std.proofs.Common.{refl, sym, ap, ◌∙◌, arith}
use Rattle.std.specs.Prelude.{flat_map}
use Rattle.std.specs.Int.{w32, w64, to_be_bytes, from_be_bytes}
use Rattle.std.specs.List.{AllByRecursion}
use Rattle.std.proofs.lemmas.List.{length-append}
use Rattle.std.proofs.lemmas.Nat.{from_be_bytes-to_be_bytes_4, from_be_bytes-to_be_bytes_8}
use Rattle.p2p_discovery.specs.Reading.{Reading, Lawful}
use Rattle.p2p_discovery.specs.Laws.Reading.{ok_is}

-- two numbers whose bytes are the same
pub number_is : (a b : ℕ) → a < 2 ^ 64 → b < 2 ^ 64 → to_be_bytes w64 a ≡ to_be_bytes w64 b → a ≡ b
number_is a b h i e =
    sym (from_be_bytes-to_be_bytes_8 a h)
    ∙ (ap (from_be_bytes w64) e ∙ from_be_bytes-to_be_bytes_8 b i)

pub small_is : (a b : ℕ) → a < 2 ^ 32 → b < 2 ^ 32 → to_be_bytes w32 a ≡ to_be_bytes w32 b → a ≡ b
small_is a b h i e =
    sym (from_be_bytes-to_be_bytes_4 a h)
    ∙ (ap (from_be_bytes w32) e ∙ from_be_bytes-to_be_bytes_4 b i)

-- two fronts of one length, with what is behind each
pub cut : (xs ys xs2 ys2 : List ℕ) → length xs ≡ length xs2 → xs ++ ys ≡ xs2 ++ ys2 →
    (xs ≡ xs2) × (ys ≡ ys2)
cut [] ys [] ys2 h e = (refl, e)
cut [] ys (x ∷ xs2) ys2 h e = absurd (omega (arith, h))
cut (x ∷ xs) ys [] ys2 h e = absurd (omega (arith, h))
cut (x ∷ xs) ys (x2 ∷ xs2) ys2 h e =
    let head : x ≡ x2 = cc in
    let tail : xs ++ ys ≡ xs2 ++ ys2 = cc in
    let more = cut xs ys xs2 ys2 (omega (arith, h)) tail in
    (ap (λ b. b ∷ xs) head ∙ ap (λ l. x2 ∷ l) more.0, more.1)

-- values of one number of bytes each, one after the other
module _ {A : Type 0} (spelled : A → List ℕ) (Is : A → Type 0) (size : ℕ) (some : 0 < size)
    (len : (x : A) → length (spelled x) ≡ size)
    (one : (x y : A) → Is x → Is y → spelled x ≡ spelled y → x ≡ y) where
  none_left : (x : A) (l : List ℕ) → spelled x ++ l ≡ [] → ⊥
  none_left x l e = go (spelled x) (len x) e
    where
      go : (bytes : List ℕ) → length bytes ≡ size → bytes ++ l ≡ [] → ⊥
      go [] h e = omega (arith, h, some)
      go (b ∷ bytes) h e = cc

  pub values_are : (xs ys : List A) → AllByRecursion Is xs → AllByRecursion Is ys →
      flat_map spelled xs ≡ flat_map spelled ys → xs ≡ ys
  values_are [] [] h i e = refl
  values_are [] (y ∷ ys) h i e = absurd (none_left y (flat_map spelled ys) (sym e))
  values_are (x ∷ xs) [] h i e = absurd (none_left x (flat_map spelled xs) e)
  values_are (x ∷ xs) (y ∷ ys) h i e =
      let parts = cut (spelled x) (flat_map spelled xs) (spelled y) (flat_map spelled ys)
      (len x ∙ sym (len y)) e in
      ap (λ z. z ∷ xs) (one x y h.0 i.0 parts.0)
      ∙ ap (λ l. y ∷ l) (values_are xs ys h.1 i.1 parts.1)

  -- .. as many as others, with what is behind them
  pub values_before : (xs ys : List A) (l m : List ℕ) → AllByRecursion Is xs →
      AllByRecursion Is ys →
      length xs ≡ length ys → flat_map spelled xs ++ l ≡ flat_map spelled ys ++ m →
      (xs ≡ ys) × (l ≡ m)
  values_before xs ys l m h i same e =
      let parts = cut (flat_map spelled xs) l (flat_map spelled ys) m (lengths xs ys same) e in
      (values_are xs ys h i parts.0, parts.1)
    where
      lengths : (xs ys : List A) → length xs ≡ length ys →
          length (flat_map spelled xs) ≡ length (flat_map spelled ys)
      lengths [] [] same = refl
      lengths [] (y ∷ ys) same = absurd (omega (arith, same))
      lengths (x ∷ xs) [] same = absurd (omega (arith, same))
      lengths (x ∷ xs) (y ∷ ys) same =
          both (spelled x) (flat_map spelled xs) (spelled y) (flat_map spelled ys)
          (len x ∙ sym (len y)) (lengths xs ys (omega (arith, same)))
        where
          both : (a b c d : List ℕ) → length a ≡ length c → length b ≡ length d →
              length (a ++ b) ≡ length (c ++ d)
          both a b c d p q = omega (arith, length-append a b, length-append c d, p, q)

-- what is read again was one value
pub encoded_is : {A : Type 0} {reading : List ℕ → Reading A} {spelling : A → List ℕ}
    {Admits : A → Type 0} →
    Lawful reading spelling Admits → (x y : A) → Admits x → Admits y → spelling x ≡ spelling y →
    x ≡ y
encoded_is {A} {reading} {spelling} law x y h i e =
    let same = ap (λ b. (reading (b ++ [])).outcome) e in
    let pair : (x, []) ≡ (y, []) =
    ok_is (x, []) (y, []) (sym (law.again x [] h) ∙ (same ∙ law.again y [] i)) in
    ap (λ (p : A × List ℕ). p.0) pair

-- a moment's nanoseconds
pub moment_is : (t u : ℕ) → t / 1_000_000_000 ≡ u / 1_000_000_000 →
    t % 1_000_000_000 ≡ u % 1_000_000_000 → t ≡ u
moment_is t u e f = omega (arith, e, f)
