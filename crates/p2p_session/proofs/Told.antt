-- Answers tell what is answered.
use Rattle.std.proofs.Common.{◌≡◌, ℕ, ◌+◌, ◌≤◌, ◌/◌, ◌%◌, ◌<◌, ◌^◌, true}
use Rattle.std.proofs.Common.{List, [], ◌++◌, length, take, drop}
use Rattle.std.proofs.Common.{refl, sym, ap, subst, ◌∙◌, arith}
use Rattle.std.specs.Prelude.{min, nat_le, if◌then◌else◌, flat_map}
use Rattle.std.specs.Int.{w32, w64, to_be_bytes}
use Rattle.std.specs.List.{AllByRecursion}
use Rattle.std.proofs.lemmas.Bool.{le-leb}
use Rattle.std.proofs.lemmas.List.{append-nil, take_at}
use Rattle.p2p_session.proofs.Parts.{cut, number_is, small_is, values_are, values_before}

pub length_number : (n : ℕ) → length (to_be_bytes w64 n) ≡ 8
length_number n = refl

length_small : (n : ℕ) → length (to_be_bytes w32 n) ≡ 4
length_small n = refl

-- a number, and what is behind it
pub number_before : (a b : ℕ) (l m : List ℕ) → a < 2 ^ 64 → b < 2 ^ 64 →
    to_be_bytes w64 a ++ l ≡ to_be_bytes w64 b ++ m → (a ≡ b) × (l ≡ m)
number_before a b l m h i e =
    let parts = cut (to_be_bytes w64 a) l (to_be_bytes w64 b) m
    (length_number a ∙ sym (length_number b)) e in
    (number_is a b h i parts.0, parts.1)

pub small_before : (a b : ℕ) (l m : List ℕ) → a < 2 ^ 32 → b < 2 ^ 32 →
    to_be_bytes w32 a ++ l ≡ to_be_bytes w32 b ++ m → (a ≡ b) × (l ≡ m)
small_before a b l m h i e =
    let parts = cut (to_be_bytes w32 a) l (to_be_bytes w32 b) m
    (length_small a ∙ sym (length_small b)) e in
    (small_is a b h i parts.0, parts.1)

-- a moment: its seconds, and its nanoseconds below a second
pub moment_before : (t u : ℕ) (l m : List ℕ) → t / 1_000_000_000 < 2 ^ 64 →
    u / 1_000_000_000 < 2 ^ 64 →
    to_be_bytes w64 (t / 1_000_000_000) ++ (to_be_bytes w32 (t % 1_000_000_000) ++ l)
    ≡ to_be_bytes w64 (u / 1_000_000_000) ++ (to_be_bytes w32 (u % 1_000_000_000) ++ m) →
    (t ≡ u) × (l ≡ m)
moment_before t u l m h i e =
    let first = number_before (t / 1_000_000_000) (u / 1_000_000_000) _ _ h i e in
    let second = small_before (t % 1_000_000_000) (u % 1_000_000_000) l m (omega arith)
    (omega arith) first.1 in
    (omega (arith, first.0, second.0), second.1)

module _ {A : Type 0} (spelled : A → List ℕ) (Is : A → Type 0) (size : ℕ) (some : 0 < size)
    (len : (x : A) → length (spelled x) ≡ size)
    (one : (x y : A) → Is x → Is y → spelled x ≡ spelled y → x ≡ y) where
  -- the last of the parts
  last_are : (xs ys : List A) → AllByRecursion Is xs → AllByRecursion Is ys →
      flat_map spelled xs ++ [] ≡ flat_map spelled ys ++ [] → xs ≡ ys
  last_are xs ys h i e = values_are spelled Is size some len one xs ys h i
      (sym (append-nil (flat_map spelled xs)) ∙ (e ∙ append-nil (flat_map spelled ys)))

  pub two_lists : (p s p2 s2 : List A) → AllByRecursion Is p → AllByRecursion Is s →
      AllByRecursion Is p2 →
      AllByRecursion Is s2 → length p < 2 ^ 64 → length p2 < 2 ^ 64 →
      to_be_bytes w64 (length p) ++ (flat_map spelled p ++ (flat_map spelled s ++ []))
      ≡ to_be_bytes w64 (length p2) ++ (flat_map spelled p2 ++ (flat_map spelled s2 ++ [])) →
      (p ≡ p2) × (s ≡ s2)
  two_lists p s p2 s2 hp hs hp2 hs2 few few2 e =
      let count = number_before (length p) (length p2) _ _ few few2 e in
      let first = values_before spelled Is size some len one p p2 _ _ hp hp2 count.0 count.1 in
      (first.0, last_are s s2 hs hs2 first.1)

  pub four_lists : (i i2 : ℕ) (p s a b p2 s2 a2 b2 : List A) → i < 2 ^ 64 → i2 < 2 ^ 64 →
      AllByRecursion Is p → AllByRecursion Is s → AllByRecursion Is a → AllByRecursion Is b →
      AllByRecursion Is p2 → AllByRecursion Is s2 → AllByRecursion Is a2 → AllByRecursion Is b2 →
      length p < 2 ^ 64 → length s < 2 ^ 64 → length a < 2 ^ 64 →
      length p2 < 2 ^ 64 → length s2 < 2 ^ 64 → length a2 < 2 ^ 64 →
      to_be_bytes w64 i ++ (to_be_bytes w64 (length p) ++
      (to_be_bytes w64 (length s) ++ (to_be_bytes w64 (length a)
      ++ (flat_map spelled p ++
      (flat_map spelled s ++ (flat_map spelled a ++ (flat_map spelled b ++ [])))))))
      ≡ to_be_bytes w64 i2 ++ (to_be_bytes w64 (length p2) ++
      (to_be_bytes w64 (length s2) ++ (to_be_bytes w64 (length a2)
      ++ (flat_map spelled p2 ++
      (flat_map spelled s2 ++ (flat_map spelled a2 ++ (flat_map spelled b2 ++ []))))))) →
      (i ≡ i2) × (p ≡ p2) × (s ≡ s2) × (a ≡ a2) × (b ≡ b2)
  four_lists i i2 p s a b p2 s2 a2 b2 fi fi2 hp hs ha hb hp2 hs2 ha2 hb2 lp ls la lp2 ls2 la2 e =
      let index = number_before i i2 _ _ fi fi2 e in
      let np = number_before (length p) (length p2) _ _ lp lp2 index.1 in
      let ns = number_before (length s) (length s2) _ _ ls ls2 np.1 in
      let na = number_before (length a) (length a2) _ _ la la2 ns.1 in
      let kp = values_before spelled Is size some len one p p2 _ _ hp hp2 np.0 na.1 in
      let ks = values_before spelled Is size some len one s s2 _ _ hs hs2 ns.0 kp.1 in
      let ka = values_before spelled Is size some len one a a2 _ _ ha ha2 na.0 ks.1 in
      (index.0, kp.0, ks.0, ka.0, last_are b b2 hb hb2 ka.1)

-- what was answered stands at the front of the room
pub stands_in_front : (bytes out out2 : List ℕ) (n : ℕ) → n ≡ min (length bytes) (2 ^ 63) →
    out2 ≡ (if nat_le n (length out) then take 0 out ++ (bytes ++ drop (0 + length bytes) out) else
    out) →
    n ≤ length out → length out < 2 ^ 63 → take n out2 ≡ bytes
stands_in_front bytes out out2 n count room fits small =
    let is : length bytes ≡ n = omega (arith, count, fits, small) in
    let in_room : nat_le n (length out) ≡ true = le-leb n (length out) fits in
    let whole : out2 ≡ bytes ++ drop (0 + length bytes) out =
    subst (λ b. out2 ≡ (if b then take 0 out ++ (bytes ++ drop (0 + length bytes) out) else
    out)) in_room room in
    ap (take n) whole ∙ take_at bytes (drop (0 + length bytes) out) n is
