-- What bytes hold after a bit, or each bit, was written.
use Rattle.std.proofs.Common.{◌≡◌, ◌≢◌, ℕ, zero, suc, ◌+◌, ◌-◌, ◌*◌, ◌/◌, ◌%◌, ◌^◌, ◌≤◌, ◌<◌, Bool, true, false, cond}
use Rattle.std.proofs.Common.{eqb, List, [], ◌∷◌, ◌++◌, length, take, get_or, set, replicate, Some, refl, sym, ap, ◌∙◌}
use Rattle.std.proofs.Common.{arith, inl, inr, bit_and, bit_or, append_assoc}
use Rattle.std.specs.Int.{w8, bit_at, bit_not}
use Rattle.std.specs.List.{slice_get}
use Rattle.std.specs.Bool.{beq, Decides, one_answer}
use Rattle.std.specs.Cmp.{booleans_Decides}
use Rattle.std.specs.Cmp.Lexicographic.{pointwise, pointwise_decides, bytes_decides}
use Rattle.std.proofs.Math.Seq.{set-append_seam}
use Rattle.std.proofs.lemmas.Bool.{cases_lt, cases_eq, eq-eqb, ne_eqb}
use Rattle.std.proofs.lemmas.List.{length-replicate, get_or-set_same, get_or-set_other, get_or-replicate, get_or_past}
use Rattle.std.proofs.lemmas.List.{length-set, length-take, take_more}
use Rattle.std.proofs.lemmas.Nat.Bits.{shr_and_one, bit_at-zero, bit_at_ones, bit_at_ones_above, bit_at_set_same}
use Rattle.std.proofs.lemmas.Nat.Bits.{bit_at_set_other, bit_at_clear_same, bit_at_clear_other}
use Rattle.std.proofs.lemmas.Option.{slice_get-get_or}
use Rattle.p2p_discovery.specs.Reading.{IsBytes}
use Rattle.p2p_discovery.specs.Bits.{bit_in, bits_in, byte_count, IsPacked, packed}
use Rattle.p2p_discovery.specs.Laws.Bits.{length-bits_in, get_or-bits_in, bits_are, packed-bits_in, power_more}

-- ---- one bit is read

pub bit_read : (bytes : List ℕ) (n i : ℕ) → i < n → slice_get (bits_in bytes n) i ≡ Some (eqb (bit_and (get_or bytes (i / 8) 0 / 2 ^ (i % 8)) 1) 1)
bit_read bytes n i h =
    slice_get-get_or (bits_in bytes n) i false (omega (arith, length-bits_in bytes n))
    ∙ ap Some (get_or-bits_in bytes n i false h ∙ ap (λ x. eqb x 1) (sym (shr_and_one (get_or bytes (i / 8) 0) (i % 8))))

-- ---- one bit is written

digit : Bool → ℕ
digit b = cond b 1 0

digit_is : (b : Bool) → eqb (digit b) 1 ≡ b
unfolding digit
digit_is true = refl
digit_is false = refl

-- a byte with one bit written
pub record IsWritten (old new k : ℕ) (b : Bool) : Type 0 where
  pub here : bit_at new k ≡ cond b 1 0
  pub others : (j : ℕ) → j < 8 → j ≢ k → bit_at new j ≡ bit_at old j

pub bit_set : (old k : ℕ) → k < 8 → IsWritten old (bit_or old (1 * 2 ^ k % 2 ^ 8)) k true
bit_set old k h = record { here = bit_at_set_same w8 old k h; others = λ j l ne. bit_at_set_other w8 old k h j ne }

pub bit_cleared : (old k : ℕ) → k < 8 → IsWritten old (bit_and old (bit_not w8 (1 * 2 ^ k % 2 ^ 8))) k false
bit_cleared old k h = record { here = bit_at_clear_same w8 old k h; others = λ j l ne. bit_at_clear_other w8 old k h j l ne }

same_place : (i q : ℕ) → q / 8 ≡ i / 8 → q % 8 ≡ i % 8 → q ≡ i
same_place i q e f = omega (arith, e, f)

bit_in-set : (bytes : List ℕ) (i new : ℕ) (b : Bool) → i / 8 < length bytes →
    IsWritten (get_or bytes (i / 8) 0) new (i % 8) b → (q : ℕ) →
    bit_in (set bytes (i / 8) new) q ≡ cond (eqb q i) b (bit_in bytes q)
unfolding digit
bit_in-set bytes i new b low w q =
    elim (cases_eq (q / 8) (i / 8)) [
      | inr other ↦
          let apart : q ≢ i = λ e. other (ap (λ n. n / 8) e) in
          ap (λ x. eqb (bit_at x (q % 8)) 1) (get_or-set_other bytes (i / 8) (q / 8) new 0 other) ∙ rw (ne_eqb q i apart) refl
      | inl byte ↦
          let now : get_or (set bytes (i / 8) new) (q / 8) 0 ≡ new =
          ap (λ j. get_or (set bytes (i / 8) new) j 0) byte ∙ get_or-set_same bytes (i / 8) new 0 low in
          elim (cases_eq (q % 8) (i % 8)) [
            | inl place ↦
                let same : q ≡ i = same_place i q byte place in
                ap (λ x. eqb (bit_at x (q % 8)) 1) now ∙ ap (λ k. eqb (bit_at new k) 1) place
                ∙ ap (λ x. eqb x 1) w.here ∙ digit_is b ∙ rw (eq-eqb q i same) refl
            | inr other ↦
                let apart : q ≢ i = λ e. other (ap (λ n. n % 8) e) in
                ap (λ x. eqb (bit_at x (q % 8)) 1) now ∙ ap (λ x. eqb x 1) (w.others (q % 8) (omega arith) other)
                ∙ ap (λ j. eqb (bit_at (get_or bytes j 0) (q % 8)) 1) (sym byte) ∙ rw (ne_eqb q i apart) refl
          ]
    ]

pub record Wrote (bytes new : List ℕ) (n i : ℕ) (b : Bool) : Type 0 where
  pub bits : bits_in new n ≡ set (bits_in bytes n) i b
  pub packed : IsPacked n new

pub wrote : (bytes : List ℕ) (n i new : ℕ) (b : Bool) → IsPacked n bytes → i < n →
    IsWritten (get_or bytes (i / 8) 0) new (i % 8) b → Wrote bytes (set bytes (i / 8) new) n i b
wrote bytes n i new b p low w =
    let byte : i / 8 < length bytes = omega (arith, p.len) in
    record {
      bits =
          bits_are (set bytes (i / 8) new) n (set (bits_in bytes n) i b) (length-set (bits_in bytes n) i b ∙ length-bits_in bytes n)
          (λ q h. bit_in-set bytes i new b byte w q ∙ elim (cases_eq q i) [
            | inl e ↦ rw (eq-eqb q i e, e) (sym (get_or-set_same (bits_in bytes n) i b false (omega (arith, length-bits_in bytes n))))
            | inr ne ↦ rw (ne_eqb q i ne) (sym (get_or-set_other (bits_in bytes n) i q b false ne ∙ get_or-bits_in bytes n q false h))
          ]);
      packed = record {
        len = length-set bytes (i / 8) new ∙ p.len;
        rest = λ q h. bit_in-set bytes i new b byte w q ∙ rw (ne_eqb q i (λ e. absurd (omega (arith, e)))) (p.rest q h);
      };
    }

pub wrote_true : (bytes : List ℕ) (n i now : ℕ) → now ≡ get_or bytes (i / 8) 0 → IsPacked n bytes → i < n →
    Wrote bytes (set bytes (i / 8) (bit_or now (1 * 2 ^ (i % 8) % 256))) n i true
wrote_true bytes n i now e p low =
    rw e (wrote bytes n i (bit_or (get_or bytes (i / 8) 0) (1 * 2 ^ (i % 8) % 256)) true p low
    (bit_set (get_or bytes (i / 8) 0) (i % 8) (omega arith)))

pub wrote_false : (bytes : List ℕ) (n i now : ℕ) → now ≡ get_or bytes (i / 8) 0 → IsPacked n bytes → i < n →
    Wrote bytes (set bytes (i / 8) (bit_and now (255 - 1 * 2 ^ (i % 8) % 256))) n i false
wrote_false bytes n i now e p low =
    rw e (wrote bytes n i (bit_and (get_or bytes (i / 8) 0) (255 - 1 * 2 ^ (i % 8) % 256)) false p low
    (bit_cleared (get_or bytes (i / 8) 0) (i % 8) (omega arith)))

-- ---- all bits are written

above_zero : (n : ℕ) → (n ≡ 0 → ⊥) → 0 < n
above_zero zero h = absurd (h refl)
above_zero (suc n) h = omega arith

differ : (i n : ℕ) → n ≤ i → (i / 8 ≡ n / 8 → ⊥) → n / 8 < i / 8
differ i n h ne = elim (cases_lt (n / 8) (i / 8)) [ inl lt ↦ lt | inr le ↦ absurd (ne (omega arith)) ]

no_bit : (count i : ℕ) → bit_in (replicate count 0) i ≡ false
no_bit count i =
    let none : get_or (replicate count 0) (i / 8) 0 ≡ 0 = elim (cases_lt (i / 8) count) [
      | inl lt ↦ get_or-replicate count (i / 8) 0 0 lt
      | inr le ↦ get_or_past (replicate count 0) (i / 8) 0 (omega (arith, length-replicate {A = ℕ} count 0))
    ] in
    ap (λ x. eqb (bit_at x (i % 8)) 1) none ∙ ap (λ x. eqb x 1) (bit_at-zero (i % 8))

-- bytes that hold these bits, and no other one
pub record Holds (values : List Bool) (n : ℕ) (bytes : List ℕ) : Type 0 where
  pub bits : bits_in bytes n ≡ values
  pub packed : IsPacked n bytes

pub no_bits : (bytes : List ℕ) (count n : ℕ) → bytes ≡ replicate count 0 → count ≡ byte_count n → Holds (replicate n false) n bytes
no_bits bytes count n e c = rw e (record {
  bits = bits_are (replicate count 0) n (replicate n false) (length-replicate n false) (λ i h. no_bit count i ∙ sym (get_or-replicate n i false false h));
  packed = record { len = length-replicate {A = ℕ} count 0 ∙ c; rest = λ i h. no_bit count i };
})

full_bit : (count i : ℕ) → i / 8 < count → bit_in (replicate count 255) i ≡ true
full_bit count i h = ap (λ x. eqb (bit_at x (i % 8)) 1) (get_or-replicate count (i / 8) 255 0 h) ∙ ap (λ x. eqb x 1) (bit_at_ones 8 (i % 8) (omega arith))

-- whole bytes of ones
pub whole_ones : (bytes : List ℕ) (count n : ℕ) → bytes ≡ replicate count 255 → count ≡ byte_count n → n % 8 ≡ 0 → Holds (replicate n true) n bytes
whole_ones bytes count n e c z = rw e (record {
  bits = bits_are (replicate count 255) n (replicate n true) (length-replicate n true)
      (λ i h. full_bit count i (omega (arith, c)) ∙ sym (get_or-replicate n i true false h));
  packed = record {
    len = length-replicate {A = ℕ} count 255 ∙ c;
    rest = λ i h. ap (λ x. eqb (bit_at x (i % 8)) 1)
        (get_or_past (replicate count 255) (i / 8) 0 (omega (arith, length-replicate {A = ℕ} count 255, c)))
        ∙ ap (λ x. eqb x 1) (bit_at-zero (i % 8));
  };
})

last_bit : (count n last i : ℕ) → count ≡ byte_count n → (n % 8 ≡ 0 → ⊥) → i / 8 ≡ n / 8 →
    bit_in (set (replicate count 255) (n / 8) last) i ≡ eqb (bit_at last (i % 8)) 1
last_bit count n last i c some e =
    let low : n / 8 < length (replicate count 255) = omega (arith, length-replicate {A = ℕ} count 255, above_zero (n % 8) some, c) in
    ap (λ j. eqb (bit_at (get_or (set (replicate count 255) (n / 8) last) j 0) (i % 8)) 1) e
    ∙ ap (λ x. eqb (bit_at x (i % 8)) 1) (get_or-set_same (replicate count 255) (n / 8) last 0 low)

other_bit : (count n last i : ℕ) → (i / 8 ≡ n / 8 → ⊥) → bit_in (set (replicate count 255) (n / 8) last) i ≡ bit_in (replicate count 255) i
other_bit count n last i ne = ap (λ x. eqb (bit_at x (i % 8)) 1) (get_or-set_other (replicate count 255) (n / 8) (i / 8) last 0 ne)

-- bytes of ones, of which the last has fewer
few_ones : (bytes : List ℕ) (count n : ℕ) → bytes ≡ replicate count 255 → count ≡ byte_count n → (n % 8 ≡ 0 → ⊥) →
    Holds (replicate n true) n (set bytes (n / 8) (2 ^ (n % 8) - 1))
few_ones bytes count n e c some = rw e (record {
  bits =
      bits_are (set (replicate count 255) (n / 8) (2 ^ (n % 8) - 1)) n (replicate n true) (length-replicate n true)
      (λ i h. elim (cases_eq (i / 8) (n / 8)) [
        | inl same ↦
            last_bit count n (2 ^ (n % 8) - 1) i c some same ∙ ap (λ x. eqb x 1) (bit_at_ones (n % 8) (i % 8) (omega (arith, same)))
        | inr ne ↦ other_bit count n (2 ^ (n % 8) - 1) i ne ∙ full_bit count i (omega (arith, c))
      ] ∙ sym (get_or-replicate n i true false h));
  packed = record {
    len = length-set (replicate count 255) (n / 8) (2 ^ (n % 8) - 1) ∙ length-replicate {A = ℕ} count 255 ∙ c;
    rest = λ i h. elim (cases_eq (i / 8) (n / 8)) [
      | inl same ↦
          last_bit count n (2 ^ (n % 8) - 1) i c some same ∙ ap (λ x. eqb x 1) (bit_at_ones_above (n % 8) (i % 8) (omega (arith, same)))
      | inr ne ↦
          other_bit count n (2 ^ (n % 8) - 1) i ne
          ∙ ap (λ x. eqb (bit_at x (i % 8)) 1)
          (get_or_past (replicate count 255) (i / 8) 0
          (omega (arith, length-replicate {A = ℕ} count 255, c, differ i n h ne)))
          ∙ ap (λ x. eqb x 1) (bit_at-zero (i % 8))
    ];
  };
})

-- the same, as a shift makes them
pub cut_ones : (bytes : List ℕ) (count n : ℕ) → bytes ≡ replicate count 255 → count ≡ byte_count n →
    (n % 8 ≡ 0 → ⊥) → Holds (replicate n true) n (set bytes (n / 8) (1 * 2 ^ (n % 8) % 256 - 1))
cut_ones bytes count n e c some =
    let low : 2 ^ (n % 8) ≤ 2 ^ 7 = power_more (n % 8) 7 (omega arith) in
    let last : 1 * 2 ^ (n % 8) % 256 - 1 ≡ 2 ^ (n % 8) - 1 = omega arith in
    rw last (few_ones bytes count n e c some)

-- ---- values, one after the other

pub next_value : (xs : List Bool) (i : ℕ) (x : Bool) → i < length xs → x ≡ get_or xs i false →
    set (take i xs ++ replicate (length xs - i) false) i x ≡ take (i + 1) xs ++ replicate (length xs - (i + 1))
    false
next_value xs i x h e =
    let k : length (take i xs) ≡ i = omega (arith, length-take i xs) in
    let some : length xs - i ≡ suc (length xs - (i + 1)) = omega arith in
    let seam : set (take i xs ++ false ∷ replicate (length xs - (i + 1)) false) (length (take i xs)) x ≡ take i xs
    ++ x ∷ replicate (length xs - (i + 1)) false =
    set-append_seam (take i xs) false (replicate (length xs - (i + 1)) false) x in
    rw (some) ((rw k at seam)
    ∙ sym (ap (λ w. w ++ replicate (length xs - (i + 1)) false)
    (take_more xs i false h ∙ ap (λ y. take i xs ++ y ∷ []) (sym e)) ∙ append_assoc (take i xs) (x ∷ [])
    (replicate (length xs - (i + 1)) false)))

-- ---- two bit maps

same_len : (a b : List ℕ) (n m : ℕ) → bits_in a n ≡ bits_in b m → n ≡ m
same_len a b n m e = sym (length-bits_in a n) ∙ ap length e ∙ length-bits_in b m

-- the same bits are of the same number and stand in the same bytes
same_bytes : (a b : List ℕ) (n m : ℕ) → IsBytes a → IsBytes b → IsPacked n a → IsPacked m b → bits_in a n ≡ bits_in b m → a ≡ b
same_bytes a b n m f g p q e = sym (packed-bits_in n a f p) ∙ ap packed e ∙ packed-bits_in m b g q

-- what a test says of the bits
pub record Tells (r : Bool) (xs ys : List Bool) : Type 0 where
  pub same : r ≡ pointwise beq xs ys
  pub exact : Decides r (xs ≡ ys)

tells : (r : Bool) (xs ys : List Bool) → Decides r (xs ≡ ys) → Tells r xs ys
tells r xs ys d = record { same = one_answer r (pointwise beq xs ys) d (pointwise_decides booleans_Decides xs ys); exact = d }

pub bytes_tell : (a b : List ℕ) (n m : ℕ) (xs ys : List Bool) (r : Bool) → IsBytes a → IsBytes b → IsPacked n a →
    IsPacked m b → bits_in a n ≡ xs → bits_in b m ≡ ys → n ≡ m → r ≡ pointwise eqb a b → Tells r xs ys
bytes_tell a b n m xs ys r f g p q v w e t = tells r xs ys (
  λ h. sym v ∙ (λ i. bits_in ((bytes_decides a b).0 (sym t ∙ h) i) (e i)) ∙ w,
  λ h. t ∙ (bytes_decides a b).1 (same_bytes a b n m f g p q (v ∙ h ∙ sym w)),
)

pub numbers_tell : (a b : List ℕ) (n m : ℕ) (xs ys : List Bool) → bits_in a n ≡ xs → bits_in b m ≡ ys → (n ≡ m → ⊥) → Tells false xs ys
numbers_tell a b n m xs ys v w ne = tells false xs ys (λ h. absurd cc, λ h. absurd (ne (same_len a b n m (v ∙ h ∙ sym w))))
