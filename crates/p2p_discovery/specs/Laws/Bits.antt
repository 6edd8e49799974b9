-- Bits are unpacked from the bytes that they are packed into, and packed again into these.
use Rattle.std.proofs.Common.{◌≡◌, ℕ, zero, suc, ◌+◌, ◌*◌, ◌/◌, ◌%◌, ◌^◌, ◌≤◌, ◌<◌, Bool, true}
use Rattle.std.proofs.Common.{false, cond, eqb, List, [], ◌∷◌, length, take, drop, get_or, refl}
use Rattle.std.proofs.Common.{sym, ap, ◌∙◌, arith, inl, inr}
use Rattle.std.proofs.Math.Nat.{pow-suc, le-div_iff_mul-le}
use Rattle.std.specs.Int.{bit_at}
use Rattle.std.proofs.lemmas.Bool.{cases_lt}
use Rattle.std.proofs.lemmas.List.{ext_get_or, get_or-take, get_or-drop, get_or_past, length-take}
use Rattle.std.proofs.lemmas.List.{length-drop}
use Rattle.std.proofs.lemmas.List.FromFn.{length-map-range_with_len, get_or-map-range_with_len}
use Rattle.std.proofs.lemmas.Nat.Bits.{bit_at_lowest, bit_at-suc, bit_at-zero, bit_at-lt}
use Rattle.std.proofs.lemmas.Nat.Bits.{bit_at_above, same_from_bits_below}
use Rattle.p2p_discovery.specs.Reading.{IsBytes}
use Rattle.p2p_discovery.specs.Bits.{bit_in, bits_in, byte_count, padding_of, IsPacked, number_of}
use Rattle.p2p_discovery.specs.Bits.{packed}

-- ---- a number by its bits

abbrev digit : Bool → ℕ
digit b = cond b 1 0

digit_is : (b : Bool) → eqb (digit b) 1 ≡ b
digit_is true = refl
digit_is false = refl

digit_of : (n : ℕ) → n < 2 → digit (eqb n 1) ≡ n
digit_of zero h = refl
digit_of (suc zero) h = refl
digit_of (suc (suc n)) h = absurd (omega arith)

lowest : (b : Bool) (n : ℕ) → (digit b + 2 * n) % 2 ≡ digit b
lowest true n = omega arith
lowest false n = omega arith

above : (b : Bool) (n : ℕ) → (digit b + 2 * n) / 2 ≡ n
above true n = omega arith
above false n = omega arith

number_bit : (bits : List Bool) (i : ℕ) → bit_at (number_of bits) i ≡ digit (get_or bits i false)
number_bit [] i = bit_at-zero i
number_bit (b ∷ bits) zero = bit_at_lowest (number_of (b ∷ bits)) ∙ lowest b (number_of bits)
number_bit (b ∷ bits) (suc i) =
    bit_at-suc (number_of (b ∷ bits)) i ∙ ap (λ n. bit_at n i) (above b (number_of bits))
    ∙ number_bit bits i

digit_small : (b : Bool) → digit b ≤ 1
digit_small true = omega arith
digit_small false = omega arith

number_small : (bits : List Bool) → number_of bits < 2 ^ length bits
number_small [] = omega arith
number_small (b ∷ bits) =
    rw (pow-suc 2 (length bits)) (omega (arith, number_small bits, digit_small b))

pub power_more : (k m : ℕ) → k ≤ m → 2 ^ k ≤ 2 ^ m
power_more zero zero h = omega arith
power_more zero (suc m) h = rw (pow-suc 2 m) (omega (arith, power_more zero m (omega arith)))
power_more (suc k) zero h = absurd (omega arith)
power_more (suc k) (suc m) h =
    rw (pow-suc 2 k, pow-suc 2 m) (omega (arith, power_more k m (omega arith)))

-- ---- bits in bytes

pub length-bits_in : (bytes : List ℕ) (n : ℕ) → length (bits_in bytes n) ≡ n
unfolding bits_in
length-bits_in bytes n = length-map-range_with_len (bit_in bytes) 0 n

pub get_or-bits_in : (bytes : List ℕ) (n i : ℕ) (d : Bool) → i < n
    → get_or (bits_in bytes n) i d ≡ bit_in bytes i
unfolding bits_in
get_or-bits_in bytes n i d h = get_or-map-range_with_len (bit_in bytes) 0 n i i d h (omega arith)

-- the bits that stand at each place are all there is to know of a list of bits
pub bits_are : (bytes : List ℕ) (n : ℕ) (bits : List Bool) → length bits ≡ n
    → ((i : ℕ) → i < n → bit_in bytes i ≡ get_or bits i false) → bits_in bytes n ≡ bits
bits_are bytes n bits len same =
    ext_get_or false (bits_in bytes n) bits (length-bits_in bytes n ∙ sym len)
    (λ i h. let lt : i < n = omega (arith, length-bits_in bytes n) in
    get_or-bits_in bytes n i false lt ∙ same i lt)

-- ---- bytes of bits

pub length-packed : (bits : List Bool) → length (packed bits) ≡ byte_count (length bits)
unfolding packed
length-packed bits =
    length-map-range_with_len (λ j. number_of (take 8 (drop (8 * j) bits))) 0
    (byte_count (length bits))

byte_is : (bits : List Bool) (j d : ℕ) → j < byte_count (length bits)
    → get_or (packed bits) j d ≡ number_of (take 8 (drop (8 * j) bits))
unfolding packed
byte_is bits j d h =
    get_or-map-range_with_len (λ j. number_of (take 8 (drop (8 * j) bits))) 0
    (byte_count (length bits)) j j d h (omega arith)

eight_bit : (bits : List Bool) (j k : ℕ) → k < 8
    → bit_at (number_of (take 8 (drop (8 * j) bits))) k ≡ digit (get_or bits (8 * j + k) false)
eight_bit bits j k h =
    number_bit (take 8 (drop (8 * j) bits)) k
    ∙ ap digit (get_or-take 8 (drop (8 * j) bits) k false h ∙ get_or-drop (8 * j) bits k false)

eight_small : (bits : List Bool) (j : ℕ) → number_of (take 8 (drop (8 * j) bits)) < 2 ^ 8
eight_small bits j =
    omega (
      arith,
      number_small (take 8 (drop (8 * j) bits)),
      power_more (length (take 8 (drop (8 * j) bits))) 8
          (omega (arith, length-take 8 (drop (8 * j) bits))),
    )

pub bit_in-packed : (bits : List Bool) (i : ℕ) → bit_in (packed bits) i ≡ get_or bits i false
bit_in-packed bits i =
    let at : 8 * (i / 8) + i % 8 ≡ i = omega arith in
    elim (cases_lt (i / 8) (byte_count (length bits))) [
      | inl lt ↦
          ap (λ n. eqb (bit_at n (i % 8)) 1) (byte_is bits (i / 8) 0 lt)
          ∙ ap (λ n. eqb n 1) (eight_bit bits (i / 8) (i % 8) (omega arith))
          ∙ digit_is (get_or bits (8 * (i / 8) + i % 8) false) ∙ ap (λ k. get_or bits k false) at
      | inr le ↦
          ap (λ n. eqb (bit_at n (i % 8)) 1)
          (get_or_past (packed bits) (i / 8) 0 (omega (arith, length-packed bits)))
          ∙ ap (λ n. eqb n 1) (bit_at-zero (i % 8))
          ∙ sym (get_or_past bits i false (omega arith))
    ]

-- bits are unpacked from the bytes that they are packed into
pub bits_in-packed : (bits : List Bool) → bits_in (packed bits) (length bits) ≡ bits
bits_in-packed bits = bits_are (packed bits) (length bits) bits refl (λ i h. bit_in-packed bits i)

place_is : (j k : ℕ) → k < 8 → ((8 * j + k) / 8 ≡ j) × ((8 * j + k) % 8 ≡ k)
place_is j k h = (omega arith, omega arith)

bit_in_byte : (bytes : List ℕ) (j k : ℕ) → k < 8
    → digit (bit_in bytes (8 * j + k)) ≡ bit_at (get_or bytes j 0) k
bit_in_byte bytes j k h =
    let p = place_is j k h in
    rw (p.0, p.1) (digit_of (bit_at (get_or bytes j 0) k) (bit_at-lt (get_or bytes j 0) k))

unpacked_bit : (n : ℕ) (bytes : List ℕ) → IsPacked n bytes → (i : ℕ)
    → get_or (bits_in bytes n) i false ≡ bit_in bytes i
unpacked_bit n bytes p i =
    elim (cases_lt i n) [
      | inl lt ↦ get_or-bits_in bytes n i false lt
      | inr le ↦ get_or_past (bits_in bytes n) i false (omega (arith, length-bits_in bytes n))
          ∙ sym (p.rest i le)
    ]

-- packed bytes are those of their bits
pub packed-bits_in : (n : ℕ) (bytes : List ℕ) → IsBytes bytes → IsPacked n bytes
    → packed (bits_in bytes n) ≡ bytes
packed-bits_in n bytes fits p =
    let count : byte_count (length (bits_in bytes n)) ≡ byte_count n =
    ap byte_count (length-bits_in bytes n) in
    ext_get_or 0 (packed (bits_in bytes n)) bytes
    (length-packed (bits_in bytes n) ∙ count ∙ sym p.len)
    (λ j h.
    let lt : j < byte_count (length (bits_in bytes n)) =
    omega (arith, length-packed (bits_in bytes n)) in
    byte_is (bits_in bytes n) j 0 lt
    ∙ same_from_bits_below 8 (number_of (take 8 (drop (8 * j) (bits_in bytes n))))
    (get_or bytes j 0) (eight_small (bits_in bytes n) j) (fits j)
    (λ k l. eight_bit (bits_in bytes n) j k l ∙ ap digit (unpacked_bit n bytes p (8 * j + k))
    ∙ bit_in_byte bytes j k l))

-- ---- padding

quotient_zero : (x p : ℕ) → 0 < p → x / p ≡ 0 → x < p
quotient_zero x p h e =
    elim (cases_lt x p) [
      | inl lt ↦ lt
      | inr le ↦ let one : 1 ≤ x / p = (le-div_iff_mul-le h).1 (omega arith) in
          absurd (omega (arith, e))
    ]

some_power : (k : ℕ) → 0 < 2 ^ k
some_power zero = omega arith
some_power (suc k) = rw (pow-suc 2 k) (omega (arith, some_power k))

-- bytes without padding are packed
pub packed_unpadded : (n : ℕ) (bytes : List ℕ) → length bytes ≡ byte_count n
    → padding_of n bytes ≡ 0 → IsPacked n bytes
packed_unpadded n bytes len e = record {
  len = len;
  rest = λ i le.
      elim (cases_lt (n / 8) (i / 8)) [
        | inl lt ↦
            ap (λ x. eqb (bit_at x (i % 8)) 1) (get_or_past bytes (i / 8) 0 (omega (arith, len)))
            ∙ ap (λ x. eqb x 1) (bit_at-zero (i % 8))
        | inr same ↦
            let at : i / 8 ≡ n / 8 = omega arith in
            ap (λ k. eqb (bit_at (get_or bytes k 0) (i % 8)) 1) at
            ∙ ap (λ x. eqb x 1)
            (bit_at_above (get_or bytes (n / 8) 0) (n % 8) (i % 8)
            (quotient_zero (get_or bytes (n / 8) 0) (2 ^ (n % 8)) (some_power (n % 8)) e)
            (omega (arith, at)))
      ];
}

small_quotient : (x p : ℕ) → x < p → x / p ≡ 0
small_quotient x p h =
    elim (cases_lt 0 (x / p)) [
      | inl lt ↦
          let some : 0 < p = omega arith in
          let whole : 1 * p ≤ x = (le-div_iff_mul-le some).0 lt in
          absurd (omega arith)
      | inr le ↦ omega arith
    ]

-- and packed bits have none
pub unpadded : (bits : List Bool) → padding_of (length bits) (packed bits) ≡ 0
unpadded bits =
    let n = length bits in
    elim (cases_lt (length bits / 8) (byte_count (length bits))) [
      | inl lt ↦
          let eight = take 8 (drop (8 * (length bits / 8)) bits) in
          let few : length eight ≤ length bits % 8 =
          omega (
            arith,
            length-take 8 (drop (8 * (length bits / 8)) bits),
            length-drop (8 * (length bits / 8)) bits,
          ) in
          rw (byte_is bits (length bits / 8) 0 lt)
          (small_quotient (number_of eight) (2 ^ (length bits % 8))
          (omega
          (arith, number_small eight, power_more (length eight) (length bits % 8) few)))
      | inr le ↦
          rw (get_or_past (packed bits) (length bits / 8) 0 (omega (arith, length-packed bits)))
          (small_quotient 0 (2 ^ (length bits % 8)) (some_power (length bits % 8)))
    ]
