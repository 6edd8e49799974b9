-- Bits packed into bytes: bit i stands in byte i / 8, as its bit of weight 2 ^ (i mod 8).
use Rattle.std.specs.Prelude.{◌≡◌, ℕ, ◌+◌, ◌*◌, ◌/◌, ◌%◌, ◌^◌, ◌≤◌, Bool, false, ◌==◌}
use Rattle.std.specs.Prelude.{if◌then◌else◌, List, [], ◌∷◌, length, take, drop, map, slice_index}
use Rattle.std.specs.Int.{bit_at}
use Rattle.std.specs.List.{range_with_len}

-- whether the bit at a place is set; behind the bytes none is
abbrev pub bit_in : List ℕ → ℕ → Bool
bit_in bytes i = bit_at (slice_index bytes (i / 8)) (i % 8) == 1

-- the first bits of the bytes, so many of them
unfoldable pub bits_in : List ℕ → ℕ → List Bool
bits_in bytes n = map (bit_in bytes) (range_with_len 0 n)

-- the least number of bytes that holds so many bits
abbrev pub byte_count : ℕ → ℕ
byte_count n = (n + 7) / 8

-- the bits behind the first n in the byte that the last of these stand in, as a number
abbrev pub padding_of : ℕ → List ℕ → ℕ
padding_of n bytes = slice_index bytes (n / 8) / 2 ^ (n % 8)

-- No more bytes than n bits need, and no bit behind these is set.
pub record IsPacked (n : ℕ) (bytes : List ℕ) : Type 0 where
  pub len : length bytes ≡ byte_count n
  pub rest : (i : ℕ) → n ≤ i → bit_in bytes i ≡ false

-- a number by its bits, the least significant first
abbrev pub number_of : List Bool → ℕ
number_of [] = 0
number_of (b ∷ bits) = (if b then 1 else 0) + 2 * number_of bits

-- the bytes of bits, eight in each
unfoldable pub packed : List Bool → List ℕ
packed bits =
    map (λ j. number_of (take 8 (drop (8 * j) bits)))
    (range_with_len 0 (byte_count (length bits)))
