-- Bits with the index of the set that they are about: their spelling, and how a limit reads them.
use Rattle.std.specs.Prelude.{ℕ, ◌≤◌, ◌<◌, ◌^◌, Bool, false, not, ◌==◌, if◌then◌else◌, List, ◌++◌}
use Rattle.std.specs.Prelude.{length, nat_le}
use Rattle.p2p_discovery.specs.declared.codec.error.CodecError.TheVariants.{InvalidLength, Invalid}
use Rattle.p2p_discovery.specs.declared.codec.error.What.TheVariants as what
use Rattle.p2p_discovery.specs.declared.discovery.BitVec.{BitVec}
use Rattle.p2p_discovery.specs.Reading.{Reading, ◌>>=◌, reads, refuses, takes_memory, checked}
use Rattle.p2p_discovery.specs.Reading.{counted_at}
use Rattle.p2p_discovery.specs.Fields.{◌&◌}
use Rattle.p2p_discovery.specs.Varint.{varint64, varint64_at}
use Rattle.p2p_discovery.specs.Bits.{bits_in, byte_count, padding_of, packed}

-- the index, the number of bits, the bytes of the bits
abbrev pub bit_vec_spelling : BitVec → List ℕ
bit_vec_spelling v = varint64 v.index ++ (varint64 (length v.bits) ++ packed v.bits)

-- The limit allows so many bits, and so does the wire.
pub record IsBitVecAllowed (limit : ℕ) (v : BitVec) : Type 0 where
  pub within : length v.bits ≤ limit
  pub small : length v.bits < 2 ^ 64

-- The first n bits of bytes that hold no other one. They take memory where there are any.
abbrev pub unpacked : ℕ → List ℕ → List ℕ → Reading (List Bool)
unpacked n bytes rest =
    if padding_of n bytes == 0 then takes_memory (not (n == 0)) (bits_in bytes n) rest
    else refuses (Invalid what.Padding) rest

-- as many bits as the limit allows; their number is judged before anything behind it
unfoldable pub bits_read_at : ℕ → List ℕ → Reading (List Bool)
bits_read_at limit =
    (varint64_at >>= checked false (λ n. nat_le n limit) InvalidLength)
    >>= λ n. counted_at (byte_count n) >>= unpacked n

unfoldable pub bit_vec_read_at : ℕ → List ℕ → Reading BitVec
bit_vec_read_at limit = (varint64_at & bits_read_at limit) >>=
    λ p. reads (record { index = p.0; bits = p.1 })
