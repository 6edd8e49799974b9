-- The addresses of inbound streams, as they are counted. An address is the number of its 16 bytes,
-- of which the first is worth most.
use Rattle.std.specs.Prelude.{ℕ, ◌==◌, ◌*◌, ◌/◌, ◌^◌, Bool, ◌||◌, if◌then◌else◌}

-- the address is `::ffff:a.b.c.d` or `64:ff9b::a.b.c.d`
abbrev pub counts_whole : ℕ → Bool
counts_whole address = (address / 2 ^ 32 == 0xffff)
    || (address / 2 ^ 32 == 0x64ff9b * 2 ^ 64)

-- the part of an address that counts: all of it, or its first 64 bits
abbrev pub origin_of : ℕ → ℕ
origin_of address = if counts_whole address then address else address / 2 ^ 64 * 2 ^ 64
