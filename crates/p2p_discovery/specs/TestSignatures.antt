-- Signatures of the test keys. There is no security in them.
use Rattle.std.specs.Prelude.{ℕ, ◌+◌, ◌*◌, ◌%◌, ◌^◌, List, fold}

-- what one byte makes of a number
abbrev pub next_of : ℕ → ℕ → ℕ
next_of number byte = (number * 257 + byte + 1) % 2 ^ 64

-- what bytes make of a number, one after the other
abbrev pub mix_of : ℕ → List ℕ → ℕ
mix_of number bytes = fold next_of number bytes

-- the signature's number: what namespace and message make of the key's number
abbrev pub signature_of : ℕ → List ℕ → List ℕ → ℕ
signature_of key namespace message = mix_of (mix_of key namespace) message
