-- Keys and signatures that are arrays of bytes, or one byte below a bound: how they are spelled.
use Rattle.std.specs.Prelude.{ℕ, List, [], ◌∷◌, ◌++◌, take, replicate, Option, Some, None, nat_lt}
use Rattle.std.specs.Prelude.{if◌then◌else◌}

-- an array of n bytes is spelled as it stands; any other list is brought to this length
abbrev pub array_spelling : ℕ → List ℕ → List ℕ
array_spelling n bytes = take n (bytes ++ replicate n 0)

-- the number that one byte spells, which is below a bound
abbrev pub number_below : ℕ → List ℕ → Option ℕ
number_below bound [] = None
number_below bound (b ∷ bytes) = if nat_lt b bound then Some b else None
