-- Bits beside peers: a list of pairs.
use Rattle.std.specs.Prelude.{ℕ, zero, suc, Bool, false, List, [], ◌∷◌}

-- no bit is set
abbrev pub unset : {P : Type 0} → List P → List (P × Bool)
unset [] = []
unset (x ∷ xs) = (x, false) ∷ unset xs

-- the bit at a place is this one, where there is such a place
abbrev pub with_bit : {P : Type 0} → List (P × Bool) → ℕ → Bool → List (P × Bool)
with_bit [] i b = []
with_bit (e ∷ es) zero b = (e.0, b) ∷ es
with_bit (e ∷ es) (suc i) b = e ∷ with_bit es i b
