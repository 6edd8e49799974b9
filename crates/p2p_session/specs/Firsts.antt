-- Keys whose first byte is one of a few: how they are read, and the laws of this.
use Rattle.std.proofs.Common.{◌≡◌, ℕ, ◌≤◌, Bool, true, false, List, [], ◌∷◌, Option, Some, None, refl, ap}
use Rattle.std.specs.Prelude.{◌==◌, if◌then◌else◌}
use Rattle.std.specs.List.{list_any}
use Rattle.p2p_discovery.specs.Arrays.{array_spelling}
use Rattle.p2p_discovery.specs.Laws.Arrays.{fixed_array}
use Rattle.p2p_discovery.specs.Fields.{IsSized}
use Rattle.p2p_discovery.specs.Fixed.{IsFixed}

-- the first byte is one of these
abbrev pub begins : List ℕ → List ℕ → Bool
begins firsts [] = false
begins firsts (b ∷ bytes) = list_any (λ f. b == f) firsts

-- the key of these bytes, if it may begin so
abbrev pub begun : List ℕ → List ℕ → Option (List ℕ)
begun firsts bytes = if begins firsts bytes then Some bytes else None

-- bytes of their number that begin so
abbrev pub IsBegun : List ℕ → ℕ → List ℕ → Type 0
IsBegun firsts n bytes = IsSized n bytes × (begins firsts bytes ≡ true)

array : (n : ℕ) → n ≤ 65535 → IsFixed n (array_spelling n) (λ b. Some b) (IsSized n)
array n small = fixed_array (λ (b : List ℕ). b) (λ b. b) (λ _. refl) (λ _. refl) n small

-- such arrays of bytes are values of a fixed number of bytes
pub fixed_begun : (firsts : List ℕ) (n : ℕ) → n ≤ 65535 →
    IsFixed n (array_spelling n) (begun firsts) (IsBegun firsts n)
fixed_begun firsts n small = record {
  small = small;
  len = (array n small).len;
  again = λ x h.
      let it = (array n small).again x h.0 in
      let same : array_spelling n x ≡ x = cc in
      rw same (h.0, ap (λ b. if b then Some x else None) h.1);
  only = λ b x h e. go b x h (begins firsts b) refl e;
}
  where
    go : (b x : List ℕ) → IsSized n b → (t : Bool) → begins firsts b ≡ t → (if t then Some b else None) ≡ Some x →
        IsBegun firsts n x × (array_spelling n x ≡ b)
    go b x h true is e =
        let it = (array n small).only b x h e in
        let same : b ≡ x = cc in
        rw (← same) ((h, is), ((array n small).only b b h refl).1)
    go b x h false is e = absurd (cc)
