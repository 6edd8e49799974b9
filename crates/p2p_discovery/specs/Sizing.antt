-- How many peers there are, each counted once.
use Rattle.std.specs.Prelude.{◌≡◌, ℕ, ◌↔◌, ◌⊎◌, List, length, Option, Some}
use Rattle.std.specs.declared.cmp.Ordering.{Ordering}
use Rattle.std.specs.List.{Contains}
use Rattle.std.specs.List.Sorted.{IsStrictlySortedBy}

-- The list is sorted without repeats, and holds exactly the members of both lists and the one more.
pub record IsUnion {P : Type 0} (cmp : P → P → Ordering) (primary secondary : List P)
    (extension : Option P) (all : List P) : Type 0 where
  pub sorted : IsStrictlySortedBy cmp all
  pub holds : (q : P)
      → Contains all q ↔ (Contains primary q ⊎ (Contains secondary q ⊎ (extension ≡ Some q)))

-- so many members has the union
abbrev pub IsUnionSize : {P : Type 0} → (P → P → Ordering) → List P → List P → Option P → ℕ → Type 0
IsUnionSize {P} cmp primary secondary extension size =
    (all : List P) × IsUnion cmp primary secondary extension all × (size ≡ length all)
