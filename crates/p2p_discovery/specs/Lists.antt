-- Values one after the other, behind their number.
use Rattle.std.specs.Prelude.{ℕ, zero, suc, Bool, ◌&&◌, ◌||◌, nat_lt, nat_le, List, [], ◌∷◌, ◌++◌}
use Rattle.std.specs.Prelude.{length}
use Rattle.p2p_discovery.specs.declared.codec.error.RangeCfg.{RangeCfg}
use Rattle.p2p_discovery.specs.Reading.{Reading, ◌>>=◌, reads}
use Rattle.p2p_discovery.specs.Varint.{varint32}
use Rattle.p2p_discovery.specs.Counted.{length_at}

-- the spellings, one after the other
unfoldable pub spellings : {A : Type 0} → (A → List ℕ) → List A → List ℕ
spellings sp [] = []
spellings sp (x ∷ xs) = sp x ++ spellings sp xs

-- the length, then the values
abbrev pub list_spelling : {A : Type 0} → (A → List ℕ) → List A → List ℕ
list_spelling sp xs = varint32 (length xs) ++ spellings sp xs

-- so many values
unfoldable pub elems : {A : Type 0} → (List ℕ → Reading A) → ℕ → List ℕ → Reading (List A)
elems r zero = reads []
elems r (suc n) = r >>= λ x. elems r n >>= λ xs. reads (x ∷ xs)

-- there is room for one at least of so many values, each of at least so many bytes
abbrev pub has_room : ℕ → ℕ → List ℕ → Bool
has_room n least rest = nat_lt 0 n && nat_le least (length rest)

-- so many values, for which room is asked first where there is some
unfoldable pub items_at : {A : Type 0} → ℕ → (List ℕ → Reading A) → ℕ → List ℕ → Reading (List A)
items_at least r n rest = record {
  outcome = (elems r n rest).outcome;
  grows = has_room n least rest || (elems r n rest).grows;
}

-- a list within a limit, each of whose values has at least so many bytes
unfoldable pub list_at : {A : Type 0} → RangeCfg → ℕ → (List ℕ → Reading A)
    → List ℕ → Reading (List A)
list_at limit least r = length_at limit >>= items_at least r
