-- Which words name a row.
use Rattle.std.specs.Prelude.{ℕ, ◌≡◌, List, [], ◌∷◌, codes}
use Rattle.std.specs.List.{Contains}

-- the numbers of the rows that there are
abbrev pub rows : List (List ℕ)
rows =
    codes "1" ∷ codes "2" ∷ codes "3" ∷ codes "4" ∷ codes "5" ∷ codes "6" ∷ codes "7"
    ∷ codes "8" ∷ codes "9" ∷ codes "10" ∷ codes "11" ∷ codes "12" ∷ codes "13" ∷ codes "14"
    ∷ codes "15" ∷ codes "16" ∷ codes "17" ∷ codes "18" ∷ codes "19" ∷ codes "20" ∷ codes "21"
    ∷ codes "22" ∷ codes "23" ∷ codes "24" ∷ []

-- one word, which is one of these
pub record IsRow (words : List (List ℕ)) : Type 0 where
  pub word : List ℕ
  pub alone : words ≡ word ∷ []
  pub listed : Contains rows word
