-- A track may be held against the latest retained set alone.
use Rattle.std.proofs.Common.{◌≡◌, ℕ, suc, ◌+◌, Bool, true, List, [], ◌∷◌, length, drop, Option, Some, None, refl, sym, ◌∙◌, ap, arith}
use Rattle.std.specs.Prelude.{nat_lt}
use Rattle.std.specs.List.{list_all, last_or}
use Rattle.std.proofs.lemmas.List.{drop-drop, length-drop}
use Rattle.std.proofs.Math.Bool.{and-true}
use Rattle.p2p_tracker.specs.Calls.{Settings, Call, SetAt}
use Rattle.p2p_tracker.specs.History
use Rattle.p2p_tracker.specs.World
use Rattle.p2p_directory.proofs.Definitions.Law.{below, Decided, decided_past}

-- the index is above that of this set, if there is one
abbrev pub is_above : {C : Type 0} → ℕ → Option (SetAt C) → Bool
is_above index None = true
is_above index (Some x) = nat_lt x.index index

last_alone : {C : Type 0} (index : ℕ) (x : SetAt C) (xs : List (SetAt C)) →
    list_all (below index) (drop (length xs) (x ∷ xs)) ≡ is_above index (last_or (Some x) xs)
last_alone index x [] = and-true (nat_lt x.index index)
last_alone index x (y ∷ ys) =
    let size : length (y ∷ ys) ≡ suc (length ys) = omega arith in
    ap (λ k. list_all (below index) (drop k (x ∷ y ∷ ys))) size ∙ last_alone index y ys

latest_of_decided : {C : Type 0} (index : ℕ) (xs : List (SetAt C)) → Decided xs → list_all (below index) xs ≡ is_above index (last_or None xs)
latest_of_decided index [] d = refl
latest_of_decided index (x ∷ xs) d = sym (d index (length xs) (omega arith)) ∙ last_alone index x xs

decided_drop : {C : Type 0} (j : ℕ) (xs : List (SetAt C)) → Decided xs → Decided (drop j xs)
decided_drop j xs d = λ index k lt.
    let size = length-drop j xs in
    ap (list_all (below index)) (drop-drop k j xs) ∙ d index (j + k) (omega (arith, size, lt)) ∙ sym (d index j (omega (arith, size, lt)))

module _ {C S : Type 0} (s : Settings C S) where
  -- what is above the latest retained set is above each retained set
  pub latest_decides : (cs : List (Call C S)) (index : ℕ) →
      list_all (λ x. nat_lt x.index index) (History.retained_sets s (World.past s cs))
      ≡ is_above index (last_or None (History.retained_sets s (World.past s cs)))
  latest_decides cs index =
      latest_of_decided index (History.retained_sets s (World.past s cs))
      (decided_drop _ (History.taken_sets s (World.past s cs)) (decided_past s cs))
