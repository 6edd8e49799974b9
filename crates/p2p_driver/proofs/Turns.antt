-- Which set is asked for next.
use Rattle.std.proofs.Common.{◌≡◌, ℕ, zero, suc, Bool, true, false, cond, List, [], ◌∷◌, Option, Some, None, find, drop, slice_get, refl, sym, ◌∙◌, ap}
use Rattle.std.specs.Prelude.{length}
use Rattle.p2p_discovery.specs.Judgement.{first_of}
use Rattle.p2p_tracker.specs.Calls.{SetAt}
use Rattle.p2p_tracker.specs.PeerSets.{index_at, is_above}
use Rattle.p2p_driver.specs.Questions.{is_some_above, next_set}

module _ {C : Type 0} (last : Option ℕ) where
  abbrev above : SetAt C → Bool
  above x = is_above x.index last

  -- one that is above is the first of those that are left
  found : (sets : List (SetAt C)) (k : ℕ) → is_some_above last (index_at sets k) ≡ true →
      (x : SetAt C) × (slice_get sets k ≡ Some x) × (find above (drop k sets) ≡ Some x)
  found [] k is = absurd cc
  found (x ∷ xs) zero is = (x, refl, ap (λ b. cond b (Some x) (find above xs)) is)
  found (x ∷ xs) (suc k) is = found xs k is

  -- one that isn't is passed
  pub passed : (sets : List (SetAt C)) (k : ℕ) → is_some_above last (index_at sets k) ≡ false →
      find above (drop k sets) ≡ find above (drop (suc k) sets)
  passed [] k is = none k
    where
      none : (k : ℕ) → find above (drop k []) ≡ None
      none zero = refl
      none (suc k) = refl
  passed (x ∷ xs) zero is = ap (λ b. cond b (Some x) (find above xs)) is
  passed (x ∷ xs) (suc k) is = passed xs k is

  past_all : (sets : List (SetAt C)) → find above (drop (length sets) sets) ≡ None
  past_all [] = refl
  past_all (x ∷ xs) = past_all xs

  -- so it is the next
  pub turn : (sets : List (SetAt C)) (k : ℕ) → find above sets ≡ find above (drop k sets) →
      is_some_above last (index_at sets k) ≡ true → slice_get sets k ≡ next_set last sets
  turn sets k all is = let one = found sets k is in
      one.1 ∙ sym (ap (λ o. first_of o (slice_get sets 0)) (all ∙ one.2))

  -- if there is none, the first of all is
  pub turn_over : (sets : List (SetAt C)) (k : ℕ) → find above sets ≡ find above (drop k sets) → k ≡ length sets →
      slice_get sets 0 ≡ next_set last sets
  turn_over sets k all end =
      sym (ap (λ o. first_of o (slice_get sets 0)) (all ∙ ap (λ n. find above (drop n sets)) end ∙ past_all sets))
