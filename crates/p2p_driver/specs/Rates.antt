-- How often something may happen: a burst at once, and one more for each refill that passes.
-- Moments and durations are nanoseconds. What happened is the list of its moments, the newest
-- first.
use Rattle.std.specs.Prelude.{ℕ, ◌≡◌, ◌+◌, ◌-◌, ◌*◌, ◌≤◌, ◌⊎◌, ◌&&◌, nat_le, max, List, [], ◌∷◌}
use Rattle.std.specs.Prelude.{Some}
use Rattle.std.specs.List.{slice_get, count_by}

-- none of these moments is later than now
abbrev pub AreBefore : ℕ → List ℕ → Type 0
AreBefore now happened = (k a : ℕ) → slice_get happened k ≡ Some a → a ≤ now

-- how many of these moments are in the window that begins at a moment and has a length
abbrev pub count_in : ℕ → ℕ → List ℕ → ℕ
count_in from size happened = count_by (λ m. nat_le from m && nat_le m (from + size)) happened

module _ (burst refill : ℕ) where
  -- one more may happen now: from each earlier moment up to now, both counted, at most a burst
  -- happens, and one more for each refill that passed
  abbrev pub IsAllowed : List ℕ → ℕ → Type 0
  IsAllowed happened now = (k a : ℕ) → slice_get happened k ≡ Some a →
      (k + 2) * refill ≤ burst * refill + (now - a)

  -- each of them was allowed when it happened, and no moment is before an earlier one's
  abbrev pub AreAllowed : List ℕ → Type 0
  AreAllowed [] = Unit {0}
  AreAllowed (a ∷ happened) = IsAllowed happened a × AreBefore a happened × AreAllowed happened

  -- what is kept of them at a moment: when the last one ends, if each begins at its moment, or when
  -- the one before ends, and lasts a refill. Once that is over, any earlier moment says as much
  pub record IsKept (now : ℕ) (happened : List ℕ) (full_at : ℕ) : Type 0 where
    pub before : AreBefore now happened
    pub least : (k a : ℕ) → slice_get happened k ≡ Some a → a + (k + 1) * refill ≤ max full_at now
    pub reached : (full_at ≤ now) ⊎ ((k : ℕ) × (a : ℕ)
        × (slice_get happened k ≡ Some a) × (full_at ≡ a + (k + 1) * refill))
