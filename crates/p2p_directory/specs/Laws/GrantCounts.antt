-- How often a peer is granted within a while, by the replies to a run: its commands and replies are
-- in order, the oldest first.
use Rattle.std.specs.Prelude.{ℕ, ◌+◌, ◌*◌, ◌≤◌, ◌<◌, Bool, false, nat_le, ◌&&◌, if◌then◌else◌}
use Rattle.std.specs.Prelude.{suc, List, ◌∷◌, Option, Some, None}
use Rattle.std.specs.Duration.{max_nanos}
use Rattle.p2p_tracker.specs.Calls.{Settings, Call}
use Rattle.p2p_directory.specs.declared.run.commands.Reply.{Reply}
use Rattle.p2p_directory.specs.Laws.Grants.{moment_or}
use Rattle.p2p_directory.specs.Laws.GrantRuns.{granted_by}

-- a grant, if there is one, was made at a moment from t to t + w, both included
abbrev pub is_within : ℕ → ℕ → Option (ℕ × ℕ) → Bool
is_within t w None = false
is_within t w (Some grant) = nat_le t grant.0 && nat_le grant.0 (t + w)

-- one more than n, where that is so
abbrev pub number_within : ℕ → ℕ → Option (ℕ × ℕ) → ℕ → ℕ
number_within t w granted n = if is_within t w granted then suc n else n

module _ {C S : Type 0} (s : Settings C S) where
  -- with n grants of p from t to t + w before: as long as the moments of the commands that may
  -- grant, block, end a block or forget never go back, the cooldown times their number is at most w
  -- and one more cooldown
  abbrev pub RunGrantsFew : C → ℕ → ℕ → ℕ → ℕ → List (Call C S) → List (Reply C S) → Type 0
  RunGrantsFew p t w now n (c ∷ cs) (r ∷ rs) = (now ≤ moment_or s now c) →
      (number_within t w (granted_by s p c r) n * s.cooldown ≤ w + s.cooldown)
      × RunGrantsFew p t w (moment_or s now c) (number_within t w (granted_by s p c r) n) cs rs
  RunGrantsFew p t w now n _ _ = Unit {0}

  -- .. for each while that ends before the greatest moment, at which the cooldown is capped away
  abbrev pub KeepGrantsFew : C → List (Call C S) → List (Reply C S) → Type 0
  KeepGrantsFew p cs rs = (t w : ℕ) → t + w < max_nanos → RunGrantsFew p t w 0 0 cs rs
