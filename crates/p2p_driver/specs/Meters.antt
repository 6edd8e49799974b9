-- What is kept of the frames that were read of one link, and when one more may be. Moments are
-- nanoseconds.
use Rattle.std.specs.Prelude.{ℕ, ◌≤◌, ◌<◌, ◌-◌, ◌*◌, List, ◌∷◌}
use Rattle.std.specs.Duration.{as_nanos, max_nanos}
use Rattle.std.specs.Int.NonZero.{non_zero_u32_get}
use Rattle.p2p_driver.specs.declared.rate.Rate.{Rate}
use Rattle.p2p_driver.specs.Answers.{IsAllowedAt, IsKeptAt}

-- the moments that are kept: of gossip, and of each channel, in the order of the settings
pub record MetersView : Type 0 where
  pub gossip : ℕ
  pub channels : List ℕ

-- the first moment from which one more may be read at a rate, by what is kept of it
abbrev pub next_of : Rate → ℕ → ℕ
next_of rate kept = kept - (non_zero_u32_get rate.burst - 1) * as_nanos rate.refill

-- one more may be read at this moment, and is kept
abbrev pub IsRead : Rate → ℕ → ℕ → ℕ → Type 0
IsRead rate now old new = (happened : List ℕ) → IsKeptAt rate now happened old →
    IsAllowedAt rate happened now × IsKeptAt rate now (now ∷ happened) new

-- one more may happen at this moment at a rate, and then one more at once, by what is kept
abbrev pub MayTwice : Rate → ℕ → ℕ → Type 0
MayTwice rate now kept = (happened : List ℕ) → IsKeptAt rate now happened kept →
    IsAllowedAt rate (now ∷ happened) now

-- one more may not be read at this moment, nor at any before `next`, by what is kept. From `next`
-- on it may, unless that is the greatest moment there is
pub record IsEarly (rate : Rate) (now kept next : ℕ) : Type 0 where
  pub refused : (happened : List ℕ) → IsKeptAt rate now happened kept →
      ¬ (IsAllowedAt rate happened now)
  pub before : (happened : List ℕ) (moment : ℕ) → IsKeptAt rate moment happened kept →
      moment < next → ¬ (IsAllowedAt rate happened moment)
  pub from : (happened : List ℕ) (moment : ℕ) → IsKeptAt rate moment happened kept →
      next < max_nanos → next ≤ moment → IsAllowedAt rate happened moment
