-- The claims of inbound streams that were answered. A claim is the origin of its stream and a
-- moment in nanoseconds; claims are listed the newest first.
use Rattle.std.specs.Prelude.{ℕ, nat_le, ◌≡◌, ◌==◌, Bool, true, false, if◌then◌else◌}
use Rattle.std.specs.Prelude.{List, [], ◌∷◌, map, unwrap_or}
use Rattle.std.specs.Duration.{as_nanos}
use Rattle.std.specs.List.{filter, IsDistinct}
use Rattle.std.specs.Map.{lookup, keys_of}
use Rattle.std.specs.Int.NonZero.{non_zero_u32_get}
use Rattle.p2p_driver.specs.declared.actions.Why.{Why}
use Rattle.p2p_driver.specs.declared.actions.Why.TheVariants as why
use Rattle.p2p_driver.specs.declared.pace.Pace.{Pace}
use Rattle.p2p_driver.specs.declared.rate.Rate.{Rate}
use Rattle.p2p_driver.specs.Rates.{IsAllowed, AreBefore, IsKept}

-- the moments that are kept, of all claims and of each origin, and for how many claims room is
-- promised
pub record AnswersView : Type 0 where
  pub all : ℕ
  pub of_origins : List (ℕ × ℕ)
  pub room : ℕ

-- .. but the room
abbrev pub roomless : AnswersView → AnswersView
roomless v = record v { room = 0 }

-- two origins are the same
abbrev pub is_origin : ℕ → ℕ → Bool
is_origin o q = o == q

-- the moment that is kept of an origin, or 0
abbrev pub kept_of : List (ℕ × ℕ) → ℕ → ℕ
kept_of of_origins o = unwrap_or (lookup (is_origin o) of_origins) 0

-- no origin stands twice
abbrev pub AreDistinct : List (ℕ × ℕ) → Type 0
AreDistinct of_origins = IsDistinct is_origin (keys_of of_origins)

-- what is left of a moment that is kept: nothing, once it is over
abbrev pub left_of : ℕ → ℕ → ℕ
left_of now kept = if nat_le kept now then 0 else kept

-- the moments of the claims of an origin
abbrev pub times_of : ℕ → List (ℕ × ℕ) → List ℕ
times_of o claims = map (λ c. c.1) (filter (λ c. is_origin c.0 o) claims)

-- one more may happen at a rate
abbrev pub IsAllowedAt : Rate → List ℕ → ℕ → Type 0
IsAllowedAt rate happened now =
    IsAllowed (non_zero_u32_get rate.burst) (as_nanos rate.refill) happened now

-- a moment is kept of what happened at a rate
abbrev pub IsKeptAt : Rate → ℕ → List ℕ → ℕ → Type 0
IsKeptAt rate now happened kept =
    IsKept (non_zero_u32_get rate.burst) (as_nanos rate.refill) now happened kept

module _ (pace : Pace) where
  -- a claim of the origin may be answered at a moment, by those that were
  pub record MayAnswer (now o : ℕ) (claims : List (ℕ × ℕ)) : Type 0 where
    pub all : IsAllowedAt pace.answers (map (λ c. c.1) claims) now
    pub of_origin : IsAllowedAt pace.answers_of_address (times_of o claims) now

  -- what is kept of these claims at a moment
  pub record AreKept (now : ℕ) (claims : List (ℕ × ℕ)) (v : AnswersView) : Type 0 where
    pub all : IsKeptAt pace.answers now (map (λ c. c.1) claims) v.all
    pub each : (o : ℕ) →
        IsKeptAt pace.answers_of_address now (times_of o claims) (kept_of v.of_origins o)

  -- each of these claims might be answered when it was, and none was before an earlier one
  abbrev pub AreAnswered : List (ℕ × ℕ) → Type 0
  AreAnswered [] = Unit {0}
  AreAnswered (c ∷ claims) = MayAnswer c.1 c.0 claims
      × AreBefore c.1 (map (λ c. c.1) claims) × AreAnswered claims

  -- why a claim of the origin isn't answered, by whether its peer may come in: that one may not, or
  -- too many were answered
  abbrev pub IsClaimRefusal : ℕ → ℕ → List (ℕ × ℕ) → Bool → Why → Type 0
  IsClaimRefusal now o claims may why.NotGranted = may ≡ false
  IsClaimRefusal now o claims may why.Crowded = (may ≡ true) × (MayAnswer now o claims → ⊥)
  IsClaimRefusal now o claims may _ = ⊥
