-- The frames of links that may be read, by those that were, and the messages that may be said. A
-- frame is of gossip, or a message on the channel at a position: first those channels stand that
-- are read, and then the same ones, on which messages are said. Moments and durations are
-- nanoseconds.
use Rattle.std.specs.Prelude.{ℕ, ◌≡◌, ◌==◌, ◌≤◌, ◌<◌, ◌&&◌, Bool, true, false, if◌then◌else◌}
use Rattle.std.specs.Prelude.{List, [], ◌∷◌, ◌++◌, ◌+◌, length, map, slice_get}
use Rattle.std.specs.Prelude.{Option, Some, None}
use Rattle.std.specs.List.{list_any}
use Rattle.std.specs.Option.{IsSomeAnd}
use Rattle.std.specs.Duration.{as_nanos, max_nanos}
use Rattle.std.specs.declared.time.Duration.{Duration}
use Rattle.p2p_discovery.specs.declared.discovery.PayloadConfig.{PayloadConfig}
use Rattle.p2p_tracker.specs.History.{last_with}
use Rattle.p2p_driver.specs.Answers.{IsAllowedAt, IsKeptAt}
use Rattle.p2p_driver.specs.Frames.{Cause, Outcome}
use Rattle.p2p_driver.specs.Frames.Cause.{OfFrame, OfVerdicts, OfHead}
use Rattle.p2p_driver.specs.Happenings.{Happening}
use Rattle.p2p_driver.specs.Heads.{kind_of}
use Rattle.p2p_driver.specs.Links.{is_dialing, is_open, is_expected}
use Rattle.p2p_driver.specs.Looked.{LookedView, looked_of}
use Rattle.p2p_driver.specs.Meters.{MetersView}
use Rattle.p2p_driver.specs.Reads.{reads_of, kept_in}
use Rattle.p2p_driver.specs.declared.actions.Breach.TheVariants as breach
use Rattle.p2p_driver.specs.declared.heads.Kind.{Kind}
use Rattle.p2p_driver.specs.declared.heads.Kind.TheVariants as kind
use Rattle.p2p_driver.specs.declared.links.Held.{Held}
use Rattle.p2p_driver.specs.declared.pace.Channel.{Channel}
use Rattle.p2p_driver.specs.declared.pace.Pace.{Pace}
use Rattle.p2p_driver.specs.declared.rate.Rate.{Rate}

-- a frame of this kind is one of gossip, or of the channel at a position
abbrev pub is_of : Option ℕ → Kind → Bool
is_of None kind.Gossip = true
is_of (Some place) (kind.Message other) = other == place
is_of place k = false

-- .. and that is the kind of such a frame
abbrev pub kind_at_rate : Option ℕ → Kind
kind_at_rate None = kind.Gossip
kind_at_rate (Some place) = kind.Message place

-- the rate of a channel
abbrev pub rate_of : Channel → Rate
rate_of c = record { burst = c.burst; refill = c.refill }

-- the rates of the messages that are read, and then of those that are said
abbrev pub rates_of : List Channel → List Rate
rates_of channels = map rate_of channels ++ map rate_of channels

-- the rate of gossip, or of the channel at a position, if there is one
abbrev pub rate_at : Pace → Option ℕ → Option Rate
rate_at pace None = Some (record { burst = pace.burst; refill = pace.refill })
rate_at pace (Some place) = slice_get (rates_of pace.channels.items) place

-- at which position a message is said on a channel that stands at this one of the settings
abbrev pub said_at : List Channel → ℕ → ℕ
said_at channels place = place + length channels

module _ {C S : Type 0} where
  -- by it link n began: when
  abbrev pub begins_as : ℕ → Happening C S → Option Duration
  begins_as n (Happening.Proved m p t draw) = if m == n then Some t else None
  begins_as n (Happening.Adopted m p t outbound) = if m == n then Some t else None
  begins_as n (Happening.Dialed m p t draw word ingress) = if m == n then Some t else None
  begins_as n e = None

  -- .. it ended
  abbrev pub ends_as : ℕ → Happening C S → Bool
  ends_as n (Happening.Ended m p t direction) = m == n
  ends_as n (Happening.Failed m p t direction) = m == n
  ends_as n e = false

  -- by it a frame of link n may be read, or a message is said on it: when
  abbrev pub read_by : ℕ → Option ℕ → Happening C S → List ℕ
  read_by n place (Happening.Heard m p t owed cause (Outcome.Reads k looked)) =
      if (m == n) && is_of place k then as_nanos t ∷ [] else []
  read_by n place (Happening.Spoken m p t at) =
      if (m == n) && is_of place (kind.Message at) then as_nanos t ∷ [] else []
  read_by n place e = []

  -- .. the newest first
  abbrev pub read_in : ℕ → Option ℕ → List (Happening C S) → List ℕ
  read_in n place [] = []
  read_in n place (e ∷ h) = read_by n place e ++ read_in n place h

  -- what was done since link n began
  abbrev pub since_in : Option (Duration × List (Happening C S)) → List (Happening C S)
  since_in None = []
  since_in (Some found) = found.1

  -- when frames of link n were read, or said, since it began
  abbrev pub frames_read : ℕ → Option ℕ → List (Happening C S) → List ℕ
  frames_read n place h = read_in n place (since_in (last_with (begins_as n) h))

  -- WHAT IS KEPT of the frames that were read

  -- .. of link n, of gossip and of each channel, by what was done since it began
  pub record IsMetered (pace : Pace) (now n : ℕ) (since : List (Happening C S)) (m : MetersView) :
      Type 0 where
    pub count : length m.channels ≡ length pace.channels.items + length pace.channels.items
    pub kept : (place : Option ℕ) (rate : Rate) → rate_at pace place ≡ Some rate →
        IsKeptAt rate now (read_in n place since) (kept_in place m)

  -- .. if it hasn't ended: nothing is kept of one that has, or hasn't begun
  abbrev pub IsMeteredIf : Bool → Pace → ℕ → ℕ → List (Happening C S) → Option MetersView → Type 0
  IsMeteredIf true pace now n since o = o ≡ None
  IsMeteredIf false pace now n since o = IsSomeAnd o (IsMetered pace now n since)

  abbrev pub IsMeteredSince : Pace → ℕ → ℕ → Option (Duration × List (Happening C S)) →
      Option MetersView → Type 0
  IsMeteredSince pace now n None o = o ≡ None
  IsMeteredSince pace now n (Some found) o =
      IsMeteredIf (list_any (ends_as n) found.1) pace now n found.1 o

  abbrev pub AreMetered : Pace → ℕ → List (Happening C S) → List (ℕ × MetersView) → Type 0
  AreMetered pace now h reads = (n : ℕ) →
      IsMeteredSince pace now n (last_with (begins_as n) h) (reads_of reads n)

-- WHETHER A FRAME MAY BE READ

-- no frame more may be read now at a rate, nor before a moment. From then on one may, unless that
-- is the greatest moment there is
pub record IsDelayed (rate : Rate) (happened : List ℕ) (now next : ℕ) : Type 0 where
  pub refused : ¬ (IsAllowedAt rate happened now)
  pub before : (moment : ℕ) → now ≤ moment → moment < next → ¬ (IsAllowedAt rate happened moment)
  pub bound : next ≤ max_nanos
  pub from : next < max_nanos → (moment : ℕ) → next ≤ moment → IsAllowedAt rate happened moment

module _ {C S : Type 0} (pace : Pace) (h : List (Happening C S)) (n now : ℕ) where
  -- .. by the rate for it and by what was read: a frame of this kind, which is then to be this one
  abbrev pub IsInTurn : Option ℕ → LookedView → Outcome C S → Type 0
  IsInTurn place l (Outcome.Reads k looked) = (k ≡ kind_at_rate place) × (looked ≡ l)
      × IsSomeAnd (rate_at pace place) (λ rate. IsAllowedAt rate (frames_read n place h) now)
  IsInTurn place l (Outcome.Delays next) =
      IsSomeAnd (rate_at pace place) (λ rate. IsDelayed rate (frames_read n place h) now next)
  IsInTurn place l outcome = ⊥

  -- what comes of a frame of a kind that is to come, which is to be this one
  abbrev pub ComesOfKind : Kind → LookedView → Outcome C S → Type 0
  ComesOfKind kind.NoGreeting l (Outcome.Breaks breach.NoGreeting blocked) = Unit {0}
  ComesOfKind kind.TooLong l (Outcome.Breaks breach.FrameLength blocked) = Unit {0}
  ComesOfKind kind.NoChannel l Outcome.LacksChannel = Unit {0}
  ComesOfKind kind.Greeting l (Outcome.Reads k looked) = (k ≡ kind.Greeting) × (looked ≡ l)
  ComesOfKind kind.Gossip l outcome = IsInTurn None l outcome
  ComesOfKind (kind.Message place) l outcome = IsInTurn (Some place) l outcome
  ComesOfKind k l outcome = ⊥

  -- the cause was in its turn: a frame is the one that may be handed in, and whether one may be
  -- read follows of its first bytes and its length, on a link whose stream is proved
  abbrev pub IsPaced : PayloadConfig → Held → Cause → Outcome C S → Type 0
  IsPaced limits held (OfFrame frame wall) outcome = is_expected frame held ≡ true
  IsPaced limits held (OfVerdicts verdicts) outcome = Unit {0}
  IsPaced limits held (OfHead longest head size) outcome = (is_dialing held ≡ false) × ComesOfKind
      (kind_of longest pace.channels.items limits (is_open held.phase) head size)
      (looked_of head size) outcome
