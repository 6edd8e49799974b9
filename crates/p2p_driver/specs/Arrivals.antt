-- The inbound streams whose key isn't proved yet. Moments and durations are nanoseconds.
use Rattle.std.specs.Prelude.{ℕ, ◌≡◌, ◌==◌, ◌≤◌, ◌<◌, ◌+◌, ◌-◌, ◌&&◌, ◌||◌, not, nat_le, nat_lt}
use Rattle.std.specs.Prelude.{min}
use Rattle.std.specs.Prelude.{Bool, if◌then◌else◌, find, map}
use Rattle.std.specs.Prelude.{List, [], ◌∷◌, ◌++◌, length, Option, Some, None, is_some, option_map}
use Rattle.std.specs.Duration.{as_nanos}
use Rattle.std.specs.List.{count_by, filter, list_all, slice_get}
use Rattle.p2p_driver.specs.declared.origin.Origin.{Origin}
use Rattle.std.specs.declared.time.Duration.{Duration}
use Rattle.p2p_driver.specs.declared.arrivals.Arrival.{Arrival}
use Rattle.p2p_driver.specs.declared.arrivals.Room.{Room}
use Rattle.p2p_driver.specs.declared.arrivals.Room.TheVariants as room
use Rattle.p2p_driver.specs.declared.pace.Pace.{Pace}

-- the first of these, if there is one
abbrev pub or_else : {A : Type 0} → Option A → Option A → Option A
or_else None other = other
or_else (Some a) other = Some a

-- the room of another, if one gives way
abbrev pub room_of_other : Option ℕ → Room
room_of_other None = room.None
room_of_other (Some number) = room.Of number

-- the lesser of a moment and another, if there is another
abbrev pub lesser_of : Option ℕ → ℕ → ℕ
lesser_of None moment = moment
lesser_of (Some other) moment = min other moment

module _ {K : Type 0} where
  -- the stream has the number
  abbrev pub has_number : ℕ → Arrival K → Bool
  has_number number a = a.number == number

  -- it hasn't said whose it is
  abbrev pub is_unclaimed : Arrival K → Bool
  is_unclaimed a = not (is_some a.claim)

  -- it is counted by the origin
  abbrev pub is_of : Origin → Arrival K → Bool
  is_of origin a = a.origin.0 == origin.0

  -- it came longer ago than this
  abbrev pub is_older : ℕ → ℕ → Arrival K → Bool
  is_older grace now a = nat_lt grace (now - as_nanos a.came)

  -- by when it has to claim, or if it has, to be proved
  abbrev pub deadline_of : ℕ → ℕ → Arrival K → ℕ
  deadline_of first handshake a =
      as_nanos a.came + (if is_some a.claim then handshake else min first handshake)

  -- the first moment at which one of them is late, if there is one
  abbrev pub IsLeastDeadline : ℕ → ℕ → List (Arrival K) → Option ℕ → Type 0
  IsLeastDeadline first handshake arrivals None = arrivals ≡ []
  IsLeastDeadline first handshake arrivals (Some least) =
      ((k : ℕ) (a : Arrival K) → slice_get arrivals k ≡ Some a →
      least ≤ deadline_of first handshake a)
      × ((k : ℕ) × (a : Arrival K)
      × (slice_get arrivals k ≡ Some a) × (deadline_of first handshake a ≡ least))

-- WHO GIVES WAY
module _ {K : Type 0} (grace now : ℕ) (arrivals : List (Arrival K)) where
  -- how many of those that came longer ago than the grace are of the origin
  abbrev pub count_older : Origin → ℕ
  count_older origin = count_by (λ a. is_older grace now a && is_of origin a) arrivals

  -- no other has an origin of which more came longer ago
  abbrev pub has_most : Arrival K → Bool
  has_most a = list_all (λ other. not (is_older grace now other)
      || nat_le (count_older other.origin) (count_older a.origin)) arrivals

  -- one of those from which one gives way
  abbrev pub is_crowded : Arrival K → Bool
  is_crowded a = is_older grace now a && has_most a

  -- the number of the one that gives way: the first that hasn't claimed, else the first
  abbrev pub crowded_of : Option ℕ
  crowded_of = option_map (λ a. a.number) (or_else
      (find (λ a. is_crowded a && not (is_some a.claim)) arrivals)
      (find is_crowded arrivals))

  -- the stream came longer ago than the grace, its origin has so many of these, and it hasn't
  -- claimed, or that doesn't matter
  abbrev pub gives_way : ℕ → Bool → Arrival K → Bool
  gives_way most all a = (is_older grace now a && nat_le most (count_older a.origin))
      && (all || not (is_some a.claim))

-- WHAT BECOMES OF THEM
module _ {K : Type 0} where
  -- a stream that came, and hasn't claimed
  abbrev pub arrival_of : ℕ → Origin → Duration → Arrival K
  arrival_of number origin came =
      record { number = number; origin = origin; came = came; claim = None }

  -- whether there is room for one from the origin
  abbrev pub room_of : Pace → ℕ → List (Arrival K) → Origin → Room
  room_of pace now arrivals origin = if nat_le pace.by_address (count_by (is_of origin) arrivals)
      then room.None
      else if nat_lt (length arrivals) pace.arrivals then room.Free
      else room_of_other (crowded_of (as_nanos pace.grace) now arrivals)

  -- those that are kept once one came, by the room for it
  abbrev pub arrived : Arrival K → Room → List (Arrival K) → List (Arrival K)
  arrived new room.None arrivals = arrivals
  arrived new room.Free arrivals = arrivals ++ new ∷ []
  arrived new (room.Of number) arrivals =
      filter (λ a. not (has_number number a)) arrivals ++ new ∷ []

  -- a stream that has claimed to be the peer's if it has the number
  abbrev pub with_claim : ℕ → K → Arrival K → Arrival K
  with_claim number peer a = if has_number number a then record a { claim = Some peer } else a

  -- the streams once the one with the number, if there is one, has claimed to be the peer's
  abbrev pub claimed : ℕ → K → List (Arrival K) → List (Arrival K)
  claimed number peer arrivals = map (with_claim number peer) arrivals

-- LAWS
module _ {K : Type 0} (grace now : ℕ) (arrivals : List (Arrival K)) where
  -- one of them has the number, and came longer ago than the grace
  abbrev pub Gives : ℕ → Type 0
  Gives n = (k : ℕ) × (a : Arrival K) × (slice_get arrivals k ≡ Some a) × (a.number ≡ n)
      × (grace < now - as_nanos a.came)

  -- all of them came within the grace
  abbrev pub AreYoung : Type 0
  AreYoung = (k : ℕ) (a : Arrival K) → slice_get arrivals k ≡ Some a → now - as_nanos a.came ≤ grace
