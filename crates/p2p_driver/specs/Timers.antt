-- Timers: what is late, and what a driver does of it when time passes.
use Rattle.std.specs.Prelude.{ℕ, ◌≡◌, ◌+◌, ◌<◌, ◌&&◌, ◌||◌, not, max, min, Bool, true, false}
use Rattle.std.specs.Prelude.{List, [], ◌∷◌, ◌++◌, slice_get, if◌then◌else◌}
use Rattle.std.specs.Prelude.{length, find, Option, Some, None, option_map, is_some}
use Rattle.std.specs.Prelude.{Result, Ok, Err}
use Rattle.std.specs.Result.{is_ok}
use Rattle.std.specs.List.{count_by, list_all}
use Rattle.std.specs.Duration.{as_nanos, max_nanos}
use Rattle.std.specs.declared.alloc.AllocError.{AllocError}
use Rattle.std.specs.declared.cmp.Ordering.{Ordering}
use Rattle.std.specs.declared.time.Duration.{Duration}
use Rattle.p2p_tracker.specs.Directory.{dial_moment_in}
use Rattle.p2p_tracker.specs.Lists.{IsLeastOf}
use Rattle.p2p_tracker.specs.Seen.{unblock_of, cooldown_of}
use Rattle.p2p_directory.specs.Received.{Wire}
use Rattle.p2p_driver.specs.Arrivals.{has_number, deadline_of, IsLeastDeadline}
use Rattle.p2p_driver.specs.Drivers.{DriverView, Does, DoesAll, AreFreedAt}
use Rattle.p2p_driver.specs.Grants.{kept_grant, is_cooled, IsLeastCooled}
use Rattle.p2p_driver.specs.Happenings.{Happening}
use Rattle.p2p_driver.specs.Links.{link_of, count_of, is_late, needs, is_to_ask, to_ask, next_of}
use Rattle.p2p_driver.specs.Links.{IsLeastDue}
use Rattle.p2p_driver.specs.Steps.{dials_by, is_before}
use Rattle.p2p_discovery.specs.declared.types.ingress.Ingress.{Ingress}
use Rattle.p2p_driver.specs.declared.arrivals.Arrival.{Arrival}
use Rattle.p2p_driver.specs.declared.driver.dialing.Dialed.{Dialed}
use Rattle.p2p_driver.specs.declared.driver.dialing.Dialed.TheVariants as dialed
use Rattle.p2p_driver.specs.declared.links.Direction.TheVariants.{Dialing}
use Rattle.p2p_driver.specs.declared.links.Held.{Held}
use Rattle.p2p_driver.specs.declared.questions.Question.{Question}

module _ {C S : Type 0} where
  -- by it a stream or a link is closed that is late at t
  abbrev pub IsLateAt : Duration → Happening C S → Type 0
  IsLateAt t (Happening.StreamLate n at) = at ≡ t
  IsLateAt t (Happening.LinkLate n p at) = at ≡ t
  IsLateAt t _ = ⊥

  -- .. by each of them
  abbrev pub AreLateAt : Duration → List (Happening C S) → Type 0
  AreLateAt t [] = Unit {0}
  AreLateAt t (e ∷ es) = IsLateAt t e × AreLateAt t es

  -- by it a peer is asked that is to be asked at t
  abbrev pub IsAskedAt : Duration → Happening C S → Type 0
  IsAskedAt t (Happening.Asked n p at owed fits question) = at ≡ t
  IsAskedAt t _ = ⊥

  -- .. by each of them
  abbrev pub AreAskedAt : Duration → List (Happening C S) → Type 0
  AreAskedAt t [] = Unit {0}
  AreAskedAt t (e ∷ es) = IsAskedAt t e × AreAskedAt t es

  -- the peer was asked, or the queue of its link had no room: memory was there for it
  abbrev pub was_asked : Happening C S → Bool
  was_asked (Happening.Asked n p at owed fits question) = is_some question || not fits
  was_asked _ = true

  -- a dial begins
  abbrev pub is_dial : Happening C S → Bool
  is_dial (Happening.Dialed n p at draw word ingress) = true
  is_dial _ = false

  -- by it a dial begins at t, by the word at position k of these, or memory is refused for one
  abbrev pub IsDialedAt : Duration → List ℕ → ℕ → Happening C S → Type 0
  IsDialedAt t words k (Happening.Dialed n p at draw word ingress) =
      (at ≡ t) × (slice_get words k ≡ Some word)
  IsDialedAt t words k (Happening.Undialed at) = at ≡ t
  IsDialedAt t words k _ = ⊥

  -- .. by each of them, the newest first: each dial by the word after that of the dial before it
  abbrev pub AreDialedAt : Duration → List ℕ → List (Happening C S) → Type 0
  AreDialedAt t words [] = Unit {0}
  AreDialedAt t words (e ∷ es) =
      IsDialedAt t words (count_by is_dial es) e × AreDialedAt t words es

  -- memory was there for a dial, if it is one
  abbrev pub was_dialed : Happening C S → Bool
  was_dialed (Happening.Undialed at) = false
  was_dialed _ = true

  -- how much there is that may be late: streams, and what links need
  abbrev pub pending : DriverView C S → ℕ
  pending v = length v.arrivals + needs v.links

-- the later of a moment and another, if there is one
abbrev pub not_before : ℕ → Option ℕ → Option ℕ
not_before moment other = option_map (λ m. max m moment) other

-- from when on it is looked for somebody to dial, if that may be of use: not before it is tried
-- again since memory was refused
abbrev pub dial_at : {C S : Type 0} → DriverView C S → Option ℕ
dial_at v = not_before v.next_dial.retry (option_map as_nanos v.next_dial.from)

-- somebody is to be dialled at t, if somebody may be: it is time, and a dial has a place
abbrev pub is_to_dial : {C S : Type 0} → ℕ → DriverView C S → Bool
is_to_dial t v = not (is_before t (dial_at v)) && dials_by v.pace v.links

-- .. nobody is
abbrev pub NoneToDial : {C S : Type 0} → ℕ → DriverView C S → Type 0
NoneToDial t v = is_to_dial t v ≡ false

-- from when on somebody may be dialled, while a dial has a place
abbrev pub dial_due : {C S : Type 0} → DriverView C S → Option ℕ
dial_due v = if dials_by v.pace v.links then dial_at v else None

module _ {C S : Type 0} (cmp : C → C → Ordering) where
  -- no stream is late at t, and no link
  pub record NoneLate (t : ℕ) (v : DriverView C S) : Type 0 where
    pub streams : (n : ℕ) (a : Arrival C) → find (has_number n) v.arrivals ≡ Some a →
        t < deadline_of (as_nanos v.pace.first) (as_nanos v.pace.handshake) a
    pub links : (p : C) (held : Held) → link_of cmp v.links p ≡ Some held →
        is_late v.pace t held ≡ false

  -- no peer is to be asked at t
  abbrev pub NoneToAsk : ℕ → DriverView C S → Type 0
  NoneToAsk t v = (p : C) (held : Held) → link_of cmp v.links p ≡ Some held →
      is_to_ask (as_nanos v.pace.tick) t held ≡ false

  -- no grant is kept whose cooldown is over at t
  abbrev pub NoneCooled : ℕ → DriverView C S → Type 0
  NoneCooled t v = (p : C) →
      is_cooled v.cooldown t (kept_grant cmp v.links v.next_dial.grants p) ≡ false

  -- .. none of these is due
  pub record NoneDue (t : ℕ) (v : DriverView C S) : Type 0 where
    pub late : NoneLate t v
    pub to_ask : NoneToAsk t v
    pub kept : NoneCooled t v

-- the earlier of two moments, if there are some
abbrev pub earlier : Option ℕ → Option ℕ → Option ℕ
earlier None other = other
earlier (Some m) None = Some m
earlier (Some m) (Some n) = Some (min m n)

-- a moment, in nanoseconds, as a `Duration` holds it: it isn't above the greatest
abbrev pub held_moment : Option ℕ → Option ℕ
held_moment moment = option_map (λ n. min n max_nanos) moment

-- the first moment at which something is due: a stream or a link is late, a peer is to be asked, a
-- block or a cooldown ends, that of a kept grant too, or it is to be looked for somebody to dial
pub record IsNextTimeout {C S : Type 0} (cmp : C → C → Ordering) (v : DriverView C S)
    (next : Option ℕ) : Type 0 where
  pub stream : Option ℕ
  pub link : Option ℕ
  pub kept : Option ℕ
  pub block : Option ℕ
  pub cooldown : Option ℕ
  pub streams :
      IsLeastDeadline (as_nanos v.pace.first) (as_nanos v.pace.handshake) v.arrivals stream
  pub links : IsLeastDue cmp (next_of v.pace) v.links link
  pub grants : IsLeastCooled cmp v.cooldown v.links v.next_dial.grants kept
  pub blocks : IsLeastOf (unblock_of cmp v.node.directory) block
  pub cooldowns : IsLeastOf (dial_moment_in cmp v.node.directory) cooldown
  pub next_is : next ≡ earlier (earlier (held_moment (dial_due v)) (held_moment kept))
      (earlier (earlier (held_moment stream) (held_moment link)) (earlier block cooldown))

-- but for the time, all is as it was: a driver and what it asked of its node, of which no block and
-- no cooldown ended
pub record IsAsBefore {C S : Type 0} (cmp : C → C → Ordering) (t : ℕ) (v v2 : DriverView C S) :
    Type 0 where
  pub rest : v2 ≡ record v { node = v2.node; latest = t }
  pub blocks : (p : C) →
      unblock_of cmp v2.node.directory p ≡ unblock_of cmp v.node.directory p
  pub cooldowns : (p : C) →
      cooldown_of cmp v2.node.directory p ≡ cooldown_of cmp v.node.directory p

module _ {C S : Type 0} (cmp : C → C → Ordering) (wire : Wire C S) where
  -- the grant that was kept of a peer is given up at t, at once
  pub record FreesOne (t : Duration) (v v2 : DriverView C S) : Type 0 where
    pub peer : C
    pub does : Does cmp wire (Happening.Released peer t) v v2
    pub rest : v2 ≡ record v { node = v2.node; next_dial = v2.next_dial }
    pub fewer : length v2.next_dial.grants < length v.next_dial.grants

  -- .. those of some are
  pub record FreesSome (t : Duration) (v v2 : DriverView C S) : Type 0 where
    pub happenings : List (Happening C S)
    pub are_freed : AreFreedAt t happenings
    pub does : DoesAll cmp wire happenings v v2
    pub rest : v2 ≡ record v { node = v2.node; next_dial = v2.next_dial }

  -- one that is late at t is closed, at once
  pub record ClosesOne (t : Duration) (v v2 : DriverView C S) : Type 0 where
    pub happening : Happening C S
    pub is_late : IsLateAt t happening
    pub does : Does cmp wire happening v v2
    pub latest : v2.latest ≡ v.latest
    pub fewer : pending v2 < pending v

  -- some that are late at t are closed, at once
  pub record ClosesLate (t : Duration) (v v2 : DriverView C S) : Type 0 where
    pub happenings : List (Happening C S)
    pub are_late : AreLateAt t happenings
    pub does : DoesAll cmp wire happenings v v2
    pub latest : v2.latest ≡ v.latest

  -- a peer is asked that is to be asked at t, at once, if the queue of its link has room: whether
  -- memory was there
  pub record AsksOne (t : Duration) (asked : Bool) (v v2 : DriverView C S) : Type 0 where
    pub number : ℕ
    pub peer : C
    pub owed : ℕ
    pub fits : Bool
    pub question : Option Question
    pub asked_is : (is_some question || not fits) ≡ asked
    pub does : Does cmp wire (Happening.Asked number peer t owed fits question) v v2
    pub latest : v2.latest ≡ v.latest
    pub pace : v2.pace ≡ v.pace
    pub late : NoneLate cmp (as_nanos t) v → NoneLate cmp (as_nanos t) v2
    pub fewer : let tick = as_nanos v.pace.tick in
        to_ask tick (as_nanos t) v2.links + 1 ≡ to_ask tick (as_nanos t) v.links

  -- some are asked that are to be asked at t, at once: whether memory was there for all
  pub record AsksAll (t : Duration) (result : Result (Unit {0}) AllocError)
      (v v2 : DriverView C S) : Type 0 where
    pub happenings : List (Happening C S)
    pub are_asked : AreAskedAt t happenings
    pub all : list_all was_asked happenings ≡ is_ok result
    pub does : DoesAll cmp wire happenings v v2
    pub latest : v2.latest ≡ v.latest

  -- a dial of p begins at t, by a random word
  pub record BeginsOne (t : Duration) (word : ℕ) (p : C) (v v2 : DriverView C S) : Type 0 where
    pub number : ℕ
    pub draw : Duration
    pub ingress : Ingress
    pub does : Does cmp wire (Happening.Dialed number p t draw word ingress) v v2
    pub latest : v2.latest ≡ v.latest
    pub pace : v2.pace ≡ v.pace
    pub late : NoneLate cmp (as_nanos t) v → NoneLate cmp (as_nanos t) v2
    pub to_ask : NoneToAsk cmp (as_nanos t) v → NoneToAsk cmp (as_nanos t) v2
    pub kept : NoneCooled cmp (as_nanos t) v → NoneCooled cmp (as_nanos t) v2
    pub more : count_of Dialing v2.links ≡ count_of Dialing v.links + 1

  -- .. or memory is refused, and nothing changes
  abbrev pub Begins : Duration → ℕ → C → Result (Unit {0}) AllocError → DriverView C S →
      DriverView C S → Type 0
  Begins t word p (Ok done) v v2 = BeginsOne t word p v v2
  Begins t word p (Err e) v v2 = v2 ≡ v

  -- it is looked for somebody to dial at t, with a random word: a dial begins, or memory is refused
  -- for one, or else nobody is to be dialled
  abbrev pub DialsOne : Duration → ℕ → Dialed → DriverView C S → DriverView C S → Type 0
  DialsOne t word dialed.Begun v v2 = (is_to_dial (as_nanos t) v ≡ true)
      × ((p : C) × BeginsOne t word p v v2)
  DialsOne t word dialed.Memory v v2 = (is_to_dial (as_nanos t) v ≡ true)
      × Does cmp wire (Happening.Undialed t) v v2
      × ((retry : ℕ) × (v2 ≡ record v { next_dial = record v.next_dial { retry = retry } }))
      × NoneToDial (as_nanos t) v2
  DialsOne t word dialed.Nobody v v2 = DoesAll cmp wire [] v v2
      × ((from : Option Duration)
      × (v2 ≡ record v { next_dial = record v.next_dial { from = from } }))
      × NoneToDial (as_nanos t) v2 × (NoneToDial (as_nanos t) v → v2 ≡ v)

  -- .. as often as there are words: whether memory was there
  pub record DialsAll (t : Duration) (words : List ℕ) (result : Result (Unit {0}) AllocError)
      (v v2 : DriverView C S) : Type 0 where
    pub happenings : List (Happening C S)
    pub are_dialed : AreDialedAt t words happenings
    pub all : list_all was_dialed happenings ≡ is_ok result
    pub does : DoesAll cmp wire happenings v v2
    pub latest : v2.latest ≡ v.latest

  -- at the later of the latest time and this one, what ends by then ends: cooldowns and blocks.
  -- Then some that are late are closed, then some are asked, then some grants that were kept are
  -- given up, and then some are dialled: whether memory was there for all
  pub record TimesOut (now : ℕ) (words : List ℕ) (result : Result (Unit {0}) AllocError)
      (v v2 : DriverView C S) : Type 0 where
    pub time : Duration
    pub time_is : as_nanos time ≡ max v.latest now
    pub late : List (Happening C S)
    pub are_late : AreLateAt time late
    pub asked : List (Happening C S)
    pub are_asked : AreAskedAt time asked
    pub freed : List (Happening C S)
    pub are_freed : AreFreedAt time freed
    pub dialed : List (Happening C S)
    pub are_dialed : AreDialedAt time words dialed
    pub all : (list_all was_asked asked && list_all was_dialed dialed) ≡ is_ok result
    pub does : DoesAll cmp wire
        (dialed ++ (freed ++ (asked ++ (late ++ Happening.Passed time ∷ [])))) v v2
