-- The links of a driver: peers with what is kept of the link of each, in the order of their keys.
-- Moments and durations are nanoseconds.
use Rattle.std.specs.Prelude.{ℕ, ◌≡◌, ◌≤◌, ◌+◌, ◌&&◌, ◌||◌, max, min, nat_le, nat_lt, Bool, true}
use Rattle.std.specs.Prelude.{false, List, [], ◌∷◌, ◌++◌, length, drop}
use Rattle.std.specs.Prelude.{Option, Some, None, option_map, unwrap_or, is_some, not}
use Rattle.std.specs.Prelude.{if◌then◌else◌}
use Rattle.std.specs.Duration.{as_nanos}
use Rattle.std.specs.List.{sum_by, count_by, fold}
use Rattle.std.specs.Map.{lookup, values_of}
use Rattle.std.specs.BTreeMap.{is_at}
use Rattle.std.specs.Option.{IsSomeAnd}
use Rattle.std.specs.declared.cmp.Ordering.{Ordering}
use Rattle.std.specs.declared.time.Duration.{Duration}
use Rattle.p2p_driver.specs.Arrivals.{lesser_of}
use Rattle.p2p_driver.specs.Looked.{LookedView, is_frame_of}
use Rattle.p2p_driver.specs.declared.links.Asked.{Asked}
use Rattle.p2p_driver.specs.declared.links.Change.{Change}
use Rattle.p2p_driver.specs.declared.links.Change.TheVariants as change
use Rattle.p2p_driver.specs.declared.links.Direction.{Direction}
use Rattle.p2p_driver.specs.declared.links.Direction.TheVariants.{Inbound, Dialing, Outbound}
use Rattle.p2p_driver.specs.declared.links.Direction.TheVariants.{TakenOver}
use Rattle.p2p_driver.specs.declared.links.Held.{Held}
use Rattle.p2p_driver.specs.declared.links.Phase.{Phase}
use Rattle.p2p_driver.specs.declared.links.Waiting.{Waiting}
use Rattle.p2p_driver.specs.declared.links.Phase.TheVariants.{Greeting, Open, Closing}
use Rattle.p2p_driver.specs.declared.pace.Pace.{Pace}

-- what is kept of the link of a peer, if it has one
abbrev pub link_of : {C : Type 0} → (C → C → Ordering) → List (C × Held) → C → Option Held
link_of cmp links q = lookup (is_at (cmp q)) links

-- how many actions a link still needs room for: its close, and once it is open, that it is down
abbrev pub need_of : Phase → ℕ
need_of Greeting = 1
need_of Open = 2
need_of Closing = 0

-- .. and a link that there may be
abbrev pub need_at : Option Held → ℕ
need_at link = unwrap_or (option_map (λ h. need_of h.phase) link) 0

-- .. and all links together
abbrev pub needs : {C : Type 0} → List (C × Held) → ℕ
needs links = sum_by (λ h. need_of h.phase) (values_of links)

-- HOW LINKS CAME ABOUT

-- one came about like another
abbrev pub is_way : Direction → Direction → Bool
is_way Inbound Inbound = true
is_way Dialing Dialing = true
is_way Outbound Outbound = true
is_way TakenOver TakenOver = true
is_way _ _ = false

-- it is a dial whose stream isn't proved
abbrev pub is_dialing : Held → Bool
is_dialing h = is_way Dialing h.direction

-- .. is proved
abbrev pub is_dialer : Held → Bool
is_dialer h = is_way Outbound h.direction

-- how many of these links came about so
abbrev pub count_of : {C : Type 0} → Direction → List (C × Held) → ℕ
count_of way links = count_by (λ h. is_way way h.direction) (values_of links)

-- how the link of a stream came about that took over a grant, by whether it has an outbound place
abbrev pub taken_way : Bool → Direction
taken_way true = TakenOver
taken_way false = Inbound

-- a link that begins: its peer hasn't greeted, and nothing was heard of it, or asked. These frames
-- are said on it at once
abbrev pub begun : Direction → ℕ → Duration → List Duration → Held
begun direction number since unwritten = record {
  number = number;
  direction = direction;
  phase = Greeting;
  since = since;
  heard = since;
  owed = 0;
  waiting = None;
  asked = record { at = since; index = None; rounds = 0 };
  looked = None;
  unwritten = unwritten;
}

-- that of a stream that came in: the own greeting is said on it at once
abbrev pub link_as : Direction → ℕ → Duration → Held
link_as direction number since = begun direction number since (since ∷ [])

-- .. if it has an inbound place
abbrev pub link_with : ℕ → Duration → Held
link_with number since = link_as Inbound number since

-- .. of a dial
abbrev pub dial_with : ℕ → Duration → Held
dial_with number since = begun Dialing number since []

-- a dial is outbound once its stream is proved
abbrev pub proved_way : Direction → Direction
proved_way Inbound = Inbound
proved_way Dialing = Outbound
proved_way Outbound = Outbound
proved_way TakenOver = TakenOver

-- what is kept of it then, if it is proved at t: its peer counts as heard
abbrev pub reached : Duration → Held → Held
reached t h = record h {
  direction = proved_way h.direction;
  since = t;
  heard = t;
  waiting = None;
}

-- the phase once the peer has greeted
abbrev pub greeted : Phase → Phase
greeted Greeting = Open
greeted Open = Open
greeted Closing = Closing

-- what is kept of a link for later: nothing, once it was closed
abbrev pub unless_closing : {A : Type 0} → Phase → Option A → Option A
unless_closing Closing kept = None
unless_closing phase kept = kept

-- what is kept of a link once its peer was heard: when, how many questions are owed then, and what
-- waits. No frame may be handed in then, before it is asked for
abbrev pub hearing : Duration → ℕ → Option Waiting → Held → Held
hearing t owed waiting h = record h {
  heard = t;
  owed = owed;
  waiting = unless_closing h.phase waiting;
  looked = None;
}

-- .. and has greeted: what is kept of its questions then
abbrev pub opened : Duration → ℕ → Asked → Held → Held
opened t owed asked h = record h {
  phase = greeted h.phase;
  heard = t;
  owed = owed;
  waiting = None;
  asked = asked;
  looked = None;
}

-- .. once this frame may be handed in
abbrev pub allowing : LookedView → Held → Held
allowing looked h = record h { looked = unless_closing h.phase (Some looked) }

-- .. once its peer was asked: how many questions are owed then, and what is kept of them
abbrev pub asking : ℕ → Asked → Held → Held
asking owed asked h = record h { owed = owed; asked = asked }

-- these frames that aren't written, once one more is said, if one is
abbrev pub with_said : Option Duration → List Duration → List Duration
with_said None unwritten = unwritten
with_said (Some t) unwritten = unwritten ++ t ∷ []

-- .. once a frame is said on it, if one is: when
abbrev pub saying : Option Duration → Held → Held
saying t h = record h { unwritten = with_said t h.unwritten }

-- .. once the oldest frame that was said is written
abbrev pub writing : Held → Held
writing h = record h { unwritten = drop 1 h.unwritten }

-- another frame may be said on it, if at most so many aren't written
abbrev pub has_room : ℕ → Held → Bool
has_room queue h = nat_lt (length h.unwritten) queue

-- .. on a link that there may be
abbrev pub has_room_at : ℕ → Option Held → Bool
has_room_at queue link = unwrap_or (option_map (has_room queue) link) false

-- .. and once it was closed
abbrev pub closed : Held → Held
closed h = record h { phase = Closing; waiting = None; looked = None }

-- what becomes of a link by a change of it
abbrev pub changed : Change → Held → Held
changed (change.Opens t owed asked) h = opened t owed asked h
changed (change.Hears t owed waiting) h = hearing t owed waiting h
changed (change.Asks owed asked) h = asking owed asked h
changed (change.Looks looked) h = allowing looked h
changed change.Writes h = writing h
changed change.Closes h = closed h

-- the peer hasn't greeted yet
abbrev pub is_greeting : Phase → Bool
is_greeting Greeting = true
is_greeting Open = false
is_greeting Closing = false

-- .. and nothing of it waits
abbrev pub is_ungreeted : Held → Bool
is_ungreeted h = is_greeting h.phase && not (is_some h.waiting)

-- the link isn't closed
abbrev pub is_timed : Phase → Bool
is_timed Greeting = true
is_timed Open = true
is_timed Closing = false

-- the frame is the one that may be handed in on a link
abbrev pub is_expected_by : Option LookedView → List ℕ → Bool
is_expected_by None frame = false
is_expected_by (Some looked) frame = is_frame_of looked frame

abbrev pub is_expected : List ℕ → Held → Bool
is_expected frame h = is_expected_by h.looked frame

-- .. the link isn't closed, and it isn't
abbrev pub is_unexpected : List ℕ → Held → Bool
is_unexpected frame h = is_timed h.phase && not (is_expected frame h)

-- 1 if there is a link whose peer hasn't greeted, else 0
abbrev pub one_if_greeting : Option Held → ℕ
one_if_greeting link =
    unwrap_or (option_map (λ h. if is_greeting h.phase then 1 else 0) link) 0

-- so long a peer may take that hasn't greeted: to its proof, if it was dialled, which takes some
-- time, or to its greeting
abbrev pub greets_in : Pace → Direction → ℕ
greets_in pace Inbound = as_nanos pace.greeting
greets_in pace Dialing = max (as_nanos pace.handshake) 1
greets_in pace Outbound = as_nanos pace.greeting
greets_in pace TakenOver = as_nanos pace.greeting

-- by when the peer of a link has to be heard: before it has greeted, and while nothing of it
-- waits, so long after its proof, or after a dial of it began; else so long after it was heard last
abbrev pub hear_by : Pace → Held → ℕ
hear_by pace h = if is_ungreeted h then as_nanos h.since + greets_in pace h.direction
    else as_nanos h.heard + as_nanos pace.silence

-- by when the oldest of these frames has to be written, if there is one: so long after it was said,
-- which takes some time
abbrev pub write_by : ℕ → List Duration → Option ℕ
write_by silence [] = None
write_by silence (t ∷ later) = Some (as_nanos t + max silence 1)

-- by when something has to come of a link: the earlier of these
abbrev pub due : Pace → Held → ℕ
due pace h = lesser_of (write_by (as_nanos pace.silence) h.unwritten) (hear_by pace h)

-- a frame was said before a moment, or at it, and isn't written
abbrev pub is_unwritten_since : ℕ → List Duration → Bool
is_unwritten_since moment [] = false
is_unwritten_since moment (t ∷ later) = nat_le (as_nanos t) moment

-- a link that is late is slow, not silent: the peer hasn't greeted, or a frame is late that was
-- said before the peer was heard last
abbrev pub is_slow : Held → Bool
is_slow h = is_ungreeted h || is_unwritten_since (as_nanos h.heard) h.unwritten

-- a link is late: it isn't closed, and its time is over
abbrev pub is_late : Pace → ℕ → Held → Bool
is_late pace now h = is_timed h.phase && nat_le (due pace h) now

-- the peer has greeted, and the link isn't closed
abbrev pub is_open : Phase → Bool
is_open Greeting = false
is_open Open = true
is_open Closing = false

-- when a peer is to be asked next: a tick after it was asked last, which takes some time
abbrev pub ask_at : ℕ → Held → ℕ
ask_at tick h = as_nanos h.asked.at + max tick 1

-- a peer is to be asked: its link is open, and it is time
abbrev pub is_to_ask : ℕ → ℕ → Held → Bool
is_to_ask tick now h = is_open h.phase && nat_le (ask_at tick h) now

-- how many of them are
abbrev pub to_ask : {C : Type 0} → ℕ → ℕ → List (C × Held) → ℕ
to_ask tick now links = count_by (is_to_ask tick now) (values_of links)

-- when something is due of a link next: it is late, or its peer is to be asked
abbrev pub next_of : Pace → Held → ℕ
next_of pace h =
    if is_open h.phase then min (due pace h) (ask_at (as_nanos pace.tick) h) else due pace h

-- the moment, or that of a link, if that is sooner and the link isn't closed
abbrev pub sooner_of : (Held → ℕ) → Option ℕ → Held → Option ℕ
sooner_of moment next h = if is_timed h.phase then Some (lesser_of next (moment h)) else next

-- the least of the moment and those of these links
abbrev pub least_due : (Held → ℕ) → Option ℕ → List Held → Option ℕ
least_due moment next held = fold (sooner_of moment) next held

-- WHAT HOLDS OF ALL LINKS
module _ {C : Type 0} (cmp : C → C → Ordering) (links : List (C × Held)) where
  -- two links with one number are of one peer
  abbrev pub AreNumbered : Type 0
  AreNumbered = (p q : C) (g h : Held) → link_of cmp links p ≡ Some g →
      link_of cmp links q ≡ Some h → g.number ≡ h.number → is_at (cmp p) q ≡ true

  -- equal keys are of one peer
  abbrev pub AreAlike : Type 0
  AreAlike = (p q : C) → is_at (cmp p) q ≡ true → link_of cmp links p ≡ link_of cmp links q

  -- the peers that are kept by number are those of the links
  pub record AreInverse (at : ℕ → Option C) : Type 0 where
    pub forth : (n : ℕ) (p : C) → at n ≡ Some p →
        IsSomeAnd (link_of cmp links p) (λ h. h.number ≡ n)
    pub back : (q : C) (h : Held) → link_of cmp links q ≡ Some h →
        IsSomeAnd (at h.number) (λ p. is_at (cmp p) q ≡ true)

-- the least of the moments of the links that aren't closed, if there is one
module _ {C : Type 0} (cmp : C → C → Ordering) (moment : Held → ℕ) (links : List (C × Held)) where
  abbrev pub IsLeastDue : Option ℕ → Type 0
  IsLeastDue None = (q : C) (h : Held) → link_of cmp links q ≡ Some h →
      is_timed h.phase ≡ false
  IsLeastDue (Some least) =
      ((q : C) (h : Held) → link_of cmp links q ≡ Some h → is_timed h.phase ≡ true →
      least ≤ moment h)
      × ((q : C) × (h : Held) × (link_of cmp links q ≡ Some h)
      × (is_timed h.phase ≡ true) × (moment h ≡ least))
