-- What a driver did, and what follows of it by looking back: the calls of its node, the streams,
-- the links, and what was said. A history is the list of what was done, the newest first.
use Rattle.std.specs.Prelude.{ℕ, ◌==◌, ◌+◌, ◌-◌, ◌&&◌, not, Bool, true, false, if◌then◌else◌}
use Rattle.std.specs.Prelude.{List, [], ◌∷◌, ◌++◌, drop, Option, Some, None, option_map, unwrap_or}
use Rattle.std.specs.Prelude.{max, is_some}
use Rattle.std.specs.List.{list_any, count_by}
use Rattle.std.specs.BTreeMap.{is_at}
use Rattle.std.specs.Duration.{as_nanos}
use Rattle.std.specs.declared.cmp.Ordering.{Ordering}
use Rattle.std.specs.declared.time.Duration.{Duration}
use Rattle.p2p_discovery.specs.Ordered.{has_key}
use Rattle.p2p_tracker.specs.Calls.{Settings, Call}
use Rattle.p2p_tracker.specs.Calls.Call.{Track, Dial, Listen, Connect, Release, Update, Block}
use Rattle.p2p_tracker.specs.Calls.Call.{UnblockExpired, ForgetCooled}
use Rattle.p2p_tracker.specs.History.{same, last_with}
use Rattle.p2p_driver.specs.Questions.{asked_after, counted}
use Rattle.p2p_driver.specs.Frames.{Cause, Outcome, waiting_by}
use Rattle.p2p_driver.specs.Links.{closed, opened, hearing, allowing, saying, with_said}
use Rattle.p2p_driver.specs.Links.{unless_closing, is_slow, is_way, proved_way, taken_way}
use Rattle.p2p_driver.specs.Grants.{unless_linked}
use Rattle.p2p_driver.specs.Looked.{LookedView}
use Rattle.p2p_discovery.specs.declared.discovery.Info.{Info}
use Rattle.p2p_discovery.specs.declared.types.ingress.Ingress.{Ingress}
use Rattle.p2p_driver.specs.declared.actions.Action.{Action}
use Rattle.p2p_driver.specs.declared.actions.Breach.{Breach}
use Rattle.p2p_driver.specs.declared.actions.Action.TheVariants as action
use Rattle.p2p_driver.specs.declared.actions.Event.TheVariants as event
use Rattle.p2p_driver.specs.declared.actions.Why.{Why}
use Rattle.p2p_driver.specs.declared.actions.Why.TheVariants as why
use Rattle.p2p_driver.specs.declared.arrivals.Arrival.{Arrival}
use Rattle.p2p_driver.specs.declared.arrivals.Room.{Room}
use Rattle.p2p_driver.specs.declared.arrivals.Room.TheVariants as room
use Rattle.p2p_driver.specs.declared.links.Asked as questions
use Rattle.p2p_driver.specs.declared.links.Direction.{Direction}
use Rattle.p2p_driver.specs.declared.links.Direction.TheVariants as way
use Rattle.p2p_driver.specs.declared.links.Held.{Held}
use Rattle.p2p_driver.specs.declared.links.Waiting.{Waiting}
use Rattle.p2p_driver.specs.declared.links.Phase.{Phase}
use Rattle.p2p_driver.specs.declared.links.Phase.TheVariants as phase
use Rattle.p2p_driver.specs.declared.origin.Origin.{Origin}
use Rattle.p2p_driver.specs.declared.questions.Question.{Question}

-- what a driver did in one call, or in one part of a call
pub data Happening (C S : Type 0) : Type 0 where
  -- a stream came from an origin at t, and got the number n: by what room there was
  Arrived : (n : ℕ) (origin : Origin) (t : Duration) (space : Room) → Happening C S
  -- stream n said at t that it is p's, and goes on
  Claimed : (n : ℕ) (p : C) (origin : Origin) (t : Duration) → Happening C S
  -- .. or it is closed for this
  Refused : (n : ℕ) (p : C) (t : Duration) (why : Why) → Happening C S
  -- stream n was proved at t to be p's, and p is reserved: the stream is a link of p then
  Proved : (n : ℕ) (p : C) (t draw : Duration) → Happening C S
  -- .. or it is closed for this
  Unproved : (n : ℕ) (p : C) (t : Duration) (why : Why) → Happening C S
  -- stream n was proved at t to be p's, of whom a grant is kept: p stays reserved, and the stream
  -- is a link of p then, which has an outbound place or an inbound one
  Adopted : (n : ℕ) (p : C) (t : Duration) (outbound : Bool) → Happening C S
  -- stream n ended before it was proved
  Left : (n : ℕ) (t : Duration) → Happening C S
  -- at t a dial of p began, at an address, and p is reserved: link n of p, chosen by a random word
  Dialed : (n : ℕ) (p : C) (t draw : Duration) (word : ℕ) (ingress : Ingress) → Happening C S
  -- at t memory was refused for a dial
  Undialed : (t : Duration) → Happening C S
  -- the stream of dial n was proved at t to be p's, whom it was for
  Reached : (n : ℕ) (p : C) (t : Duration) → Happening C S
  -- .. to be another's than p's: it is closed
  Mistaken : (n : ℕ) (p : C) (t : Duration) → Happening C S
  -- link n of p ended, which came about so, and p is released
  Ended : (n : ℕ) (p : C) (t : Duration) (direction : Direction) → Happening C S
  -- .. on which p hasn't greeted, and p stays reserved: the grant of that dial is kept
  Failed : (n : ℕ) (p : C) (t : Duration) (direction : Direction) → Happening C S
  -- the grant that was kept of p is given up at t, and p is released
  Released : (p : C) (t : Duration) → Happening C S
  -- a set came at t that was accepted, and tears down these peers
  SetCame : (t : Duration) (index : ℕ) (primary secondary torn : List C) → Happening C S
  -- a set came that was not accepted
  StaleSetCame : (index : ℕ) (primary secondary : List C) → Happening C S
  -- stream n is late at t
  StreamLate : (n : ℕ) (t : Duration) → Happening C S
  -- link n of p is late at t
  LinkLate : (n : ℕ) (p : C) (t : Duration) → Happening C S
  -- at t the peer p of link n was heard, and this came of it: so many questions are owed then
  Heard : (n : ℕ) (p : C) (t : Duration) (owed : ℕ) (cause : Cause) (outcome : Outcome C S) →
      Happening C S
  -- a question was due at t for the peer p of link n, and asked if its queue had room, and memory
  -- was there: so many questions are owed then
  Asked : (n : ℕ) (p : C) (t : Duration) (owed : ℕ) (fits : Bool) (question : Option Question) →
      Happening C S
  -- the oldest frame that the host took of link n of p, and that wasn't written, is written at t
  Written : (n : ℕ) (p : C) (t : Duration) → Happening C S
  -- the application said a message on link n of p at t: on the channel at a position
  Spoken : (n : ℕ) (p : C) (t : Duration) (place : ℕ) → Happening C S
  -- infos came at t from the application
  Given : (infos : List (Info C S)) (t : Duration) → Happening C S
  -- the application blocked p at t: whether that was taken
  Barred : (p : C) (t : Duration) (taken : Bool) → Happening C S
  -- the application parts from p at t
  Parted : (p : C) (t : Duration) → Happening C S
  -- what ends by t ended: cooldowns and blocks
  Passed : (t : Duration) → Happening C S
  -- the host took an action
  Taken : (action : Action C) → Happening C S

-- the stream gave way, by the room that there was for another
abbrev pub gave_way : ℕ → Room → Bool
gave_way n (room.Of m) = m == n
gave_way n _ = false

module _ {C S : Type 0} where
  -- WHEN

  -- when it was, if that is told
  abbrev pub time_by : Happening C S → Option Duration
  time_by (Happening.Arrived n origin t space) = Some t
  time_by (Happening.Claimed n p origin t) = Some t
  time_by (Happening.Refused n p t why) = Some t
  time_by (Happening.Proved n p t draw) = Some t
  time_by (Happening.Unproved n p t why) = Some t
  time_by (Happening.Adopted n p t outbound) = Some t
  time_by (Happening.Left n t) = Some t
  time_by (Happening.Dialed n p t draw word ingress) = Some t
  time_by (Happening.Undialed t) = Some t
  time_by (Happening.Reached n p t) = Some t
  time_by (Happening.Mistaken n p t) = Some t
  time_by (Happening.Ended n p t direction) = Some t
  time_by (Happening.Failed n p t direction) = Some t
  time_by (Happening.Released p t) = Some t
  time_by (Happening.SetCame t index primary secondary torn) = Some t
  time_by (Happening.StaleSetCame index primary secondary) = None
  time_by (Happening.StreamLate n t) = Some t
  time_by (Happening.LinkLate n p t) = Some t
  time_by (Happening.Heard n p t owed cause outcome) = Some t
  time_by (Happening.Asked n p t owed fits question) = Some t
  time_by (Happening.Written n p t) = Some t
  time_by (Happening.Spoken n p t place) = Some t
  time_by (Happening.Given infos t) = Some t
  time_by (Happening.Barred p t taken) = Some t
  time_by (Happening.Parted p t) = Some t
  time_by (Happening.Passed t) = Some t
  time_by (Happening.Taken action) = None

  -- the latest time, in nanoseconds: that of the newest that has one
  abbrev pub latest_of : Option (Duration × List (Happening C S)) → ℕ
  latest_of None = 0
  latest_of (Some found) = as_nanos found.0

  abbrev pub latest_at : List (Happening C S) → ℕ
  latest_at h = latest_of (last_with time_by h)

  -- THE CALLS OF THE NODE

  -- .. since the peer p of a link was heard at t
  abbrev pub calls_for : C → Duration → Outcome C S → List (Call C S)
  calls_for p t (Outcome.Greets dialer info question) =
      Connect p dialer ∷ Update (info ∷ []) ∷ []
  calls_for p t (Outcome.Takes infos) = Update infos ∷ []
  calls_for p t (Outcome.Breaks breach (Some taken)) = Block p (as_nanos t) ∷ []
  calls_for p t outcome = []

  -- what was called of the node, the newest call first
  abbrev pub calls_by : Happening C S → List (Call C S)
  calls_by (Happening.Proved n p t draw) = Listen p (as_nanos t) (as_nanos draw) ∷ []
  calls_by (Happening.Dialed n p t draw word ingress) =
      Dial p (as_nanos t) (as_nanos draw) ∷ []
  calls_by (Happening.Ended n p t direction) = Release p ∷ []
  calls_by (Happening.Released p t) = Release p ∷ []
  calls_by (Happening.SetCame t index primary secondary torn) = Track index primary secondary ∷ []
  calls_by (Happening.StaleSetCame index primary secondary) = Track index primary secondary ∷ []
  calls_by (Happening.Heard n p t owed cause outcome) = calls_for p t outcome
  calls_by (Happening.Given infos t) = Update infos ∷ []
  calls_by (Happening.Barred p t taken) = Block p (as_nanos t) ∷ []
  calls_by (Happening.Passed t) = UnblockExpired (as_nanos t) ∷ ForgetCooled (as_nanos t) ∷ []
  calls_by _ = []

  abbrev pub calls_of : List (Happening C S) → List (Call C S)
  calls_of [] = []
  calls_of (e ∷ h) = calls_by e ++ calls_of h

  -- STREAMS THAT AREN'T PROVED

  -- it is a stream that came, or a dial that began
  abbrev pub is_new : Happening C S → Bool
  is_new (Happening.Arrived n origin t space) = true
  is_new (Happening.Dialed n p t draw word ingress) = true
  is_new _ = false

  -- the number of the next stream or dial: they rise from 1
  abbrev pub next_at : List (Happening C S) → ℕ
  next_at h = count_by is_new h + 1

  -- by it stream n came: from where, and when
  abbrev pub came_by : ℕ → Happening C S → Option (Origin × Duration)
  came_by n (Happening.Arrived m origin t space) = if m == n then Some (origin, t) else None
  came_by n _ = None

  -- by it stream n is no unproved stream any more
  abbrev pub leaves_by : ℕ → Happening C S → Bool
  leaves_by n (Happening.Arrived m origin t space) = gave_way n space
  leaves_by n (Happening.Refused m p t why) = m == n
  leaves_by n (Happening.Proved m p t draw) = m == n
  leaves_by n (Happening.Unproved m p t why) = m == n
  leaves_by n (Happening.Adopted m p t outbound) = m == n
  leaves_by n (Happening.Left m t) = m == n
  leaves_by n (Happening.StreamLate m t) = m == n
  leaves_by n _ = false

  -- whose it says that it is
  abbrev pub claim_by : ℕ → Happening C S → Option C
  claim_by n (Happening.Claimed m p origin t) = if m == n then Some p else None
  claim_by n _ = None

  -- whose stream n says that it is, if it has said so
  abbrev pub claim_in : ℕ → List (Happening C S) → Option C
  claim_in n since = option_map (λ found. found.0) (last_with (claim_by n) since)

  -- stream n, by where it is from and when it came, and what was done since
  abbrev pub stream_since : ℕ → Option ((Origin × Duration) × List (Happening C S)) →
      Option (Arrival C)
  stream_since n None = None
  stream_since n (Some found) = if list_any (leaves_by n) found.1 then None
      else Some (record {
        number = n;
        origin = found.0.0;
        came = found.0.1;
        claim = claim_in n found.1;
      })

  -- stream n, if it came and hasn't left
  abbrev pub stream_at : ℕ → List (Happening C S) → Option (Arrival C)
  stream_at n h = stream_since n (last_with (came_by n) h)

  -- the claims that were answered, of which origin and when, the newest first
  abbrev pub answered_by : Happening C S → List (ℕ × ℕ)
  answered_by (Happening.Claimed n p origin t) = (origin.0, as_nanos t) ∷ []
  answered_by _ = []

  abbrev pub answered_in : List (Happening C S) → List (ℕ × ℕ)
  answered_in [] = []
  answered_in (e ∷ h) = answered_by e ++ answered_in h

  -- HOW MANY LINKS THERE ARE

  -- it is a stream that came in and was proved, and has an inbound place
  abbrev pub is_proved : Happening C S → Bool
  is_proved (Happening.Proved n p t draw) = true
  is_proved (Happening.Adopted n p t outbound) = not outbound
  is_proved _ = false

  -- .. that has an outbound one
  abbrev pub is_taken_over : Happening C S → Bool
  is_taken_over (Happening.Adopted n p t outbound) = outbound
  is_taken_over _ = false

  -- .. a dial that began
  abbrev pub is_dialed : Happening C S → Bool
  is_dialed (Happening.Dialed n p t draw word ingress) = true
  is_dialed _ = false

  -- .. a dial whose stream was proved
  abbrev pub is_reached : Happening C S → Bool
  is_reached (Happening.Reached n p t) = true
  is_reached _ = false

  -- .. a link that ended, and that came about so
  abbrev pub is_ended : Direction → Happening C S → Bool
  is_ended direction (Happening.Ended n p t other) = is_way direction other
  is_ended direction (Happening.Failed n p t other) = is_way direction other
  is_ended direction _ = false

  -- inbound links: as many as were proved, less those that ended
  abbrev pub inbound_count : List (Happening C S) → ℕ
  inbound_count h = count_by is_proved h - count_by (is_ended way.Inbound) h

  -- dials under way: as many as began, less those that were proved, or ended before that
  abbrev pub dial_count : List (Happening C S) → ℕ
  dial_count h =
      count_by is_dialed h - (count_by is_reached h + count_by (is_ended way.Dialing) h)

  -- outbound places: as many as dials and streams that came in took, less those of links that ended
  abbrev pub outbound_count : List (Happening C S) → ℕ
  outbound_count h = (count_by is_dialed h + count_by is_taken_over h)
      - (count_by (is_ended way.Dialing) h + count_by (is_ended way.Outbound) h
      + count_by (is_ended way.TakenOver) h)

  -- .. and all links
  abbrev pub link_count : List (Happening C S) → ℕ
  link_count h = inbound_count h + outbound_count h

  -- by it memory was refused for a dial: when
  abbrev pub undialed_by : Happening C S → Option Duration
  undialed_by (Happening.Undialed t) = Some t
  undialed_by _ = None

  -- until when nobody is dialled since memory was refused: so long after it
  abbrev pub retry_of : ℕ → Option (Duration × List (Happening C S)) → ℕ
  retry_of tick None = 0
  retry_of tick (Some found) = as_nanos found.0 + max tick 1

  abbrev pub retry_at : ℕ → List (Happening C S) → ℕ
  retry_at tick h = retry_of tick (last_with undialed_by h)

-- how far a link is, by whether it was closed, and whether its peer has greeted
abbrev pub phase_of : Bool → Bool → Phase
phase_of true greeted = phase.Closing
phase_of false true = phase.Open
phase_of false false = phase.Greeting

-- by this outcome a link is closed
abbrev pub is_closing : {C S : Type 0} → Outcome C S → Bool
is_closing (Outcome.Breaks breach blocked) = true
is_closing Outcome.IsEarly = true
is_closing Outcome.LacksChannel = true
is_closing outcome = false

-- .. its peer counts as heard, and the link goes on: not by a frame that is only to come
abbrev pub is_heard : {C S : Type 0} → Outcome C S → Bool
is_heard (Outcome.Reads kind looked) = false
is_heard outcome = not (is_closing outcome)

-- the frame that may be handed in after it
abbrev pub looked_by : {C S : Type 0} → Outcome C S → Option LookedView
looked_by (Outcome.Reads kind looked) = Some looked
looked_by outcome = None

-- .. its peer has greeted
abbrev pub is_greeted : {C S : Type 0} → Outcome C S → Bool
is_greeted (Outcome.Greets dialer info question) = true
is_greeted outcome = false

-- when a question is said, if it was asked at t
abbrev pub said_with : Duration → Option Question → Option Duration
said_with t question = option_map (λ q. t) question

-- by this outcome a frame is said, if one is: when
abbrev pub said_as : {C S : Type 0} → Duration → Outcome C S → Option Duration
said_as t (Outcome.Greets dialer info question) = said_with t question
said_as t (Outcome.Answers reply) = Some t
said_as t outcome = None

-- what it makes of what is kept of the link of the peer that was heard at t, if so many questions
-- are owed then
abbrev pub heard_as : {C S : Type 0} → Duration → ℕ → Outcome C S → Held → Held
heard_as t owed (Outcome.Greets dialer info question) held =
    saying (said_with t question) (opened t owed (asked_after t question held.asked) held)
heard_as t owed (Outcome.Answers reply) held = saying (Some t) (hearing t owed None held)
heard_as t owed (Outcome.Breaks breach blocked) held = closed held
heard_as t owed Outcome.IsEarly held = closed held
heard_as t owed Outcome.LacksChannel held = closed held
heard_as t owed (Outcome.Reads kind looked) held = allowing looked held
heard_as t owed outcome held = hearing t owed (waiting_by outcome) held

-- a question was due since the peer was heard at t: it was asked if memory was there
abbrev pub tried_with : {C S : Type 0} → Duration → Outcome C S →
    Option (Duration × Option Question)
tried_with t (Outcome.Greets dialer info question) = Some (t, question)
tried_with t outcome = None

-- the index of the set that was asked for, if one was
abbrev pub index_tried : Option (Duration × Option Question) → Option ℕ
index_tried None = None
index_tried (Some (t, None)) = None
index_tried (Some (t, Some question)) = question.index

-- the newest set was asked for
abbrev pub newest_tried : Option (Duration × Option Question) → Bool
newest_tried None = false
newest_tried (Some (t, None)) = false
newest_tried (Some (t, Some question)) = question.newest

module _ {C S : Type 0} (s : Settings C S) where
  -- LINKS, of which a peer has one at most

  -- by it a link of p began: its number, how it came about, and when
  abbrev pub opened_by : C → Happening C S → Option (ℕ × Direction × Duration)
  opened_by p (Happening.Proved n q t draw) =
      if same s q p then Some (n, way.Inbound, t) else None
  opened_by p (Happening.Adopted n q t outbound) =
      if same s q p then Some (n, taken_way outbound, t) else None
  opened_by p (Happening.Dialed n q t draw word ingress) =
      if same s q p then Some (n, way.Dialing, t) else None
  opened_by p _ = None

  -- by it the stream of the dial of p was proved: when
  abbrev pub reached_by : C → Happening C S → Option Duration
  reached_by p (Happening.Reached n q t) = if same s q p then Some t else None
  reached_by p _ = None

  -- by it the link of p ended
  abbrev pub ends_by : C → Happening C S → Bool
  ends_by p (Happening.Ended n q t direction) = same s q p
  ends_by p (Happening.Failed n q t direction) = same s q p
  ends_by p _ = false

  -- by it the link of p was closed
  abbrev pub closes_by : C → Happening C S → Bool
  closes_by p (Happening.SetCame t index primary secondary torn) = has_key s.cmp torn p
  closes_by p (Happening.Mistaken n q t) = same s q p
  closes_by p (Happening.LinkLate n q t) = same s q p
  closes_by p (Happening.Heard n q t owed cause outcome) = is_closing outcome && same s q p
  closes_by p (Happening.Barred q t taken) = same s q p
  closes_by p (Happening.Parted q t) = same s q p
  closes_by p _ = false

  -- by it the peer of the link of p greeted
  abbrev pub greets_by : C → Happening C S → Bool
  greets_by p (Happening.Heard n q t owed cause outcome) = is_greeted outcome && same s q p
  greets_by p _ = false

  -- by it p was heard, and its link goes on: when, and what waits
  abbrev pub heard_by : C → Happening C S → Option (Duration × Option Waiting)
  heard_by p (Happening.Heard n q t owed cause outcome) =
      if is_heard outcome && same s q p then Some (t, waiting_by outcome) else None
  heard_by p (Happening.Reached n q t) = if same s q p then Some (t, None) else None
  heard_by p _ = None

  -- .. how many questions are owed after it
  abbrev pub owed_by : C → Happening C S → Option ℕ
  owed_by p (Happening.Heard n q t owed cause outcome) =
      if is_heard outcome && same s q p then Some owed else None
  owed_by p (Happening.Asked n q t owed fits question) = if same s q p then Some owed else None
  owed_by p _ = None

  -- by it the frame that may be handed in is this one, or none
  abbrev pub looks_by : C → Happening C S → Option (Option LookedView)
  looks_by p (Happening.Heard n q t owed cause outcome) =
      if same s q p then Some (looked_by outcome) else None
  looks_by p _ = None

  -- by it a question was due for p: when, and which one was asked, if memory was there
  abbrev pub tried_by : C → Happening C S → Option (Duration × Option Question)
  tried_by p (Happening.Heard n q t owed cause outcome) =
      if same s q p then tried_with t outcome else None
  tried_by p (Happening.Asked n q t owed fits question) =
      if same s q p then Some (t, question) else None
  tried_by p _ = None

  -- by it a frame is said on the link of p, if one is: when
  abbrev pub says_on : C → Happening C S → Option Duration
  says_on p (Happening.Heard n q t owed cause outcome) =
      if same s q p then said_as t outcome else None
  says_on p (Happening.Asked n q t owed fits question) =
      if same s q p then said_with t question else None
  says_on p (Happening.Spoken n q t place) = if same s q p then Some t else None
  says_on p (Happening.Reached n q t) = if same s q p then Some t else None
  says_on p _ = None

  -- .. the oldest one is written that isn't
  abbrev pub writes_by : C → Happening C S → Bool
  writes_by p (Happening.Written n q t) = same s q p
  writes_by p _ = false

  -- .. the index of the set that was asked for, if one was
  abbrev pub index_by : C → Happening C S → Option ℕ
  index_by p e = index_tried (tried_by p e)

  -- .. it was the newest
  abbrev pub newest_by : C → Happening C S → Bool
  newest_by p e = newest_tried (tried_by p e)

  -- what is kept of how p was heard last since its link began, or else of when that was
  abbrev pub last_heard : Duration → Option ((Duration × Option Waiting) × List (Happening C S)) →
      Duration × Option Waiting
  last_heard since None = (since, None)
  last_heard since (Some found) = found.0

  -- the frame that may be handed in
  abbrev pub last_looked : Option (Option LookedView × List (Happening C S)) → Option LookedView
  last_looked None = None
  last_looked (Some found) = found.0

  -- when a question was due last since its link began, or else when that was
  abbrev pub last_tried : Duration →
      Option ((Duration × Option Question) × List (Happening C S)) → Duration
  last_tried since None = since
  last_tried since (Some found) = found.0.0

  -- what is kept of the questions of p, by when its link began, and what was done since: when one
  -- was due last, which set was asked for last, and how often the newest one was
  abbrev pub asked_in : C → Duration → List (Happening C S) → questions.Asked
  asked_in p t since = record {
    at = last_tried t (last_with (tried_by p) since);
    index = option_map (λ found. found.0) (last_with (index_by p) since);
    rounds = counted (count_by (newest_by p) since);
  }

  -- when the own greeting is said on a link as it begins: on that of a stream that came in at once
  abbrev pub first_said : Direction → Duration → List Duration
  first_said way.Dialing t = []
  first_said direction t = t ∷ []

  -- when the frames were said on the link of p that aren't written, the oldest first, by what was
  -- said when its link began, and what was done since
  abbrev pub unwritten_in : C → List Duration → List (Happening C S) → List Duration
  unwritten_in p first [] = first
  unwritten_in p first (e ∷ since) = with_said (says_on p e)
      (if writes_by p e then drop 1 (unwritten_in p first since) else unwritten_in p first since)

  -- how the link of p came about, by how it began, and whether the stream of a dial was proved
  abbrev pub way_of : Direction → Bool → Direction
  way_of direction proved = if proved then proved_way direction else direction

  -- when its key was proved, or else when it began
  abbrev pub proved_at : Duration → Option (Duration × List (Happening C S)) → Duration
  proved_at began None = began
  proved_at began (Some found) = found.0

  -- what is kept of the link of p, by its number, how it began, when, and what was done since
  abbrev pub kept_of : C → ℕ → Direction → Duration → List (Happening C S) → Held
  kept_of p n began t since =
      let phase = phase_of (list_any (closes_by p) since) (list_any (greets_by p) since) in
      let last = last_heard t (last_with (heard_by p) since) in record {
        number = n;
        direction = way_of began (is_some (last_with (reached_by p) since));
        phase = phase;
        since = proved_at t (last_with (reached_by p) since);
        heard = last.0;
        owed = unwrap_or (option_map (λ found. found.0) (last_with (owed_by p) since)) 0;
        waiting = unless_closing phase last.1;
        asked = asked_in p t since;
        looked = unless_closing phase (last_looked (last_with (looks_by p) since));
        unwritten = unwritten_in p (first_said began t) since;
      }

  -- the link of p, by its number, how it began, when, and what was done since
  abbrev pub link_since : C → Option ((ℕ × Direction × Duration) × List (Happening C S)) →
      Option Held
  link_since p None = None
  link_since p (Some found) = if list_any (ends_by p) found.1 then None
      else Some (kept_of p found.0.0 found.0.1 found.0.2 found.1)

  -- the link of p: the one that began last, unless it ended
  abbrev pub link_at : C → List (Happening C S) → Option Held
  link_at p h = link_since p (last_with (opened_by p) h)

  -- GRANTS of own dials on which the peer hasn't greeted

  -- by it a dial of p was granted: when
  abbrev pub granted_by : C → Happening C S → Option Duration
  granted_by p (Happening.Dialed n q t draw word ingress) = if same s q p then Some t else None
  granted_by p _ = None

  -- by it that grant is none of a dial any more: p greeted, was released, or came in by itself
  abbrev pub spends_by : C → Happening C S → Bool
  spends_by p (Happening.Adopted n q t outbound) = same s q p
  spends_by p (Happening.Ended n q t direction) = same s q p
  spends_by p (Happening.Released q t) = same s q p
  spends_by p e = greets_by p e

  -- the grant of a dial of p, by when it was made, and what was done since
  abbrev pub grant_since : C → Option (Duration × List (Happening C S)) → Option Duration
  grant_since p None = None
  grant_since p (Some found) = if list_any (spends_by p) found.1 then None else Some found.0

  -- .. if p hasn't greeted on it: when it was made
  abbrev pub grant_at : C → List (Happening C S) → Option Duration
  grant_at p h = grant_since p (last_with (granted_by p) h)

  -- .. and it is kept, since that dial came to nothing: p has no link
  abbrev pub kept_at : C → List (Happening C S) → Option Duration
  kept_at p h = unless_linked (link_at p h) (grant_at p h)

-- WHAT WAS SAID

-- why a link is closed that is late: its peer hasn't greeted or a frame isn't written in time, or
-- it is silent
abbrev pub why_late : Option Held → Why
why_late None = why.Slow
why_late (Some held) = if is_slow held then why.Slow else why.Silent

module _ {C : Type 0} where
  -- a stream is closed
  abbrev pub closing : ℕ → Why → List (Action C)
  closing n why = action.Close (record { 0 = n }) why ∷ []

  -- a peer is dialled, at an address
  abbrev pub dialing : ℕ → C → Ingress → List (Action C)
  dialing n p ingress = action.Dial (record { 0 = n }) p ingress ∷ []

  -- a frame is sent on a link
  abbrev pub sent : ℕ → List ℕ → List (Action C)
  sent n frame = action.Send (record { 0 = n }) frame ∷ []

  -- by the room that there was for another
  abbrev pub crowded_out : Room → List (Action C)
  crowded_out (room.Of n) = closing n why.Crowded
  crowded_out _ = []

  -- p is told to be down, if it was told to be up
  abbrev pub downed : ℕ → C → Option Why → Phase → List (Action C)
  downed n p w phase.Open = action.Told (event.Down (record { 0 = n }) p w) ∷ []
  downed n p w _ = []

  -- a link in a phase is closed, unless it was
  abbrev pub shut_in : ℕ → C → Why → Phase → List (Action C)
  shut_in n p w phase.Closing = []
  shut_in n p w ph = closing n w ++ downed n p (Some w) ph

  -- the link of p is closed, if it has one
  abbrev pub shut : C → Why → Option Held → List (Action C)
  shut p w None = []
  shut p w (Some held) = shut_in held.number p w held.phase

  -- p is told to be blocked, if that was taken
  abbrev pub barred : C → Breach → Option Bool → List (Action C)
  barred p b (Some true) = action.Told (event.Blocked p b) ∷ []
  barred p b blocked = []

  -- p is asked on a link, if it is
  abbrev pub asking_on : ℕ → Option Question → List (Action C)
  asking_on n None = []
  asking_on n (Some question) = sent n question.frame

  -- what comes of a frame of link n of p is said
  abbrev pub answered_on : {S : Type 0} → ℕ → C → Outcome C S → Option Held → List (Action C)
  answered_on n p (Outcome.Greets dialer info question) link =
      action.Told (event.Up (record { 0 = n }) p) ∷ asking_on n question
  answered_on n p (Outcome.Answers reply) link = sent n reply
  answered_on n p (Outcome.Breaks b blocked) link = shut p (why.Breach b) link ++ barred p b blocked
  answered_on n p Outcome.IsEarly link = shut p why.Future link
  answered_on n p Outcome.LacksChannel link = shut p why.NoChannel link
  answered_on n p outcome link = []

  -- the link of p ended, if it has one
  abbrev pub parted : C → Option Held → List (Action C)
  parted p None = []
  parted p (Some held) = downed held.number p None held.phase

module _ {C : Type 0} (cmp : C → C → Ordering) where
  -- what is kept of links, once that of p is closed
  abbrev pub closed_at : C → (C → Option Held) → C → Option Held
  closed_at p links q = if is_at (cmp p) q then option_map closed (links q) else links q

  -- the links of these peers are closed, one after the other, since no set has them any more
  abbrev pub shut_all : List C → (C → Option Held) → List (Action C)
  shut_all [] links = []
  shut_all (p ∷ ps) links = shut p why.NoSet (links p) ++ shut_all ps (closed_at p links)

module _ {C S : Type 0} (s : Settings C S) (greeting : List ℕ) where
  -- what was said in one happening, after these
  abbrev pub says_by : List (Happening C S) → Happening C S → List (Action C)
  says_by h (Happening.Arrived n origin t space) = crowded_out space
  says_by h (Happening.Refused n p t why) = closing n why
  says_by h (Happening.Proved n p t draw) = sent n greeting
  says_by h (Happening.Unproved n p t why) = closing n why
  says_by h (Happening.Adopted n p t outbound) = sent n greeting
  says_by h (Happening.Dialed n p t draw word ingress) = dialing n p ingress
  says_by h (Happening.Reached n p t) = sent n greeting
  says_by h (Happening.Mistaken n p t) = shut p why.WrongKey (link_at s p h)
  says_by h (Happening.Ended n p t direction) = parted p (link_at s p h)
  says_by h (Happening.Failed n p t direction) = parted p (link_at s p h)
  says_by h (Happening.SetCame t index primary secondary torn) =
      shut_all s.cmp torn (λ p. link_at s p h)
  says_by h (Happening.StreamLate n t) = closing n why.Slow
  says_by h (Happening.LinkLate n p t) =
      shut p (why_late (link_at s p h)) (link_at s p h)
  says_by h (Happening.Heard n p t owed cause outcome) =
      answered_on n p outcome (link_at s p h)
  says_by h (Happening.Asked n p t owed fits question) = asking_on n question
  says_by h (Happening.Barred p t taken) = shut p why.Blocked (link_at s p h)
  says_by h (Happening.Parted p t) = shut p why.Application (link_at s p h)
  says_by h _ = []

  -- all that was said, the oldest first
  abbrev pub said : List (Happening C S) → List (Action C)
  said [] = []
  said (e ∷ h) = said h ++ says_by h e

module _ {C S : Type 0} where
  -- what the host took, the oldest first
  abbrev pub taken_by : Happening C S → List (Action C)
  taken_by (Happening.Taken action) = action ∷ []
  taken_by _ = []

  abbrev pub taken : List (Happening C S) → List (Action C)
  taken [] = []
  taken (e ∷ h) = taken h ++ taken_by e
