-- Drivers: what is seen of one, what may be done, and how it stands after what it did.
use Rattle.std.specs.Prelude.{ℕ, ◌≡◌, ◌+◌, ◌-◌, ◌≤◌, ◌<◌, ◌*◌, ◌/◌, ◌%◌, ◌^◌, ◌&&◌, ◌||◌, ◌⊎◌, max}
use Rattle.std.specs.Prelude.{not, nat_lt, Bool, true, false, Result, Ok, Err}
use Rattle.std.specs.Prelude.{List, [], ◌∷◌, ◌++◌, length, find, Option, Some, None, is_some}
use Rattle.std.specs.Prelude.{option_map}
use Rattle.std.specs.Prelude.{IfSome, slice_get}
use Rattle.std.specs.BTreeMap.{is_at}
use Rattle.std.specs.List.{count_by}
use Rattle.std.specs.Option.{IsSomeAnd}
use Rattle.std.specs.Duration.{as_nanos}
use Rattle.std.specs.declared.alloc.AllocError.{AllocError}
use Rattle.std.specs.declared.cmp.Ordering.{Ordering}
use Rattle.std.specs.declared.time.Duration.{Duration}
use Rattle.p2p_discovery.specs.Data.{header}
use Rattle.p2p_discovery.specs.declared.data.EncodedData.{EncodedData}
use Rattle.p2p_discovery.specs.declared.discovery.Payload.TheVariants as payload
use Rattle.p2p_discovery.specs.Payload.{payload_spelling, payload_at}
use Rattle.p2p_tracker.specs.Calls.{Settings, Call}
use Rattle.p2p_discovery.specs.declared.types.ingress.Ingress.{Ingress}
use Rattle.p2p_tracker.specs.Calls.Call.{Track, Dial}
use Rattle.p2p_tracker.specs.Lists.{Somebody}
use Rattle.p2p_tracker.specs.Answers.{IsTrackAnswer, may_listen_at, was_taken, was_granted}
use Rattle.p2p_tracker.specs.Answers.{is_dialable, held_ingress, is_eligible_at}
use Rattle.p2p_directory.specs.Run.{event_of, world_after}
use Rattle.p2p_directory.specs.Nodes.{NodeView, Made, NodeStandsAt, made_of, standing_in}
use Rattle.p2p_directory.specs.Received.{Wire, Standing}
use Rattle.p2p_directory.specs.declared.node.setup.Setup.{Setup}
use Rattle.p2p_driver.specs.Actions.{ActionsView, is_sent_on, is_of_link}
use Rattle.p2p_driver.specs.Answers.{AnswersView, AreKept, MayAnswer, IsClaimRefusal, roomless}
use Rattle.p2p_driver.specs.Answers.{IsAllowedAt}
use Rattle.p2p_driver.specs.Arrivals.{has_number, is_unclaimed, deadline_of, room_of}
use Rattle.p2p_driver.specs.Frames.{Cause, Outcome, IsOutcome, IsAsDialer, owed_after}
use Rattle.p2p_driver.specs.Links.{link_of, count_of, needs, is_late, is_to_ask, is_open, has_room}
use Rattle.p2p_driver.specs.Links.{is_dialing, is_dialer, is_timed}
use Rattle.p2p_driver.specs.Grants.{grant_of, kept_grant, is_cooled, is_cooling, is_unfit}
use Rattle.p2p_driver.specs.Meters.{MetersView}
use Rattle.p2p_driver.specs.Questions.{owed_with, IsQuestion}
use Rattle.p2p_driver.specs.Reading.{AreMetered, IsPaced, rate_at, said_at, frames_read}
use Rattle.p2p_driver.specs.Steps.{is_claim_of, no_proof_of, IsBlock, IsDone, IsQuietIn, IsChosenIn}
use Rattle.p2p_driver.specs.Happenings.{Happening, latest_at, calls_of, next_at, stream_at}
use Rattle.p2p_driver.specs.Happenings.{answered_in, is_proved, is_dialed, is_reached, is_ended}
use Rattle.p2p_driver.specs.Happenings.{inbound_count, dial_count, outbound_count, link_count}
use Rattle.p2p_driver.specs.Happenings.{link_at, grant_at, kept_at, retry_at, is_taken_over}
use Rattle.p2p_driver.specs.Happenings.{said, said_as, taken, time_by}
use Rattle.p2p_driver.specs.declared.actions.Action.{Action}
use Rattle.p2p_driver.specs.declared.actions.Why.{Why}
use Rattle.p2p_driver.specs.declared.arrivals.Arrival.{Arrival}
use Rattle.p2p_driver.specs.declared.arrivals.Room.{Room}
use Rattle.p2p_driver.specs.declared.arrivals.Room.TheVariants as room
use Rattle.p2p_driver.specs.declared.links.Direction.{Direction}
use Rattle.p2p_driver.specs.declared.links.Direction.TheVariants.{Inbound, Dialing, Outbound}
use Rattle.p2p_driver.specs.declared.links.Direction.TheVariants.{TakenOver}
use Rattle.p2p_driver.specs.declared.links.Held.{Held}
use Rattle.p2p_driver.specs.declared.origin.Origin.{Origin}
use Rattle.p2p_driver.specs.declared.pace.Pace.{Pace}
use Rattle.p2p_driver.specs.declared.questions.Question.{Question}
use Rattle.p2p_driver.specs.declared.next_dial.NextDial.{NextDial}

-- WHAT IS SEEN of a driver: its node, settings, own greeting and cooldown, from when on it looks
-- for somebody to dial, and from when on again since memory was refused for a dial, with the grants
-- of dials on which the peer hasn't greeted, the latest time, the number of the next stream, the
-- streams that aren't proved, the claims that were answered, the frames that were read of links,
-- the links of peers, and the actions that the host hasn't taken
pub record DriverView (C S : Type 0) : Type 0 where
  pub node : NodeView C S
  pub pace : Pace
  pub greeting : List ℕ
  pub cooldown : ℕ
  pub next_dial : NextDial C
  pub latest : ℕ
  pub next : ℕ
  pub arrivals : List (Arrival C)
  pub answers : AnswersView
  pub reads : List (ℕ × MetersView)
  pub links : List (C × Held)
  pub actions : List (Action C)

-- .. of its parts: of the node all but slots, of the claims all but the room for more
abbrev pub seen : {C S : Type 0} → NodeView C S → Pace → List ℕ → ℕ → NextDial C → ℕ → ℕ →
    List (Arrival C) → AnswersView → List (ℕ × MetersView) → List (C × Held) → List (Action C) →
    DriverView C S
seen node pace greeting cooldown dial latest next arrivals answers reads links actions = record {
  node = record node { slots = [] };
  pace = pace;
  greeting = greeting;
  cooldown = cooldown;
  next_dial = dial;
  latest = latest;
  next = next;
  arrivals = arrivals;
  answers = roomless answers;
  reads = reads;
  links = links;
  actions = actions;
}

-- room is promised for what may have to be said at any time: that each stream is closed, and what
-- each link needs; and for the claim of each stream that hasn't claimed
pub record HasRoom {C : Type 0} (arrivals : List (Arrival C)) (answers : AnswersView)
    (links : List (C × Held)) (actions : ActionsView C) : Type 0 where
  pub actions_fit : length arrivals + needs links ≤ actions.room
  pub answers_fit : count_by is_unclaimed arrivals ≤ answers.room

-- WHAT IT IS MADE FROM: that of its node, its settings, the frame of its own greeting, and how
-- frames are read and spelled
pub record Base (C S : Type 0) : Type 0 where
  pub made : Made C S
  pub pace : Pace
  pub greeting : List ℕ
  pub wire : Wire C S

-- how frames are read and spelled, and which signatures are right, by how keys and signatures are
abbrev pub wire_with : {C S : Type 0} → (C → List ℕ → List ℕ → S → Bool) → (C → List ℕ) →
    (S → List ℕ) → ℕ → (List ℕ → Option C) → ℕ → (List ℕ → Option S) → Wire C S
wire_with verifies spelled spelled_signature size value size_signature value_signature = record {
  spelling = payload_spelling spelled spelled_signature;
  reading = payload_at size value size_signature value_signature;
  verifies = verifies;
}

-- .. as a caller gives it
abbrev pub base_of : {C S : Type 0} → (C → C → Ordering) → Wire C S → Setup C S → Pace → Base C S
base_of cmp wire given pace = record {
  made = made_of cmp given;
  pace = pace;
  greeting = wire.spelling (payload.Greeting given.myself);
  wire = wire;
}

-- these streams have numbers that rise, above the first and below the last
abbrev pub Rise : {C : Type 0} → ℕ → List (Arrival C) → ℕ → Type 0
Rise first [] last = first < last
Rise first (a ∷ arrivals) last = (first < a.number) × Rise a.number arrivals last

-- these are the streams that came and haven't left, in the order in which they came
pub record AreStreams {C S : Type 0} (h : List (Happening C S)) (arrivals : List (Arrival C)) :
    Type 0 where
  pub rise : Rise 0 arrivals (next_at h)
  pub each : (n : ℕ) → find (has_number n) arrivals ≡ stream_at n h

-- a stream has said that it is p's
abbrev pub is_claim_by : {C : Type 0} → (C → C → Ordering) → C → Option (Arrival C) → Bool
is_claim_by cmp p None = false
is_claim_by cmp p (Some a) = is_claim_of cmp p a.claim

-- there are as many links of each kind as began, less those that ended, or became of another kind
pub record AreCounted {C S : Type 0} (h : List (Happening C S)) (links : List (C × Held)) :
    Type 0 where
  pub inbound : count_of Inbound links + count_by (is_ended Inbound) h ≡ count_by is_proved h
  pub dialing : count_of Dialing links
      + (count_by is_reached h + count_by (is_ended Dialing) h) ≡ count_by is_dialed h
  pub outbound : count_of Outbound links + count_by (is_ended Outbound) h ≡ count_by is_reached h
  pub taken_over :
      count_of TakenOver links + count_by (is_ended TakenOver) h ≡ count_by is_taken_over h

-- the jitter of a grant by a random word: at most twice the half of the cooldown
abbrev pub jitter_of : ℕ → ℕ → ℕ
jitter_of cooldown word = word % (cooldown / 2 * 2 + 1)

-- WHAT MAY BE DONE
module _ {C S : Type 0} (b : Base C S) where
  abbrev pub s : Settings C S
  s = b.made.directory

  -- the link of p, if it has one
  abbrev pub link : C → List (Happening C S) → Option Held
  link p h = link_at s p h

  -- another link has a place
  abbrev pub has_place : List (Happening C S) → Bool
  has_place h = nat_lt (link_count h) b.pace.links && nat_lt (inbound_count h) b.pace.inbound

  -- .. another dial has
  abbrev pub has_dial_place : List (Happening C S) → Bool
  has_dial_place h = nat_lt (link_count h) b.pace.links
      && (nat_lt (outbound_count h) b.pace.outbound && nat_lt (dial_count h) b.pace.dials)

  -- the grant that is kept of p since a dial of it came to nothing, if one is: when it was made
  abbrev pub kept : C → List (Happening C S) → Option Duration
  kept p h = kept_at s p h

  -- p may be connected at t: it's entitled, and isn't blocked
  abbrev pub is_eligible : List (Happening C S) → C → ℕ → Bool
  is_eligible h p t = is_eligible_at s (world_after s (calls_of h)) p t

  -- the dial of p that ends at t came to nothing, and its grant is kept: p hasn't greeted on it,
  -- the cooldown of its grant isn't over, and p may be connected
  abbrev pub stays : List (Happening C S) → C → ℕ → Bool
  stays h p t = is_cooling s.cooldown t (grant_at s p h) && is_eligible h p t

  -- p may be reserved for its stream at t: there is a place, it has no link, and a listen would be
  -- granted
  abbrev pub may_begin : List (Happening C S) → C → ℕ → Bool
  may_begin h p t = has_place h && (not (is_some (link p h))
      && may_listen_at s (world_after s (calls_of h)) p t)

  -- another outbound link has a place
  abbrev pub has_outbound_place : List (Happening C S) → Bool
  has_outbound_place h = nat_lt (outbound_count h) b.pace.outbound

  -- p may come in at t by the grant that is kept of it: there is a place, outbound or inbound, and
  -- it may be connected
  abbrev pub may_adopt : List (Happening C S) → C → ℕ → Bool
  may_adopt h p t = nat_lt (link_count h) b.pace.links
      && ((has_outbound_place h || nat_lt (inbound_count h) b.pace.inbound)
      && (is_some (kept p h) && is_eligible h p t))

  -- p may come in at t: by a grant that is kept of it, or else by one of its own
  abbrev pub may_come : List (Happening C S) → C → ℕ → Bool
  may_come h p t = may_adopt h p t || may_begin h p t

  -- stream n hasn't said whose it is
  abbrev pub IsUnclaimed : List (Happening C S) → ℕ → Type 0
  IsUnclaimed h n = IsSomeAnd (stream_at n h) (λ a. a.claim ≡ None)

  -- it is of this origin
  abbrev pub IsFrom : List (Happening C S) → ℕ → ℕ → Type 0
  IsFrom h n origin = IsSomeAnd (stream_at n h) (λ a. a.origin.0 ≡ origin)

  -- stream n has said that it is p's
  abbrev pub is_claimed : List (Happening C S) → ℕ → C → Bool
  is_claimed h n p = is_claim_by s.cmp p (stream_at n h)

  -- link n is p's, and came about so
  abbrev pub IsLinkOf : List (Happening C S) → ℕ → C → Direction → Type 0
  IsLinkOf h n p direction = IsSomeAnd (link p h)
      (λ held. (held.number ≡ n) × (held.direction ≡ direction))

  -- dial n is p's, isn't closed, and its stream isn't proved
  abbrev pub IsDialOf : List (Happening C S) → ℕ → C → Type 0
  IsDialOf h n p = IsSomeAnd (link p h)
      (λ held. (held.number ≡ n) × (is_dialing held ≡ true) × (is_timed held.phase ≡ true))

  -- somebody may be dialled at t
  abbrev pub MayDial : List (Happening C S) → ℕ → Type 0
  MayDial h t = (has_dial_place h ≡ true) × (retry_at (as_nanos b.pace.tick) h ≤ t)
      × Somebody (is_dialable s (world_after s (calls_of h)) t)

  -- p is dialled at t as the next link, at its address: of the peers that may be, in the order of
  -- their keys, it is the one at the position that a random word gives, which gives the jitter, too
  pub record IsDialed (h : List (Happening C S)) (n : ℕ) (p : C) (t : ℕ) (draw word : ℕ)
      (ingress : Ingress) : Type 0 where
    pub number : n ≡ next_at h
    pub place : has_dial_place h ≡ true
    pub tried : retry_at (as_nanos b.pace.tick) h ≤ t
    pub chosen : IsChosenIn s (world_after s (calls_of h)) t word p
    pub draws : draw ≡ jitter_of s.cooldown word
    pub address : held_ingress s (world_after s (calls_of h)) p ≡ Some ingress
    pub granted : was_granted (event_of s (calls_of h) (Dial p t draw)) ≡ true

  -- why a claim is refused: the peer may not come in, or too many were answered
  abbrev pub IsRefusal : List (Happening C S) → ℕ → C → ℕ → Why → Type 0
  IsRefusal h n p t why = (origin : Origin) × IsFrom h n origin.0
      × IsClaimRefusal b.pace t origin.0 (answered_in h) (may_come h p t) why

  -- why a stream that is proved doesn't become a link, if it doesn't: it has claimed to be
  -- another's, or nobody's, or the peer may not come in
  abbrev pub no_proof : List (Happening C S) → ℕ → C → ℕ → Option Why
  no_proof h n p t = no_proof_of (is_claimed h n p) (may_come h p t)

  -- the node, after these calls
  abbrev pub standing : List (Call C S) → Standing C S
  standing calls = standing_in b.made b.wire (world_after s calls)

  -- the peer p of link n was heard: this comes of it, and so many questions are owed then
  pub record IsHeard (h : List (Happening C S)) (n : ℕ) (p : C) (t : Duration) (owed : ℕ)
      (cause : Cause) (outcome : Outcome C S) (held : Held) : Type 0 where
    pub number : held.number ≡ n
    pub dials : IsAsDialer (is_dialer held) outcome
    pub comes : IsOutcome s.cmp b.wire (standing (calls_of h)) held.phase held.owed held.waiting p
        cause outcome
    pub owes : owed ≡ owed_after held.phase outcome b.pace.owed held.owed
    pub done : IsDone b.wire b.made b.pace.refresh held.asked (calls_of h) p t outcome
    pub paced : IsPaced b.pace h n (as_nanos t) b.made.limits held cause outcome
    pub room : IfSome (said_as t outcome) (λ at. has_room b.pace.queue held ≡ true)

  -- a question was due at t for the peer p of link n, and asked if its queue had room, and memory
  -- was there
  pub record IsAsked (h : List (Happening C S)) (n : ℕ) (p : C) (t : Duration) (owed : ℕ)
      (fits : Bool) (question : Option Question) (held : Held) : Type 0 where
    pub number : held.number ≡ n
    pub due : is_to_ask (as_nanos b.pace.tick) (as_nanos t) held ≡ true
    pub owes : owed ≡ owed_with question b.pace.owed held.owed
    pub asks : IfSome question
        (IsQuestion b.wire b.made (world_after s (calls_of h)) b.pace.refresh held.asked)
    pub room_is : fits ≡ has_room b.pace.queue held
    pub room : IfSome question (λ q. fits ≡ true)

  -- how many frames of link n were said that the host hasn't taken
  abbrev pub untaken : List (Happening C S) → ℕ → ℕ
  untaken h n = count_by (is_sent_on n) (said s b.greeting h) - count_by (is_sent_on n) (taken h)

  -- a message was said on link n of p at t, on the channel at a position: the link is open, no
  -- action of it waits to be taken, its queue has room, and once it was said one more might be by
  -- the rate
  pub record IsSpoken (h : List (Happening C S)) (n : ℕ) (t : Duration) (place : ℕ)
      (held : Held) : Type 0 where
    pub number : held.number ≡ n
    pub opens : is_open held.phase ≡ true
    pub taken : count_by (is_of_link n) (said s b.greeting h) ≡ count_by (is_of_link n) (taken h)
    pub room : has_room b.pace.queue held ≡ true
    pub after : length b.pace.channels.items ≤ place
    pub rate : IsSomeAnd (rate_at b.pace (Some place)) (λ rate. let now = as_nanos t in
        IsAllowedAt rate (now ∷ frames_read n (Some place) h) now)

  -- what may be done after a history, and when
  abbrev pub IsRight : List (Happening C S) → Happening C S → Type 0
  IsRight h (Happening.Arrived n origin t space) = (n ≡ next_at h) × (¬ (space ≡ room.None))
      × ((arrivals : List (Arrival C)) × AreStreams h arrivals
      × (room_of b.pace (as_nanos t) arrivals origin ≡ space))
  IsRight h (Happening.Claimed n p origin t) = IsUnclaimed h n × IsFrom h n origin.0
      × (may_come h p (as_nanos t) ≡ true)
      × MayAnswer b.pace (as_nanos t) origin.0 (answered_in h)
  IsRight h (Happening.Refused n p t why) = IsUnclaimed h n × IsRefusal h n p (as_nanos t) why
  IsRight h (Happening.Proved n p t draw) = (is_claimed h n p ≡ true)
      × (may_begin h p (as_nanos t) ≡ true)
  IsRight h (Happening.Unproved n p t why) = (is_some (stream_at n h) ≡ true)
      × (no_proof h n p (as_nanos t) ≡ Some why)
  IsRight h (Happening.Adopted n p t outbound) = (is_claimed h n p ≡ true)
      × (may_adopt h p (as_nanos t) ≡ true) × (outbound ≡ has_outbound_place h)
  IsRight h (Happening.Left n t) = is_some (stream_at n h) ≡ true
  IsRight h (Happening.Dialed n p t draw word ingress) =
      IsDialed h n p (as_nanos t) (as_nanos draw) word ingress
  IsRight h (Happening.Undialed t) = MayDial h (as_nanos t)
  IsRight h (Happening.Reached n p t) = IsDialOf h n p
  IsRight h (Happening.Mistaken n p t) = IsDialOf h n p
  IsRight h (Happening.Ended n p t direction) = IsLinkOf h n p direction
      × (stays h p (as_nanos t) ≡ false)
  IsRight h (Happening.Failed n p t direction) = IsLinkOf h n p direction
      × (stays h p (as_nanos t) ≡ true)
  IsRight h (Happening.Released p t) = (is_some (kept p h) ≡ true)
      × ((is_cooled s.cooldown (as_nanos t) (kept p h) ≡ true)
      ⊎ (is_eligible h p (as_nanos t) ≡ false))
  IsRight h (Happening.SetCame t index primary secondary torn) =
      let c = Track index primary secondary in
      (length primary ≤ b.made.limits.max_bit_vec)
      × IsTrackAnswer s (event_of s (calls_of h) c) (world_after s (calls_of h))
      (world_after s (c ∷ calls_of h)) (Some torn)
  IsRight h (Happening.StaleSetCame index primary secondary) =
      let c = Track index primary secondary in
      (length primary ≤ b.made.limits.max_bit_vec)
      × IsTrackAnswer s (event_of s (calls_of h) c) (world_after s (calls_of h))
      (world_after s (c ∷ calls_of h)) None
  IsRight h (Happening.StreamLate n t) = IsSomeAnd (stream_at n h)
      (λ a. deadline_of (as_nanos b.pace.first) (as_nanos b.pace.handshake) a ≤ as_nanos t)
  IsRight h (Happening.LinkLate n p t) = IsSomeAnd (link p h) (λ held. (held.number ≡ n)
      × (is_late b.pace (as_nanos t) held ≡ true))
  IsRight h (Happening.Heard n p t owed cause outcome) =
      IsSomeAnd (link p h) (IsHeard h n p t owed cause outcome)
  IsRight h (Happening.Asked n p t owed fits question) =
      IsSomeAnd (link p h) (IsAsked h n p t owed fits question)
  IsRight h (Happening.Written n p t) = IsSomeAnd (link p h)
      (λ held. (held.number ≡ n) × (untaken h n < length held.unwritten))
  IsRight h (Happening.Spoken n p t place) = IsSomeAnd (link p h) (IsSpoken h n t place)
  IsRight h (Happening.Given infos t) = Unit {0}
  IsRight h (Happening.Barred p t taken) = IsBlock b.made (calls_of h) p (as_nanos t) taken
  IsRight h (Happening.Parted p t) = is_some (link p h) ≡ true
  IsRight h (Happening.Passed t) = Unit {0}
  IsRight h (Happening.Taken action) =
      (later : List (Action C)) × (taken h ++ action ∷ later ≡ said s b.greeting h)

  -- no time goes back
  abbrev pub IsInTime : List (Happening C S) → Option Duration → Type 0
  IsInTime h None = Unit {0}
  IsInTime h (Some t) = latest_at h ≤ as_nanos t

  -- each of them might be done when it was
  abbrev pub AreRight : List (Happening C S) → Type 0
  AreRight [] = Unit {0}
  AreRight (e ∷ h) = IsRight h e × IsInTime h (time_by e) × AreRight h

  -- HOW IT STANDS after these happenings
  pub record DriverStandsAt (h : List (Happening C S)) (v : DriverView C S) : Type 0 where
    pub node : NodeStandsAt b.made (calls_of h) v.node
    pub pace : v.pace ≡ b.pace
    pub greeting : v.greeting ≡ b.greeting
    pub cooldown : v.cooldown ≡ s.cooldown
    pub latest : v.latest ≡ latest_at h
    pub next : v.next ≡ next_at h
    pub arrivals : AreStreams h v.arrivals
    pub answers : AreKept b.pace (latest_at h) (answered_in h) v.answers
    pub reads : AreMetered b.pace (latest_at h) h v.reads
    pub links : (p : C) → link_of s.cmp v.links p ≡ link p h
    pub grants : (p : C) → grant_of s.cmp v.next_dial.grants p ≡ grant_at s p h
    pub counts : AreCounted h v.links
    pub quiet : IsQuietIn s (world_after s (calls_of h)) (latest_at h)
        (option_map as_nanos v.next_dial.from)
    pub retry : v.next_dial.retry ≡ retry_at (as_nanos b.pace.tick) h
    pub actions : taken h ++ v.actions ≡ said s b.greeting h
    pub right : AreRight h

-- EACH CALL, whatever the driver was made from, and whatever it did before

module _ {C S : Type 0} where
  -- a grant is kept of nobody who may not be connected
  abbrev pub NoneUnfit : (C → C → Ordering) → DriverView C S → Type 0
  NoneUnfit cmp v = (p : C) → is_unfit cmp v.node.directory v.latest p
      (kept_grant cmp v.links v.next_dial.grants p) ≡ false

  -- by it the grant that was kept of a peer is given up at t
  abbrev pub IsFreedAt : Duration → Happening C S → Type 0
  IsFreedAt t (Happening.Released p at) = at ≡ t
  IsFreedAt t _ = ⊥

  -- .. by each of them
  abbrev pub AreFreedAt : Duration → List (Happening C S) → Type 0
  AreFreedAt t [] = Unit {0}
  AreFreedAt t (e ∷ es) = IsFreedAt t e × AreFreedAt t es

module _ {C S : Type 0} (cmp : C → C → Ordering) (wire : Wire C S) where
  -- it stands somewhere: there are a setup, settings and a history
  pub record DriverStands (v : DriverView C S) : Type 0 where
    pub given : Setup C S
    pub pace : Pace
    pub history : List (Happening C S)
    pub stands : DriverStandsAt (base_of cmp wire given pace) history v

  -- wherever it stands
  abbrev pub AtEachHistory : DriverView C S → (Base C S → List (Happening C S) → Type 0) → Type 0
  AtEachHistory v P = (given : Setup C S) (pace : Pace) (h : List (Happening C S)) →
      DriverStandsAt (base_of cmp wire given pace) h v → P (base_of cmp wire given pace) h

  -- wherever it stood, it stands after one more happening
  pub record Does (e : Happening C S) (v v2 : DriverView C S) : Type 0 where
    pub goes : (given : Setup C S) (pace : Pace) (h : List (Happening C S)) →
        DriverStandsAt (base_of cmp wire given pace) h v →
        DriverStandsAt (base_of cmp wire given pace) (e ∷ h) v2

  -- .. at the later of the latest time and this one
  abbrev pub DoesAt : ℕ → (Duration → Happening C S) → DriverView C S → DriverView C S → Type 0
  DoesAt now e v v2 = (t : Duration) × (as_nanos t ≡ max v.latest now) × Does (e t) v v2

  -- a stream came from an origin, and got the next number; not too many actions waited
  pub record Comes (n origin now : ℕ) (v v2 : DriverView C S) : Type 0 where
    pub next : n ≡ v.next
    pub from : Origin
    pub from_is : from.0 ≡ origin
    pub space : Room
    pub few : length v.actions < 4 * v.pace.arrivals
    pub does : DoesAt now (λ t. Happening.Arrived n from t space) v v2

  -- wherever it stood, it stands after these happenings too, the newest first
  abbrev pub DoesAll : List (Happening C S) → DriverView C S → DriverView C S → Type 0
  DoesAll es v v2 = (given : Setup C S) (pace : Pace) (h : List (Happening C S)) →
      DriverStandsAt (base_of cmp wire given pace) h v →
      DriverStandsAt (base_of cmp wire given pace) (es ++ h) v2

  -- one more happening at the later of the latest time and this one, by which peers may be such
  -- that may not be connected: then the grants that are kept of these are given up
  pub record DoesAndFrees (now : ℕ) (e : Duration → Happening C S) (v v2 : DriverView C S) :
      Type 0 where
    pub time : Duration
    pub time_is : as_nanos time ≡ max v.latest now
    pub freed : List (Happening C S)
    pub are_freed : AreFreedAt time freed
    pub does : DoesAll (freed ++ e time ∷ []) v v2
    pub none : NoneUnfit cmp v2

  -- a set would be accepted
  abbrev pub MayTrack : ℕ → List C → List C → DriverView C S → Type 0
  MayTrack index primary secondary v = AtEachHistory v (λ b h.
      was_taken (event_of b.made.directory (calls_of h) (Track index primary secondary)) ≡ true)

  -- a set came that was accepted, and closes the links of the peers that it tears down
  abbrev pub TracksAt : ℕ → List C → List C → ℕ → DriverView C S → DriverView C S → Type 0
  TracksAt index primary secondary now v v2 = (torn : List C)
      × DoesAndFrees now (λ t. Happening.SetCame t index primary secondary torn) v v2

-- there is such a stream, and it hasn't said whose it is
abbrev pub may_claim : {C : Type 0} → Option (Arrival C) → Bool
may_claim None = false
may_claim (Some a) = is_unclaimed a

-- there is no room for a stream: its origin has too many, or all places are taken by streams that
-- came just now; or too many actions wait, or no number is left
abbrev pub HasNoRoom : {C S : Type 0} → ℕ → ℕ → DriverView C S → Type 0
HasNoRoom origin now v = ((from : Origin) → from.0 ≡ origin →
    room_of v.pace (max v.latest now) v.arrivals from ≡ room.None)
    ⊎ (4 * v.pace.arrivals ≤ length v.actions) ⊎ (2 ^ 64 ≤ v.next + 1)

-- WHAT CALLS ANSWER: v before the call, v2 after it
module _ {C S : Type 0} (cmp : C → C → Ordering) (wire : Wire C S) where
  -- by whether there is such a stream that hasn't claimed, and what is answered: it goes on, or
  -- it's closed, or nothing changes
  abbrev pub ClaimedBy : Bool → Bool → ℕ → C → ℕ → DriverView C S → DriverView C S → Type 0
  ClaimedBy true true n p now v v2 = (origin : Origin)
      × DoesAt cmp wire now (λ t. Happening.Claimed n p origin t) v v2
  ClaimedBy true false n p now v v2 = (why : Why)
      × DoesAt cmp wire now (λ t. Happening.Refused n p t why) v v2
  ClaimedBy false true n p now v v2 = ⊥
  ClaimedBy false false n p now v v2 = v2 ≡ v

  -- `claimed`
  abbrev pub AnswersClaim : ℕ → C → ℕ → Bool → DriverView C S → DriverView C S → Type 0
  AnswersClaim n p now answer v v2 =
      ClaimedBy (may_claim (find (has_number n) v.arrivals)) answer n p now v v2

  -- no dial under way has the number, but one of another peer than p, if p is given
  abbrev pub NoDial : ℕ → (C → Bool) → DriverView C S → Type 0
  NoDial n is v = (q : C) (held : Held) → link_of cmp v.links q ≡ Some held → held.number ≡ n →
      is_dialing held ≡ true → is_timed held.phase ≡ true → is q ≡ false

  -- by what is answered: the dial that was for p is proved, or the dial for another is closed, or
  -- there is no such dial; memory is wanted only for the first
  abbrev pub DialProvedBy : Result Bool AllocError → ℕ → C → ℕ → DriverView C S → DriverView C S →
      Type 0
  DialProvedBy (Ok true) n p now v v2 = DoesAt cmp wire now (λ t. Happening.Reached n p t) v v2
  DialProvedBy (Ok false) n p now v v2 = ((v2 ≡ v) × NoDial n (λ q. true) v)
      ⊎ ((q : C) × (is_at (cmp q) p ≡ false)
      × DoesAt cmp wire now (λ t. Happening.Mistaken n q t) v v2)
  DialProvedBy (Err e) n p now v v2 = (v2 ≡ v) × IsSomeAnd (link_of cmp v.links p)
      (λ held. (held.number ≡ n) × (is_dialing held ≡ true) × (is_timed held.phase ≡ true))

  -- by whether there is such a stream, and what is answered: it is a link, with the word's jitter
  -- if its peer is reserved for it, or it's closed; memory is wanted only for a link
  abbrev pub ProvedBy : Bool → Result Bool AllocError → ℕ → C → ℕ → ℕ → DriverView C S →
      DriverView C S → Type 0
  ProvedBy true (Ok true) n p word now v v2 = ((draw : Duration)
      × (as_nanos draw ≡ jitter_of v.cooldown word)
      × DoesAt cmp wire now (λ t. Happening.Proved n p t draw) v v2)
      ⊎ ((outbound : Bool)
      × DoesAt cmp wire now (λ t. Happening.Adopted n p t outbound) v v2)
  ProvedBy true (Ok false) n p word now v v2 = (why : Why)
      × DoesAt cmp wire now (λ t. Happening.Unproved n p t why) v v2
  ProvedBy true (Err e) n p word now v v2 = (v2 ≡ v) × AtEachHistory cmp wire v
      (λ b h. no_proof b h n p (max v.latest now) ≡ None)
  ProvedBy false answer n p word now v v2 = DialProvedBy answer n p now v v2

  -- `proved`
  abbrev pub AnswersProof : ℕ → C → ℕ → ℕ → Result Bool AllocError → DriverView C S →
      DriverView C S → Type 0
  AnswersProof n p word now answer v v2 =
      ProvedBy (is_some (find (has_number n) v.arrivals)) answer n p word now v v2

  -- a link of p ended at t: p is released, or its grant is kept
  abbrev pub EndsAt : ℕ → C → ℕ → Held → DriverView C S → DriverView C S → Type 0
  EndsAt n p now held v v2 =
      DoesAt cmp wire now (λ t. Happening.Ended n p t held.direction) v v2
      ⊎ DoesAt cmp wire now (λ t. Happening.Failed n p t held.direction) v v2

  -- by whose link has the number, if it is one's, whether a stream has, and what is answered
  abbrev pub EndedBy : Bool → Bool → ℕ → ℕ → DriverView C S → DriverView C S → Type 0
  EndedBy true true n now v v2 = DoesAt cmp wire now (λ t. Happening.Left n t) v v2
  EndedBy true false n now v v2 = ⊥
  EndedBy false true n now v v2 = (p : C) × IsSomeAnd (link_of cmp v.links p)
      (λ held. (held.number ≡ n) × EndsAt n p now held v v2)
  EndedBy false false n now v v2 = (v2 ≡ v)
      × ((p : C) (held : Held) → link_of cmp v.links p ≡ Some held → held.number ≡ n → ⊥)

  -- `ended`
  abbrev pub AnswersEnd : ℕ → ℕ → Bool → DriverView C S → DriverView C S → Type 0
  AnswersEnd n now answer v v2 =
      EndedBy (is_some (find (has_number n) v.arrivals)) answer n now v v2

  -- `block`: whether that was taken. Memory is wanted only for a block that is
  abbrev pub AnswersBlock : C → ℕ → Result Bool AllocError → DriverView C S → DriverView C S →
      Type 0
  AnswersBlock p now (Ok taken) v v2 =
      DoesAndFrees cmp wire now (λ t. Happening.Barred p t taken) v v2
  AnswersBlock p now (Err e) v v2 = (v2 ≡ v) × AtEachHistory cmp wire v
      (λ b h. IsBlock b.made (calls_of h) p (max v.latest now) true)

  -- by whether p has a link, and what is answered
  abbrev pub PartedBy : Bool → Bool → C → ℕ → DriverView C S → DriverView C S → Type 0
  PartedBy true true p now v v2 = DoesAt cmp wire now (λ t. Happening.Parted p t) v v2
  PartedBy false false p now v v2 = v2 ≡ v
  PartedBy _ _ p now v v2 = ⊥

  -- `part`
  abbrev pub AnswersPart : C → ℕ → Bool → DriverView C S → DriverView C S → Type 0
  AnswersPart p now answer v v2 =
      PartedBy (is_some (link_of cmp v.links p)) answer p now v v2

  -- no frame was taken of link n that isn't written: all that aren't written still wait
  abbrev pub IsAllWritten : ℕ → DriverView C S → Type 0
  IsAllWritten n v = (p : C) (held : Held) → link_of cmp v.links p ≡ Some held →
      held.number ≡ n → length held.unwritten ≤ count_by (is_sent_on n) v.actions

  -- `written`
  abbrev pub AnswersWritten : ℕ → ℕ → Bool → DriverView C S → DriverView C S → Type 0
  AnswersWritten n now true v v2 = (p : C) × DoesAt cmp wire now (λ t. Happening.Written n p t) v v2
  AnswersWritten n now false v v2 = (v2 ≡ v) × IsAllWritten n v

  -- `say`: on the link of p, on a channel that stands in the settings, with a message of so many
  -- bytes
  abbrev pub AnswersSay : C → ℕ → ℕ → ℕ → Option (ℕ × EncodedData) → DriverView C S →
      DriverView C S → Type 0
  AnswersSay p channel size now None v v2 = v2 ≡ v
  AnswersSay p channel size now (Some (n, encoded)) v v2 = (place : ℕ)
      × IsSomeAnd (slice_get v.pace.channels.items place)
      (λ c. (c.number ≡ channel) × (size ≤ c.longest))
      × (encoded.channel ≡ channel) × (encoded.payload.items ≡ header channel size ∷ [])
      × DoesAt cmp wire now
      (λ t. Happening.Spoken n p t (said_at v.pace.channels.items place)) v v2

  -- `next_action`: the first that waits, or none does
  abbrev pub AnswersNext : Option (Action C) → DriverView C S → DriverView C S → Type 0
  AnswersNext None v v2 = (v.actions ≡ []) × (v2 ≡ v)
  AnswersNext (Some action) v v2 = Does cmp wire (Happening.Taken action) v v2
