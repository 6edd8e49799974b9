-- A history that is right: a set and a stream come, the stream claims and is proved, the peer greets
-- and is asked, each of its frames is read, its message is delivered, its list is admitted and taken, its question is answered,
-- a tick later it is asked for all infos, and it is blocked for a second greeting. So the premises
-- of the laws are met. Keys and signatures are of one byte.
use Rattle.std.proofs.Common.{◌≡◌, ℕ, zero, suc, ◌+◌, ◌-◌, ◌*◌, ◌≤◌, Bool, true, false, List, [], ◌∷◌, Some, refl}
use Rattle.std.proofs.Common.{arith}
use Rattle.std.specs.Prelude.{length}
use Rattle.std.specs.Duration.{as_nanos}
use Rattle.std.specs.Int.NonZero.{non_zero_u32_get}
use Rattle.std.specs.List.{slice_get}
use Rattle.std.specs.List.Sorted.{IsStrictlySortedBy}
use Rattle.std.specs.declared.time.Duration.{Duration}
use Rattle.p2p_discovery.specs.declared.data.Data.{Data}
use Rattle.p2p_discovery.specs.declared.discovery.Info.{Info}
use Rattle.p2p_discovery.specs.declared.discovery.Payload.TheVariants as payload
use Rattle.p2p_discovery.specs.Payload.{body_at, payload_at}
use Rattle.p2p_discovery.specs.Data.{data_at, message_at}
use Rattle.p2p_discovery.specs.Counted.{length_at}
use Rattle.p2p_discovery.specs.Varint.{groups, groups_at}
use Rattle.p2p_discovery.specs.Info as texts
use Rattle.p2p_discovery.specs.Ingress.{ingress_at}
use Rattle.p2p_discovery.specs.Socket.{ip_at, socket_at}
use Rattle.p2p_discovery.specs.BitVec.{bits_read_at, bit_vec_read_at}
use Rattle.p2p_discovery.specs.Bits.{bits_in, packed}
use Rattle.p2p_discovery.specs.Lists.{spellings, elems, items_at, list_at}
use Rattle.p2p_tracker.specs.History.{life}
use Rattle.p2p_directory.proofs.Definitions.GossipExamples.{one, wire, signed, own_of_9, asker}
use Rattle.p2p_driver.specs.Drivers.{Base, AreRight}
use Rattle.p2p_driver.proofs.Beginnings.{Begins, begins}
use Rattle.p2p_driver.specs.Frames.{Cause, Outcome}
use Rattle.p2p_driver.specs.Looked.{looked_of}
use Rattle.p2p_driver.specs.declared.heads.Kind.{Kind}
use Rattle.p2p_driver.specs.declared.heads.Kind.TheVariants as kind
use Rattle.p2p_driver.specs.declared.pace.Channel.{Channel}
use Rattle.p2p_driver.specs.Happenings.{Happening}
use Rattle.p2p_driver.specs.Laws.{asked_on, lists_on, has_greeted}
use Rattle.p2p_driver.specs.declared.actions.Action.TheVariants as action
use Rattle.p2p_driver.specs.declared.actions.Event.TheVariants as event
use Rattle.p2p_driver.specs.declared.actions.Breach.TheVariants as breach
use Rattle.p2p_driver.specs.declared.arrivals.Room.TheVariants as room
use Rattle.p2p_driver.specs.declared.links.Waiting.{Waiting}
use Rattle.p2p_driver.specs.declared.origin.Origin.{Origin}
use Rattle.p2p_driver.specs.declared.pace.Pace.{Pace}
use Rattle.p2p_driver.specs.declared.questions.Question.{Question}

abbrev seconds : ℕ → Duration
seconds n = record { secs = n; nanos = 0 }

abbrev greeter : Info ℕ ℕ
greeter = signed 1 100000

abbrev hello : List ℕ
hello = wire.spelling (payload.Greeting greeter)

abbrev list : List ℕ
list = wire.spelling (payload.Peers (signed 2 100000 ∷ []))

-- which infos of the peers of set 0 one has
abbrev having : Bool → Bool → List ℕ
having first second = wire.spelling (payload.BitVec (record { index = 0; bits = first ∷ second ∷ [] }))

abbrev waits : List ℕ → Waiting
waits frame = record { frame = frame; wall = seconds 100; infos = 1; count = 1 }

abbrev from : Origin
from = record { 0 = 5 }

abbrev message : Data
message = record { channel = 7; message = 65 ∷ [] }

abbrev heard : ℕ → ℕ → Cause → Outcome ℕ ℕ → Happening ℕ ℕ
heard t owed c x = Happening.Heard 1 1 (seconds t) owed c x

-- a question for set 0, the newest one
abbrev asking : List ℕ → Question
asking frame = record { index = Some 0; newest = true; frame = frame }

-- a frame that came at 100 s since the epoch
abbrev frame : List ℕ → Cause
frame bytes = Cause.OfFrame bytes (seconds 100)

-- a frame may be read
abbrev reads : ℕ → ℕ → List ℕ → Kind → Happening ℕ ℕ
reads t owed bytes k = heard t owed (Cause.OfHead 300 bytes (length bytes)) (Outcome.Reads k (looked_of bytes (length bytes)))

abbrev wordy : List ℕ
wordy = 0 ∷ 7 ∷ 1 ∷ 65 ∷ []

module _ (given : Pace) (two : 2 ≤ non_zero_u32_get given.burst) where
  abbrev channel : Channel
  channel = record { number = 7; longest = 10; burst = given.burst; refill = seconds 1 }

  abbrev b : Base ℕ ℕ
  b = record {
    made = asker;
    pace = record given {
      arrivals = 4;
      by_address = 4;
      links = 4;
      inbound = 4;
      outbound = 4;
      owed = 4;
      queue = 4;
      tick = seconds 30;
      refresh = 2;
      refill = seconds 1;
      channels = record given.channels { items = channel ∷ []; len = 1; cap = 1; ok = (refl, omega arith); small = omega arith };
    };
    greeting = wire.spelling (payload.Greeting own_of_9);
    wire = wire;
  }

  abbrev set : List (Happening ℕ ℕ)
  set = Happening.SetCame (seconds 1) 0 (1 ∷ 2 ∷ []) [] [] ∷ []

  abbrev came : List (Happening ℕ ℕ)
  came = Happening.Arrived 1 from (seconds 1) room.Free ∷ set

  abbrev claimed : List (Happening ℕ ℕ)
  claimed = Happening.Claimed 1 1 from (seconds 1) ∷ came

  abbrev proved : List (Happening ℕ ℕ)
  proved = Happening.Proved 1 1 (seconds 2) (seconds 0) ∷ claimed

  abbrev sent_first : List (Happening ℕ ℕ)
  sent_first = Happening.Taken (action.Send (record { 0 = 1 }) b.greeting) ∷ proved

  abbrev written : List (Happening ℕ ℕ)
  written = Happening.Written 1 1 (seconds 2) ∷ sent_first

  abbrev greeting_read : List (Happening ℕ ℕ)
  greeting_read = reads 2 0 hello kind.Greeting ∷ written

  abbrev greeting_waits : List (Happening ℕ ℕ)
  greeting_waits = heard 2 0 (frame hello) (Outcome.Waits (waits hello)) ∷ greeting_read

  abbrev greeted : List (Happening ℕ ℕ)
  greeted = heard 3 1 (Cause.OfVerdicts (true ∷ [])) (Outcome.Greets false greeter (Some (asking (having true false)))) ∷ greeting_waits

  abbrev told : List (Happening ℕ ℕ)
  told = Happening.Taken (action.Told (event.Up (record { 0 = 1 }) 1)) ∷ greeted

  abbrev sent_question : List (Happening ℕ ℕ)
  sent_question = Happening.Taken (action.Send (record { 0 = 1 }) (having true false)) ∷ told

  abbrev spoken : List (Happening ℕ ℕ)
  spoken = Happening.Spoken 1 1 (seconds 3) 1 ∷ sent_question

  abbrev message_read : List (Happening ℕ ℕ)
  message_read = reads 4 1 wordy (kind.Message 0) ∷ spoken

  abbrev delivered : List (Happening ℕ ℕ)
  delivered = heard 4 1 (frame wordy) (Outcome.Delivers message) ∷ message_read

  abbrev list_read : List (Happening ℕ ℕ)
  list_read = reads 5 1 list kind.Gossip ∷ delivered

  abbrev list_waits : List (Happening ℕ ℕ)
  list_waits = heard 5 0 (frame list) (Outcome.Waits (waits list)) ∷ list_read

  abbrev listed : List (Happening ℕ ℕ)
  listed = heard 5 0 (Cause.OfVerdicts (true ∷ [])) (Outcome.Takes (signed 2 100000 ∷ [])) ∷ list_waits

  abbrev question_read : List (Happening ℕ ℕ)
  question_read = reads 6 0 (having false false) kind.Gossip ∷ listed

  abbrev answered : List (Happening ℕ ℕ)
  answered = heard 6 0 (frame (having false false)) (Outcome.Answers (wire.spelling (payload.Peers (greeter ∷ [])))) ∷ question_read

  abbrev asked_again : List (Happening ℕ ℕ)
  asked_again = Happening.Asked 1 1 (seconds 33) 1 true (Some (asking (having false false))) ∷ answered

  abbrev second_read : List (Happening ℕ ℕ)
  second_read = reads 34 1 (1 ∷ []) kind.Gossip ∷ asked_again

  abbrev broken : List (Happening ℕ ℕ)
  broken = heard 34 1 (frame (1 ∷ [])) (Outcome.Breaks breach.SecondGreeting (Some true)) ∷ second_read

  set_right : AreRight b set
  unfolding life IsStrictlySortedBy
  set_right = (
    (omega arith, (refl, record { sorted = tt; members = λ p. refl })),
    omega arith,
    tt,
  )

  came_right : AreRight b came
  came_right = (
    (refl, λ is. cc, ([], record { rise = omega arith; each = λ n. refl }, refl)),
    omega arith,
    set_right,
  )

  claimed_right : AreRight b claimed
  unfolding life
  claimed_right = (
    (refl, refl, refl, record { all = λ k a is. cc; of_origin = λ k a is. cc }),
    omega arith,
    came_right,
  )

  proved_right : AreRight b proved
  unfolding life
  proved_right = ((refl, refl), omega arith, claimed_right)

  sent_first_right : AreRight b sent_first
  unfolding life
  sent_first_right = (([], refl), tt, proved_right)

  written_right : AreRight b written
  unfolding life
  written_right = ((refl, omega arith), omega arith, sent_first_right)

  greeting_read_right : AreRight b greeting_read
  unfolding groups spellings
  greeting_read_right = (
    record { number = refl; dials = tt; comes = refl; owes = refl; done = tt; paced = (refl, (refl, refl)); room = tt },
    omega arith,
    written_right,
  )

  waits_right : AreRight b greeting_waits
  unfolding payload_at body_at length_at groups groups_at texts.info_at ingress_at ip_at socket_at
  waits_right = (
    record { number = refl; dials = tt; comes = ((refl, refl), (greeter, refl, refl, refl, refl)); owes = refl; done = tt; paced = refl; room = tt },
    omega arith,
    greeting_read_right,
  )

  greeted_right : AreRight b greeted
  unfolding life payload_at body_at length_at groups groups_at texts.info_at ingress_at ip_at socket_at spellings packed
  greeted_right = (
    record { number = refl; dials = refl; comes = (refl, (refl, refl)); owes = refl; done = (refl, refl, (0, refl, refl)); paced = tt; room = refl },
    omega arith,
    waits_right,
  )

  told_right : AreRight b told
  unfolding life
  told_right = ((action.Send (record { 0 = 1 }) (having true false) ∷ [], refl), tt, greeted_right)

  sent_question_right : AreRight b sent_question
  unfolding life
  sent_question_right = (([], refl), tt, told_right)

  -- one more might be said at once
  may_follow : (k a : ℕ) → slice_get (as_nanos (seconds 3) ∷ []) k ≡ Some a →
      (k + 2) * as_nanos (seconds 1) ≤ non_zero_u32_get given.burst * as_nanos (seconds 1) + (as_nanos (seconds 3) - a)
  may_follow zero a is = omega (arith, two)
  may_follow (suc k) a is = absurd cc

  spoken_right : AreRight b spoken
  unfolding life
  spoken_right = (
    record { number = refl; opens = refl; taken = refl; room = refl; after = omega arith; rate = may_follow },
    omega arith,
    sent_question_right,
  )

  message_read_right : AreRight b message_read
  unfolding groups groups_at
  message_read_right = (
    record { number = refl; dials = tt; comes = refl; owes = refl; done = tt; paced = (refl, (refl, refl, λ k a is. absurd cc)); room = tt },
    omega arith,
    spoken_right,
  )

  delivered_right : AreRight b delivered
  unfolding payload_at body_at data_at message_at length_at groups groups_at
  delivered_right = (
    record { number = refl; dials = tt; comes = (refl, refl, refl); owes = refl; done = tt; paced = refl; room = tt },
    omega arith,
    message_read_right,
  )

  list_read_right : AreRight b list_read
  unfolding groups groups_at spellings
  list_read_right = (
    record { number = refl; dials = tt; comes = refl; owes = refl; done = tt; paced = (refl, (refl, refl, λ k a is. absurd cc)); room = tt },
    omega arith,
    delivered_right,
  )

  list_waits_right : AreRight b list_waits
  unfolding payload_at body_at length_at groups groups_at texts.info_at ingress_at ip_at socket_at spellings elems items_at list_at
  list_waits_right = (
    record {
      number = refl;
      dials = tt;
      comes = (refl, refl, ((refl, refl), (signed 2 100000 ∷ [], refl, refl, refl, omega arith)));
      owes = refl;
      done = tt;
      paced = refl;
      room = tt;
    },
    omega arith,
    list_read_right,
  )

  listed_right : AreRight b listed
  unfolding payload_at body_at length_at groups groups_at texts.info_at ingress_at ip_at socket_at spellings elems items_at list_at
  listed_right = (
    record { number = refl; dials = tt; comes = (refl, (refl, refl)); owes = refl; done = tt; paced = tt; room = tt },
    omega arith,
    list_waits_right,
  )

  after_one : (k a : ℕ) → slice_get (as_nanos (seconds 5) ∷ []) k ≡ Some a →
      (k + 2) * as_nanos (seconds 1) ≤ non_zero_u32_get given.burst * as_nanos (seconds 1) + (as_nanos (seconds 6) - a)
  after_one zero a is = let five : as_nanos (seconds 5) ≡ a = cc in omega (arith, given.burst.ok, five)
  after_one (suc k) a is = absurd cc

  after_two : (k a : ℕ) → slice_get (as_nanos (seconds 6) ∷ as_nanos (seconds 5) ∷ []) k ≡ Some a →
      (k + 2) * as_nanos (seconds 1) ≤ non_zero_u32_get given.burst * as_nanos (seconds 1) + (as_nanos (seconds 34) - a)
  after_two zero a is = let six : as_nanos (seconds 6) ≡ a = cc in omega (arith, given.burst.ok, six)
  after_two (suc zero) a is = let five : as_nanos (seconds 5) ≡ a = cc in omega (arith, given.burst.ok, five)
  after_two (suc (suc k)) a is = absurd cc

  question_read_right : AreRight b question_read
  unfolding groups groups_at packed spellings
  question_read_right = (
    record { number = refl; dials = tt; comes = refl; owes = refl; done = tt; paced = (refl, (refl, refl, after_one)); room = tt },
    omega arith,
    listed_right,
  )

  answered_right : AreRight b answered
  unfolding life payload_at body_at groups groups_at packed bits_in bits_read_at bit_vec_read_at
  answered_right = (
    record {
      number = refl;
      dials = tt;
      comes = (refl, refl, (record { index = 0; bits = false ∷ false ∷ [] }, greeter ∷ [], refl, refl, refl));
      owes = refl;
      done = tt;
      paced = refl;
      room = refl;
    },
    omega arith,
    question_read_right,
  )

  asked_again_right : AreRight b asked_again
  unfolding life payload_at body_at groups groups_at packed spellings
  asked_again_right = (
    record { number = refl; due = refl; owes = refl; asks = (refl, refl, (0, refl, refl)); room_is = refl; room = refl },
    omega arith,
    answered_right,
  )

  second_read_right : AreRight b second_read
  unfolding groups groups_at packed spellings
  second_read_right = (
    record { number = refl; dials = tt; comes = refl; owes = refl; done = tt; paced = (refl, (refl, refl, after_two)); room = tt },
    omega arith,
    asked_again_right,
  )

  -- all of it is right
  pub right : AreRight b broken
  unfolding life
  right = (
    record { number = refl; dials = tt; comes = refl; owes = refl; done = refl; paced = refl; room = tt },
    omega arith,
    second_read_right,
  )

  -- it was asked twice, one list was admitted, and it has greeted
  pub shown : (asked_on asker.directory 1 broken ≡ 2) × (lists_on asker.directory 1 broken ≡ 1)
      × (has_greeted asker.directory 1 broken ≡ true)
  unfolding payload_at body_at groups spellings
  shown = (refl, refl, refl)

  -- frames are those of nodes
  pub read : Begins b.wire
  read = begins 1 one 1 one wire.spelling wire.verifies
