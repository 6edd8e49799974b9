-- What calls answer to frames and verdicts: v before the call, v2 after it.
use Rattle.std.specs.Prelude.{ℕ, ◌≡◌, ◌⊎◌, Bool, true, false, List, [], length, Some, None}
use Rattle.std.specs.Prelude.{is_some, Result, Ok, Err}
use Rattle.std.specs.Option.{IsSomeAnd}
use Rattle.std.specs.Duration.{as_nanos}
use Rattle.std.specs.declared.cmp.Ordering.{Ordering}
use Rattle.std.specs.declared.time.Duration.{Duration}
use Rattle.p2p_discovery.specs.Judgement.{judge_of}
use Rattle.p2p_directory.specs.Nodes.{NodeView}
use Rattle.p2p_directory.specs.Received.{Wire}
use Rattle.p2p_driver.specs.Drivers.{DriverView, DoesAt}
use Rattle.p2p_driver.specs.Frames.{Cause, Outcome, is_greeting_frame, is_unasked}
use Rattle.p2p_driver.specs.Frames.Cause.{OfFrame, OfVerdicts, OfHead}
use Rattle.p2p_driver.specs.Happenings.{Happening, is_closing, looked_by}
use Rattle.p2p_driver.specs.Heads.{kind_of}
use Rattle.p2p_driver.specs.Hearing.{IsMessage, TellsFirst, TellsNext}
use Rattle.p2p_driver.specs.Links.{link_of, is_dialing, is_open, is_expected, is_unexpected}
use Rattle.p2p_driver.specs.declared.actions.Why.TheVariants as why
use Rattle.p2p_driver.specs.declared.admission.Admission.{Admission}
use Rattle.p2p_driver.specs.declared.admission.Admission.TheVariants as admission
use Rattle.p2p_driver.specs.declared.admission.Heard.{Heard}
use Rattle.p2p_driver.specs.declared.admission.Heard.TheVariants as heard
use Rattle.p2p_driver.specs.declared.admission.Misjudged.{Misjudged}
use Rattle.p2p_driver.specs.declared.admission.Read.{Read}
use Rattle.p2p_driver.specs.declared.admission.Read.TheVariants as read
use Rattle.p2p_driver.specs.declared.frames.Came.{Came}
use Rattle.p2p_driver.specs.declared.heads.Kind.{Kind}
use Rattle.p2p_driver.specs.declared.links.Held.{Held}
use Rattle.p2p_driver.specs.declared.links.Phase.{Phase}
use Rattle.p2p_driver.specs.declared.links.Phase.TheVariants as phase
use Rattle.p2p_driver.specs.declared.links.Waiting.{Waiting}

-- what is returned for an outcome, once a frame is done with
abbrev pub IsReturned : {C S : Type 0} → List ℕ → Outcome C S → Heard → Type 0
IsReturned frame (Outcome.Greets dialer info question) r = r ≡ heard.Greeted
IsReturned frame (Outcome.Takes infos) r = r ≡ heard.Applied (length infos)
IsReturned frame (Outcome.Answers reply) r = r ≡ heard.Answered
IsReturned frame (Outcome.Delivers message) r = (start : ℕ)
    × (r ≡ heard.Message message.channel (record { start = start; end = length frame }))
    × IsMessage frame message.channel start message
IsReturned frame (Outcome.Breaks breach blocked) r = r ≡ heard.Closing (why.Breach breach)
IsReturned frame Outcome.IsEarly r = r ≡ heard.Closing why.Future
IsReturned frame outcome r = ⊥

-- .. when the frame came
abbrev pub IsAdmitted : {C S : Type 0} → List ℕ → Outcome C S → Admission → Type 0
IsAdmitted frame (Outcome.Waits w) (admission.Verify count) = count ≡ w.count
IsAdmitted frame Outcome.Ignores admission.Ignored = Unit {0}
IsAdmitted frame outcome (admission.Heard r) = IsReturned frame outcome r
IsAdmitted frame outcome a = ⊥

-- a frame is read, which may want memory: before the greeting one that begins as one, and after it
-- all but greetings and lists that nobody asked for
abbrev pub IsRead : Phase → ℕ → List ℕ → Type 0
IsRead phase.Greeting owed frame = is_greeting_frame frame ≡ true
IsRead phase.Open owed frame = (is_greeting_frame frame ≡ false) × (is_unasked owed frame ≡ false)
IsRead phase.Closing owed frame = ⊥

module _ {C S : Type 0} (cmp : C → C → Ordering) where
  -- a link has the number, and this holds of it
  abbrev pub HasLink : ℕ → DriverView C S → (Held → Type 0) → Type 0
  HasLink n v P = (p : C) × (held : Held) × (link_of cmp v.links p ≡ Some held)
      × (held.number ≡ n) × P held

  -- no link has it but a dial whose stream isn't proved
  abbrev pub HasNoLink : ℕ → DriverView C S → Type 0
  HasNoLink n v = (p : C) (held : Held) → link_of cmp v.links p ≡ Some held →
      held.number ≡ n → is_dialing held ≡ true

  -- a frame of this kind is to come on link n of p, by its first bytes and its length
  abbrev pub LooksOn : ℕ → ℕ → C → ℕ → List ℕ → ℕ → Kind → DriverView C S → Type 0
  LooksOn longest n p owed head size k v = IsSomeAnd (link_of cmp v.links p) (λ held.
      (held.number ≡ n) × (held.owed ≡ owed) × (held.waiting ≡ None)
      × (is_dialing held ≡ false) × (¬ (held.phase ≡ phase.Closing))
      × (k ≡ kind_of longest v.pace.channels.items
      v.node.limits (is_open held.phase) head size))

module _ {C S : Type 0} (cmp : C → C → Ordering) (wire : Wire C S) where
  -- the peer of link n is heard, and such an outcome comes of it
  abbrev pub HearsOf : ℕ → Cause → ℕ → (Outcome C S → Type 0) → DriverView C S → DriverView C S →
      Type 0
  HearsOf n cause now Is v v2 = (p : C) × (owed : ℕ) × (outcome : Outcome C S) × Is outcome
      × DoesAt cmp wire now (λ t. Happening.Heard n p t owed cause outcome) v v2

  -- `admit`
  abbrev pub AnswersFrame : ℕ → List ℕ → Duration → ℕ → Admission → DriverView C S →
      DriverView C S → Type 0
  AnswersFrame n frame wall now admission.Unknown v v2 = (v2 ≡ v) × HasNoLink cmp n v
  AnswersFrame n frame wall now admission.Closing v v2 = (v2 ≡ v)
      × HasLink cmp n v (λ held. held.phase ≡ phase.Closing)
  AnswersFrame n frame wall now admission.Unasked v v2 = (v2 ≡ v)
      × HasLink cmp n v (λ held. (is_some held.waiting ≡ true)
      ⊎ (is_unexpected frame held ≡ true))
  AnswersFrame n frame wall now (admission.Heard heard.Dropped) v v2 = (v2 ≡ v)
      × HasLink cmp n v (λ held. (held.waiting ≡ None) × (is_expected frame held ≡ true)
      × IsRead held.phase held.owed frame)
  AnswersFrame n frame wall now a v v2 =
      HearsOf n (OfFrame frame wall) now (λ outcome. IsAdmitted frame outcome a) v v2

  -- `length`, where no info is longer than so much
  abbrev pub AnswersLength : ℕ → ℕ → List ℕ → ℕ → ℕ → Read → DriverView C S → DriverView C S →
      Type 0
  AnswersLength longest n head size now read.Unknown v v2 = (v2 ≡ v) × HasNoLink cmp n v
  AnswersLength longest n head size now read.Judging v v2 = (v2 ≡ v)
      × HasLink cmp n v (λ held. is_some held.waiting ≡ true)
  AnswersLength longest n head size now read.Closing v v2 =
      ((v2 ≡ v) × HasLink cmp n v (λ held. held.phase ≡ phase.Closing))
      ⊎ HearsOf n (OfHead longest head size) now (λ outcome. is_closing outcome ≡ true) v v2
  AnswersLength longest n head size now read.Now v v2 =
      HearsOf n (OfHead longest head size) now (λ outcome. is_some (looked_by outcome) ≡ true) v v2
  AnswersLength longest n head size now (read.After next) v v2 = HearsOf n
      (OfHead longest head size) now (λ outcome. outcome ≡ Outcome.Delays (as_nanos next)) v v2

  -- `judged`
  abbrev pub AnswersVerdicts : ℕ → List Bool → ℕ → Result Heard Misjudged → DriverView C S →
      DriverView C S → Type 0
  AnswersVerdicts n verdicts now (Err e) v v2 = (v2 ≡ v)
      × ((p : C) (held : Held) (w : Waiting) → link_of cmp v.links p ≡ Some held →
      held.number ≡ n → held.waiting ≡ Some w → ¬ (length verdicts ≡ w.count))
  AnswersVerdicts n verdicts now (Ok heard.Dropped) v v2 = (v2 ≡ v)
      × HasLink cmp n v (λ held. is_some held.waiting ≡ true)
  AnswersVerdicts n verdicts now (Ok r) v v2 =
      HearsOf n (OfVerdicts verdicts) now (λ outcome. IsReturned [] outcome r) v v2

-- WHAT IS SEEN OF A FRAME that came on link n of p, of which nothing waits: if so many questions
-- are owed
module _ {C S : Type 0} (cmp : C → C → Ordering) (wire : Wire C S) where
  abbrev pub SeenIn : Phase → C → ℕ → List ℕ → Duration → Came → NodeView C S → Type 0
  SeenIn phase.Greeting p owed frame wall c node = TellsFirst cmp wire node.limits
      (judge_of cmp wire.verifies node.verifier) p frame wall c
  SeenIn phase.Open p owed frame wall c node = TellsNext cmp wire node.limits
      (judge_of cmp wire.verifies node.verifier) owed frame wall c
  SeenIn phase.Closing p owed frame wall c node = ⊥

  abbrev pub CameOn : ℕ → C → ℕ → List ℕ → Duration → Came → DriverView C S → Type 0
  CameOn n p owed frame wall c v = IsSomeAnd (link_of cmp v.links p) (λ held.
      (held.number ≡ n) × (held.owed ≡ owed) × (held.waiting ≡ None)
      × (is_expected frame held ≡ true) × SeenIn held.phase p owed frame wall c v.node)
