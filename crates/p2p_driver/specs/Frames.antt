-- Frames of links: what a frame is, and what comes of it. Frames are bytes, moments nanoseconds.
use Rattle.std.specs.Prelude.{ℕ, ◌≡◌, ◌==◌, ◌<◌, ◌-◌, ◌&&◌, not, Bool, true, false}
use Rattle.std.specs.Prelude.{List, [], ◌∷◌, length, Option, Some, None}
use Rattle.std.specs.Prelude.{Result, Ok, Err}
use Rattle.std.specs.Duration.{as_nanos}
use Rattle.std.specs.BTreeMap.{is_at}
use Rattle.std.specs.Option.{IsSomeAnd}
use Rattle.std.specs.declared.cmp.Ordering.{Ordering}
use Rattle.std.specs.declared.time.Duration.{Duration}
use Rattle.p2p_discovery.specs.declared.codec.error.CodecError.{CodecError}
use Rattle.p2p_discovery.specs.declared.data.Data.{Data}
use Rattle.p2p_discovery.specs.declared.discovery.BitVec.{BitVec}
use Rattle.p2p_discovery.specs.declared.discovery.Error.{Error}
use Rattle.p2p_discovery.specs.declared.discovery.Error.TheVariants.{SynchronyBound}
use Rattle.p2p_discovery.specs.declared.discovery.Info.{Info}
use Rattle.p2p_discovery.specs.declared.discovery.Payload.{Payload}
use Rattle.p2p_discovery.specs.declared.discovery.Payload.TheVariants as payload
use Rattle.p2p_discovery.specs.declared.discovery.PayloadConfig.{PayloadConfig}
use Rattle.p2p_discovery.specs.Judgement.{Judge, refusal_if, list_refusal_by, to_verify}
use Rattle.p2p_discovery.specs.Reading.{whole}
use Rattle.p2p_directory.specs.Received.{Wire, Standing, first_verdict}
use Rattle.p2p_driver.specs.Looked.{LookedView}
use Rattle.p2p_driver.specs.Questions.{owed_with}
use Rattle.p2p_driver.specs.declared.actions.Breach.{Breach}
use Rattle.p2p_driver.specs.declared.actions.Breach.TheVariants as breach
use Rattle.p2p_driver.specs.declared.heads.Kind.{Kind}
use Rattle.p2p_driver.specs.declared.links.Phase.{Phase}
use Rattle.p2p_driver.specs.declared.links.Phase.TheVariants as phase
use Rattle.p2p_driver.specs.declared.links.Waiting.{Waiting}
use Rattle.p2p_driver.specs.declared.questions.Question.{Question}

-- by what the peer of a link is heard
pub data Cause : Type 0 where
  -- a frame came, at a time since the epoch
  OfFrame : (frame : List ℕ) (wall : Duration) → Cause
  -- it was told which signatures are right in the frame that waits
  OfVerdicts : (verdicts : List Bool) → Cause
  -- a frame is to come, with these first bytes and this length. No info is longer than so much
  OfHead : (longest : ℕ) (head : List ℕ) (size : ℕ) → Cause

-- what comes of it
pub data Outcome (C S : Type 0) : Type 0 where
  -- the frame waits until it is told which of its signatures are right
  Waits : (waiting : Waiting) → Outcome C S
  -- the peer has greeted, on a dial or not: its info is applied, and it is asked this question, if
  -- memory is there
  Greets : (dialer : Bool) (info : Info C S) (question : Option Question) → Outcome C S
  -- infos are applied
  Takes : (infos : List (Info C S)) → Outcome C S
  -- a question is answered with this frame
  Answers : (reply : List ℕ) → Outcome C S
  -- a message is delivered
  Delivers : (message : Data) → Outcome C S
  -- a list is ignored that nobody asked for
  Ignores : Outcome C S
  -- the peer broke a rule, and its link is closed. If memory is there, the peer is blocked: whether
  -- that was taken
  Breaks : (breach : Breach) (blocked : Option Bool) → Outcome C S
  -- an info is of the future, and the link is closed
  IsEarly : Outcome C S
  -- a frame may be read, of this kind, and handed in then
  Reads : (kind : Kind) (looked : LookedView) → Outcome C S
  -- .. but not before this moment
  Delays : (next : ℕ) → Outcome C S
  -- the frame is a message on a channel that isn't in the settings, and the link is closed
  LacksChannel : Outcome C S

-- the frame begins with this prefix
abbrev pub begins_with : ℕ → List ℕ → Bool
begins_with prefix [] = false
begins_with prefix (first ∷ rest) = first == prefix

abbrev pub is_greeting_frame : List ℕ → Bool
is_greeting_frame = begins_with 1

-- the empty list: its prefix, and its number of infos
abbrev pub is_empty_list : List ℕ → Bool
is_empty_list (prefix ∷ count ∷ []) = (prefix == 3) && (count == 0)
is_empty_list _ = false

-- a list of infos that nobody asked for, if so many questions are owed: the empty one isn't
abbrev pub is_unasked : ℕ → List ℕ → Bool
is_unasked owed frame = (owed == 0) && (begins_with 3 frame && not (is_empty_list frame))

-- how many questions are owed after an outcome, of so many before and at most so many
abbrev pub owed_after : {C S : Type 0} → Phase → Outcome C S → ℕ → ℕ → ℕ
owed_after ph (Outcome.Greets dialer info question) most owed = owed_with question most owed
owed_after ph (Outcome.Waits waiting) most owed = owed - 1
owed_after ph outcome most owed = owed

-- the peer greets as one that was dialled or not, as it should
abbrev pub IsAsDialer : {C S : Type 0} → Bool → Outcome C S → Type 0
IsAsDialer dials (Outcome.Greets dialer info question) = dialer ≡ dials
IsAsDialer dials outcome = Unit {0}

-- what may come of the first bytes of a frame
abbrev pub is_of_head : {C S : Type 0} → Outcome C S → Bool
is_of_head (Outcome.Breaks breach.NoGreeting blocked) = true
is_of_head (Outcome.Breaks breach.FrameLength blocked) = true
is_of_head (Outcome.Reads kind looked) = true
is_of_head (Outcome.Delays next) = true
is_of_head Outcome.LacksChannel = true
is_of_head outcome = false

-- what waits after an outcome
abbrev pub waiting_by : {C S : Type 0} → Outcome C S → Option Waiting
waiting_by (Outcome.Waits waiting) = Some waiting
waiting_by outcome = None

-- the info is of the future
abbrev pub is_early : Error → Bool
is_early SynchronyBound = true
is_early e = false

-- what a refusal does: an info of the future closes the link, each other one is a breach
abbrev pub IsRefused : {C S : Type 0} → Outcome C S → Option Error → Type 0
IsRefused (Outcome.Breaks (breach.Invalid e) blocked) refusal =
    (refusal ≡ Some e) × (is_early e ≡ false)
IsRefused Outcome.IsEarly refusal = IsSomeAnd refusal (λ e. is_early e ≡ true)
IsRefused outcome refusal = ⊥

-- the infos for an index and bits at a moment, or none at all
abbrev pub Shares : Type 0 → Type 0 → Type 0
Shares C S = ℕ → List Bool → ℕ → Option (List (Info C S))

-- by how frames are read, under these limits
module _ {C S : Type 0} (wire : Wire C S) (limits : PayloadConfig) where
  -- what the frame spells, or why it spells nothing
  abbrev pub read : List ℕ → Result (Payload C S × List ℕ) CodecError
  read frame = (whole (wire.reading limits) frame).outcome

  -- it spells this payload, and no more
  abbrev pub Spells : List ℕ → Payload C S → Type 0
  Spells frame p = read frame ≡ Ok (p, [])

-- THE CAUSES, by how frames are read and spelled, under these limits, and by what infos are judged
module _ {C S : Type 0} (cmp : C → C → Ordering) (wire : Wire C S) (limits : PayloadConfig)
    (judge : Judge C S) where
  -- a list of infos, of which some signatures decide, waits
  abbrev pub IsListWaiting : Waiting → Type 0
  IsListWaiting w = (infos : List (Info C S)) × Spells wire limits w.frame (payload.Peers infos)
      × (w.infos ≡ length infos)
      × (w.count ≡ length (to_verify judge (as_nanos w.wall) infos)) × (0 < w.count)

  -- what waits on a link of p: before it has greeted, a greeting of its own key; then, such a list
  abbrev pub IsWaiting : Phase → C → Waiting → Type 0
  IsWaiting phase.Greeting p w = (info : Info C S)
      × Spells wire limits w.frame (payload.Greeting info)
      × (is_at (cmp p) info.public_key ≡ true) × (w.infos ≡ 1) × (w.count ≡ 1)
  IsWaiting phase.Open p w = IsListWaiting w
  IsWaiting phase.Closing p w = ⊥

  -- this frame is what waits, and it came then
  abbrev pub IsOfFrame : List ℕ → Duration → Waiting → Type 0
  IsOfFrame frame wall w = (w.frame ≡ frame) × (w.wall ≡ wall)

  -- what comes of the first frame of p, at a time since the epoch
  abbrev pub ComesFirst : C → List ℕ → Duration → Outcome C S → Type 0
  ComesFirst p frame wall (Outcome.Breaks breach.NoGreeting blocked) =
      is_greeting_frame frame ≡ false
  ComesFirst p frame wall (Outcome.Breaks (breach.Codec fault) blocked) =
      (is_greeting_frame frame ≡ true) × (read wire limits frame ≡ Err fault)
  ComesFirst p frame wall (Outcome.Breaks breach.OtherGreeting blocked) = (info : Info C S)
      × Spells wire limits frame (payload.Greeting info) × (is_at (cmp p) info.public_key ≡ false)
  ComesFirst p frame wall (Outcome.Waits w) =
      IsOfFrame frame wall w × IsWaiting phase.Greeting p w
  ComesFirst p frame wall outcome = ⊥

  -- what comes of a payload of a peer that has greeted, by the infos for bits at a moment
  abbrev pub ComesOf : Shares C S → List ℕ → Duration → Outcome C S → Type 0
  ComesOf shares frame wall (Outcome.Breaks (breach.Codec fault) blocked) =
      read wire limits frame ≡ Err fault
  ComesOf shares frame wall (Outcome.Delivers message) =
      Spells wire limits frame (payload.Data message)
  ComesOf shares frame wall (Outcome.Answers reply) =
      (bits : BitVec) × (infos : List (Info C S)) × Spells wire limits frame (payload.BitVec bits)
      × (shares bits.index bits.bits (as_nanos wall) ≡ Some infos)
      × (reply ≡ wire.spelling (payload.Peers infos))
  ComesOf shares frame wall (Outcome.Breaks breach.Malformed blocked) = (bits : BitVec)
      × Spells wire limits frame (payload.BitVec bits)
      × (shares bits.index bits.bits (as_nanos wall) ≡ None)
  ComesOf shares frame wall (Outcome.Takes infos) = (infos ≡ [])
      × Spells wire limits frame (payload.Peers infos)
  ComesOf shares frame wall (Outcome.Waits w) = IsOfFrame frame wall w × IsListWaiting w
  ComesOf shares frame wall outcome = (infos : List (Info C S))
      × Spells wire limits frame (payload.Peers infos)
      × (to_verify judge (as_nanos wall) infos ≡ [])
      × IsRefused outcome (list_refusal_by judge [] (as_nanos wall) infos)

  -- .. of a frame of it, if so many questions are owed
  abbrev pub ComesNext : Shares C S → ℕ → List ℕ → Duration → Outcome C S → Type 0
  ComesNext shares owed frame wall (Outcome.Breaks breach.SecondGreeting blocked) =
      is_greeting_frame frame ≡ true
  ComesNext shares owed frame wall Outcome.Ignores = is_unasked owed frame ≡ true
  ComesNext shares owed frame wall outcome = (is_greeting_frame frame ≡ false)
      × (is_unasked owed frame ≡ false) × ComesOf shares frame wall outcome

  -- why infos of a payload are refused by these verdicts, if they are
  abbrev pub refusal_of : List Bool → ℕ → Payload C S → Option Error
  refusal_of verdicts wall (payload.Greeting info) =
      refusal_if judge (first_verdict verdicts) wall info
  refusal_of verdicts wall (payload.Peers infos) =
      list_refusal_by judge verdicts wall infos
  refusal_of verdicts wall p = None

  -- what comes of verdicts on the frame that waits: it is judged by the wall time at which it came
  abbrev pub ComesOfVerdicts : Waiting → List Bool → Outcome C S → Type 0
  ComesOfVerdicts w verdicts (Outcome.Greets dialer info question) =
      Spells wire limits w.frame (payload.Greeting info)
      × (refusal_of verdicts (as_nanos w.wall) (payload.Greeting info) ≡ None)
  ComesOfVerdicts w verdicts (Outcome.Takes infos) =
      Spells wire limits w.frame (payload.Peers infos)
      × (refusal_of verdicts (as_nanos w.wall) (payload.Peers infos) ≡ None)
  ComesOfVerdicts w verdicts outcome = (p : Payload C S) × Spells wire limits w.frame p
      × IsRefused outcome (refusal_of verdicts (as_nanos w.wall) p)

-- how a node that stands so hears the peer of a link
module _ {C S : Type 0} (cmp : C → C → Ordering) (wire : Wire C S) (node : Standing C S) where
  -- why this outcome comes on a link of p, by how far it is, how many questions are owed, and what
  -- waits
  abbrev pub IsOutcome : Phase → ℕ → Option Waiting → C → Cause → Outcome C S → Type 0
  IsOutcome phase.Greeting owed None p (OfFrame frame wall) outcome =
      ComesFirst cmp wire node.limits node.judge p frame wall outcome
  IsOutcome phase.Open owed None p (OfFrame frame wall) outcome =
      ComesNext cmp wire node.limits node.judge node.infos owed frame wall outcome
  IsOutcome phase.Greeting owed (Some w) p (OfVerdicts verdicts) outcome =
      (length verdicts ≡ w.count)
      × ComesOfVerdicts cmp wire node.limits node.judge w verdicts outcome
  IsOutcome phase.Open owed (Some w) p (OfVerdicts verdicts) outcome =
      (length verdicts ≡ w.count)
      × ComesOfVerdicts cmp wire node.limits node.judge w verdicts outcome
  IsOutcome phase.Greeting owed None p (OfHead longest head size) outcome =
      is_of_head outcome ≡ true
  IsOutcome phase.Open owed None p (OfHead longest head size) outcome =
      is_of_head outcome ≡ true
  IsOutcome ph owed waiting p cause outcome = ⊥
