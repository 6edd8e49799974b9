-- What functions tell that look at a frame, or have a node answer it, and what becomes of its link.
use Rattle.std.specs.Prelude.{ℕ, ◌≡◌, ◌≤◌, ◌⊎◌, Bool, true}
use Rattle.std.specs.Prelude.{false, List, [], ◌∷◌, ◌++◌, length, drop}
use Rattle.std.specs.Prelude.{if◌then◌else◌, Option, Some, option_map}
use Rattle.std.specs.BTreeMap.{is_at}
use Rattle.std.specs.Duration.{as_nanos}
use Rattle.std.specs.declared.cmp.Ordering.{Ordering}
use Rattle.std.specs.declared.time.Duration.{Duration}
use Rattle.p2p_discovery.specs.declared.data.Data.{Data}
use Rattle.p2p_discovery.specs.declared.discovery.BitVec.{BitVec}
use Rattle.p2p_discovery.specs.declared.discovery.Info.{Info}
use Rattle.p2p_discovery.specs.declared.discovery.Payload.{Payload}
use Rattle.p2p_discovery.specs.declared.discovery.Payload.TheVariants as payload
use Rattle.p2p_discovery.specs.declared.discovery.PayloadConfig.{PayloadConfig}
use Rattle.p2p_discovery.specs.Judgement.{Judge, judge_of}
use Rattle.p2p_tracker.specs.Calls.Call.{Update}
use Rattle.p2p_directory.specs.Nodes.{NodeView, AtEach, standing_in}
use Rattle.p2p_directory.specs.Received.{Wire}
use Rattle.p2p_directory.specs.Run.{world_after}
use Rattle.p2p_driver.specs.Frames.{Outcome, Shares, Spells, ComesFirst, ComesOf}
use Rattle.p2p_driver.specs.Frames.{ComesOfVerdicts, refusal_of, is_greeting_frame, is_unasked}
use Rattle.p2p_driver.specs.Happenings.{answered_on, heard_as}
use Rattle.p2p_driver.specs.Links.{link_of, count_of}
use Rattle.p2p_driver.specs.Steps.{Makes}
use Rattle.p2p_driver.specs.declared.actions.Action.{Action}
use Rattle.p2p_driver.specs.declared.actions.Breach.TheVariants as breach
use Rattle.p2p_driver.specs.declared.frames.Came.{Came}
use Rattle.p2p_driver.specs.declared.frames.Came.TheVariants as came
use Rattle.p2p_driver.specs.declared.links.Direction.{Direction}
use Rattle.p2p_driver.specs.declared.links.Held.{Held}
use Rattle.p2p_driver.specs.declared.links.Waiting.{Waiting}
use Rattle.p2p_driver.specs.declared.questions.Question.{Question}
use Rattle.p2p_driver.specs.declared.serving.Judged.{Judged}
use Rattle.p2p_driver.specs.declared.serving.Judged.TheVariants as judged
use Rattle.p2p_driver.specs.declared.serving.Served.{Served}
use Rattle.p2p_driver.specs.declared.serving.Served.TheVariants as served

-- a message on a channel is the frame from this byte on
pub record IsMessage (frame : List ℕ) (channel start : ℕ) (message : Data) : Type 0 where
  pub channel_is : message.channel ≡ channel
  pub within : start ≤ length frame
  pub message_is : drop start frame ≡ message.message

-- the frame spells a question, or the empty list
abbrev pub IsServable : {C S : Type 0} → Wire C S → PayloadConfig → List ℕ → Type 0
IsServable {C} {S} wire limits frame =
    ((bits : BitVec) × Spells wire limits frame (payload.BitVec bits))
    ⊎ Spells wire limits frame (payload.Peers [])

module _ {C S : Type 0} (cmp : C → C → Ordering) (wire : Wire C S) (limits : PayloadConfig)
    (judge : Judge C S) where
  -- of a first frame
  abbrev pub TellsFirst : C → List ℕ → Duration → Came → Type 0
  TellsFirst p frame wall (came.Breach b) = (blocked : Option Bool) →
      ComesFirst cmp wire limits judge p frame wall (Outcome.Breaks b blocked)
  TellsFirst p frame wall (came.Waits w) =
      ComesFirst cmp wire limits judge p frame wall (Outcome.Waits w)
  TellsFirst p frame wall came.Memory = is_greeting_frame frame ≡ true
  TellsFirst p frame wall came = ⊥

  -- of a payload of a peer that has greeted
  abbrev pub TellsPayload : List ℕ → Duration → Came → Type 0
  TellsPayload frame wall (came.Breach b) = (blocked : Option Bool) (shares : Shares C S) →
      ComesOf cmp wire limits judge shares frame wall (Outcome.Breaks b blocked)
  TellsPayload frame wall came.Early = (shares : Shares C S) →
      ComesOf cmp wire limits judge shares frame wall Outcome.IsEarly
  TellsPayload frame wall (came.Waits w) = (shares : Shares C S) →
      ComesOf cmp wire limits judge shares frame wall (Outcome.Waits w)
  TellsPayload frame wall (came.Message channel start) = (message : Data)
      × Spells wire limits frame (payload.Data message)
      × IsMessage frame channel start message
  TellsPayload frame wall came.Served = IsServable wire limits frame
  TellsPayload frame wall came = ⊥

  -- .. of a list of infos
  abbrev pub TellsList : List (Info C S) → List ℕ → Duration → Came → Type 0
  TellsList infos frame wall came = Spells wire limits frame (payload.Peers infos) →
      TellsPayload frame wall came

  -- of a frame of a peer that has greeted, if so many questions are owed
  abbrev pub TellsNext : ℕ → List ℕ → Duration → Came → Type 0
  TellsNext owed frame wall (came.Breach breach.SecondGreeting) = is_greeting_frame frame ≡ true
  TellsNext owed frame wall came.Ignored = (is_greeting_frame frame ≡ false)
      × (is_unasked owed frame ≡ true)
  TellsNext owed frame wall came.Memory = (is_greeting_frame frame ≡ false)
      × (is_unasked owed frame ≡ false)
  TellsNext owed frame wall came = (is_greeting_frame frame ≡ false)
      × (is_unasked owed frame ≡ false) × TellsPayload frame wall came

-- WHAT A NODE ANSWERS: v before it, v2 after it

module _ {C S : Type 0} (cmp : C → C → Ordering) (wire : Wire C S) where
  -- .. to a question or the empty list: wherever the node stood, this comes of it
  abbrev pub IsServed : List ℕ → Duration → Outcome C S → NodeView C S → Type 0
  IsServed frame wall outcome v = AtEach cmp v (λ m calls.
      let node = standing_in m wire (world_after m.directory calls) in
      ComesOf cmp wire node.limits node.judge node.infos frame wall outcome)

  abbrev pub Serves : List ℕ → Duration → Served → NodeView C S → NodeView C S → Type 0
  Serves frame wall (served.Reply reply) v v2 =
      (v2 ≡ v) × IsServed frame wall (Outcome.Answers reply) v
  Serves frame wall served.Malformed v v2 = (v2 ≡ v)
      × ((blocked : Option Bool) → IsServed frame wall (Outcome.Breaks breach.Malformed blocked) v)
  Serves frame wall served.Applied v v2 = Makes cmp (Update [] ∷ []) v v2
      × IsServed frame wall (Outcome.Takes []) v
  Serves frame wall served.Memory v v2 = v2 ≡ v

  -- what comes of verdicts on a frame that waits, by what is seen of the node
  abbrev pub IsJudged : Waiting → List Bool → Outcome C S → NodeView C S → Type 0
  IsJudged w verdicts outcome v =
      ComesOfVerdicts cmp wire v.limits (judge_of cmp wire.verifies v.verifier) w verdicts outcome

  -- .. to verdicts on a frame that waits
  abbrev pub Judges : Waiting → List Bool → Judged → NodeView C S → NodeView C S → Type 0
  Judges w verdicts judged.Greeted v v2 = (info : Info C S)
      × ((dialer : Bool) (question : Option Question) →
      IsJudged w verdicts (Outcome.Greets dialer info question) v)
      × Makes cmp (Update (info ∷ []) ∷ []) v v2
  Judges w verdicts (judged.Applied count) v v2 = (infos : List (Info C S))
      × (count ≡ length infos) × IsJudged w verdicts (Outcome.Takes infos) v
      × Makes cmp (Update infos ∷ []) v v2
  Judges w verdicts (judged.Refused e) v v2 = (v2 ≡ v) × (p : Payload C S)
      × Spells wire v.limits w.frame p
      × (refusal_of cmp wire v.limits (judge_of cmp wire.verifies v.verifier) verdicts
      (as_nanos w.wall) p ≡ Some e)
  Judges w verdicts judged.Memory v v2 = v2 ≡ v

-- WHAT BECOMES OF A LINK n of p, when this comes of a frame at t and so many questions are owed
pub record Follows {C S : Type 0} (cmp : C → C → Ordering) (n : ℕ) (p : C) (t : Duration) (owed : ℕ)
    (outcome : Outcome C S) (links links2 : List (C × Held)) (actions actions2 : List (Action C)) :
    Type 0 where
  pub links_are : (q : C) → link_of cmp links2 q ≡ (if is_at (cmp p) q
      then option_map (heard_as t owed outcome) (link_of cmp links q) else link_of cmp links q)
  pub counts : (way : Direction) → count_of way links2 ≡ count_of way links
  pub said : actions2 ≡ actions ++ answered_on n p outcome (link_of cmp links p)
