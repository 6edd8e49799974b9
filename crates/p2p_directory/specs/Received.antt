-- What a node asks and what it answers to a frame, and which infos are applied with that. Frames
-- are bytes, moments nanoseconds.
use Rattle.std.specs.Prelude.{ℕ, ◌≡◌, ◌==◌, ◌<◌, ◌^◌, Bool, true, false, not, ◌||◌, List, [], ◌∷◌}
use Rattle.std.specs.Prelude.{length}
use Rattle.std.specs.Prelude.{Option, Some, None, option_map, Result, Ok, Err}
use Rattle.p2p_discovery.specs.declared.codec.error.CodecError.{CodecError}
use Rattle.p2p_discovery.specs.declared.discovery.BitVec.{BitVec}
use Rattle.p2p_discovery.specs.declared.discovery.Error.{Error}
use Rattle.p2p_discovery.specs.declared.discovery.Info.{Info}
use Rattle.p2p_discovery.specs.declared.discovery.Payload.{Payload}
use Rattle.p2p_discovery.specs.declared.discovery.Payload.TheVariants as said
use Rattle.p2p_discovery.specs.declared.discovery.PayloadConfig.{PayloadConfig}
use Rattle.p2p_discovery.specs.Reading.{Reading, whole}
use Rattle.p2p_discovery.specs.Judgement.{Judge, refusal_if, list_refusal_by, verdicts_on}
use Rattle.p2p_discovery.specs.Judgement.{judged_before, to_verify}
use Rattle.p2p_discovery.specs.Payload.{payload_spelling, payload_at, infos_of_payload}
use Rattle.p2p_directory.specs.declared.node.received.Answer.{Answer}
use Rattle.p2p_directory.specs.declared.node.received.Answer.TheVariants as answer
use Rattle.p2p_directory.specs.declared.node.received.Received.{Received}
use Rattle.p2p_directory.specs.declared.node.received.Received.TheVariants as received

-- what all nodes have in common: how payloads are spelled and read, and which signatures are right
pub record Wire (C S : Type 0) : Type 0 where
  pub spelling : Payload C S → List ℕ
  pub reading : PayloadConfig → List ℕ → Reading (Payload C S)
  pub verifies : C → List ℕ → List ℕ → S → Bool

-- how a type implements `FixedBytes`
abbrev pub Fixed : Type 0 → Type 1
Fixed A = record {
  eq : A → A → Bool;
  SIZE : ℕ;
  IsValue : A → Type 0;
  spelled : A → List ℕ;
  value : List ℕ → Option A;
}

-- .. by the right signatures, and how keys and signatures are encoded
abbrev pub wire_of : {C S : Type 0} → (C → List ℕ → List ℕ → S → Bool) → Fixed C → Fixed S →
    Wire C S
wire_of verifies key signature = record {
  spelling = payload_spelling key.spelled signature.spelled;
  reading = payload_at key.SIZE key.value signature.SIZE signature.value;
  verifies = verifies;
}

-- a node as it stands: its limits, by what it judges, and what its directory answers
pub record Standing (C S : Type 0) : Type 0 where
  pub limits : PayloadConfig
  pub judge : Judge C S
  -- the bits of the set at a place, with its index, if there is one
  pub bits : ℕ → Option BitVec
  -- the infos for an index and bits at a moment, or none at all
  pub infos : ℕ → List Bool → ℕ → Option (List (Info C S))

-- an answer, the infos that an update call applies with it, if it makes one, and the infos that
-- are told by it
pub record FrameOutcome (C S : Type 0) : Type 0 where
  pub answer : Received C S
  pub applied : Option (List (Info C S))
  pub told : List (Info C S)

-- an answer with which nothing is applied, and no info is told
abbrev pub only : {C S : Type 0} → Received C S → FrameOutcome C S
only answer = record { answer = answer; applied = None; told = [] }

-- .. with which these infos are applied
abbrev pub applying : {C S : Type 0} → Received C S → List (Info C S) → FrameOutcome C S
applying answer infos = record { answer = answer; applied = Some infos; told = [] }

-- an answer to which room is asked for: to a greeting that is applied, and a reply
abbrev pub takes_room : {C S : Type 0} → Received C S → Bool
takes_room (received.Greeted key) = true
takes_room (received.Reply frame) = true
takes_room _ = false

-- an answer with which infos are applied: all others leave the node as it was
abbrev pub applies : {C S : Type 0} → Received C S → Bool
applies (received.Greeted key) = true
applies (received.Applied count) = true
applies _ = false

module _ {C S : Type 0} where
  -- want of memory where it is allowed, else this answer
  abbrev pub IsFrameAnswer : Bool → FrameOutcome C S → Received C S → Type 0
  IsFrameAnswer may o received.Memory = may ≡ true
  IsFrameAnswer may o r = r ≡ o.answer

  -- the infos that are applied with an answer: where memory was refused none
  abbrev pub applied_with : FrameOutcome C S → Received C S → Option (List (Info C S))
  applied_with o received.Memory = None
  applied_with o r = o.applied

  -- the infos that are told with an answer: where memory was refused none
  abbrev pub told_with : FrameOutcome C S → Received C S → List (Info C S)
  told_with o received.Memory = []
  told_with o r = o.told

-- the infos of a reply are so few that their number can be encoded
abbrev pub AreFew : {C S : Type 0} → Answer C S → Type 0
AreFew (answer.Infos infos) = length infos < 2 ^ 32
AreFew (answer.Received r) = Unit {0}

-- want of memory, and no other answer
abbrev pub IsWantOfMemory : {C S : Type 0} → Received C S → Type 0
IsWantOfMemory received.Memory = Unit {0}
IsWantOfMemory _ = ⊥

-- whether each signature of what a payload has of infos is right, in their order
abbrev pub verdicts_of : {C S : Type 0} → Judge C S → Payload C S → List Bool
verdicts_of judge payload = verdicts_on judge (infos_of_payload payload)

-- the infos of a payload whose signatures decide at a moment, in their order
abbrev pub to_ask : {C S : Type 0} → Judge C S → ℕ → Payload C S → List (Info C S)
to_ask judge now (said.Greeting i) = judged_before judge now (i ∷ [])
to_ask judge now (said.Peers is) = to_verify judge now is
to_ask judge now _ = []

-- what is said of the first info; one of which nothing is said has no right signature
abbrev pub first_verdict : List Bool → Bool
first_verdict [] = false
first_verdict (right ∷ verdicts) = right

-- a payload that was read has another number of infos than there are verdicts
abbrev pub miscounts : {C S : Type 0} → List Bool → Result (Payload C S × List ℕ) CodecError → Bool
miscounts verdicts (Ok x) = not (length (infos_of_payload x.0) == length verdicts)
miscounts verdicts (Err fault) = false

module _ {C S : Type 0} (wire : Wire C S) where
  -- a greeting, by why it is refused, if it is
  abbrev pub greeted : Info C S → Option Error → FrameOutcome C S
  greeted info None = applying (received.Greeted info.public_key) (info ∷ [])
  greeted info (Some e) = only (received.Invalid e)

  -- bits, by the infos for them, if there are any at all
  abbrev pub replied : Option (List (Info C S)) → FrameOutcome C S
  replied None = only received.Malformed
  replied (Some infos) = record {
    answer = received.Reply (wire.spelling (said.Peers infos));
    applied = None;
    told = infos;
  }

  -- infos, by why they are refused, if they are
  abbrev pub taken : List (Info C S) → Option Error → FrameOutcome C S
  taken infos None = applying (received.Applied (length infos)) infos
  taken infos (Some e) = only (received.Invalid e)

  -- what a node answers to a payload at a moment, by whether the signatures of its infos are right
  abbrev pub answered_by : List Bool → Standing C S → ℕ → Payload C S → FrameOutcome C S
  answered_by verdicts node now (said.Data message) = only (received.Data message)
  answered_by verdicts node now (said.Greeting info) =
      greeted info (refusal_if node.judge (first_verdict verdicts) now info)
  answered_by verdicts node now (said.BitVec v) = replied (node.infos v.index v.bits now)
  answered_by verdicts node now (said.Peers infos) =
      taken infos (list_refusal_by node.judge verdicts now infos)

  -- .. to what comes of reading a frame: its fault, if it spells no payload that is admitted
  abbrev pub read_by : (Payload C S → List Bool) → Standing C S → ℕ →
      Result (Payload C S × List ℕ) CodecError → FrameOutcome C S
  read_by verdicts node now (Ok x) = answered_by (verdicts x.0) node now x.0
  read_by verdicts node now (Err fault) = only (received.Codec fault)

  -- .. by the signatures of the keys
  abbrev pub read_at : Standing C S → ℕ → Result (Payload C S × List ℕ) CodecError →
      FrameOutcome C S
  read_at node now = read_by (verdicts_of node.judge) node now

  -- what is returned for a frame, once the infos of a reply are encoded
  abbrev pub received_of : Answer C S → Received C S
  received_of (answer.Infos infos) = received.Reply (wire.spelling (said.Peers infos))
  received_of (answer.Received r) = r

  -- RECEIVED: what a node answers to a frame at a moment, by these verdicts
  abbrev pub received_by : (Payload C S → List Bool) → Standing C S → List ℕ → ℕ → FrameOutcome C S
  received_by verdicts node frame now =
      read_by verdicts node now (whole (wire.reading node.limits) frame).outcome

  -- .. by the signatures of the keys
  abbrev pub received_at : Standing C S → List ℕ → ℕ → FrameOutcome C S
  received_at node frame now = received_by (verdicts_of node.judge) node frame now

  -- a frame that spells an admitted payload has another number of infos than there are verdicts
  abbrev pub are_miscounted : Standing C S → List ℕ → List Bool → Bool
  are_miscounted node frame verdicts =
      miscounts verdicts (whole (wire.reading node.limits) frame).outcome

  -- the frame of an index and its bits, if there are any
  abbrev pub frame_of_bits : Option BitVec → Option (List ℕ)
  frame_of_bits bits = option_map (λ v. wire.spelling (said.BitVec v)) bits

  -- `ask`: the frame of the bits of the set at a place
  abbrev pub ask_frame_at : Standing C S → ℕ → Option (List ℕ)
  ask_frame_at node place = frame_of_bits (node.bits place)

  -- WANT OF MEMORY: where reading the frame asks for some, and for an answer that takes room
  abbrev pub frame_may_want_memory_by : (Payload C S → List Bool) → Standing C S → List ℕ → ℕ → Bool
  frame_may_want_memory_by verdicts node frame now =
      (whole (wire.reading node.limits) frame).grows
      || takes_room (received_by verdicts node frame now).answer
