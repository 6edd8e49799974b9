-- What a session does with frames, and what it tells of reservations.
use Rattle.std.specs.Prelude.{◌≡◌, ◌⊎◌, ℕ, ◌+◌, ◌<◌, ◌≤◌, Bool, true, not, ◌==◌, List, [], ◌∷◌}
use Rattle.std.specs.Prelude.{max, ◌++◌, length, map, flat_map, Option, Some, None, Result, Ok, Err}
use Rattle.p2p_discovery.specs.declared.codec.error.CodecError.{CodecError}
use Rattle.p2p_discovery.specs.declared.codec.error.CodecError.TheVariants as fault
use Rattle.p2p_discovery.specs.declared.codec.error.What.TheVariants as what
use Rattle.p2p_discovery.specs.declared.discovery.Error.{Error}
use Rattle.p2p_discovery.specs.declared.discovery.Error.TheVariants as error
use Rattle.p2p_discovery.specs.declared.discovery.Payload.{Payload}
use Rattle.p2p_discovery.specs.Ingress.{ingress_spelling}
use Rattle.p2p_discovery.specs.Judgement.{Judge, judge_of}
use Rattle.p2p_discovery.specs.Payload.{infos_of_payload}
use Rattle.p2p_discovery.specs.Reading.{whole}
use Rattle.p2p_tracker.specs.declared.directory.Metadata.{Metadata}
use Rattle.p2p_tracker.specs.declared.directory.Metadata.TheVariants.{Dialer, Listener}
use Rattle.p2p_directory.specs.Held.{held_of}
use Rattle.p2p_directory.specs.Nodes.{NodeView, standing_of, given_verdicts, AnswersFrame, IsReceived}
use Rattle.p2p_directory.specs.Received.{are_miscounted, to_ask, IsWantOfMemory}
use Rattle.p2p_directory.specs.Laws.Verdicts.{IsJudged}
use Rattle.p2p_directory.specs.declared.node.received.Received.{Received}
use Rattle.p2p_directory.specs.declared.node.received.Received.TheVariants as received
use Rattle.p2p_session.specs.declared.refusal.Refusal.{Refusal}
use Rattle.p2p_session.specs.declared.refusal.Refusal.TheVariants as refusal
use Rattle.p2p_session.specs.Schemes.{Scheme, wire}
use Rattle.p2p_session.specs.Answers.{Answer, refused, number, asked_bytes, Tells, Refuses}
use Rattle.p2p_session.specs.Answers.Answer.{Bytes}

-- whom a reservation is for: an inbound peer, or an ingress that is dialled
abbrev pub held_bytes : {C S : Type 0} → Metadata C S → List ℕ
held_bytes (Listener p) = 0 ∷ []
held_bytes (Dialer p ingress) = 1 ∷ ingress_spelling ingress

abbrev pub held_answer : {C S : Type 0} → Option (Metadata C S) → Answer
held_answer None = refused refusal.Absent
held_answer (Some metadata) = Bytes (held_bytes metadata)

abbrev pub fault_bytes : CodecError → List ℕ
fault_bytes fault.EndOfBuffer = 0 ∷ []
fault_bytes (fault.ExtraData n) = 1 ∷ number n
fault_bytes (fault.InvalidLength n) = 2 ∷ number n
fault_bytes (fault.InvalidVarint n) = 3 ∷ number n
fault_bytes (fault.InvalidEnum n) = 4 ∷ number n
fault_bytes (fault.Invalid what.Hostname) = 5 ∷ []
fault_bytes (fault.Invalid what.Padding) = 6 ∷ []
fault_bytes (fault.Invalid what.Key) = 7 ∷ []
fault_bytes (fault.Invalid what.Signature) = 8 ∷ []
fault_bytes fault.Memory = 9 ∷ []

abbrev pub error_bytes : Error → List ℕ
error_bytes (error.TooManyPeers n) = 0 ∷ number n
error_bytes error.ReceivedSelf = 1 ∷ []
error_bytes error.InvalidSignature = 2 ∷ []
error_bytes error.SynchronyBound = 3 ∷ []

-- a byte of 0 says that a signature is not right, each other byte that it is
abbrev pub verdicts_in : List ℕ → List Bool
verdicts_in bytes = map (λ b. not (b == 0)) bytes

module _ {C S : Type 0} (k : Scheme C S) where
  -- ---- reservations

  -- what is held of the peer
  abbrev pub TellsHeldOf : NodeView C S → Result C Refusal → List ℕ → List ℕ → ℕ → Type 0
  TellsHeldOf v (Ok p) out out2 n = Tells (held_answer (held_of k.key.cmp v.held p)) out out2 n
  TellsHeldOf v (Err why) out out2 n = Refuses why out out2 n

  -- ---- answers to frames

  -- the answer to a frame. A message is at the end of its frame: its channel and its length are
  -- answered.
  abbrev pub received_answer : Received C S → Answer
  received_answer (received.Data d) = Bytes (0 ∷ (number d.channel ++ number (length d.message)))
  received_answer (received.Greeted key) = Bytes (1 ∷ k.key.spelled key)
  received_answer (received.Reply frame) = Bytes (2 ∷ frame)
  received_answer (received.Applied count) = Bytes (3 ∷ number count)
  received_answer (received.Codec fault) = Bytes (4 ∷ fault_bytes fault)
  received_answer received.Malformed = Bytes (5 ∷ [])
  received_answer (received.Invalid error) = Bytes (6 ∷ error_bytes error)
  received_answer received.Memory = refused refusal.Memory

  -- the node took the frame by these verdicts, wherever the calls accepted before led
  pub record Hears (verdicts : List Bool) (frame : List ℕ) (now : ℕ) (v v2 : NodeView C S)
      (r : Received C S) : Type 0 where
    pub seen : AnswersFrame k.key.cmp (wire k) (given_verdicts verdicts) frame now r v v2
    pub received : IsReceived k.key.cmp (wire k) (given_verdicts verdicts) frame now r v v2
    -- whatever predicate they are told by, it took it by the signatures that are right by that
    pub judged : IsJudged k.key.cmp (wire k) k.key.IsValue k.signature.IsValue verdicts frame now r
        v v2

  -- .. at a moment that was read
  abbrev pub HearsAt : List Bool → List ℕ → Result ℕ Refusal → NodeView C S → NodeView C S →
      Received C S → Type 0
  HearsAt verdicts frame (Ok t) v v2 r = Hears verdicts frame t v v2 r
  HearsAt verdicts frame (Err why) v v2 r = ⊥

  -- the longest answer of a frame that changes something: a greeting's, a byte and its key, or that
  -- of infos, a byte and how many of them were applied
  abbrev pub applied_size : ℕ
  applied_size = 1 + max k.key.SIZE 8

  -- why a frame isn't taken: what is wrong with the moment; else that the room is shorter than that
  -- answer; else that memory to copy its bytes or the verdicts was refused, where there are any, or
  -- that verdicts and infos differ in number
  abbrev pub MayRefuse : NodeView C S → List Bool → List ℕ → Result ℕ Refusal → ℕ → Refusal → Type 0
  MayRefuse v verdicts frame (Err wrong) room why = why ≡ wrong
  MayRefuse v verdicts frame (Ok t) room refusal.NoRoom = room < applied_size
  MayRefuse v verdicts frame (Ok t) room refusal.Memory = (applied_size ≤ room)
      × (0 < length frame + length verdicts)
  MayRefuse v verdicts frame (Ok t) room refusal.BadVerdicts = (applied_size ≤ room)
      × (are_miscounted (wire k) (standing_of k.key.cmp (wire k) v) frame verdicts ≡ true)
  MayRefuse v verdicts frame (Ok t) room _ = ⊥

  -- what holds where a frame was taken: the room has that answer, and there are as many
  -- verdicts as infos, unless memory was refused
  pub record IsTaken (v : NodeView C S) (verdicts : List Bool) (frame : List ℕ) (room : ℕ)
      (r : Received C S) : Type 0 where
    pub fits : applied_size ≤ room
    pub counted : are_miscounted (wire k) (standing_of k.key.cmp (wire k) v) frame verdicts ≡ true →
        IsWantOfMemory r

  -- a frame is refused and nothing changes, or it is taken and the answer told
  abbrev pub ReceivesAt : List Bool → List ℕ → Result ℕ Refusal → List ℕ → List ℕ →
      NodeView C S → NodeView C S → ℕ → Type 0
  ReceivesAt verdicts frame now out out2 v v2 n =
      ((why : Refusal) × MayRefuse v verdicts frame now (length out) why × (v2 ≡ v)
      × Refuses why out out2 n)
      ⊎ ((r : Received C S) × HearsAt verdicts frame now v v2 r
      × IsTaken v verdicts frame (length out) r × Tells (received_answer r) out out2 n)

  -- ---- what has to be verified

  -- how many infos there are, and those whose signatures decide
  abbrev pub check_bytes : Judge C S → ℕ → Result (Payload C S × List ℕ) CodecError →
      List ℕ
  check_bytes judge now (Ok x) =
      number (length (infos_of_payload x.0)) ++ flat_map (asked_bytes k) (to_ask judge now x.0)
  check_bytes judge now (Err fault) = number 0

  -- .. or memory was refused, where the frame has any bytes
  abbrev pub ChecksAt : NodeView C S → List ℕ → Result ℕ Refusal → List ℕ → List ℕ → ℕ → Type 0
  ChecksAt v frame (Ok now) out out2 n = ((0 < length frame) × Refuses refusal.Memory out out2 n)
      ⊎ Tells (Bytes (check_bytes (judge_of k.key.cmp (wire k).verifies v.verifier) now
      (whole ((wire k).reading v.limits) frame).outcome)) out out2 n
  ChecksAt v frame (Err why) out out2 n = Refuses why out out2 n
