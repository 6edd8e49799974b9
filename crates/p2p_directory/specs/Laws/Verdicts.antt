-- What a node is told of signatures by whoever verifies them. Any predicate of a key, a namespace,
-- the signed bytes and a signature may say which are right.
use Rattle.std.specs.Prelude.{ℕ, ◌≡◌, Bool, true, List, [], ◌∷◌, Result, Ok, Err}
use Rattle.std.specs.declared.cmp.Ordering.{Ordering}
use Rattle.p2p_discovery.specs.declared.codec.error.CodecError.{CodecError}
use Rattle.p2p_discovery.specs.declared.discovery.Info.{Info}
use Rattle.p2p_discovery.specs.declared.discovery.Payload.{Payload}
use Rattle.p2p_discovery.specs.Judgement.{Judge, is_signed_in}
use Rattle.p2p_discovery.specs.Reading.{whole}
use Rattle.p2p_directory.specs.declared.node.received.Received.{Received}
use Rattle.p2p_directory.specs.Received.{Wire, Standing, to_ask, verdicts_of}
use Rattle.p2p_directory.specs.Nodes.{NodeView, standing_of, AtEach, AnswersFrame, IsReceived}
use Rattle.p2p_directory.specs.Laws.LateFrames.{TakesLateAt}

module _ {C S : Type 0} (verifies : C → List ℕ → List ℕ → S → Bool) where
  -- the same judge, but by this predicate
  abbrev pub judge_with : Judge C S → Judge C S
  judge_with judge = record judge { verifies = verifies }

  -- .. the same wire
  abbrev pub wire_with : Wire C S → Wire C S
  wire_with wire = record wire { verifies = verifies }

  -- .. a node that stands the same
  abbrev pub standing_with : Standing C S → Standing C S
  standing_with node = record node { judge = judge_with node.judge }

  -- of infos that are to be verified in a namespace, in their order, each verdict is that of the
  -- predicate, up to the first wrong signature; behind that, and behind these infos, it is anything
  abbrev pub AreToldBy : List ℕ → List (Info C S) → List Bool → Type 0
  AreToldBy namespace [] verdicts = Unit {0}
  AreToldBy namespace (i ∷ asked) [] = ⊥
  AreToldBy namespace (i ∷ asked) (right ∷ verdicts) =
      (right ≡ is_signed_in verifies namespace i)
      × (right ≡ true → AreToldBy namespace asked verdicts)

  -- .. of those whose signatures decide at a moment, in a payload that was read
  abbrev pub AreToldOfReading : Judge C S → ℕ → Result (Payload C S × List ℕ) CodecError →
      List Bool → Type 0
  AreToldOfReading judge now (Ok x) verdicts =
      AreToldBy judge.namespace (to_ask judge now x.0) verdicts
  AreToldOfReading judge now (Err fault) verdicts = Unit {0}

  -- .. in a frame, where it spells a payload that the node admits
  abbrev pub AreToldOf : Wire C S → Standing C S → List ℕ → ℕ → List Bool → Type 0
  AreToldOf wire node frame now =
      AreToldOfReading node.judge now (whole (wire.reading node.limits) frame).outcome

-- A FRAME: v is the node before it, v2 after it

module _ {C S : Type 0} (cmp : C → C → Ordering) (wire : Wire C S) (IsKey : C → Type 0)
    (IsSignature : S → Type 0) where
  -- the node received it by the signatures that are right over the wire; its infos may have come
  -- late
  pub record ReceivesOver (frame : List ℕ) (now : ℕ) (r : Received C S)
      (v v2 : NodeView C S) : Type 0 where
    pub seen : AnswersFrame cmp wire verdicts_of frame now r v v2
    pub received : IsReceived cmp wire verdicts_of frame now r v v2
    pub late : AtEach cmp v (λ m calls. TakesLateAt wire IsKey IsSignature m calls frame now r)

-- by verdicts it received it as over the wire with each predicate that they are told by
abbrev pub IsJudged : {C S : Type 0} → (C → C → Ordering) → Wire C S → (C → Type 0) →
    (S → Type 0) → List Bool → List ℕ → ℕ → Received C S → NodeView C S → NodeView C S → Type 0
IsJudged {C} {S} cmp wire IsKey IsSignature verdicts frame now r v v2 =
    (verifies : C → List ℕ → List ℕ → S → Bool) →
    AreToldOf verifies wire (standing_of cmp wire v) frame now verdicts →
    ReceivesOver cmp (wire_with verifies wire) IsKey IsSignature frame now r v v2
