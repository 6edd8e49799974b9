-- A frame that is received by verdicts that a predicate tells is received by that predicate.
use Rattle.std.proofs.Common.{◌≡◌, ℕ, Bool, List, Option, Some, None, Result, Ok, Err, refl, sym}
use Rattle.std.proofs.Common.{◌∙◌, ap, subst}
use Rattle.std.specs.Prelude.{◌||◌}
use Rattle.std.specs.Cmp.{IsTotalOrder}
use Rattle.std.specs.declared.cmp.Ordering.{Ordering}
use Rattle.std.specs.declared.cmp.Ordering.TheVariants.{Equal}
use Rattle.p2p_discovery.specs.declared.codec.error.CodecError.{CodecError}
use Rattle.p2p_discovery.specs.declared.discovery.Error.{Error}
use Rattle.p2p_discovery.specs.declared.discovery.Info.{Info}
use Rattle.p2p_discovery.specs.declared.discovery.Payload.{Payload}
use Rattle.p2p_discovery.specs.declared.discovery.Payload.TheVariants as said
use Rattle.p2p_discovery.specs.Fixed.{IsFixed}
use Rattle.p2p_discovery.specs.Judgement.{refusal, list_refusal}
use Rattle.p2p_discovery.specs.Reading.{whole}
use Rattle.p2p_tracker.specs.Calls.{Call}
use Rattle.p2p_directory.specs.declared.node.received.Received.{Received}
use Rattle.p2p_directory.specs.Received as frames
use Rattle.p2p_directory.specs.Received.{Wire, Standing, FrameOutcome, greeted, replied, taken}
use Rattle.p2p_directory.specs.Received.{answered_by, read_by, read_at, received_by, received_at}
use Rattle.p2p_directory.specs.Received.{takes_room, to_ask, verdicts_of, applied_with}
use Rattle.p2p_directory.specs.Run.{world_after}
use Rattle.p2p_directory.specs.Nodes.{Made, NodeView, NodeStandsAt, IsReceivedAt, IsReceived}
use Rattle.p2p_directory.specs.Nodes.{AnswersFrame, IsLeft, made_of, standing_in, standing_of}
use Rattle.p2p_directory.specs.Nodes.{calls_with, given_verdicts}
use Rattle.p2p_directory.specs.Laws.Verdicts.{judge_with, wire_with, standing_with, AreToldBy}
use Rattle.p2p_directory.specs.Laws.Verdicts.{AreToldOfReading, AreToldOf, IsJudged}
use Rattle.p2p_directory.proofs.Nodes.Frames.{frame_may_want_memory}
use Rattle.p2p_directory.proofs.Nodes.ReadBack.{wire_by}
use Rattle.p2p_directory.proofs.Nodes.Worlds.{received_in}
use Rattle.p2p_directory.proofs.LawsOfGossip.Late
use Rattle.p2p_directory.proofs.LawsOfGossip.Verdicts.{one_suffices, list_suffices}

module _ {C S : Type 0} (verifies : C → List ℕ → List ℕ → S → Bool) (wire : Wire C S) where
  abbrev over : Wire C S
  over = wire_with verifies wire

  -- what comes of a refusal, or of infos, has nothing of the signatures

  greeted_alike : (info : Info C S) (o : Option Error) → greeted wire info o ≡ greeted over info o
  greeted_alike info None = refl
  greeted_alike info (Some e) = refl

  replied_alike : (o : Option (List (Info C S))) → replied wire o ≡ replied over o
  replied_alike None = refl
  replied_alike (Some infos) = refl

  taken_alike : (infos : List (Info C S)) (o : Option Error) →
      taken wire infos o ≡ taken over infos o
  taken_alike infos None = refl
  taken_alike infos (Some e) = refl

  module _ (now : ℕ) (verdicts : List Bool) where
    answered_alike : (node : Standing C S) (p : Payload C S) →
        AreToldBy verifies node.judge.namespace (to_ask node.judge now p) verdicts →
        answered_by wire verdicts node now p
        ≡ answered_by over (verdicts_of (judge_with verifies node.judge) p)
        (standing_with verifies node) now p
    answered_alike node (said.Data message) h = refl
    answered_alike node (said.Greeting info) h =
        ap (greeted wire info) (one_suffices verifies node.judge now info verdicts h)
        ∙ greeted_alike info (refusal (judge_with verifies node.judge) now info)
    answered_alike node (said.BitVec v) h = replied_alike (node.infos v.index v.bits now)
    answered_alike node (said.Peers infos) h =
        ap (taken wire infos) (list_suffices verifies node.judge now infos verdicts h)
        ∙ taken_alike infos (list_refusal (judge_with verifies node.judge) now infos)

    read_alike : (node : Standing C S) (x : Result (Payload C S × List ℕ) CodecError) →
        AreToldOfReading verifies node.judge now x verdicts →
        read_by wire (λ _. verdicts) node now x
        ≡ read_at over (standing_with verifies node) now x
    read_alike node (Ok x) h = answered_alike node x.0 h
    read_alike node (Err fault) h = refl

    pub received_alike : (node : Standing C S) (frame : List ℕ) →
        AreToldOf verifies wire node frame now verdicts →
        received_by wire (λ _. verdicts) node frame now
        ≡ received_at over (standing_with verifies node) frame now
    received_alike node frame h = read_alike node (whole (wire.reading node.limits) frame).outcome h

    -- IN WORLDS

    module _ (m : Made C S) (calls : List (Call C S)) (frame : List ℕ) (r : Received C S)
        (v : NodeView C S) where
      abbrev node : Standing C S
      node = standing_in m wire (world_after m.directory calls)

      -- the answer and what is left by an outcome
      abbrev IsAnswer : FrameOutcome C S → Type 0
      IsAnswer o = frames.IsFrameAnswer
          ((whole (wire.reading m.limits) frame).grows || takes_room o.answer) o r

      abbrev IsLeftBy : FrameOutcome C S → Type 0
      IsLeftBy o = NodeStandsAt m (calls_with (applied_with o r) calls) v

      pub received_over : AreToldOf verifies wire node frame now verdicts →
          IsReceivedAt m wire calls (given_verdicts verdicts) frame now r v →
          IsReceivedAt m over calls verdicts_of frame now r v
      received_over h is = record {
        answer = subst IsAnswer (received_alike node frame h) is.answer;
        left = subst IsLeftBy (received_alike node frame h) is.left;
      }

      pub received_given : AreToldOf verifies wire node frame now verdicts →
          IsReceivedAt m over calls verdicts_of frame now r v →
          IsReceivedAt m wire calls (given_verdicts verdicts) frame now r v
      received_given h is = record {
        answer = subst IsAnswer (sym (received_alike node frame h)) is.answer;
        left = subst IsLeftBy (sym (received_alike node frame h)) is.left;
      }

    -- BY WHAT IS SEEN

    module _ (cmp : C → C → Ordering) (frame : List ℕ) (r : Received C S)
        (v v2 : NodeView C S) where
      abbrev IsAnswerSeen : FrameOutcome C S → Type 0
      IsAnswerSeen o = frames.IsFrameAnswer
          ((whole (wire.reading v.limits) frame).grows || takes_room o.answer) o r

      pub answers_over : AreToldOf verifies wire (standing_of cmp wire v) frame now verdicts →
          AnswersFrame cmp wire (given_verdicts verdicts) frame now r v v2 →
          AnswersFrame cmp over verdicts_of frame now r v v2
      answers_over h seen = record {
        answer = subst IsAnswerSeen (received_alike (standing_of cmp wire v) frame h) seen.answer;
        left = subst (λ o. IsLeft cmp v (applied_with o r) v2)
            (received_alike (standing_of cmp wire v) frame h) seen.left;
      }

module _ {C S : Type 0} {key_size signature_size : ℕ} {key : C → List ℕ} {signature : S → List ℕ}
    {key_of : List ℕ → Option C} {signature_of : List ℕ → Option S}
    {IsKey : C → Type 0} {IsSignature : S → Type 0} (k : IsFixed key_size key key_of IsKey)
    (s : IsFixed signature_size signature signature_of IsSignature)
    (of_keys : C → List ℕ → List ℕ → S → Bool)
    (cmp : C → C → Ordering) (total : IsTotalOrder cmp)
    (exact : (q p : C) → cmp q p ≡ Equal → q ≡ p) where
  abbrev of_wire : Wire C S
  of_wire = wire_by key_size key key_of signature_size signature signature_of of_keys

  -- a call by verdicts received the frame by each predicate that they are told by
  pub is_judged : (verdicts : List Bool) (frame : List ℕ) (now : ℕ) (r : Received C S)
      (v v2 : NodeView C S) → AnswersFrame cmp of_wire (given_verdicts verdicts) frame now r v v2 →
      IsJudged cmp of_wire IsKey IsSignature verdicts frame now r v v2
  is_judged verdicts frame now r v v2 answers verifies told =
      let by : Wire C S = wire_with verifies of_wire in
      let seen : AnswersFrame cmp by verdicts_of frame now r v v2 =
      answers_over verifies of_wire now verdicts cmp frame r v v2 told answers in
      let received : IsReceived cmp by verdicts_of frame now r v v2 = λ given calls at.
      received_in (made_of cmp given) by calls v at given.cfg.max_sets.ok verdicts_of frame now r v2
      seen in
      record {
        seen = seen;
        received = received;
        late = λ given calls at.
            let m = made_of cmp given in
            Late.takes_late k s verifies cmp total exact m
            (record { order = refl; me = refl; sets = given.cfg.max_sets.ok }) calls frame now r
            (frame_may_want_memory by (standing_in m by (world_after m.directory calls)) frame now)
            (received given calls at).answer;
      }
