-- Which call a frame makes: an update with the infos of the frame, where it was accepted.
use Rattle.std.proofs.Common.{◌≡◌, ℕ, Bool, true, false, List, [], ◌∷◌, Option, Some, None, Result}
use Rattle.std.proofs.Common.{Ok, refl, sym, ap, subst}
use Rattle.std.specs.Prelude.{if◌then◌else◌}
use Rattle.p2p_discovery.specs.declared.codec.error.CodecError.{CodecError}
use Rattle.p2p_discovery.specs.declared.discovery.Error.{Error}
use Rattle.p2p_discovery.specs.declared.discovery.Info.{Info}
use Rattle.p2p_discovery.specs.declared.discovery.Payload.{Payload}
use Rattle.p2p_discovery.specs.declared.discovery.Payload.TheVariants as said
use Rattle.p2p_discovery.specs.Judgement.{refusal, list_refusal}
use Rattle.p2p_discovery.specs.Reading.{whole}
use Rattle.p2p_directory.specs.declared.node.received.Received.{Received}
use Rattle.p2p_directory.specs.declared.node.received.Received.TheVariants as received
use Rattle.p2p_tracker.specs.Calls.{Call}
use Rattle.p2p_tracker.specs.Calls.Call.{Update}
use Rattle.p2p_directory.specs.Received as frames
use Rattle.p2p_directory.specs.Received.{Wire, Standing, FrameOutcome, applies, received_at, read_at}
use Rattle.p2p_directory.specs.Received.{greeted, replied, taken, applied_with, verdicts_of}
use Rattle.p2p_directory.specs.Nodes.{calls_with}
use Rattle.p2p_directory.specs.Network.{infos_of_frame, infos_of_reading}

-- memory may be wanted for a frame, by the signatures of the keys
abbrev pub frame_may_want_memory : {C S : Type 0} → Wire C S → Standing C S → List ℕ → ℕ → Bool
frame_may_want_memory wire node frame now =
    frames.frame_may_want_memory_by wire (verdicts_of node.judge) node frame now

module _ {C S : Type 0} (wire : Wire C S) (node : Standing C S) (now : ℕ) where
  -- these infos are applied with the answer, if any are
  abbrev Applies : FrameOutcome C S → List (Info C S) → Type 0
  Applies o infos = o.applied ≡ (if applies o.answer then Some infos else None)

  of_greeting : (info : Info C S) (refused : Option Error) → Applies (greeted wire info refused) (info ∷ [])
  of_greeting info None = refl
  of_greeting info (Some e) = refl

  of_bits : (infos : Option (List (Info C S))) → Applies (replied wire infos) []
  of_bits None = refl
  of_bits (Some infos) = refl

  of_infos : (infos : List (Info C S)) (refused : Option Error) → Applies (taken wire infos refused) infos
  of_infos infos None = refl
  of_infos infos (Some e) = refl

  of_reading : (x : Result (Payload C S × List ℕ) CodecError) → Applies (read_at wire node now x) (infos_of_reading x)
  of_reading (Ok (said.Greeting info, rest)) = of_greeting info (refusal node.judge now info)
  of_reading (Ok (said.BitVec v, rest)) = of_bits (node.infos v.index v.bits now)
  of_reading (Ok (said.Peers infos, rest)) = of_infos infos (list_refusal node.judge now infos)
  of_reading _ = refl

  -- the calls accepted after an answer
  after : (calls : List (Call C S)) (may : Bool) (o : FrameOutcome C S) (infos : List (Info C S)) (r : Received C S) → Applies o infos → frames.IsFrameAnswer may o r →
      calls_with (applied_with o r) calls ≡ (if applies r then Update infos ∷ calls else calls)
  after calls may o infos r fits h = go r h
    where
      is : (b : Bool) → applies o.answer ≡ b → calls_with o.applied calls ≡ (if b then Update infos ∷ calls else calls)
      is true e = ap (λ x. calls_with x calls) (subst (λ b. o.applied ≡ (if b then Some infos else None)) e fits)
      is false e = ap (λ x. calls_with x calls) (subst (λ b. o.applied ≡ (if b then Some infos else None)) e fits)

      go : (r : Received C S) → frames.IsFrameAnswer may o r → calls_with (applied_with o r) calls ≡ (if applies r then Update infos ∷ calls else calls)
      go received.Memory h = refl
      go (received.Greeted key) h = is true (ap applies (sym h))
      go (received.Applied count) h = is true (ap applies (sym h))
      go _ h = is false (ap applies (sym h))

  pub calls_after_frame : (calls : List (Call C S)) (frame : List ℕ) (may : Bool) (r : Received C S) → frames.IsFrameAnswer may (received_at wire node frame now) r →
      calls_with (applied_with (received_at wire node frame now) r) calls
      ≡ (if applies r then Update (infos_of_frame wire node.limits frame) ∷ calls else calls)
  calls_after_frame calls frame may r h =
      let x = (whole (wire.reading node.limits) frame).outcome in after calls may (read_at wire node now x) (infos_of_reading x) r (of_reading x) h
