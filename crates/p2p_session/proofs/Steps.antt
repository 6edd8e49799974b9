-- Steps of a node from its start on are a run.
use Rattle.std.proofs.Common.{◌≡◌, inl, inr, ℕ, Bool, true, false, List, [], ◌∷◌, Option, Some}
use Rattle.std.proofs.Common.{None, Result, Ok, refl, sym, ap, subst}
use Rattle.std.specs.Prelude.{if◌then◌else◌, map}
use Rattle.std.specs.Cmp.{IsTotalOrder}
use Rattle.std.specs.List.{cons_option, filter_map}
use Rattle.std.specs.declared.cmp.Ordering.TheVariants.{Equal}
use Rattle.p2p_discovery.specs.declared.codec.error.CodecError.{CodecError}
use Rattle.p2p_discovery.specs.declared.discovery.Error.{Error}
use Rattle.p2p_discovery.specs.declared.discovery.Info.{Info}
use Rattle.p2p_discovery.specs.declared.discovery.Payload.{Payload}
use Rattle.p2p_discovery.specs.declared.discovery.Payload.TheVariants as said
use Rattle.p2p_discovery.specs.Judgement.{refusal_if, list_refusal_by}
use Rattle.p2p_discovery.specs.Reading.{whole}
use Rattle.p2p_tracker.specs.Calls.{Call}
use Rattle.p2p_tracker.specs.Calls.Call.{Update}
use Rattle.p2p_directory.specs.declared.node.received.Received.{Received}
use Rattle.p2p_directory.specs.declared.node.received.Received.TheVariants as received
use Rattle.p2p_directory.specs.declared.node.setup.Setup.{Setup}
use Rattle.p2p_directory.specs.declared.run.commands.Reply.{Reply}
use Rattle.p2p_directory.specs.declared.run.commands.Reply.TheVariants as reply
use Rattle.p2p_directory.specs.Network.{infos_of_frame, infos_of_reading}
use Rattle.p2p_directory.specs.Nodes.{NodeView, Made, NodeStandsAt, IsStepAnswer, made_of}
use Rattle.p2p_directory.specs.Nodes.{standing_in, calls_with}
use Rattle.p2p_directory.specs.Received.{Wire, Standing, FrameOutcome, IsFrameAnswer, applies}
use Rattle.p2p_directory.specs.Received.{applied_with, first_verdict, frame_may_want_memory_by}
use Rattle.p2p_directory.specs.Received.{greeted, replied, taken, read_by, received_by}
use Rattle.p2p_directory.specs.Run.{AreAnswers, accepted, next, world_after}
use Rattle.p2p_directory.proofs.Definitions.Keys.{exact_from}
use Rattle.p2p_directory.proofs.LawsOfRuns.Laws.{laws_of_run}
use Rattle.p2p_session.specs.Schemes.{Scheme, wire}
use Rattle.p2p_session.specs.Steps.{Step, Leads, Lead, IsStepAnsweredAt, AreStepsAnsweredAt}
use Rattle.p2p_session.specs.Steps.{taken_by}
use Rattle.p2p_session.specs.Steps.{call_made, taken_with, AreRun}
use Rattle.p2p_session.specs.Steps.Step.{Called, Heard, Looked}

-- a frame that is accepted by these verdicts is an update with its infos
module _ {C S : Type 0} (wire : Wire C S) (verdicts : List Bool) (node : Standing C S) (now : ℕ)
  where
    -- these infos are applied with the answer, if any are
    abbrev Applies : FrameOutcome C S → List (Info C S) → Type 0
    Applies o infos = o.applied ≡ (if applies o.answer then Some infos else None)

    of_greeting : (info : Info C S) (refused : Option Error) →
        Applies (greeted wire info refused) (info ∷ [])
    of_greeting info None = refl
    of_greeting info (Some e) = refl

    of_bits : (infos : Option (List (Info C S))) → Applies (replied wire infos) []
    of_bits None = refl
    of_bits (Some infos) = refl

    of_infos : (infos : List (Info C S)) (refused : Option Error) →
        Applies (taken wire infos refused) infos
    of_infos infos None = refl
    of_infos infos (Some e) = refl

    of_reading : (x : Result (Payload C S × List ℕ) CodecError) →
        Applies (read_by wire (λ _. verdicts) node now x) (infos_of_reading x)
    of_reading (Ok (said.Greeting info, rest)) =
        of_greeting info (refusal_if node.judge (first_verdict verdicts) now info)
    of_reading (Ok (said.BitVec v, rest)) = of_bits (node.infos v.index v.bits now)
    of_reading (Ok (said.Peers infos, rest)) =
        of_infos infos (list_refusal_by node.judge verdicts now infos)
    of_reading _ = refl

    -- the calls accepted after an answer
    after : (calls : List (Call C S)) (may : Bool) (o : FrameOutcome C S) (infos : List (Info C S))
        (r : Received C S) →
        Applies o infos → IsFrameAnswer may o r →
        calls_with (applied_with o r) calls ≡ (if applies r then Update infos ∷ calls else calls)
    after calls may o infos r fits h = go r h
      where
        is : (b : Bool) → applies o.answer ≡ b →
            calls_with o.applied calls ≡ (if b then Update infos ∷ calls else calls)
        is true e = ap (λ x. calls_with x calls)
            (subst (λ b. o.applied ≡ (if b then Some infos else None)) e fits)
        is false e = ap (λ x. calls_with x calls)
            (subst (λ b. o.applied ≡ (if b then Some infos else None)) e fits)

        go : (r : Received C S) → IsFrameAnswer may o r →
            calls_with (applied_with o r) calls
            ≡ (if applies r then Update infos ∷ calls else calls)
        go received.Memory h = refl
        go (received.Greeted key) h = is true (ap applies (sym h))
        go (received.Applied count) h = is true (ap applies (sym h))
        go _ h = is false (ap applies (sym h))

    calls_after : (calls : List (Call C S)) (frame : List ℕ) (may : Bool) (r : Received C S) →
        IsFrameAnswer may (received_by wire (λ _. verdicts) node frame now) r →
        calls_with (applied_with (received_by wire (λ _. verdicts) node frame now) r) calls
        ≡ (if applies r then Update (infos_of_frame wire node.limits frame) ∷ calls else calls)
    calls_after calls frame may r h =
        let x = (whole (wire.reading node.limits) frame).outcome in
        after calls may (read_by wire (λ _. verdicts) node now x) (infos_of_reading x) r
        (of_reading x) h

module _ {C S : Type 0} (k : Scheme C S) where
  -- ---- points

  -- a step is answered as at its point, and the node then stands at the next
  pub one_step : (given : Setup C S) (before : List (Call C S)) (step : Step C S)
      (v v2 : NodeView C S) →
      NodeStandsAt (made_of k.key.cmp given) before v → Leads k step v v2 →
      IsStepAnsweredAt k (made_of k.key.cmp given) before step
      × NodeStandsAt (made_of k.key.cmp given)
      (taken_with k (made_of k.key.cmp given) before step) v2
  one_step given before (Called call r) v v2 at h = let it = h.0 given before at in
      (it.answer, it.left)
  one_step given before (Heard frame now verdicts r) v v2 at h =
      let m = made_of k.key.cmp given in
      let it = h.received given before at in
      let node = standing_in m (wire k) (world_after m.directory before) in
      let may = frame_may_want_memory_by (wire k) (λ _. verdicts) node frame now in (
        it.answer,
        subst (λ calls. NodeStandsAt m calls v2)
            (calls_after (wire k) verdicts node now before frame may r it.answer) it.left,
      )
  one_step given before Looked v v2 at h =
      (tt, subst (NodeStandsAt (made_of k.key.cmp given) before) (sym h) at)

  -- .. all of them
  all_steps : (given : Setup C S) (before : List (Call C S)) (steps : List (Step C S))
      (v v2 : NodeView C S) →
      NodeStandsAt (made_of k.key.cmp given) before v → Lead k steps v v2 →
      AreStepsAnsweredAt k (made_of k.key.cmp given) before steps
      × NodeStandsAt (made_of k.key.cmp given) (taken_by k (made_of k.key.cmp given) before steps)
      v2
  all_steps given before [] v v2 at h =
      (tt, subst (NodeStandsAt (made_of k.key.cmp given) before) (sym h) at)
  all_steps given before (step ∷ steps) v v2 at h =
      let one = one_step given before step v h.0 at h.1 in
      let more = all_steps given (taken_with k (made_of k.key.cmp given) before step) steps h.0 v2
      one.1 h.2 in
      ((one.0, more.0), more.1)

  -- ---- the calls in steps, and their replies

  module _ (m : Made C S) where
    -- these calls with their replies are a run from one list of accepted calls to another
    abbrev IsRunFrom : List (Call C S) → List (Call C S × Reply C S) → List (Call C S) → Type 0
    IsRunFrom before made later =
        AreAnswers m.directory before (map (λ x. x.0) made) (map (λ x. x.1) made)
        × (accepted m.directory before (map (λ x. x.0) made) (map (λ x. x.1) made) ≡ later)

    called : (before : List (Call C S)) (call : Call C S) (r : Reply C S)
        (made : List (Call C S × Reply C S))
        (later : List (Call C S)) → IsStepAnswer m before call r →
        IsRunFrom (next m.directory before call r) made later →
        IsRunFrom before (cons_option (call_made k m (Called call r)) made) later
    called before call reply.OutOfMemory made later is rest = rest
    called before call r made later (inl is) rest = ((is, rest.0), rest.1)
    called before call r made later (inr memory) rest = absurd (let e = memory.1 in cc)

    heard : (before : List (Call C S)) (infos : List (Info C S)) (b : Bool)
        (made : List (Call C S × Reply C S))
        (later : List (Call C S)) →
        IsRunFrom (if b then Update infos ∷ before else before) made later →
        IsRunFrom before (cons_option (if b then Some (Update infos, reply.UpdatePeers) else None)
        made) later
    heard before infos true made later rest = ((inr refl, rest.0), rest.1)
    heard before infos false made later rest = rest

    are_run_from : (before : List (Call C S)) (steps : List (Step C S)) →
        AreStepsAnsweredAt k m before steps →
        IsRunFrom before (filter_map (call_made k m) steps) (taken_by k m before steps)
    are_run_from before [] h = (tt, refl)
    are_run_from before (Called call r ∷ steps) h =
        called before call r (filter_map (call_made k m) steps)
        (taken_by k m (next m.directory before call r) steps) h.0
        (are_run_from (next m.directory before call r) steps h.1)
    are_run_from before (Heard frame now verdicts r ∷ steps) h =
        let before2 = taken_with k m before (Heard frame now verdicts r) in
        heard before (infos_of_frame (wire k) m.limits frame) (applies r)
        (filter_map (call_made k m) steps)
        (taken_by k m before2 steps) (are_run_from before2 steps h.1)
    are_run_from before (Looked ∷ steps) h = are_run_from before steps h.1

  -- ---- all of it

  pub are_run : ((q p : C) → k.key.cmp q p ≡ Equal → q ≡ p) → IsTotalOrder k.key.cmp →
      (given : Setup C S)
      (steps : List (Step C S)) (v v2 : NodeView C S) →
      NodeStandsAt (made_of k.key.cmp given) [] v →
      Lead k steps v v2 → AreRun k (made_of k.key.cmp given) steps v2
  are_run exact total given steps v v2 at h =
      let m = made_of k.key.cmp given in
      let it = all_steps given [] steps v v2 at h in
      let run = are_run_from m [] steps it.0 in
      record {
        stands = it.1;
        answered = it.0;
        run = run.0;
        same = run.1;
        laws = laws_of_run m.directory (exact_from m.directory k.key.cmp refl exact)
            (map (λ x. x.0) (filter_map (call_made k m) steps))
            (map (λ x. x.1) (filter_map (call_made k m) steps)) run.0
            total given.cfg.max_sets.ok;
      }
