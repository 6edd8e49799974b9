-- Frames with infos are taken, however late and however often they come.
use Rattle.std.proofs.Common.{◌≡◌, ℕ, Bool, true, List, [], ◌∷◌, length, Option}
use Rattle.std.proofs.Common.{None, Ok, inl, inr, refl, sym, ◌∙◌, ap, subst}
use Rattle.std.specs.Prelude.{◌⊎◌}
use Rattle.std.specs.Cmp.{IsTotalOrder}
use Rattle.std.specs.Ordering.{is_eq}
use Rattle.std.specs.declared.cmp.Ordering.{Ordering}
use Rattle.std.specs.declared.cmp.Ordering.TheVariants.{Equal}
use Rattle.std.proofs.lemmas.Bool.{le-ltb}
use Rattle.std.proofs.lemmas.Cmp.{tied_itself}
use Rattle.p2p_discovery.specs.declared.discovery.Info.{Info}
use Rattle.p2p_discovery.specs.declared.discovery.Payload.TheVariants as said
use Rattle.p2p_discovery.specs.Fixed.{IsFixed}
use Rattle.p2p_discovery.specs.Judgement.{Judge, judge_of, refusal}
use Rattle.p2p_discovery.specs.Reading.{whole}
use Rattle.p2p_directory.specs.declared.node.received.Received.{Received}
use Rattle.p2p_directory.specs.declared.node.received.Received.TheVariants as received
use Rattle.p2p_tracker.specs.Calls.{Call}
use Rattle.p2p_tracker.specs.Calls.Call.{Update}
use Rattle.p2p_tracker.specs.History
use Rattle.p2p_tracker.specs.World.{World}
use Rattle.p2p_tracker.specs.World
use Rattle.p2p_tracker.specs.Answers.{is_present_in}
use Rattle.p2p_directory.specs.Run.{world_after}
use Rattle.p2p_directory.specs.Received as frames
use Rattle.p2p_directory.specs.Received.{Wire, FrameOutcome, applying, taken, read_at, received_at, applied_with}
use Rattle.p2p_directory.specs.Nodes.{Made, standing_in, calls_with}
use Rattle.p2p_directory.specs.Laws.Gossip.{IsMade, IsUpToDate}
use Rattle.p2p_directory.specs.Laws.LateFrames.{AreKnown, IsTaken, FitsAt, IsFor, SpellsFor, TakesLate}
use Rattle.p2p_directory.proofs.Definitions.Keys.{exact_from}
use Rattle.p2p_directory.proofs.Definitions.Law
use Rattle.p2p_directory.proofs.Nodes.ReadBack.{wire_by, is_admitted}
use Rattle.p2p_directory.proofs.LawsOfGossip.Lists.{all_weaker, from_members, at_member}
use Rattle.p2p_directory.proofs.LawsOfGossip.Updates
use Rattle.p2p_directory.proofs.LawsOfGossip.Judged
use Rattle.p2p_directory.proofs.LawsOfGossip.Greetings.{answer_or_memory, read_back}

module _ {C S : Type 0} {key_size signature_size : ℕ} {key : C → List ℕ} {signature : S → List ℕ}
    {key_of : List ℕ → Option C} {signature_of : List ℕ → Option S}
    {IsKey : C → Type 0} {IsSignature : S → Type 0} (k : IsFixed key_size key key_of IsKey)
    (s : IsFixed signature_size signature signature_of IsSignature)
    (verifies : C → List ℕ → List ℕ → S → Bool)
    (cmp : C → C → Ordering) (total : IsTotalOrder cmp)
    (exact_keys : (q p : C) → cmp q p ≡ Equal → q ≡ p) where
  abbrev wire : Wire C S
  wire = wire_by key_size key key_of signature_size signature signature_of verifies

  module _ (m : Made C S) (made : IsMade cmp m) where
    itself : (p : C) → History.same m.directory p p ≡ true
    itself p = ap is_eq (tied_itself (subst IsTotalOrder (sym made.order) total) p)

    exact : History.IsExact m.directory
    exact = exact_from m.directory cmp made.order exact_keys

    abbrev judge : Judge C S
    judge = judge_of m.directory.cmp verifies m.verifier

    abbrev world : List (Call C S) → World C S
    world calls = world_after m.directory calls

    module _ (frame : List ℕ) (now t : ℕ) (infos : List (Info C S))
        (h : SpellsFor wire IsKey IsSignature m t frame infos) (fits : FitsAt m t now infos) where
      -- each is fine
      fine_for : (i : Info C S) → IsFor wire m t i → refusal judge now i ≡ None
      fine_for i f = Judged.fine judge now i
          (ap (λ q. is_eq (m.directory.cmp q i.public_key)) made.me ∙ f.of_another)
          (Judged.in_time i.timestamp t now m.verifier.synchrony_bound f.timely fits.moments)
          f.signed

      pub read : (whole (wire.reading m.limits) frame).outcome ≡ Ok (said.Peers infos, [])
      read = ap (λ f. (whole (wire.reading m.limits) f).outcome) h.spelled
          ∙ read_back k s m.limits (said.Peers infos) (
            h.values.0,
            record {
              within = is_admitted m.limits.max_peers (length infos)
                  (le-ltb m.limits.max_peers (length infos) fits.peers);
              small = h.small;
              keyed = h.values.1;
            },
          )

      -- in any world they are applied
      applied : (w : World C S) → received_at wire (standing_in m wire w) frame now
          ≡ applying (received.Applied (length infos)) infos
      applied w = ap (read_at wire (standing_in m wire w) now) read
          ∙ ap (taken wire infos) (Judged.list_fine judge now infos fits.count
          (all_weaker (IsFor wire m t) (λ i. refusal judge now i ≡ None) fine_for infos h.each))

      -- what an update with them leaves
      known_after : (calls : List (Call C S)) → AreKnown m (world (Update infos ∷ calls)) infos
      known_after calls =
          subst (λ u. AreKnown m u infos)
          (sym (Law.recomputed_is_one_step m.directory made.sets calls (Update infos)))
          (from_members (λ i.
          is_present_in m.directory (World.step m.directory (world calls) (Update infos)) i.public_key
          ≡ true → IsUpToDate (World.step m.directory (world calls) (Update infos)) i) infos
          (λ i member present. Updates.update_is_since m.directory itself (world calls) infos i
          member (at_member (IsFor wire m t) infos h.each i member).of_another present))

      unchanged : (calls : List (Call C S)) → AreKnown m (world calls) infos →
          world (Update infos ∷ calls) ≡ world calls
      unchanged calls known =
          Law.recomputed_is_one_step m.directory made.sets calls (Update infos)
          ∙ Updates.update_is_known m.directory exact (world calls)
          (Updates.forgotten m.directory calls) infos
          (at_member (λ i. is_present_in m.directory (world calls) i.public_key ≡ true →
          IsUpToDate (world calls) i) infos known)

      module _ (calls : List (Call C S)) where
        abbrev coming : FrameOutcome C S
        coming = received_at wire (standing_in m wire (world calls)) frame now

        abbrev once : Received C S
        once = received.Applied (length infos)

        is_taken : (r : Received C S) (may : Bool) → frames.IsFrameAnswer may coming r →
            IsTaken m calls infos r (calls_with (applied_with coming r) calls)
        is_taken r may is = go (answer_or_memory r may coming (received.Applied (length infos)) is
            (ap (λ (o : FrameOutcome C S). o.answer) (applied (world calls))))
          where
            go : (r ≡ once) ⊎ (r ≡ received.Memory) →
                IsTaken m calls infos r (calls_with (applied_with coming r) calls)
            go (inl e) =
                subst (λ after. IsTaken m calls infos r after)
                (sym (ap (λ o. calls_with (applied_with o r) calls) (applied (world calls))
                ∙ ap (λ q. calls_with (applied_with (applying once infos) q) calls) e))
                (record {
                  answer = inl e;
                  known = λ f. known_after calls;
                  unchanged = unchanged calls;
                  copy = λ f. unchanged (Update infos ∷ calls) (known_after calls);
                })
            go (inr e) =
                subst (λ after. IsTaken m calls infos r after)
                (sym (ap (λ q. calls_with (applied_with coming q) calls) e))
                (record {
                  answer = inr e;
                  known = λ f. absurd (let g = sym e ∙ f in cc);
                  unchanged = λ known. refl;
                  copy = λ f. absurd (let g = sym e ∙ f in cc);
                })

    -- a frame after any calls
    pub takes_late : (calls : List (Call C S)) (frame : List ℕ) (now : ℕ) (r : Received C S)
        (may : Bool) →
        frames.IsFrameAnswer may
        (received_at wire (standing_in m wire (world calls)) frame now) r →
        TakesLate wire IsKey IsSignature m calls frame now r (calls_with (applied_with
        (received_at wire (standing_in m wire (world calls)) frame now) r) calls)
    takes_late calls frame now r may is = λ t infos h fits.
        is_taken frame now t infos h fits calls r may is
