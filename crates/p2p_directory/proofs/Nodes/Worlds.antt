-- What a node answers by what is seen is what it answers in the world that the accepted calls make.
use Rattle.std.proofs.Common.{◌≡◌, ◌≤◌, ◌<◌, ◌^◌, ℕ, Bool, true, List, ◌∷◌, length, Option, Some, None, Result, Ok, Err, is_some, sym, ◌∙◌, ap, subst}
use Rattle.std.specs.Prelude.{IfOk, IfSome, OnErr, slice_get}
use Rattle.std.specs.declared.cmp.Ordering.{Ordering}
use Rattle.p2p_discovery.specs.declared.discovery.BitVec.{BitVec}
use Rattle.p2p_discovery.specs.declared.discovery.Info.{Info}
use Rattle.p2p_discovery.specs.declared.discovery.PayloadConfig.{PayloadConfig}
use Rattle.p2p_discovery.specs.Judgement.{judge_of, Verifier}
use Rattle.p2p_directory.specs.declared.node.received.Received.{Received}
use Rattle.p2p_tracker.specs.Calls.{Call}
use Rattle.p2p_tracker.specs.Calls.Call.{Update}
use Rattle.p2p_tracker.specs.Calls.Event.{Updated}
use Rattle.p2p_tracker.specs.World.{World, world_with}
use Rattle.p2p_tracker.specs.Directory.{Updates, bit_vec_at}
use Rattle.p2p_directory.specs.Held.{held_of}
use Rattle.p2p_directory.specs.Refinement.{Refines}
use Rattle.p2p_directory.specs.Run.{world_after, Holds}
use Rattle.p2p_directory.specs.Received as frames
use Rattle.p2p_directory.specs.Received.{Wire, Standing, FrameOutcome, received_at, received_by, frame_may_want_memory_by, ask_frame_at, frame_of_bits, applied_with, told_with}
use Rattle.p2p_directory.specs.declared.node.exchanged.Exchanged.{Exchanged}
use Rattle.p2p_directory.specs.Exchange as exchange
use Rattle.p2p_directory.specs.Exchange.{exchanged_at, infos_applied, IsExchangedAt, HasSpelling, ExchangeOutcome, IsCarried}
use Rattle.p2p_directory.specs.Nodes.{Made, NodeView, NodeStandsAt, IsAnsweredAt, IsReceivedAt, IsAskedAt, IsAskedForAllAt, standing_of, standing_in, calls_with, IsLeft, Answers, AnswersFrame, Verdicts, AsksWith, AsksForAll, AreValues, StandsSomewhere, made_of}
use Rattle.p2p_directory.specs.Private.Serving.{ServerView, node_at}
use Rattle.p2p_directory.specs.Private.Slots.{AreSlots}
use Rattle.p2p_directory.proofs.Definitions.Law
use Rattle.p2p_directory.proofs.LawsOfRuns.Forgotten
use Rattle.p2p_directory.proofs.Refinement.BlocksRefine
use Rattle.p2p_directory.proofs.Refinement.KnowledgeRefines

module _ {C S : Type 0} (m : Made C S) (calls : List (Call C S)) (v : NodeView C S) (at : NodeStandsAt m calls v) where
  -- once infos were applied it stands after one more call
  updated : 1 ≤ m.directory.max_sets → (infos : List (Info C S)) (v2 : NodeView C S) →
      Updates m.directory.cmp v.directory v2.directory infos → v2 ≡ record v { directory = v2.directory } →
      NodeStandsAt m (Update infos ∷ calls) v2
  updated some infos v2 change same =
      let s = m.directory in
      let w = world_after s calls in
      let back : world_with s (Updated infos) w ≡ world_after s (Update infos ∷ calls) = sym (Law.recomputed_is_one_step s some calls (Update infos)) in
      let holds : Holds s (world_with s (Updated infos) w) (held_of s.cmp v.held) = record { peers = at.holds.peers; metadata = at.holds.metadata } in
      record {
        limit_fits = at.limit_fits;
        refines = subst (λ w. Refines s w v2.directory) back (KnowledgeRefines.tie_update s w v.directory v2.directory infos at.refines change);
        holds = subst (λ held. Holds s (world_after s (Update infos ∷ calls)) (held_of s.cmp held))
            (sym (ap (λ v. v.held) same)) (subst (λ w. Holds s w (held_of s.cmp v.held)) back holds);
        limits = ap (λ v. v.limits) same ∙ at.limits;
        verifier = ap (λ v. v.verifier) same ∙ at.verifier;
      }

module _ {C S : Type 0} (m : Made C S) (wire : Wire C S) (calls : List (Call C S)) (v : NodeView C S) (at : NodeStandsAt m calls v) where
  abbrev w : World C S
  w = world_after m.directory calls

  abbrev seen : Standing C S
  seen = standing_of m.directory.cmp wire v

  abbrev made : Standing C S
  made = standing_in m wire w

  -- how it stands, by what is seen, is how it stands in the world
  stands_alike : seen ≡ made
  stands_alike = λ i. record {
    limits = at.limits i;
    judge = judge_of m.directory.cmp wire.verifies (at.verifier i);
    bits = λ place. KnowledgeRefines.tie_bits m.directory at.limit_fits w v.directory place (Forgotten.absent m.directory calls) at.refines i;
    infos = λ index bits t. KnowledgeRefines.tie_infos m.directory w v.directory index bits t at.refines i;
  }

  left_at : 1 ≤ m.directory.max_sets → (o : Option (List (Info C S))) (v2 : NodeView C S) →
      IsLeft m.directory.cmp v o v2 → NodeStandsAt m (calls_with o calls) v2
  left_at some None v2 same = subst (NodeStandsAt m calls) (sym same) at
  left_at some (Some infos) v2 change = updated m calls v at some infos v2 change.0 change.1

  pub answered_in : 1 ≤ m.directory.max_sets → (may : Standing C S → Bool) (outcome : Standing C S → FrameOutcome C S) (r : Received C S) (v2 : NodeView C S) →
      Answers m.directory.cmp (may seen) (outcome seen) r v v2 → IsAnsweredAt m wire calls may outcome r v2
  answered_in some may outcome r v2 answers = record {
    answer = subst (λ node. frames.IsFrameAnswer (may node) (outcome node) r) stands_alike answers.answer;
    left = subst (λ node. NodeStandsAt m (calls_with (applied_with (outcome node) r) calls) v2)
        stands_alike (left_at some (applied_with (outcome seen) r) v2 answers.left);
  }

  pub received_in : 1 ≤ m.directory.max_sets → (verdicts : Verdicts C S) (frame : List ℕ) (now : ℕ) (r : Received C S) (v2 : NodeView C S) →
      AnswersFrame m.directory.cmp wire verdicts frame now r v v2 → IsReceivedAt m wire calls verdicts frame now r v2
  received_in some verdicts frame now = answered_in some (λ node. frame_may_want_memory_by wire (verdicts node.judge) node frame now)
      (λ node. received_by wire (verdicts node.judge) node frame now)

  pub asked_in : {E : Type 0} (place : ℕ) (r : Result (Option (List ℕ)) E) → AsksWith m.directory.cmp wire place r v → IsAskedAt m wire calls place r
  asked_in place r asks = record {
    frame = subst (λ node. IfOk r (λ frame. frame ≡ ask_frame_at wire node place)) stands_alike asks.frame;
    err = subst (λ sets. OnErr r (is_some (slice_get sets place) ≡ true)) at.refines.sets asks.err;
  }

  pub asked_for_all_in : {E : Type 0} (place : ℕ) (r : Result (Option (List ℕ)) E) →
      AsksForAll m.directory.cmp wire place r v → IsAskedForAllAt m wire calls place r
  asked_for_all_in place r asks = record {
    frame = subst (λ bits. IfOk r (λ frame. frame ≡ frame_of_bits wire bits))
        (BlocksRefine.tie_full_bits m.directory (world_after m.directory calls) v.directory place at.refines) asks.frame;
    err = subst (λ sets. OnErr r (is_some (slice_get sets place) ≡ true)) at.refines.sets asks.err;
  }

  -- what is told has a spelling
  pub told_in : (IsKey : C → Type 0) (IsSignature : S → Type 0) (frame : List ℕ) (now : ℕ) (r : Received C S) →
      AreValues IsKey IsSignature (told_with (received_at wire seen frame now) r) →
      AreValues IsKey IsSignature (told_with (received_at wire made frame now) r)
  told_in IsKey IsSignature frame now r values = subst (λ node. AreValues IsKey IsSignature (told_with (received_at wire node frame now) r)) stands_alike values

  pub bits_in : {E A : Type 0} (place : ℕ) (r : Result A E) → IfOk r (λ _. IfSome (bit_vec_at m.directory.cmp v.directory place) HasSpelling) →
      IfOk r (λ _. IfSome (made.bits place) (λ bits. (bits.index < 2 ^ 64) × (length bits.bits < 2 ^ 64)))
  bits_in place (Err e) spelled = tt
  bits_in place (Ok x) spelled =
      subst (λ node. IfSome (node.bits place) (λ bits. (bits.index < 2 ^ 64) × (length bits.bits < 2 ^ 64)))
      stands_alike (sized (bit_vec_at m.directory.cmp v.directory place) spelled)
    where
      sized : (o : Option BitVec) → IfSome o HasSpelling → IfSome o (λ bits. (bits.index < 2 ^ 64) × (length bits.bits < 2 ^ 64))
      sized None h = tt
      sized (Some bits) h = (h.index, h.count)

-- AN EXCHANGE OF TWO NODES

module _ {C S : Type 0} (m n : Made C S) (wire : Wire C S) (cs ds : List (Call C S)) (a b : NodeView C S)
    (at : NodeStandsAt m cs a) (there : NodeStandsAt n ds b) where
  pub exchanged_in : 1 ≤ m.directory.max_sets → (place s t : ℕ) (r : Exchanged C S) (a2 : NodeView C S) →
      (let asker = standing_of m.directory.cmp wire a in
      exchange.IsExchangeAnswer (exchange.exchange_may_want_memory asker place)
      (exchanged_at asker (standing_of n.directory.cmp wire b) place s t) r) →
      IsLeft m.directory.cmp a (infos_applied r) a2 → IsExchangedAt m n wire cs ds place s t r a2
  exchanged_in some place s t r a2 answer left = record {
    answer =
        let asker = standing_in m wire (world_after m.directory cs) in
        subst (λ replier. exchange.IsExchangeAnswer (exchange.exchange_may_want_memory asker place) (exchanged_at asker replier place s t) r) (stands_alike n wire ds b there)
        (subst (λ asker. exchange.IsExchangeAnswer (exchange.exchange_may_want_memory asker place)
        (exchanged_at asker (standing_of n.directory.cmp wire b) place s t) r) (stands_alike m wire cs a at)
        answer);
    left = left_at m wire cs a at some (infos_applied r) a2 left;
  }

  -- what its frames come to
  pub carried_in : (place s t : ℕ) (o : ExchangeOutcome C S) →
      IsCarried wire (standing_of m.directory.cmp wire a) (standing_of n.directory.cmp wire b) place s t o →
      IsCarried wire (standing_in m wire (world_after m.directory cs)) (standing_in n wire (world_after n.directory ds)) place s t o
  carried_in place s t o carried =
      let asker = standing_in m wire (world_after m.directory cs) in
      subst (λ replier. IsCarried wire asker replier place s t o) (stands_alike n wire ds b there)
      (subst (λ asker. IsCarried wire asker (standing_of n.directory.cmp wire b) place s t o) (stands_alike m wire cs a at) carried)

-- IT STANDS SOMEWHERE

-- .. once infos were applied, with the same slots
pub still_updated : {C S : Type 0} (cmp : C → C → Ordering) (v v2 : ServerView C S)
    (limits : PayloadConfig) (verifier : Verifier C) (infos : List (Info C S)) → v2.slots ≡ v.slots →
    Updates cmp v.directory v2.directory infos → AreSlots cmp v.slots →
    StandsSomewhere cmp (node_at limits verifier v) →
    AreSlots cmp v2.slots × StandsSomewhere cmp (node_at limits verifier v2)
still_updated cmp v v2 limits verifier infos same change are somewhere =
    let given = somewhere.given in (
      subst (AreSlots cmp) (sym same) are,
      record {
        given = given;
        calls = Update infos ∷ somewhere.calls;
        stands = updated (made_of cmp given) somewhere.calls (node_at limits verifier v)
            somewhere.stands given.cfg.max_sets.ok infos (node_at limits verifier v2) change
            (ap (λ slots. node_at limits verifier (record { directory = v2.directory; slots = slots })) same);
      },
    )
