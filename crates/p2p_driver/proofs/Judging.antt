-- What a node makes of verdicts on a frame that waits, and of a frame that it is handed.
use Rattle.std.proofs.Common.{◌≡◌, ◌==◌, ℕ, zero, suc, ◌-◌, ◌≤◌, Bool, true, false, not, List, [], ◌∷◌, ◌++◌, Option, Some, None, inl, inr, refl, sym, ◌∙◌, ap, subst}
use Rattle.std.proofs.Common.{arith}
use Rattle.std.proofs.lemmas.Bool.Decides.{nat_tests}
use Rattle.std.specs.Prelude.{if◌then◌else◌, length, take, replicate, nat_lt, is_some, Ok}
use Rattle.std.specs.Duration.{as_nanos}
use Rattle.std.specs.declared.cmp.Ordering.{Ordering}
use Rattle.std.specs.declared.time.Duration.{Duration}
use Rattle.std.proofs.lemmas.List.{take_all}
use Rattle.p2p_discovery.specs.declared.discovery.BitVec.{BitVec}
use Rattle.p2p_discovery.specs.declared.discovery.Error.{Error}
use Rattle.p2p_discovery.specs.declared.discovery.Error.TheVariants as error
use Rattle.p2p_discovery.specs.declared.discovery.Info.{Info}
use Rattle.p2p_discovery.specs.declared.discovery.Payload.{Payload}
use Rattle.p2p_discovery.specs.declared.discovery.Payload.TheVariants as payload
use Rattle.p2p_discovery.specs.Judgement.{Judge, judge_of, refusal_if, first_refusal_by, list_refusal_by, first_of, is_too_late, to_verify, judged_before, judged}
use Rattle.p2p_tracker.specs.Calls.{Call}
use Rattle.p2p_tracker.specs.Calls.Call.{Update}
use Rattle.p2p_directory.specs.declared.node.received.Received.{Received}
use Rattle.p2p_directory.specs.declared.node.received.Received.TheVariants as received
use Rattle.p2p_directory.specs.Nodes.{NodeView, Made, NodeStandsAt, Answers, IsReceived, made_of, standing_of, standing_in, given_verdicts, calls_with}
use Rattle.p2p_directory.specs.Received.{Wire, Standing, FrameOutcome, received_by, read_by, greeted, replied, taken, first_verdict, verdicts_of}
use Rattle.p2p_directory.specs.declared.node.setup.Setup.{Setup}
use Rattle.p2p_directory.specs.Run.{world_after}
use Rattle.p2p_driver.specs.Frames.{Outcome, Spells, IsWaiting, ComesOf, refusal_of}
use Rattle.p2p_driver.specs.Hearing.{IsServable}
use Rattle.p2p_driver.specs.declared.actions.Breach.TheVariants as breach
use Rattle.p2p_driver.specs.Steps.{Makes}
use Rattle.p2p_driver.specs.declared.links.Phase.{Phase}
use Rattle.p2p_driver.specs.declared.links.Phase.TheVariants as phase
use Rattle.p2p_driver.specs.declared.links.Waiting.{Waiting}

module _ {C S : Type 0} (j : Judge C S) (now : ℕ) where
  -- verdicts behind the others that say wrong are as good as none
  padded_first : (vs : List Bool) (n : ℕ) (is : List (Info C S)) →
      first_refusal_by j (vs ++ replicate n false) now is ≡ first_refusal_by j vs now is
  padded_first [] zero is = refl
  padded_first [] (suc n) [] = refl
  padded_first [] (suc n) (i ∷ is) = ap (first_of (refusal_if j false now i)) (padded_first [] n is)
  padded_first (v ∷ vs) n [] = refl
  padded_first (v ∷ vs) n (i ∷ is) = ap (first_of (refusal_if j v now i)) (padded_first vs n is)

  pub padded : (vs : List Bool) (n : ℕ) (is : List (Info C S)) →
      list_refusal_by j (vs ++ replicate n false) now is ≡ list_refusal_by j vs now is
  padded vs n is = ap (λ o. if nat_lt j.greatest_count (length is) then Some (error.TooManyPeers (length is)) else o) (padded_first vs n is)

  -- the first of them isn't fine
  wrong : (i : Info C S) → (e : Error) × (refusal_if j false now i ≡ Some e)
  wrong i = go (j.is_me i.public_key) (is_too_late j now i)
    where
      go : (me late : Bool) → (e : Error) × ((if me then Some error.ReceivedSelf else if late then Some error.SynchronyBound
          else if not false then Some error.InvalidSignature else None) ≡ Some e)
      go true late = (error.ReceivedSelf, refl)
      go false true = (error.SynchronyBound, refl)
      go false false = (error.InvalidSignature, refl)

  -- without verdicts infos are refused, if there are some
  pub unsigned : (i : Info C S) (is : List (Info C S)) → (e : Error) × (list_refusal_by j [] now (i ∷ is) ≡ Some e)
  unsigned i is = go (nat_lt j.greatest_count (length (i ∷ is))) (wrong i)
    where
      go : (b : Bool) → (e : Error) × (refusal_if j false now i ≡ Some e) →
          (e : Error) × ((if b then Some (error.TooManyPeers (length (i ∷ is))) else first_refusal_by j [] now (i ∷ is)) ≡ Some e)
      go true first = (error.TooManyPeers (length (i ∷ is)), refl)
      go false first = (first.0, ap (λ o. first_of o (first_refusal_by j [] now is)) first.1)

  -- .. so they aren't fine
  pub unsigned_isnt : (is : List (Info C S)) → (length is == 0) ≡ false → (x : Unit {0}) → ¬ (judged (list_refusal_by j [] now is) ≡ Ok x)
  unsigned_isnt [] some x ok = cc
  unsigned_isnt (i ∷ is) some x ok = let found = unsigned i is in let other = sym (ap judged found.1) ∙ ok in cc

-- what is answered is answered by another name
pub seen_as : {C S : Type 0} {cmp : C → C → Ordering} {may : Bool} {o : FrameOutcome C S} {r r2 : Received C S} {v v2 : NodeView C S} →
    r ≡ r2 → Answers cmp may o r v v2 → Answers cmp may o r2 v v2
seen_as {cmp = cmp} {may = may} {o = o} {v = v} {v2 = v2} is seen = subst (λ r. Answers cmp may o r v v2) is seen

-- no more signatures decide than there are infos
few_decide : {C S : Type 0} (j : Judge C S) (now : ℕ) (is : List (Info C S)) → length (to_verify j now is) ≤ length is
few_decide {C} {S} j now is = go (nat_lt j.greatest_count (length is))
  where
    before : (is : List (Info C S)) → length (judged_before j now is) ≤ length is
    before [] = omega arith
    before (i ∷ is) = one (is_some (refusal_if j true now i)) (before is)
      where
        one : (b : Bool) → length (judged_before j now is) ≤ length is →
            length (if b then [] else i ∷ judged_before j now is) ≤ length (i ∷ is)
        one true few = omega arith
        one false few = omega (arith, few)

    go : (b : Bool) → length (if b then [] else judged_before j now is) ≤ length is
    go true = omega arith
    go false = before is

-- verdicts on all infos, by those on the first of them
abbrev pub all_of : ℕ → List Bool → List Bool
all_of infos vs = take infos vs ++ replicate (infos - length vs) false

first_of_all : (vs : List Bool) (infos : ℕ) → infos ≡ 1 → length vs ≡ 1 → first_verdict (all_of infos vs) ≡ first_verdict vs
first_of_all [] infos one is = absurd (omega (arith, is))
first_of_all (v ∷ vs) infos one is = ap (λ n. first_verdict (all_of n (v ∷ vs))) one

-- WHAT WAITS IS JUDGED, by what is seen of a node
module _ {C S : Type 0} (cmp : C → C → Ordering) (wire : Wire C S) (v : NodeView C S) (w : Waiting) (vs : List Bool) where
  abbrev pub judge : Judge C S
  judge = judge_of cmp wire.verifies v.verifier

  -- what is answered to it
  abbrev pub Told : Received C S → Type 0
  Told (received.Greeted key) = (info : Info C S) × Spells wire v.limits w.frame (payload.Greeting info)
      × (refusal_of cmp wire v.limits judge vs (as_nanos w.wall) (payload.Greeting info) ≡ None)
      × (refusal_if judge (first_verdict (all_of w.infos vs)) (as_nanos w.wall) info ≡ None)
  Told (received.Applied count) = (infos : List (Info C S)) × Spells wire v.limits w.frame (payload.Peers infos)
      × (refusal_of cmp wire v.limits judge vs (as_nanos w.wall) (payload.Peers infos) ≡ None)
      × (list_refusal_by judge (all_of w.infos vs) (as_nanos w.wall) infos ≡ None) × (count ≡ length infos)
  Told (received.Invalid e) = (p : Payload C S) × Spells wire v.limits w.frame p
      × (refusal_of cmp wire v.limits judge vs (as_nanos w.wall) p ≡ Some e)
  Told received.Memory = Unit {0}
  Told r = ⊥

  greeting_told : (info : Info C S) → Spells wire v.limits w.frame (payload.Greeting info) →
      first_verdict (all_of w.infos vs) ≡ first_verdict vs → (o : Option Error) →
      refusal_if judge (first_verdict (all_of w.infos vs)) (as_nanos w.wall) info ≡ o → (r : Received C S) →
      r ≡ (greeted wire info o).answer → Told r
  greeting_told info spells first None refused r is = subst Told (sym is)
      (info, spells, sym (ap (λ b. refusal_if judge b (as_nanos w.wall) info) first) ∙ refused, refused)
  greeting_told info spells first (Some e) refused r is = subst Told (sym is)
      (payload.Greeting info, spells, sym (ap (λ b. refusal_if judge b (as_nanos w.wall) info) first) ∙ refused)

  list_told : (infos : List (Info C S)) → Spells wire v.limits w.frame (payload.Peers infos) →
      list_refusal_by judge (all_of w.infos vs) (as_nanos w.wall) infos ≡ list_refusal_by judge vs (as_nanos w.wall) infos →
      (o : Option Error) → list_refusal_by judge (all_of w.infos vs) (as_nanos w.wall) infos ≡ o → (r : Received C S) →
      r ≡ (taken wire infos o).answer → Told r
  list_told infos spells same None refused r is = subst Told (sym is) (infos, spells, sym same ∙ refused, refused, refl)
  list_told infos spells same (Some e) refused r is = subst Told (sym is) (payload.Peers infos, spells, sym same ∙ refused)

  abbrev asked : FrameOutcome C S
  asked = received_by wire (λ x. all_of w.infos vs) (standing_of cmp wire v) w.frame (as_nanos w.wall)

  -- .. once its infos are counted
  pub told : (ph : Phase) (p : C) → IsWaiting cmp wire v.limits judge ph p w → length vs ≡ w.count →
      (r : Received C S) → r ≡ asked.answer → Told r
  told phase.Greeting p waits counted r answer = greeting_told waits.0 waits.1
      (first_of_all vs w.infos waits.3 (counted ∙ waits.4)) _ refl r
      (answer ∙ ap (λ out. (read_by wire (λ x. all_of w.infos vs) (standing_of cmp wire v) (as_nanos w.wall) out).answer) waits.1)
  told phase.Open p waits counted r answer = list_told waits.0 waits.1
      (ap (λ xs. list_refusal_by judge (xs ++ replicate (w.infos - length vs) false) (as_nanos w.wall) waits.0)
      (take_all w.infos vs (fits (few_decide judge (as_nanos w.wall) waits.0)))
      ∙ padded judge (as_nanos w.wall) vs (w.infos - length vs) waits.0) _ refl r
      (answer ∙ ap (λ out. (read_by wire (λ x. all_of w.infos vs) (standing_of cmp wire v) (as_nanos w.wall) out).answer) waits.1)
    where
      fits : length (to_verify judge (as_nanos w.wall) waits.0) ≤ length waits.0 → length vs ≤ w.infos
      fits few = omega (arith, few, counted, waits.2, waits.3)
  told phase.Closing p waits counted r answer = absurd waits

  -- with verdicts and a frame that are these
  pub answer_of : (xs : List Bool) (f : List ℕ) (r : Received C S) → xs ≡ all_of w.infos vs → f ≡ w.frame →
      r ≡ (received_by wire (λ x. xs) (standing_of cmp wire v) f (as_nanos w.wall)).answer → r ≡ asked.answer
  answer_of xs f r same same_frame is = is
      ∙ ap (λ xs. (received_by wire (λ x. xs) (standing_of cmp wire v) f (as_nanos w.wall)).answer) same
      ∙ ap (λ f. (received_by wire (λ x. all_of w.infos vs) (standing_of cmp wire v) f (as_nanos w.wall)).answer) same_frame

  -- AND THE NODE STANDS after the update with its infos
  module _ (v2 : NodeView C S) where
    abbrev pub AnswersAt : Received C S → Type 0
    AnswersAt r = IsReceived cmp wire (given_verdicts (all_of w.infos vs)) w.frame (as_nanos w.wall) r v v2

    pub received_as : (xs : List Bool) (f : List ℕ) (r : Received C S) → xs ≡ all_of w.infos vs → f ≡ w.frame →
        IsReceived cmp wire (given_verdicts xs) f (as_nanos w.wall) r v v2 → AnswersAt r
    received_as xs f r same same_frame is = subst (λ f. IsReceived cmp wire (given_verdicts (all_of w.infos vs)) f (as_nanos w.wall) r v v2) same_frame
        (subst (λ xs. IsReceived cmp wire (given_verdicts xs) f (as_nanos w.wall) r v v2) same is)

    pub greeting_made : (key : C) → AnswersAt (received.Greeted key) → (info : Info C S) →
        Spells wire v.limits w.frame (payload.Greeting info) →
        refusal_if judge (first_verdict (all_of w.infos vs)) (as_nanos w.wall) info ≡ None →
        Makes cmp (Update (info ∷ []) ∷ []) v v2
    greeting_made key received info spells fine given calls at =
        let m = made_of cmp given in
        let node : Standing C S = standing_in m wire (world_after m.directory calls) in
        subst (λ o. NodeStandsAt m (calls_with o calls) v2)
        (ap (λ out. (read_by wire (λ x. all_of w.infos vs) node (as_nanos w.wall) out).applied)
        (subst (λ l. Spells wire l w.frame (payload.Greeting info)) at.limits spells)
        ∙ ap (λ o. (greeted wire info o).applied)
        (subst (λ vf. refusal_if (judge_of cmp wire.verifies vf) (first_verdict (all_of w.infos vs)) (as_nanos w.wall) info ≡ None) at.verifier fine))
        (received given calls at).left

    pub list_made : (count : ℕ) → AnswersAt (received.Applied count) → (infos : List (Info C S)) →
        Spells wire v.limits w.frame (payload.Peers infos) →
        list_refusal_by judge (all_of w.infos vs) (as_nanos w.wall) infos ≡ None →
        Makes cmp (Update infos ∷ []) v v2
    list_made count received infos spells fine given calls at =
        let m = made_of cmp given in
        let node : Standing C S = standing_in m wire (world_after m.directory calls) in
        subst (λ o. NodeStandsAt m (calls_with o calls) v2)
        (ap (λ out. (read_by wire (λ x. all_of w.infos vs) node (as_nanos w.wall) out).applied)
        (subst (λ l. Spells wire l w.frame (payload.Peers infos)) at.limits spells)
        ∙ ap (λ o. (taken wire infos o).applied)
        (subst (λ vf. list_refusal_by (judge_of cmp wire.verifies vf) (all_of w.infos vs) (as_nanos w.wall) infos ≡ None) at.verifier fine))
        (received given calls at).left

-- WHAT IS SERVED: a question, or the empty list

-- the frame of a reply
frame_of : {C S : Type 0} → Received C S → List ℕ
frame_of (received.Reply frame) = frame
frame_of r = []

no_more : (g : ℕ) → nat_lt g 0 ≡ false
no_more g = grind (arith, nat_tests)

module _ {C S : Type 0} (wire : Wire C S) where
  -- a reply has the infos that there are for the bits
  reply_of : (o : Option (List (Info C S))) (reply : List ℕ) → received.Reply reply ≡ (replied wire o).answer →
      (infos : List (Info C S)) × (o ≡ Some infos) × (reply ≡ wire.spelling (payload.Peers infos))
  unfolding frame_of
  reply_of None reply is = absurd cc
  reply_of (Some infos) reply is = (infos, refl, ap frame_of is)

  malformed_of : (o : Option (List (Info C S))) → received.Malformed ≡ (replied wire o).answer → o ≡ None
  malformed_of None is = refl
  malformed_of (Some infos) is = absurd cc

  -- nothing is applied then
  not_applied : (o : Option (List (Info C S))) (count : ℕ) → ¬ (received.Applied count ≡ (replied wire o).answer)
  not_applied None count is = cc
  not_applied (Some infos) count is = cc

  not_greeted : (o : Option (List (Info C S))) (key : C) → ¬ (received.Greeted key ≡ (replied wire o).answer)
  not_greeted None key is = cc
  not_greeted (Some infos) key is = cc

  -- the empty list is fine
  fine_empty : (j : Judge C S) (vs : List Bool) (now : ℕ) → list_refusal_by j vs now [] ≡ None
  fine_empty j vs now = ap (λ b. if b then Some (error.TooManyPeers 0) else None) (no_more j.greatest_count)

module _ {C S : Type 0} (cmp : C → C → Ordering) (wire : Wire C S) (v v2 : NodeView C S) (frame : List ℕ) (wall : Duration)
    (servable : IsServable wire v.limits frame) where
  abbrev ServedAt : Received C S → Type 0
  ServedAt r = IsReceived cmp wire verdicts_of frame (as_nanos wall) r v v2

  module _ (given : Setup C S) (calls : List (Call C S)) (at : NodeStandsAt (made_of cmp given) calls v) where
    abbrev m : Made C S
    m = made_of cmp given

    abbrev node : Standing C S
    node = standing_in m wire (world_after m.directory calls)

    abbrev outcome_at : FrameOutcome C S
    outcome_at = received_by wire (verdicts_of node.judge) node frame (as_nanos wall)

    of_bits : (bits : BitVec) → Spells wire v.limits frame (payload.BitVec bits) →
        outcome_at ≡ replied wire (node.infos bits.index bits.bits (as_nanos wall))
    of_bits bits spells = ap (read_by wire (verdicts_of node.judge) node (as_nanos wall))
        (subst (λ l. Spells wire l frame (payload.BitVec bits)) at.limits spells)

    of_empty : Spells wire v.limits frame (payload.Peers []) → outcome_at ≡ taken wire [] None
    of_empty spells = ap (read_by wire (verdicts_of node.judge) node (as_nanos wall))
        (subst (λ l. Spells wire l frame (payload.Peers [])) at.limits spells)
        ∙ ap (taken wire []) (fine_empty wire node.judge [] (as_nanos wall))

    pub replies : (reply : List ℕ) → ServedAt (received.Reply reply) →
        ComesOf cmp wire node.limits node.judge node.infos frame wall (Outcome.Answers reply)
    replies reply came = go servable (came given calls at).answer
      where
        go : IsServable wire v.limits frame → received.Reply reply ≡ outcome_at.answer →
            ComesOf cmp wire node.limits node.judge node.infos frame wall (Outcome.Answers reply)
        go (inl (bits, spells)) is = let found = reply_of wire _ reply (is ∙ ap (λ (o : FrameOutcome C S). o.answer) (of_bits bits spells)) in
            (bits, found.0, subst (λ l. Spells wire l frame (payload.BitVec bits)) at.limits spells, found.1, found.2)
        go (inr spells) is = let other = is ∙ ap (λ (o : FrameOutcome C S). o.answer) (of_empty spells) in absurd cc

    pub malformed : ServedAt received.Malformed → (blocked : Option Bool) →
        ComesOf cmp wire node.limits node.judge node.infos frame wall (Outcome.Breaks breach.Malformed blocked)
    malformed came blocked = go servable (came given calls at).answer
      where
        go : IsServable wire v.limits frame → received.Malformed ≡ outcome_at.answer →
            ComesOf cmp wire node.limits node.judge node.infos frame wall (Outcome.Breaks breach.Malformed blocked)
        go (inl (bits, spells)) is = (
          bits,
          subst (λ l. Spells wire l frame (payload.BitVec bits)) at.limits spells,
          malformed_of wire _ (is ∙ ap (λ (o : FrameOutcome C S). o.answer) (of_bits bits spells)),
        )
        go (inr spells) is = let other = is ∙ ap (λ (o : FrameOutcome C S). o.answer) (of_empty spells) in absurd cc

    pub applied_none : (count : ℕ) → ServedAt (received.Applied count) →
        ComesOf cmp wire node.limits node.judge node.infos frame wall (Outcome.Takes [])
        × NodeStandsAt m (Update [] ∷ calls) v2
    applied_none count came = go servable (came given calls at).answer (came given calls at).left
      where
        go : IsServable wire v.limits frame → received.Applied count ≡ outcome_at.answer →
            NodeStandsAt m (calls_with outcome_at.applied calls) v2 →
            ComesOf cmp wire node.limits node.judge node.infos frame wall (Outcome.Takes [])
            × NodeStandsAt m (Update [] ∷ calls) v2
        go (inl (bits, spells)) is left = absurd (not_applied wire _ count (is ∙ ap (λ (o : FrameOutcome C S). o.answer) (of_bits bits spells)))
        go (inr spells) is left = (
          (refl, subst (λ l. Spells wire l frame (payload.Peers [])) at.limits spells),
          subst (λ (o : FrameOutcome C S). NodeStandsAt m (calls_with o.applied calls) v2) (of_empty spells) left,
        )

    pub greeted_none : (key : C) → ServedAt (received.Greeted key) → ⊥
    greeted_none key came = go servable (came given calls at).answer
      where
        go : IsServable wire v.limits frame → received.Greeted key ≡ outcome_at.answer → ⊥
        go (inl (bits, spells)) is = not_greeted wire _ key (is ∙ ap (λ (o : FrameOutcome C S). o.answer) (of_bits bits spells))
        go (inr spells) is = let other = is ∙ ap (λ (o : FrameOutcome C S). o.answer) (of_empty spells) in absurd cc
