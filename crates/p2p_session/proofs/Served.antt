-- Each call of a session is one step of its node, and all of them are a run.
use Rattle.std.proofs.Common.{◌≡◌, ◌⊎◌, inl, inr, ℕ, List, [], ◌∷◌, Option, Some, None}
use Rattle.std.proofs.Common.{Result, Ok, Err, refl, sym, ◌∙◌, ap, subst}
use Rattle.std.proofs.lemmas.Bool.Decides.{eqb_tells}
use Rattle.std.specs.Cmp.{IsTotalOrder}
use Rattle.std.specs.declared.cmp.Ordering.TheVariants.{Equal}
use Rattle.p2p_directory.specs.declared.node.setup.Setup.{Setup}
use Rattle.p2p_tracker.specs.Calls.{Call}
use Rattle.p2p_directory.specs.Nodes.{NodeView, NodeStandsAt, made_of}
use Rattle.p2p_session.specs.declared.refusal.Refusal.{Refusal}
use Rattle.p2p_session.specs.declared.refusal.Refusal.TheVariants as refusal
use Rattle.p2p_directory.specs.declared.run.commands.Reply.{Reply}
use Rattle.p2p_session.specs.Answers.{Refuses}
use Rattle.p2p_session.specs.declared.session.Session.{Session}
use Rattle.p2p_session.specs.Frames.{ReceivesAt, verdicts_in}
use Rattle.p2p_session.specs.Given.{Asked, moment_at}
use Rattle.p2p_session.specs.Laws.{Served, IsShown, Goes, AreServed, AreSteps, AreShownAt}
use Rattle.p2p_session.specs.Laws.{IsRun}
use Rattle.p2p_session.specs.Requests.{Request, ServesRequest}
use Rattle.p2p_session.specs.Requests.Request.{Numbered, Written, SetOf, Infos, Bits, Frame}
use Rattle.p2p_session.specs.Requests.Request.{Looking, Init}
use Rattle.p2p_session.specs.Schemes.{Scheme}
use Rattle.p2p_session.specs.Sessions.{Makes, OfNode, IsMade}
use Rattle.p2p_session.specs.Steps.{Step, Lead, IsStepOf, IsStepFor, TellsStep, taken_with}
use Rattle.p2p_session.specs.Steps.Step.{Called, Heard, Looked}
use Rattle.p2p_session.proofs.Steps.{one_step, are_run}

module _ {C S : Type 0} (k : Scheme C S) where
  abbrev served : Option (Request C S) → List ℕ → List ℕ → ℕ → Served C S
  served asked out out2 n = record { asked = asked; out = out; out2 = out2; n = n }

  -- ---- one call

  -- what a call that is this step shows of any node
  abbrev ShowsAny : Served C S → Step C S → Type 0
  ShowsAny call step = (v : NodeView C S) → IsShown k call.asked step call.out call.out2 call.n v

  rests : (call : Served C S) → IsStepFor k call.asked Looked → ShowsAny call Looked →
      (o o2 : Option (NodeView C S)) → o2 ≡ o → Goes k call o o2
  rests call is shows None None e = tt
  rests call is shows None (Some v) e = absurd (cc)
  rests call is shows (Some v) None e = absurd (cc)
  rests call is shows (Some v) (Some v2) e =
      let same : v2 ≡ v = cc in (Looked, record { asked_for = is; told = inl tt }, same, shows v)

  -- by each node's step
  of_node : (call : Served C S) (Does : NodeView C S → NodeView C S → Type 0) (out out2 : List ℕ)
      (n : ℕ) →
      ((v v2 : NodeView C S) → Does v v2 → Goes k call (Some v) (Some v2)) →
      (o o2 : Option (NodeView C S)) →
      OfNode Does out out2 o o2 n → Goes k call o o2
  of_node call Does out out2 n each None None h = tt
  of_node call Does out out2 n each None (Some v) h = absurd (let e = h.0 in cc)
  of_node call Does out out2 n each (Some v) None h = absurd h
  of_node call Does out out2 n each (Some v) (Some v2) h = each v v2 h

  -- a call that was read, or wasn't, in a room that is the session's or none
  makes : (call : Served C S) (given : Asked C S) (out out2 : List ℕ) (n : ℕ) →
      ((step : Step C S) → IsStepOf k given step → IsStepFor k call.asked step) →
      ((step : Step C S) → TellsStep k step out out2 n →
      TellsStep k step call.out call.out2 call.n
      ⊎ ((call.out2 ≡ call.out) × TellsStep k step [] [] call.n)) →
      ((c : Call C S) (r : Reply C S) → ShowsAny call (Called c r)) →
      ((why : Refusal) → Refuses why out out2 n → ShowsAny call Looked) →
      (v v2 : NodeView C S) → Makes k given out out2 v v2 n → Goes k call (Some v) (Some v2)
  makes call (Ok c) out out2 n asked told shows refuses v v2 h = (
    Called c h.0,
    record { asked_for = asked (Called c h.0) (h.0, refl); told = told (Called c h.0) h.1.told },
    (h.1.stepped, h.1.unchanged),
    shows c h.0 v,
  )
  makes call (Err why) out out2 n asked told shows refuses v v2 h = (
    Looked,
    record { asked_for = asked Looked refl; told = told Looked tt },
    h.0,
    refuses why h.1 v,
  )

  takes : (frame verdicts : List ℕ) (seconds nanos : ℕ) (out out2 : List ℕ) (n : ℕ)
      (now : Result ℕ Refusal) →
      moment_at seconds nanos ≡ now → (v v2 : NodeView C S) →
      ReceivesAt k (verdicts_in verdicts) frame now out out2 v v2 n →
      Goes k (served (Some (Frame frame seconds nanos verdicts)) out out2 n) (Some v) (Some v2)
  takes frame verdicts seconds nanos out out2 n now e v v2 (inl h) =
      (Looked, record { asked_for = inl refl; told = inl tt }, h.2, (h.0, h.3))
  takes frame verdicts seconds nanos out out2 n (Ok t) e v v2 (inr h) = (
    Heard frame t (verdicts_in verdicts) h.0,
    record { asked_for = inr (t, e, (h.0, refl)); told = inl h.3 },
    h.1,
    tt,
  )
  takes frame verdicts seconds nanos out out2 n (Err why) e v v2 (inr h) = absurd h.1

  inits : (call : Served C S) (given : Setup C S) (o o2 : Option (NodeView C S)) → o ≡ None →
      ((v : NodeView C S) → IsMade k (Some v) given → Goes k call None (Some v)) →
      IsMade k o2 given → Goes k call o o2
  inits call given o None none made h = absurd h
  inits call given o (Some v) none made h =
      let P : Option (NodeView C S) → Type 0 = λ u. Goes k call u (Some v) in
      subst P (sym none) (made v h)

  requests : (asked : Option (Request C S)) (out out2 : List ℕ) (before after : Session C S)
      (n : ℕ) →
      ServesRequest k asked out out2 before after n →
      Goes k (served asked out out2 n) before.node after.node
  requests None out out2 before after n h =
      rests (served None out out2 n) refl (λ v. (refusal.BadCall, h.1)) before.node after.node
      (ap (λ s. s.node) h.0)
  requests (Some (Numbered given)) out out2 before after n h =
      let call = served (Some (Numbered given)) out out2 n in
      of_node call _ [] [] n
      (makes call given [] [] n (λ step is. is) (λ step t. inr (h.0, t)) (λ c r v. tt)
      (λ why t v. (why, (t.0, h.0))))
      before.node after.node h.1
  requests (Some (Written given)) out out2 before after n h =
      let call = served (Some (Written given)) out out2 n in
      of_node call _ out out2 n
      (makes call given out out2 n (λ step is. is) (λ step t. inl t) (λ c r v. tt)
      (λ why t v. (why, t)))
      before.node after.node h
  requests (Some (SetOf index primary secondary)) out out2 before after n h =
      let call = served (Some (SetOf index primary secondary)) out out2 n in
      of_node call _ out out2 n (λ v v2 is. elim is [
        | inl lacks ↦ (
          Looked,
          record { asked_for = inl refl; told = inl tt },
          lacks.1,
          (refusal.NoRoom, lacks.2),
        )
        | inr taken ↦ makes call taken.2.0 out out2 n (λ step is. inr (taken.2.0, taken.2.1, is))
            (λ step t. inl t) (λ c r v. tt)
            (λ why t v. (why, t)) v v2 taken.2.2
      ]) before.node after.node h
  requests (Some (Infos infos)) out out2 before after n h =
      let call = served (Some (Infos infos)) out out2 n in
      of_node call _ [] [] n
      (makes call h.1.0 [] [] n (λ step is. (h.1.0, h.1.1, is)) (λ step t. inr (h.0, t))
      (λ c r v. tt)
      (λ why t v. (why, (t.0, h.0))))
      before.node after.node h.1.2
  requests (Some (Bits bits seconds nanos)) out out2 before after n h =
      let call = served (Some (Bits bits seconds nanos)) out out2 n in
      of_node call _ out out2 n
      (makes call h.0 out out2 n (λ step is. (h.0, h.1, is)) (λ step t. inl t) (λ c r v. tt)
      (λ why t v. (why, t)))
      before.node after.node h.2
  requests (Some (Frame frame seconds nanos verdicts)) out out2 before after n h =
      of_node (served (Some (Frame frame seconds nanos verdicts)) out out2 n) _ out out2 n
      (takes frame verdicts seconds nanos out out2 n (moment_at seconds nanos) refl) before.node
      after.node h
  requests (Some (Looking look)) out out2 before after n h =
      of_node (served (Some (Looking look)) out out2 n) _ out out2 n
      (λ v v2 is. (Looked, record { asked_for = refl; told = inl tt }, is.0, is.1)) before.node
      after.node h
  requests (Some (Init numbers namespace bootstrappers myself)) out out2 before after n h =
      let call = served (Some (Init numbers namespace bootstrappers myself)) out out2 n in
      elim (eqb_tells n 1) [
        | inl is ↦ let made = h.1.made is.1 in
            inits call made.1.0 before.node after.node made.0
            (λ v at. (made.1.0, record { asked_for = made.1.1; returned = is.1 }, at)) made.1.2
        | inr other ↦ let why = h.1.refused other.1 in
            rests call refl (λ v. (why.1.0, (why.1.2, h.0))) before.node after.node why.0
      ]

  pub requested : (call : Served C S) (before after : Session C S) →
      ServesRequest k call.asked call.out call.out2 before after call.n →
      Goes k call before.node after.node
  requested call before after h = requests call.asked call.out call.out2 before after call.n h

  -- ---- all calls

  abbrev node_is : (s s2 : Session C S) → s2 ≡ s → s2.node ≡ s.node
  node_is s s2 e = ap (λ x. x.node) e

  -- where there is a node, each call is a step
  abbrev AreStepsOf : List (Served C S) → NodeView C S → NodeView C S → Type 0
  AreStepsOf calls v v2 = (steps : List (Step C S)) × AreSteps k calls steps × Lead k steps v v2
      × ((given : Setup C S) (before : List (Call C S)) →
      NodeStandsAt (made_of k.key.cmp given) before v →
      AreShownAt k (made_of k.key.cmp given) before calls steps)

  one_more : (call : Served C S) (calls : List (Served C S)) (v v2 : NodeView C S)
      (o : Option (NodeView C S)) →
      Goes k call (Some v) o → ((u : NodeView C S) → o ≡ Some u → AreStepsOf calls u v2) →
      AreStepsOf (call ∷ calls) v v2
  one_more call calls v v2 None goes more = absurd goes
  one_more call calls v v2 (Some u) goes more =
      let rest = more u refl in (
        goes.0 ∷ rest.0,
        (goes.1, rest.1),
        (u, goes.2, rest.2),
        λ given before at.
            let m = made_of k.key.cmp given in (
              (v, at, goes.3),
              rest.3 given (taken_with k m before goes.0)
                  (one_step k given before goes.0 v u at goes.2).1,
            ),
      )

  steps_of : (calls : List (Served C S)) (s s2 : Session C S) (v v2 : NodeView C S) →
      s.node ≡ Some v →
      s2.node ≡ Some v2 → AreServed k calls s s2 → AreStepsOf calls v v2
  steps_of [] s s2 v v2 some some2 h =
      let e : Some v2 ≡ Some v = sym some2 ∙ (node_is s s2 h ∙ some) in
      let same : v2 ≡ v = cc in ([], tt, same, λ given before at. tt)
  steps_of (call ∷ calls) s s2 v v2 some some2 h =
      one_more call calls v v2 h.0.node
      (subst (λ o. Goes k call o h.0.node) some (requested call s h.0 h.1))
      (λ u e. steps_of calls h.0 s2 u v2 e some2 h.2)

  module _ (exact : (q p : C) → k.key.cmp q p ≡ Equal → q ≡ p) (total : IsTotalOrder k.key.cmp)
    where
      -- a call before the node is made, and the one that makes it
      one_before : (call : Served C S) (calls : List (Served C S)) (v : NodeView C S)
          (o : Option (NodeView C S)) →
          Goes k call None o → (o ≡ None → IsRun k calls v) →
          ((u : NodeView C S) → o ≡ Some u → AreStepsOf calls u v) →
          IsRun k (call ∷ calls) v
      one_before call calls v None goes none some =
          let r = none refl in
          record {
            earlier = call ∷ r.earlier;
            init = r.init;
            later = r.later;
            in_order = ap (λ l. call ∷ l) r.in_order;
            given = r.given;
            inits = r.inits;
            steps = r.steps;
            are_steps = r.are_steps;
            are_shown = r.are_shown;
            are_run = r.are_run;
          }
      one_before call calls v (Some u) goes none some =
          let rest = some u refl in
          record {
            earlier = [];
            init = call;
            later = calls;
            in_order = refl;
            given = goes.0;
            inits = goes.1;
            steps = rest.0;
            are_steps = rest.1;
            are_shown = rest.3 goes.0 [] goes.2;
            are_run = are_run k exact total goes.0 rest.0 u v goes.2 rest.2;
          }

      pub sessions : (calls : List (Served C S)) (s s2 : Session C S) (v : NodeView C S) →
          s.node ≡ None →
          AreServed k calls s s2 → s2.node ≡ Some v → IsRun k calls v
      sessions [] s s2 v none h some =
          absurd (let e : Some v ≡ None = sym some ∙ (node_is s s2 h ∙ none) in cc)
      sessions (call ∷ calls) s s2 v none h some =
          one_before call calls v h.0.node
          (subst (λ o. Goes k call o h.0.node) none (requested call s h.0 h.1))
          (λ e. sessions calls h.0 s2 v e h.2 some) (λ u e. steps_of calls h.0 s2 u v e some h.2)
