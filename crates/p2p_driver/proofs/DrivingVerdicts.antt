-- How verdicts on a frame that waits make a driver stand, by its parts.
use Rattle.std.proofs.Common.{inl, inr, ◌≡◌, Bool, true, false, ℕ, ◌≤◌, List, [], ◌∷◌, Option, Some, None, refl, sym, ◌∙◌, ap, subst}
use Rattle.std.specs.Prelude.{IfSome, length, if◌then◌else◌, option_map, Result, Ok, Err}
use Rattle.p2p_discovery.specs.declared.codec.error.CodecError.{CodecError}
use Rattle.std.specs.BTreeMap.{is_at}
use Rattle.std.specs.Option.{IsSomeAnd}
use Rattle.std.specs.Duration.{as_nanos}
use Rattle.std.specs.declared.cmp.Ordering.{Ordering}
use Rattle.std.specs.declared.time.Duration.{Duration}
use Rattle.std.proofs.lemmas.Map.Lookups.{CmpEqualImpliesEq}
use Rattle.std.proofs.lemmas.Map.Views.{tells_apart}
use Rattle.p2p_discovery.specs.declared.discovery.Error.{Error}
use Rattle.p2p_discovery.specs.declared.discovery.Info.{Info}
use Rattle.p2p_discovery.specs.declared.discovery.Payload.{Payload}
use Rattle.p2p_discovery.specs.declared.discovery.Payload.TheVariants as payload
use Rattle.p2p_discovery.specs.declared.discovery.PayloadConfig.{PayloadConfig}
use Rattle.p2p_discovery.specs.Judgement.{Judge, judge_of}
use Rattle.p2p_tracker.specs.Calls.Call.{Connect, Update}
use Rattle.p2p_directory.specs.Nodes.{NodeView, NodeStandsAt, AtEach}
use Rattle.p2p_directory.specs.Received.{Wire}
use Rattle.p2p_driver.specs.Admissions.{AnswersVerdicts}
use Rattle.p2p_driver.specs.Answers.{AnswersView}
use Rattle.p2p_driver.specs.Drivers.{DriverView, DriverStands, Does, seen, base_of}
use Rattle.p2p_driver.specs.Frames.{Outcome, Spells, IsWaiting, refusal_of, is_early, owed_after, IsAsDialer}
use Rattle.p2p_driver.specs.Frames.Cause.{OfVerdicts}
use Rattle.p2p_driver.specs.Happenings.{Happening, calls_of, said_as, said_with}
use Rattle.p2p_driver.specs.Hearing.{Follows, IsJudged}
use Rattle.p2p_driver.specs.Links.{link_of, count_of, hearing, has_room, has_room_at, is_dialer}
use Rattle.p2p_driver.specs.Grants.{grant_of}
use Rattle.p2p_driver.specs.Meters.{MetersView}
use Rattle.p2p_driver.specs.Reading.{read_by}
use Rattle.p2p_driver.specs.Steps.{Makes, MakesFor, MayConnect, IsDone, IsBlocked}
use Rattle.p2p_driver.specs.declared.actions.Action.{Action}
use Rattle.p2p_driver.specs.declared.actions.Breach.TheVariants as breach
use Rattle.p2p_driver.specs.declared.admission.Misjudged.{Misjudged}
use Rattle.p2p_driver.specs.declared.arrivals.Arrival.{Arrival}
use Rattle.p2p_driver.specs.declared.links.Direction.{Direction}
use Rattle.p2p_driver.specs.declared.links.Held.{Held}
use Rattle.p2p_driver.specs.declared.links.Phase.{Phase}
use Rattle.p2p_driver.specs.declared.links.Phase.TheVariants as phase
use Rattle.p2p_driver.specs.declared.links.Waiting.{Waiting}
use Rattle.p2p_driver.specs.declared.pace.Pace.{Pace}
use Rattle.p2p_driver.specs.declared.next_dial.NextDial.{NextDial}
use Rattle.p2p_driver.specs.Questions.{IsNextQuestion}
use Rattle.p2p_driver.specs.declared.questions.Question.{Question}
use Rattle.p2p_driver.proofs.Driving.{slotted}
use Rattle.p2p_driver.proofs.Standing.{IsAtOnce, IsSoon, IsSoughtFor}
use Rattle.p2p_driver.proofs.DrivingFrames.{hears, room_on, judged_outs, blocked_done, said_none, unchanged, blocks_from, makes_from}
use Rattle.p2p_driver.proofs.Reserved.{reserved_anywhere}
use Rattle.p2p_driver.proofs.Status.{connects_by}
use Rattle.p2p_driver.proofs.Waiting.{waits_by}

some_is : {A : Type 0} {x y : A} → Some x ≡ Some y → x ≡ y
some_is e = cc

-- WHO IS MISJUDGED
module _ {C S : Type 0} (cmp : C → C → Ordering) (wire : Wire C S) (n now : ℕ) (verdicts : List Bool) (e : Misjudged) {v w : DriverView C S} (same : v ≡ w) where
  -- no frame waits for so many
  abbrev NoneWaits : DriverView C S → Type 0
  NoneWaits x = (p : C) (held : Held) (w : Waiting) → link_of cmp x.links p ≡ Some held →
      held.number ≡ n → held.waiting ≡ Some w → ¬ (length verdicts ≡ w.count)

  pub misjudges : NoneWaits v → AnswersVerdicts cmp wire n verdicts now (Err e) w w
  misjudges none = (refl, subst NoneWaits same none)

  pub misjudges_unlinked : ((p : C) (held : Held) → link_of cmp v.links p ≡ Some held → held.number ≡ n → ⊥) →
      AnswersVerdicts cmp wire n verdicts now (Err e) w w
  misjudges_unlinked unlinked = misjudges (λ p held w linked number waits counted. unlinked p held linked number)

  -- .. since what waits on the link isn't so
  pub misjudges_linked : CmpEqualImpliesEq cmp → (p : C) (held : Held) → link_of cmp v.links p ≡ Some held →
      ((q : C) (h : Held) → link_of cmp v.links q ≡ Some h → h.number ≡ n → is_at (cmp p) q ≡ true) →
      ((w : Waiting) → held.waiting ≡ Some w → ¬ (length verdicts ≡ w.count)) → AnswersVerdicts cmp wire n verdicts now (Err e) w w
  misjudges_linked exact p held linked only isnt = misjudges (λ q h x of_q number waits.
      isnt x (ap (λ (y : Held). y.waiting)
      (some_is (sym linked ∙ ap (link_of cmp v.links) (tells_apart exact p q (only q h of_q number)) ∙ of_q)) ∙ waits))

abbrev read_as : {C S : Type 0} → Payload C S → Result (Payload C S × List ℕ) CodecError
read_as p = Ok (p, [])

abbrev is_list : {C S : Type 0} → Payload C S → Bool
is_list (payload.Peers infos) = true
is_list p = false

abbrev reads_list : {C S : Type 0} → Result (Payload C S × List ℕ) CodecError → Bool
reads_list (Ok x) = is_list x.0
reads_list (Err e) = false

unlike : {C S : Type 0} (infos : List (Info C S)) (info : Info C S) → ¬ (read_as (payload.Peers infos) ≡ read_as (payload.Greeting info))
unlike infos info is = absurd (differ (ap reads_list is))
  where
    differ : true ≡ false → ⊥
    differ e = absurd cc

-- what waits is a greeting only before the peer has greeted
pub greeting_phase : {C S : Type 0} (cmp : C → C → Ordering) (wire : Wire C S) (l : PayloadConfig) (j : Judge C S) (ph : Phase) (p : C) (w : Waiting) (info : Info C S) →
    IsWaiting cmp wire l j ph p w → Spells wire l w.frame (payload.Greeting info) → ph ≡ phase.Greeting
greeting_phase cmp wire l j phase.Greeting p w info waits spells = refl
greeting_phase cmp wire l j phase.Open p w info waits spells = absurd (unlike waits.0 info (sym waits.1 ∙ spells))
greeting_phase cmp wire l j phase.Closing p w info waits spells = absurd waits

not_closing : {C S : Type 0} (cmp : C → C → Ordering) (wire : Wire C S) (l : PayloadConfig) (j : Judge C S) (ph : Phase) (p : C) (w : Waiting) →
    IsWaiting cmp wire l j ph p w → ¬ (ph ≡ phase.Closing)
not_closing cmp wire l j phase.Greeting p w waits is = cc
not_closing cmp wire l j phase.Open p w waits is = cc
not_closing cmp wire l j phase.Closing p w waits is = waits

early_is : (e : Error) (o : Option Error) → o ≡ Some e → is_early e ≡ true → IsSomeAnd o (λ e. is_early e ≡ true)
early_is e o is early = subst (λ o. IsSomeAnd o (λ e. is_early e ≡ true)) (sym is) early

module _ {C S : Type 0} (cmp : C → C → Ordering) (wire : Wire C S) (exact : CmpEqualImpliesEq cmp) (v : DriverView C S)
    (stands : DriverStands cmp wire v) (p : C) (held : Held) (linked : link_of cmp v.links p ≡ Some held) where
  -- what waits on a link may wait there, by what is seen
  pub waits_seen : (w : Waiting) → held.waiting ≡ Some w →
      IsWaiting cmp wire v.node.limits (judge_of cmp wire.verifies v.node.verifier) held.phase p w
  waits_seen w waits = let b = base_of cmp wire stands.given stands.pace in
      subst (λ l. IsWaiting cmp wire l (judge_of cmp wire.verifies v.node.verifier) held.phase p w) (sym stands.stands.node.limits)
      (subst (λ vf. IsWaiting cmp wire b.made.limits (judge_of cmp wire.verifies vf) held.phase p w) (sym stands.stands.node.verifier)
      (waits_by b exact stands.history v stands.stands p held linked w waits))

  -- a peer that has greeted just now may be connected
  pub may_greet : (node node2 : NodeView C S) (info : Info C S) → v.node ≡ record node { slots = [] } → held.phase ≡ phase.Greeting →
      Makes cmp (Update (info ∷ []) ∷ []) node node2 → MayConnect cmp p node2
  may_greet node node2 info same greets made = let b = base_of cmp wire stands.given stands.pace in
      reserved_anywhere cmp node2 p stands.given (Update (info ∷ []) ∷ calls_of stands.history)
      (made stands.given (calls_of stands.history) (slotted (subst (λ x. NodeStandsAt b.made (calls_of stands.history) x) same stands.stands.node)))
      (connects_by b stands.given.cfg.max_sets.ok exact stands.history v stands.stands p held linked greets (info ∷ []))

-- WHAT A DRIVER DOES OF VERDICTS
module _ {C S : Type 0} (cmp : C → C → Ordering) (wire : Wire C S) (node : NodeView C S) (pace : Pace)
    (greeting : List ℕ) (cooldown : ℕ) (dial : NextDial C) (latest next : ℕ) (arrivals : List (Arrival C)) (answers : AnswersView) (reads : List (ℕ × MetersView))
    (links : List (C × Held)) (actions : List (Action C)) (n : ℕ) (p : C) (held : Held) (w : Waiting) (verdicts : List Bool) (t : Duration)
    (after : latest ≤ as_nanos t) (linked : link_of cmp links p ≡ Some held) (number : held.number ≡ n) (waits : held.waiting ≡ Some w)
    (may : IsWaiting cmp wire node.limits (judge_of cmp wire.verifies node.verifier) held.phase p w) (counted : length verdicts ≡ w.count) where
  abbrev stood : DriverView C S
  stood = seen node pace greeting cooldown dial latest next arrivals answers reads links actions

  abbrev left : NodeView C S → NextDial C → List (C × Held) → List (Action C) → DriverView C S
  left node2 dial2 links2 actions2 = seen node2 pace greeting cooldown dial2 (as_nanos t) next arrivals answers reads links2 actions2

  abbrev judge : Judge C S
  judge = judge_of cmp wire.verifies node.verifier

  -- such an outcome comes of it
  does : (owed : ℕ) (outcome : Outcome C S) (node2 : NodeView C S) (dial2 : NextDial C) (links2 : List (C × Held)) (actions2 : List (Action C)) →
      IsAsDialer (is_dialer held) outcome → IsSoughtFor cmp p t outcome dial dial2 → IsJudged cmp wire w verdicts outcome node → owed ≡ owed_after held.phase outcome pace.owed held.owed →
      AtEach cmp node (λ m calls. IsDone wire m pace.refresh held.asked calls p t outcome) → MakesFor cmp p t outcome node node2 →
      ((j : ℕ) (place : Option ℕ) → read_by j place (Happening.Heard n p t owed (OfVerdicts verdicts) outcome) ≡ []) →
      Follows cmp n p t owed outcome links links2 actions actions2 → IfSome (said_as t outcome) (λ at. has_room pace.queue held ≡ true) →
      Does cmp wire (Happening.Heard n p t owed (OfVerdicts verdicts) outcome) stood (left node2 dial2 links2 actions2)
  does owed outcome node2 dial2 links2 actions2 dials sought comes owes done made unread follows room =
      hears cmp wire node pace greeting cooldown dial latest next arrivals answers reads links actions n p held t owed
      (OfVerdicts verdicts) outcome node2 dial2 links2 actions2 dials sought linked number after
      (judged_outs cmp wire stood.node p held w verdicts outcome (not_closing cmp wire node.limits judge held.phase p w may) waits counted comes)
      (λ given pace2 h at. tt) owes done made unread follows room

  -- the peer has greeted
  pub greets_by : (dialer : Bool) (info : Info C S) (question : Option Question) (node1 node2 : NodeView C S) (dial2 : NextDial C) (links2 : List (C × Held)) (actions2 : List (Action C)) →
      IsAtOnce dial dial2 → ((q : C) → grant_of cmp dial2.grants q ≡ (if is_at (cmp p) q then None else grant_of cmp dial.grants q)) → dialer ≡ is_dialer held →
      IsJudged cmp wire w verdicts (Outcome.Greets dialer info question) node → Makes cmp (Update (info ∷ []) ∷ []) node node1 →
      Makes cmp (Connect p dialer ∷ []) node1 node2 → IfSome question (λ question. IsNextQuestion cmp wire pace.refresh held.asked question node2) →
      IfSome question (λ question. has_room_at pace.queue (link_of cmp links p) ≡ true) →
      Follows cmp n p t (owed_after phase.Greeting (Outcome.Greets dialer info question) pace.owed held.owed) (Outcome.Greets dialer info question) links links2 actions actions2 →
      Does cmp wire (Happening.Heard n p t (owed_after phase.Greeting (Outcome.Greets dialer info question) pace.owed held.owed) (OfVerdicts verdicts)
      (Outcome.Greets dialer info question)) stood (left node2 dial2 links2 actions2)
  greets_by dialer info question node1 node2 dial2 links2 actions2 once spent dials comes updated connected asked room follows =
      does (owed_after phase.Greeting (Outcome.Greets dialer info question) pace.owed held.owed) (Outcome.Greets dialer info question) node2 dial2 links2 actions2 dials (inr once, spent) comes
      (ap (λ ph. owed_after ph (Outcome.Greets dialer info question) pace.owed held.owed)
      (sym (greeting_phase cmp wire node.limits judge held.phase p w info may comes.0)))
      (asks question asked) made (λ j place. refl) follows (said_if question (room_on cmp pace.queue p links held linked question room))
    where
      said_if : (q : Option Question) → IfSome q (λ q. has_room pace.queue held ≡ true) → IfSome (said_with t q) (λ at. has_room pace.queue held ≡ true)
      said_if None is = tt
      said_if (Some q) is = is

      made : MakesFor cmp p t (Outcome.Greets dialer info question) node node2
      made given calls at = connected given (Update (info ∷ []) ∷ calls) (updated given calls at)

      asks : (q : Option Question) → IfSome q (λ question. IsNextQuestion cmp wire pace.refresh held.asked question node2) →
          AtEach cmp node (λ m calls. IsDone wire m pace.refresh held.asked calls p t (Outcome.Greets dialer info q))
      asks None is given calls at = tt
      asks (Some question) is given calls at = is given (Connect p dialer ∷ Update (info ∷ []) ∷ calls)
          (connected given (Update (info ∷ []) ∷ calls) (updated given calls at))

  -- infos are applied
  pub takes_by : (infos : List (Info C S)) (node2 : NodeView C S) (dial2 : NextDial C) (links2 : List (C × Held)) (actions2 : List (Action C)) →
      IsSoon dial dial2 →
      IsJudged cmp wire w verdicts (Outcome.Takes infos) node → Makes cmp (Update infos ∷ []) node node2 →
      ((q : C) → link_of cmp links2 q ≡ (if is_at (cmp p) q then option_map (hearing t held.owed None) (link_of cmp links q) else link_of cmp links q)) →
      ((way : Direction) → count_of way links2 ≡ count_of way links) → actions2 ≡ actions →
      Does cmp wire (Happening.Heard n p t held.owed (OfVerdicts verdicts) (Outcome.Takes infos)) stood (left node2 dial2 links2 actions2)
  takes_by infos node2 dial2 links2 actions2 once comes updated kept count same = does held.owed (Outcome.Takes infos) node2 dial2 links2 actions2 tt (inr once.0, λ q. ap (λ gs. grant_of cmp gs q) once.1) comes refl
      (λ given calls at. tt) updated (λ j place. refl) (record { links_are = kept; counts = count; said = said_none actions actions2 same }) tt

  -- what a refusal says of what waits
  abbrev pub IsRefusedFor : Error → Type 0
  IsRefusedFor e = (x : Payload C S) × Spells wire node.limits w.frame x
      × (refusal_of cmp wire node.limits judge verdicts (as_nanos w.wall) x ≡ Some e)

  -- one is of the future
  pub early_by : (e : Error) (node2 : NodeView C S) (links2 : List (C × Held)) (actions2 : List (Action C)) → IsRefusedFor e → is_early e ≡ true → node2 ≡ node →
      Follows {S = S} cmp n p t held.owed Outcome.IsEarly links links2 actions actions2 →
      Does cmp wire (Happening.Heard n p t held.owed (OfVerdicts verdicts) Outcome.IsEarly) stood (left node2 dial links2 actions2)
  early_by e node2 links2 actions2 refused early same follows = does held.owed Outcome.IsEarly node2 dial links2 actions2 tt (inl (refl, refl, refl), λ q. refl)
      (refused.0, refused.1, early_is e _ refused.2 early) refl (λ given calls at. tt) (unchanged cmp node node2 same) (λ j place. refl) follows tt

  -- another one is refused
  pub refuses_by : (e : Error) (blocked : Option Bool) (node1 node2 : NodeView C S) (dial2 : NextDial C) (links2 : List (C × Held)) (actions2 : List (Action C)) → IsSoon dial dial2 → IsRefusedFor e → is_early e ≡ false →
      node1 ≡ node → MakesFor {S = S} cmp p t (Outcome.Breaks (breach.Invalid e) blocked) node1 node2 → IsBlocked cmp p (as_nanos t) blocked node1 →
      Follows {S = S} cmp n p t held.owed (Outcome.Breaks (breach.Invalid e) blocked) links links2 actions actions2 →
      Does cmp wire (Happening.Heard n p t held.owed (OfVerdicts verdicts) (Outcome.Breaks (breach.Invalid e) blocked)) stood (left node2 dial2 links2 actions2)
  refuses_by e blocked node1 node2 dial2 links2 actions2 once refused early same made blocks follows =
      does held.owed (Outcome.Breaks (breach.Invalid e) blocked) node2 dial2 links2 actions2 tt (inr once.0, λ q. ap (λ gs. grant_of cmp gs q) once.1) (refused.0, refused.1, (refused.2, early)) refl
      (blocked_done cmp wire node p t (breach.Invalid e) blocked (blocks_from cmp node1 node p (as_nanos t) blocked same blocks))
      (makes_from cmp node1 node node2 p t (Outcome.Breaks (breach.Invalid e) blocked) same made) (λ j place. refl) follows tt
