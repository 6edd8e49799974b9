-- How frames make a driver stand, by its parts.
use Rattle.std.proofs.Common.{◌≡◌, inl, inr, Bool, true, false, not, ◌&&◌, ℕ, ◌-◌, ◌≤◌, List, [], ◌∷◌, ◌++◌, Option, Some, None, refl, sym, ◌∙◌, ap, subst}
use Rattle.std.specs.Prelude.{IfSome, length, max, if◌then◌else◌, option_map}
use Rattle.std.specs.BTreeMap.{is_at}
use Rattle.std.proofs.lemmas.List.{append-nil}
use Rattle.std.specs.Option.{IsSomeAnd}
use Rattle.std.specs.Duration.{as_nanos}
use Rattle.std.specs.declared.cmp.Ordering.{Ordering}
use Rattle.std.specs.declared.time.Duration.{Duration}
use Rattle.p2p_discovery.specs.declared.discovery.PayloadConfig.{PayloadConfig}
use Rattle.p2p_discovery.specs.declared.data.Data.{Data}
use Rattle.p2p_discovery.specs.Judgement.{Judge, Verifier, judge_of}
use Rattle.p2p_tracker.specs.Calls.{Call}
use Rattle.p2p_directory.specs.Nodes.{NodeView, NodeStandsAt, Made, AtEach, made_of, standing_in}
use Rattle.p2p_directory.specs.Received.{Wire, Standing}
use Rattle.p2p_directory.specs.declared.node.setup.Setup.{Setup}
use Rattle.p2p_directory.specs.Run.{world_after}
use Rattle.std.proofs.lemmas.Map.Lookups.{CmpEqualImpliesEq}
use Rattle.std.proofs.lemmas.Map.Views.{tells_apart}
use Rattle.p2p_driver.specs.Admissions.{SeenIn, IsRead, HearsOf, HasLink, HasNoLink, CameOn, IsReturned, AnswersFrame}
use Rattle.p2p_driver.specs.Answers.{AnswersView}
use Rattle.p2p_driver.specs.Drivers.{DriverView, DriverStandsAt, IsHeard, Does, seen, base_of}
use Rattle.p2p_driver.specs.Frames.{Cause, Outcome, Shares, IsOutcome, ComesFirst, ComesNext, ComesOf, ComesOfVerdicts, IsAsDialer, owed_after, is_greeting_frame, is_unasked}
use Rattle.p2p_driver.specs.Frames.Cause.{OfFrame, OfVerdicts}
use Rattle.p2p_driver.specs.Happenings.{Happening, calls_of, said_as}
use Rattle.p2p_driver.specs.Hearing.{Follows, IsServed, IsMessage, IsServable, TellsNext}
use Rattle.p2p_driver.specs.Links.{link_of, count_of, is_dialing, is_dialer, hearing, has_room, has_room_at, is_expected, is_unexpected, is_timed}
use Rattle.p2p_driver.specs.Grants.{grant_of}
use Rattle.p2p_driver.specs.Meters.{MetersView}
use Rattle.p2p_driver.specs.Reading.{read_by, AreMetered, IsPaced}
use Rattle.p2p_driver.specs.Steps.{MakesFor, IsDone, IsBlock, IsBlocked}
use Rattle.p2p_driver.specs.declared.actions.Action.{Action}
use Rattle.p2p_driver.specs.declared.admission.Admission.TheVariants as admission
use Rattle.p2p_driver.specs.declared.admission.Heard.TheVariants as heard
use Rattle.p2p_driver.specs.declared.actions.Breach.{Breach}
use Rattle.p2p_driver.specs.declared.actions.Breach.TheVariants as breach
use Rattle.p2p_driver.specs.declared.arrivals.Arrival.{Arrival}
use Rattle.p2p_driver.specs.declared.frames.Came.{Came}
use Rattle.p2p_driver.specs.declared.frames.Came.TheVariants as came
use Rattle.p2p_driver.specs.declared.links.Direction.{Direction}
use Rattle.p2p_driver.specs.declared.links.Held.{Held}
use Rattle.p2p_driver.specs.declared.links.Phase.{Phase}
use Rattle.p2p_driver.specs.declared.links.Phase.TheVariants as phase
use Rattle.p2p_driver.specs.declared.links.Waiting.{Waiting}
use Rattle.p2p_driver.specs.declared.pace.Pace.{Pace}
use Rattle.p2p_driver.specs.declared.next_dial.NextDial.{NextDial}
use Rattle.p2p_driver.proofs.Driving.{slotted, unslotted}
use Rattle.p2p_driver.proofs.Standing
use Rattle.p2p_driver.proofs.Standing.{IsSoon, IsSoughtFor}

module _ {C S : Type 0} (cmp : C → C → Ordering) (wire : Wire C S) (node : NodeView C S) where
  -- what is so by the limits and the verifier of a node is so wherever it stands
  pub anywhere : (P : PayloadConfig → Verifier C → Type 0) → P node.limits node.verifier →
      AtEach cmp node (λ m calls. P m.limits m.verifier)
  anywhere P is given calls at = subst (P (made_of cmp given).limits) at.verifier (subst (λ l. P l node.verifier) at.limits is)

  -- this comes on a link of p
  abbrev pub Outs : C → Held → Cause → Outcome C S → Type 0
  Outs p held cause outcome = AtEach cmp node (λ m calls.
      IsOutcome cmp wire (standing_in m wire (world_after m.directory calls)) held.phase held.owed held.waiting p cause outcome)

  -- .. of a first frame
  pub first_outs : (p : C) (held : Held) (frame : List ℕ) (wall : Duration) (outcome : Outcome C S) →
      held.phase ≡ phase.Greeting → held.waiting ≡ None →
      ComesFirst cmp wire node.limits (judge_of cmp wire.verifies node.verifier) p frame wall outcome →
      Outs p held (OfFrame frame wall) outcome
  first_outs p held frame wall outcome of_phase none comes given calls at =
      let stands : Standing C S = standing_in (made_of cmp given) wire (world_after (made_of cmp given).directory calls) in
      subst (λ ph. IsOutcome cmp wire stands ph held.owed held.waiting p (OfFrame frame wall) outcome) (sym of_phase)
      (subst (λ w. IsOutcome cmp wire stands phase.Greeting held.owed w p (OfFrame frame wall) outcome) (sym none)
      (anywhere (λ l vf. ComesFirst cmp wire l (judge_of cmp wire.verifies vf) p frame wall outcome) comes given calls at))

  -- .. of a later one
  pub next_outs : (p : C) (held : Held) (frame : List ℕ) (wall : Duration) (outcome : Outcome C S) →
      held.phase ≡ phase.Open → held.waiting ≡ None →
      AtEach cmp node (λ m calls. let stands = standing_in m wire (world_after m.directory calls) in
      ComesNext cmp wire stands.limits stands.judge stands.infos held.owed frame wall outcome) →
      Outs p held (OfFrame frame wall) outcome
  next_outs p held frame wall outcome of_phase none comes given calls at =
      let stands : Standing C S = standing_in (made_of cmp given) wire (world_after (made_of cmp given).directory calls) in
      subst (λ ph. IsOutcome cmp wire stands ph held.owed held.waiting p (OfFrame frame wall) outcome) (sym of_phase)
      (subst (λ w. IsOutcome cmp wire stands phase.Open held.owed w p (OfFrame frame wall) outcome) (sym none)
      (comes given calls at))

  -- .. of verdicts
  pub judged_outs : (p : C) (held : Held) (w : Waiting) (verdicts : List Bool) (outcome : Outcome C S) →
      ¬ (held.phase ≡ phase.Closing) → held.waiting ≡ Some w → length verdicts ≡ w.count →
      ComesOfVerdicts cmp wire node.limits (judge_of cmp wire.verifies node.verifier) w verdicts outcome →
      Outs p held (OfVerdicts verdicts) outcome
  judged_outs p held w verdicts outcome isnt some counted comes given calls at =
      let stands : Standing C S = standing_in (made_of cmp given) wire (world_after (made_of cmp given).directory calls) in
      subst (λ x. IsOutcome cmp wire stands held.phase held.owed x p (OfVerdicts verdicts) outcome) (sym some)
      (go held.phase isnt stands (anywhere (λ l vf. ComesOfVerdicts cmp wire l (judge_of cmp wire.verifies vf) w verdicts outcome) comes given calls at))
    where
      go : (ph : Phase) → ¬ (ph ≡ phase.Closing) → (stands : Standing C S) →
          ComesOfVerdicts cmp wire stands.limits stands.judge w verdicts outcome →
          IsOutcome cmp wire stands ph held.owed (Some w) p (OfVerdicts verdicts) outcome
      go phase.Greeting isnt stands comes = (counted, comes)
      go phase.Open isnt stands comes = (counted, comes)
      go phase.Closing isnt stands comes = absurd (isnt refl)

module _ {C S : Type 0} (cmp : C → C → Ordering) (wire : Wire C S) (node : NodeView C S) (pace : Pace)
    (greeting : List ℕ) (cooldown : ℕ) (dial : NextDial C) (latest next : ℕ) (arrivals : List (Arrival C)) (answers : AnswersView) (reads : List (ℕ × MetersView))
    (links : List (C × Held)) (actions : List (Action C)) where
  abbrev v : DriverView C S
  v = seen node pace greeting cooldown dial latest next arrivals answers reads links actions

  -- what is so of the frames that were read, wherever it stands
  abbrev pub ReadsAre : Happening C S → Duration → List (ℕ × MetersView) → Type 0
  ReadsAre e t reads2 = (given : Setup C S) (pace2 : Pace) (h : List (Happening C S)) → DriverStandsAt (base_of cmp wire given pace2) h v →
      AreMetered pace2 (as_nanos t) (e ∷ h) reads2

  -- a cause was in its turn, wherever it stands
  abbrev pub Paces : ℕ → Duration → Held → Cause → Outcome C S → Type 0
  Paces n t held cause outcome = (given : Setup C S) (pace2 : Pace) (h : List (Happening C S)) → DriverStandsAt (base_of cmp wire given pace2) h v →
      IsPaced pace2 h n (as_nanos t) (made_of cmp given).limits held cause outcome

  -- the peer of a link was heard, or may be
  pub hears_as : (n : ℕ) (p : C) (held : Held) (t : Duration) (owed : ℕ) (cause : Cause) (outcome : Outcome C S)
      (node2 : NodeView C S) (dial2 : NextDial C) (reads2 : List (ℕ × MetersView)) (links2 : List (C × Held)) (actions2 : List (Action C)) →
      IsAsDialer (is_dialer held) outcome → IsSoughtFor cmp p t outcome dial dial2 →
      link_of cmp links p ≡ Some held → held.number ≡ n → latest ≤ as_nanos t → Outs cmp wire v.node p held cause outcome →
      Paces n t held cause outcome → owed ≡ owed_after held.phase outcome pace.owed held.owed →
      AtEach cmp node (λ m calls. IsDone wire m pace.refresh held.asked calls p t outcome) → MakesFor cmp p t outcome node node2 →
      ReadsAre (Happening.Heard n p t owed cause outcome) t reads2 → Follows cmp n p t owed outcome links links2 actions actions2 →
      IfSome (said_as t outcome) (λ at. has_room pace.queue held ≡ true) →
      Does cmp wire (Happening.Heard n p t owed cause outcome) v
      (seen node2 pace greeting cooldown dial2 (as_nanos t) next arrivals answers reads2 links2 actions2)
  hears_as n p held t owed cause outcome node2 dial2 reads2 links2 actions2 dials sought linked number after comes paced owes done made metered follows room = record {
    goes = λ given pace2 h at.
        let b = base_of cmp wire given pace2 in
        let stood = slotted at.node in
        subst (λ acts. DriverStandsAt b (Happening.Heard n p t owed cause outcome ∷ h)
        (seen node2 pace greeting cooldown dial2 (as_nanos t) next arrivals answers reads2 links2 acts)) (sym follows.said)
        (Standing.hears b h v at n p t owed cause outcome (record node2 { slots = [] }) dial2 reads2 links2 sought
        (subst (λ o. IsSomeAnd o (IsHeard b h n p t owed cause outcome)) (sym linked ∙ at.links p) (record {
          number = number;
          dials = dials;
          comes = comes given (calls_of h) at.node;
          owes = subst (λ q. owed ≡ owed_after held.phase outcome q.owed held.owed) at.pace owes;
          done = subst (λ (q : Pace). IsDone wire b.made q.refresh held.asked (calls_of h) p t outcome) at.pace (done given (calls_of h) stood);
          paced = paced given pace2 h at;
          room = subst (λ (q : Pace). IfSome (said_as t outcome) (λ at. has_room q.queue held ≡ true)) at.pace room;
        }))
        after (unslotted (made given (calls_of h) stood)) (metered given pace2 h at) follows.links_are follows.counts);
  }

  -- .. and no frame is read
  pub hears : (n : ℕ) (p : C) (held : Held) (t : Duration) (owed : ℕ) (cause : Cause) (outcome : Outcome C S)
      (node2 : NodeView C S) (dial2 : NextDial C) (links2 : List (C × Held)) (actions2 : List (Action C)) →
      IsAsDialer (is_dialer held) outcome → IsSoughtFor cmp p t outcome dial dial2 →
      link_of cmp links p ≡ Some held → held.number ≡ n → latest ≤ as_nanos t → Outs cmp wire v.node p held cause outcome →
      Paces n t held cause outcome → owed ≡ owed_after held.phase outcome pace.owed held.owed →
      AtEach cmp node (λ m calls. IsDone wire m pace.refresh held.asked calls p t outcome) → MakesFor cmp p t outcome node node2 →
      ((j : ℕ) (place : Option ℕ) → read_by j place (Happening.Heard n p t owed cause outcome) ≡ []) →
      Follows cmp n p t owed outcome links links2 actions actions2 → IfSome (said_as t outcome) (λ at. has_room pace.queue held ≡ true) →
      Does cmp wire (Happening.Heard n p t owed cause outcome) v
      (seen node2 pace greeting cooldown dial2 (as_nanos t) next arrivals answers reads links2 actions2)
  hears n p held t owed cause outcome node2 dial2 links2 actions2 dials sought linked number after comes paced owes done made unread follows room =
      hears_as n p held t owed cause outcome node2 dial2 reads links2 actions2 dials sought linked number after comes paced owes done made
      (λ given pace2 h at. Standing.reads_later (base_of cmp wire given pace2) h v at (Happening.Heard n p t owed cause outcome) (as_nanos t) after
      (λ j. refl) (λ j. refl) unread) follows room

-- how a node stands after these calls
abbrev pub stands_at : {C S : Type 0} → (C → C → Ordering) → Wire C S → Setup C S → List (Call C S) → Standing C S
stands_at cmp wire given calls = standing_in (made_of cmp given) wire (world_after (made_of cmp given).directory calls)

-- WHAT COMES OF A FRAME, by what is seen of it
module _ {C S : Type 0} (cmp : C → C → Ordering) (wire : Wire C S) (node : NodeView C S) (p : C) (held : Held)
    (frame : List ℕ) (wall : Duration) (none : held.waiting ≡ None) where
  -- .. of a later one, whatever infos there are for bits
  later : (outcome : Outcome C S) → held.phase ≡ phase.Open →
      ((shares : Shares C S) → ComesNext cmp wire node.limits (judge_of cmp wire.verifies node.verifier) shares held.owed frame wall outcome) →
      Outs cmp wire node p held (OfFrame frame wall) outcome
  later outcome of_phase comes = next_outs cmp wire node p held frame wall outcome of_phase none
      (λ given calls at. anywhere cmp wire node
      (λ l vf. (shares : Shares C S) → ComesNext cmp wire l (judge_of cmp wire.verifies vf) shares held.owed frame wall outcome)
      comes given calls at (stands_at cmp wire given calls).infos)

  pub waits_out : (w : Waiting) → SeenIn cmp wire held.phase p held.owed frame wall (came.Waits w) node →
      Outs cmp wire node p held (OfFrame frame wall) (Outcome.Waits w)
  waits_out w seen = go held.phase refl seen
    where
      go : (ph : Phase) → held.phase ≡ ph → SeenIn cmp wire ph p held.owed frame wall (came.Waits w) node →
          Outs cmp wire node p held (OfFrame frame wall) (Outcome.Waits w)
      go phase.Greeting is seen = first_outs cmp wire node p held frame wall (Outcome.Waits w) is none seen
      go phase.Open is seen = later (Outcome.Waits w) is (λ shares. (seen.0, seen.1, seen.2 shares))
      go phase.Closing is seen = absurd seen

  pub ignores_out : SeenIn cmp wire held.phase p held.owed frame wall came.Ignored node →
      Outs cmp wire node p held (OfFrame frame wall) Outcome.Ignores
  ignores_out seen = go held.phase refl seen
    where
      go : (ph : Phase) → held.phase ≡ ph → SeenIn cmp wire ph p held.owed frame wall came.Ignored node →
          Outs cmp wire node p held (OfFrame frame wall) Outcome.Ignores
      go phase.Greeting is seen = absurd seen
      go phase.Open is seen = later Outcome.Ignores is (λ shares. seen.1)
      go phase.Closing is seen = absurd seen

  pub delivers_out : (channel start : ℕ) → SeenIn cmp wire held.phase p held.owed frame wall (came.Message channel start) node →
      (message : Data) × Outs cmp wire node p held (OfFrame frame wall) (Outcome.Delivers message) × IsMessage frame channel start message
  delivers_out channel start seen = go held.phase refl seen
    where
      go : (ph : Phase) → held.phase ≡ ph → SeenIn cmp wire ph p held.owed frame wall (came.Message channel start) node →
          (message : Data) × Outs cmp wire node p held (OfFrame frame wall) (Outcome.Delivers message) × IsMessage frame channel start message
      go phase.Greeting is seen = absurd seen
      go phase.Open is seen = (seen.2.0, later (Outcome.Delivers seen.2.0) is (λ shares. (seen.0, seen.1, seen.2.1)), seen.2.2)
      go phase.Closing is seen = absurd seen

  pub early_out : SeenIn cmp wire held.phase p held.owed frame wall came.Early node →
      Outs cmp wire node p held (OfFrame frame wall) Outcome.IsEarly
  early_out seen = go held.phase refl seen
    where
      go : (ph : Phase) → held.phase ≡ ph → SeenIn cmp wire ph p held.owed frame wall came.Early node →
          Outs cmp wire node p held (OfFrame frame wall) Outcome.IsEarly
      go phase.Greeting is seen = absurd seen
      go phase.Open is seen = later Outcome.IsEarly is (λ shares. (seen.0, seen.1, seen.2 shares))
      go phase.Closing is seen = absurd seen

  -- a breach, by which it is
  breaks_next : (x : Breach) (blocked : Option Bool) → TellsNext cmp wire node.limits (judge_of cmp wire.verifies node.verifier) held.owed frame wall (came.Breach x) →
      (shares : Shares C S) → ComesNext cmp wire node.limits (judge_of cmp wire.verifies node.verifier) shares held.owed frame wall (Outcome.Breaks x blocked)
  breaks_next breach.NoGreeting blocked tells shares = (tells.0, tells.1, tells.2 blocked shares)
  breaks_next breach.OtherGreeting blocked tells shares = (tells.0, tells.1, tells.2 blocked shares)
  breaks_next breach.SecondGreeting blocked tells shares = tells
  breaks_next breach.FrameLength blocked tells shares = (tells.0, tells.1, tells.2 blocked shares)
  breaks_next (breach.Codec fault) blocked tells shares = (tells.0, tells.1, tells.2 blocked shares)
  breaks_next breach.Malformed blocked tells shares = (tells.0, tells.1, tells.2 blocked shares)
  breaks_next (breach.Invalid e) blocked tells shares = (tells.0, tells.1, tells.2 blocked shares)

  pub breaks_out : (x : Breach) (blocked : Option Bool) → SeenIn cmp wire held.phase p held.owed frame wall (came.Breach x) node →
      Outs cmp wire node p held (OfFrame frame wall) (Outcome.Breaks x blocked)
  breaks_out x blocked seen = go held.phase refl seen
    where
      go : (ph : Phase) → held.phase ≡ ph → SeenIn cmp wire ph p held.owed frame wall (came.Breach x) node →
          Outs cmp wire node p held (OfFrame frame wall) (Outcome.Breaks x blocked)
      go phase.Greeting is seen = first_outs cmp wire node p held frame wall (Outcome.Breaks x blocked) is none (seen blocked)
      go phase.Open is seen = later (Outcome.Breaks x blocked) is (breaks_next x blocked seen)
      go phase.Closing is seen = absurd seen

  -- what is served is of a peer that has greeted
  pub served_open : SeenIn cmp wire held.phase p held.owed frame wall came.Served node →
      (held.phase ≡ phase.Open) × (is_greeting_frame frame ≡ false) × (is_unasked held.owed frame ≡ false) × IsServable wire node.limits frame
  served_open seen = go held.phase refl seen
    where
      go : (ph : Phase) → held.phase ≡ ph → SeenIn cmp wire ph p held.owed frame wall came.Served node →
          (held.phase ≡ phase.Open) × (is_greeting_frame frame ≡ false) × (is_unasked held.owed frame ≡ false) × IsServable wire node.limits frame
      go phase.Greeting is seen = absurd seen
      go phase.Open is seen = (is, seen.0, seen.1, seen.2)
      go phase.Closing is seen = absurd seen

  -- .. and what its node answers comes of it
  pub served_out : (outcome : Outcome C S) → held.phase ≡ phase.Open →
      ((l : PayloadConfig) (j : Judge C S) (shares : Shares C S) → ComesOf cmp wire l j shares frame wall outcome →
      ComesNext cmp wire l j shares held.owed frame wall outcome) → IsServed cmp wire frame wall outcome node →
      Outs cmp wire node p held (OfFrame frame wall) outcome
  served_out outcome of_phase next comes = next_outs cmp wire node p held frame wall outcome of_phase none
      (λ given calls at. let node = stands_at cmp wire given calls in next node.limits node.judge node.infos (comes given calls at))

  -- a frame that finds no memory is read
  pub read_in : SeenIn cmp wire held.phase p held.owed frame wall came.Memory node → IsRead held.phase held.owed frame
  read_in seen = go held.phase seen
    where
      go : (ph : Phase) → SeenIn cmp wire ph p held.owed frame wall came.Memory node → IsRead ph held.owed frame
      go phase.Greeting seen = seen
      go phase.Open seen = seen
      go phase.Closing seen = absurd seen

-- nothing more is said
pub said_none : {X : Type 0} (xs ys : List X) → ys ≡ xs → ys ≡ xs ++ []
said_none xs ys is = is ∙ sym (append-nil xs)

abbrev pub delivers : {C S : Type 0} → Data → Outcome C S
delivers m = Outcome.Delivers m

-- what is seen of a frame is seen on a link that there is
pub record FoundOn {C S : Type 0} (cmp : C → C → Ordering) (wire : Wire C S) (n : ℕ) (p : C) (owed : ℕ) (frame : List ℕ)
    (wall : Duration) (c : Came) (v : DriverView C S) : Type 0 where
  pub held : Held
  pub linked : link_of cmp v.links p ≡ Some held
  pub number : held.number ≡ n
  pub owed_is : held.owed ≡ owed
  pub none : held.waiting ≡ None
  pub expected : is_expected frame held ≡ true
  pub is_seen : SeenIn cmp wire held.phase p held.owed frame wall c v.node

pub found_on : {C S : Type 0} (cmp : C → C → Ordering) (wire : Wire C S) (n : ℕ) (p : C) (owed : ℕ) (frame : List ℕ)
    (wall : Duration) (c : Came) (v : DriverView C S) → CameOn cmp wire n p owed frame wall c v → FoundOn cmp wire n p owed frame wall c v
found_on cmp wire n p owed frame wall c v on = go (link_of cmp v.links p) refl on
  where
    go : (o : Option Held) → link_of cmp v.links p ≡ o → IsSomeAnd o (λ held. (held.number ≡ n) × (held.owed ≡ owed)
        × (held.waiting ≡ None) × (is_expected frame held ≡ true)
        × SeenIn cmp wire held.phase p owed frame wall c v.node) → FoundOn cmp wire n p owed frame wall c v
    go None is on = absurd on
    go (Some held) is on = record {
      held = held;
      linked = is;
      number = on.0;
      owed_is = on.1;
      none = on.2;
      expected = on.3;
      is_seen = subst (λ k. SeenIn cmp wire held.phase p k frame wall c v.node) (sym on.1) on.4;
    }

-- .. of a driver by its parts, where the frame is this
pub found_as : {C S : Type 0} (cmp : C → C → Ordering) (wire : Wire C S) (n : ℕ) (p : C) (owed : ℕ) (frame : List ℕ)
    (wall : Duration) (c c2 : Came) (v w : DriverView C S) → w ≡ v → c ≡ c2 → CameOn cmp wire n p owed frame wall c v → FoundOn cmp wire n p owed frame wall c2 w
found_as cmp wire n p owed frame wall c c2 v w same is on = found_on cmp wire n p owed frame wall c2 w
    (subst (λ x. CameOn cmp wire n p owed frame wall c2 x) (sym same) (subst (λ x. CameOn cmp wire n p owed frame wall x v) is on))

-- what is returned with a message
pub delivered : (C S : Type 0) (frame : List ℕ) (channel start end : ℕ) (m : Data) → IsMessage frame channel start m → end ≡ length frame →
    IsReturned frame (delivers {C = C} {S = S} m) (heard.Message channel (record { start = start; end = end }))
delivered C S frame channel start end m is long = (
  start,
  ap (λ k. heard.Message k (record { start = start; end = end })) (sym is.channel_is)
      ∙ ap (λ k. heard.Message m.channel (record { start = start; end = k })) long,
  record { channel_is = refl; within = is.within; message_is = is.message_is },
)

-- a link that there is, of which nothing waits, and what is seen of a frame
pub came_on : {C S : Type 0} (cmp : C → C → Ordering) (wire : Wire C S) (n : ℕ) (p : C) (owed : ℕ) (frame : List ℕ)
    (wall : Duration) (c : Came) (v w : DriverView C S) (held : Held) → v ≡ w → link_of cmp v.links p ≡ Some held → held.number ≡ n → held.owed ≡ owed →
    held.waiting ≡ None → is_expected frame held ≡ true → SeenIn cmp wire held.phase p owed frame wall c v.node → CameOn cmp wire n p owed frame wall c w
came_on cmp wire n p owed frame wall c v w held same linked number owed_is none expected is_seen =
    subst (λ x. CameOn cmp wire n p owed frame wall c x) same
    (subst (λ o. IsSomeAnd o (λ held. (held.number ≡ n) × (held.owed ≡ owed)
    × (held.waiting ≡ None) × (is_expected frame held ≡ true)
    × SeenIn cmp wire held.phase p owed frame wall c v.node)) (sym linked) (number, owed_is, none, expected, is_seen))

-- what is kept of a link, by how it was found
pub linked_as : {C : Type 0} (cmp : C → C → Ordering) (links : List (C × Held)) (p : C) (held : Held) (n : ℕ) → link_of cmp links p ≡ Some held →
    IsSomeAnd (link_of cmp links p) (λ h. h.number ≡ n) → held.number ≡ n
linked_as cmp links p held n linked numbered = subst (λ o. IsSomeAnd o (λ h. h.number ≡ n)) linked numbered

-- a frame on a link that isn't closed is the one that may be handed in, if it isn't said that it isn't
pub expected_in : (frame : List ℕ) (held : Held) (ph : Phase) → held.phase ≡ ph → is_timed ph ≡ true → is_unexpected frame held ≡ false →
    is_expected frame held ≡ true
expected_in frame held ph is timed isnt = go (is_expected frame held) refl
    (sym (ap (λ b. b && not (is_expected frame held)) (ap is_timed is ∙ timed)) ∙ isnt)
  where
    go : (b : Bool) → is_expected frame held ≡ b → (true && not b) ≡ false → b ≡ true
    go true at same = refl
    go false at same = absurd cc

-- a link has the number, by how it was found
pub has_link : {C S : Type 0} (cmp : C → C → Ordering) (n : ℕ) (P : Held → Type 0) (v w : DriverView C S) → v ≡ w → (p : C) (held : Held) →
    link_of cmp v.links p ≡ Some held → IsSomeAnd (link_of cmp v.links p) (λ h. h.number ≡ n) → P held → HasLink cmp n w P
has_link cmp n P v w same p held linked numbered is = subst (λ x. HasLink cmp n x P) same
    (p, held, linked, linked_as cmp v.links p held n linked numbered, is)

-- no link has the number
pub no_link : {C S : Type 0} (cmp : C → C → Ordering) (n : ℕ) (v w : DriverView C S) → v ≡ w →
    ((p : C) (held : Held) → link_of cmp v.links p ≡ Some held → held.number ≡ n → ⊥) → HasNoLink cmp n w
no_link cmp n v w same none = subst (HasNoLink cmp n) same (λ p held linked number. absurd (none p held linked number))

-- .. but a dial under way
pub no_link_dialing : {C S : Type 0} (cmp : C → C → Ordering) (n : ℕ) (v w : DriverView C S) → v ≡ w → CmpEqualImpliesEq cmp →
    (p : C) (held : Held) → link_of cmp v.links p ≡ Some held →
    ((q : C) (h : Held) → link_of cmp v.links q ≡ Some h → h.number ≡ n → is_at (cmp p) q ≡ true) → is_dialing held ≡ true → HasNoLink cmp n w
no_link_dialing cmp n v w same exact p held linked only dials = subst (HasNoLink cmp n) same (λ q h of_q number.
    subst (λ (x : Held). is_dialing x ≡ true)
    (some_is (sym linked ∙ ap (link_of cmp v.links) (tells_apart exact p q (only q h of_q number)) ∙ of_q)) dials)
  where
    some_is : {x y : Held} → Some x ≡ Some y → x ≡ y
    some_is e = cc

-- a frame that found no memory leaves all as it was
pub dropped : {C S : Type 0} (cmp : C → C → Ordering) (wire : Wire C S) (n : ℕ) (p : C) (owed : ℕ) (frame : List ℕ)
    (wall : Duration) (c : Came) (now : ℕ) (v v2 : DriverView C S) → (f : FoundOn cmp wire n p owed frame wall c v) →
    IsRead f.held.phase f.held.owed frame → v2 ≡ v → AnswersFrame cmp wire n frame wall now (admission.Heard heard.Dropped) v v2
dropped cmp wire n p owed frame wall c now v v2 f read same = (same, (p, f.held, f.linked, f.number, (f.none, f.expected, read)))

pub served_read : {C S : Type 0} (cmp : C → C → Ordering) (wire : Wire C S) (n : ℕ) (p : C) (owed : ℕ) (frame : List ℕ)
    (wall : Duration) (v : DriverView C S) → (f : FoundOn cmp wire n p owed frame wall came.Served v) → IsRead f.held.phase f.held.owed frame
served_read cmp wire n p owed frame wall v f = let is = served_open cmp wire v.node p f.held frame wall f.none f.is_seen in
    subst (λ ph. IsRead ph f.held.owed frame) (sym is.0) (is.1, is.2)

-- parts that are as they were
pub same_parts : {C S : Type 0} (node node2 : NodeView C S) (pace : Pace) (greeting : List ℕ) (cooldown : ℕ) (dial : NextDial C) (latest next : ℕ) (arrivals : List (Arrival C))
    (answers : AnswersView) (reads : List (ℕ × MetersView)) (links : List (C × Held)) (actions actions2 : List (Action C)) → node2 ≡ node → actions2 ≡ actions →
    seen node2 pace greeting cooldown dial latest next arrivals answers reads links actions2 ≡ seen node pace greeting cooldown dial latest next arrivals answers reads links actions
same_parts node node2 pace greeting cooldown dial latest next arrivals answers reads links actions actions2 same said i =
    seen (same i) pace greeting cooldown dial latest next arrivals answers reads links (said i)

-- one more is said after those that were said
pub said_then : {X : Type 0} (xs ys zs says : List X) → ys ≡ xs → zs ≡ ys ++ says → zs ≡ xs ++ says
said_then xs ys zs says same is = is ∙ ap (λ xs. xs ++ says) same

-- what begins where nothing had changed
pub unchanged : {C S : Type 0} (cmp : C → C → Ordering) (v v2 : NodeView C S) → v2 ≡ v → AtEach cmp v (λ m calls. NodeStandsAt m calls v2)
unchanged cmp v v2 same given calls at = subst (λ x. NodeStandsAt (made_of cmp given) calls x) (sym same) at

pub makes_from : {C S : Type 0} (cmp : C → C → Ordering) (v w v2 : NodeView C S) (p : C) (t : Duration) (outcome : Outcome C S) → v ≡ w →
    MakesFor cmp p t outcome v v2 → MakesFor cmp p t outcome w v2
makes_from cmp v w v2 p t outcome same made = subst (λ x. MakesFor cmp p t outcome x v2) same made

pub blocks_from : {C S : Type 0} (cmp : C → C → Ordering) (v w : NodeView C S) (p : C) (t : ℕ) (blocked : Option Bool) → v ≡ w →
    IsBlocked cmp p t blocked v → IsBlocked cmp p t blocked w
blocks_from cmp v w p t blocked same blocks = subst (λ x. IsBlocked cmp p t blocked x) same blocks

pub follows_from : {C S : Type 0} {cmp : C → C → Ordering} {n : ℕ} {p : C} {t : Duration} {owed : ℕ} {outcome : Outcome C S}
    {links links2 : List (C × Held)} {actions actions1 actions2 : List (Action C)} → actions1 ≡ actions →
    Follows cmp n p t owed outcome links links2 actions1 actions2 → Follows cmp n p t owed outcome links links2 actions actions2
follows_from {cmp = cmp} {n = n} {p = p} {t = t} {owed = owed} {outcome = outcome} {links = links} {links2 = links2} {actions2 = actions2} same follows =
    subst (λ xs. Follows cmp n p t owed outcome links links2 xs actions2) same follows

-- a block of a peer that broke a rule is done
pub blocked_done : {C S : Type 0} (cmp : C → C → Ordering) (wire : Wire C S) (node : NodeView C S) (p : C) (t : Duration) (x : Breach) (blocked : Option Bool) →
    IsBlocked cmp p (as_nanos t) blocked node → AtEach cmp node (λ m calls. IfSome blocked (IsBlock m calls p (as_nanos t)))
blocked_done cmp wire node p t x None blocks given calls at = tt
blocked_done cmp wire node p t x (Some taken) blocks given calls at = blocks given calls at

-- a node with slots is asked where one without is
bare : {C S : Type 0} (cmp : C → C → Ordering) (node : NodeView C S) (P : Made C S → List (Call C S) → Type 0) →
    AtEach cmp node P → AtEach cmp (record node { slots = [] }) P
bare cmp node P each given calls at = each given calls (slotted at)

-- WHAT A DRIVER DOES OF A FRAME
module _ {C S : Type 0} (cmp : C → C → Ordering) (wire : Wire C S) (node : NodeView C S) (pace : Pace)
    (greeting : List ℕ) (cooldown : ℕ) (dial : NextDial C) (latest next : ℕ) (arrivals : List (Arrival C)) (answers : AnswersView) (reads : List (ℕ × MetersView))
    (links : List (C × Held)) (actions : List (Action C)) (n : ℕ) (p : C) (owed : ℕ) (frame : List ℕ) (wall t : Duration)
    (after : latest ≤ as_nanos t) where
  abbrev stood : DriverView C S
  stood = seen node pace greeting cooldown dial latest next arrivals answers reads links actions

  abbrev left : NodeView C S → NextDial C → List (C × Held) → List (Action C) → DriverView C S
  left node2 dial2 links2 actions2 = seen node2 pace greeting cooldown dial2 (as_nanos t) next arrivals answers reads links2 actions2

  abbrev Found : Came → Type 0
  Found c = FoundOn cmp wire n p owed frame wall c stood

  -- how the link is kept then
  abbrev KeptAs : (Held → Held) → List (C × Held) → Type 0
  KeptAs change links2 = (q : C) → link_of cmp links2 q ≡ (if is_at (cmp p) q then option_map change (link_of cmp links q) else link_of cmp links q)

  unmade : AtEach cmp node (λ m calls. NodeStandsAt m calls node)
  unmade given calls at = at

  module _ (links2 : List (C × Held)) (actions2 : List (Action C)) (counts : (way : Direction) → count_of way links2 ≡ count_of way links) where
    -- it waits
    pub waits_on : (w : Waiting) (owed2 : ℕ) → Found (came.Waits w) → owed2 ≡ owed - 1 → KeptAs (hearing t owed2 (Some w)) links2 → actions2 ≡ actions →
        Does cmp wire (Happening.Heard n p t owed2 (OfFrame frame wall) (Outcome.Waits w)) stood (left node dial links2 actions2)
    waits_on w owed2 f less kept same = hears cmp wire node pace greeting cooldown dial latest next arrivals answers reads links actions n p f.held t owed2
        (OfFrame frame wall) (Outcome.Waits w) node dial links2 actions2 tt (inl (refl, refl, refl), λ q. refl) f.linked f.number after
        (waits_out cmp wire stood.node p f.held frame wall f.none w f.is_seen) (λ given pace2 h at. f.expected) (less ∙ ap (λ k. k - 1) (sym f.owed_is))
        (λ given calls at. tt) unmade (λ j place. refl) (record { links_are = kept; counts = counts; said = said_none actions actions2 same }) tt

    -- it is ignored
    pub ignores_on : Found came.Ignored → KeptAs (hearing t owed None) links2 → actions2 ≡ actions →
        Does cmp wire (Happening.Heard n p t owed (OfFrame frame wall) Outcome.Ignores) stood (left node dial links2 actions2)
    ignores_on f kept same = hears cmp wire node pace greeting cooldown dial latest next arrivals answers reads links actions n p f.held t owed
        (OfFrame frame wall) Outcome.Ignores node dial links2 actions2 tt (inl (refl, refl, refl), λ q. refl) f.linked f.number after
        (ignores_out cmp wire stood.node p f.held frame wall f.none f.is_seen) (λ given pace2 h at. f.expected) (sym f.owed_is)
        (λ given calls at. tt) unmade (λ j place. refl) (record { links_are = kept; counts = counts; said = said_none actions actions2 same }) tt

    -- a message is delivered
    pub delivers_on : (message : Data) (held : Held) → link_of cmp links p ≡ Some held → held.number ≡ n →
        held.owed ≡ owed → is_expected frame held ≡ true → Outs cmp wire stood.node p held (OfFrame frame wall) (Outcome.Delivers message) → KeptAs (hearing t owed None) links2 → actions2 ≡ actions →
        Does cmp wire (Happening.Heard n p t owed (OfFrame frame wall) (Outcome.Delivers message)) stood (left node dial links2 actions2)
    delivers_on message held linked number owed_is expected out kept same = hears cmp wire node pace greeting cooldown dial latest next arrivals answers reads links actions n p held t owed
        (OfFrame frame wall) (Outcome.Delivers message) node dial links2 actions2 tt (inl (refl, refl, refl), λ q. refl) linked number after out (λ given pace2 h at. expected) (sym owed_is)
        (λ given calls at. tt) unmade (λ j place. refl) (record { links_are = kept; counts = counts; said = said_none actions actions2 same }) tt

  -- an info is of the future
  pub early_on : (links2 : List (C × Held)) (actions2 : List (Action C)) → Found came.Early →
      Follows {S = S} cmp n p t owed Outcome.IsEarly links links2 actions actions2 →
      Does cmp wire (Happening.Heard n p t owed (OfFrame frame wall) Outcome.IsEarly) stood (left node dial links2 actions2)
  early_on links2 actions2 f follows = hears cmp wire node pace greeting cooldown dial latest next arrivals answers reads links actions n p f.held t owed
      (OfFrame frame wall) Outcome.IsEarly node dial links2 actions2 tt (inl (refl, refl, refl), λ q. refl) f.linked f.number after
      (early_out cmp wire stood.node p f.held frame wall f.none f.is_seen) (λ given pace2 h at. f.expected) (sym f.owed_is)
      (λ given calls at. tt) unmade (λ j place. refl) follows tt

  -- a rule is broken
  pub breaks_on : (x : Breach) (blocked : Option Bool) (node2 : NodeView C S) (dial2 : NextDial C) (links2 : List (C × Held)) (actions2 : List (Action C)) → IsSoon dial dial2 → Found (came.Breach x) →
      MakesFor cmp p t (Outcome.Breaks x blocked) node node2 → IsBlocked cmp p (as_nanos t) blocked node →
      Follows {S = S} cmp n p t owed (Outcome.Breaks x blocked) links links2 actions actions2 →
      Does cmp wire (Happening.Heard n p t owed (OfFrame frame wall) (Outcome.Breaks x blocked)) stood (left node2 dial2 links2 actions2)
  breaks_on x blocked node2 dial2 links2 actions2 once f made blocks follows = hears cmp wire node pace greeting cooldown dial latest next arrivals answers reads links actions n p f.held t owed
      (OfFrame frame wall) (Outcome.Breaks x blocked) node2 dial2 links2 actions2 tt (inr once.0, λ q. ap (λ gs. grant_of cmp gs q) once.1) f.linked f.number after
      (breaks_out cmp wire stood.node p f.held frame wall f.none x blocked f.is_seen) (λ given pace2 h at. f.expected) (sym f.owed_is)
      (blocked_done cmp wire node p t x blocked blocks) made (λ j place. refl) follows tt

  -- what is served is of a peer that has greeted, and its node may answer it
  pub servable_on : Found came.Served → IsServable wire node.limits frame
  servable_on f = (served_open cmp wire stood.node p f.held frame wall f.none f.is_seen).3

  -- what its node answers comes of it
  pub serves_on : (outcome : Outcome C S) (node2 : NodeView C S) (dial2 : NextDial C) (links2 : List (C × Held)) (actions2 : List (Action C)) →
      ((dials : Bool) → IsAsDialer dials outcome) → IsSoughtFor cmp p t outcome dial dial2 → (f : Found came.Served) →
      ((owed : ℕ) (l : PayloadConfig) (j : Judge C S) (shares : Shares C S) → is_greeting_frame frame ≡ false → is_unasked owed frame ≡ false →
      ComesOf cmp wire l j shares frame wall outcome → ComesNext cmp wire l j shares owed frame wall outcome) →
      IsServed cmp wire frame wall outcome node → owed ≡ owed_after f.held.phase outcome pace.owed f.held.owed →
      AtEach cmp node (λ m calls. IsDone wire m pace.refresh f.held.asked calls p t outcome) → MakesFor cmp p t outcome node node2 →
      ((j : ℕ) (place : Option ℕ) → read_by j place (Happening.Heard n p t owed (OfFrame frame wall) outcome) ≡ []) →
      Follows cmp n p t owed outcome links links2 actions actions2 → IfSome (said_as t outcome) (λ at. has_room pace.queue f.held ≡ true) →
      Does cmp wire (Happening.Heard n p t owed (OfFrame frame wall) outcome) stood (left node2 dial2 links2 actions2)
  serves_on outcome node2 dial2 links2 actions2 dials sought f next_is served owes done made unread follows room =
      let is = served_open cmp wire stood.node p f.held frame wall f.none f.is_seen in
      hears cmp wire node pace greeting cooldown dial latest next arrivals answers reads links actions n p f.held t owed
      (OfFrame frame wall) outcome node2 dial2 links2 actions2 (dials (is_dialer f.held)) sought f.linked f.number after
      (served_out cmp wire stood.node p f.held frame wall f.none outcome is.0 (λ l j shares comes. next_is f.held.owed l j shares is.1 is.2 comes)
      (bare cmp node (λ m calls. let x = standing_in m wire (world_after m.directory calls) in
      ComesOf cmp wire x.limits x.judge x.infos frame wall outcome) served)) (λ given pace2 h at. f.expected) owes done made unread follows room

-- a link that changed, and then changed once more
pub changed_twice : (b : Bool) (f g : Held → Held) (o o1 o2 : Option Held) → o1 ≡ (if b then option_map f o else o) →
    o2 ≡ (if b then option_map g o1 else o1) → o2 ≡ (if b then option_map (λ h. g (f h)) o else o)
changed_twice true f g None o1 o2 first second = second ∙ ap (option_map g) first
changed_twice true f g (Some h) o1 o2 first second = second ∙ ap (option_map g) first
changed_twice false f g o o1 o2 first second = second ∙ first

-- a link on which another frame may be said
pub room_on : {A C : Type 0} (cmp : C → C → Ordering) (queue : ℕ) (p : C) (links : List (C × Held)) (held : Held) → link_of cmp links p ≡ Some held →
    (o : Option A) → IfSome o (λ a. has_room_at queue (link_of cmp links p) ≡ true) → IfSome o (λ a. has_room queue held ≡ true)
room_on cmp queue p links held linked None room = tt
room_on cmp queue p links held linked (Some a) room = sym (ap (has_room_at queue) linked) ∙ room

-- WHAT IS RETURNED
module _ {C S : Type 0} (cmp : C → C → Ordering) (wire : Wire C S) {v w v2 : DriverView C S} (same : v ≡ w) where
  -- such an outcome came of it
  pub heard_of : (n : ℕ) (p : C) (t : Duration) (owed now : ℕ) (cause : Cause) (outcome : Outcome C S) (Is : Outcome C S → Type 0) →
      as_nanos t ≡ max v.latest now → Is outcome → Does cmp wire (Happening.Heard n p t owed cause outcome) v v2 →
      HearsOf cmp wire n cause now Is w v2
  heard_of n p t owed now cause outcome Is in_time is does = subst (λ x. HearsOf cmp wire n cause now Is x v2) same
      (p, owed, outcome, is, (t, in_time, does))
