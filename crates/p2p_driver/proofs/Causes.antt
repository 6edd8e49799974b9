-- What came on a link decides what comes of it; and for what the node blocks a peer.
use Rattle.std.proofs.Common.{◌≡◌, ◌==◌, ℕ, zero, suc, ◌<◌, Bool, true, false, ◌&&◌, ◌⊎◌, inl, inr, List, [], ◌∷◌, Option, Some, None, refl, sym, ◌∙◌, ap, subst}
use Rattle.std.proofs.Common.{arith}
use Rattle.std.specs.Prelude.{if◌then◌else◌, length, Result, Ok, Err, nat_lt}
use Rattle.std.specs.List.{Contains}
use Rattle.std.specs.Option.{IsSomeAnd}
use Rattle.std.specs.BTreeMap.{is_at}
use Rattle.std.specs.Duration.{as_nanos}
use Rattle.std.specs.declared.cmp.Ordering.{Ordering}
use Rattle.std.specs.declared.time.Duration.{Duration}
use Rattle.std.proofs.lemmas.Bool.Decides.{nat_tests}
use Rattle.std.proofs.lemmas.List.Elements.{Contains-append_right, Contains-append_cases}
use Rattle.p2p_discovery.specs.declared.codec.error.CodecError.{CodecError}
use Rattle.p2p_discovery.specs.declared.discovery.Error.{Error}
use Rattle.p2p_discovery.specs.declared.discovery.Error.TheVariants.{TooManyPeers}
use Rattle.p2p_discovery.specs.declared.discovery.Info.{Info}
use Rattle.p2p_discovery.specs.declared.discovery.Payload.{Payload}
use Rattle.p2p_discovery.specs.declared.discovery.Payload.TheVariants as payload
use Rattle.p2p_discovery.specs.declared.discovery.PayloadConfig.{PayloadConfig}
use Rattle.p2p_discovery.specs.Judgement.{Judge, to_verify, judged_before, list_refusal_by}
use Rattle.p2p_tracker.specs.Calls.{Call}
use Rattle.p2p_tracker.specs.Calls.Call.{Track, Dial, Listen, Connect, Release, Update, Block, UnblockExpired, ForgetCooled}
use Rattle.p2p_directory.specs.Received.{Wire, Standing}
use Rattle.p2p_driver.specs.declared.actions.Breach.TheVariants as breach
use Rattle.p2p_driver.specs.declared.links.Held.{Held}
use Rattle.p2p_driver.specs.declared.links.Phase.{Phase}
use Rattle.p2p_driver.specs.declared.links.Phase.TheVariants as phase
use Rattle.p2p_driver.specs.declared.links.Waiting.{Waiting}
use Rattle.p2p_driver.specs.Drivers.{Base, IsRight, IsHeard, link, standing}
use Rattle.p2p_driver.specs.Frames.{Cause, Outcome, Shares, IsRefused, IsAsDialer, IsOutcome, ComesFirst, ComesNext, ComesOf, ComesOfVerdicts, Spells, read, refusal_of, begins_with, is_early, is_greeting_frame, is_unasked}
use Rattle.p2p_driver.specs.Happenings.{Happening, calls_of, calls_by}
use Rattle.p2p_driver.specs.Laws.{bare, is_head, Blames}
use Rattle.p2p_driver.specs.Links.{is_dialer}
use Rattle.p2p_driver.proofs.Beginnings.{Begins}

-- so many infos and signatures wait in a frame that came then
abbrev waiting_at : List ℕ → Duration → ℕ → ℕ → Waiting
waiting_at frame wall infos count = record { frame = frame; wall = wall; infos = infos; count = count }

waiting_is : (w : Waiting) (frame : List ℕ) (wall : Duration) (infos count : ℕ) → w.frame ≡ frame → w.wall ≡ wall →
    w.infos ≡ infos → w.count ≡ count → w ≡ waiting_at frame wall infos count
waiting_is w frame wall infos count a b c d = ap (λ f. waiting_at f w.wall w.infos w.count) a ∙ ap (λ t. waiting_at frame t w.infos w.count) b
    ∙ ap (λ n. waiting_at frame wall n w.count) c ∙ ap (waiting_at frame wall infos) d

two_ways : (frame : List ℕ) → begins_with 1 frame ≡ true → begins_with 3 frame ≡ true → ⊥
two_ways [] one other = absurd cc
two_ways (x ∷ rest) one other = grind (arith, nat_tests)

-- a frame of which nothing was asked is no greeting
unasked_isnt : (owed : ℕ) (frame : List ℕ) → is_unasked owed frame ≡ true → is_greeting_frame frame ≡ false
unasked_isnt owed frame is = go (is_greeting_frame frame) refl
  where
    list : (x y z : Bool) → (x && (y && z)) ≡ true → y ≡ true
    list true true z is = refl
    list true false z is = absurd cc
    list false y z is = absurd cc

    go : (x : Bool) → is_greeting_frame frame ≡ x → x ≡ false
    go true at = absurd (two_ways frame at (list (owed == 0) (begins_with 3 frame) _ is))
    go false at = refl

module _ {C S : Type 0} where
  -- WHAT COMES OF IT, but for what may lack memory

  abbrev refused : Outcome C S → Option Error → Outcome C S
  refused else_so None = else_so
  refused else_so (Some e) = if is_early e then Outcome.IsEarly else Outcome.Breaks (breach.Invalid e) None

  -- what a refusal does
  refusal_does : (x y : Outcome C S) (r : Option Error) → IsRefused x r → bare x ≡ refused y r
  refusal_does (Outcome.Breaks (breach.Invalid e) blocked) y r is =
      ap (λ b. if b then Outcome.IsEarly else Outcome.Breaks (breach.Invalid e) None) (sym is.1)
      ∙ ap (refused y) (sym is.0)
  refusal_does (Outcome.Breaks breach.NoGreeting blocked) y r is = absurd is
  refusal_does (Outcome.Breaks breach.OtherGreeting blocked) y r is = absurd is
  refusal_does (Outcome.Breaks breach.SecondGreeting blocked) y r is = absurd is
  refusal_does (Outcome.Breaks breach.FrameLength blocked) y r is = absurd is
  refusal_does (Outcome.Breaks (breach.Codec fault) blocked) y r is = absurd is
  refusal_does (Outcome.Breaks breach.Malformed blocked) y r is = absurd is
  refusal_does Outcome.IsEarly y None is = absurd is
  refusal_does Outcome.IsEarly y (Some e) is =
      ap (λ b. if b then Outcome.IsEarly else Outcome.Breaks (breach.Invalid e) None) (sym is)
  refusal_does (Outcome.Waits w) y r is = absurd is
  refusal_does (Outcome.Greets dialer info question) y r is = absurd is
  refusal_does (Outcome.Takes infos) y r is = absurd is
  refusal_does (Outcome.Answers reply) y r is = absurd is
  refusal_does (Outcome.Delivers message) y r is = absurd is
  refusal_does Outcome.Ignores y r is = absurd is
  refusal_does Outcome.LacksChannel y r is = absurd is
  refusal_does (Outcome.Delays next) y r is = absurd is
  refusal_does (Outcome.Reads kind looked) y r is = absurd is

  module _ (cmp : C → C → Ordering) (wire : Wire C S) (reading : Begins wire) (limits : PayloadConfig) (judge : Judge C S) where
    -- .. of the first frame
    abbrev first_payload : C → List ℕ → Duration → Payload C S → Outcome C S
    first_payload p frame wall (payload.Greeting info) =
        if is_at (cmp p) info.public_key then Outcome.Waits (waiting_at frame wall 1 1) else Outcome.Breaks breach.OtherGreeting None
    first_payload p frame wall q = Outcome.IsEarly

    abbrev first_read : C → List ℕ → Duration → Result (Payload C S × List ℕ) CodecError → Outcome C S
    first_read p frame wall (Err fault) = Outcome.Breaks (breach.Codec fault) None
    first_read p frame wall (Ok x) = first_payload p frame wall x.0

    abbrev first_by : C → List ℕ → Duration → Outcome C S
    first_by p frame wall = if is_greeting_frame frame then first_read p frame wall (read wire limits frame)
        else Outcome.Breaks breach.NoGreeting None

    -- .. of one that begins as a greeting
    greeting_by : (p : C) (frame : List ℕ) (wall : Duration) (o : Result (Payload C S × List ℕ) CodecError) →
        is_greeting_frame frame ≡ true → read wire limits frame ≡ o → first_read p frame wall o ≡ first_by p frame wall
    greeting_by p frame wall o greets is = ap (first_read p frame wall) (sym is)
        ∙ ap (λ b. if b then first_read p frame wall (read wire limits frame) else Outcome.Breaks breach.NoGreeting None) (sym greets)

    first_is : (p : C) (frame : List ℕ) (wall : Duration) (x : Outcome C S) → ComesFirst cmp wire limits judge p frame wall x →
        bare x ≡ first_by p frame wall
    first_is p frame wall (Outcome.Breaks breach.NoGreeting blocked) comes =
        ap (λ b. if b then first_read p frame wall (read wire limits frame) else Outcome.Breaks breach.NoGreeting None) (sym comes)
    first_is p frame wall (Outcome.Breaks (breach.Codec fault) blocked) comes = greeting_by p frame wall (Err fault) comes.0 comes.1
    first_is p frame wall (Outcome.Breaks breach.OtherGreeting blocked) comes =
        ap (λ b. if b then Outcome.Waits (waiting_at frame wall 1 1) else Outcome.Breaks breach.OtherGreeting None) (sym comes.2)
        ∙ greeting_by p frame wall (Ok (payload.Greeting comes.0, [])) (reading.prefixed limits frame (payload.Greeting comes.0) comes.1) comes.1
    first_is p frame wall (Outcome.Breaks breach.SecondGreeting blocked) comes = absurd comes
    first_is p frame wall (Outcome.Breaks breach.Malformed blocked) comes = absurd comes
    first_is p frame wall (Outcome.Breaks breach.FrameLength blocked) comes = absurd comes
    first_is p frame wall (Outcome.Breaks (breach.Invalid e) blocked) comes = absurd comes
    first_is p frame wall (Outcome.Waits w) comes = let may = comes.1 in
        let spells = subst (λ f. Spells wire limits f (payload.Greeting may.0)) comes.0.0 may.1 in
        ap Outcome.Waits (waiting_is w frame wall 1 1 comes.0.0 comes.0.1 may.3 may.4)
        ∙ ap (λ b. if b then Outcome.Waits (waiting_at frame wall 1 1) else Outcome.Breaks breach.OtherGreeting None) (sym may.2)
        ∙ greeting_by p frame wall (Ok (payload.Greeting may.0, [])) (reading.prefixed limits frame (payload.Greeting may.0) spells) spells
    first_is p frame wall (Outcome.Greets dialer info question) comes = absurd comes
    first_is p frame wall (Outcome.Takes infos) comes = absurd comes
    first_is p frame wall (Outcome.Answers reply) comes = absurd comes
    first_is p frame wall (Outcome.Delivers message) comes = absurd comes
    first_is p frame wall Outcome.Ignores comes = absurd comes
    first_is p frame wall Outcome.IsEarly comes = absurd comes
    first_is p frame wall Outcome.LacksChannel comes = absurd comes
    first_is p frame wall (Outcome.Delays next) comes = absurd comes
    first_is p frame wall (Outcome.Reads kind looked) comes = absurd comes

    -- .. of a later one
    module _ (shares : Shares C S) (frame : List ℕ) (wall : Duration) where
      abbrev of_shares : Option (List (Info C S)) → Outcome C S
      of_shares None = Outcome.Breaks breach.Malformed None
      of_shares (Some infos) = Outcome.Answers (wire.spelling (payload.Peers infos))

      abbrev of_list : List (Info C S) → List (Info C S) → Outcome C S
      of_list infos [] = refused (Outcome.Takes infos) (list_refusal_by judge [] (as_nanos wall) infos)
      of_list infos (i ∷ is) = Outcome.Waits (waiting_at frame wall (length infos) (length (i ∷ is)))

      abbrev of_payload : Payload C S → Outcome C S
      of_payload (payload.Data message) = Outcome.Delivers message
      of_payload (payload.BitVec bits) = of_shares (shares bits.index bits.bits (as_nanos wall))
      of_payload (payload.Peers infos) = of_list infos (to_verify judge (as_nanos wall) infos)
      of_payload (payload.Greeting info) = Outcome.IsEarly

      abbrev of_read : Result (Payload C S × List ℕ) CodecError → Outcome C S
      of_read (Err fault) = Outcome.Breaks (breach.Codec fault) None
      of_read (Ok x) = of_payload x.0

      -- nothing of the empty list is verified, or refused
      none_verified : to_verify judge (as_nanos wall) [] ≡ []
      none_verified = go (nat_lt judge.greatest_count 0)
        where
          go : (many : Bool) → (if many then [] else judged_before judge (as_nanos wall) []) ≡ []
          go true = refl
          go false = refl

      none_refused : list_refusal_by judge [] (as_nanos wall) [] ≡ None
      none_refused = go (nat_lt judge.greatest_count 0) (few judge.greatest_count)
        where
          few : (n : ℕ) → nat_lt n 0 ≡ false
          few n = grind (arith, nat_tests)

          go : (many : Bool) → many ≡ false → (if many then Some (TooManyPeers 0) else None) ≡ None
          go true is = absurd cc
          go false is = refl

      verified_by : (infos verified : List (Info C S)) (w : Waiting) → w.frame ≡ frame → w.wall ≡ wall → w.infos ≡ length infos →
          w.count ≡ length verified → 0 < w.count → Outcome.Waits w ≡ of_list infos verified
      verified_by infos [] w f t n c some = absurd (nothing c some)
        where
          nothing : w.count ≡ 0 → 0 < w.count → ⊥
          nothing c some = omega (arith, c, some)
      verified_by infos (i ∷ is) w f t n c some = ap Outcome.Waits (waiting_is w frame wall (length infos) (length (i ∷ is)) f t n c)

      refused_by : (infos : List (Info C S)) (x : Outcome C S) → to_verify judge (as_nanos wall) infos ≡ [] →
          IsRefused x (list_refusal_by judge [] (as_nanos wall) infos) → bare x ≡ of_list infos (to_verify judge (as_nanos wall) infos)
      refused_by infos x none is = refusal_does x (Outcome.Takes infos) (list_refusal_by judge [] (as_nanos wall) infos) is
          ∙ ap (of_list infos) (sym none)

      of_is : (x : Outcome C S) → ComesOf cmp wire limits judge shares frame wall x → bare x ≡ of_read (read wire limits frame)
      of_is (Outcome.Breaks (breach.Codec fault) blocked) comes = ap of_read (sym comes)
      of_is (Outcome.Delivers message) comes = ap of_read (sym comes)
      of_is (Outcome.Answers reply) comes = ap Outcome.Answers comes.4 ∙ ap of_shares (sym comes.3) ∙ ap of_read (sym comes.2)
      of_is (Outcome.Breaks breach.Malformed blocked) comes = ap of_shares (sym comes.2) ∙ ap of_read (sym comes.1)
      of_is (Outcome.Takes infos) comes = ap Outcome.Takes comes.0 ∙ ap (refused (Outcome.Takes [])) (sym none_refused)
          ∙ ap (of_list []) (sym none_verified) ∙ ap (λ is. of_list is (to_verify judge (as_nanos wall) is)) (sym comes.0)
          ∙ ap of_read (sym comes.1)
      of_is (Outcome.Waits w) comes = let may = comes.1 in
          verified_by may.0 (to_verify judge (as_nanos wall) may.0) w comes.0.0 comes.0.1 may.2
          (may.3 ∙ ap (λ t. length (to_verify judge (as_nanos t) may.0)) comes.0.1) may.4
          ∙ ap of_read (sym (subst (λ f. Spells wire limits f (payload.Peers may.0)) comes.0.0 may.1))
      of_is (Outcome.Breaks (breach.Invalid e) blocked) comes =
          refused_by comes.0 (Outcome.Breaks (breach.Invalid e) blocked) comes.2 comes.3 ∙ ap of_read (sym comes.1)
      of_is Outcome.IsEarly comes = refused_by comes.0 Outcome.IsEarly comes.2 comes.3 ∙ ap of_read (sym comes.1)
      of_is (Outcome.Breaks breach.NoGreeting blocked) comes = absurd comes.3
      of_is (Outcome.Breaks breach.OtherGreeting blocked) comes = absurd comes.3
      of_is (Outcome.Breaks breach.SecondGreeting blocked) comes = absurd comes.3
      of_is (Outcome.Greets dialer info question) comes = absurd comes.3
      of_is Outcome.Ignores comes = absurd comes.3
      of_is (Outcome.Breaks breach.FrameLength blocked) comes = absurd comes.3
      of_is Outcome.LacksChannel comes = absurd comes.3
      of_is (Outcome.Delays next) comes = absurd comes.3
      of_is (Outcome.Reads kind looked) comes = absurd comes.3

      abbrev next_by : ℕ → Outcome C S
      next_by owed = if is_greeting_frame frame then Outcome.Breaks breach.SecondGreeting None
          else if is_unasked owed frame then Outcome.Ignores else of_read (read wire limits frame)

      neither : (owed : ℕ) (x : Outcome C S) → is_greeting_frame frame ≡ false → is_unasked owed frame ≡ false →
          ComesOf cmp wire limits judge shares frame wall x → bare x ≡ next_by owed
      neither owed x greets unasked comes = of_is x comes
          ∙ ap (λ b. if b then Outcome.Ignores else of_read (read wire limits frame)) (sym unasked)
          ∙ ap (λ b. if b then Outcome.Breaks breach.SecondGreeting None
          else if is_unasked owed frame then Outcome.Ignores else of_read (read wire limits frame)) (sym greets)

      next_is : (owed : ℕ) (x : Outcome C S) → ComesNext cmp wire limits judge shares owed frame wall x → bare x ≡ next_by owed
      next_is owed (Outcome.Breaks breach.SecondGreeting blocked) comes =
          ap (λ b. if b then Outcome.Breaks breach.SecondGreeting None
          else if is_unasked owed frame then Outcome.Ignores else of_read (read wire limits frame)) (sym comes)
      next_is owed Outcome.Ignores comes =
          ap (λ b. if b then Outcome.Ignores else of_read (read wire limits frame)) (sym comes)
          ∙ ap (λ b. if b then Outcome.Breaks breach.SecondGreeting None
          else if is_unasked owed frame then Outcome.Ignores else of_read (read wire limits frame)) (sym (unasked_isnt owed frame comes))
      next_is owed (Outcome.Breaks breach.NoGreeting blocked) comes = neither owed (Outcome.Breaks breach.NoGreeting blocked) comes.0 comes.1 comes.2
      next_is owed (Outcome.Breaks breach.OtherGreeting blocked) comes = neither owed (Outcome.Breaks breach.OtherGreeting blocked) comes.0 comes.1 comes.2
      next_is owed (Outcome.Breaks (breach.Codec fault) blocked) comes = neither owed (Outcome.Breaks (breach.Codec fault) blocked) comes.0 comes.1 comes.2
      next_is owed (Outcome.Breaks breach.Malformed blocked) comes = neither owed (Outcome.Breaks breach.Malformed blocked) comes.0 comes.1 comes.2
      next_is owed (Outcome.Breaks (breach.Invalid e) blocked) comes = neither owed (Outcome.Breaks (breach.Invalid e) blocked) comes.0 comes.1 comes.2
      next_is owed (Outcome.Waits w) comes = neither owed (Outcome.Waits w) comes.0 comes.1 comes.2
      next_is owed (Outcome.Greets dialer info question) comes = neither owed (Outcome.Greets dialer info question) comes.0 comes.1 comes.2
      next_is owed (Outcome.Takes infos) comes = neither owed (Outcome.Takes infos) comes.0 comes.1 comes.2
      next_is owed (Outcome.Answers reply) comes = neither owed (Outcome.Answers reply) comes.0 comes.1 comes.2
      next_is owed (Outcome.Delivers message) comes = neither owed (Outcome.Delivers message) comes.0 comes.1 comes.2
      next_is owed Outcome.IsEarly comes = neither owed Outcome.IsEarly comes.0 comes.1 comes.2
      next_is owed (Outcome.Breaks breach.FrameLength blocked) comes = neither owed (Outcome.Breaks breach.FrameLength blocked) comes.0 comes.1 comes.2
      next_is owed Outcome.LacksChannel comes = neither owed Outcome.LacksChannel comes.0 comes.1 comes.2
      next_is owed (Outcome.Delays next) comes = neither owed (Outcome.Delays next) comes.0 comes.1 comes.2
      next_is owed (Outcome.Reads kind looked) comes = neither owed (Outcome.Reads kind looked) comes.0 comes.1 comes.2

    -- .. of verdicts
    module _ (dialer : Bool) (w : Waiting) (verdicts : List Bool) where
      abbrev passes : Payload C S → Outcome C S
      passes (payload.Greeting info) = Outcome.Greets dialer info None
      passes (payload.Peers infos) = Outcome.Takes infos
      passes p = Outcome.IsEarly

      abbrev judged_as : Payload C S → Outcome C S
      judged_as p = refused (passes p) (refusal_of cmp wire limits judge verdicts (as_nanos w.wall) p)

      abbrev judged_read : Result (Payload C S × List ℕ) CodecError → Outcome C S
      judged_read (Err fault) = Outcome.IsEarly
      judged_read (Ok x) = judged_as x.0

      refused_as : (x : Outcome C S) (p : Payload C S) → Spells wire limits w.frame p →
          IsRefused x (refusal_of cmp wire limits judge verdicts (as_nanos w.wall) p) → bare x ≡ judged_read (read wire limits w.frame)
      refused_as x p spells is = refusal_does x (passes p) (refusal_of cmp wire limits judge verdicts (as_nanos w.wall) p) is ∙ ap judged_read (sym spells)

      verdicts_is : (x : Outcome C S) → IsAsDialer dialer x → ComesOfVerdicts cmp wire limits judge w verdicts x →
          bare x ≡ judged_read (read wire limits w.frame)
      verdicts_is (Outcome.Greets other info question) dials comes = ap (λ b. Outcome.Greets b info None) dials
          ∙ ap (refused (Outcome.Greets dialer info None)) (sym comes.1) ∙ ap judged_read (sym comes.0)
      verdicts_is (Outcome.Takes infos) dials comes = ap (refused (Outcome.Takes infos)) (sym comes.1) ∙ ap judged_read (sym comes.0)
      verdicts_is (Outcome.Breaks breach blocked) dials comes = refused_as (Outcome.Breaks breach blocked) comes.0 comes.1 comes.2
      verdicts_is Outcome.IsEarly dials comes = refused_as Outcome.IsEarly comes.0 comes.1 comes.2
      verdicts_is (Outcome.Waits v) dials comes = absurd comes.2
      verdicts_is (Outcome.Answers reply) dials comes = absurd comes.2
      verdicts_is (Outcome.Delivers message) dials comes = absurd comes.2
      verdicts_is Outcome.Ignores dials comes = absurd comes.2
      verdicts_is Outcome.LacksChannel dials comes = absurd comes.2
      verdicts_is (Outcome.Delays next) dials comes = absurd comes.2
      verdicts_is (Outcome.Reads kind looked) dials comes = absurd comes.2

  -- ONE CAUSE, ONE OUTCOME
  module _ (cmp : C → C → Ordering) (wire : Wire C S) (reading : Begins wire) (node : Standing C S) where
    one_outcome : (dialer : Bool) (ph : Phase) (owed : ℕ) (waiting : Option Waiting) (p : C) (c : Cause) (x y : Outcome C S) →
        is_head c ≡ false → IsAsDialer dialer x → IsAsDialer dialer y → IsOutcome cmp wire node ph owed waiting p c x → IsOutcome cmp wire node ph owed waiting p c y → bare x ≡ bare y
    one_outcome dialer phase.Greeting owed None p (Cause.OfFrame frame wall) x y isnt dials dials_too one other =
        first_is cmp wire reading node.limits node.judge p frame wall x one
        ∙ sym (first_is cmp wire reading node.limits node.judge p frame wall y other)
    one_outcome dialer phase.Greeting owed None p (Cause.OfVerdicts verdicts) x y isnt dials dials_too one other = absurd one
    one_outcome dialer phase.Greeting owed (Some w) p (Cause.OfFrame frame wall) x y isnt dials dials_too one other = absurd one
    one_outcome dialer phase.Greeting owed (Some w) p (Cause.OfVerdicts verdicts) x y isnt dials dials_too one other =
        verdicts_is cmp wire reading node.limits node.judge dialer w verdicts x dials one.1
        ∙ sym (verdicts_is cmp wire reading node.limits node.judge dialer w verdicts y dials_too other.1)
    one_outcome dialer phase.Open owed None p (Cause.OfFrame frame wall) x y isnt dials dials_too one other =
        next_is cmp wire reading node.limits node.judge node.infos frame wall owed x one
        ∙ sym (next_is cmp wire reading node.limits node.judge node.infos frame wall owed y other)
    one_outcome dialer phase.Open owed None p (Cause.OfVerdicts verdicts) x y isnt dials dials_too one other = absurd one
    one_outcome dialer phase.Open owed (Some w) p (Cause.OfFrame frame wall) x y isnt dials dials_too one other = absurd one
    one_outcome dialer phase.Open owed (Some w) p (Cause.OfVerdicts verdicts) x y isnt dials dials_too one other =
        verdicts_is cmp wire reading node.limits node.judge dialer w verdicts x dials one.1
        ∙ sym (verdicts_is cmp wire reading node.limits node.judge dialer w verdicts y dials_too other.1)
    one_outcome dialer phase.Greeting owed None p (Cause.OfHead longest head size) x y isnt dials dials_too one other = absurd cc
    one_outcome dialer phase.Greeting owed (Some w) p (Cause.OfHead longest head size) x y isnt dials dials_too one other = absurd one
    one_outcome dialer phase.Open owed None p (Cause.OfHead longest head size) x y isnt dials dials_too one other = absurd cc
    one_outcome dialer phase.Open owed (Some w) p (Cause.OfHead longest head size) x y isnt dials dials_too one other = absurd one
    one_outcome dialer phase.Closing owed waiting p c x y isnt dials dials_too one other = absurd one

  pub one_cause : (b : Base C S) → Begins b.wire → (h : List (Happening C S)) (n m : ℕ) (p : C) (t u : Duration) (owed other : ℕ)
      (c : Cause) (x y : Outcome C S) → is_head c ≡ false → IsRight b h (Happening.Heard n p t owed c x) →
      IsRight b h (Happening.Heard m p u other c y) → bare x ≡ bare y
  one_cause b reading h n m p t u owed other c x y isnt one two = go (link b p h) one two
    where
      go : (o : Option Held) → IsSomeAnd o (IsHeard b h n p t owed c x) → IsSomeAnd o (IsHeard b h m p u other c y) → bare x ≡ bare y
      go None one two = absurd one
      go (Some held) one two = one_outcome b.made.directory.cmp b.wire reading (standing b (calls_of h)) (is_dialer held) held.phase held.owed held.waiting p c x y
          isnt one.dials two.dials one.comes two.comes

  -- FOR WHAT A PEER IS BLOCKED

  abbrev Is : Call C S → Call C S → Type 0
  Is a b = a ≡ b

  nothing_in : (c : Call C S) → ¬ (Contains [] c)
  nothing_in c is = let less = is.1 in omega (arith, less)

  only_one : (c other : Call C S) → Contains (other ∷ []) c → Is other c
  only_one c other (zero, less, is) = is
  only_one c other (suc n, less, is) = absurd (above n less)
    where
      above : (n : ℕ) → suc n < 1 → ⊥
      above n less = omega (arith, less)

  same_block : (q p : C) (t now : ℕ) → Is (Block q t) (Block p now) → (q ≡ p) × (t ≡ now)
  same_block q p t now is = (cc, cc)

  module _ (p : C) (now : ℕ) where
    abbrev call : Call C S
    call = Block p now

    -- one of two calls that are no block
    of_two : (a b : Call C S) → ¬ (Is a call) → ¬ (Is b call) → ¬ (Contains (a ∷ b ∷ []) call)
    of_two a b one other is = go (Contains-append_cases (a ∷ []) (b ∷ []) call is)
      where
        go : Contains (a ∷ []) call ⊎ Contains (b ∷ []) call → ⊥
        go (inl is) = one (only_one call a is)
        go (inr is) = other (only_one call b is)

    heard_calls : (n : ℕ) (q : C) (t : Duration) (owed : ℕ) (c : Cause) (x : Outcome C S) →
        Contains (calls_by (Happening.Heard n q t owed c x)) call → Blames p now (Happening.Heard n q t owed c x)
    heard_calls n q t owed c (Outcome.Waits w) is = absurd (nothing_in call is)
    heard_calls n q t owed c (Outcome.Greets dialer info question) is =
        absurd (of_two (Connect q dialer) (Update (info ∷ [])) (λ is. cc) (λ is. cc) is)
    heard_calls n q t owed c (Outcome.Takes infos) is = absurd (not_update infos (only_one call (Update infos) is))
      where
        not_update : (infos : List (Info C S)) → ¬ (Is (Update infos) call)
        not_update infos is = cc
    heard_calls n q t owed c (Outcome.Answers reply) is = absurd (nothing_in call is)
    heard_calls n q t owed c (Outcome.Delivers message) is = absurd (nothing_in call is)
    heard_calls n q t owed c Outcome.Ignores is = absurd (nothing_in call is)
    heard_calls n q t owed c (Outcome.Breaks breach None) is = absurd (nothing_in call is)
    heard_calls n q t owed c (Outcome.Breaks breach (Some taken)) is =
        same_block q p (as_nanos t) now (only_one call (Block q (as_nanos t)) is)
    heard_calls n q t owed c Outcome.IsEarly is = absurd (nothing_in call is)
    heard_calls n q t owed c Outcome.LacksChannel is = absurd (nothing_in call is)
    heard_calls n q t owed c (Outcome.Delays next) is = absurd (nothing_in call is)
    heard_calls n q t owed c (Outcome.Reads kind looked) is = absurd (nothing_in call is)

    not_this : (a : Call C S) → ¬ (Is a call) → ¬ (Contains (a ∷ []) call)
    not_this a isnt is = isnt (only_one call a is)

    call_by : (e : Happening C S) → Contains (calls_by e) call → Blames p now e
    call_by (Happening.Proved n q t draw) is = absurd (not_this (Listen q (as_nanos t) (as_nanos draw)) (λ is. cc) is)
    call_by (Happening.Dialed n q t draw word ingress) is = absurd (not_this (Dial q (as_nanos t) (as_nanos draw)) (λ is. cc) is)
    call_by (Happening.Ended n q t direction) is = absurd (not_this (Release q) (λ is. cc) is)
    call_by (Happening.Released q t) is = absurd (not_this (Release q) (λ is. cc) is)
    call_by (Happening.SetCame t index primary secondary torn) is =
        absurd (not_this (Track index primary secondary) (λ is. cc) is)
    call_by (Happening.StaleSetCame index primary secondary) is =
        absurd (not_this (Track index primary secondary) (λ is. cc) is)
    call_by (Happening.Heard n q t owed c x) is = heard_calls n q t owed c x is
    call_by (Happening.Given infos t) is = absurd (not_this (Update infos) (λ is. cc) is)
    call_by (Happening.Barred q t taken) is = same_block q p (as_nanos t) now (only_one call (Block q (as_nanos t)) is)
    call_by (Happening.Passed t) is =
        absurd (of_two (UnblockExpired (as_nanos t)) (ForgetCooled (as_nanos t)) (λ is. cc) (λ is. cc) is)
    call_by e is = absurd (nothing_in call is)

    pub blames : (h : List (Happening C S)) → Contains (calls_of h) call →
        (e : Happening C S) × Contains h e × Blames p now e
    blames [] is = absurd (nothing_in call is)
    blames (e ∷ h) is = go (blames h) (Contains-append_cases (calls_by e) (calls_of h) call is)
      where
        go : (Contains (calls_of h) call → (x : Happening C S) × Contains h x × Blames p now x) →
            Contains (calls_by e) call ⊎ Contains (calls_of h) call → (x : Happening C S) × Contains (e ∷ h) x × Blames p now x
        go before (inl is) = (e, (zero, omega arith, refl), call_by e is)
        go before (inr is) = let found = before is in (found.0, Contains-append_right (e ∷ []) h found.0 found.1, found.2)
