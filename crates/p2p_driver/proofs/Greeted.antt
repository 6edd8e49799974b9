-- A peer is served only once it has greeted on its link, with an info of its own key.
use Rattle.std.proofs.Common.{◌≡◌, ℕ, zero, Bool, true, false, ◌||◌, ◌&&◌, List, [], ◌∷◌, Option, Some, None, refl, sym, ◌∙◌, ap, subst}
use Rattle.std.proofs.Common.{arith}
use Rattle.std.specs.Prelude.{if◌then◌else◌, Result, Ok, Err}
use Rattle.std.specs.List.{Contains, list_any}
use Rattle.std.specs.Option.{IsSomeAnd}
use Rattle.std.specs.declared.time.Duration.{Duration}
use Rattle.std.proofs.lemmas.List.Elements.{Contains-append_right}
use Rattle.std.proofs.lemmas.Map.Views.{tells_apart}
use Rattle.std.proofs.lemmas.Map.Lookups.{CmpEqualImpliesEq}
use Rattle.p2p_discovery.specs.declared.codec.error.CodecError.{CodecError}
use Rattle.p2p_discovery.specs.declared.data.Data.{Data}
use Rattle.p2p_discovery.specs.declared.discovery.Info.{Info}
use Rattle.p2p_discovery.specs.declared.discovery.Payload.{Payload}
use Rattle.p2p_discovery.specs.declared.discovery.Payload.TheVariants as payload
use Rattle.p2p_tracker.specs.Calls.{Settings, Call}
use Rattle.p2p_tracker.specs.History.{same, last_with, found_with}
use Rattle.p2p_driver.specs.declared.links.Direction.{Direction}
use Rattle.p2p_driver.specs.declared.links.Held.{Held}
use Rattle.p2p_driver.specs.declared.links.Phase.{Phase}
use Rattle.p2p_driver.specs.declared.links.Phase.TheVariants as phase
use Rattle.p2p_driver.specs.declared.links.Waiting.{Waiting}
use Rattle.p2p_driver.specs.declared.questions.Question.{Question}
use Rattle.p2p_driver.specs.Frames.{Cause, Outcome, IsWaiting, IsOutcome}
use Rattle.p2p_driver.specs.Happenings.{Happening, calls_of, link_since, opened_by, ends_by, closes_by, greets_by, kept_of, is_greeted}
use Rattle.p2p_driver.specs.Drivers.{Base, AreRight, IsRight, IsHeard, link, standing}
use Rattle.p2p_driver.specs.Laws.{since_of, since_began, IsGreetingOf, HasGreeted, is_served}
use Rattle.p2p_driver.proofs.LinkHistory.{of_open}
use Rattle.p2p_driver.proofs.Waiting.{what_waits}

no_link : (held : Held) → ¬ (None ≡ Some held)
no_link held is = cc

some_is : {A : Type 0} {x y : A} → Some x ≡ Some y → x ≡ y
some_is e = cc

differ : ¬ (true ≡ false)
differ is = cc

-- the info of a greeting
abbrev greeting_of : {C S : Type 0} → Info C S → Payload C S → Info C S
greeting_of other (payload.Greeting info) = info
greeting_of other p = other

abbrev info_of : {C S : Type 0} → Info C S → Result (Payload C S × List ℕ) CodecError → Info C S
info_of other (Ok read) = greeting_of other read.0
info_of other (Err fault) = other

abbrev is_greeting : {C S : Type 0} → Payload C S → Bool
is_greeting (payload.Greeting info) = true
is_greeting p = false

abbrev reads_greeting : {C S : Type 0} → Result (Payload C S × List ℕ) CodecError → Bool
reads_greeting (Ok read) = is_greeting read.0
reads_greeting (Err fault) = false

module _ {C S : Type 0} (b : Base C S) where
  abbrev pub d : Settings C S
  d = b.made.directory

  -- OF ITS OWN KEY

  -- what may wait on a link, if something does
  abbrev pub Knows : List (Call C S) → Phase → C → Option Waiting → Type 0
  Knows cs ph p waiting = (w : Waiting) → waiting ≡ Some w → IsWaiting d.cmp b.wire (standing b cs).limits (standing b cs).judge ph p w

  -- who greets does so with an info of its own key
  own : (cs : List (Call C S)) (p : C) (ph : Phase) (owed : ℕ) (waiting : Option Waiting) (c : Cause) (dialer : Bool)
      (info : Info C S) (question : Option Question) → Knows cs ph p waiting →
      IsOutcome d.cmp b.wire (standing b cs) ph owed waiting p c (Outcome.Greets dialer info question) →
      same d p info.public_key ≡ true
  own cs p phase.Greeting owed None (Cause.OfFrame frame wall) dialer info question knows comes = absurd comes
  own cs p phase.Greeting owed None (Cause.OfVerdicts verdicts) dialer info question knows comes = absurd comes
  own cs p phase.Greeting owed None (Cause.OfHead longest head size) dialer info question knows comes = absurd cc
  own cs p phase.Greeting owed (Some w) (Cause.OfHead longest head size) dialer info question knows comes = absurd comes
  own cs p phase.Greeting owed (Some w) (Cause.OfFrame frame wall) dialer info question knows comes = absurd comes
  own cs p phase.Greeting owed (Some w) (Cause.OfVerdicts verdicts) dialer info question knows comes =
      let known = knows w refl in
      subst (λ (i : Info C S). same d p i.public_key ≡ true) (ap (info_of info) (sym known.1 ∙ comes.1.0)) known.2
  own cs p phase.Open owed None (Cause.OfFrame frame wall) dialer info question knows comes = absurd comes.2.3
  own cs p phase.Open owed None (Cause.OfVerdicts verdicts) dialer info question knows comes = absurd comes
  own cs p phase.Open owed None (Cause.OfHead longest head size) dialer info question knows comes = absurd cc
  own cs p phase.Open owed (Some w) (Cause.OfHead longest head size) dialer info question knows comes = absurd comes
  own cs p phase.Open owed (Some w) (Cause.OfFrame frame wall) dialer info question knows comes = absurd comes
  own cs p phase.Open owed (Some w) (Cause.OfVerdicts verdicts) dialer info question knows comes =
      let known = knows w refl in absurd (differ (sym (ap reads_greeting (sym known.1 ∙ comes.1.0))))
  own cs p phase.Closing owed waiting c dialer info question knows comes = absurd comes

  -- who is served has greeted
  abbrev served_in : List (Call C S) → C → Phase → ℕ → Option Waiting → Cause → Outcome C S → Type 0
  served_in cs p ph owed waiting c outcome = Knows cs ph p waiting →
      IsOutcome d.cmp b.wire (standing b cs) ph owed waiting p c outcome → ph ≡ phase.Open

  taken_in : (cs : List (Call C S)) (p : C) (ph : Phase) (owed : ℕ) (waiting : Option Waiting) (c : Cause)
      (infos : List (Info C S)) → served_in cs p ph owed waiting c (Outcome.Takes infos)
  taken_in cs p phase.Greeting owed None (Cause.OfFrame frame wall) infos = λ knows comes. absurd comes
  taken_in cs p phase.Greeting owed None (Cause.OfVerdicts verdicts) infos = λ knows comes. absurd comes
  taken_in cs p phase.Greeting owed None (Cause.OfHead longest head size) infos = λ knows comes. absurd cc
  taken_in cs p phase.Greeting owed (Some w) (Cause.OfHead longest head size) infos = λ knows comes. absurd comes
  taken_in cs p phase.Greeting owed (Some w) (Cause.OfFrame frame wall) infos = λ knows comes. absurd comes
  taken_in cs p phase.Greeting owed (Some w) (Cause.OfVerdicts verdicts) infos = λ knows comes.
      let known = knows w refl in absurd (differ (ap reads_greeting (sym known.1 ∙ comes.1.0)))
  taken_in cs p phase.Open owed waiting c infos = λ knows comes. refl
  taken_in cs p phase.Closing owed waiting c infos = λ knows comes. absurd comes

  replied : (cs : List (Call C S)) (p : C) (ph : Phase) (owed : ℕ) (waiting : Option Waiting) (c : Cause)
      (reply : List ℕ) → served_in cs p ph owed waiting c (Outcome.Answers reply)
  replied cs p phase.Greeting owed None (Cause.OfFrame frame wall) reply = λ knows comes. absurd comes
  replied cs p phase.Greeting owed None (Cause.OfVerdicts verdicts) reply = λ knows comes. absurd comes
  replied cs p phase.Greeting owed None (Cause.OfHead longest head size) reply = λ knows comes. absurd cc
  replied cs p phase.Greeting owed (Some w) (Cause.OfHead longest head size) reply = λ knows comes. absurd comes
  replied cs p phase.Greeting owed (Some w) (Cause.OfFrame frame wall) reply = λ knows comes. absurd comes
  replied cs p phase.Greeting owed (Some w) (Cause.OfVerdicts verdicts) reply = λ knows comes. absurd comes.1.2
  replied cs p phase.Open owed waiting c reply = λ knows comes. refl
  replied cs p phase.Closing owed waiting c reply = λ knows comes. absurd comes

  delivered : (cs : List (Call C S)) (p : C) (ph : Phase) (owed : ℕ) (waiting : Option Waiting) (c : Cause)
      (message : Data) → served_in cs p ph owed waiting c (Outcome.Delivers message)
  delivered cs p phase.Greeting owed None (Cause.OfFrame frame wall) message = λ knows comes. absurd comes
  delivered cs p phase.Greeting owed None (Cause.OfVerdicts verdicts) message = λ knows comes. absurd comes
  delivered cs p phase.Greeting owed None (Cause.OfHead longest head size) message = λ knows comes. absurd cc
  delivered cs p phase.Greeting owed (Some w) (Cause.OfHead longest head size) message = λ knows comes. absurd comes
  delivered cs p phase.Greeting owed (Some w) (Cause.OfFrame frame wall) message = λ knows comes. absurd comes
  delivered cs p phase.Greeting owed (Some w) (Cause.OfVerdicts verdicts) message = λ knows comes. absurd comes.1.2
  delivered cs p phase.Open owed waiting c message = λ knows comes. refl
  delivered cs p phase.Closing owed waiting c message = λ knows comes. absurd comes

  served : (cs : List (Call C S)) (p : C) (ph : Phase) (owed : ℕ) (waiting : Option Waiting) (c : Cause)
      (outcome : Outcome C S) → is_served outcome ≡ true → served_in cs p ph owed waiting c outcome
  served cs p ph owed waiting c (Outcome.Waits w) is = absurd cc
  served cs p ph owed waiting c (Outcome.Greets dialer info question) is = absurd cc
  served cs p ph owed waiting c (Outcome.Takes infos) is = taken_in cs p ph owed waiting c infos
  served cs p ph owed waiting c (Outcome.Answers reply) is = replied cs p ph owed waiting c reply
  served cs p ph owed waiting c (Outcome.Delivers message) is = delivered cs p ph owed waiting c message
  served cs p ph owed waiting c Outcome.Ignores is = absurd cc
  served cs p ph owed waiting c (Outcome.Breaks breach blocked) is = absurd cc
  served cs p ph owed waiting c Outcome.IsEarly is = absurd cc
  served cs p ph owed waiting c Outcome.LacksChannel is = absurd cc
  served cs p ph owed waiting c (Outcome.Delays next) is = absurd cc
  served cs p ph owed waiting c (Outcome.Reads kind looked) is = absurd cc

  module _ (exact : CmpEqualImpliesEq b.made.directory.cmp) where
    -- what a peer was heard to say came of what may wait on its link
    came : (h : List (Happening C S)) → AreRight b h → (n : ℕ) (p : C) (t : Duration) (owed : ℕ) (c : Cause)
        (outcome : Outcome C S) → IsSomeAnd (link b p h) (IsHeard b h n p t owed c outcome) →
        (held : Held) × (link b p h ≡ Some held) × Knows (calls_of h) held.phase p held.waiting
        × IsOutcome d.cmp b.wire (standing b (calls_of h)) held.phase held.owed held.waiting p c outcome
    came h right n p t owed c outcome is = go (link b p h) refl is
      where
        go : (o : Option Held) → link b p h ≡ o → IsSomeAnd o (IsHeard b h n p t owed c outcome) →
            (held : Held) × (link b p h ≡ Some held) × Knows (calls_of h) held.phase p held.waiting
            × IsOutcome d.cmp b.wire (standing b (calls_of h)) held.phase held.owed held.waiting p c outcome
        go None at is = absurd is
        go (Some held) at is = (held, at, what_waits b exact h right p held at, is.comes)

    -- the link of a peer that is served is open
    pub served_is_open : (h : List (Happening C S)) (n : ℕ) (p : C) (t : Duration) (owed : ℕ) (c : Cause)
        (outcome : Outcome C S) → AreRight b (Happening.Heard n p t owed c outcome ∷ h) → is_served outcome ≡ true →
        (held : Held) × (link b p h ≡ Some held) × (held.phase ≡ phase.Open)
    served_is_open h n p t owed c outcome right is = let at = came h right.2 n p t owed c outcome right.0 in
        (at.0, at.1, served (calls_of h) p at.0.phase at.0.owed at.0.waiting c outcome is at.2 at.3)

    -- by what is right p greets with an info of its own key
    heard_greets : (h : List (Happening C S)) → AreRight b h → (n : ℕ) (q : C) (t : Duration) (owed : ℕ) (c : Cause)
        (outcome : Outcome C S) → IsSomeAnd (link b q h) (IsHeard b h n q t owed c outcome) → (p : C) →
        (is_greeted outcome && same d q p) ≡ true → IsGreetingOf d p (Happening.Heard n q t owed c outcome)
    heard_greets h right n q t owed c (Outcome.Greets dialer info question) is p greets =
        let at = came h right n q t owed c (Outcome.Greets dialer info question) is in (
          greets,
          subst (λ r. same d r info.public_key ≡ true) (tells_apart exact q p greets)
              (own (calls_of h) q at.0.phase at.0.owed at.0.waiting c dialer info question at.2 at.3),
        )
    heard_greets h right n q t owed c (Outcome.Waits w) is p greets = absurd cc
    heard_greets h right n q t owed c (Outcome.Takes infos) is p greets = absurd cc
    heard_greets h right n q t owed c (Outcome.Answers reply) is p greets = absurd cc
    heard_greets h right n q t owed c (Outcome.Delivers message) is p greets = absurd cc
    heard_greets h right n q t owed c Outcome.Ignores is p greets = absurd cc
    heard_greets h right n q t owed c (Outcome.Breaks breach blocked) is p greets = absurd cc
    heard_greets h right n q t owed c Outcome.IsEarly is p greets = absurd cc
    heard_greets h right n q t owed c Outcome.LacksChannel is p greets = absurd cc
    heard_greets h right n q t owed c (Outcome.Delays next) is p greets = absurd cc
    heard_greets h right n q t owed c (Outcome.Reads kind looked) is p greets = absurd cc

    greets_own : (e : Happening C S) (h : List (Happening C S)) → IsRight b h e → AreRight b h → (p : C) →
        greets_by d p e ≡ true → IsGreetingOf d p e
    greets_own (Happening.Heard n q t owed c outcome) h is right p greets =
        heard_greets h right n q t owed c outcome is p greets
    greets_own e h is right p greets = absurd cc

    -- one of the happenings since the link of p began is its greeting, if one is at all
    abbrev Greeted : C → List (Happening C S) → Type 0
    Greeted p since = (e : Happening C S) × Contains since e × IsGreetingOf d p e

    greeted_on : (p : C) (e : Happening C S) (since : List (Happening C S)) →
        (greets_by d p e ≡ true → IsGreetingOf d p e) → (list_any (greets_by d p) since ≡ true → Greeted p since) →
        list_any (greets_by d p) (e ∷ since) ≡ true → Greeted p (e ∷ since)
    greeted_on p e since own before is = go (greets_by d p e) refl is
      where
        go : (x : Bool) → greets_by d p e ≡ x → (x || list_any (greets_by d p) since) ≡ true → Greeted p (e ∷ since)
        go true at is = (e, (zero, omega arith, refl), own at)
        go false at is = let found = before is in
            (found.0, Contains-append_right (e ∷ []) since found.0 found.1, found.2)

    has_greeted : (h : List (Happening C S)) → AreRight b h → (p : C) →
        list_any (greets_by d p) (since_began d p h) ≡ true → HasGreeted d p h
    has_greeted [] right p is = absurd cc
    has_greeted (e ∷ h) right p is = go (opened_by d p e) (last_with (opened_by d p) h)
        (λ greets. greets_own e h right.0 right.2 p greets) (has_greeted h right.2 p) is
      where
        go : (o : Option (ℕ × Direction × Duration)) (found : Option ((ℕ × Direction × Duration) × List (Happening C S))) →
            (greets_by d p e ≡ true → IsGreetingOf d p e) →
            (list_any (greets_by d p) (since_of found) ≡ true → Greeted p (since_of found)) →
            list_any (greets_by d p) (since_of (found_with o e found)) ≡ true → Greeted p (since_of (found_with o e found))
        go (Some began) found own before is = absurd cc
        go None None own before is = absurd cc
        go None (Some found) own before is = greeted_on p e found.1 own before is

    open_has_greeted : (h : List (Happening C S)) (p : C) (held : Held) → link b p h ≡ Some held →
        held.phase ≡ phase.Open → list_any (greets_by d p) (since_began d p h) ≡ true
    open_has_greeted h p held of_p is = go (last_with (opened_by d p) h) of_p
      where
        at : (found : (ℕ × Direction × Duration) × List (Happening C S)) (ended : Bool) →
            (if ended then None else Some (kept_of d p found.0.0 found.0.1 found.0.2 found.1)) ≡ Some held →
            list_any (greets_by d p) found.1 ≡ true
        at found true of_p = absurd (no_link held of_p)
        at found false of_p = of_open (list_any (closes_by d p) found.1) (list_any (greets_by d p) found.1)
            (ap (λ (x : Held). x.phase) (some_is of_p) ∙ is)

        go : (found : Option ((ℕ × Direction × Duration) × List (Happening C S))) → link_since d p found ≡ Some held →
            list_any (greets_by d p) (since_of found) ≡ true
        go None of_p = absurd (no_link held of_p)
        go (Some found) of_p = at found (list_any (ends_by d p) found.1) of_p

    -- a peer that is served has greeted on its link
    pub served_has_greeted : (h : List (Happening C S)) (n : ℕ) (p : C) (t : Duration) (owed : ℕ) (c : Cause)
        (outcome : Outcome C S) → AreRight b (Happening.Heard n p t owed c outcome ∷ h) → is_served outcome ≡ true →
        HasGreeted d p h
    served_has_greeted h n p t owed c outcome right is = let at = served_is_open h n p t owed c outcome right is in
        has_greeted h right.2 p (open_has_greeted h p at.0 at.1 at.2)
