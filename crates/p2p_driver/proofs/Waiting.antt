-- What waits on a link is what may wait there: only what comes of a frame makes it wait.
use Rattle.std.proofs.Common.{◌≡◌, ℕ, Bool, true, false, List, [], ◌∷◌, Option, Some, None, refl, sym, ◌∙◌, ap, subst}
use Rattle.std.specs.Prelude.{if◌then◌else◌, option_map}
use Rattle.std.specs.Option.{IsSomeAnd}
use Rattle.std.specs.declared.time.Duration.{Duration}
use Rattle.std.proofs.lemmas.Map.Views.{tells_apart}
use Rattle.std.proofs.lemmas.Map.Lookups.{CmpEqualImpliesEq}
use Rattle.p2p_discovery.specs.Ordered.{has_key}
use Rattle.p2p_tracker.specs.Calls.{Settings, Call}
use Rattle.p2p_tracker.specs.History.{same}
use Rattle.p2p_driver.specs.declared.links.Held.{Held}
use Rattle.p2p_driver.specs.declared.links.Phase.{Phase}
use Rattle.p2p_driver.specs.declared.links.Phase.TheVariants as phase
use Rattle.p2p_driver.specs.declared.links.Waiting.{Waiting}
use Rattle.p2p_driver.specs.Frames.{Cause, Outcome, IsWaiting, IsOutcome}
use Rattle.p2p_driver.specs.Happenings.{Happening, calls_of, opened_by, ends_by, heard_as, said_with}
use Rattle.p2p_driver.specs.Links.{link_of, link_with, link_as, taken_way, dial_with, closed, opened, hearing, asking, saying, writing, unless_closing}
use Rattle.p2p_driver.specs.Questions.{asked_after}
use Rattle.p2p_driver.specs.declared.questions.Question.{Question}
use Rattle.p2p_driver.specs.Drivers.{DriverView, Base, DriverStandsAt, AreRight, IsHeard, link, standing}
use Rattle.p2p_driver.proofs.LinkHistory.{touch_by, touched, closing_if, reaching_if, nothing_kept, link_after, link_stays, link_later, link_opens, link_adopts, link_dials, link_hears, link_asks, link_writes, link_speaks, ended_link, closed_link}

none_waits : (w : Waiting) → ¬ (None ≡ Some w)
none_waits w is = cc

some_is : {A : Type 0} {x y : A} → Some x ≡ Some y → x ≡ y
some_is e = cc

module _ {C S : Type 0} (b : Base C S) where
  abbrev pub d : Settings C S
  d = b.made.directory

  -- what waits on the link of p, if there is one, is what may wait there
  abbrev pub MayWait : C → Option Held → Type 0
  MayWait p o = (held : Held) → o ≡ Some held → (w : Waiting) → held.waiting ≡ Some w →
      IsWaiting d.cmp b.wire (standing b []).limits (standing b []).judge held.phase p w

  of_none : (p : C) → MayWait p None
  of_none p held is = absurd cc

  without : (p : C) (held : Held) → held.waiting ≡ None → MayWait p (Some held)
  without p held none x is w waits = absurd (none_waits w (sym none ∙ ap (λ (y : Held). y.waiting) (some_is is) ∙ waits))

  -- a link that was closed, or not
  closes : (p : C) (x : Bool) (o : Option Held) → MayWait p o → MayWait p (if x then option_map closed o else o)
  closes p true None may = of_none p
  closes p true (Some held) may = without p (closed held) refl
  closes p false o may = may

  -- .. that ended, or didn't
  ended : (p : C) (x : Bool) (o : Option Held) → MayWait p o → MayWait p (if x then None else o)
  ended p true o may = of_none p
  ended p false o may = may

  -- .. or was asked on
  asks : (p : C) (x : Bool) (t : Duration) (owed : ℕ) (question : Option Question) (o : Option Held) → MayWait p o →
      MayWait p (if x then option_map (λ h. saying (said_with t question) (asking owed (asked_after t question h.asked) h)) o else o)
  asks p true t owed question None may = of_none p
  asks p true t owed question (Some held) may = λ x is w waits.
      subst (λ (y : Held). y.waiting ≡ Some w → IsWaiting d.cmp b.wire (standing b []).limits (standing b []).judge y.phase p w) (some_is is)
      (may held refl w) waits
  asks p false t owed question o may = may

  -- .. or a frame of it was written
  writes : (p : C) (x : Bool) (o : Option Held) → MayWait p o → MayWait p (if x then option_map writing o else o)
  writes p true None may = of_none p
  writes p true (Some held) may = λ x is w waits.
      subst (λ (y : Held). y.waiting ≡ Some w → IsWaiting d.cmp b.wire (standing b []).limits (standing b []).judge y.phase p w) (some_is is)
      (may held refl w) waits
  writes p false o may = may

  -- .. or a message was said on it
  speaks : (p : C) (x : Bool) (t : Duration) (o : Option Held) → MayWait p o → MayWait p (if x then option_map (saying (Some t)) o else o)
  speaks p true t None may = of_none p
  speaks p true t (Some held) may = λ x is w waits.
      subst (λ (y : Held). y.waiting ≡ Some w → IsWaiting d.cmp b.wire (standing b []).limits (standing b []).judge y.phase p w) (some_is is)
      (may held refl w) waits
  speaks p false t o may = may

  -- .. or the stream of a dial was proved: nothing of it waits
  reaches : (p : C) (x : Bool) (t : Duration) (o : Option Held) → MayWait p o → MayWait p (link_after false (reaching_if x t) o)
  reaches p true t None may = of_none p
  reaches p true t (Some held) may = without p (touched (reaching_if true t) held) (nothing_kept {A = Waiting} held.phase)
  reaches p false t None may = of_none p
  reaches p false t (Some held) may = may

  -- what comes of a frame that waits: it may wait
  pub waits : (cs : List (Call C S)) (p : C) (ph : Phase) (owed : ℕ) (waiting : Option Waiting) (c : Cause) (w : Waiting) →
      IsOutcome d.cmp b.wire (standing b cs) ph owed waiting p c (Outcome.Waits w) →
      IsWaiting d.cmp b.wire (standing b []).limits (standing b []).judge ph p w
  waits cs p phase.Greeting owed None (Cause.OfFrame frame wall) w comes = comes.1
  waits cs p phase.Greeting owed None (Cause.OfVerdicts verdicts) w comes = absurd comes
  waits cs p phase.Greeting owed None (Cause.OfHead longest head size) w comes = absurd cc
  waits cs p phase.Greeting owed (Some old) (Cause.OfHead longest head size) w comes = absurd comes
  waits cs p phase.Greeting owed (Some old) (Cause.OfFrame frame wall) w comes = absurd comes
  waits cs p phase.Greeting owed (Some old) (Cause.OfVerdicts verdicts) w comes = absurd comes.1.2
  waits cs p phase.Open owed None (Cause.OfFrame frame wall) w comes = comes.2.1
  waits cs p phase.Open owed None (Cause.OfVerdicts verdicts) w comes = absurd comes
  waits cs p phase.Open owed None (Cause.OfHead longest head size) w comes = absurd cc
  waits cs p phase.Open owed (Some old) (Cause.OfHead longest head size) w comes = absurd comes
  waits cs p phase.Open owed (Some old) (Cause.OfFrame frame wall) w comes = absurd comes
  waits cs p phase.Open owed (Some old) (Cause.OfVerdicts verdicts) w comes = absurd comes.1.2
  waits cs p phase.Closing owed waiting c w comes = absurd comes

  -- whatever the calls were
  whatever : (cs : List (Call C S)) (p : C) (ph : Phase) (w : Waiting) → IsWaiting d.cmp b.wire (standing b []).limits (standing b []).judge ph p w →
      IsWaiting d.cmp b.wire (standing b cs).limits (standing b cs).judge ph p w
  whatever cs p phase.Greeting w may = may
  whatever cs p phase.Open w may = may
  whatever cs p phase.Closing w may = absurd may

  in_phase : (ph : Phase) (w v : Waiting) → unless_closing ph (Some w) ≡ Some v → w ≡ v
  in_phase phase.Greeting w v is = some_is is
  in_phase phase.Open w v is = some_is is
  in_phase phase.Closing w v is = absurd (none_waits v is)

  none_in : (ph : Phase) → unless_closing {A = Waiting} ph None ≡ None
  none_in phase.Greeting = refl
  none_in phase.Open = refl
  none_in phase.Closing = refl

  -- a link whose peer was heard
  hears : (p : C) (held : Held) (t : Duration) (owed : ℕ) (outcome : Outcome C S) →
      ((w : Waiting) → outcome ≡ Outcome.Waits w → IsWaiting d.cmp b.wire (standing b []).limits (standing b []).judge held.phase p w) →
      MayWait p (Some held) → MayWait p (Some (heard_as t owed outcome held))
  hears p held t owed (Outcome.Waits v) may before = λ x is.
      subst (λ (y : Held). (w : Waiting) → y.waiting ≡ Some w → IsWaiting d.cmp b.wire (standing b []).limits (standing b []).judge y.phase p w) (some_is is)
      (λ w now. subst (IsWaiting d.cmp b.wire (standing b []).limits (standing b []).judge held.phase p) (in_phase held.phase v w now) (may v refl))
  hears p held t owed (Outcome.Greets dialer info question) may before = without p (saying (said_with t question) (opened t owed (asked_after t question held.asked) held)) refl
  hears p held t owed (Outcome.Takes infos) may before = without p (hearing t owed None held) (none_in held.phase)
  hears p held t owed (Outcome.Answers reply) may before = without p (saying (Some t) (hearing t owed None held)) (none_in held.phase)
  hears p held t owed (Outcome.Delivers message) may before = without p (hearing t owed None held) (none_in held.phase)
  hears p held t owed Outcome.Ignores may before = without p (hearing t owed None held) (none_in held.phase)
  hears p held t owed (Outcome.Breaks breach blocked) may before = without p (closed held) refl
  hears p held t owed Outcome.IsEarly may before = without p (closed held) refl
  hears p held t owed Outcome.LacksChannel may before = without p (closed held) refl
  hears p held t owed (Outcome.Delays next) may before = without p (hearing t owed None held) (none_in held.phase)
  hears p held t owed (Outcome.Reads kind looked) may before = λ x is w waits.
      subst (λ (y : Held). y.waiting ≡ Some w → IsWaiting d.cmp b.wire (standing b []).limits (standing b []).judge y.phase p w) (some_is is)
      (before held refl w) waits

  module _ (exact : CmpEqualImpliesEq b.made.directory.cmp) where
    -- the link of p, since q was heard
    heard : (h : List (Happening C S)) (p q : C) (n : ℕ) (t : Duration) (owed : ℕ) (c : Cause) (outcome : Outcome C S) →
        IsSomeAnd (link b q h) (IsHeard b h n q t owed c outcome) → MayWait p (link b p h) →
        MayWait p (if same d q p then option_map (heard_as t owed outcome) (link b p h) else link b p h)
    heard h p q n t owed c outcome right may = go (same d q p) refl
      where
        at : (o : Option Held) → IsSomeAnd o (IsHeard b h n p t owed c outcome) → MayWait p o →
            MayWait p (option_map (heard_as t owed outcome) o)
        at None right may = absurd right
        at (Some held) right may = hears p held t owed outcome (λ w is. waits (calls_of h) p held.phase held.owed held.waiting c w
            (subst (IsOutcome d.cmp b.wire (standing b (calls_of h)) held.phase held.owed held.waiting p c) is right.comes)) may

        go : (x : Bool) → same d q p ≡ x →
            MayWait p (if x then option_map (heard_as t owed outcome) (link b p h) else link b p h)
        go true is = at (link b p h) (subst (λ r. IsSomeAnd (link b r h) (IsHeard b h n r t owed c outcome)) (tells_apart exact q p is) right) may
        go false is = may

    stays : (e : Happening C S) (h : List (Happening C S)) (p : C) → link b p (e ∷ h) ≡ link b p h →
        MayWait p (link b p h) → MayWait p (link b p (e ∷ h))
    stays e h p is may = subst (MayWait p) (sym is) may

    closed_by : (e : Happening C S) (h : List (Happening C S)) (p : C) (x : Bool) → opened_by d p e ≡ None →
        ends_by d p e ≡ false → touch_by d p e ≡ closing_if x → MayWait p (link b p h) → MayWait p (link b p (e ∷ h))
    closed_by e h p x opens ends touch may = subst (MayWait p) (sym (link_later d p e h opens
        ∙ ap (λ y. link_after y (touch_by d p e) (link b p h)) ends
        ∙ ap (λ y. link_after false y (link b p h)) touch ∙ closed_link x (link b p h)))
        (closes p x (link b p h) may)

    may_wait : (h : List (Happening C S)) → AreRight b h → (p : C) → MayWait p (link b p h)
    may_wait [] right p = of_none p
    may_wait (Happening.Proved n q t draw ∷ h) right p =
        subst (MayWait p) (sym (link_opens d p q n t draw h)) (go (same d q p) (may_wait h right.2 p))
      where
        go : (x : Bool) → MayWait p (link b p h) → MayWait p (if x then Some (link_with n t) else link b p h)
        go true may = without p (link_with n t) refl
        go false may = may
    may_wait (Happening.Adopted n q t outbound ∷ h) right p =
        subst (MayWait p) (sym (link_adopts d p q n t outbound h)) (go (same d q p) (may_wait h right.2 p))
      where
        go : (x : Bool) → MayWait p (link b p h) → MayWait p (if x then Some (link_as (taken_way outbound) n t) else link b p h)
        go true may = without p (link_as (taken_way outbound) n t) refl
        go false may = may
    may_wait (Happening.Dialed n q t draw word ingress ∷ h) right p =
        subst (MayWait p) (sym (link_dials d p q n t draw word ingress h)) (go (same d q p) (may_wait h right.2 p))
      where
        go : (x : Bool) → MayWait p (link b p h) → MayWait p (if x then Some (dial_with n t) else link b p h)
        go true may = without p (dial_with n t) refl
        go false may = may
    may_wait (Happening.Reached n q t ∷ h) right p = subst (MayWait p) (sym (link_later d p (Happening.Reached n q t) h refl))
        (reaches p (same d q p) t (link b p h) (may_wait h right.2 p))
    may_wait (Happening.Mistaken n q t ∷ h) right p =
        closed_by (Happening.Mistaken n q t) h p (same d q p) refl refl refl (may_wait h right.2 p)
    may_wait (Happening.Ended n q t direction ∷ h) right p = subst (MayWait p)
        (sym (link_later d p (Happening.Ended n q t direction) h refl ∙ ended_link (same d q p) (link b p h)))
        (ended p (same d q p) (link b p h) (may_wait h right.2 p))
    may_wait (Happening.Failed n q t direction ∷ h) right p = subst (MayWait p)
        (sym (link_later d p (Happening.Failed n q t direction) h refl ∙ ended_link (same d q p) (link b p h)))
        (ended p (same d q p) (link b p h) (may_wait h right.2 p))
    may_wait (Happening.SetCame t index primary secondary torn ∷ h) right p =
        closed_by (Happening.SetCame t index primary secondary torn) h p (has_key d.cmp torn p) refl refl refl (may_wait h right.2 p)
    may_wait (Happening.LinkLate n q t ∷ h) right p =
        closed_by (Happening.LinkLate n q t) h p (same d q p) refl refl refl (may_wait h right.2 p)
    may_wait (Happening.Heard n q t owed c outcome ∷ h) right p = subst (MayWait p) (sym (link_hears d p q n t owed c outcome h))
        (heard h p q n t owed c outcome right.0 (may_wait h right.2 p))
    may_wait (Happening.Asked n q t owed fits question ∷ h) right p = subst (MayWait p) (sym (link_asks d p q n t owed fits question h))
        (asks p (same d q p) t owed question (link b p h) (may_wait h right.2 p))
    may_wait (Happening.Written n q t ∷ h) right p = subst (MayWait p) (sym (link_writes d p q n t h))
        (writes p (same d q p) (link b p h) (may_wait h right.2 p))
    may_wait (Happening.Spoken n q t place ∷ h) right p = subst (MayWait p) (sym (link_speaks d p q n t place h))
        (speaks p (same d q p) t (link b p h) (may_wait h right.2 p))
    may_wait (Happening.Barred q t taken ∷ h) right p =
        closed_by (Happening.Barred q t taken) h p (same d q p) refl refl refl (may_wait h right.2 p)
    may_wait (Happening.Parted q t ∷ h) right p =
        closed_by (Happening.Parted q t) h p (same d q p) refl refl refl (may_wait h right.2 p)
    may_wait (e ∷ h) right p = stays e h p (link_stays d p e h refl refl refl) (may_wait h right.2 p)

    pub what_waits : (h : List (Happening C S)) → AreRight b h → (p : C) (held : Held) → link b p h ≡ Some held →
        (w : Waiting) → held.waiting ≡ Some w → IsWaiting d.cmp b.wire (standing b (calls_of h)).limits (standing b (calls_of h)).judge held.phase p w
    what_waits h right p held of_p w waits = whatever (calls_of h) p held.phase w (may_wait h right p held of_p w waits)

    -- .. as it is seen of a driver
    pub waits_by : (h : List (Happening C S)) (v : DriverView C S) → DriverStandsAt b h v → (p : C) (held : Held) →
        link_of d.cmp v.links p ≡ Some held → (w : Waiting) → held.waiting ≡ Some w →
        IsWaiting d.cmp b.wire (standing b (calls_of h)).limits (standing b (calls_of h)).judge held.phase p w
    waits_by h v at p held of_p w now = what_waits h at.right p held (sym (at.links p) ∙ of_p) w now
