-- A dial whose stream isn't proved is as it began, or closed: nothing was said on it, nothing of it waits, and no frame
-- of it may be handed in.
use Rattle.std.proofs.Common.{◌≡◌, ℕ, ◌<◌, Bool, true, false, ◌&&◌, List, [], ◌∷◌, Option, Some, None, refl, sym, ◌∙◌, ap, subst, arith}
use Rattle.std.specs.Prelude.{if◌then◌else◌, option_map, length}
use Rattle.std.specs.Option.{IsSomeAnd}
use Rattle.std.specs.declared.time.Duration.{Duration}
use Rattle.std.proofs.lemmas.Map.Views.{tells_apart}
use Rattle.std.proofs.lemmas.Map.Lookups.{CmpEqualImpliesEq}
use Rattle.p2p_discovery.specs.Ordered.{has_key}
use Rattle.p2p_discovery.specs.declared.types.ingress.Ingress.{Ingress}
use Rattle.p2p_tracker.specs.Calls.{Settings, Call}
use Rattle.p2p_tracker.specs.History.{same}
use Rattle.p2p_driver.specs.declared.links.Direction.{Direction}
use Rattle.p2p_driver.specs.declared.links.Direction.TheVariants as way
use Rattle.p2p_driver.specs.declared.links.Held.{Held}
use Rattle.p2p_driver.specs.declared.links.Phase.{Phase}
use Rattle.p2p_driver.specs.declared.links.Phase.TheVariants as phase
use Rattle.p2p_driver.specs.Frames.{Cause, Outcome, IsOutcome}
use Rattle.p2p_driver.specs.Happenings.{Happening, calls_of, opened_by, ends_by, reached_by, heard_as, said_with}
use Rattle.p2p_driver.specs.Links.{link_with, link_as, taken_way, dial_with, is_way, is_dialing, is_open, is_expected_by, proved_way, asking, saying, writing}
use Rattle.p2p_driver.specs.Questions.{asked_after}
use Rattle.p2p_driver.specs.Drivers.{Base, AreRight, IsHeard, IsAsked, IsSpoken, link, standing, untaken}
use Rattle.p2p_driver.proofs.LinkHistory.{Touch, touch_by, touched, closing_if, reaching_if, way_after, link_after, link_later, link_opens, link_adopts, link_dials, link_hears, link_asks, link_writes, link_speaks}

pub some_is : {A : Type 0} {x y : A} → Some x ≡ Some y → x ≡ y
some_is e = cc

-- a link that is there was there before
pub link_was : (ends : Bool) (touch : Touch) (o : Option Held) (g : Held) → link_after ends touch o ≡ Some g →
    (g0 : Held) × (o ≡ Some g0) × (touched touch g0 ≡ g)
link_was ends touch None g is = absurd cc
link_was true touch (Some held) g is = absurd cc
link_was false touch (Some held) g is = (held, refl, some_is is)

-- a dial was one before
pub dialing_before : (reaches : Option Duration) (direction : Direction) → is_way way.Dialing (way_after reaches direction) ≡ true →
    is_way way.Dialing direction ≡ true
dialing_before None direction is = is
dialing_before (Some t) way.Inbound is = absurd cc
dialing_before (Some t) way.Dialing is = absurd cc
dialing_before (Some t) way.Outbound is = absurd cc
dialing_before (Some t) way.TakenOver is = absurd cc

-- .. and is none any more once its stream was proved
pub none_dials : (direction : Direction) → ¬ (is_way way.Dialing (proved_way direction) ≡ true)
none_dials way.Inbound is = cc
none_dials way.Dialing is = cc
none_dials way.Outbound is = cc
none_dials way.TakenOver is = cc

-- nothing was said, nothing waits, no frame may be handed in, and nobody has greeted
pub record IsFresh (held : Held) : Type 0 where
  pub unwritten : held.unwritten ≡ []
  pub waiting : held.waiting ≡ None
  pub looked : held.looked ≡ None
  pub unopened : is_open held.phase ≡ false

closes : (x : Bool) (g : Held) → IsFresh g → IsFresh (touched (closing_if x) g)
closes true g fresh = record { unwritten = fresh.unwritten; waiting = refl; looked = refl; unopened = refl }
closes false g fresh = fresh

reaches : (x : Bool) (t : Duration) (g : Held) → is_dialing (touched (reaching_if x t) g) ≡ true → IsFresh g → IsFresh (touched (reaching_if x t) g)
reaches true t g dial fresh = absurd (none_dials g.direction dial)
reaches false t g dial fresh = fresh

not_asked : (x y : Bool) → x ≡ false → (x && y) ≡ true → ⊥
not_asked true y isnt is = cc
not_asked false y isnt is = cc

not_open : (x : Bool) → x ≡ false → x ≡ true → ⊥
not_open x isnt is = cc

not_written : (n : ℕ) (unwritten : List Duration) → unwritten ≡ [] → n < length unwritten → ⊥
not_written n unwritten none less = let zero : length unwritten ≡ 0 = ap length none in omega (arith, zero, less)

heard_dials : {C S : Type 0} (t : Duration) (owed : ℕ) (outcome : Outcome C S) (g : Held) → is_dialing (heard_as t owed outcome g) ≡ is_dialing g
heard_dials t owed (Outcome.Waits waiting) g = refl
heard_dials t owed (Outcome.Greets dialer info question) g = refl
heard_dials t owed (Outcome.Takes infos) g = refl
heard_dials t owed (Outcome.Answers reply) g = refl
heard_dials t owed (Outcome.Delivers message) g = refl
heard_dials t owed Outcome.Ignores g = refl
heard_dials t owed (Outcome.Breaks breach blocked) g = refl
heard_dials t owed Outcome.IsEarly g = refl
heard_dials t owed Outcome.LacksChannel g = refl
heard_dials t owed (Outcome.Delays next) g = refl
heard_dials t owed (Outcome.Reads kind looked) g = refl

module _ {C S : Type 0} (b : Base C S) where
  abbrev d : Settings C S
  d = b.made.directory

  -- no verdicts are wanted where nothing waits
  none_waits : (cs : List (Call C S)) (p : C) (ph : Phase) (owed : ℕ) (verdicts : List Bool) (outcome : Outcome C S) →
      IsOutcome d.cmp b.wire (standing b cs) ph owed None p (Cause.OfVerdicts verdicts) outcome → ⊥
  none_waits cs p phase.Greeting owed verdicts outcome comes = comes
  none_waits cs p phase.Open owed verdicts outcome comes = comes
  none_waits cs p phase.Closing owed verdicts outcome comes = comes

  -- nobody is heard on it
  not_heard : (h : List (Happening C S)) (n : ℕ) (p : C) (t : Duration) (owed : ℕ) (c : Cause) (outcome : Outcome C S) (g : Held) →
      is_dialing g ≡ true → IsFresh g → IsHeard b h n p t owed c outcome g → ⊥
  not_heard h n p t owed (Cause.OfFrame frame wall) outcome g dial fresh right =
      not_open (is_expected_by g.looked frame) (ap (λ o. is_expected_by o frame) fresh.looked) right.paced
  not_heard h n p t owed (Cause.OfVerdicts verdicts) outcome g dial fresh right =
      none_waits (calls_of h) p g.phase g.owed verdicts outcome
      (subst (λ w. IsOutcome d.cmp b.wire (standing b (calls_of h)) g.phase g.owed w p (Cause.OfVerdicts verdicts) outcome) fresh.waiting right.comes)
  not_heard h n p t owed (Cause.OfHead longest head size) outcome g dial fresh right = not_open (is_dialing g) right.paced.0 dial

  abbrev pub IsFreshOf : C → List (Happening C S) → Type 0
  IsFreshOf p h = (held : Held) → link b p h ≡ Some held → is_dialing held ≡ true → IsFresh held

  -- where no link begins
  stays : (e : Happening C S) (h : List (Happening C S)) (p : C) → opened_by d p e ≡ None →
      ((g : Held) → is_dialing (touched (touch_by d p e) g) ≡ true → IsFresh g → IsFresh (touched (touch_by d p e) g)) →
      IsFreshOf p h → IsFreshOf p (e ∷ h)
  stays e h p opens keeps fresh held linked dial =
      let was = link_was (ends_by d p e) (touch_by d p e) (link b p h) held (sym (link_later d p e h opens) ∙ linked) in
      let now : is_dialing (touched (touch_by d p e) was.0) ≡ true = ap (λ (x : Held). is_dialing x) was.2 ∙ dial in
      subst IsFresh was.2 (keeps was.0 now (fresh was.0 was.1 (dialing_before (reached_by d p e) was.0.direction now)))

  -- where something is done that isn't done on a dial
  passed : (e : Happening C S) (h : List (Happening C S)) (p q : C) (f : Held → Held) →
      link b p (e ∷ h) ≡ (if same d q p then option_map f (link b p h) else link b p h) → ((g : Held) → is_dialing (f g) ≡ is_dialing g) →
      (same d q p ≡ true → (g : Held) → link b p h ≡ Some g → is_dialing g ≡ true → IsFresh g → ⊥) → IsFreshOf p h → IsFreshOf p (e ∷ h)
  passed e h p q f is keeps none fresh held linked dial = go (same d q p) refl (sym is ∙ linked)
    where
      at : (o : Option Held) → link b p h ≡ o → same d q p ≡ true → option_map f o ≡ Some held → IsFresh held
      at None of_p one found = absurd cc
      at (Some g) of_p one found = let dials = sym (keeps g) ∙ ap (λ (x : Held). is_dialing x) (some_is found) ∙ dial in
          absurd (none one g of_p dials (fresh g of_p dials))

      go : (x : Bool) → same d q p ≡ x → (if x then option_map f (link b p h) else link b p h) ≡ Some held → IsFresh held
      go true one found = at (link b p h) refl one found
      go false other found = fresh held found dial

  -- a stream was proved that came in
  proved : (e : Happening C S) (q : C) (new : Held) (h : List (Happening C S)) (p : C) → is_dialing new ≡ false →
      link b p (e ∷ h) ≡ (if same d q p then Some new else link b p h) → IsFreshOf p h → IsFreshOf p (e ∷ h)
  proved e q new h p none tied fresh held linked dial = go (same d q p) (sym tied ∙ linked)
    where
      go : (x : Bool) → (if x then Some new else link b p h) ≡ Some held → IsFresh held
      go true found = let is = sym none ∙ ap (λ (x : Held). is_dialing x) (some_is found) ∙ dial in absurd cc
      go false found = fresh held found dial

  -- .. not a dial
  not_dialing : (outbound : Bool) (n : ℕ) (t : Duration) → is_dialing (link_as (taken_way outbound) n t) ≡ false
  not_dialing true n t = refl
  not_dialing false n t = refl

  dialed : (n : ℕ) (q : C) (t draw : Duration) (word : ℕ) (ingress : Ingress) (h : List (Happening C S)) (p : C) → IsFreshOf p h →
      IsFreshOf p (Happening.Dialed n q t draw word ingress ∷ h)
  dialed n q t draw word ingress h p fresh held linked dial = go (same d q p) (sym (link_dials d p q n t draw word ingress h) ∙ linked)
    where
      go : (x : Bool) → (if x then Some (dial_with n t) else link b p h) ≡ Some held → IsFresh held
      go true found = subst IsFresh (some_is found) (record { unwritten = refl; waiting = refl; looked = refl; unopened = refl })
      go false found = fresh held found dial

  module _ (exact : CmpEqualImpliesEq b.made.directory.cmp) where
    -- what holds of a link holds of the link of its peer
    at_peer : (P : C → Held → Type 0) (p q : C) (h : List (Happening C S)) → same d q p ≡ true → IsSomeAnd (link b q h) (P q) →
        (held : Held) → link b p h ≡ Some held → P p held
    at_peer P p q h is has held linked = subst (λ o. IsSomeAnd o (P p)) linked
        (subst (λ r. IsSomeAnd (link b r h) (P r)) (tells_apart exact q p is) has)

    fresh_at : (h : List (Happening C S)) → AreRight b h → (p : C) → IsFreshOf p h
    fresh_at [] right p = λ held linked dial. absurd cc
    fresh_at (Happening.Proved n q t draw ∷ h) right p =
        proved (Happening.Proved n q t draw) q (link_with n t) h p refl (link_opens d p q n t draw h) (fresh_at h right.2 p)
    fresh_at (Happening.Adopted n q t outbound ∷ h) right p = proved (Happening.Adopted n q t outbound) q (link_as (taken_way outbound) n t) h p
        (not_dialing outbound n t) (link_adopts d p q n t outbound h) (fresh_at h right.2 p)
    fresh_at (Happening.Dialed n q t draw word ingress ∷ h) right p = dialed n q t draw word ingress h p (fresh_at h right.2 p)
    fresh_at (Happening.Reached n q t ∷ h) right p = stays (Happening.Reached n q t) h p refl (λ g dial. reaches (same d q p) t g dial) (fresh_at h right.2 p)
    fresh_at (Happening.Mistaken n q t ∷ h) right p =
        stays (Happening.Mistaken n q t) h p refl (λ g dial fresh. closes (same d q p) g fresh) (fresh_at h right.2 p)
    fresh_at (Happening.SetCame t index primary secondary torn ∷ h) right p =
        stays (Happening.SetCame t index primary secondary torn) h p refl (λ g dial fresh. closes (has_key d.cmp torn p) g fresh) (fresh_at h right.2 p)
    fresh_at (Happening.LinkLate n q t ∷ h) right p =
        stays (Happening.LinkLate n q t) h p refl (λ g dial fresh. closes (same d q p) g fresh) (fresh_at h right.2 p)
    fresh_at (Happening.Heard n q t owed c outcome ∷ h) right p =
        passed (Happening.Heard n q t owed c outcome) h p q (heard_as t owed outcome) (link_hears d p q n t owed c outcome h) (heard_dials t owed outcome)
        (λ is g linked dial fresh. not_heard h n p t owed c outcome g dial fresh
        (at_peer (λ r. IsHeard b h n r t owed c outcome) p q h is right.0 g linked)) (fresh_at h right.2 p)
    fresh_at (Happening.Asked n q t owed fits question ∷ h) right p =
        passed (Happening.Asked n q t owed fits question) h p q (λ x. saying (said_with t question) (asking owed (asked_after t question x.asked) x))
        (link_asks d p q n t owed fits question h) (λ g. refl)
        (λ is g linked dial fresh. not_asked (is_open g.phase) _ fresh.unopened
        (at_peer (λ r. IsAsked b h n r t owed fits question) p q h is right.0 g linked).due) (fresh_at h right.2 p)
    fresh_at (Happening.Written n q t ∷ h) right p =
        passed (Happening.Written n q t) h p q writing (link_writes d p q n t h) (λ g. refl)
        (λ is g linked dial fresh. not_written (untaken b h n) g.unwritten fresh.unwritten
        (at_peer (λ r held. (held.number ≡ n) × (untaken b h n < length held.unwritten)) p q h is right.0 g linked).1) (fresh_at h right.2 p)
    fresh_at (Happening.Spoken n q t place ∷ h) right p =
        passed (Happening.Spoken n q t place) h p q (saying (Some t)) (link_speaks d p q n t place h) (λ g. refl)
        (λ is g linked dial fresh. not_open (is_open g.phase) fresh.unopened
        (at_peer (λ r. IsSpoken b h n t place) p q h is right.0 g linked).opens) (fresh_at h right.2 p)
    fresh_at (Happening.Barred q t taken ∷ h) right p =
        stays (Happening.Barred q t taken) h p refl (λ g dial fresh. closes (same d q p) g fresh) (fresh_at h right.2 p)
    fresh_at (Happening.Parted q t ∷ h) right p =
        stays (Happening.Parted q t) h p refl (λ g dial fresh. closes (same d q p) g fresh) (fresh_at h right.2 p)
    fresh_at (e ∷ h) right p = stays e h p refl (λ g dial fresh. fresh) (fresh_at h right.2 p)

    pub fresh : (h : List (Happening C S)) → AreRight b h → (p : C) (held : Held) → link b p h ≡ Some held → is_dialing held ≡ true →
        IsFresh held
    fresh h right p held linked dial = fresh_at h right p held linked dial
