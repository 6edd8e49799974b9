-- A set that was accepted closes the links of those that it tears down.
use Rattle.std.proofs.Common.{◌≡◌, ℕ, zero, Bool, true, false, ◌||◌, List, [], ◌∷◌, Option, Some, None, refl, sym, ◌∙◌, ap, subst}
use Rattle.std.proofs.Common.{arith}
use Rattle.std.specs.Prelude.{if◌then◌else◌, option_map}
use Rattle.std.specs.List.{Contains}
use Rattle.std.specs.BTreeMap.{is_at}
use Rattle.std.specs.declared.time.Duration.{Duration}
use Rattle.std.proofs.lemmas.List.Elements.{Contains-append_left, Contains-append_right}
use Rattle.std.proofs.lemmas.Map.Views.{tells_apart}
use Rattle.std.proofs.lemmas.Map.Lookups.{CmpEqualImpliesEq}
use Rattle.p2p_discovery.specs.Ordered.{has_key}
use Rattle.p2p_tracker.specs.Calls.{Settings}
use Rattle.p2p_tracker.specs.History.{same}
use Rattle.p2p_driver.specs.declared.actions.Why.{Why}
use Rattle.p2p_driver.specs.declared.actions.Why.TheVariants as why
use Rattle.p2p_driver.specs.declared.links.Held.{Held}
use Rattle.p2p_driver.specs.declared.links.Phase.{Phase}
use Rattle.p2p_driver.specs.declared.links.Phase.TheVariants as phase
use Rattle.p2p_driver.specs.Happenings.{Happening, link_at, shut, shut_in, shut_all, downed, closed_at, says_by, barred}
use Rattle.p2p_driver.specs.Frames.{Cause, Outcome}
use Rattle.p2p_driver.specs.Links.{closed}
use Rattle.p2p_driver.specs.Laws.{closes, cut_by}
use Rattle.p2p_driver.proofs.LinkHistory.{link_later, link_after, link_hears, closing_if, closed_link}

module _ {C S : Type 0} (s : Settings C S) where
  pub closing : (t : Duration) (index : ℕ) (primary secondary torn : List C) (h : List (Happening C S)) (p : C) →
      link_at s p (Happening.SetCame t index primary secondary torn ∷ h)
      ≡ (if has_key s.cmp torn p then option_map closed (link_at s p h) else link_at s p h)
  closing t index primary secondary torn h p =
      link_later s p (Happening.SetCame t index primary secondary torn) h refl
      ∙ closed_link (has_key s.cmp torn p) (link_at s p h)

  first_of : {A : Type 0} (a : A) (xs : List A) → Contains (a ∷ xs) a
  first_of a xs = (zero, omega arith, refl)

  -- a link that isn't closing is closed
  shut_closes : (n : ℕ) (p : C) (w : Why) (ph : Phase) → ¬ (ph ≡ phase.Closing) → Contains (shut_in n p w ph) (closes n w)
  shut_closes n p w phase.Greeting isnt = first_of (closes n w) []
  shut_closes n p w phase.Open isnt = first_of (closes n w) (downed n p (Some w) phase.Open)
  shut_closes n p w phase.Closing isnt = absurd (isnt refl)

  -- in any links, of those whose links are closed one after the other
  shut_says : CmpEqualImpliesEq s.cmp → (links : C → Option Held) (torn : List C) (p : C) (held : Held) →
      has_key s.cmp torn p ≡ true → links p ≡ Some held → ¬ (held.phase ≡ phase.Closing) →
      Contains (shut_all s.cmp torn links) (closes held.number why.NoSet)
  shut_says exact links [] p held has linked isnt = absurd cc
  shut_says exact links (q ∷ ps) p held has linked isnt = go (is_at (s.cmp q) p) refl has
      (λ has as_before. shut_says exact (closed_at s.cmp q links) ps p held has (as_before ∙ linked) isnt)
    where
      go : (b : Bool) → is_at (s.cmp q) p ≡ b → (b || has_key s.cmp ps p) ≡ true →
          (has_key s.cmp ps p ≡ true → closed_at s.cmp q links p ≡ links p →
          Contains (shut_all s.cmp ps (closed_at s.cmp q links)) (closes held.number why.NoSet)) →
          Contains (shut_all s.cmp (q ∷ ps) links) (closes held.number why.NoSet)
      go true is has rest = Contains-append_left (shut q why.NoSet (links q)) (shut_all s.cmp ps (closed_at s.cmp q links)) (closes held.number why.NoSet)
          (subst (λ r. Contains (shut r why.NoSet (links r)) (closes held.number why.NoSet)) (sym (tells_apart exact q p is))
          (subst (λ o. Contains (shut p why.NoSet o) (closes held.number why.NoSet)) (sym linked)
          (shut_closes held.number p why.NoSet held.phase isnt)))
      go false is has rest = Contains-append_right (shut q why.NoSet (links q)) (shut_all s.cmp ps (closed_at s.cmp q links)) (closes held.number why.NoSet)
          (rest has (ap (λ b. if b then option_map closed (links p) else links p) is))

  pub says_close : CmpEqualImpliesEq s.cmp → (h : List (Happening C S)) (torn : List C) (p : C) (held : Held) →
      has_key s.cmp torn p ≡ true → link_at s p h ≡ Some held → ¬ (held.phase ≡ phase.Closing) →
      Contains (shut_all s.cmp torn (λ q. link_at s q h)) (closes held.number why.NoSet)
  says_close exact h torn p held has linked isnt = shut_says exact (λ q. link_at s q h) torn p held has linked isnt

  -- WHAT CUTS A LINK

  -- by a peer that is told, if it is this one
  told : (x : Bool) (v w : Why) → (if x then Some v else None) ≡ Some w → (x ≡ true) × (v ≡ w)
  told true v w is = (refl, cc)
  told false v w is = absurd cc

  closed_by : (x : Bool) (o : Option Held) → x ≡ true → link_after false (closing_if x) o ≡ option_map closed o
  closed_by x o is = closed_link x o ∙ ap (λ b. if b then option_map closed o else o) is

  heard_cut : (n : ℕ) (q : C) (t : Duration) (owed : ℕ) (cause : Cause) (outcome : Outcome C S) (h : List (Happening C S))
      (p : C) (w : Why) → cut_by s p (Happening.Heard n q t owed cause outcome) ≡ Some w →
      link_at s p (Happening.Heard n q t owed cause outcome ∷ h) ≡ option_map closed (link_at s p h)
  heard_cut n q t owed cause (Outcome.Breaks breach blocked) h p w is =
      link_hears s p q n t owed cause (Outcome.Breaks breach blocked) h
      ∙ ap (λ b. if b then option_map closed (link_at s p h) else link_at s p h) (told (same s q p) (why.Breach breach) w is).0
  heard_cut n q t owed cause Outcome.IsEarly h p w is =
      link_hears s p q n t owed cause Outcome.IsEarly h
      ∙ ap (λ b. if b then option_map closed (link_at s p h) else link_at s p h) (told (same s q p) why.Future w is).0
  heard_cut n q t owed cause Outcome.LacksChannel h p w is =
      link_hears s p q n t owed cause Outcome.LacksChannel h
      ∙ ap (λ b. if b then option_map closed (link_at s p h) else link_at s p h) (told (same s q p) why.NoChannel w is).0
  heard_cut n q t owed cause (Outcome.Reads kind looked) h p w is = absurd cc
  heard_cut n q t owed cause (Outcome.Delays next) h p w is = absurd cc
  heard_cut n q t owed cause (Outcome.Waits waiting) h p w is = absurd cc
  heard_cut n q t owed cause (Outcome.Greets dialer info question) h p w is = absurd cc
  heard_cut n q t owed cause (Outcome.Takes infos) h p w is = absurd cc
  heard_cut n q t owed cause (Outcome.Answers reply) h p w is = absurd cc
  heard_cut n q t owed cause (Outcome.Delivers message) h p w is = absurd cc
  heard_cut n q t owed cause Outcome.Ignores h p w is = absurd cc

  pub cut : (h : List (Happening C S)) (e : Happening C S) (p : C) (w : Why) → cut_by s p e ≡ Some w →
      link_at s p (e ∷ h) ≡ option_map closed (link_at s p h)
  cut h (Happening.Mistaken n q t) p w is = link_later s p (Happening.Mistaken n q t) h refl
      ∙ closed_by (same s q p) (link_at s p h) (told (same s q p) why.WrongKey w is).0
  cut h (Happening.Heard n q t owed cause outcome) p w is = heard_cut n q t owed cause outcome h p w is
  cut h (Happening.Barred q t taken) p w is = link_later s p (Happening.Barred q t taken) h refl
      ∙ closed_by (same s q p) (link_at s p h) (told (same s q p) why.Blocked w is).0
  cut h (Happening.Parted q t) p w is = link_later s p (Happening.Parted q t) h refl
      ∙ closed_by (same s q p) (link_at s p h) (told (same s q p) why.Application w is).0
  cut h e p w is = absurd cc

  module _ (greeting : List ℕ) (exact : CmpEqualImpliesEq s.cmp) (h : List (Happening C S)) (p : C) (held : Held)
      (linked : link_at s p h ≡ Some held) (isnt : ¬ (held.phase ≡ phase.Closing)) where
    -- the close of the link of one that is p is said
    shut_said : (q : C) (v w : Why) → (if same s q p then Some v else None) ≡ Some w →
        Contains (shut q v (link_at s q h)) (closes held.number w)
    shut_said q v w is = let at = told (same s q p) v w is in
        subst (λ r. Contains (shut r v (link_at s r h)) (closes held.number w)) (sym (tells_apart exact q p at.0))
        (subst (λ o. Contains (shut p v o) (closes held.number w)) (sym linked)
        (subst (λ x. Contains (shut_in held.number p v held.phase) (closes held.number x)) at.1
        (shut_closes held.number p v held.phase isnt)))

    heard_said : (n : ℕ) (q : C) (t : Duration) (owed : ℕ) (cause : Cause) (outcome : Outcome C S) (w : Why) →
        cut_by s p (Happening.Heard n q t owed cause outcome) ≡ Some w →
        Contains (says_by s greeting h (Happening.Heard n q t owed cause outcome)) (closes held.number w)
    heard_said n q t owed cause (Outcome.Breaks breach blocked) w is =
        Contains-append_left (shut q (why.Breach breach) (link_at s q h)) (barred q breach blocked) (closes held.number w)
        (shut_said q (why.Breach breach) w is)
    heard_said n q t owed cause Outcome.IsEarly w is = shut_said q why.Future w is
    heard_said n q t owed cause Outcome.LacksChannel w is = shut_said q why.NoChannel w is
    heard_said n q t owed cause (Outcome.Reads kind looked) w is = absurd cc
    heard_said n q t owed cause (Outcome.Delays next) w is = absurd cc
    heard_said n q t owed cause (Outcome.Waits waiting) w is = absurd cc
    heard_said n q t owed cause (Outcome.Greets dialer info question) w is = absurd cc
    heard_said n q t owed cause (Outcome.Takes infos) w is = absurd cc
    heard_said n q t owed cause (Outcome.Answers reply) w is = absurd cc
    heard_said n q t owed cause (Outcome.Delivers message) w is = absurd cc
    heard_said n q t owed cause Outcome.Ignores w is = absurd cc

    pub cut_said : (e : Happening C S) (w : Why) → cut_by s p e ≡ Some w →
        Contains (says_by s greeting h e) (closes held.number w)
    cut_said (Happening.Mistaken n q t) w is = shut_said q why.WrongKey w is
    cut_said (Happening.Heard n q t owed cause outcome) w is = heard_said n q t owed cause outcome w is
    cut_said (Happening.Barred q t taken) w is = shut_said q why.Blocked w is
    cut_said (Happening.Parted q t) w is = shut_said q why.Application w is
    cut_said e w is = absurd cc
