-- Links and kept grants are of exactly the peers that are reserved or connected.
use Rattle.std.proofs.Common.{◌≡◌, ℕ, ◌≤◌, Bool, true, false, not, ◌&&◌, ◌||◌, List, [], ◌∷◌, ◌++◌, Option, Some, None, refl, sym, ◌∙◌, ap, subst}
use Rattle.std.specs.Prelude.{if◌then◌else◌, is_some, option_map, nat_lt}
use Rattle.std.specs.Option.{IsSomeAnd}
use Rattle.std.specs.Duration.{as_nanos}
use Rattle.std.proofs.lemmas.Map.Lookups.{CmpEqualImpliesEq}
use Rattle.std.proofs.lemmas.Map.Views.{tells_apart}
use Rattle.std.specs.declared.cmp.Ordering.{Ordering}
use Rattle.std.specs.declared.time.Duration.{Duration}
use Rattle.p2p_directory.specs.Held.{held_of}
use Rattle.p2p_directory.specs.Received.{Wire}
use Rattle.p2p_directory.specs.declared.node.setup.Setup.{Setup}
use Rattle.p2p_driver.specs.declared.pace.Pace.{Pace}
use Rattle.p2p_driver.specs.Steps.{IsBusy}
use Rattle.p2p_tracker.specs.Calls.{Settings, Call}
use Rattle.p2p_tracker.specs.Calls.Call.{Track, Dial, Listen, Connect, Release, Update, Block, UnblockExpired, ForgetCooled}
use Rattle.p2p_tracker.specs.History.{same}
use Rattle.p2p_tracker.specs.Answers.{was_granted, may_listen_at, may_release}
use Rattle.p2p_tracker.specs.World.{listen_event}
use Rattle.p2p_directory.specs.Run.{world_after, event_of}
use Rattle.p2p_directory.specs.Laws.Steps.{is_busy_in, is_busy_after}
use Rattle.p2p_directory.proofs.LawsOfRuns.OneCall
use Rattle.p2p_driver.specs.declared.links.Held.{Held}
use Rattle.p2p_driver.specs.Frames.{Outcome}
use Rattle.p2p_driver.specs.Happenings.{Happening, calls_of, calls_for, link_at, opened_by, ends_by, granted_by, spends_by, grant_at, heard_as, is_greeted, link_count, inbound_count}
use Rattle.p2p_driver.specs.Grants.{unless_linked, kept_grant, is_cooling}
use Rattle.p2p_driver.specs.Links.{link_of}
use Rattle.p2p_driver.specs.Drivers.{DriverView, Base, DriverStandsAt, DriverStands, base_of, AreRight, link, kept, stays, may_begin, may_adopt, is_eligible, has_outbound_place, has_place}
use Rattle.p2p_driver.proofs.GrantHistory.{grant_after, grant_later, grant_stays, grant_begins}
use Rattle.p2p_driver.proofs.LinkHistory.{Touch, touch_by, link_after, link_later, link_opens, link_adopts, link_dials, link_hears, ended_link}

still_linked : (touch : Touch) (o : Option Held) → is_some (link_after false touch o) ≡ is_some o
still_linked touch None = refl
still_linked touch (Some held) = refl

pub or_true : (x : Bool) → (x || true) ≡ true
or_true true = refl
or_true false = refl

-- a link and a grant, by whether one begins, ends or is spent
one_begins : (b : Bool) (held : Held) (o : Option Held) (g : Option Duration) →
    (is_some (if b then Some held else o) || is_some g) ≡ (b || (is_some o || is_some g))
one_begins true held o g = refl
one_begins false held o g = refl

dial_begins : (b : Bool) (held : Held) (t : Duration) (o : Option Held) (g : Option Duration) →
    (is_some (if b then Some held else o) || is_some (if b then Some t else g)) ≡ (b || (is_some o || is_some g))
dial_begins true held t o g = refl
dial_begins false held t o g = refl

both_end : (b : Bool) (o : Option Held) (g : Option Duration) →
    (is_some (if b then None else o) || is_some (grant_after None b g)) ≡ (not b && (is_some o || is_some g))
both_end true o g = refl
both_end false o g = refl

still_granted : (b : Bool) (o : Option Held) (g : Option Duration) → (b ≡ true → is_some g ≡ true) →
    (is_some (if b then None else o) || is_some g) ≡ (is_some o || is_some g)
still_granted true o g has = has refl ∙ sym (or_true (is_some o)) ∙ ap (λ x. is_some o || x) (sym (has refl))
still_granted false o g has = refl

grant_ends : (b : Bool) (o : Option Held) (g : Option Duration) (touch : Touch) → (b ≡ true → is_some o ≡ false) →
    (is_some (link_after false touch o) || is_some (grant_after None b g)) ≡ (not b && (is_some o || is_some g))
grant_ends true o g touch none = ap (λ x. x || false) (still_linked touch o ∙ none refl)
grant_ends false o g touch none = ap (λ x. x || is_some g) (still_linked touch o)

taken_over : (b : Bool) (held : Held) (o : Option Held) (g : Option Duration) → (b ≡ true → is_some g ≡ true) →
    (is_some (if b then Some held else o) || is_some (grant_after None b g)) ≡ (is_some o || is_some g)
taken_over true held o g has = sym (ap (λ x. is_some o || x) (has refl) ∙ or_true (is_some o))
taken_over false held o g has = refl

heard_on : (b greets : Bool) (f : Held → Held) (o : Option Held) (g : Option Duration) → (b ≡ true → is_some o ≡ true) →
    (is_some (if b then option_map f o else o) || is_some (grant_after None (greets && b) g)) ≡ (is_some o || is_some g)
heard_on true greets f None g linked = let is = linked refl in absurd cc
heard_on true greets f (Some held) g linked = refl
heard_on false true f o g linked = refl
heard_on false false f o g linked = refl

kept_unlinked : (o : Option Held) (g : Option Duration) → is_some (unless_linked o g) ≡ true → is_some o ≡ false
kept_unlinked None g has = refl
kept_unlinked (Some held) g has = absurd cc

kept_granted : (o : Option Held) (g : Option Duration) → is_some (unless_linked o g) ≡ true → is_some g ≡ true
kept_granted None g has = has
kept_granted (Some held) g has = absurd cc

both_parts : (x y : Bool) → (x && y) ≡ true → (x ≡ true) × (y ≡ true)
both_parts true true is = (refl, refl)
both_parts true false is = absurd cc
both_parts false y is = absurd cc

pub is_linked : (P : Held → Type 0) (o : Option Held) → IsSomeAnd o P → is_some o ≡ true
is_linked P None at = absurd at
is_linked P (Some held) at = refl

third : (x y z : Bool) → (x && (y && z)) ≡ true → z ≡ true
third true true z is = is
third true false z is = absurd cc
third false y z is = absurd cc

module _ {C S : Type 0} (b : Base C S) where
  abbrev pub d : Settings C S
  d = b.made.directory

  -- a peer that may be reserved for its stream is granted its reservation
  pub may_listen : (h : List (Happening C S)) (p : C) (t : ℕ) → may_begin b h p t ≡ true →
      may_listen_at d (world_after d (calls_of h)) p t ≡ true
  may_listen h p t may = third (has_place b h) (not (is_some (link b p h))) (may_listen_at d (world_after d (calls_of h)) p t) may

  granted : (h : List (Happening C S)) (p : C) (t draw : ℕ) → may_begin b h p t ≡ true →
      was_granted (event_of d (calls_of h) (Listen p t draw)) ≡ true
  granted h p t draw may = ap (λ b. was_granted (listen_event d p t draw b)) (may_listen h p t may)

  -- who may come in by a kept grant has one
  pub adopts_kept : (h : List (Happening C S)) (p : C) (t : ℕ) → may_adopt b h p t ≡ true → is_some (kept b p h) ≡ true
  adopts_kept h p t may = (both_parts (is_some (kept b p h)) (is_eligible b h p t)
      (third (nat_lt (link_count h) b.pace.links) (has_outbound_place b h || nat_lt (inbound_count h) b.pace.inbound)
      (is_some (kept b p h) && is_eligible b h p t) may)).0

  -- .. and so has a peer whose grant stays
  pub stays_has_grant : (h : List (Happening C S)) (p : C) (t : ℕ) → stays b h p t ≡ true → is_some (grant_at d p h) ≡ true
  stays_has_grant h p t may = go (grant_at d p h) (both_parts (is_cooling d.cooldown t (grant_at d p h)) (is_eligible b h p t) may).0
    where
      go : (o : Option Duration) → is_cooling d.cooldown t o ≡ true → is_some o ≡ true
      go None is = absurd cc
      go (Some granted) is = refl

  -- it has a link, or a grant of a dial on which it hasn't greeted
  abbrev pub is_reserved_by : List (Happening C S) → C → Bool
  is_reserved_by h p = is_some (link b p h) || is_some (grant_at d p h)

  pub link_or_kept : (h : List (Happening C S)) (p : C) → (is_some (link b p h) || is_some (kept b p h)) ≡ is_reserved_by h p
  link_or_kept h p = go (link b p h)
    where
      go : (o : Option Held) → (is_some o || is_some (unless_linked o (grant_at d p h))) ≡ (is_some o || is_some (grant_at d p h))
      go None = refl
      go (Some held) = refl

  -- it never has a link and a kept grant
  pub not_both : (h : List (Happening C S)) (p : C) → (is_some (link b p h) && is_some (kept b p h)) ≡ false
  not_both h p = go (link b p h)
    where
      go : (o : Option Held) → (is_some o && is_some (unless_linked o (grant_at d p h))) ≡ false
      go None = refl
      go (Some held) = refl

  -- .. as before
  stays_so : (e : Happening C S) (h : List (Happening C S)) (p : C) → opened_by d p e ≡ None → ends_by d p e ≡ false →
      granted_by d p e ≡ None → spends_by d p e ≡ false → is_reserved_by (e ∷ h) p ≡ is_reserved_by h p
  stays_so e h p opens ends grants spends = λ i. linked i || is_some (grant_stays d p e h grants spends i)
    where
      linked : is_some (link b p (e ∷ h)) ≡ is_some (link b p h)
      linked = ap is_some (link_later d p e h opens ∙ ap (λ x. link_after x (touch_by d p e) (link_at d p h)) ends)
          ∙ still_linked (touch_by d p e) (link_at d p h)

  module _ (some : 1 ≤ b.made.directory.max_sets) (exact : CmpEqualImpliesEq b.made.directory.cmp) where
    abbrev pub busy : List (Call C S) → C → Bool
    busy cs p = is_busy_in (world_after d cs) p

    -- one more call
    called : (cs : List (Call C S)) (c : Call C S) (p : C) →
        busy (c ∷ cs) p ≡ is_busy_after d c (was_granted (event_of d cs c)) p (busy cs p)
    called cs c p = OneCall.busy_is d some exact cs c p

    -- .. of those since a peer was heard
    called_for : (cs : List (Call C S)) (q : C) (t : Duration) (outcome : Outcome C S) (p : C) →
        busy (calls_for q t outcome ++ cs) p ≡ busy cs p
    called_for cs q t (Outcome.Waits waiting) p = refl
    called_for cs q t (Outcome.Greets dialer info question) p =
        called (Update (info ∷ []) ∷ cs) (Connect q dialer) p ∙ called cs (Update (info ∷ [])) p
    called_for cs q t (Outcome.Takes infos) p = called cs (Update infos) p
    called_for cs q t (Outcome.Answers reply) p = refl
    called_for cs q t (Outcome.Delivers message) p = refl
    called_for cs q t Outcome.Ignores p = refl
    called_for cs q t (Outcome.Breaks breach (Some taken)) p = called cs (Block q (as_nanos t)) p
    called_for cs q t (Outcome.Breaks breach None) p = refl
    called_for cs q t Outcome.IsEarly p = refl
    called_for cs q t Outcome.LacksChannel p = refl
    called_for cs q t (Outcome.Delays next) p = refl
    called_for cs q t (Outcome.Reads kind looked) p = refl

    pub reserved_is_busy : (h : List (Happening C S)) → AreRight b h → (p : C) →
        is_reserved_by h p ≡ is_busy_in (world_after d (calls_of h)) p
    reserved_is_busy [] right p = refl
    reserved_is_busy (Happening.Proved n q t draw ∷ h) right p =
        (λ i. is_some (link_opens d p q n t draw h i) || is_some (grant_stays d p (Happening.Proved n q t draw) h refl refl i))
        ∙ one_begins (same d q p) _ (link_at d p h) (grant_at d p h)
        ∙ ap (λ x. same d q p || x) (reserved_is_busy h right.2 p)
        ∙ sym (called (calls_of h) (Listen q (as_nanos t) (as_nanos draw)) p
        ∙ ap (λ x. (x && same d q p) || busy (calls_of h) p)
        (granted h q (as_nanos t) (as_nanos draw) right.0.1))
    reserved_is_busy (Happening.Adopted n q t outbound ∷ h) right p =
        (λ i. is_some (link_adopts d p q n t outbound h i) || is_some (grant_later d p (Happening.Adopted n q t outbound) h i))
        ∙ taken_over (same d q p) _ (link_at d p h) (grant_at d p h)
        (λ is. subst (λ r. is_some (grant_at d r h) ≡ true) (tells_apart exact q p is) (kept_granted (link b q h) (grant_at d q h) (adopts_kept h q (as_nanos t) right.0.1)))
        ∙ reserved_is_busy h right.2 p
    reserved_is_busy (Happening.Dialed n q t draw word ingress ∷ h) right p =
        (λ i. is_some (link_dials d p q n t draw word ingress h i) || is_some (grant_begins d p q n t draw word ingress h i))
        ∙ dial_begins (same d q p) _ t (link_at d p h) (grant_at d p h)
        ∙ ap (λ x. same d q p || x) (reserved_is_busy h right.2 p)
        ∙ sym (called (calls_of h) (Dial q (as_nanos t) (as_nanos draw)) p
        ∙ ap (λ x. (x && same d q p) || busy (calls_of h) p) right.0.granted)
    reserved_is_busy (Happening.Ended n q t direction ∷ h) right p =
        (λ i. is_some ((link_later d p (Happening.Ended n q t direction) h refl ∙ ended_link (same d q p) (link_at d p h)) i)
        || is_some (grant_later d p (Happening.Ended n q t direction) h i))
        ∙ both_end (same d q p) (link_at d p h) (grant_at d p h)
        ∙ ap (λ x. not (same d q p) && x) (reserved_is_busy h right.2 p)
        ∙ sym (called (calls_of h) (Release q) p)
    reserved_is_busy (Happening.Failed n q t direction ∷ h) right p =
        (λ i. is_some ((link_later d p (Happening.Failed n q t direction) h refl ∙ ended_link (same d q p) (link_at d p h)) i)
        || is_some (grant_stays d p (Happening.Failed n q t direction) h refl refl i))
        ∙ still_granted (same d q p) (link_at d p h) (grant_at d p h)
        (λ is. subst (λ r. is_some (grant_at d r h) ≡ true) (tells_apart exact q p is) (stays_has_grant h q (as_nanos t) right.0.1))
        ∙ reserved_is_busy h right.2 p
    reserved_is_busy (Happening.Released q t ∷ h) right p =
        (λ i. is_some (link_later d p (Happening.Released q t) h refl i) || is_some (grant_later d p (Happening.Released q t) h i))
        ∙ grant_ends (same d q p) (link_at d p h) (grant_at d p h) (touch_by d p (Happening.Released q t))
        (λ is. subst (λ r. is_some (link b r h) ≡ false) (tells_apart exact q p is) (kept_unlinked (link b q h) (grant_at d q h) right.0.0))
        ∙ ap (λ x. not (same d q p) && x) (reserved_is_busy h right.2 p)
        ∙ sym (called (calls_of h) (Release q) p)
    reserved_is_busy (Happening.SetCame t index primary secondary torn ∷ h) right p =
        stays_so (Happening.SetCame t index primary secondary torn) h p refl refl refl refl ∙ reserved_is_busy h right.2 p
        ∙ sym (called (calls_of h) (Track index primary secondary) p)
    reserved_is_busy (Happening.StaleSetCame index primary secondary ∷ h) right p =
        stays_so (Happening.StaleSetCame index primary secondary) h p refl refl refl refl ∙ reserved_is_busy h right.2 p
        ∙ sym (called (calls_of h) (Track index primary secondary) p)
    reserved_is_busy (Happening.Heard n q t owed cause outcome ∷ h) right p =
        (λ i. is_some (link_hears d p q n t owed cause outcome h i) || is_some (grant_later d p (Happening.Heard n q t owed cause outcome) h i))
        ∙ heard_on (same d q p) (is_greeted outcome) (heard_as t owed outcome) (link_at d p h) (grant_at d p h)
        (λ is. subst (λ r. is_some (link b r h) ≡ true) (tells_apart exact q p is) (is_linked _ (link b q h) right.0))
        ∙ reserved_is_busy h right.2 p
        ∙ sym (called_for (calls_of h) q t outcome p)
    reserved_is_busy (Happening.Given infos t ∷ h) right p =
        stays_so (Happening.Given infos t) h p refl refl refl refl ∙ reserved_is_busy h right.2 p
        ∙ sym (called (calls_of h) (Update infos) p)
    reserved_is_busy (Happening.Barred q t taken ∷ h) right p =
        stays_so (Happening.Barred q t taken) h p refl refl refl refl ∙ reserved_is_busy h right.2 p
        ∙ sym (called (calls_of h) (Block q (as_nanos t)) p)
    reserved_is_busy (Happening.Passed t ∷ h) right p =
        stays_so (Happening.Passed t) h p refl refl refl refl ∙ reserved_is_busy h right.2 p
        ∙ sym (called (ForgetCooled (as_nanos t) ∷ calls_of h) (UnblockExpired (as_nanos t)) p
        ∙ called (calls_of h) (ForgetCooled (as_nanos t)) p)
    reserved_is_busy (e ∷ h) right p = stays_so e h p refl refl refl refl ∙ reserved_is_busy h right.2 p

    -- a peer that has a link, or of which a grant is kept, is reserved or connected
    pub linked_is_busy : (h : List (Happening C S)) → AreRight b h → (p : C) →
        (is_some (link b p h) || is_some (kept b p h)) ≡ is_busy_in (world_after d (calls_of h)) p
    linked_is_busy h right p = link_or_kept h p ∙ reserved_is_busy h right p

    -- a peer that has a link, or a grant, may be released
    pub may_release_reserved : (h : List (Happening C S)) → AreRight b h → (p : C) → is_reserved_by h p ≡ true →
        may_release d (world_after d (calls_of h)) p ≡ true
    may_release_reserved h right p has = sym (reserved_is_busy h right p) ∙ has

-- WHEREVER ITS NODE STANDS

module _ {C S : Type 0} (cmp : C → C → Ordering) (wire : Wire C S) (exact : CmpEqualImpliesEq cmp) where
  -- a reservation is held of exactly the peers that have a link, or of which a grant is kept
  pub linked_is_held : (given : Setup C S) (pace : Pace) (h : List (Happening C S)) (v : DriverView C S) →
      DriverStandsAt (base_of cmp wire given pace) h v → (p : C) →
      is_some (held_of cmp v.node.held p) ≡ (is_some (link_of cmp v.links p) || is_some (kept_grant cmp v.links v.next_dial.grants p))
  linked_is_held given pace h v at p = at.node.holds.peers p
      ∙ sym (linked_is_busy (base_of cmp wire given pace) given.cfg.max_sets.ok exact h at.right p)
      ∙ sym (λ i. is_some (at.links p i) || is_some (unless_linked (at.links p i) (at.grants p i)))

  -- such a peer may be released, wherever the node stands
  pub reserved_is_busy_anywhere : (v : DriverView C S) → DriverStands cmp wire v → (p : C) →
      (is_some (link_of cmp v.links p) || is_some (kept_grant cmp v.links v.next_dial.grants p)) ≡ true → IsBusy cmp p v.node
  reserved_is_busy_anywhere v at p has = λ given calls standing. sym (standing.holds.peers p)
      ∙ linked_is_held at.given at.pace at.history v at.stands p ∙ has

  pub linked_is_busy_anywhere : (v : DriverView C S) → DriverStands cmp wire v → (p : C) →
      is_some (link_of cmp v.links p) ≡ true → IsBusy cmp p v.node
  linked_is_busy_anywhere v at p has = reserved_is_busy_anywhere v at p
      (ap (λ x. x || is_some (kept_grant cmp v.links v.next_dial.grants p)) has)
