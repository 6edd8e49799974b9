-- What one more event changes of what the past says, and which events a call may make, in whatever world: so a law of
-- events needs no look inside the calls.
use Rattle.std.proofs.Common.{◌≡◌, ℕ, ◌+◌, ◌-◌, Bool, true, false, ◌||◌, List, [], ◌∷◌, ◌++◌, length, drop, Option, Some, None, refl, sym, ◌∙◌, ap, arith, inl, inr, subst}
use Rattle.std.specs.Prelude.{if◌then◌else◌, nat_le, option_map, ◌⊎◌}
use Rattle.std.specs.List.{list_any}
use Rattle.std.proofs.lemmas.List.{append-nil, drop-append-le, drop-drop, length-append, length-drop}
use Rattle.p2p_tracker.specs.Calls.{Settings, Grant, Event, Call, SetAt}
use Rattle.p2p_tracker.specs.declared.record.Status.TheVariants.{Inert, Reserved, Active}
use Rattle.p2p_tracker.specs.Calls.Event.{Nothing, SetTaken, Granted, Connected, Released, Updated, Blocked, Expired, Forgot}
use Rattle.p2p_tracker.specs.Moments.{cap}
use Rattle.p2p_tracker.specs.History
use Rattle.p2p_tracker.specs.History.{last_with, found_with, last_unless_ended, unless_ended}
use Rattle.p2p_tracker.specs.Lists.{last_of}
use Rattle.p2p_tracker.specs.World
use Rattle.p2p_discovery.specs.declared.types.ingress.Ingress.{Ingress}
use Rattle.p2p_tracker.specs.declared.record.Status.{Status}
use Rattle.p2p_tracker.specs.Calls.Call.{Track, Dial, Listen, Connect, Release, Update, Block, UnblockExpired, ForgetCooled, Ask}
use Rattle.p2p_tracker.specs.World.{World}

-- RETAINED SETS

last_of-push : {A : Type 0} (n : ℕ) (xs : List A) (y : A) → last_of n (xs ++ y ∷ []) ≡ last_of n (last_of n xs ++ y ∷ [])
last_of-push {A} n xs y =
    let k : ℕ = length xs - n in
    let inner : drop k xs ++ y ∷ [] ≡ drop k (xs ++ y ∷ []) = sym (drop-append-le k xs (y ∷ []) (omega arith)) in
    let size : k + (length (drop k xs ++ y ∷ []) - n) ≡ length (xs ++ y ∷ []) - n =
    omega (arith, length-append (drop k xs) (y ∷ []), length-drop k xs, length-append xs (y ∷ [])) in
    sym (ap (λ ys. drop (length (drop k xs ++ y ∷ []) - n) ys) inner ∙ drop-drop (length (drop k xs ++ y ∷ []) - n)
    k (xs ++ y ∷ []) ∙ ap (λ m. drop m (xs ++ y ∷ [])) size)

-- WHAT LASTS, after one more event

abbrev pub lasted : {A : Type 0} → Option A → (A → Bool) → Option A → Option A
lasted (Some a) ended old = Some a
lasted None ended None = None
lasted None ended (Some a) = if ended a then None else Some a

lasted_none : {A : Type 0} (old : Option A) → lasted None (λ a. false) old ≡ old
lasted_none None = refl
lasted_none (Some a) = refl

pub lasting_step : {E A : Type 0} (gives : E → Option A) (ends : A → E → Bool) (e : E) (h : List E) →
    last_unless_ended gives ends (e ∷ h) ≡ lasted (gives e) (λ a. ends a e) (last_unless_ended gives ends h)
lasting_step {E} {A} gives ends e h = go (gives e) (last_with gives h)
  where
    go : (given : Option A) (found : Option (A × List E)) →
        unless_ended ends (found_with given e found) ≡ lasted given (λ a. ends a e) (unless_ended ends found)
    go (Some a) found = refl
    go None None = refl
    go None (Some found) = ended found.0 (list_any (ends found.0) found.1)
      where
        ended : (a : A) (c : Bool) → (if ends a e || c then None else Some a) ≡ lasted None (λ x. ends x e) (if c then None else Some a)
        ended a true = elim (ends a e) as (λ b. (if b || true then None else Some a) ≡ None) [ true ↦ refl | false ↦ refl ]
        ended a false = elim (ends a e) as (λ b. (if b || false then None else Some a) ≡ (if b then None else Some a)) [ true ↦ refl | false ↦ refl ]

module _ {C S : Type 0} (s : Settings C S) where
  pub retained_step : (e : Event C S) (h : List (Event C S)) → History.retained_sets s (e ∷ h) ≡ World.sets_after s e (History.retained_sets s h)
  retained_step (SetTaken taken) h = last_of-push s.max_sets (History.taken_sets s h) taken
  retained_step _ h = ap (last_of s.max_sets) (append-nil (History.taken_sets s h))

  -- STATUS

  -- an event that is no grant
  other_status : (p : C) (e : Event C S) (found : Option (Grant × List (Event C S))) →
      History.status_since s p (found_with None e found)
      ≡ (if History.is_release s p e then Inert else if History.is_connect s p e then World.status_connected s
      (History.status_since s p found) else History.status_since s p found)
  other_status p e None = none (History.is_release s p e) (History.is_connect s p e)
    where
      none : (r c : Bool) → Inert ≡ (if r then Inert else if c then Inert else Inert)
      none true c = refl
      none false true = refl
      none false false = refl
  other_status p e (Some found) =
      some (History.is_release s p e) (History.is_connect s p e) (list_any (History.is_release s p) found.1)
      (list_any (History.is_connect s p) found.1)
    where
      some : (r c rs cs : Bool) → (if r || rs then Inert else if c || cs then Active else Reserved)
          ≡ (if r then Inert else if c then World.status_connected s
          (if rs then Inert else if cs then Active else Reserved) else if rs then Inert else if cs then Active
          else Reserved)
      some true c rs cs = refl
      some false true true cs = refl
      some false true false true = refl
      some false true false false = refl
      some false false rs cs = refl

  pub status_step : (p : C) (e : Event C S) (h : List (Event C S)) → History.status_at s p (e ∷ h) ≡ World.status_after s p e (History.status_at s p h)
  status_step p (Granted q grant) h = go (History.same s q p)
    where
      go : (b : Bool) →
          History.status_since s p
          (found_with (if b then Some grant else None) (Granted q grant) (last_with (History.grant_by s p) h))
          ≡ (if b then Reserved else History.status_at s p h)
      go true = refl
      go false = other_status p (Granted q grant) (last_with (History.grant_by s p) h)
  status_step p e h = other_status p e (last_with (History.grant_by s p) h)

  -- WHAT LASTS

  held_step_of : (p : C) (e : Event C S) (h : List (Event C S)) →
      History.held_at s p (e ∷ h) ≡ lasted (History.grant_by s p e) (λ grant. History.is_release s p e) (History.held_at s p h)
  held_step_of p e h = lasting_step (History.grant_by s p) (λ grant. History.is_release s p) e h

  pub held_step : (p : C) (e : Event C S) (h : List (Event C S)) → History.held_at s p (e ∷ h) ≡ World.held_after s p e (History.held_at s p h)
  held_step p (Granted q grant) h = held_step_of p (Granted q grant) h ∙ go (History.same s q p) (History.held_at s p h)
    where
      go : (b : Bool) (held : Option Grant) → lasted (if b then Some grant else None) (λ g. false) held ≡ (if b then Some grant else held)
      go true held = refl
      go false held = lasted_none held
  held_step p (Released q direction) h = held_step_of p (Released q direction) h ∙ go (History.same s q p) (History.held_at s p h)
    where
      go : (b : Bool) (held : Option Grant) → lasted None (λ g. b) held ≡ (if b then None else held)
      go true None = refl
      go true (Some g) = refl
      go false held = lasted_none held
  held_step p e h = held_step_of p e h ∙ lasted_none (History.held_at s p h)

  unblock_step_of : (p : C) (e : Event C S) (h : List (Event C S)) →
      History.unblock_at s p (e ∷ h) ≡ lasted (History.block_by s p e) (λ m. History.is_expiry s m e) (History.unblock_at s p h)
  unblock_step_of p e h = lasting_step (History.block_by s p) (History.is_expiry s) e h

  pub unblock_step : (p : C) (e : Event C S) (h : List (Event C S)) → History.unblock_at s p (e ∷ h) ≡ World.unblock_after s p e (History.unblock_at s p h)
  unblock_step p (Blocked q t) h = unblock_step_of p (Blocked q t) h ∙ go (History.same s q p) (History.unblock_at s p h)
    where
      go : (b : Bool) (moment : Option ℕ) →
          lasted (if b then Some (cap (t + s.block_duration)) else None) (λ m. false) moment
          ≡ (if b then Some (cap (t + s.block_duration)) else moment)
      go true moment = refl
      go false moment = lasted_none moment
  unblock_step p (Expired t) h = unblock_step_of p (Expired t) h ∙ go (History.unblock_at s p h)
    where
      go : (moment : Option ℕ) → lasted None (λ m. nat_le m t) moment ≡ World.unblock_after s p (Expired t) moment
      go None = refl
      go (Some m) = refl
  unblock_step p e h = unblock_step_of p e h ∙ lasted_none (History.unblock_at s p h)

  -- what is kept of the last grant
  kept_step : (p : C) (e : Event C S) (h : List (Event C S)) →
      History.cooldown_at s p (e ∷ h) ≡ option_map (History.moments_of s)
      (lasted (History.grant_by s p e) (λ grant. History.is_forgetting s grant e)
      (last_unless_ended (History.grant_by s p) (History.is_forgetting s) h))
  kept_step p e h = ap (option_map (History.moments_of s)) (lasting_step (History.grant_by s p) (History.is_forgetting s) e h)

  -- an event that is neither a grant of p nor forgets
  kept_same : (kept : Option Grant) → option_map (History.moments_of s) (lasted None (λ g. false) kept) ≡ option_map (History.moments_of s) kept
  kept_same kept = ap (option_map (History.moments_of s)) (lasted_none kept)

  pub cooldown_step : (p : C) (e : Event C S) (h : List (Event C S)) → History.cooldown_at s p (e ∷ h) ≡ World.cooldown_after s p e (History.cooldown_at s p h)
  cooldown_step p (Granted q grant) h =
      kept_step p (Granted q grant) h
      ∙ go (History.same s q p) (last_unless_ended (History.grant_by s p) (History.is_forgetting s) h)
    where
      go : (b : Bool) (kept : Option Grant) → option_map (History.moments_of s) (lasted (if b then Some grant else None) (λ g. false) kept)
          ≡ (if b then Some (History.moments_of s grant) else option_map (History.moments_of s) kept)
      go true kept = refl
      go false kept = kept_same kept
  cooldown_step p (Forgot t) h = kept_step p (Forgot t) h ∙ go (last_unless_ended (History.grant_by s p) (History.is_forgetting s) h)
    where
      go : (kept : Option Grant) → option_map (History.moments_of s) (lasted None (λ g. nat_le (History.moments_of s g).dial_at t) kept)
          ≡ World.cooldown_after s p (Forgot t) (option_map (History.moments_of s) kept)
      go None = refl
      go (Some g) =
          elim (nat_le (History.moments_of s g).dial_at t) as
          (λ b. option_map (History.moments_of s) (if b then None else Some g)
          ≡ (if b then None else Some (History.moments_of s g))) [ true ↦ refl | false ↦ refl ]
  cooldown_step p e h = kept_step p e h ∙ kept_same (last_unless_ended (History.grant_by s p) (History.is_forgetting s) h)

-- WHAT A CALL MAY MAKE: a question makes no event

module _ {C S : Type 0} where
  -- the call may make this event
  abbrev pub Makes : Call C S → Event C S → Type 0
  Makes c Nothing = Unit {0}
  Makes c (SetTaken taken) = (index : ℕ) × (primary : List C) × (secondary : List C) × (c ≡ Track index primary secondary)
  Makes c (Granted p grant) = (c ≡ Dial p grant.t grant.draw) ⊎ (c ≡ Listen p grant.t grant.draw)
  Makes c (Connected p dialer) = c ≡ Connect p dialer
  Makes c (Released p direction) = c ≡ Release p
  Makes c (Updated infos) = c ≡ Update infos
  Makes c (Blocked p t) = c ≡ Block p t
  Makes c (Expired t) = c ≡ UnblockExpired t
  Makes c (Forgot t) = c ≡ ForgetCooled t

-- each call makes such an event
pub makes : {C S : Type 0} (s : Settings C S) (sets : List (SetAt C)) (w : World C S) (c : Call C S) → Makes c (World.event_in s sets w c)
makes {C} {S} s sets w (Track index primary secondary) = go _ _
  where
    go : (b : Bool) (taken : SetAt C) → Makes {S = S} (Track index primary secondary) (if b then SetTaken taken else Nothing)
    go true taken = (index, primary, secondary, refl)
    go false taken = tt
makes {C} {S} s sets w (Dial p t draw) = go _ _
  where
    go : (granted : Bool) (address : Option Ingress) → Makes (Dial p t draw) (World.dial_event s p t draw granted address)
    go granted None = tt
    go true (Some a) = inl refl
    go false (Some a) = tt
makes {C} {S} s sets w (Listen p t draw) = go _
  where
    go : (granted : Bool) → Makes (Listen p t draw) (World.listen_event s p t draw granted)
    go true = inr refl
    go false = tt
makes {C} {S} s sets w (Connect p dialer) = go _
  where
    go : (status : Status) → Makes (Connect p dialer) (World.connect_event s p dialer status)
    go Inert = tt
    go Reserved = refl
    go Active = tt
makes {C} {S} s sets w (Release p) = go _
  where
    go : (held : Option Grant) → Makes (Release p) (World.release_event s p held)
    go None = tt
    go (Some grant) = refl
makes {C} {S} s sets w (Block p t) = go _
  where
    go : (b : Bool) → Makes {S = S} (Block p t) (if b then Blocked p t else Nothing)
    go true = refl
    go false = tt
makes {C} {S} s sets w (Ask question) = tt
makes {C} {S} s sets w _ = refl

-- what holds of a call and what it does holds of an equal call and its event
pub at_call : {C S : Type 0} (s : Settings C S) (sets : List (SetAt C)) (w : World C S) {c d : Call C S} {e : Event C S} (F : Call C S → Event C S → Type 0) →
    c ≡ d → World.event_in s sets w c ≡ e → F d (World.event_in s sets w d) → F c e
at_call s sets w {c = c} F same is f = subst (F c) is (subst (λ x. F x (World.event_in s sets w x)) (sym same) f)
