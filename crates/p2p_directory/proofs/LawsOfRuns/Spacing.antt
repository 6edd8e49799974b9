-- Grants keep the cooldown, and blocks hold, over all lives.
use Rattle.std.proofs.Common.{◌≡◌, ℕ, ◌+◌, ◌≤◌, max, Bool, true, false, not, ◌&&◌, ◌||◌, List, [], ◌∷◌, ◌++◌, Option, Some, None, inl, inr, refl, sym, ap, subst, arith}
use Rattle.std.specs.Prelude.{if◌then◌else◌, nat_le, option_to_list, option_map}
use Rattle.std.specs.List.{list_any}
use Rattle.std.proofs.lemmas.Bool.{leb-true, ltb-false, not-true, and_parts}
use Rattle.p2p_discovery.specs.declared.types.ingress.Ingress.{Ingress}
use Rattle.p2p_tracker.specs.Status.{is_inert}
use Rattle.p2p_tracker.specs.Blocks.{is_blocked}
use Rattle.p2p_tracker.specs.Cooldowns.{reservable_from}
use Rattle.p2p_tracker.specs.Calls.{Settings, Call, SetAt, Grant, Event}
use Rattle.p2p_tracker.specs.Calls.Call.{Dial, Listen, Block}
use Rattle.p2p_tracker.specs.Calls.Event.{Nothing, Granted, Blocked, Expired, Forgot}
use Rattle.p2p_tracker.specs.Moments.{cap}
use Rattle.p2p_tracker.specs.History
use Rattle.p2p_tracker.specs.History.{last_with, found_with, unless_ended}
use Rattle.p2p_tracker.specs.World
use Rattle.p2p_tracker.specs.World.{World}
use Rattle.p2p_directory.specs.Laws.Grants.{IsCooledAfter, IsCooledUnlessForgotten, IsSpaced, IsSpacedUnlessForgotten}
use Rattle.p2p_directory.specs.Laws.Grants.{KeepsCooldown, KeepsCooldownUnlessForgotten, moment_or, NeverGoBack}
use Rattle.p2p_directory.specs.Laws.Grants.{blocks_in, AreOver, IsOverAt, KeepsBlocks}
use Rattle.p2p_directory.proofs.Definitions.Steps
use Rattle.p2p_directory.proofs.Definitions.Steps.{Makes, makes, at_call}

module _ {C S : Type 0} (s : Settings C S) where
  -- WHAT AN EVENT TELLS OF THE WORLD BEFORE IT

  -- p's cooldown is over at t, and it isn't blocked
  pub record IsFree (p : C) (w : World C S) (t : ℕ) : Type 0 where
    pub cool : reservable_from (w.cooldown p) ≤ t
    pub unblocked : is_blocked (w.unblock p) t ≡ false

  -- an event of a call at t
  abbrev Fits : World C S → ℕ → Event C S → Type 0
  Fits w t (Granted q grant) = (grant.t ≡ t) × IsFree q w t
  Fits w t (Blocked q u) = (u ≡ t) × (is_blocked (w.unblock q) t ≡ false)
  Fits w t (Expired u) = u ≡ t
  Fits w t (Forgot u) = u ≡ t
  Fits w t _ = Unit {0}

  is_free : (p : C) (w : World C S) (t : ℕ) (may : Bool) →
      (may && not (is_blocked (w.unblock p) t) && nat_le (reservable_from (w.cooldown p)) t) ≡ true →
      IsFree p w t
  is_free p w t may e =
      let one = and_parts _ _ e in
      let two = and_parts _ _ one.0 in
      record { cool = leb-true (reservable_from (w.cooldown p)) t one.1; unblocked = not-true _ two.1 }

  dial_fits : (sets : List (SetAt C)) (w : World C S) (q : C) (t draw : ℕ) → Fits w t (World.event_in s sets w (Dial q t draw))
  dial_fits sets w q t draw = go (World.may_dial s q t w.sets (w.peer q) (w.unblock q) (w.cooldown q)) (World.address_with s q (w.peer q).known.info) refl
    where
      go : (granted : Bool) (address : Option Ingress) →
          World.may_dial s q t w.sets (w.peer q) (w.unblock q) (w.cooldown q) ≡ granted →
          Fits w t (World.dial_event s q t draw granted address)
      go granted None e = tt
      go false (Some a) e = tt
      go true (Some a) e = (refl, is_free q w t (World.is_target s q w.sets (w.peer q)) e)

  listen_fits : (sets : List (SetAt C)) (w : World C S) (q : C) (t draw : ℕ) → Fits w t (World.event_in s sets w (Listen q t draw))
  listen_fits sets w q t draw = go (World.may_listen s q t w.sets (w.peer q) (w.unblock q) (w.cooldown q)) refl
    where
      go : (granted : Bool) → World.may_listen s q t w.sets (w.peer q) (w.unblock q) (w.cooldown q) ≡ granted → Fits w t (World.listen_event s q t draw granted)
      go true e = (refl, is_free q w t (History.is_entitled s q w.sets && is_inert (w.peer q).status) e)
      go false e = tt

  block_fits : (sets : List (SetAt C)) (w : World C S) (q : C) (t : ℕ) → Fits w t (World.event_in s sets w (Block q t))
  block_fits sets w q t = go (not (History.is_own s q) && not (is_blocked (w.unblock q) t)) refl
    where
      go : (b : Bool) → (not (History.is_own s q) && not (is_blocked (w.unblock q) t)) ≡ b → Fits w t (if b then Blocked q t else Nothing)
      go true e = (refl, not-true _ (and_parts _ _ e).1)
      go false e = tt

  fits : (sets : List (SetAt C)) (w : World C S) (c : Call C S) (now : ℕ) → Fits w (moment_or s now c) (World.event_in s sets w c)
  fits sets w c now = go (World.event_in s sets w c) refl (makes s sets w c)
    where
      go : (e : Event C S) → World.event_in s sets w c ≡ e → Makes c e → Fits w (moment_or s now c) e
      go (Granted q grant) is (inl m) = at_call s sets w (λ c e. Fits w (moment_or s now c) e) m is (dial_fits sets w q grant.t grant.draw)
      go (Granted q grant) is (inr m) = at_call s sets w (λ c e. Fits w (moment_or s now c) e) m is (listen_fits sets w q grant.t grant.draw)
      go (Blocked q u) is m = at_call s sets w (λ c e. Fits w (moment_or s now c) e) m is (block_fits sets w q u)
      go (Expired u) is m = sym (ap (moment_or s now) m)
      go (Forgot u) is m = sym (ap (moment_or s now) m)
      go e is m = tt

  -- a grant of p, at its call's moment
  abbrev pub GrantFits : C → World C S → ℕ → Option Grant → Type 0
  GrantFits p w t None = Unit {0}
  GrantFits p w t (Some grant) = (grant.t ≡ t) × IsFree p w t

  grant_fits : History.IsExact s → (p : C) (w : World C S) (t : ℕ) (e : Event C S) → Fits w t e → GrantFits p w t (History.grant_by s p e)
  grant_fits exact p w t (Granted q grant) f = go (History.same s q p) refl
    where
      go : (b : Bool) → History.same s q p ≡ b → GrantFits p w t (if b then Some grant else None)
      go true e = (f.0, subst (λ x. IsFree x w t) (exact q p e) f.1)
      go false e = tt
  grant_fits exact p w t e f = tt

  -- the world before a further call, and what that call does
  abbrev pub world_before : List (Call C S) → World C S
  world_before cs = World.world_at s (World.past s cs)

  abbrev pub event_of : Call C S → List (Call C S) → Event C S
  event_of c cs = World.event_in s (History.taken_sets s (World.past s cs)) (world_before cs) c

  call_fits : (c : Call C S) (cs : List (Call C S)) (now : ℕ) → Fits (world_before cs) (moment_or s now c) (event_of c cs)
  call_fits c cs now = fits (History.taken_sets s (World.past s cs)) (world_before cs) c now

  pub event_fits : History.IsExact s → (p : C) (c : Call C S) (cs : List (Call C S)) (now : ℕ) →
      GrantFits p (world_before cs) (moment_or s now c) (History.grant_by s p (event_of c cs))
  event_fits exact p c cs now = grant_fits exact p (world_before cs) (moment_or s now c) (event_of c cs) (call_fits c cs now)

  -- COOLDOWN

  -- a grant that was found, with the events after it, and isn't forgotten by them
  cooled_where_kept : (found : Option (Grant × List (Event C S))) (t : ℕ) →
      reservable_from (option_map (History.moments_of s) (unless_ended (History.is_forgetting s) found)) ≤ t → IsCooledUnlessForgotten s t found
  cooled_where_kept None t le = tt
  cooled_where_kept (Some found) t le = λ kept.
      subst (λ b. reservable_from (option_map (History.moments_of s) (if b then None else Some found.0)) ≤ t) kept le

  spaced_where_kept : (p : C) (h : List (Event C S)) (t : ℕ) (found : Option Grant) → GrantFits p (World.world_at s h) t found →
      IsSpacedUnlessForgotten s found (last_with (History.grant_by s p) h)
  spaced_where_kept p h t None f = tt
  spaced_where_kept p h t (Some grant) f = cooled_where_kept (last_with (History.grant_by s p) h) grant.t (omega (arith, f.0, f.1.cool))

  -- a further call grants p only where the cooldown of the grant before is over, or that is forgotten
  pub next_spaced : History.IsExact s → (p : C) (c : Call C S) (cs : List (Call C S)) →
      IsSpacedUnlessForgotten s (History.grant_by s p (event_of c cs)) (last_with (History.grant_by s p) (World.past s cs))
  next_spaced exact p c cs = spaced_where_kept p (World.past s cs) (moment_or s 0 c) (History.grant_by s p (event_of c cs)) (event_fits exact p c cs 0)

  -- grants keep the cooldown, unless the first is forgotten in between
  pub keeps_cooldown : History.IsExact s → (p : C) (cs : List (Call C S)) → KeepsCooldownUnlessForgotten s p (World.past s cs)
  keeps_cooldown exact p [] = tt
  keeps_cooldown exact p (c ∷ cs) = (next_spaced exact p c cs, keeps_cooldown exact p cs)

  -- a grant that is forgotten is one whose cooldown is over by now
  abbrev IsOverWhereForgotten : ℕ → Option (Grant × List (Event C S)) → Type 0
  IsOverWhereForgotten now None = Unit {0}
  IsOverWhereForgotten now (Some found) = list_any (History.is_forgetting s found.0) found.1 ≡ true → cap (found.0.t + s.cooldown) ≤ now

  -- what an event forgets has come to its dial moment, which isn't before the reservable one
  over_by : (e : Event C S) (w : World C S) (t : ℕ) → Fits w t e → (grant : Grant) → History.is_forgetting s grant e ≡ true → cap (grant.t + s.cooldown) ≤ t
  over_by (Forgot u) w t f grant e = omega (arith, f, leb-true (History.moments_of s grant).dial_at u e)
  over_by other w t f grant e = absurd (cc)

  forgotten_step : (e : Event C S) (w : World C S) (t now : ℕ) → t ≤ now → Fits w t e → (given : Option Grant) (found : Option (Grant × List (Event C S))) →
      IsOverWhereForgotten t found → IsOverWhereForgotten now (found_with given e found)
  forgotten_step e w t now le f (Some grant) found over = λ forgotten. absurd (cc)
  forgotten_step e w t now le f None None over = tt
  forgotten_step e w t now le f None (Some found) over = go (History.is_forgetting s found.0 e) refl
    where
      go : (b : Bool) → History.is_forgetting s found.0 e ≡ b →
          (b || list_any (History.is_forgetting s found.0) found.1) ≡ true → cap (found.0.t + s.cooldown) ≤ now
      go true e2 forgotten = omega (arith, le, over_by e w t f found.0 e2)
      go false e2 forgotten = omega (arith, le, over forgotten)

  over_where_forgotten : (p : C) (cs : List (Call C S)) (now : ℕ) → NeverGoBack s now cs →
      IsOverWhereForgotten now (last_with (History.grant_by s p) (World.past s cs))
  over_where_forgotten p [] now on = tt
  over_where_forgotten p (c ∷ cs) now on =
      forgotten_step (event_of c cs) (world_before cs) (moment_or s now c) now on.0 (call_fits c cs now)
      (History.grant_by s p (event_of c cs)) (last_with (History.grant_by s p) (World.past s cs))
      (over_where_forgotten p cs (moment_or s now c) on.1)

  -- forgotten or not
  cooled_either : (found : Option (Grant × List (Event C S))) (t u : ℕ) → t ≡ u →
      IsCooledUnlessForgotten s u found → IsOverWhereForgotten t found → IsCooledAfter s u found
  cooled_either None t u e kept over = tt
  cooled_either (Some found) t u e kept over = go (list_any (History.is_forgetting s found.0) found.1) refl
    where
      go : (b : Bool) → list_any (History.is_forgetting s found.0) found.1 ≡ b → cap (found.0.t + s.cooldown) ≤ u
      go true forgotten = omega (arith, e, over forgotten)
      go false not_forgotten = kept not_forgotten

  spaced_where : (p : C) (h : List (Event C S)) (t : ℕ) (found : Option Grant) → GrantFits p (World.world_at s h) t found →
      IsOverWhereForgotten t (last_with (History.grant_by s p) h) → IsSpaced s found (last_with (History.grant_by s p) h)
  spaced_where p h t None f over = tt
  spaced_where p h t (Some grant) f over =
      cooled_either (last_with (History.grant_by s p) h) t grant.t (sym f.0) (spaced_where_kept p h t (Some grant) f) over

  -- where moments never go back, a further call grants p only where the cooldown of the grant before is over
  pub next_spaced_forward : History.IsExact s → (p : C) (c : Call C S) (cs : List (Call C S)) (now : ℕ) → NeverGoBack s now (c ∷ cs) →
      IsSpaced s (History.grant_by s p (event_of c cs)) (last_with (History.grant_by s p) (World.past s cs))
  next_spaced_forward exact p c cs now on =
      spaced_where p (World.past s cs) (moment_or s now c) (History.grant_by s p (event_of c cs))
      (event_fits exact p c cs now) (over_where_forgotten p cs (moment_or s now c) on.1)

  -- where moments never go back, grants keep the cooldown, over all lives
  pub keeps_cooldown_forward : History.IsExact s → (p : C) (cs : List (Call C S)) (now : ℕ) → NeverGoBack s now cs → KeepsCooldown s p (World.past s cs)
  keeps_cooldown_forward exact p [] now on = tt
  keeps_cooldown_forward exact p (c ∷ cs) now on = (next_spaced_forward exact p c cs now on, keeps_cooldown_forward exact p cs (moment_or s now c) on.1)

  -- BLOCKS

  -- now, or the end of a block that holds then
  abbrev pub limit : ℕ → Option ℕ → ℕ
  limit now None = now
  limit now (Some m) = max now m

  pub over_more : (ms : List ℕ) (t u : ℕ) → t ≤ u → AreOver s t ms → AreOver s u ms
  over_more [] t u le over = tt
  over_more (m ∷ ms) t u le over = (omega (arith, over.0), over_more ms t u le over.1)

  limit_free : (t : ℕ) (o : Option ℕ) → is_blocked o t ≡ false → limit t o ≤ t
  limit_free t None e = omega arith
  limit_free t (Some m) e = omega (arith, ltb-false t m e)

  limit_up : (t u : ℕ) (o : Option ℕ) → t ≤ u → limit t o ≤ limit u o
  limit_up t u None le = le
  limit_up t u (Some m) le = omega arith

  -- each block taken before t is over by the later of t and the end of the block that is kept
  abbrev AreKnown : C → List (Event C S) → ℕ → Type 0
  AreKnown p h t = AreOver s (limit t (History.unblock_at s p h)) (blocks_in s p h)

  known_later : (p : C) (h : List (Event C S)) (t now : ℕ) → t ≤ now → AreKnown p h t → AreKnown p h now
  known_later p h t now le over =
      over_more (blocks_in s p h) (limit t (History.unblock_at s p h)) (limit now (History.unblock_at s p h))
      (limit_up t now (History.unblock_at s p h) le) over

  over_step : History.IsExact s → (p : C) (e : Event C S) (h : List (Event C S)) (t now : ℕ) → t ≤ now → Fits (World.world_at s h) t e → AreKnown p h t →
      AreOver s (limit now (World.unblock_after s p e (History.unblock_at s p h))) (blocks_in s p (e ∷ h))
  over_step exact p (Blocked q u) h t now le f over = go (History.same s q p) refl
    where
      go : (b : Bool) → History.same s q p ≡ b →
          AreOver s (limit now (if b then Some (cap (u + s.block_duration)) else History.unblock_at s p h))
          (option_to_list (if b then Some (cap (u + s.block_duration)) else None) ++ blocks_in s p h)
      go true e =
          let free : is_blocked (History.unblock_at s p h) t ≡ false =
          subst (λ x. is_blocked (History.unblock_at s x h) t ≡ false) (exact q p e) f.1 in (
            omega arith,
            over_more (blocks_in s p h) (limit t (History.unblock_at s p h)) (max now (cap (u + s.block_duration)))
                (omega (arith, limit_free t (History.unblock_at s p h) free)) over,
          )
      go false e = known_later p h t now le over
  over_step exact p (Expired u) h t now le f over = go (History.unblock_at s p h) over
    where
      go : (o : Option ℕ) → AreOver s (limit t o) (blocks_in s p h) → AreOver s (limit now (World.unblock_after s p (Expired u) o)) (blocks_in s p h)
      go None over = over_more (blocks_in s p h) t now le over
      go (Some m) over = gone (nat_le m u) refl
        where
          gone : (b : Bool) → nat_le m u ≡ b → AreOver s (limit now (if b then None else Some m)) (blocks_in s p h)
          gone true e = over_more (blocks_in s p h) (max t m) now (omega (arith, leb-true m u e, f)) over
          gone false e = over_more (blocks_in s p h) (max t m) (max now m) (omega arith) over
  over_step exact p e h t now le f over = known_later p h t now le over

  over : History.IsExact s → (p : C) (cs : List (Call C S)) (now : ℕ) → NeverGoBack s now cs → AreKnown p (World.past s cs) now
  over exact p [] now on = tt
  over exact p (c ∷ cs) now on =
      subst (λ o. AreOver s (limit now o) (blocks_in s p (World.past s (c ∷ cs)))) (sym (Steps.unblock_step s p (event_of c cs) (World.past s cs)))
      (over_step exact p (event_of c cs) (World.past s cs) (moment_or s now c) now on.0 (call_fits c cs now) (over exact p cs (moment_or s now c) on.1))

  over_where : (p : C) (h : List (Event C S)) (found : Option Grant) (t : ℕ) →
      GrantFits p (World.world_at s h) t found → AreKnown p h t → IsOverAt s found (blocks_in s p h)
  over_where p h None t f over = tt
  over_where p h (Some grant) t f over =
      over_more (blocks_in s p h) (limit t (History.unblock_at s p h)) grant.t (omega (arith, limit_free t (History.unblock_at s p h) f.1.unblocked, f.0)) over

  -- a further call grants p only where its blocks are over
  pub next_over : History.IsExact s → (p : C) (c : Call C S) (cs : List (Call C S)) (now : ℕ) →
      NeverGoBack s now (c ∷ cs) →
      IsOverAt s (History.grant_by s p (event_of c cs)) (blocks_in s p (World.past s cs))
  next_over exact p c cs now on =
      over_where p (World.past s cs) (History.grant_by s p (event_of c cs)) (moment_or s now c)
      (event_fits exact p c cs now) (over exact p cs (moment_or s now c) on.1)

  -- where moments never go back, a block holds until its end, over all lives
  pub keeps_blocks : History.IsExact s → (p : C) (cs : List (Call C S)) (now : ℕ) → NeverGoBack s now cs → KeepsBlocks s p (World.past s cs)
  keeps_blocks exact p [] now on = tt
  keeps_blocks exact p (c ∷ cs) now on = (next_over exact p c cs now on, keeps_blocks exact p cs (moment_or s now c) on.1)
