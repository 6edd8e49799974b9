-- Who is dialable is granted.
use Rattle.std.proofs.Common.{◌≡◌, ℕ, ◌≤◌, Bool, true, not, ◌&&◌, ◌||◌, List, [], ◌∷◌, map, Option, Some, None, refl, sym, ◌∙◌, ap, arith}
use Rattle.std.specs.Prelude.{nat_le, option_map}
use Rattle.std.specs.List.{AllByRecursion}
use Rattle.std.specs.List.Sorted.{IsStrictlySortedBy}
use Rattle.std.specs.Cmp.{IsTotalOrder}
use Rattle.std.specs.declared.cmp.Ordering.{Ordering}
use Rattle.std.specs.Ordering.{is_eq, ordering_reverse}
use Rattle.std.specs.declared.cmp.Ordering.TheVariants.{Less, Equal, Greater}
use Rattle.std.proofs.lemmas.Bool.{and_parts, and_from, leb-true, le-leb, or_right}
use Rattle.p2p_discovery.specs.declared.types.ingress.Ingress.{Ingress}
use Rattle.p2p_tracker.specs.Blocks.{is_blocked}
use Rattle.p2p_tracker.specs.Cooldowns.{reservable_from, dialable_from}
use Rattle.p2p_tracker.specs.Calls.{Settings, Call, Grant, Event}
use Rattle.p2p_tracker.specs.Calls.Call.{Dial}
use Rattle.p2p_tracker.specs.History
use Rattle.p2p_tracker.specs.History.{last_unless_ended}
use Rattle.p2p_tracker.specs.World
use Rattle.p2p_tracker.specs.World.{World, Peer}
use Rattle.p2p_tracker.specs.Answers.{is_dialable, is_dialable_with}
use Rattle.p2p_tracker.specs.Lists.{Lists}
use Rattle.p2p_directory.specs.Laws.Isolation.{SameFor}
use Rattle.p2p_tracker.specs.Dials.{IsApart, AreChosen, IsDialled, AreDialled}
use Rattle.p2p_directory.proofs.Definitions.Targets.{IsTarget, parts_of_target}
use Rattle.p2p_directory.proofs.LawsOfRuns.Isolation

itself : {C : Type 0} (cmp : C → C → Ordering) → IsTotalOrder cmp → (x : C) → is_eq (cmp x x) ≡ true
itself cmp total x = go (cmp x x) refl
  where
    go : (o : Ordering) → cmp x x ≡ o → is_eq o ≡ true
    go Equal e = refl
    go Less e = absurd (let f = sym e ∙ total.antisymm x x ∙ ap ordering_reverse e in cc)
    go Greater e = absurd (let f = sym e ∙ total.antisymm x x ∙ ap ordering_reverse e in cc)

module _ {C S : Type 0} (s : Settings C S) where
  -- the dial moment isn't before the reservable one
  reservable_first : (kept : Option Grant) →
      reservable_from (option_map (History.moments_of s) kept) ≤ dialable_from
      (option_map (History.moments_of s) kept)
  reservable_first None = omega arith
  reservable_first (Some grant) = omega arith

  pub cooled_first : (p : C) (h : List (Event C S)) → reservable_from (History.cooldown_at s p h) ≤ dialable_from (History.cooldown_at s p h)
  cooled_first p h = reservable_first (last_unless_ended (History.grant_by s p) (History.is_forgetting s) h)

  pub granted : (p : C) (t draw : ℕ) (w : World C S) → reservable_from (w.cooldown p) ≤ dialable_from (w.cooldown p) → is_dialable s w t p ≡ true →
      IsDialled s p t draw
      (World.dial_event s p t draw (World.may_dial s p t w.sets (w.peer p) (w.unblock p) (w.cooldown p))
      (World.address_with s p (w.peer p).known.info))
  granted p t draw w first dialable =
      go (World.address_with s p (w.peer p).known.info) target.valid_is
      (World.may_dial s p t w.sets (w.peer p) (w.unblock p) (w.cooldown p))
      (and_from _ _ parts.0
      (le-leb (reservable_from (w.cooldown p)) t
      (omega (arith, leb-true (dialable_from (w.cooldown p)) t parts.1, first))))
    where
      parts : ((World.is_target s p w.sets (w.peer p) && not (is_blocked (w.unblock p) t)) ≡ true)
          × (nat_le (dialable_from (w.cooldown p)) t ≡ true)
      parts = and_parts _ _ dialable

      target : IsTarget s p w.sets (w.peer p)
      target = parts_of_target s p w.sets (w.peer p)
          (and_parts (World.is_target s p w.sets (w.peer p)) _ parts.0).0

      go : (address : Option Ingress) → World.is_valid_address s address ≡ true → (may : Bool) → may ≡ true →
          IsDialled s p t draw (World.dial_event s p t draw may address)
      go (Some a) valid true e = (a, refl)
      go _ valid _ e = absurd (cc)

  pub dialable_alike : (p : C) (t : ℕ) (w v : World C S) → SameFor p w v → is_dialable s w t p ≡ is_dialable s v t p
  dialable_alike p t w v alike = λ i. is_dialable_with s p t (alike.sets i) (alike.peer i) (alike.unblock i) (alike.cooldown i)

  -- each of these is dialable in a world, and none stands twice
  abbrev pub AreDialable : World C S → ℕ → List (C × ℕ) → Type 0
  AreDialable w t [] = Unit {0}
  AreDialable w t (x ∷ xs) = (is_dialable s w t x.0 ≡ true) × IsApart s x.0 xs × AreDialable w t xs

  -- a dial of another leaves them so
  pub still_dialable : 1 ≤ s.max_sets → (p : C) (t draw : ℕ) (xs : List (C × ℕ)) (cs : List (Call C S)) → IsApart s p xs →
      AreDialable (World.world_at s (World.past s cs)) t xs → AreDialable (World.world_at s (World.past s (Dial p t draw ∷ cs))) t xs
  still_dialable some p t draw [] cs apart dialable = tt
  still_dialable some p t draw (x ∷ xs) cs apart dialable = (
    dialable_alike x.0 t _ _ (Isolation.another_alike s some x.0 (Dial p t draw) cs (ap not apart.0)) ∙ dialable.0,
    dialable.1,
    still_dialable some p t draw xs cs apart.1 dialable.2,
  )

  all_dialled : 1 ≤ s.max_sets → (t : ℕ) (xs : List (C × ℕ)) (cs : List (Call C S)) →
      AreDialable (World.world_at s (World.past s cs)) t xs → AreDialled s t xs cs
  all_dialled some t [] cs dialable = tt
  all_dialled some t (x ∷ xs) cs dialable = (
    granted x.0 t x.1 (World.world_at s (World.past s cs)) (cooled_first x.0 (World.past s cs)) dialable.0,
    all_dialled some t xs (Dial x.0 t x.1 ∷ cs) (still_dialable some x.0 t x.1 xs cs dialable.1 dialable.2),
  )

  pub chosen_dialable : (w : World C S) (t : ℕ) (ps : List C) (xs : List (C × ℕ)) → Lists s.cmp (is_dialable s w t) ps → AreChosen s ps xs → AreDialable w t xs
  chosen_dialable w t ps [] listed chosen = tt
  chosen_dialable w t ps (x ∷ xs) listed chosen = (sym (listed.members x.0) ∙ chosen.0, chosen.1, chosen_dialable w t ps xs listed chosen.2)

  -- in any order
  pub chosen_dialled : 1 ≤ s.max_sets → (cs : List (Call C S)) (t : ℕ) (ps : List C) (xs : List (C × ℕ)) →
      Lists s.cmp (is_dialable s (World.world_at s (World.past s cs)) t) ps → AreChosen s ps xs → AreDialled s t xs cs
  chosen_dialled some cs t ps xs listed chosen = all_dialled some t xs cs (chosen_dialable (World.world_at s (World.past s cs)) t ps xs listed chosen)

  -- in the order of the list

  apart_above : (p : C) (xs : List (C × ℕ)) → AllByRecursion (λ y. s.cmp p y ≡ Less) (map (λ x. x.0) xs) → IsApart s p xs
  apart_above p [] above = tt
  apart_above p (x ∷ xs) above = (ap is_eq above.0, apart_above p xs above.1)

  chosen_more : (p : C) (ps : List C) (xs : List (C × ℕ)) → AreChosen s ps xs → AreChosen s (p ∷ ps) xs
  chosen_more p ps [] chosen = tt
  chosen_more p ps (x ∷ xs) chosen = (or_right (History.same s p x.0) (History.is_in s x.0 ps) chosen.0, chosen.1, chosen_more p ps xs chosen.2)

  pub chosen_whole : IsTotalOrder s.cmp → (xs : List (C × ℕ)) → IsStrictlySortedBy s.cmp (map (λ x. x.0) xs) → AreChosen s (map (λ x. x.0) xs) xs
  unfolding IsStrictlySortedBy
  chosen_whole total [] sorted = tt
  chosen_whole total (x ∷ xs) sorted = (
    ap (λ b. b || History.is_in s x.0 (map (λ y. y.0) xs)) (itself s.cmp total x.0),
    apart_above x.0 xs sorted.0,
    chosen_more x.0 (map (λ y. y.0) xs) xs (chosen_whole total xs sorted.1),
  )

  pub listed_dialled : IsTotalOrder s.cmp → 1 ≤ s.max_sets → (cs : List (Call C S)) (t : ℕ) (xs : List (C × ℕ)) →
      Lists s.cmp (is_dialable s (World.world_at s (World.past s cs)) t) (map (λ x. x.0) xs) → AreDialled s t xs cs
  listed_dialled total some cs t xs listed = chosen_dialled some cs t (map (λ x. x.0) xs) xs listed (chosen_whole total xs listed.sorted)
