-- The grants that are kept, among those of dials.
use Rattle.std.proofs.Common.{◌≡◌, ◌<◌, ℕ, Bool, true, false, not, ◌&&◌, cond, List, [], ◌∷◌, Option, Some, None, find, slice_get, inl, inr, refl, sym, ◌∙◌, ap, subst, arith}
use Rattle.std.specs.Prelude.{IfSome, IfNone, option_map, is_some, nat_le, length}
use Rattle.std.specs.declared.cmp.Ordering.{Ordering}
use Rattle.std.specs.declared.time.Duration.{Duration}
use Rattle.std.specs.BTreeMap.{is_at}
use Rattle.std.specs.Cmp.{IsTotalOrder}
use Rattle.std.specs.List.{fold}
use Rattle.std.specs.List.Sorted.{IsStrictlySortedBy}
use Rattle.std.specs.Map.{keys_of, lookup, remove_entry}
use Rattle.std.specs.Option.{IsSomeAnd}
use Rattle.std.proofs.lemmas.Map.Entries.{place_from_lookup}
use Rattle.std.proofs.lemmas.Map.Lookups.{CmpEqualImpliesEq}
use Rattle.std.proofs.lemmas.Map.Views.{tells_apart}
use Rattle.p2p_tracker.specs.Directory.{is_free_and}
use Rattle.p2p_tracker.specs.Record.{is_eligible}
use Rattle.p2p_tracker.specs.Seen.{DirectoryView}
use Rattle.p2p_driver.specs.Grants.{grant_of, kept_grant, unless_linked, cooled_at, is_cooled, is_unfit, is_kept_entry, is_cooled_entry, is_unfit_entry, sooner_cooled, IsLeastCooled}
use Rattle.p2p_driver.specs.Links.{link_of}
use Rattle.p2p_driver.specs.declared.links.Held.{Held}
use Rattle.p2p_driver.proofs.Entries.{placed, first_found, none_found, IsLeast, least_of}

-- there is one less, once one was removed
pub fewer_removed : {K X : Type 0} (test : K → Bool) (es : List (K × X)) → is_some (lookup test es) ≡ true →
    length (remove_entry test es) < length es
fewer_removed test [] has = absurd cc
fewer_removed test (e ∷ es) has = go (test e.0) has (fewer_removed test es)
  where
    go : (b : Bool) → is_some (cond b (Some e.1) (lookup test es)) ≡ true → (is_some (lookup test es) ≡ true → length (remove_entry test es) < length es) →
        length (cond b es (e ∷ remove_entry test es)) < length (e ∷ es)
    go true has rest = omega arith
    go false has rest = let less = rest has in omega (arith, less)

module _ {C : Type 0} {cmp : C → C → Ordering} (total : IsTotalOrder cmp) (exact : CmpEqualImpliesEq cmp) (links : List (C × Held))
    (grants : List (C × Duration)) (sorted : IsStrictlySortedBy cmp (keys_of grants)) where
  -- an entry that is kept is a kept grant
  kept_entry : (p : C) (granted : Duration) → grant_of cmp grants p ≡ Some granted → is_kept_entry cmp links (p, granted) ≡ true →
      kept_grant cmp links grants p ≡ Some granted
  kept_entry p granted has kept = go (link_of cmp links p) kept
    where
      go : (o : Option Held) → not (is_some o) ≡ true → unless_linked o (grant_of cmp grants p) ≡ Some granted
      go None kept = has
      go (Some held) kept = absurd cc

  -- .. and the other way round
  entry_kept : (p : C) (granted : Duration) → kept_grant cmp links grants p ≡ Some granted →
      (grant_of cmp grants p ≡ Some granted) × (is_kept_entry cmp links (p, granted) ≡ true)
  entry_kept p granted kept = go (link_of cmp links p) kept
    where
      go : (o : Option Held) → unless_linked o (grant_of cmp grants p) ≡ Some granted →
          (grant_of cmp grants p ≡ Some granted) × (not (is_some o) ≡ true)
      go None kept = (kept, refl)
      go (Some held) kept = absurd cc

  both_parts : (x y : Bool) → (x && y) ≡ true → (x ≡ true) × (y ≡ true)
  both_parts true true is = (refl, refl)
  both_parts true false is = absurd cc
  both_parts false y is = absurd cc

  -- what no kept grant is, by its entries
  none_kept : (P : C → Option Duration → Bool) (test : C × Duration → Bool) → ((p : C) → P p None ≡ false) →
      ((p : C) (granted : Duration) → is_kept_entry cmp links (p, granted) ≡ true → test (p, granted) ≡ P p (Some granted)) →
      ((q : C) (granted : Duration) → grant_of cmp grants q ≡ Some granted → test (q, granted) ≡ false) →
      (q : C) → P q (kept_grant cmp links grants q) ≡ false
  none_kept P test without alike none q = go (kept_grant cmp links grants q) refl
    where
      go : (o : Option Duration) → kept_grant cmp links grants q ≡ o → P q o ≡ false
      go None kept = without q
      go (Some granted) kept = let entry = entry_kept q granted kept in sym (alike q granted entry.1) ∙ none q granted entry.0

  -- THE FIRST whose cooldown is over
  pub first_cooled : (cooldown now : ℕ) (r : Option C) → r ≡ option_map (λ e. e.0) (find (is_cooled_entry cmp links cooldown now) grants) →
      IfSome r (λ p. is_cooled cooldown now (kept_grant cmp links grants p) ≡ true)
  first_cooled cooldown now None is = tt
  first_cooled cooldown now (Some p) is = go (grant_of cmp grants p) refl (first_found total grants sorted (is_cooled_entry cmp links cooldown now) (Some p) is)
    where
      go : (o : Option Duration) → grant_of cmp grants p ≡ o → IsSomeAnd o (λ granted. is_cooled_entry cmp links cooldown now (p, granted) ≡ true) →
          is_cooled cooldown now (kept_grant cmp links grants p) ≡ true
      go None has over = absurd over
      go (Some granted) has over = let parts = both_parts (nat_le (cooled_at cooldown granted) now) (is_kept_entry cmp links (p, granted)) over in
          ap (is_cooled cooldown now) (kept_entry p granted has parts.1) ∙ parts.0

  pub none_cooled : (cooldown now : ℕ) (r : Option C) → r ≡ option_map (λ e. e.0) (find (is_cooled_entry cmp links cooldown now) grants) →
      IfNone r ((q : C) → is_cooled cooldown now (kept_grant cmp links grants q) ≡ false)
  none_cooled cooldown now (Some p) is = tt
  none_cooled cooldown now None is = none_kept (λ p o. is_cooled cooldown now o) (is_cooled_entry cmp links cooldown now) (λ p. refl)
      (λ p granted kept. ap (λ x. nat_le (cooled_at cooldown granted) now && x) kept ∙ and_true (nat_le (cooled_at cooldown granted) now))
      (none_found total grants sorted exact (is_cooled_entry cmp links cooldown now) None is)
    where
      and_true : (x : Bool) → (x && true) ≡ x
      and_true true = refl
      and_true false = refl

  -- .. whose peer may not be connected
  pub first_unfit : {S : Type 0} (d : DirectoryView C S) (now : ℕ) (r : Option C) →
      r ≡ option_map (λ e. e.0) (find (is_unfit_entry cmp links d now) grants) →
      IfSome r (λ p. is_unfit cmp d now p (kept_grant cmp links grants p) ≡ true)
  first_unfit d now None is = tt
  first_unfit d now (Some p) is = go (grant_of cmp grants p) refl (first_found total grants sorted (is_unfit_entry cmp links d now) (Some p) is)
    where
      go : (o : Option Duration) → grant_of cmp grants p ≡ o → IsSomeAnd o (λ granted. is_unfit_entry cmp links d now (p, granted) ≡ true) →
          is_unfit cmp d now p (kept_grant cmp links grants p) ≡ true
      go None has over = absurd over
      go (Some granted) has over = let parts = both_parts (is_kept_entry cmp links (p, granted)) (not (is_free_and cmp is_eligible d now p)) over in
          ap (is_unfit cmp d now p) (kept_entry p granted has parts.0) ∙ parts.1

  pub none_unfit : {S : Type 0} (d : DirectoryView C S) (now : ℕ) (r : Option C) →
      r ≡ option_map (λ e. e.0) (find (is_unfit_entry cmp links d now) grants) →
      IfNone r ((q : C) → is_unfit cmp d now q (kept_grant cmp links grants q) ≡ false)
  none_unfit d now (Some p) is = tt
  none_unfit d now None is = none_kept (is_unfit cmp d now) (is_unfit_entry cmp links d now) (λ p. refl)
      (λ p granted kept. ap (λ x. x && not (is_free_and cmp is_eligible d now p)) kept)
      (none_found total grants sorted exact (is_unfit_entry cmp links d now) None is)

  -- THE LEAST moment at which a cooldown is over
  pub least_cooled : (cooldown : ℕ) (r : Option ℕ) → r ≡ fold (sooner_cooled cmp links cooldown) None grants → IsLeastCooled cmp cooldown links grants r
  least_cooled cooldown r is = go r (subst (IsLeast (is_kept_entry cmp links) (λ e. cooled_at cooldown e.1) grants None) (sym is)
      (least_of (is_kept_entry cmp links) (λ e. cooled_at cooldown e.1) grants None))
    where
      at_entry : (q : C) (granted : Duration) → kept_grant cmp links grants q ≡ Some granted →
          (i : ℕ) × (slice_get grants i ≡ Some (q, granted)) × (is_kept_entry cmp links (q, granted) ≡ true)
      at_entry q granted kept = let entry = entry_kept q granted kept in
          let at = place_from_lookup (is_at (cmp q)) grants granted entry.0 in
          (at.0, ap (slice_get grants) refl ∙ at.2 ∙ ap (λ k. Some (k, granted)) (sym (tells_apart exact q at.1 at.3)), entry.1)

      none : (q : C) → ((i : ℕ) (e : C × Duration) → slice_get grants i ≡ Some e → is_kept_entry cmp links e ≡ false) → (o : Option Duration) →
          kept_grant cmp links grants q ≡ o → kept_grant cmp links grants q ≡ None
      none q isnt None kept = kept
      none q isnt (Some granted) kept = let at = at_entry q granted kept in absurd (let f = sym (isnt at.0 (q, granted) at.1) ∙ at.2 in cc)

      go : (r : Option ℕ) → IsLeast (is_kept_entry cmp links) (λ e. cooled_at cooldown e.1) grants None r → IsLeastCooled cmp cooldown links grants r
      go None least = λ q. none q least.1 (kept_grant cmp links grants q) refl
      go (Some r) least = (
        λ q granted kept. let at = at_entry q granted kept in least.0 at.0 (q, granted) at.1 at.2,
        elim least.2 [
          | inl has ↦ (has.1.0, has.1.1, kept_entry has.1.0 has.1.1 (placed total grants sorted has.0 has.1 has.2) has.3, has.4)
          | inr e ↦ absurd cc
        ],
      )
