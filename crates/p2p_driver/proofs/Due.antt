-- Who is late, among the entries of the links.
use Rattle.std.proofs.Common.{◌≡◌, ℕ, Bool, true, false, List, [], ◌∷◌}
use Rattle.std.proofs.Common.{Option, Some, None, find, refl, sym, ◌∙◌, subst}
use Rattle.std.proofs.Common.{inl, inr}
use Rattle.std.specs.Prelude.{IfSome, IfNone, option_map}
use Rattle.std.specs.declared.cmp.Ordering.{Ordering}
use Rattle.std.specs.BTreeMap.{is_at}
use Rattle.std.specs.Cmp.{IsTotalOrder}
use Rattle.std.specs.List.{fold}
use Rattle.std.specs.List.Sorted.{IsStrictlySortedBy}
use Rattle.std.specs.Map.{keys_of, values_of}
use Rattle.std.specs.Option.{IsSomeAnd}
use Rattle.std.proofs.lemmas.Map.Entries.{place_from_lookup}
use Rattle.p2p_driver.specs.declared.links.Held.{Held}
use Rattle.p2p_driver.specs.Links.{link_of, is_timed, IsLeastDue, sooner_of, least_due}
use Rattle.p2p_driver.proofs.Entries.{none_at, none_of_them, first_found, placed, sooner, IsLeast, least_of}

-- the least of a moment and those of the entries, by their values
by_values : {C : Type 0} (moment : Held → ℕ) (es : List (C × Held)) (next : Option ℕ) → least_due moment next (values_of es)
    ≡ fold (sooner (λ e. is_timed e.1.phase) (λ e. moment e.1)) next es
by_values moment [] next = refl
by_values moment (x ∷ es) next = by_values moment es (sooner_of moment next x.1)

-- IN ORDER
module _ {C : Type 0} {cmp : C → C → Ordering} (total : IsTotalOrder cmp) (links : List (C × Held))
    (sorted : IsStrictlySortedBy cmp (keys_of links)) where
  pub late_found : (p : Held → Bool) (r : Option C) → r ≡ option_map (λ e. e.0) (find (λ e. p e.1) links) →
      IfSome r (λ peer. IsSomeAnd (link_of cmp links peer) (λ h. p h ≡ true))
  late_found p r is = first_found total links sorted (λ e. p e.1) r is

  pub none_late : (p : Held → Bool) (r : Option C) → r ≡ option_map (λ e. e.0) (find (λ e. p e.1) links) →
      IfNone r ((q : C) (h : Held) → link_of cmp links q ≡ Some h → p h ≡ false)
  none_late p r is = none_of_them (λ q h. link_of cmp links q ≡ Some h → p h ≡ false) (λ e. p e.1) links r is (λ q h f has. let at = place_from_lookup (is_at (cmp q)) links h has in
      none_at (λ e. p e.1) links f at.0 (at.1, h) at.2)

  pub least_found : (moment : Held → ℕ) (r : Option ℕ) → r ≡ least_due moment None (values_of links) →
      IsLeastDue cmp moment links r
  least_found moment r is = go r (subst (IsLeast (λ e. is_timed e.1.phase) (λ e. moment e.1) links None) (sym (is ∙ by_values moment links None))
      (least_of (λ e. is_timed e.1.phase) (λ e. moment e.1) links None))
    where
      go : (r : Option ℕ) → IsLeast (λ e. is_timed e.1.phase) (λ e. moment e.1) links None r → IsLeastDue cmp moment links r
      go None least = λ q h has. let at = place_from_lookup (is_at (cmp q)) links h has in
          least.1 at.0 (at.1, h) at.2
      go (Some r) least = (
        λ q h has timed. let at = place_from_lookup (is_at (cmp q)) links h has in
            least.0 at.0 (at.1, h) at.2 timed,
        elim least.2 [
          | inl has ↦ (has.1.0, has.1.1, placed total links sorted has.0 has.1 has.2, has.3, has.4)
          | inr e ↦ absurd cc
        ],
      )
