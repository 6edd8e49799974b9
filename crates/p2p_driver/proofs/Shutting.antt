-- Links that are closed one after the other.
use Rattle.std.proofs.Common.{◌≡◌, ◌||◌, Bool, true, false, List, ◌∷◌, ◌++◌, Option, Some, None, refl, ◌∙◌, ap}
use Rattle.std.specs.Prelude.{if◌then◌else◌, option_map}
use Rattle.std.specs.BTreeMap.{is_at}
use Rattle.std.specs.declared.cmp.Ordering.{Ordering}
use Rattle.std.proofs.lemmas.List.{append_assoc}
use Rattle.p2p_discovery.specs.Ordered.{has_key}
use Rattle.p2p_driver.specs.Links.{link_of, closed}
use Rattle.p2p_driver.specs.Happenings.{closed_at, shut, shut_all}
use Rattle.p2p_driver.specs.declared.actions.Action.{Action}
use Rattle.p2p_driver.specs.declared.actions.Why.TheVariants as why
use Rattle.p2p_driver.specs.declared.links.Held.{Held}

module _ {C : Type 0} (cmp : C → C → Ordering) where
  -- what is kept of links, once those of these peers are closed
  abbrev pub closed_among : List C → (C → Option Held) → C → Option Held
  closed_among ps links q = if has_key cmp ps q then option_map closed (links q) else links q

  twice : (at has : Bool) (o : Option Held) →
      (if has then option_map closed (if at then option_map closed o else o) else (if at then option_map closed o else o))
      ≡ (if at || has then option_map closed o else o)
  twice true true None = refl
  twice true true (Some held) = refl
  twice true false o = refl
  twice false true o = refl
  twice false false o = refl

  -- the first of them, and then the others
  pub closed_next : (p : C) (ps : List C) (links links2 : List (C × Held)) →
      ((q : C) → link_of cmp links2 q ≡ closed_at cmp p (link_of cmp links) q) →
      (q : C) → closed_among ps (link_of cmp links2) q ≡ closed_among (p ∷ ps) (link_of cmp links) q
  closed_next p ps links links2 is q =
      ap (λ o. if has_key cmp ps q then option_map closed o else o) (is q)
      ∙ twice (is_at (cmp p) q) (has_key cmp ps q) (link_of cmp links q)

  -- .. as it is said
  pub shut_next : (p : C) (ps : List C) (links links2 : List (C × Held)) (said said2 : List (Action C)) →
      ((q : C) → link_of cmp links2 q ≡ closed_at cmp p (link_of cmp links) q) →
      said2 ≡ said ++ shut p why.NoSet (link_of cmp links p) →
      said2 ++ shut_all cmp ps (link_of cmp links2) ≡ said ++ shut_all cmp (p ∷ ps) (link_of cmp links)
  shut_next p ps links links2 said said2 is told =
      ap (λ xs. xs ++ shut_all cmp ps (link_of cmp links2)) told
      ∙ ap (λ f. (said ++ shut p why.NoSet (link_of cmp links p)) ++ shut_all cmp ps f) (λ i q. is q i)
      ∙ append_assoc said (shut p why.NoSet (link_of cmp links p)) (shut_all cmp ps (closed_at cmp p (link_of cmp links)))
