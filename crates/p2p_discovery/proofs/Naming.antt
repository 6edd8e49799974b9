-- Keys that are named by a list.
use Rattle.std.proofs.Common.{◌≡◌, ℕ, true, false, List, get_or, ap, ◌∙◌}
use Rattle.std.specs.declared.cmp.Ordering.{Ordering}
use Rattle.std.specs.BTreeMap.{is_at}
use Rattle.std.specs.Cmp.{IsTotalOrder}
use Rattle.std.specs.Ordering.{is_eq}
use Rattle.std.proofs.lemmas.Cmp.{tied_itself}
use Rattle.std.proofs.lemmas.List.{get_or_default}
use Rattle.std.proofs.lemmas.List.Folds.{list_any_none, list_any_at}
use Rattle.std.proofs.lemmas.Map.Lookups.{CmpEqualImpliesEq}
use Rattle.std.proofs.lemmas.Map.Views.{tells_apart}
use Rattle.std.proofs.lemmas.Bool.{false_from_ne_true}
use Rattle.p2p_discovery.specs.Ordered.{IsPlaceOf, has_key}

-- a key that has a place is one of the keys
pub at_place : {C : Type 0} {cmp : C → C → Ordering} → IsTotalOrder cmp → (keys : List C) (k : ℕ) (key : C) → IsPlaceOf key keys k → has_key cmp keys key ≡ true
at_place {cmp = cmp} o keys k key place = list_any_at (λ x. is_at (cmp x) key) keys k key place.in_range (rw place.at_place (ap is_eq (tied_itself o key)))

-- and one that has no place is none of them
pub nowhere : {C : Type 0} {cmp : C → C → Ordering} → CmpEqualImpliesEq cmp → (keys : List C) (key : C) →
    ((k : ℕ) → IsPlaceOf key keys k → ⊥) → has_key cmp keys key ≡ false
nowhere {cmp = cmp} exact keys key absent = list_any_none (λ x. is_at (cmp x) key) keys (λ j d below.
    false_from_ne_true (is_at (cmp (get_or keys j d)) key) (λ same.
    let here : get_or keys j key ≡ key = get_or_default keys j key d below ∙ tells_apart exact (get_or keys j d) key same in
    absent j (record { in_range = below; at_place = here })))
