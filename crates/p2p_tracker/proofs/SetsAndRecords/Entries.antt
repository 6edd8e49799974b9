-- Maps that answer alike at each key have the same entries, and so has one in which what was found is written back.
use Rattle.std.proofs.Common.{◌≡◌, List, sym, ◌∙◌, ap, Bool, Some}
use Rattle.std.specs.BTreeMap as tree
use Rattle.std.specs.BTreeMap.{BTreeMap}
use Rattle.std.specs.Cmp.{IsTotalOrder}
use Rattle.std.specs.declared.cmp.Ordering.{Ordering}
use Rattle.std.proofs.lemmas.Map.Lookups.{CmpEqualImpliesEq, btree_map_from_get}
use Rattle.std.specs.Map.{lookup, set_value}
use Rattle.std.proofs.lemmas.Map.Steps.{set_value_same}
use Rattle.p2p_tracker.specs.Seen.{RecordView, record_at}
use Rattle.p2p_tracker.specs.Private.Counts.{IsOfMap}

pub same_entries : {C S : Type 0} {cmp : C → C → Ordering} → IsTotalOrder cmp → CmpEqualImpliesEq cmp →
    (m n : BTreeMap C (RecordView C S)) → tree.IsOrdered cmp m → tree.IsOrdered cmp n →
    (new old : List (C × RecordView C S)) → m.entries ≡ new → n.entries ≡ old → ((q : C) → record_at cmp new q ≡ record_at cmp old q) → new ≡ old
same_entries {cmp = cmp} total exact m n ordered_m ordered_n new old is_new is_old same =
    sym is_new
    ∙ btree_map_from_get total m n ordered_m ordered_n (λ q. ap (λ rs. record_at cmp rs q) is_new ∙ same q ∙ sym (ap (λ rs. record_at cmp rs q) is_old)) exact
    ∙ is_old

-- the same of what two maps hold
pub same_held : {C S : Type 0} {cmp : C → C → Ordering} → IsTotalOrder cmp → CmpEqualImpliesEq cmp →
    (new old : List (C × RecordView C S)) → IsOfMap cmp new → IsOfMap cmp old →
    ((q : C) → record_at cmp new q ≡ record_at cmp old q) → new ≡ old
same_held total exact new old (m, ordered_m, is_new) (n, ordered_n, is_old) same = same_entries total exact m n ordered_m ordered_n new old is_new is_old same

-- what was found is written back
pub found_written : {K X : Type 0} (test : K → Bool) (es fs : List (K × X)) (v w : X) → fs ≡ set_value test es w →
    w ≡ v → Some v ≡ lookup test es → fs ≡ es
found_written test es fs v w wrote is found = wrote ∙ set_value_same test es w (sym found ∙ ap Some (sym is))
