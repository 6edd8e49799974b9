-- A track tears down no more peers than there are records, but for that of the local node.
use Rattle.std.proofs.Common.{◌≡◌, ◌≤◌, Bool, true, false, List, [], ◌∷◌, length, Option, Some, None}
use Rattle.std.proofs.Common.{refl, sym, ◌∙◌, arith}
use Rattle.std.specs.Prelude.{not, ◌&&◌}
use Rattle.std.specs.List.{filter, list_any}
use Rattle.std.specs.Map.{lookup, keys_of}
use Rattle.std.specs.BTreeMap.{is_at}
use Rattle.std.specs.Option.{option_map_or}
use Rattle.std.specs.Cmp.{IsTotalOrder}
use Rattle.std.specs.Ordering.{eq_by_cmp}
use Rattle.std.specs.Set.{is_member}
use Rattle.std.specs.declared.cmp.Ordering.{Ordering}
use Rattle.std.proofs.lemmas.Cmp.{eq_by_cmp_equiv}
use Rattle.std.proofs.lemmas.Grind.{common_steps}
use Rattle.std.proofs.lemmas.Map.Keys.{IsDistinct-from_sorted}
use Rattle.std.proofs.lemmas.Map.Made.{length-le_from_is_member}
use Rattle.p2p_discovery.specs.Ordered.{has_key}
use Rattle.p2p_tracker.specs.Status.{is_inert}
use Rattle.p2p_tracker.specs.Record.{is_eligible, is_myself, is_named_or_persistent}
use Rattle.p2p_tracker.specs.Seen.{DirectoryView, RecordView, record_of}
use Rattle.p2p_tracker.specs.Directory.{AreTornDown, is_torn_down_by, other_keys}

-- what a look-up finds and a test of the values passes is among the keys of those that pass
found : {K X : Type 0} (test : K → Bool) (p : X → Bool) (es : List (K × X)) (x : X) → lookup test es ≡ Some x → p x ≡ true →
    list_any test (keys_of (filter (λ e. p e.1) es)) ≡ true
found test p [] x e h = absurd (cc)
found test p (e0 ∷ es) x e h = grind (arith, common_steps, found test p es x)

both_left : (a b c : Bool) → ((a && b) && c) ≡ true → b ≡ true
both_left true true c h = refl
both_left true false c h = absurd (cc)
both_left false b c h = absurd (cc)

not_left : (a b : Bool) → (not a && b) ≡ true → not a ≡ true
not_left true b h = absurd (cc)
not_left false b h = refl

module _ {C S : Type 0} {cmp : C → C → Ordering} (total : IsTotalOrder cmp) (d d2 : DirectoryView C S) where
  -- who is torn down has a record that isn't that of the local node
  other : (q : C) → is_torn_down_by cmp d d2 q ≡ true → is_member (eq_by_cmp cmp) (other_keys d.records) q ≡ true
  other q h = go (record_of cmp d q) refl h
    where
      gone : Bool
      gone = not (option_map_or is_eligible (record_of cmp d2 q) false)

      go : (o : Option (RecordView C S)) → record_of cmp d q ≡ o →
          (option_map_or (λ r. not (is_inert r.status) && is_eligible r) o false && gone) ≡ true →
          is_member (eq_by_cmp cmp) (other_keys d.records) q ≡ true
      go None e f = absurd (cc)
      go (Some r) e f = found (is_at (cmp q)) (λ x. not (is_myself x.address)) d.records r e
          (not_left (is_myself r.address) (is_named_or_persistent r) (both_left (not (is_inert r.status)) (is_eligible r) gone f))

  swap : (ps : List C) (q : C) → is_member (eq_by_cmp cmp) ps q ≡ true → has_key cmp ps q ≡ true
  swap [] q h = absurd (cc)
  swap (p ∷ ps) q h = grind (arith, common_steps, (eq_by_cmp_equiv total).symm q p, swap ps q)

  pub few_torn : (torn : List C) → AreTornDown cmp d d2 torn → length torn ≤ length (other_keys d.records)
  few_torn torn h = length-le_from_is_member (eq_by_cmp_equiv total) torn (other_keys d.records)
      (IsDistinct-from_sorted cmp torn h.sorted) (λ q m. other q (sym (h.members q) ∙ swap torn q m))
