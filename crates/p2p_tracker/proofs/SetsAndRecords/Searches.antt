-- Where a search among keys in order, each with a value, finds one, and what a change there leaves.
use Rattle.std.proofs.Common.{◌≡◌, ℕ, zero, suc, ◌<◌, ◌+◌, ◌||◌, Bool, true, false, cond, List, [], ◌∷◌, length, get_or}
use Rattle.std.proofs.Common.{Some, None, refl, sym, ◌∙◌, ap, inl, inr, arith}
use mathlib.Core.Bool.{true≢false}
use Rattle.std.specs.Prelude.{is_some}
use Rattle.std.specs.BTreeMap.{is_at}
use Rattle.std.specs.Cmp.{IsTotalOrder, eq_by_cmp_equiv}
use Rattle.std.specs.List.{slice_set}
use Rattle.std.specs.List.Sorted.{IsStrictlySortedBy, IsPartitionPoint, IsSortedBy}
use Rattle.std.specs.Map.{keys_of, lookup, set_value}
use Rattle.std.specs.Ordering.{is_eq, is_lt, ordering_reverse}
use Rattle.std.specs.declared.cmp.Ordering.{Ordering}
use Rattle.std.specs.declared.cmp.Ordering.TheVariants.{Less, Greater}
use Rattle.std.proofs.lemmas.Bool.{cases_lt}
use Rattle.std.proofs.lemmas.Cmp.{tied_itself}
use Rattle.std.proofs.lemmas.List.{get_or-map}
use Rattle.std.proofs.lemmas.Map.{NonePasses, lookup-none}
use Rattle.std.proofs.lemmas.Map.Entries.{length-keys_of, lookup_tail}
use Rattle.std.proofs.lemmas.Map.Keys.{sorted_tail, Less-from_sorted}
use Rattle.p2p_discovery.specs.Ordered.{has_key}

module _ {C : Type 0} {cmp : C → C → Ordering} (total : IsTotalOrder cmp) where
  pub itself : (p k : C) → k ≡ p → is_at (cmp p) k ≡ true
  itself p k e = ap (is_at (cmp p)) e ∙ ap is_eq (tied_itself total p)

  lesser : (p k : C) → cmp k p ≡ Less → is_at (cmp p) k ≡ false
  lesser p k e = ap is_eq (total.antisymm p k ∙ ap ordering_reverse e)

  greater : (p k : C) → cmp k p ≡ Greater → is_at (cmp p) k ≡ false
  greater p k e = ap is_eq (total.antisymm p k ∙ ap ordering_reverse e)

module _ {C X : Type 0} {cmp : C → C → Ordering} (total : IsTotalOrder cmp) where
  -- the key at i
  pub key_at : (es : List (C × X)) (i : ℕ) (e : C × X) → i < length es → e ≡ get_or es i e →
      (i < length (keys_of es)) × (e.0 ≡ get_or (keys_of es) i e.0)
  key_at es i e low is = (
    omega (arith, low, length-keys_of es),
    sym (get_or-map (λ (y : C × X). y.0) es i e e.0 low ∙ ap (λ (y : C × X). y.0) (sym is)),
  )

  -- the first key is before a later one
  before : (x : C × X) (xs : List (C × X)) (i : ℕ) (p : C) (d : C × X) →
      IsStrictlySortedBy cmp (keys_of (x ∷ xs)) → i < length xs → (get_or xs i d).0 ≡ p → is_at (cmp p) x.0 ≡ false
  before x xs i p d up low e =
      let key : get_or (keys_of xs) i p ≡ p = get_or-map (λ (e : C × X). e.0) xs i d p low ∙ e in
      lesser total p x.0 (sym (ap (cmp x.0) key)
      ∙ Less-from_sorted cmp (keys_of (x ∷ xs)) 0 (suc i) p up (omega arith) (omega (arith, length-keys_of xs, low)))

  -- the value of the key at i
  pub found_at : (xs : List (C × X)) (i : ℕ) (p : C) (d : C × X) →
      IsStrictlySortedBy cmp (keys_of xs) → i < length xs → (get_or xs i d).0 ≡ p →
      lookup (is_at (cmp p)) xs ≡ Some (get_or xs i d).1
  found_at [] i p d up low e = absurd (omega arith)
  found_at (x ∷ xs) zero p d up low e = ap (λ b. cond b (Some x.1) (lookup (is_at (cmp p)) xs)) (itself total p x.0 e)
  found_at (x ∷ xs) (suc i) p d up low e =
      ap (λ b. cond b (Some x.1) (lookup (is_at (cmp p)) xs)) (before x xs i p d up (omega arith) e)
      ∙ found_at xs i p d (sorted_tail cmp x.0 (keys_of xs) up) (omega arith) e

  -- .. when another is written there
  pub written_at : (xs : List (C × X)) (i : ℕ) (p : C) (d : C × X) (v : X) →
      IsStrictlySortedBy cmp (keys_of xs) → i < length xs → (get_or xs i d).0 ≡ p →
      slice_set xs i ((get_or xs i d).0, v) ≡ set_value (is_at (cmp p)) xs v
  written_at [] i p d v up low e = absurd (omega arith)
  written_at (x ∷ xs) zero p d v up low e =
      sym (ap (λ b. cond b ((x.0, v) ∷ xs) (x ∷ set_value (is_at (cmp p)) xs v)) (itself total p x.0 e))
  written_at (x ∷ xs) (suc i) p d v up low e =
      ap (λ ys. x ∷ ys) (written_at xs i p d v (sorted_tail cmp x.0 (keys_of xs) up) (omega arith) e)
      ∙ sym (ap (λ b. cond b ((x.0, v) ∷ xs) (x ∷ set_value (is_at (cmp p)) xs v)) (before x xs i p d up (omega arith) e))

  -- where a search finds none there is none
  nobody : (xs : List (C × X)) (p : C) →
      ((k : ℕ) (d : C × X) → k < length xs → is_at (cmp p) (get_or xs k d).0 ≡ false) →
      NonePasses (is_at (cmp p)) xs
  nobody [] p none = tt
  nobody (x ∷ xs) p none = (none 0 x (omega arith), nobody xs p (λ k d low. none (suc k) d (omega (arith, low))))

  pub none_there : (xs : List (C × X)) (i : ℕ) (p : C) →
      IsPartitionPoint (λ (e : C × X). cmp e.0 p ≡ Less) (λ e. cmp e.0 p ≡ Greater) xs i →
      NonePasses (is_at (cmp p)) xs
  none_there xs i p parts = nobody xs p (λ k d low. elim (cases_lt k i) [
    | inl below ↦ lesser total p (get_or xs k d).0 (parts.0 k d (omega (arith, below)) below)
    | inr from ↦ greater total p (get_or xs k d).0 (parts.1 k d from low)
  ])

  pub missing : (xs : List (C × X)) (i : ℕ) (p : C) →
      IsPartitionPoint (λ (e : C × X). cmp e.0 p ≡ Less) (λ e. cmp e.0 p ≡ Greater) xs i →
      lookup (is_at (cmp p)) xs ≡ None
  missing xs i p parts = lookup-none (is_at (cmp p)) xs (none_there xs i p parts)

  -- keys that rise strictly do not fall
  pub not_falling : (xs : List (C × X)) → IsStrictlySortedBy cmp (keys_of xs) →
      IsSortedBy (λ (a b : C × X). is_lt (cmp a.0 b.0)) xs
  not_falling xs up k d low high =
      let key = λ (i : ℕ) (below : i < length xs). get_or-map (λ (e : C × X). e.0) xs i d d.0 below in
      let less = Less-from_sorted cmp (keys_of xs) k (k + 1) d.0 up (omega arith) (omega (arith, length-keys_of xs, high)) in
      ap is_lt (total.antisymm (get_or xs (k + 1) d).0 (get_or xs k d).0
      ∙ ap ordering_reverse (ap (λ a. cmp a (get_or xs (k + 1) d).0) (sym (key k (omega arith)))
      ∙ ap (cmp (get_or (keys_of xs) k d.0)) (sym (key (k + 1) high)) ∙ less))

  -- a key that a look-up finds is among the keys
  pub has_found : (es : List (C × X)) (p : C) → is_some (lookup (is_at (cmp p)) es) ≡ true → has_key cmp (keys_of es) p ≡ true
  has_found [] p e = absurd (true≢false (sym e))
  has_found (x ∷ es) p e = go (is_at (cmp p) x.0) refl (has_found es p)
    where
      go : (b : Bool) → is_at (cmp p) x.0 ≡ b →
          (is_some (lookup (is_at (cmp p)) es) ≡ true → has_key cmp (keys_of es) p ≡ true) →
          has_key cmp (keys_of (x ∷ es)) p ≡ true
      go true is rest = ap (λ b. b || has_key cmp (keys_of es) p) ((eq_by_cmp_equiv total).symm x.0 p ∙ is)
      go false is rest =
          ap (λ b. b || has_key cmp (keys_of es) p) ((eq_by_cmp_equiv total).symm x.0 p ∙ is)
          ∙ rest (sym (ap is_some (lookup_tail (is_at (cmp p)) x es is)) ∙ e)
