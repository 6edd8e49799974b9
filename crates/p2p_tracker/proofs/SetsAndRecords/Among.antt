-- What is shared of peers with their bits is found by a search for each key that may have something to share.
use Rattle.std.proofs.Common.{◌≡◌, Bool, true, false, ◌||◌, cond, ℕ, zero, suc, ◌<◌, List, [], ◌∷◌, length, Option, Some, None}
use Rattle.std.proofs.Common.{refl, sym, ◌∙◌, ap, subst, zip, filter_map, slice_get, arith}
use Rattle.std.specs.Prelude.{◌==◌, nat_le, slice_index_or, if◌then◌else◌}
use Rattle.std.specs.BTreeMap.{is_at}
use Rattle.std.specs.Cmp.{IsTotalOrder}
use Rattle.std.specs.List.{AllByRecursion, cons_option}
use Rattle.std.specs.List.Sorted.{IsStrictlySortedBy}
use Rattle.std.specs.Map.{lookup, keys_of}
use Rattle.std.specs.Option.{option_and_then}
use Rattle.std.specs.Ordering.{is_eq, match_ordering, ordering_reverse}
use Rattle.std.specs.declared.cmp.Ordering.{Ordering}
use Rattle.std.specs.declared.cmp.Ordering.TheVariants.{Less, Equal, Greater}
use Rattle.std.proofs.lemmas.Bool.Decides.{nat_tests}
use Rattle.std.proofs.lemmas.Cmp.{tied_itself}
use Rattle.std.proofs.lemmas.Map.{lookup-none}
use Rattle.std.proofs.lemmas.Map.Entries.{none_below_head, lookup_head, lookup_tail}
use Rattle.std.proofs.lemmas.Map.Keys.{sorted_head, sorted_tail}
use Rattle.std.proofs.lemmas.Map.Lookups.{CmpEqualImpliesEq}
use Rattle.std.proofs.lemmas.Bool.{or_parts, or_from}
use Rattle.p2p_discovery.specs.Ordered.{has_key, IsPlaceOf}
use Rattle.p2p_discovery.proofs.Truth.{Equal-from_is_eq}
use Rattle.p2p_tracker.specs.Seen.{RecordView, record_at}
use Rattle.p2p_tracker.specs.Directory.{shared_at, shared_of, shared_for, sharable_of_record}
use Rattle.p2p_tracker.specs.Private.Among.{shared_with, with_key}
use Rattle.p2p_tracker.proofs.SetsAndRecords.Asked.{sorted_zip}
use Rattle.p2p_tracker.proofs.SetsAndRecords.Walked.{behind_equal, behind_greater}

module _ {K : Type 0} {cmp : K → K → Ordering} (total : IsTotalOrder cmp) where
  apart : (k q : K) → cmp k q ≡ Less → is_at (cmp q) k ≡ false
  apart k q less = ap is_eq (total.antisymm q k ∙ ap ordering_reverse less)

  -- a key that is below all isn't one of them
  no_key : (q : K) (ks : List K) → AllByRecursion (λ k. cmp q k ≡ Less) ks → has_key cmp ks q ≡ false
  no_key q [] all = refl
  no_key q (k ∷ ks) all = ap (λ b. b || has_key cmp ks q) (apart q k all.0) ∙ no_key q ks all.1

  module _ {B I : Type 0} (exact : CmpEqualImpliesEq cmp) (f : K × B → Option I) where
    abbrev found : List (K × B) → K → Option I
    found xs q = option_and_then (λ b. f (q, b)) (lookup (is_at (cmp q)) xs)

    -- whoever isn't one of the keys has nothing
    abbrev Covered : List K → K × B → Type 0
    Covered ks x = has_key cmp ks x.0 ≡ false → f x ≡ None

    nothing : (ks : List K) → filter_map (found []) ks ≡ []
    nothing [] = refl
    nothing (k ∷ ks) = nothing ks

    none_of : (xs : List (K × B)) → AllByRecursion (Covered []) xs → filter_map f xs ≡ []
    none_of [] all = refl
    none_of (x ∷ xs) all = λ i. cons_option (all.0 refl i) (none_of xs all.1 i)

    -- keys behind the first of them find the same in the others
    past : (x : K × B) (xs : List (K × B)) (ks : List K) → AllByRecursion (λ k. cmp x.0 k ≡ Less) ks →
        filter_map (found (x ∷ xs)) ks ≡ filter_map (found xs) ks
    past x xs [] all = refl
    past x xs (k ∷ ks) all =
        λ i. cons_option (option_and_then (λ b. f (k, b)) (lookup_tail (is_at (cmp k)) x xs (apart x.0 k all.0) i))
        (past x xs ks all.1 i)

    fewer : (k : K) (ks : List K) (ys : List (K × B)) → AllByRecursion (λ q. cmp k q ≡ Less) (keys_of ys) →
        AllByRecursion (Covered (k ∷ ks)) ys → AllByRecursion (Covered ks) ys
    fewer k ks [] less all = tt
    fewer k ks (y ∷ ys) less all =
        (λ n. all.0 (ap (λ o. is_eq o || has_key cmp ks y.0) less.0 ∙ n), fewer k ks ys less.1 all.1)

    -- the keys in order find all, in order
    pub among : (xs : List (K × B)) (ks : List K) → IsStrictlySortedBy cmp (keys_of xs) → IsStrictlySortedBy cmp ks →
        AllByRecursion (Covered ks) xs → filter_map (found xs) ks ≡ filter_map f xs
    among [] ks up kup covered = nothing ks
    among (x ∷ xs) keys up kup covered =
        inner (λ ks kup c. among xs ks (sorted_tail cmp x.0 (keys_of xs) up) kup c) keys kup covered
      where
        behind : AllByRecursion (λ q. cmp x.0 q ≡ Less) (keys_of xs)
        behind = sorted_head cmp x.0 (keys_of xs) up

        inner : ((ks : List K) → IsStrictlySortedBy cmp ks → AllByRecursion (Covered ks) xs →
            filter_map (found xs) ks ≡ filter_map f xs) →
            (ks : List K) → IsStrictlySortedBy cmp ks → AllByRecursion (Covered ks) (x ∷ xs) →
            filter_map (found (x ∷ xs)) ks ≡ filter_map f (x ∷ xs)
        inner rest [] kup covered = sym (none_of (x ∷ xs) covered)
        inner rest (k ∷ ks) kup covered = go (cmp k x.0) refl (inner rest ks (sorted_tail cmp k ks kup))
          where
            go : (o : Ordering) → cmp k x.0 ≡ o →
                (AllByRecursion (Covered ks) (x ∷ xs) → filter_map (found (x ∷ xs)) ks ≡ filter_map f (x ∷ xs)) →
                filter_map (found (x ∷ xs)) (k ∷ ks) ≡ filter_map f (x ∷ xs)
            go Less e later =
                (λ i. cons_option
                (option_and_then (λ b. f (k, b)) (lookup-none (is_at (cmp k)) (x ∷ xs) (none_below_head total k x xs up e) i))
                (filter_map (found (x ∷ xs)) ks))
                ∙ later (fewer k ks (x ∷ xs) (e, behind_greater total k x.0 e (keys_of xs) behind) covered)
            go Equal e later =
                let head : found (x ∷ xs) k ≡ f x =
                ap (option_and_then (λ b. f (k, b))) (lookup_head (is_at (cmp k)) x xs (ap is_eq e))
                ∙ ap (λ q. f (q, x.1)) (exact k x.0 e) in
                let others : filter_map (found (x ∷ xs)) ks ≡ filter_map f xs =
                past x xs ks (behind_equal total x.0 k e ks (sorted_head cmp k ks kup))
                ∙ rest ks (sorted_tail cmp k ks kup)
                (fewer k ks xs (behind_equal total k x.0 (total.antisymm x.0 k ∙ ap ordering_reverse e) (keys_of xs) behind)
                covered.1) in
                λ i. cons_option (head i) (others i)
            go Greater e later =
                let less : cmp x.0 k ≡ Less = total.antisymm x.0 k ∙ ap ordering_reverse e in
                let all = behind_greater total x.0 k less ks (sorted_head cmp k ks kup) in
                past x xs (k ∷ ks) (less, all)
                ∙ rest (k ∷ ks) kup covered.1
                ∙ (λ i. cons_option (sym (covered.0 (no_key x.0 (k ∷ ks) (less, all))) i) (filter_map f xs))

-- A KEY AMONG OTHERS

module _ {K : Type 0} {cmp : K → K → Ordering} (total : IsTotalOrder cmp) (own : K) where
  above_with : (k : K) (ks : List K) → cmp k own ≡ Less → AllByRecursion (λ q. cmp k q ≡ Less) ks →
      AllByRecursion (λ q. cmp k q ≡ Less) (with_key cmp own ks)
  above_with k [] less all = (less, tt)
  above_with k (q ∷ ks) less all = go (cmp own q) (above_with k ks less all.1)
    where
      go : (o : Ordering) → AllByRecursion (λ q. cmp k q ≡ Less) (with_key cmp own ks) →
          AllByRecursion (λ q. cmp k q ≡ Less) (match_ordering o (own ∷ q ∷ ks) (q ∷ ks) (q ∷ with_key cmp own ks))
      go Less rest = (less, all)
      go Equal rest = all
      go Greater rest = (all.0, rest)

  pub sorted_with : (ks : List K) → IsStrictlySortedBy cmp ks → IsStrictlySortedBy cmp (with_key cmp own ks)
  unfolding IsStrictlySortedBy
  sorted_with [] up = (tt, tt)
  sorted_with (k ∷ ks) up = go (cmp own k) refl (sorted_with ks up.1)
    where
      go : (o : Ordering) → cmp own k ≡ o → IsStrictlySortedBy cmp (with_key cmp own ks) →
          IsStrictlySortedBy cmp (match_ordering o (own ∷ k ∷ ks) (k ∷ ks) (k ∷ with_key cmp own ks))
      go Less e rest = ((e, behind_greater total own k e ks up.0), up)
      go Equal e rest = up
      go Greater e rest = (above_with k ks (total.antisymm k own ∙ ap ordering_reverse e) up.0, rest)

  -- whoever isn't among them is neither the key nor one of the others
  pub outside_with : (ks : List K) (q : K) → has_key cmp (with_key cmp own ks) q ≡ false →
      (is_at (cmp own) q ≡ false) × (has_key cmp ks q ≡ false)
  outside_with [] q out = ((or_parts (is_at (cmp own) q) false out).0, refl)
  outside_with (k ∷ ks) q out = go (cmp own k) refl out (outside_with ks q)
    where
      go : (o : Ordering) → cmp own k ≡ o →
          has_key cmp (match_ordering o (own ∷ k ∷ ks) (k ∷ ks) (k ∷ with_key cmp own ks)) q ≡ false →
          (has_key cmp (with_key cmp own ks) q ≡ false → (is_at (cmp own) q ≡ false) × (has_key cmp ks q ≡ false)) →
          (is_at (cmp own) q ≡ false) × (has_key cmp (k ∷ ks) q ≡ false)
      go Less e f later = or_parts (is_at (cmp own) q) (has_key cmp (k ∷ ks) q) f
      go Equal e f later =
          (ap is_eq (total.congr own k q e) ∙ (or_parts (is_at (cmp k) q) (has_key cmp ks q) f).0, f)
      go Greater e f later =
          let both = or_parts (is_at (cmp k) q) (has_key cmp (with_key cmp own ks) q) f in
          let rest = later both.1 in
          (rest.0, or_from (is_at (cmp k) q) (has_key cmp ks q) both.0 rest.1)

-- WHAT IS SHARED

module _ {C S : Type 0} {cmp : C → C → Ordering} (total : IsTotalOrder cmp) (exact : CmpEqualImpliesEq cmp)
    (records : List (C × RecordView C S)) (millis : ℕ) (ps : List C) (bits : List Bool) where
  none_of_record : (known : Bool) (q : C) → option_and_then sharable_of_record (record_at cmp records q) ≡ None →
      shared_at cmp records millis (q, known) ≡ None
  none_of_record true q none = refl
  none_of_record false q none = ap (λ o. elim o [
    | None ↦ None
    | Some i ↦ if nat_le i.timestamp millis then Some i else None
  ]) none

  covered : (own : C) (ks : List C) → ((q : C) → is_at (cmp own) q ≡ false → has_key cmp ks q ≡ false →
      option_and_then sharable_of_record (record_at cmp records q) ≡ None) → (xs : List (C × Bool)) →
      AllByRecursion (λ x. has_key cmp (with_key cmp own ks) x.0 ≡ false → shared_at cmp records millis x ≡ None) xs
  covered own ks outside [] = tt
  covered own ks outside ((q, known) ∷ xs) = (
    λ out.
        let both = outside_with total own ks q out in
        none_of_record known q (outside q both.0 both.1),
    covered own ks outside xs,
  )

  -- where nobody else has anything to share, the own key and the others find all that is shared
  pub shared_among : (own : C) (ks : List C) → IsStrictlySortedBy cmp ps → IsStrictlySortedBy cmp ks →
      ((q : C) → is_at (cmp own) q ≡ false → has_key cmp ks q ≡ false →
      option_and_then sharable_of_record (record_at cmp records q) ≡ None) →
      filter_map (shared_with cmp records millis ps bits) (with_key cmp own ks) ≡ shared_of cmp records millis ps bits
  shared_among own ks up kup outside =
      among total exact (shared_at cmp records millis) (zip ps bits) (with_key cmp own ks) (sorted_zip cmp ps bits up)
      (sorted_with total own ks kup) (covered own ks outside (zip ps bits))

  -- .. unless the bits are of another number
  pub shared_for_same : length bits ≡ length ps →
      shared_for cmp records millis ps bits ≡ Some (shared_of cmp records millis ps bits)
  shared_for_same same = ap (λ b. if b then Some (shared_of cmp records millis ps bits) else None)
      (let e : (length bits == length ps) ≡ true = grind (arith, nat_tests) in e)

-- A PEER WITH ITS BIT

module _ {C : Type 0} {cmp : C → C → Ordering} (total : IsTotalOrder cmp) where
  at_place : (P : C → Type 0) (ps : List C) (j : ℕ) (q : C) → AllByRecursion P ps → j < length ps → slice_index_or ps j q ≡ q → P q
  at_place P [] j q all low is = absurd (omega (arith, low))
  at_place P (p ∷ ps) zero q all low is = subst P is all.0
  at_place P (p ∷ ps) (suc j) q all low is = at_place P ps j q all.1 (omega (arith, low)) is

  -- the bit of a peer at its place
  pub found_at : (ps : List C) (bits : List Bool) (j : ℕ) (q : C) (known : Bool) → IsStrictlySortedBy cmp ps →
      j < length ps → slice_index_or ps j q ≡ q → slice_get bits j ≡ Some known →
      lookup (is_at (cmp q)) (zip ps bits) ≡ Some known
  unfolding IsStrictlySortedBy
  found_at [] bits j q known up low is bit = absurd (omega (arith, low))
  found_at (p ∷ ps) [] j q known up low is bit = absurd cc
  found_at (p ∷ ps) (b ∷ bits) zero q known up low is bit =
      let same : b ≡ known = cc in
      lookup_head (is_at (cmp q)) (p, b) (zip ps bits) (ap (λ p. is_at (cmp q) p) is ∙ ap is_eq (tied_itself total q))
      ∙ ap Some same
  found_at (p ∷ ps) (b ∷ bits) (suc j) q known up low is bit =
      lookup_tail (is_at (cmp q)) (p, b) (zip ps bits)
      (apart total p q (at_place (λ y. cmp p y ≡ Less) ps j q up.0 (omega (arith, low)) is))
      ∙ found_at ps bits j q known up.1 (omega (arith, low)) is bit

  -- whoever has no place has no bit
  pub found_nowhere : CmpEqualImpliesEq cmp → (ps : List C) (bits : List Bool) (q : C) →
      ((k : ℕ) → ¬ (IsPlaceOf q ps k)) → lookup (is_at (cmp q)) (zip ps bits) ≡ None
  found_nowhere exact (p ∷ ps) (b ∷ bits) q absent =
      go (is_at (cmp q) p) refl (found_nowhere exact ps bits q
      (λ k at. absent (suc k) (record { in_range = omega (arith, at.in_range); at_place = at.at_place })))
    where
      go : (t : Bool) → is_at (cmp q) p ≡ t → lookup (is_at (cmp q)) (zip ps bits) ≡ None →
          cond t (Some b) (lookup (is_at (cmp q)) (zip ps bits)) ≡ None
      go true e rest = absurd (absent zero (record {
        in_range = omega (arith);
        at_place = sym (exact q p (Equal-from_is_eq (cmp q p) e));
      }))
      go false e rest = rest
  found_nowhere exact _ _ q absent = refl
