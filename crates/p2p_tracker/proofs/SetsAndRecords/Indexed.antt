-- Retained sets beside the latest places of their primary peers.
use Rattle.std.proofs.Common.{◌≡◌, ℕ, zero, suc, ◌+◌, ◌<◌, ◌⊎◌, inl, inr, Bool, true, false, cond, List, [], ◌∷◌, ◌++◌}
use Rattle.std.proofs.Common.{map, drop, length, get_or, Err, refl, sym, ◌||◌, filter, not, Option, Some, None, IfSome}
use Rattle.std.proofs.Common.{◌∙◌, ap, subst, arith, append_assoc, append-nil}
use mathlib.Core.Bool.{true≢false}
use Rattle.std.proofs.lemmas.Map.Lookups.{CmpEqualImpliesEq}
use Rattle.std.specs.Prelude.{◌==◌}
use Rattle.std.specs.BTreeMap.{is_at}
use Rattle.std.specs.Cmp.{IsTotalOrder, eq_by_cmp_equiv, nat_cmp_total}
use Rattle.std.specs.List.{AllByRecursion, slice_set}
use Rattle.std.specs.List.Sorted.{IsStrictlySortedBy, IsNonDecreasingBy, IsBinarySearchResult}
use Rattle.std.specs.Map.{keys_of}
use Rattle.std.specs.Ordering.{nat_cmp, is_lt, ordering_reverse, ordering_index}
use Rattle.std.specs.declared.cmp.Ordering.{Ordering}
use Rattle.std.specs.declared.cmp.Ordering.TheVariants.{Less, Equal, Greater}
use Rattle.std.proofs.lemmas.Bool.{cases_lt, or_parts}
use Rattle.std.proofs.lemmas.List.{get_or-map, length-map, map-append}
use Rattle.std.proofs.lemmas.List.Sorted.{searchable_from_sorted}
use Rattle.std.proofs.lemmas.Bool.Decides.{nat_tests}
use Rattle.std.proofs.lemmas.Cmp.{ranked}
use Rattle.std.proofs.lemmas.Map.Entries.{none_past_head}
use Rattle.std.proofs.lemmas.Map.Keys.{sorted_tail, Less-from_sorted, IsDistinct-from_sorted}
use Rattle.std.proofs.Math.Bool.{or-true, or-false, or_assoc}
use Rattle.p2p_discovery.specs.BitSets.{with_bit}
use Rattle.p2p_discovery.proofs.Truth.{nat_eq-itself, nat_eq-greater}
use Rattle.p2p_tracker.specs.declared.kept.places.Place.{Place}
use Rattle.p2p_tracker.specs.PeerSets.{latest_index, is_above}
use Rattle.p2p_tracker.specs.Private.Places.{place_of, places_from, places_in, bit_at, with_bits_at, AreOrdered, IsIndexed}
use Rattle.p2p_tracker.specs.Private.Places.{first_or, unless_in, walk, met_in, has_index, indices, AreEarlier}
use Rattle.p2p_tracker.specs.Private.Window.{SetWithBits, plain_sets, bits_with, with_bit_of, IsAscending}
use Rattle.p2p_tracker.proofs.SetsAndRecords.Naming.{all_joined}
use Rattle.p2p_tracker.proofs.SetsAndRecords.Places.{only, one_or_none}
use Rattle.p2p_tracker.proofs.SetsAndRecords.Walks.{as_many, met_more, earlier_more, met_later, is_outside}
use Rattle.p2p_tracker.proofs.SetsAndRecords.Windows.{keys_bits_with, bits_without, none_ascends}
use Rattle.p2p_tracker.proofs.SetsAndRecords.Windows.{ascending_push, ascending_with_bit}

has_index_more : (ns : List ℕ) (n m : ℕ) → has_index (ns ++ n ∷ []) m ≡ (has_index ns m || (n == m))
has_index_more [] n m = or-false (n == m)
has_index_more (k ∷ ns) n m = ap (λ b. (k == m) || b) (has_index_more ns n m)
    ∙ sym (or_assoc (k == m) (has_index ns m) (n == m))

-- one of ascending numbers before the last is below it
below_last : (ns : List ℕ) (n m : ℕ) → IsStrictlySortedBy nat_cmp (ns ++ n ∷ []) → has_index ns m ≡ true → m < n
unfolding IsStrictlySortedBy
below_last [] n m up e = absurd (true≢false (sym e))
below_last (k ∷ ns) n m up e = go (k == m) refl e (below_last ns n m up.1)
  where
    last : (ns : List ℕ) → AllByRecursion (λ y. nat_cmp k y ≡ Less) (ns ++ n ∷ []) → k < n
    last [] h = ranked k n Less (sym h.0)
    last (y ∷ ns) h = last ns h.1

    go : (b : Bool) → (k == m) ≡ b → (b || has_index ns m) ≡ true → (has_index ns m ≡ true → m < n) → m < n
    go true same e rest = let low : k < n = last ns up.0 in
        let is : k ≡ m = grind (arith, nat_tests, same) in
        omega (arith, low, is)
    go false same e rest = rest e

-- a place in a retained set is below a set that comes
below_next : {C : Type 0} (sets : List (SetWithBits C)) (x : SetWithBits C) → IsAscending sets →
    is_above x.index (latest_index (plain_sets sets)) ≡ true → (o : Option Place) →
    IfSome o (λ p. has_index (indices sets) p.set ≡ true) → IfSome o (λ p. p.set < x.index)
below_next sets x up above None h = tt
below_next {C = C} sets x up above (Some p) h = below_last (indices sets) x.index p.set
    (subst (IsStrictlySortedBy nat_cmp) (map-append (λ (y : SetWithBits C). y.index) sets (x ∷ []))
    (ascending_push sets x up above)) h

-- SETS THAT COME AND GO

module _ {C : Type 0} (cmp : C → C → Ordering) where
  places_in_more : (sets : List (SetWithBits C)) (x : SetWithBits C) (q : C) →
      places_in cmp (sets ++ x ∷ []) q ≡ places_in cmp sets q ++ places_from cmp x.index 0 (keys_of x.primary) q
  places_in_more [] x q = append-nil (places_from cmp x.index 0 (keys_of x.primary) q)
  places_in_more (y ∷ sets) x q =
      let first = places_from cmp y.index 0 (keys_of y.primary) q in
      ap (λ ps. first ++ ps) (places_in_more sets x q)
      ∙ sym (append_assoc first (places_in cmp sets q) (places_from cmp x.index 0 (keys_of x.primary) q))

  -- no set, no place
  pub none_indexed : (places : List (C × Place)) (links : List (List (Option Place)))
      (sets : List (SetWithBits C)) → places ≡ [] → links ≡ [] → sets ≡ [] → IsIndexed cmp places links sets
  none_indexed places links sets none no_link empty = subst (λ ps. IsIndexed cmp ps links sets) (sym none)
      (subst (λ ls. IsIndexed cmp [] ls sets) (sym no_link) (subst (IsIndexed cmp [] []) (sym empty) (record {
        ascending = none_ascends C;
        ordered = tt;
        earlier = tt;
        retained = λ q. tt;
        met_all = λ q. refl;
      })))

  -- each latest place is below a set that comes
  pub all_below : (places : List (C × Place)) (links : List (List (Option Place))) (sets : List (SetWithBits C))
      (x : SetWithBits C) → IsIndexed cmp places links sets →
      is_above x.index (latest_index (plain_sets sets)) ≡ true → (q : C) →
      IfSome (place_of cmp places q) (λ p. p.set < x.index)
  all_below places links sets x h above q = below_next sets x h.ascending above (place_of cmp places q) (h.retained q)

  -- a set comes, and its primary peers' places with it
  pub indexed_pushed : CmpEqualImpliesEq cmp → (old new : List (C × Place)) (links more : List (List (Option Place)))
      (older : List (Option Place)) (before after : List (SetWithBits C)) (x : SetWithBits C) →
      IsIndexed cmp old links before → IsStrictlySortedBy cmp (keys_of x.primary) →
      is_above x.index (latest_index (plain_sets before)) ≡ true →
      ((q : C) → place_of cmp new q ≡ first_or (place_of cmp old q) (places_from cmp x.index 0 (keys_of x.primary) q)) →
      older ≡ map (place_of cmp old) (keys_of x.primary) →
      more ≡ links ++ older ∷ [] → after ≡ before ++ x ∷ [] → IsIndexed cmp new more after
  indexed_pushed exact old new links more older before after x h up above come beside joined is =
      subst (λ ls. IsIndexed cmp new ls after) (sym (joined ∙ ap (λ l. links ++ l ∷ []) beside))
      (subst (IsIndexed cmp new (links ++ map (place_of cmp old) (keys_of x.primary) ∷ [])) (sym is) (record {
        ascending = ascending_push before x h.ascending above;
        ordered = all_joined (λ set. IsStrictlySortedBy cmp (keys_of set.primary)) before (x ∷ []) h.ordered (up, tt);
        earlier = subst (λ ns. AreEarlier ns (links ++ olds ∷ [])) (sym several)
            (earlier_more (indices before) links x.index olds h.earlier (each (keys_of x.primary)));
        retained = λ q. subst (λ o. IfSome o (λ p. has_index (indices (before ++ x ∷ [])) p.set ≡ true))
            (sym (come q)) (here q (one_or_none cmp exact (place_of cmp old) x.index 0 (keys_of x.primary) q));
        met_all = λ q. (λ i. walk (several i) (links ++ olds ∷ []) (come q i))
            ∙ met_more (λ o. []) (indices before) links x.index olds
            (first_or (place_of cmp old q) (places_from cmp x.index 0 (keys_of x.primary) q))
            (as_many (indices before) links h.earlier)
            ∙ all q (one_or_none cmp exact (place_of cmp old) x.index 0 (keys_of x.primary) q)
            ∙ sym (places_in_more before x q);
      }))
    where
      olds : List (Option Place)
      olds = map (place_of cmp old) (keys_of x.primary)

      several : indices (before ++ x ∷ []) ≡ indices before ++ x.index ∷ []
      several = map-append (λ (y : SetWithBits C). y.index) before (x ∷ [])

      below : (o : Option Place) → IfSome o (λ p. has_index (indices before) p.set ≡ true) →
          IfSome o (λ p. p.set < x.index)
      below = below_next before x h.ascending above

      each : (ks : List C) → AllByRecursion (λ o. IfSome o (λ p. p.set < x.index)) (map (place_of cmp old) ks)
      each [] = tt
      each (k ∷ ks) = (below (place_of cmp old k) (h.retained k), each ks)

      there : (o : Option Place) → IfSome o (λ p. has_index (indices before) p.set ≡ true) →
          IfSome o (λ p. has_index (indices (before ++ x ∷ [])) p.set ≡ true)
      there None e = tt
      there (Some p) e = ap (λ ns. has_index ns p.set) several ∙ has_index_more (indices before) x.index p.set
          ∙ ap (λ b. b || (x.index == p.set)) e

      here : (q : C) → (places_from cmp x.index 0 (keys_of x.primary) q ≡ []) ⊎
          ((i : ℕ) × (places_from cmp x.index 0 (keys_of x.primary) q ≡ only x.index (0 + i)) ×
          (get_or olds i None ≡ place_of cmp old q)) →
          IfSome (first_or (place_of cmp old q) (places_from cmp x.index 0 (keys_of x.primary) q))
          (λ p. has_index (indices (before ++ x ∷ [])) p.set ≡ true)
      here q (inl none) = subst (λ ps. IfSome (first_or (place_of cmp old q) ps)
          (λ p. has_index (indices (before ++ x ∷ [])) p.set ≡ true)) (sym none)
          (there (place_of cmp old q) (h.retained q))
      here q (inr found) = subst (λ ps. IfSome (first_or (place_of cmp old q) ps)
          (λ p. has_index (indices (before ++ x ∷ [])) p.set ≡ true)) (sym found.1)
          (ap (λ ns. has_index ns x.index) several ∙ has_index_more (indices before) x.index x.index
          ∙ ap (λ b. has_index (indices before) x.index || b) (nat_eq-itself x.index)
          ∙ or-true (has_index (indices before) x.index))

      stays : (o : Option Place) → IfSome o (λ p. p.set < x.index) →
          met_in (walk (indices before) links) x.index olds o ≡ walk (indices before) links o
      stays None e = refl
      stays (Some p) e = ap (λ b. cond b (walk (indices before) links (get_or olds p.at None) ++ p ∷ [])
          (walk (indices before) links (Some p))) (nat_eq-greater x.index p.set e)

      all : (q : C) → (places_from cmp x.index 0 (keys_of x.primary) q ≡ []) ⊎
          ((i : ℕ) × (places_from cmp x.index 0 (keys_of x.primary) q ≡ only x.index (0 + i)) ×
          (get_or olds i None ≡ place_of cmp old q)) →
          met_in (walk (indices before) links) x.index olds
          (first_or (place_of cmp old q) (places_from cmp x.index 0 (keys_of x.primary) q))
          ≡ places_in cmp before q ++ places_from cmp x.index 0 (keys_of x.primary) q
      all q (inl none) =
          ap (λ ps. met_in (walk (indices before) links) x.index olds (first_or (place_of cmp old q) ps)) none
          ∙ stays (place_of cmp old q) (below (place_of cmp old q) (h.retained q))
          ∙ h.met_all q ∙ sym (append-nil (places_in cmp before q)) ∙ ap (λ ps. places_in cmp before q ++ ps) (sym none)
      all q (inr found) =
          let p : Place = record { set = x.index; at = 0 + found.0 } in
          ap (λ ps. met_in (walk (indices before) links) x.index olds (first_or (place_of cmp old q) ps)) found.1
          ∙ ap (λ b. cond b (walk (indices before) links (get_or olds (0 + found.0) None) ++ p ∷ [])
          (walk (indices before) links (Some p))) (nat_eq-itself x.index)
          ∙ ap (λ ps. ps ++ p ∷ []) (ap (walk (indices before) links)
          (ap (λ i. get_or olds i None) (let e : 0 + found.0 ≡ found.0 = omega arith in e) ∙ found.2) ∙ h.met_all q)
          ∙ ap (λ ps. places_in cmp before q ++ ps) (sym found.1)

  -- new bits leave the places
  pub indexed_with_bit : (places : List (C × Place)) (links : List (List (Option Place))) (p : C) (b : Bool)
      (before after : List (SetWithBits C)) → after ≡ map (with_bit_of cmp p b) before →
      IsIndexed cmp places links before → IsIndexed cmp places links after
  indexed_with_bit places links p b before after is h = record {
    ascending = ascending_with_bit cmp p b before after is h.ascending;
    ordered = subst (AreOrdered cmp) (sym is) (ordered before h.ordered);
    earlier = subst (λ ns. AreEarlier ns links) (sym numbers) h.earlier;
    retained = λ q. subst (λ ns. IfSome (place_of cmp places q) (λ x. has_index ns x.set ≡ true)) (sym numbers)
        (h.retained q);
    met_all = λ q. ap (λ ns. walk ns links (place_of cmp places q)) numbers ∙ h.met_all q ∙ sym (same before q)
        ∙ ap (λ sets. places_in cmp sets q) (sym is);
  }
    where
      unmoved : (sets : List (SetWithBits C)) → indices (map (with_bit_of cmp p b) sets) ≡ indices sets
      unmoved [] = refl
      unmoved (x ∷ sets) = ap (λ ns. x.index ∷ ns) (unmoved sets)

      numbers : indices after ≡ indices before
      numbers = ap indices is ∙ unmoved before

      same : (sets : List (SetWithBits C)) (q : C) →
          places_in cmp (map (with_bit_of cmp p b) sets) q ≡ places_in cmp sets q
      same [] q = refl
      same (x ∷ sets) q = λ i. places_from cmp x.index 0 (keys_bits_with cmp p b x.primary i) q ++ same sets q i

      ordered : (sets : List (SetWithBits C)) → AreOrdered cmp sets → AreOrdered cmp (map (with_bit_of cmp p b) sets)
      ordered [] h = tt
      ordered (x ∷ sets) h = (
        subst (IsStrictlySortedBy cmp) (sym (keys_bits_with cmp p b x.primary)) h.0,
        ordered sets h.1,
      )

-- BITS AT PLACES

above_differs : (m n : ℕ) → nat_cmp m n ≡ Less → (m == n) ≡ false
above_differs m n e = let low : m < n = ranked m n Less (sym e) in grind (arith, nat_tests)

greater_differs : (m n : ℕ) → nat_cmp m n ≡ Greater → (m == n) ≡ false
greater_differs m n e = let low : n < m = ranked m n Greater (sym e) in grind (arith, nat_tests)

below_differs : (m n : ℕ) → nat_cmp m n ≡ Less → (n == m) ≡ false
below_differs m n e = let low : m < n = ranked m n Less (sym e) in grind (arith, nat_tests)

module _ {C : Type 0} where
  -- later sets have other indices
  later_differ : (n : ℕ) (sets : List (SetWithBits C)) →
      AllByRecursion (λ m. nat_cmp n m ≡ Less) (map (λ set. set.index) sets) →
      AllByRecursion (λ set. (set.index == n) ≡ false) sets
  later_differ n [] later = tt
  later_differ n (x ∷ sets) later = (below_differs n x.index later.0, later_differ n sets later.1)

  less_at : (n : ℕ) (sets : List (SetWithBits C)) (i : ℕ) (x : SetWithBits C) →
      AllByRecursion (λ m. nat_cmp n m ≡ Less) (map (λ set. set.index) sets) → i < length sets → x ≡ get_or sets i x →
      nat_cmp n x.index ≡ Less
  less_at n [] i x later low is = absurd (omega (arith, low))
  less_at n (y ∷ sets) zero x later low is = ap (λ (z : SetWithBits C). nat_cmp n z.index) is ∙ later.0
  less_at n (y ∷ sets) (suc i) x later low is = less_at n sets i x later.1 (omega (arith, low)) is

  -- other sets keep their bits
  bit_elsewhere : (known : Bool) (place : Place) (sets : List (SetWithBits C)) →
      AllByRecursion (λ set. (set.index == place.set) ≡ false) sets → map (bit_at known place) sets ≡ sets
  bit_elsewhere known place [] none = refl
  bit_elsewhere known place (x ∷ sets) none =
      λ i. cond (none.0 i) (record x { primary = with_bit x.primary place.at known }) x ∷ bit_elsewhere known place
      sets none.1 i

  -- the set with the index of the place is at i: its bit is written, and no other
  pub bit_written : (known : Bool) (place : Place) (sets : List (SetWithBits C)) (i : ℕ) (x : SetWithBits C) →
      IsAscending sets → i < length sets → x ≡ get_or sets i x → x.index ≡ place.set →
      slice_set sets i (record x { primary = with_bit x.primary place.at known }) ≡ map (bit_at known place) sets
  unfolding IsStrictlySortedBy
  bit_written known place [] i x up low is at = absurd (omega (arith, low))
  bit_written known place (y ∷ sets) zero x up low is at =
      let index : y.index ≡ place.set = ap (λ (z : SetWithBits C). z.index) (sym is) ∙ at in
      let here : (y.index == place.set) ≡ true = ap (λ n. n == place.set) index ∙ nat_eq-itself place.set in
      let past : AllByRecursion (λ set. (set.index == place.set) ≡ false) sets =
      subst (λ n. AllByRecursion (λ set. (set.index == n) ≡ false) sets) index (later_differ y.index sets up.0) in
      (λ j. record (is j) { primary = with_bit (is j).primary place.at known } ∷ sets)
      ∙ (λ j. cond (sym here j) (record y { primary = with_bit y.primary place.at known }) y ∷ sym
      (bit_elsewhere known place sets past) j)
  bit_written known place (y ∷ sets) (suc i) x up low is at =
      let other : (y.index == place.set) ≡ false = ap (λ n. y.index == n) (sym at)
      ∙ above_differs y.index x.index (less_at y.index sets i x up.0 (omega (arith, low)) is) in
      λ j. cond (sym other j) (record y { primary = with_bit y.primary place.at known }) y ∷ bit_written known place
      sets i x up.1 (omega (arith, low)) is at j

  -- the set that a search found has the index
  pub index_found : (sets : List (SetWithBits C)) (i : ℕ) (x : SetWithBits C) (n : ℕ) → x ≡ get_or sets i x →
      nat_cmp (get_or sets i x).index n ≡ Equal → x.index ≡ n
  index_found sets i x n is equal = ranked x.index n Equal
      (sym (ap (λ (y : SetWithBits C). nat_cmp y.index n) is ∙ equal))

  -- the indices don't fall
  searchable : (sets : List (SetWithBits C)) (n : ℕ) → IsAscending sets →
      IsNonDecreasingBy (λ set. ordering_index (nat_cmp set.index n)) sets
  searchable sets n up = searchable_from_sorted nat_cmp_total (λ (set : SetWithBits C). set.index) sets n
      (λ k d low high.
      let index : SetWithBits C → ℕ = λ set. set.index in
      let less : nat_cmp (index (get_or sets k d)) (index (get_or sets (k + 1) d)) ≡ Less =
      let at : (i : ℕ) → i < length sets → get_or (map index sets) i d.index ≡ index (get_or sets i d) =
      λ i below. get_or-map index sets i d d.index below in
      sym (λ i. nat_cmp (at k (omega (arith, high)) i) (at (k + 1) high i))
      ∙ Less-from_sorted nat_cmp (map index sets) k (k + 1) d.index up (omega arith) (simp length-map high) in
      ap is_lt (nat_cmp_total.antisymm (index (get_or sets (k + 1) d)) (index (get_or sets k d))
      ∙ ap ordering_reverse less))

  -- and a search that finds none says that there is none
  pub index_nowhere : (sets : List (SetWithBits C)) (n at : ℕ) → IsAscending sets →
      IsBinarySearchResult (λ (set : SetWithBits C). nat_cmp set.index n) sets (Err at) →
      (k : ℕ) (d : SetWithBits C) → k < length sets → ((get_or sets k d).index == n) ≡ false
  index_nowhere sets n at up found k d low =
      let parts = found (searchable sets n up) in
      elim (cases_lt k at) [
        | inl below ↦ above_differs (get_or sets k d).index n (parts.0 k d (omega (arith, below)) below)
        | inr from ↦ greater_differs (get_or sets k d).index n (parts.1 k d from low)
      ]

  -- no set has the index of the place
  pub bit_nowhere : (known : Bool) (place : Place) (sets : List (SetWithBits C)) →
      ((k : ℕ) (d : SetWithBits C) → k < length sets → ((get_or sets k d).index == place.set) ≡ false) →
      map (bit_at known place) sets ≡ sets
  bit_nowhere known place [] none = refl
  bit_nowhere known place (x ∷ sets) none =
      λ i. cond (none 0 x (omega arith) i) (record x { primary = with_bit x.primary place.at known }) x ∷ bit_nowhere
      known place sets (λ k d low. none (suc k) d (omega (arith, low))) i

  -- .. as a test of the indices
  pub none_has : (sets : List (SetWithBits C)) (n : ℕ) →
      ((k : ℕ) (d : SetWithBits C) → k < length sets → ((get_or sets k d).index == n) ≡ false) →
      has_index (indices sets) n ≡ false
  none_has [] n none = refl
  none_has (x ∷ sets) n none = ap (λ b. b || has_index (indices sets) n) (none 0 x (omega arith))
      ∙ none_has sets n (λ k d low. none (suc k) d (omega (arith, low)))

  -- a place in none of the sets changes no bit
  pub bit_past : (known : Bool) (place : Place) (sets : List (SetWithBits C)) →
      has_index (indices sets) place.set ≡ false → map (bit_at known place) sets ≡ sets
  bit_past known place [] none = refl
  bit_past known place (x ∷ sets) none =
      let parts = or_parts (x.index == place.set) (has_index (indices sets) place.set) none in
      λ i. cond (parts.0 i) (record x { primary = with_bit x.primary place.at known }) x ∷ bit_past
      known place sets parts.1 i

  -- bits at two places are written in any order
  with_bit_swap : (known : Bool) (i j : ℕ) (es : List (C × Bool)) →
      with_bit (with_bit es i known) j known ≡ with_bit (with_bit es j known) i known
  with_bit_swap known i j [] = refl
  with_bit_swap known zero zero (e ∷ es) = refl
  with_bit_swap known zero (suc j) (e ∷ es) = refl
  with_bit_swap known (suc i) zero (e ∷ es) = refl
  with_bit_swap known (suc i) (suc j) (e ∷ es) = ap (λ fs. e ∷ fs) (with_bit_swap known i j es)

  abbrev bit_if : Bool → Bool → ℕ → SetWithBits C → SetWithBits C
  bit_if known b i x = cond b (record x { primary = with_bit x.primary i known }) x

  bits_swap : (known : Bool) (p r : Place) (x : SetWithBits C) →
      bit_at known p (bit_at known r x) ≡ bit_at known r (bit_at known p x)
  bits_swap known p r x =
      ap (λ n. bit_if known (n == p.set) p.at (bit_at known r x)) (index (x.index == r.set) r.at)
      ∙ go (x.index == p.set) (x.index == r.set)
      ∙ sym (ap (λ n. bit_if known (n == r.set) r.at (bit_at known p x)) (index (x.index == p.set) p.at))
    where
      index : (b : Bool) (i : ℕ) → (bit_if known b i x).index ≡ x.index
      index true i = refl
      index false i = refl

      go : (b c : Bool) →
          bit_if known b p.at (bit_if known c r.at x) ≡ bit_if known c r.at (bit_if known b p.at x)
      go true true = ap (λ es. record x { primary = es }) (with_bit_swap known r.at p.at x.primary)
      go _ _ = refl

  all_swap : (known : Bool) (p r : Place) (sets : List (SetWithBits C)) →
      map (bit_at known p) (map (bit_at known r) sets) ≡ map (bit_at known r) (map (bit_at known p) sets)
  all_swap known p r [] = refl
  all_swap known p r (x ∷ sets) = λ i. bits_swap known p r x i ∷ all_swap known p r sets i

  -- the last of some places may have its bit first
  pub bits_last : (known : Bool) (ps : List Place) (p : Place) (sets : List (SetWithBits C)) →
      with_bits_at known (ps ++ p ∷ []) sets ≡ with_bits_at known ps (map (bit_at known p) sets)
  bits_last known [] p sets = refl
  bits_last known (r ∷ ps) p sets = bits_last known ps p (map (bit_at known r) sets)
      ∙ ap (with_bits_at known ps) (all_swap known p r sets)

  -- a bit leaves the indices
  pub indices_with_bit : (known : Bool) (p : Place) (sets : List (SetWithBits C)) →
      indices (map (bit_at known p) sets) ≡ indices sets
  indices_with_bit known p [] = refl
  indices_with_bit known p (x ∷ sets) = λ i. one (x.index == p.set) i ∷ indices_with_bit known p sets i
    where
      one : (b : Bool) → (bit_if known b p.at x).index ≡ x.index
      one true = refl
      one false = refl

  bits_both : (known : Bool) (ps qs : List Place) (sets : List (SetWithBits C)) →
      with_bits_at known (ps ++ qs) sets ≡ with_bits_at known qs (with_bits_at known ps sets)
  bits_both known [] qs sets = refl
  bits_both known (p ∷ ps) qs sets = bits_both known ps qs (map (bit_at known p) sets)

  -- places in later sets leave the first
  bits_past_head : (known : Bool) (ps : List Place) (x : SetWithBits C) (sets : List (SetWithBits C)) →
      AllByRecursion (λ p. (x.index == p.set) ≡ false) ps → with_bits_at known ps (x ∷ sets) ≡ x ∷ with_bits_at known ps sets
  bits_past_head known [] x sets past = refl
  bits_past_head known (p ∷ ps) x sets past =
      (λ i. with_bits_at known ps (cond (past.0 i) (record x { primary = with_bit x.primary p.at known }) x ∷ map
      (bit_at known p) sets))
      ∙ bits_past_head known ps x (map (bit_at known p) sets) past.1

module _ {C : Type 0} {cmp : C → C → Ordering} (o : IsTotalOrder cmp) (q : C) (known : Bool) where
  -- q has a place in a list of peers, where its bit is written, or is none of them
  one_bit : (set n : ℕ) (es : List (C × Bool)) → IsStrictlySortedBy cmp (keys_of es) →
      ((places_from cmp set n (keys_of es) q ≡ []) × (bits_with cmp q known es ≡ es)) ⊎
      ((i : ℕ) × (places_from cmp set n (keys_of es) q ≡ only set (n + i)) ×
      (with_bit es i known ≡ bits_with cmp q known es))
  one_bit set n [] up = inl (refl, refl)
  one_bit set n (e ∷ es) up = go (is_at (cmp e.0) q) refl
      (one_bit set (suc n) es (sorted_tail cmp e.0 (keys_of es) up))
    where
      both : is_at (cmp q) e.0 ≡ is_at (cmp e.0) q
      both = (eq_by_cmp_equiv o).symm q e.0

      go : (b : Bool) → is_at (cmp e.0) q ≡ b →
          ((places_from cmp set (suc n) (keys_of es) q ≡ []) × (bits_with cmp q known es ≡ es)) ⊎
          ((i : ℕ) × (places_from cmp set (suc n) (keys_of es) q ≡ only set (suc n + i)) ×
          (with_bit es i known ≡ bits_with cmp q known es)) →
          ((cond b (only set n) (places_from cmp set (suc n) (keys_of es) q) ≡ []) ×
          (bits_with cmp q known (e ∷ es) ≡ e ∷ es)) ⊎
          ((i : ℕ) × (cond b (only set n) (places_from cmp set (suc n) (keys_of es) q) ≡ only set (n + i)) ×
          (with_bit (e ∷ es) i known ≡ bits_with cmp q known (e ∷ es)))
      go true h rest = inr (
        0,
        ap (only set) (let k : n ≡ n + 0 = omega arith in k),
        λ j. (e.0, cond (sym (both ∙ h) j) known e.1) ∷ sym
            (bits_without cmp q known es (none_past_head (eq_by_cmp_equiv o) q e es
            (IsDistinct-from_sorted cmp (keys_of (e ∷ es)) up) (both ∙ h))) j,
      )
      go false h (inl none) = inl (none.0, λ j. (e.0, cond ((both ∙ h) j) known e.1) ∷ none.1 j)
      go false h (inr found) = inr (
        suc found.0,
        found.1
            ∙ ap (only set) (let k : suc n + found.0 ≡ n + suc found.0 = omega arith in k),
        λ j. (e.0, cond (sym (both ∙ h) j) known e.1) ∷ found.2 j,
      )

  -- the first set of some has q's bit
  first_bit : (x : SetWithBits C) (sets : List (SetWithBits C)) → IsStrictlySortedBy cmp (keys_of x.primary) →
      AllByRecursion (λ set. (set.index == x.index) ≡ false) sets →
      with_bits_at known (places_from cmp x.index 0 (keys_of x.primary) q) (x ∷ sets) ≡ with_bit_of cmp q known x ∷ sets
  first_bit x sets up past = elim (one_bit x.index 0 x.primary up) [
    | inl none ↦ ap (λ ps. with_bits_at known ps (x ∷ sets)) none.0 ∙ (λ j. record x { primary = sym none.1 j } ∷ sets)
    | inr found ↦
        ap (λ ps. with_bits_at known ps (x ∷ sets)) (found.1
        ∙ ap (only x.index) (let k : 0 + found.0 ≡ found.0 = omega arith in k))
        ∙ (λ j. cond (nat_eq-itself x.index j) (record x { primary = with_bit x.primary found.0 known }) x ∷
        bit_elsewhere known (record { set = x.index; at = found.0 }) sets past j)
        ∙ (λ j. record x { primary = found.2 j } ∷ sets)
  ]

  -- the places in later sets are not in this one
  places_later : (n : ℕ) (sets : List (SetWithBits C)) →
      AllByRecursion (λ m. nat_cmp n m ≡ Less) (map (λ set. set.index) sets) →
      AllByRecursion (λ p. (n == p.set) ≡ false) (places_in cmp sets q)
  places_later n [] later = tt
  places_later n (x ∷ sets) later = all_joined (λ p. (n == p.set) ≡ false)
      (places_from cmp x.index 0 (keys_of x.primary) q) (places_in cmp sets q) (from 0 (keys_of x.primary))
      (places_later n sets later.1)
    where
      from : (k : ℕ) (ks : List C) → AllByRecursion (λ p. (n == p.set) ≡ false) (places_from cmp x.index k ks q)
      from k [] = tt
      from k (key ∷ ks) = go (is_at (cmp key) q) (from (suc k) ks)
        where
          go : (b : Bool) → AllByRecursion (λ p. (n == p.set) ≡ false) (places_from cmp x.index (suc k) ks q) →
              AllByRecursion (λ p. (n == p.set) ≡ false)
              (cond b (only x.index k) (places_from cmp x.index (suc k) ks q))
          go true rest = (above_differs n x.index later.0, tt)
          go false rest = rest

  -- the bit at all places of q in ascending sets with ordered peers is the bit of each set that has q
  pub bits_of_all : (sets : List (SetWithBits C)) → IsAscending sets → AreOrdered cmp sets →
      with_bits_at known (places_in cmp sets q) sets ≡ map (with_bit_of cmp q known) sets
  unfolding IsStrictlySortedBy
  bits_of_all [] up ordered = refl
  bits_of_all (x ∷ sets) up ordered =
      bits_both known (places_from cmp x.index 0 (keys_of x.primary) q) (places_in cmp sets q) (x ∷ sets)
      ∙ ap (with_bits_at known (places_in cmp sets q)) (first_bit x sets ordered.0 (later_differ x.index sets up.0))
      ∙ bits_past_head known (places_in cmp sets q) (with_bit_of cmp q known x) sets (places_later x.index sets up.0)
      ∙ ap (λ ys. with_bit_of cmp q known x ∷ ys) (bits_of_all sets up.1 ordered.1)

-- A SET THAT GOES

module _ {C : Type 0} {cmp : C → C → Ordering} (o : IsTotalOrder cmp) where
  not_first : (n : ℕ) (sets : List (SetWithBits C)) → AllByRecursion (λ m. nat_cmp n m ≡ Less) (indices sets) →
      has_index (indices sets) n ≡ false
  not_first n [] h = refl
  not_first n (x ∷ sets) h = ap (λ b. b || has_index (indices sets) n) (below_differs n x.index h.0)
      ∙ not_first n sets h.1

  -- the first set goes, and the latest places in it
  pub indexed_popped : (old new : List (C × Place)) (links rest : List (List (Option Place)))
      (before after : List (SetWithBits C)) (x : SetWithBits C) → IsIndexed cmp old links before →
      before ≡ x ∷ after → rest ≡ drop 1 links →
      ((q : C) → place_of cmp new q ≡ unless_in x.index (place_of cmp old q)) → IsIndexed cmp new rest after
  unfolding IsStrictlySortedBy
  indexed_popped old new links rest before after x h is fewer go =
      subst (λ ls. IsIndexed cmp new ls after) (sym fewer) (from links (subst (IsIndexed cmp old links) is h))
    where
      ns : List ℕ
      ns = indices after

      from : (links : List (List (Option Place))) → IsIndexed cmp old links (x ∷ after) →
          IsIndexed cmp new (drop 1 links) after
      from [] all = absurd all.earlier
      from (l ∷ ls) all = record {
        ascending = all.ascending.1;
        ordered = all.ordered.1;
        earlier = all.earlier.1;
        retained = λ q. subst (λ o. IfSome o (λ p. has_index ns p.set ≡ true)) (sym (go q))
            (stays (place_of cmp old q) (all.retained q));
        met_all = λ q. ap (walk ns ls) (go q) ∙ met_later x.index l ns ls (place_of cmp old q)
            (places_from cmp x.index 0 (keys_of x.primary) q) (places_in cmp after q)
            (not_first x.index after all.ascending.0) (gone 0 (keys_of x.primary) q)
            (kept (places_in cmp after q) (places_later o q true x.index after all.ascending.0)) (all.met_all q);
      }
        where
          stays : (o : Option Place) → IfSome o (λ p. has_index (x.index ∷ ns) p.set ≡ true) →
              IfSome (unless_in x.index o) (λ p. has_index ns p.set ≡ true)
          stays None e = tt
          stays (Some p) e = split (p.set == x.index) refl
            where
              split : (b : Bool) → (p.set == x.index) ≡ b →
                  IfSome (cond b None (Some p)) (λ p. has_index ns p.set ≡ true)
              split true same = tt
              split false same =
                  let other : (x.index == p.set) ≡ false = grind (arith, nat_tests, same) in
                  sym (ap (λ b. b || has_index ns p.set) other) ∙ e

          gone : (k : ℕ) (ks : List C) (q : C) → filter (is_outside x.index) (places_from cmp x.index k ks q) ≡ []
          gone k [] q = refl
          gone k (key ∷ ks) q = split (is_at (cmp key) q) (gone (suc k) ks q)
            where
              split : (b : Bool) → filter (is_outside x.index) (places_from cmp x.index (suc k) ks q) ≡ [] →
                  filter (is_outside x.index) (cond b (only x.index k) (places_from cmp x.index (suc k) ks q)) ≡ []
              split true rest = ap (λ b. cond (not b) (only x.index k) []) (nat_eq-itself x.index)
              split false rest = rest

          kept : (ps : List Place) → AllByRecursion (λ p. (x.index == p.set) ≡ false) ps →
              filter (is_outside x.index) ps ≡ ps
          kept [] h = refl
          kept (p ∷ ps) h = ap (λ b. cond (not b) (p ∷ filter (is_outside x.index) ps) (filter (is_outside x.index) ps))
              h.0 ∙ ap (λ rest. p ∷ rest) (kept ps h.1)
