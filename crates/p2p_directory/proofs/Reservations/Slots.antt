-- A list of slots in strict order of their peers: what is found in it, and what a removal leaves.
use Rattle.std.proofs.Common.{◌≡◌, ◌+◌, Bool, true, false, not, ◌&&◌, T, List, [], ◌∷◌, length, map}
use Rattle.std.proofs.Common.{Option, Some, None, refl, sym, ◌∙◌, ap, subst, cond, arith}
use Rattle.std.specs.Prelude.{is_some, IfSome, IfNone, slice_get}
use Rattle.std.specs.Ordering.{is_eq, is_lt}
use Rattle.std.specs.FinMap.Entries.{find, below_all, is_sorted, same_entries}
use Rattle.std.specs.declared.cmp.Ordering.TheVariants.{Less}
use Rattle.std.specs.Cmp.{IsTotalOrder, eq_by_cmp_equiv}
use Rattle.std.specs.List.{AllByRecursion, cons_option}
use Rattle.std.specs.List.Sorted.{IsStrictlySortedBy}
use Rattle.std.specs.Option.{option_map, option_flatten}
use Rattle.std.specs.Map.{keys_of, lookup, remove_entry}
use Rattle.std.specs.BTreeMap.{is_at}
use Rattle.std.specs.declared.cmp.Ordering.{Ordering}
use Rattle.std.proofs.lemmas.Cmp.{tied_itself}
use Rattle.std.proofs.lemmas.Map.{NonePasses, lookup-none}
use Rattle.std.proofs.lemmas.Map.Entries.{none_past_head}
use Rattle.std.proofs.lemmas.Map.Keys.{sorted_tail, IsDistinct-from_sorted}
use Rattle.std.proofs.lemmas.Map.Lookups.{CmpEqualImpliesEq}
use Rattle.p2p_tracker.specs.declared.directory.Metadata.{Metadata}
use Rattle.p2p_tracker.specs.Seen.{key_of}
use Rattle.p2p_directory.specs.Held.{held_of, all_but}
use Rattle.p2p_directory.specs.Private.Slots.{contents, begins_full, slot_of, held_in, AreSlots, BeginFull}

module _ {C S : Type 0} {cmp : C → C → Ordering} (total : IsTotalOrder cmp) (exact : CmpEqualImpliesEq cmp) where
  -- empty, or with a reservation of its peer
  abbrev IsKeyed : C × Option (Metadata C S) → Type 0
  IsKeyed slot = IfSome slot.1 (λ m. key_of m ≡ slot.0)

  -- no later slot is that of the first peer
  none_later : (slot : C × Option (Metadata C S)) (slots : List (C × Option (Metadata C S))) (q : C) →
      IsStrictlySortedBy cmp (keys_of (slot ∷ slots)) → is_at (cmp q) slot.0 ≡ true →
      NonePasses (is_at (cmp q)) slots
  none_later slot slots q up e = none_past_head (eq_by_cmp_equiv total) q slot slots (IsDistinct-from_sorted cmp (keys_of (slot ∷ slots)) up) e

  -- what is true of each slot that is found is true of each slot
  each : (P : C → Option (Metadata C S) → Type 0) (slots : List (C × Option (Metadata C S))) → IsStrictlySortedBy cmp (keys_of slots)
      → ((q : C) → IfSome (slot_of cmp slots q) (P q)) → AllByRecursion (λ slot. P slot.0 slot.1) slots
  each P [] up h = tt
  each P (slot ∷ slots) up h = (first, each P slots (sorted_tail cmp slot.0 (keys_of slots) up) (λ q. later q (is_at (cmp q) slot.0) refl))
    where
      first : P slot.0 slot.1
      first = subst (λ b. IfSome (cond b (Some slot.1) (slot_of cmp slots slot.0)) (P slot.0)) (ap is_eq (tied_itself total slot.0)) (h slot.0)

      later : (q : C) (b : Bool) → is_at (cmp q) slot.0 ≡ b → IfSome (slot_of cmp slots q) (P q)
      later q true e = subst (λ o. IfSome o (P q)) (sym (lookup-none (is_at (cmp q)) slots (none_later slot slots q up e))) tt
      later q false e = subst (λ b. IfSome (cond b (Some slot.1) (slot_of cmp slots q)) (P q)) e (h q)

  -- what is held of q is what is in its slot
  found : (slots : List (C × Option (Metadata C S))) → IsStrictlySortedBy cmp (keys_of slots) → AllByRecursion IsKeyed slots
      → (q : C) → held_of cmp (contents slots) q ≡ held_in cmp slots q
  found [] up keyed q = refl
  found ((k, None) ∷ slots) up keyed q = found slots (sorted_tail cmp k (keys_of slots) up) keyed.1 q ∙ go (is_at (cmp q) k) refl
    where
      go : (b : Bool) → is_at (cmp q) k ≡ b → held_in cmp slots q ≡ option_flatten (cond b (Some None) (slot_of cmp slots q))
      go true e = ap option_flatten (lookup-none (is_at (cmp q)) slots (none_later (k, None) slots q up e))
      go false e = refl
  found ((k, Some m) ∷ slots) up keyed q =
      ap (λ key. cond (is_at (cmp q) key) (Some m) (held_of cmp (contents slots) q)) keyed.0
      ∙ go (is_at (cmp q) k) (found slots (sorted_tail cmp k (keys_of slots) up) keyed.1 q)
    where
      go : (b : Bool) → held_of cmp (contents slots) q ≡ held_in cmp slots q →
          cond b (Some m) (held_of cmp (contents slots) q)
          ≡ option_flatten (cond b (Some (Some m)) (slot_of cmp slots q))
      go true h = refl
      go false h = h

  -- where q has no slot nothing of it is held
  missed : (slots : List (C × Option (Metadata C S))) (q : C) → NonePasses (is_at (cmp q)) slots →
      AllByRecursion IsKeyed slots → all_but cmp q (contents slots) ≡ contents slots
  missed [] q none keyed = refl
  missed ((k, None) ∷ slots) q none keyed = missed slots q none.1 keyed.1
  missed ((k, Some m) ∷ slots) q none keyed =
      ap (λ b. cond (not b) (m ∷ all_but cmp q (contents slots)) (all_but cmp q (contents slots))) (ap (is_at (cmp q)) keyed.0 ∙ none.0)
      ∙ ap (λ ms. m ∷ ms) (missed slots q none.1 keyed.1)

  -- what is held once the slot of q is gone
  removed : (slots : List (C × Option (Metadata C S))) (q : C) → IsStrictlySortedBy cmp (keys_of slots) → AllByRecursion IsKeyed slots
      → contents (remove_entry (is_at (cmp q)) slots) ≡ all_but cmp q (contents slots)
  removed [] q up keyed = refl
  removed ((k, o) ∷ slots) q up keyed = go (is_at (cmp q) k) refl o keyed.0 (removed slots q (sorted_tail cmp k (keys_of slots) up) keyed.1)
    where
      go : (b : Bool) → is_at (cmp q) k ≡ b → (o : Option (Metadata C S)) → IfSome o (λ m. key_of m ≡ k)
          → contents (remove_entry (is_at (cmp q)) slots) ≡ all_but cmp q (contents slots)
          → contents (cond b slots ((k, o) ∷ remove_entry (is_at (cmp q)) slots)) ≡ all_but cmp q (cons_option o (contents slots))
      go true e None key h = sym (missed slots q (none_later (k, None) slots q up e) keyed.1)
      go true e (Some m) key h =
          sym (ap (λ b. cond (not b) (m ∷ all_but cmp q (contents slots)) (all_but cmp q (contents slots))) (ap (is_at (cmp q)) key ∙ e)
          ∙ missed slots q (none_later (k, None) slots q up e) keyed.1)
      go false e None key h = h
      go false e (Some m) key h =
          ap (λ ms. m ∷ ms) h ∙ sym (ap (λ b. cond (not b) (m ∷ all_but cmp q (contents slots)) (all_but cmp q (contents slots))) (ap (is_at (cmp q)) key ∙ e))

  pub held_is : (slots : List (C × Option (Metadata C S))) → AreSlots cmp slots → (q : C) → held_of cmp (contents slots) q ≡ held_in cmp slots q
  held_is slots are = found slots are.ordered (each (λ q slot. IfSome slot (λ m. key_of m ≡ q)) slots are.ordered are.keyed)

  pub rest_is : (slots : List (C × Option (Metadata C S))) (q : C) → AreSlots cmp slots →
      contents (remove_entry (is_at (cmp q)) slots) ≡ all_but cmp q (contents slots)
  rest_is slots q are = removed slots q are.ordered (each (λ q slot. IfSome slot (λ m. key_of m ≡ q)) slots are.ordered are.keyed)

  abbrev keyed_each : (slots : List (C × Option (Metadata C S))) → AreSlots cmp slots → AllByRecursion IsKeyed slots
  keyed_each slots are = each (λ q slot. IfSome slot (λ m. key_of m ≡ q)) slots are.ordered are.keyed

  -- the slots after the first
  pub slots_after : (slot : C × Option (Metadata C S)) (slots : List (C × Option (Metadata C S))) →
      AreSlots cmp (slot ∷ slots) → AreSlots cmp slots
  slots_after slot slots are = record {
    ordered = sorted_tail cmp slot.0 (keys_of slots) are.ordered;
    keyed = λ q. later q (is_at (cmp q) slot.0) refl;
  }
    where
      later : (q : C) (b : Bool) → is_at (cmp q) slot.0 ≡ b →
          IfSome (slot_of cmp slots q) (λ o. IfSome o (λ m. key_of m ≡ q))
      later q true e = subst (λ o. IfSome o (λ o. IfSome o (λ m. key_of m ≡ q)))
          (sym (lookup-none (is_at (cmp q)) slots (none_later slot slots q are.ordered e))) tt
      later q false e = subst (λ b. IfSome (cond b (Some slot.1) (slot_of cmp slots q)) (λ o. IfSome o (λ m. key_of m ≡ q)))
          e (are.keyed q)

  -- what is left when the slot of p goes
  pub slots_without : (slots slots2 : List (C × Option (Metadata C S))) (p : C) → AreSlots cmp slots →
      IsStrictlySortedBy cmp (keys_of slots2) →
      ((q : C) → slot_of cmp slots2 q ≡ cond (is_at (cmp p) q) None (slot_of cmp slots q)) → AreSlots cmp slots2
  slots_without slots slots2 p are up is = record {
    ordered = up;
    keyed = λ q. subst (λ o. IfSome o (λ slot. IfSome slot (λ m. key_of m ≡ q))) (sym (is q)) (go q (is_at (cmp p) q));
  }
    where
      go : (q : C) (b : Bool) → IfSome (cond b None (slot_of cmp slots q)) (λ slot. IfSome slot (λ m. key_of m ≡ q))
      go q true = tt
      go q false = are.keyed q

  pub held_without : (slots slots2 : List (C × Option (Metadata C S))) (p : C) →
      ((q : C) → slot_of cmp slots2 q ≡ cond (is_at (cmp p) q) None (slot_of cmp slots q)) →
      (q : C) → held_in cmp slots2 q ≡ cond (is_at (cmp p) q) None (held_in cmp slots q)
  held_without slots slots2 p is q = ap option_flatten (is q) ∙ go (is_at (cmp p) q)
    where
      go : (b : Bool) → option_flatten (cond b None (slot_of cmp slots q)) ≡ cond b None (held_in cmp slots q)
      go true = refl
      go false = refl

  -- one less is held where something was in it
  pub one_fewer : (test : C → Bool) (slots : List (C × Option (Metadata C S))) (o : Option (Metadata C S)) →
      o ≡ option_flatten (lookup test slots) →
      IfSome o (λ _. length (contents slots) ≡ length (contents (remove_entry test slots)) + 1)
  one_fewer test slots None is = tt
  one_fewer test slots (Some m) is = fewer slots (sym is)
    where
      fewer : (slots : List (C × Option (Metadata C S))) → option_flatten (lookup test slots) ≡ Some m →
          length (contents slots) ≡ length (contents (remove_entry test slots)) + 1
      fewer [] e = absurd cc
      fewer ((k, o) ∷ slots) e = go (test k) o e (fewer slots)
        where
          go : (b : Bool) (o : Option (Metadata C S)) → option_flatten (cond b (Some o) (lookup test slots)) ≡ Some m →
              (option_flatten (lookup test slots) ≡ Some m →
              length (contents slots) ≡ length (contents (remove_entry test slots)) + 1) →
              length (cons_option o (contents slots))
              ≡ length (contents (cond b slots ((k, o) ∷ remove_entry test slots))) + 1
          go true None e rest = absurd cc
          go true (Some x) e rest = omega arith
          go false None e rest = rest e
          go false (Some x) e rest = let one = rest e in omega (arith, one)

  -- the first slot is that of the least peer of whom a reservation is held
  pub least_is : (slots : List (C × Option (Metadata C S))) (k : C) (o : Option (Metadata C S)) → BeginFull cmp slots →
      slice_get slots 0 ≡ Some (k, o) → Some k ≡ option_map key_of (slice_get (contents slots) 0)
  least_is [] k o full e = absurd cc
  least_is ((q, None) ∷ slots) k o full e = absurd (let f = full.first in cc)
  least_is ((q, Some m) ∷ slots) k o full e =
      let key = (keyed_each ((q, Some m) ∷ slots) full.slots_are).0 in
      sym (ap (option_map (λ (slot : C × Option (Metadata C S)). slot.0)) e) ∙ ap Some (sym key)

  pub has_one : (slots : List (C × Option (Metadata C S))) (k : C) (o : Option (Metadata C S)) → BeginFull cmp slots →
      slice_get slots 0 ≡ Some (k, o) → slot_of cmp slots k ≡ Some o →
      is_some (held_of cmp (contents slots) k) ≡ true
  has_one slots k o full e at = ap is_some (held_is slots full.slots_are k ∙ ap option_flatten at) ∙ go slots full.first e
    where
      go : (slots : List (C × Option (Metadata C S))) → begins_full slots ≡ true → slice_get slots 0 ≡ Some (k, o) →
          is_some o ≡ true
      go [] f e = absurd cc
      go ((q, p) ∷ slots) f e =
          let both = ap (option_map (λ (slot : C × Option (Metadata C S)). slot.1)) e in
          let same : p ≡ o = cc in ap is_some (sym same) ∙ f

  -- what is known of the first slot, if there is one
  abbrev IsFirst : List (C × Option (Metadata C S)) → Option C → Type 0
  IsFirst slots o = IfSome o (λ peer. (slot : Option (Metadata C S)) × (slice_get slots 0 ≡ Some (peer, slot)))

  pub first_least : (slots : List (C × Option (Metadata C S))) (o : Option C) → BeginFull cmp slots →
      IsFirst slots o → IfNone o (slots ≡ []) → o ≡ option_map key_of (slice_get (contents slots) 0)
  first_least slots None full some none = sym (ap (λ ss. option_map key_of (slice_get (contents ss) 0)) none)
  first_least slots (Some k) full some none = least_is slots k some.0 full some.1

  pub first_held : (slots : List (C × Option (Metadata C S))) (o : Option C) → BeginFull cmp slots →
      IsFirst slots o → IfSome o (λ peer. is_some (held_of cmp (contents slots) peer) ≡ true)
  first_held slots None full some = tt
  first_held slots (Some k) full some = has_one slots k some.0 full some.1 (at slots some.1)
    where
      at : (slots : List (C × Option (Metadata C S))) → slice_get slots 0 ≡ Some (k, some.0) →
          slot_of cmp slots k ≡ Some some.0
      at [] e = absurd cc
      at (x ∷ xs) e =
          let f : x ≡ (k, some.0) = cc in
          ap (λ (y : C × Option (Metadata C S)). cond (is_at (cmp k) y.0) (Some y.1) (slot_of cmp xs k)) f
          ∙ ap (λ r. cond (is_eq r) (Some some.0) (slot_of cmp xs k)) (tied_itself total k)

  -- WHAT IS HELD, AS A LIST

  -- what is held in slots is in the order of its peers
  above_contents : (k : C) (slots : List (C × Option (Metadata C S))) → AllByRecursion (λ y. cmp k y ≡ Less) (keys_of slots)
      → AllByRecursion IsKeyed slots → AllByRecursion (λ y. cmp k y ≡ Less) (map key_of (contents slots))
  above_contents k [] above keyed = tt
  above_contents k ((q, None) ∷ slots) above keyed = above_contents k slots above.1 keyed.1
  above_contents k ((q, Some m) ∷ slots) above keyed =
      (ap (cmp k) keyed.0 ∙ above.0, above_contents k slots above.1 keyed.1)

  ordered_contents : (slots : List (C × Option (Metadata C S))) → IsStrictlySortedBy cmp (keys_of slots)
      → AllByRecursion IsKeyed slots → IsStrictlySortedBy cmp (map key_of (contents slots))
  unfolding IsStrictlySortedBy
  ordered_contents [] up keyed = tt
  ordered_contents ((k, None) ∷ slots) up keyed = ordered_contents slots up.1 keyed.1
  ordered_contents ((k, Some m) ∷ slots) up keyed = (
    subst (λ p. AllByRecursion (λ y. cmp p y ≡ Less) (map key_of (contents slots))) (sym keyed.0)
        (above_contents k slots up.0 keyed.1),
    ordered_contents slots up.1 keyed.1,
  )

  pub contents_ascend : (slots : List (C × Option (Metadata C S))) → AreSlots cmp slots →
      IsStrictlySortedBy cmp (map key_of (contents slots))
  contents_ascend slots are = ordered_contents slots are.ordered (keyed_each slots are)

  -- what is held, beside its peers
  abbrev pairs : List (Metadata C S) → List (C × Metadata C S)
  pairs held = map (λ m. (key_of m, m)) held

  found_pairs : (held : List (Metadata C S)) (q : C) → find cmp q (pairs held) ≡ held_of cmp held q
  found_pairs [] q = refl
  found_pairs (m ∷ held) q = ap (cond (is_at (cmp q) (key_of m)) (Some m)) (found_pairs held q)

  above_pairs : (k : C) (held : List (Metadata C S)) → AllByRecursion (λ y. cmp k y ≡ Less) (map key_of held)
      → below_all cmp k (pairs held) ≡ true
  above_pairs k [] above = refl
  above_pairs k (m ∷ held) above = ap (λ r. is_lt r && below_all cmp k (pairs held)) above.0 ∙ above_pairs k held above.1

  ordered_pairs : (held : List (Metadata C S)) → IsStrictlySortedBy cmp (map key_of held) → is_sorted cmp (pairs held) ≡ true
  unfolding IsStrictlySortedBy
  ordered_pairs [] up = refl
  ordered_pairs (m ∷ held) up =
      ap (λ b. b && is_sorted cmp (pairs held)) (above_pairs (key_of m) held up.0) ∙ ordered_pairs held up.1

  held_pairs : (held : List (Metadata C S)) → map (λ e. e.1) (pairs held) ≡ held
  held_pairs [] = refl
  held_pairs (m ∷ held) = ap (λ ms. m ∷ ms) (held_pairs held)

  -- lists in order of what is held are the same where the same is held of each peer
  same_held : (held held2 : List (Metadata C S)) → IsStrictlySortedBy cmp (map key_of held) → IsStrictlySortedBy cmp (map key_of held2)
      → ((q : C) → held_of cmp held q ≡ held_of cmp held2 q) → held ≡ held2
  same_held held held2 up up2 same =
      sym (held_pairs held)
      ∙ ap (map (λ e. e.1)) (same_entries cmp total exact (pairs held) (pairs held2)
      (subst T (sym (ordered_pairs held up)) tt) (subst T (sym (ordered_pairs held2 up2)) tt)
      (λ q. found_pairs held q ∙ same q ∙ sym (found_pairs held2 q)))
      ∙ held_pairs held2

  -- .. and so are those of slots
  pub same_contents : (slots slots2 : List (C × Option (Metadata C S))) → AreSlots cmp slots → AreSlots cmp slots2
      → ((q : C) → held_in cmp slots2 q ≡ held_in cmp slots q) → contents slots2 ≡ contents slots
  same_contents slots slots2 are are2 same =
      let keyed = λ (xs : List (C × Option (Metadata C S))) (h : AreSlots cmp xs). each (λ q slot. IfSome slot (λ m. key_of m ≡ q)) xs h.ordered h.keyed in
      same_held (contents slots2) (contents slots)
      (ordered_contents slots2 are2.ordered (keyed slots2 are2)) (ordered_contents slots are.ordered (keyed slots are))
      (λ q. held_is slots2 are2 q ∙ same q ∙ sym (held_is slots are q))

  -- what is in a slot is of its peer
  pub key_is : (slots : List (C × Option (Metadata C S))) (k : C) (m : Metadata C S) → AreSlots cmp slots →
      slot_of cmp slots k ≡ Some (Some m) → key_of m ≡ k
  key_is slots k m are e = subst (λ o. IfSome o (λ slot. IfSome slot (λ m. key_of m ≡ k))) e (are.keyed k)

-- of no peer a reservation is held
pub nothing_held : {C S : Type 0} {cmp : C → C → Ordering} → IsTotalOrder cmp → (held : List (Metadata C S)) → ((q : C) → held_of cmp held q ≡ None) → held ≡ []
nothing_held total [] none = refl
nothing_held {cmp = cmp} total (m ∷ held) none =
    absurd (let some = sym (ap (λ o. cond (is_eq o) (Some m) (held_of cmp held (key_of m))) (tied_itself total (key_of m))) ∙ none (key_of m) in cc)
