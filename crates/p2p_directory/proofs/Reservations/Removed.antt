-- What is held once a slot is emptied or removed.
use Rattle.std.proofs.Common.{◌≡◌, Bool, true, false, List, [], ◌∷◌}
use Rattle.std.proofs.Common.{Option, Some, None, refl, sym, ◌∙◌, ap, subst, cond}
use Rattle.std.specs.Prelude.{IfNone}
use Rattle.std.specs.BTreeMap.{is_at}
use Rattle.std.specs.Cmp.{IsTotalOrder, eq_by_cmp_equiv}
use Rattle.std.specs.List.{AllByRecursion}
use Rattle.std.specs.List.Sorted.{IsStrictlySortedBy}
use Rattle.std.specs.Map.{keys_of, remove_entry}
use Rattle.std.specs.declared.cmp.Ordering.{Ordering}
use Rattle.std.specs.declared.cmp.Ordering.TheVariants.{Less}
use Rattle.std.proofs.lemmas.Map.{lookup-remove_entry}
use Rattle.std.proofs.lemmas.Map.Keys.{IsDistinct-from_sorted}
use Rattle.std.proofs.lemmas.Map.Lookups.{CmpEqualImpliesEq}
use Rattle.std.proofs.lemmas.Map.Views.{tells_apart}
use Rattle.p2p_tracker.specs.declared.directory.Metadata.{Metadata}
use Rattle.p2p_directory.specs.Private.Slots.{contents, slot_of, held_in, AreSlots}
use Rattle.p2p_directory.proofs.Reservations.Slots.{same_contents, slots_without, held_without}

module _ {C S : Type 0} {cmp : C → C → Ordering} (total : IsTotalOrder cmp) (exact : CmpEqualImpliesEq cmp) where
  -- A SLOT GOES

  all_without : (P : C → Type 0) (test : C → Bool) (xs : List (C × Option (Metadata C S))) → AllByRecursion P (keys_of xs) →
      AllByRecursion P (keys_of (remove_entry test xs))
  all_without P test [] all = tt
  all_without P test (x ∷ xs) all = go (test x.0) (all_without P test xs all.1)
    where
      go : (b : Bool) → AllByRecursion P (keys_of (remove_entry test xs)) →
          AllByRecursion P (keys_of (cond b xs (x ∷ remove_entry test xs)))
      go true rest = all.1
      go false rest = (all.0, rest)

  ordered_without : (test : C → Bool) (xs : List (C × Option (Metadata C S))) → IsStrictlySortedBy cmp (keys_of xs) →
      IsStrictlySortedBy cmp (keys_of (remove_entry test xs))
  unfolding IsStrictlySortedBy
  ordered_without test [] up = tt
  ordered_without test (x ∷ xs) up = go (test x.0) (ordered_without test xs up.1)
    where
      go : (b : Bool) → IsStrictlySortedBy cmp (keys_of (remove_entry test xs)) →
          IsStrictlySortedBy cmp (keys_of (cond b xs (x ∷ remove_entry test xs)))
      go true rest = up.1
      go false rest = (all_without (λ y. cmp x.0 y ≡ Less) test xs up.0, rest)

  pub found_without : (xs : List (C × Option (Metadata C S))) (p : C) → IsStrictlySortedBy cmp (keys_of xs) →
      (q : C) → slot_of cmp (remove_entry (is_at (cmp p)) xs) q ≡ cond (is_at (cmp p) q) None (slot_of cmp xs q)
  found_without xs p up q =
      lookup-remove_entry (eq_by_cmp_equiv total) (is_at (cmp p)) (λ x y e. (eq_by_cmp_equiv total).congr p x y e) q xs
      (IsDistinct-from_sorted cmp (keys_of xs) up)

  pub slots_removed : (xs ys : List (C × Option (Metadata C S))) (p : C) → AreSlots cmp xs →
      ys ≡ remove_entry (is_at (cmp p)) xs → AreSlots cmp ys
  slots_removed xs ys p are is = subst (AreSlots cmp) (sym is)
      (slots_without total exact xs (remove_entry (is_at (cmp p)) xs) p are
      (ordered_without (is_at (cmp p)) xs are.ordered) (found_without xs p are.ordered))

  pub held_removed : (xs ys : List (C × Option (Metadata C S))) (p : C) → AreSlots cmp xs →
      ys ≡ remove_entry (is_at (cmp p)) xs →
      (q : C) → held_in cmp ys q ≡ cond (is_at (cmp p) q) None (held_in cmp xs q)
  held_removed xs ys p are is q = ap (λ slots. held_in cmp slots q) is
      ∙ held_without total exact xs (remove_entry (is_at (cmp p)) xs) p (found_without xs p are.ordered) q

  -- what is held once the reservation of p is taken, whether its slot stays or goes
  pub contents_without : (xs ys : List (C × Option (Metadata C S))) (p : C) → AreSlots cmp xs → AreSlots cmp ys →
      ((q : C) → held_in cmp ys q ≡ cond (is_at (cmp p) q) None (held_in cmp xs q)) →
      contents ys ≡ contents (remove_entry (is_at (cmp p)) xs)
  contents_without xs ys p are are2 left =
      same_contents total exact (remove_entry (is_at (cmp p)) xs) ys
      (slots_removed xs (remove_entry (is_at (cmp p)) xs) p are refl) are2
      (λ q. left q ∙ sym (held_removed xs (remove_entry (is_at (cmp p)) xs) p are refl q))

  -- .. and where nothing of p was held
  pub held_untouched : (xs ys : List (C × Option (Metadata C S))) (p : C) →
      ((q : C) → held_in cmp ys q ≡ cond (is_at (cmp p) q) None (held_in cmp xs q)) → held_in cmp xs p ≡ None →
      (q : C) → held_in cmp ys q ≡ held_in cmp xs q
  held_untouched xs ys p left none q = left q ∙ go (is_at (cmp p) q) refl
    where
      go : (b : Bool) → is_at (cmp p) q ≡ b → cond b None (held_in cmp xs q) ≡ held_in cmp xs q
      go true e = sym none ∙ ap (held_in cmp xs) (tells_apart exact p q e)
      go false e = refl

  pub none_taken : (xs ys : List (C × Option (Metadata C S))) (p : C) (o : Option (Metadata C S)) →
      AreSlots cmp xs → AreSlots cmp ys →
      ((q : C) → held_in cmp ys q ≡ cond (is_at (cmp p) q) None (held_in cmp xs q)) → o ≡ held_in cmp xs p →
      IfNone o (contents ys ≡ contents xs)
  none_taken xs ys p (Some m) are are2 left is = tt
  none_taken xs ys p None are are2 left is =
      same_contents total exact xs ys are are2 (held_untouched xs ys p left (sym is))
