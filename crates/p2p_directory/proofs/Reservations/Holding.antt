-- What each call leaves busy, and what is held of it.
use Rattle.std.proofs.Common.{◌≡◌, Bool, true, false, not, Option, Some, None, refl, sym, ◌∙◌, ap, subst}
use Rattle.std.specs.Prelude.{if◌then◌else◌, is_some}
use Rattle.std.specs.Option.{option_map}
use Rattle.std.specs.BTreeMap.{is_at}
use Rattle.std.specs.declared.cmp.Ordering.{Ordering}
use Rattle.std.proofs.lemmas.Map.Lookups.{CmpEqualImpliesEq}
use Rattle.std.proofs.lemmas.Map.Views.{tells_apart}
use Rattle.p2p_discovery.specs.declared.types.ingress.Ingress.{Ingress}
use Rattle.p2p_tracker.specs.declared.directory.Metadata.{Metadata}
use Rattle.p2p_tracker.specs.declared.directory.Metadata.TheVariants as metadata
use Rattle.p2p_tracker.specs.Status.{is_inert}
use Rattle.p2p_tracker.specs.Seen.{RecordView, DirectoryView, record_of, key_of}
use Rattle.p2p_tracker.specs.Directory.{is_busy, released_record, kept_after_release, IsBusy}
use Rattle.p2p_tracker.specs.Directory.{ChangesRecord, ChangesAt}
use Rattle.p2p_directory.specs.Held.{AreHeld, after_release}
use Rattle.p2p_tracker.proofs.SetsAndRecords.Consistent.{status_unless}

module _ {C S : Type 0} where
  -- who is released is not busy
  freed : (m : Metadata C S) (o : Option (RecordView C S)) → is_busy (after_release (Some m) o) ≡ false
  freed m None = refl
  freed m (Some r) = status_unless (λ status. not (is_inert status)) refl (released_record m r)

module _ {C S : Type 0} (cmp : C → C → Ordering) where
  -- one is held more
  pub held_by_grant : CmpEqualImpliesEq cmp →
      (d d2 : DirectoryView C S) (p : C) (m : Metadata C S) (f : Option (RecordView C S) → Option (RecordView C S))
      (held held2 : C → Option (Metadata C S)) → AreHeld cmp d held
      → ChangesAt cmp d.records d2.records p f → IsBusy cmp d2 p → ((q : C) → held2 q ≡ (if is_at (cmp p) q then Some m else held q)) → AreHeld cmp d2 held2
  held_by_grant exact d d2 p m f held held2 agree change busy holds q = ap is_some (holds q) ∙ go (is_at (cmp p) q) refl
    where
      go : (b : Bool) → is_at (cmp p) q ≡ b → is_some (if b then Some m else held q) ≡ is_busy (record_of cmp d2 q)
      go true e = sym (subst (IsBusy cmp d2) (tells_apart exact p q e) busy)
      go false e = agree q ∙ sym (ap is_busy (change q ∙ (λ i. if e i then f (record_of cmp d q) else record_of cmp d q)))

  -- one is held less
  pub held_by_release : (d d2 : DirectoryView C S) (p : C) (m : Metadata C S) (held held2 : C → Option (Metadata C S)) → AreHeld cmp d held
      → ChangesRecord cmp d d2 p (kept_after_release m)
      → ((q : C) → held2 q ≡ (if is_at (cmp p) q then None else held q)) → AreHeld cmp d2 held2
  held_by_release d d2 p m held held2 agree change holds q = ap is_some (holds q) ∙ go (is_at (cmp p) q) ∙ sym (ap is_busy (change.records q))
    where
      go : (b : Bool) → is_some (if b then None else held q) ≡ is_busy (if b then after_release (Some m) (record_of cmp d q) else record_of cmp d q)
      go true = sym (freed m (record_of cmp d q))
      go false = agree q

  -- .. and the records that what is still held would leave are the same
  pub given_back : CmpEqualImpliesEq cmp → (d d2 : DirectoryView C S) (p : C) (m : Metadata C S) (held held2 : C → Option (Metadata C S)) → held p ≡ Some m
      → ChangesRecord cmp d d2 p (kept_after_release m)
      → ((q : C) → held2 q ≡ (if is_at (cmp p) q then None else held q))
      → (q : C) → after_release (held2 q) (record_of cmp d2 q) ≡ after_release (held q) (record_of cmp d q)
  given_back exact d d2 p m held held2 is change holds q = (λ i. after_release (holds q i) (change.records q i)) ∙ go (is_at (cmp p) q) refl
    where
      go : (b : Bool) → is_at (cmp p) q ≡ b →
          after_release (if b then None else held q)
          (if b then after_release (Some m) (record_of cmp d q) else record_of cmp d q)
          ≡ after_release (held q) (record_of cmp d q)
      go true e = ap (λ o. after_release o (record_of cmp d q)) (sym is ∙ ap held (tells_apart exact p q e))
      go false e = refl

-- whom a reservation for a dial is for
pub dialled_key : {C S : Type 0} (p : C) (o : Option Ingress) (m : Metadata C S) → option_map (metadata.Dialer p) o ≡ Some m → key_of m ≡ p
dialled_key p None m e = absurd cc
dialled_key p (Some a) m e = let f : m ≡ metadata.Dialer p a = cc in ap key_of f
