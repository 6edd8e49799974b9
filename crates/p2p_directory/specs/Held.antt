-- The reservations that are held, in ascending order of their peers: what each is for, and what a
-- grant and a release make of them.
use Rattle.std.specs.Prelude.{◌≡◌, not, List, Option, Some, None, find, is_some, if◌then◌else◌}
use Rattle.std.specs.List.{filter}
use Rattle.std.specs.declared.cmp.Ordering.{Ordering}
use Rattle.std.specs.BTreeMap.{is_at}
use Rattle.p2p_tracker.specs.declared.directory.Metadata.{Metadata}
use Rattle.p2p_tracker.specs.Seen.{RecordView, DirectoryView, record_of, key_of}
use Rattle.p2p_tracker.specs.Directory.{kept_after_release, is_busy}

module _ {C S : Type 0} where
  -- the record of a peer once what is held of it, if anything, was released
  abbrev pub after_release :
      Option (Metadata C S) → Option (RecordView C S) → Option (RecordView C S)
  after_release None o = o
  after_release (Some metadata) o = kept_after_release metadata o

module _ {C S : Type 0} (cmp : C → C → Ordering) where
  -- what the reservation of q is for, if one is held
  abbrev pub held_of : List (Metadata C S) → C → Option (Metadata C S)
  held_of held q = find (λ metadata. is_at (cmp q) (key_of metadata)) held

  -- all reservations but that of q
  abbrev pub all_but : C → List (Metadata C S) → List (Metadata C S)
  all_but q held = filter (λ metadata. not (is_at (cmp q) (key_of metadata))) held

  -- all that is held was released: each record is that after its release, and all else stays
  pub record ReleasesAll (held : List (Metadata C S)) (old new : DirectoryView C S) : Type 0 where
    pub config : new.config ≡ old.config
    pub sets : new.sets ≡ old.sets
    pub blocks : new.blocks ≡ old.blocks
    pub cooldowns : new.cooldowns ≡ old.cooldowns
    pub records : (q : C) →
        record_of cmp new q ≡ after_release (held_of held q) (record_of cmp old q)

  -- a reservation is held exactly of the peers that are reserved or connected
  abbrev pub AreHeld : DirectoryView C S → (C → Option (Metadata C S)) → Type 0
  AreHeld d held = (q : C) → is_some (held q) ≡ is_busy (record_of cmp d q)

  -- the reservation that p was granted is held then, if it was granted one, and all that was held
  abbrev pub AddsHeld : (C → Option (Metadata C S)) → (C → Option (Metadata C S)) → C →
      Option (Metadata C S) → Type 0
  AddsHeld before after p None = (q : C) → after q ≡ before q
  AddsHeld before after p (Some metadata) =
      (q : C) → after q ≡ (if is_at (cmp p) q then Some metadata else before q)

  -- no reservation of p is held then, and of each other peer what was held
  abbrev pub DropsHeld : (C → Option (Metadata C S)) → (C → Option (Metadata C S)) → C → Type 0
  DropsHeld before after p = (q : C) → after q ≡ (if is_at (cmp p) q then None else before q)
