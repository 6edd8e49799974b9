-- Private: one set more or less, counted in the records of its peers one after the other, and what
-- holds between calls.
use Rattle.std.specs.Prelude.{ℕ, ◌≡◌, ◌<◌, ◌≤◌, ◌+◌, ◌-◌, ◌^◌, ◌==◌, Bool, true, false, not, ◌&&◌}
use Rattle.std.specs.Prelude.{◌||◌, if◌then◌else◌, min, nat_lt, List, [], ◌∷◌, length, drop, Option}
use Rattle.std.specs.Prelude.{Some, None, IfSome, unwrap_or}
use Rattle.std.specs.List.{filter}
use Rattle.std.specs.Map.{keys_of}
use Rattle.std.specs.Option.{option_map, option_map_or, option_and_then}
use Rattle.std.specs.BTreeMap.{BTreeMap, IsOrdered, is_at}
use Rattle.std.specs.declared.cmp.Ordering.{Ordering}
use Rattle.p2p_tracker.specs.declared.record.Role.{Role}
use Rattle.p2p_tracker.specs.declared.record.Role.TheVariants.{Primary, Secondary}
use Rattle.p2p_tracker.specs.Calls.{SetAt, Cooldown}
use Rattle.p2p_tracker.specs.Status.{is_inert}
use Rattle.p2p_tracker.specs.Record.{fresh, is_myself, is_eligible, is_deletable, with_counts}
use Rattle.p2p_tracker.specs.Record.{with_cooldown, unless_deletable, reserved_record}
use Rattle.p2p_tracker.specs.Seen.{RecordView}
use Rattle.p2p_tracker.specs.PeerSets.{set_count, AreRolesDisjoint}
use Rattle.p2p_discovery.specs.Ordered.{has_key}
use Rattle.p2p_tracker.specs.Directory.{is_known, ChangesAt}
use Rattle.p2p_tracker.specs.Moments.{moments_after}
use Rattle.p2p_tracker.specs.Cooldowns.{has_cooled, cooldown_in}
use Rattle.p2p_tracker.specs.Private.Window.{SetWithBits, plain_sets, sets_with_bits}

-- SETS

-- the sets that are left when there is room for so many
abbrev pub newest_sets : {A : Type 0} → ℕ → List A → List A
newest_sets max sets = if nat_lt max (length sets) then drop 1 sets else sets

-- how many peers the oldest set has, where it goes when one more comes
abbrev pub leaving_count : {C : Type 0} → ℕ → List (SetAt C) → ℕ
leaving_count max [] = 0
leaving_count max (oldest ∷ sets) =
    if length (oldest ∷ sets) == max then length oldest.primary + length oldest.secondary else 0

-- .. where it goes since there is one too many
abbrev pub surplus_count : {C : Type 0} → ℕ → List (SetAt C) → ℕ
surplus_count max [] = 0
surplus_count max (oldest ∷ sets) =
    if nat_lt max (length (oldest ∷ sets)) then length oldest.primary + length oldest.secondary
    else 0

module _ {C S : Type 0} where
  -- ONE RECORD

  -- one set of the role more, capped
  abbrev pub with_one_more : Role → RecordView C S → RecordView C S
  with_one_more Primary r = with_counts (min (r.primary_sets + 1) (2 ^ 64 - 1)) r.secondary_sets r
  with_one_more Secondary r = with_counts r.primary_sets (min (r.secondary_sets + 1) (2 ^ 64 - 1)) r

  -- one set of the role less
  abbrev pub with_one_less : Role → RecordView C S → RecordView C S
  with_one_less Primary r = with_counts (r.primary_sets - 1) r.secondary_sets r
  with_one_less Secondary r = with_counts r.primary_sets (r.secondary_sets - 1) r

  -- its connection has to end once one set of the role less has its peer
  unfoldable pub is_torn_down_without : Role → RecordView C S → Bool
  is_torn_down_without role r =
      not (is_inert r.status) && is_eligible r && not (is_eligible (with_one_less role r))

  -- what is kept of a peer with these moments once one set of the role more has it
  abbrev pub one_set_more : Role → Option Cooldown → Option (RecordView C S) →
      Option (RecordView C S)
  one_set_more role cooldown o = Some (with_one_more role (unwrap_or o (fresh cooldown)))

  -- .. and once one set of the role less has it
  abbrev pub one_set_less : Role → Option (RecordView C S) → Option (RecordView C S)
  one_set_less role o = option_and_then (λ r. unless_deletable (with_one_less role r)) o

module _ {C S : Type 0} (cmp : C → C → Ordering) where
  -- the entries are those of an ordered map
  abbrev pub IsOfMap : List (C × RecordView C S) → Type 0
  IsOfMap entries =
      (m : BTreeMap C (RecordView C S)) × IsOrdered cmp m × (m.entries ≡ entries)

  -- ONE SET MORE OR LESS, as records are counted one peer after the other

  -- a change that is made where a test holds
  abbrev pub changed_if : Bool → (Option (RecordView C S) → Option (RecordView C S)) →
      Option (RecordView C S) → Option (RecordView C S)
  changed_if test f o = if test then f o else o

  -- what is kept of a peer with these moments once one set more is counted for its peers
  abbrev pub record_joining : SetAt C → Option Cooldown → C → Option (RecordView C S) →
      Option (RecordView C S)
  record_joining set cooldown q o =
      changed_if (has_key cmp set.secondary q) (one_set_more Secondary cooldown)
      (changed_if (has_key cmp set.primary q) (one_set_more Primary cooldown) o)

  -- .. and once one set less is
  abbrev pub record_leaving : SetAt C → C → Option (RecordView C S) → Option (RecordView C S)
  record_leaving set q o =
      changed_if (has_key cmp set.secondary q) (one_set_less Secondary)
      (changed_if (has_key cmp set.primary q) (one_set_less Primary) o)

  -- a peer's connection has to end once this set is counted less
  abbrev pub is_torn_down_leaving : SetAt C → C → Option (RecordView C S) → Bool
  is_torn_down_leaving set q o =
      (has_key cmp set.primary q && option_map_or (is_torn_down_without Primary) o false)
      || (has_key cmp set.secondary q && option_map_or (is_torn_down_without Secondary) o false)

  -- one set more and then less leaves what was kept
  abbrev pub IsRestored : Role → Option Cooldown → Option (RecordView C S) → Type 0
  IsRestored role cooldown o = one_set_less role (one_set_more role cooldown o) ≡ o

  -- what is kept of each peer stays, and nobody is torn down
  abbrev pub KeepsAll : (C → Option (RecordView C S)) → (C → Option (RecordView C S)) → List C →
      Type 0
  KeepsAll old new torn = (q : C) → (new q ≡ old q) × (has_key cmp torn q ≡ false)

  -- a set goes: what is kept of each peer then, and whose connections have to end
  pub record DropsSet (set : SetAt C) (old new : C → Option (RecordView C S))
      (torn : List C) : Type 0 where
    pub disjoint : AreRolesDisjoint cmp set
    pub records : (q : C) → new q ≡ record_leaving set q (old q)
    pub torn_down : (q : C) → has_key cmp torn q ≡ is_torn_down_leaving set q (old q)

  -- the first of these goes, where one is to go
  abbrev pub DropsFirst : Bool → List (SetAt C) → (C → Option (RecordView C S)) →
      (C → Option (RecordView C S)) → List C → Type 0
  DropsFirst true (oldest ∷ sets) old new torn = DropsSet oldest old new torn
  DropsFirst _ _ old new torn = KeepsAll old new torn

  -- the oldest set goes, where there is one too many
  abbrev pub DropsOldest : ℕ → List (SetAt C) → (C → Option (RecordView C S)) →
      (C → Option (RecordView C S)) → List C → Type 0
  DropsOldest max sets old new torn = DropsFirst (nat_lt max (length sets)) sets old new torn

  -- BETWEEN CALLS

  -- the counts of a record are those of the sets, and a peer with no record is in none
  abbrev pub AreCounted : List (SetAt C) → C → Option (RecordView C S) → Type 0
  AreCounted sets q o =
      (option_map_or (λ r. r.primary_sets) o 0 ≡ set_count cmp Primary q sets)
      × (option_map_or (λ r. r.secondary_sets) o 0 ≡ set_count cmp Secondary q sets)

  -- no record is deletable, and its counts are those of the retained sets, of which there are at
  -- most so many
  pub record IsConsistent (max : ℕ) (sets : List (SetAt C))
      (record_at : C → Option (RecordView C S)) : Type 0 where
    pub none_deletable : (q : C) → IfSome (record_at q) (λ r. is_deletable r ≡ false)
    pub counts : (q : C) → AreCounted sets q (record_at q)
    pub at_most_max : length sets ≤ max
    pub max_positive : 0 < max
    pub max_in_range : max < 2 ^ 64 - 1

  -- this peer alone has the record of the local node, and that record is persistent
  pub record HasOwn (own : C) (record_at : C → Option (RecordView C S)) : Type 0 where
    pub is_own : (q : C) →
        option_map_or (λ r. is_myself r.address) (record_at q) false ≡ is_at (cmp own) q
    pub persists : (q : C) →
        IfSome (record_at q) (λ r. is_myself r.address ≡ true → r.persistent ≡ true)

  -- each bit of the sets says whether the peer's info is known, and not wanted
  abbrev pub AreMarked :
      ℕ → List (SetWithBits C) → (C → Option (RecordView C S)) → Type 0
  AreMarked limit window record_at =
      window ≡ sets_with_bits (λ q. is_known limit (record_at q)) (plain_sets window)

  -- what holds of sets and records between calls
  pub record IsInvariant (max limit : ℕ) (me : C) (window : List (SetWithBits C))
      (record_at : C → Option (RecordView C S)) : Type 0 where
    pub counts : IsConsistent max (plain_sets window) record_at
    pub own : HasOwn me record_at
    pub bits : AreMarked limit window record_at

  -- each record has the moments that are kept of its peer, or the epoch where none are
  abbrev pub AreCooled : (C → Option (RecordView C S)) → (C → Option Cooldown) → Type 0
  AreCooled record_at cooldown_at =
      (q : C) → record_at q ≡ option_map (with_cooldown (cooldown_at q)) (record_at q)

  -- p is reserved at a moment, with a draw, and the moments of this grant are kept
  pub record IsGranted (old new : List (C × RecordView C S)) (kept kept2 : List (C × Cooldown))
      (p : C) (now draw cooldown : ℕ) : Type 0 where
    pub records : ChangesAt cmp old new p (option_map (reserved_record now draw cooldown))
    pub cooldowns : (q : C) → cooldown_in cmp kept2 q ≡ (if is_at (cmp p) q
        then Some (moments_after now draw cooldown)
        else cooldown_in cmp kept q)

  -- what is kept of q once the moments of these that have cooled are cleared in the records
  abbrev pub cleared_at : ℕ → List (C × Cooldown) → C → Option (RecordView C S) →
      Option (RecordView C S)
  cleared_at now cooldowns q o =
      changed_if (has_key cmp (keys_of (filter (has_cooled now) cooldowns)) q)
      (option_map (with_cooldown None)) o

  -- what holds of a directory between calls
  pub record IsDirectoryInvariant (max limit : ℕ) (me : C) (window : List (SetWithBits C))
      (record_at : C → Option (RecordView C S)) (cooldown_at : C → Option Cooldown) : Type 0 where
    pub whole : IsInvariant max limit me window record_at
    pub cooled : AreCooled record_at cooldown_at
