-- Retained sets, the oldest first, and what they say of a key.
use Rattle.std.specs.Prelude.{ℕ, ◌≡◌, ◌==◌, Bool, true, false, not, ◌||◌, ◌+◌, List, length, nat_lt}
use Rattle.std.specs.Prelude.{Option, Some, None, find, slice_get}
use Rattle.std.specs.List.{count_by, last_or, filter}
use Rattle.std.specs.Option.{option_map}
use Rattle.std.specs.declared.cmp.Ordering.{Ordering}
use Rattle.p2p_discovery.specs.Ordered.{has_key}
use Rattle.p2p_tracker.specs.declared.record.Role.{Role}
use Rattle.p2p_tracker.specs.declared.record.Role.TheVariants.{Primary, Secondary}
use Rattle.p2p_tracker.specs.Calls.{SetAt}

-- the peers that a set has in a role
abbrev pub members : {C : Type 0} → Role → SetAt C → List C
members Primary set = set.primary
members Secondary set = set.secondary

-- the index of the last set
abbrev pub latest_index : {C : Type 0} → List (SetAt C) → Option ℕ
latest_index sets = option_map (λ set. set.index) (last_or None sets)

-- the index of the set at a place, if there is one
abbrev pub index_at : {C : Type 0} → List (SetAt C) → ℕ → Option ℕ
index_at sets place = option_map (λ set. set.index) (slice_get sets place)

-- the set with an index, if there is one
abbrev pub set_with : {C : Type 0} → ℕ → List (SetAt C) → Option (SetAt C)
set_with index sets = find (λ set. set.index == index) sets

-- the set has a peer
abbrev pub has_peers : {C : Type 0} → SetAt C → Bool
has_peers set = nat_lt 0 (length set.primary + length set.secondary)

-- the index is above that one, if there is one
abbrev pub is_above : ℕ → Option ℕ → Bool
is_above index None = true
is_above index (Some latest) = nat_lt latest index

module _ {C : Type 0} (cmp : C → C → Ordering) where
  -- the set has the peer
  abbrev pub is_member : SetAt C → C → Bool
  is_member set q = has_key cmp set.primary q || has_key cmp set.secondary q

  -- no peer has both roles
  abbrev pub AreRolesDisjoint : SetAt C → Type 0
  AreRolesDisjoint set =
      (q : C) → has_key cmp set.primary q ≡ true → has_key cmp set.secondary q ≡ false

  -- the set of these peers at an index: a peer in both roles is primary only
  abbrev pub set_of : ℕ → List C → List C → SetAt C
  set_of index primary secondary = record {
    index = index;
    primary = primary;
    secondary = filter (λ q. not (has_key cmp primary q)) secondary;
  }

  -- how many of the sets have the peer in the role
  abbrev pub set_count : Role → C → List (SetAt C) → ℕ
  set_count role q sets = count_by (λ set. has_key cmp (members role set) q) sets
