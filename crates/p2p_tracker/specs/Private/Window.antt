-- Private: retained sets with a bit beside each primary peer.
use Rattle.std.specs.Prelude.{ℕ, Bool, List, map, Option, find, if◌then◌else◌, ◌==◌}
use Rattle.std.specs.Map.{keys_of}
use Rattle.std.specs.BTreeMap.{is_at}
use Rattle.std.specs.List.Sorted.{IsStrictlySortedBy}
use Rattle.std.specs.Ordering.{nat_cmp}
use Rattle.std.specs.declared.cmp.Ordering.{Ordering}
use Rattle.p2p_tracker.specs.Calls.{SetAt}
use Rattle.p2p_discovery.specs.Ordered.{has_key}

-- a set whose primary peers have a bit each: whether the peer's info is known and not wanted
pub record SetWithBits (C : Type 0) : Type 0 where
  pub index : ℕ
  pub primary : List (C × Bool)
  pub secondary : List C

module _ {C : Type 0} where
  -- the set without its bits
  abbrev pub plain_set : SetWithBits C → SetAt C
  plain_set set = record {
    index = set.index;
    primary = keys_of set.primary;
    secondary = set.secondary;
  }

  -- .. of each of some sets
  abbrev pub plain_sets : List (SetWithBits C) → List (SetAt C)
  plain_sets sets = map plain_set sets

  -- the set with the bits that a test of peers gives
  abbrev pub set_with_bits : (C → Bool) → SetAt C → SetWithBits C
  set_with_bits known set = record {
    index = set.index;
    primary = map (λ q. (q, known q)) set.primary;
    secondary = set.secondary;
  }

  -- .. of each of some sets
  abbrev pub sets_with_bits : (C → Bool) → List (SetAt C) → List (SetWithBits C)
  sets_with_bits known sets = map (set_with_bits known) sets

  -- the indices ascend
  abbrev pub IsAscending : List (SetWithBits C) → Type 0
  IsAscending sets = IsStrictlySortedBy nat_cmp (map (λ set. set.index) sets)

  -- the set with an index
  abbrev pub set_at : List (SetWithBits C) → ℕ → Option (SetWithBits C)
  set_at sets index = find (λ set. set.index == index) sets

module _ {C : Type 0} (cmp : C → C → Ordering) where
  -- p is primary in the set
  abbrev pub has_primary : C → SetWithBits C → Bool
  has_primary p set = has_key cmp (keys_of set.primary) p

  -- the peers with this bit beside p, if it is one of them
  abbrev pub bits_with : C → Bool → List (C × Bool) → List (C × Bool)
  bits_with p known peers = map (λ e. (e.0, if is_at (cmp p) e.0 then known else e.1)) peers

  -- the set with this bit beside p, if p is primary in it
  abbrev pub with_bit_of : C → Bool → SetWithBits C → SetWithBits C
  with_bit_of p known set = record set { primary = bits_with p known set.primary }
