-- Private: the latest place of each key, what each set has beside its primary peers, and the places
-- of a key in retained sets.
use Rattle.std.specs.Prelude.{ℕ, ◌≡◌, ◌<◌, ◌==◌, true, Bool, List, [], ◌∷◌, ◌++◌}
use Rattle.std.specs.Prelude.{Option, Some, None, IfSome, ⊤, map, suc, if◌then◌else◌, get_or}
use Rattle.std.specs.List.{AllByRecursion, filter, list_any}
use Rattle.std.specs.Ordering.{is_lt}
use Rattle.std.specs.List.Sorted.{IsStrictlySortedBy}
use Rattle.std.specs.Map.{lookup, keys_of}
use Rattle.std.specs.BTreeMap.{is_at}
use Rattle.std.specs.declared.cmp.Ordering.{Ordering}
use Rattle.p2p_tracker.specs.declared.kept.places.Place.{Place}
use Rattle.p2p_discovery.specs.BitSets.{with_bit}
use Rattle.p2p_tracker.specs.Private.Window.{SetWithBits, IsAscending}

-- the first of some places, or else that one
abbrev pub first_or : Option Place → List Place → Option Place
first_or o [] = o
first_or o (place ∷ places) = Some place

-- that place, unless it is in the set with an index
abbrev pub unless_in : ℕ → Option Place → Option Place
unless_in index None = None
unless_in index (Some place) = if place.set == index then None else Some place

-- what is kept beside a peer of the set with an index: its place before, or its own where it had none
abbrev pub link_of : ℕ → Place → Option Place
link_of index place = if place.set == index then None else Some place

-- A WALK from the latest place of a key to older ones: beside each primary peer of a set stands its
-- place in the latest set before that has it, if there was one

-- the places that a walk meets in the set with an index and in those before it, the oldest first
abbrev pub met_in : (Option Place → List Place) → ℕ → List (Option Place) → Option Place →
    List Place
met_in before index links None = before None
met_in before index links (Some place) =
    if index == place.set then before (get_or links place.at None) ++ place ∷ []
    else before (Some place)

-- .. in some sets and in those before them
abbrev pub met : (Option Place → List Place) → List ℕ → List (List (Option Place)) → Option Place →
    List Place
met before (index ∷ indices) (links ∷ rest) o = met (met_in before index links) indices rest o
met before _ _ o = before o

-- .. where no set is before them
abbrev pub walk : List ℕ → List (List (Option Place)) → Option Place → List Place
walk indices links o = met (λ _. []) indices links o

-- one of the indices is this one
abbrev pub has_index : List ℕ → ℕ → Bool
has_index indices n = list_any (λ m. m == n) indices

-- what stands beside the peers of each set leads to sets before it
abbrev pub AreEarlier : List ℕ → List (List (Option Place)) → Type 0
AreEarlier [] [] = ⊤
AreEarlier (index ∷ indices) (links ∷ rest) =
    AllByRecursion (λ o. IfSome o (λ place. place.set < index)) links × AreEarlier indices rest
AreEarlier _ _ = ⊥

module _ {C : Type 0} where
  -- the indices of some sets
  abbrev pub indices : List (SetWithBits C) → List ℕ
  indices sets = map (λ set. set.index) sets

  -- the set with this bit at the place, if it is the set of the place
  abbrev pub bit_at : Bool → Place → SetWithBits C → SetWithBits C
  bit_at known place set =
      if set.index == place.set then (record set { primary = with_bit set.primary place.at known })
      else set

  -- the sets with this bit at each of the places
  abbrev pub with_bits_at : Bool → List Place → List (SetWithBits C) → List (SetWithBits C)
  with_bits_at known [] sets = sets
  with_bits_at known (place ∷ places) sets =
      with_bits_at known places (map (bit_at known place) sets)

module _ {C : Type 0} (cmp : C → C → Ordering) where
  -- the latest place of a key
  abbrev pub place_of : List (C × Place) → C → Option Place
  place_of places q = lookup (is_at (cmp q)) places

  -- of keys with their places, those before a key
  abbrev pub before_key : C → List (C × Place) → List (C × Place)
  before_key key places = filter (λ e. is_lt (cmp e.0 key)) places

  -- .. and those behind it
  abbrev pub behind_key : C → List (C × Place) → List (C × Place)
  behind_key key places = filter (λ e. is_lt (cmp key e.0)) places

  -- where the key stands in a list, counted from n
  abbrev pub places_from : ℕ → ℕ → List C → C → List Place
  places_from set n [] q = []
  places_from set n (k ∷ ks) q =
      if is_at (cmp k) q then (record { set = set; at = n }) ∷ []
      else places_from set (suc n) ks q

  -- where the key stands in the lists of primary peers
  abbrev pub places_in : List (SetWithBits C) → C → List Place
  places_in [] q = []
  places_in (x ∷ sets) q = places_from x.index 0 (keys_of x.primary) q ++ places_in sets q

  -- the primary peers of each set are in order
  abbrev pub AreOrdered : List (SetWithBits C) → Type 0
  AreOrdered sets = AllByRecursion (λ set. IsStrictlySortedBy cmp (keys_of set.primary)) sets

  -- what is true of retained sets, the latest places and what stands beside the peers between
  -- calls
  pub record IsIndexed (places : List (C × Place)) (links : List (List (Option Place)))
      (sets : List (SetWithBits C)) : Type 0 where
    pub ascending : IsAscending sets
    pub ordered : AreOrdered sets
    pub earlier : AreEarlier (indices sets) links
    -- a key has a latest place only in a retained set
    pub retained : (q : C) →
        IfSome (place_of places q) (λ place. has_index (indices sets) place.set ≡ true)
    -- from there a walk meets exactly the key's places in the sets
    pub met_all : (q : C) → walk (indices sets) links (place_of places q) ≡ places_in sets q
