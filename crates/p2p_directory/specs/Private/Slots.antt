-- Slots, made beforehand for the reservations of some peers, by what private contracts see of them.
use Rattle.std.specs.Prelude.{◌≡◌, ◌<◌, ◌≤◌, ℕ, Bool, true, List, [], ◌∷◌, length, Option}
use Rattle.std.specs.Prelude.{is_some, IfSome, Result, MatchResult, if◌then◌else◌}
use Rattle.std.specs.List.{filter_map, HoldsAt}
use Rattle.std.specs.List.Sorted.{IsStrictlySortedBy, IsPartitionPoint}
use Rattle.std.specs.Option.{option_flatten}
use Rattle.std.specs.Map.{lookup, keys_of}
use Rattle.std.specs.declared.cmp.Ordering.{Ordering}
use Rattle.std.specs.declared.cmp.Ordering.TheVariants.{Less, Greater}
use Rattle.std.specs.BTreeMap.{is_at}
use Rattle.p2p_tracker.specs.declared.directory.Metadata.{Metadata}
use Rattle.p2p_tracker.specs.Seen.{key_of}
use Rattle.p2p_directory.specs.Nodes.{is_named}

-- what is held in slots
abbrev pub contents : {C X : Type 0} → List (C × Option X) → List X
contents slots = filter_map (λ slot. slot.1) slots

-- the first is not empty, if there is one
abbrev pub begins_full : {C X : Type 0} → List (C × Option X) → Bool
begins_full [] = true
begins_full (slot ∷ slots) = is_some slot.1

module _ {C S : Type 0} (cmp : C → C → Ordering) where
  -- the slot of q, if there is one
  abbrev pub slot_of : List (C × Option (Metadata C S)) → C → Option (Option (Metadata C S))
  slot_of slots q = lookup (is_at (cmp q)) slots

  abbrev pub has_slot : List (C × Option (Metadata C S)) → C → Bool
  has_slot slots q = is_some (slot_of slots q)

  -- what is held in the slot of q, if anything
  abbrev pub held_in : List (C × Option (Metadata C S)) → C → Option (Metadata C S)
  held_in slots q = option_flatten (slot_of slots q)

  -- a call that names a peer, or none, leaves a slot for that peer exactly where something is held
  -- of it, and for each other peer where there was one
  abbrev pub KeepsSlots : Option C → List (C × Option (Metadata C S)) →
      List (C × Option (Metadata C S)) → Type 0
  KeepsSlots named before after = (q : C) → has_slot after q ≡ (if is_named cmp named q
      then is_some (held_in after q)
      else has_slot before q)

  -- where the slot of p is, or the place between those of lesser and of greater peers
  abbrev pub IsPlaceFor : List (C × Option (Metadata C S)) → C → Result ℕ ℕ → Type 0
  IsPlaceFor slots p r = MatchResult r
      (λ i. (i < length slots) × HoldsAt (λ slot. slot.0 ≡ p) slots i)
      (λ i. (i ≤ length slots) × IsPartitionPoint
      (λ slot. cmp slot.0 p ≡ Less) (λ slot. cmp slot.0 p ≡ Greater) slots i)

  -- in the order of their peers, each empty or with a reservation of its peer
  pub record AreSlots (slots : List (C × Option (Metadata C S))) : Type 0 where
    pub ordered : IsStrictlySortedBy cmp (keys_of slots)
    pub keyed : (q : C) → IfSome (slot_of slots q) (λ slot. IfSome slot (λ m. key_of m ≡ q))

  -- .. where there are any, the first isn't empty
  pub record BeginFull (slots : List (C × Option (Metadata C S))) : Type 0 where
    pub slots_are : AreSlots slots
    pub first : begins_full slots ≡ true
