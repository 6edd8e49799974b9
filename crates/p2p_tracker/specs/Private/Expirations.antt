-- Private: the moments of blocks in order, each with the key whose block it ends.
use Rattle.std.specs.Prelude.{ℕ, ◌≡◌, false, List, Option, None, Some, nat_eq}
use Rattle.std.specs.List.{list_any}
use Rattle.std.specs.BTreeMap.{is_at}
use Rattle.std.specs.Duration.{as_nanos}
use Rattle.std.specs.Option.{option_map, option_map_or}
use Rattle.std.specs.Ordering.{is_gt, nat_cmp, ordering_then}
use Rattle.std.specs.declared.cmp.Ordering.{Ordering}
use Rattle.std.specs.declared.time.Duration.{Duration}
use Rattle.p2p_tracker.specs.Blocks.{unblock_in}

-- an end with its moment in nanoseconds
abbrev pub end_in_nanos : {C : Type 0} → Option (Duration × C) → Option (ℕ × C)
end_in_nanos end = option_map (λ e. (as_nanos e.0, e.1)) end

module _ {C : Type 0} (cmp : C → C → Ordering) where
  -- by moment, and by key where moments are equal
  abbrev pub end_cmp : ℕ × C → ℕ × C → Ordering
  end_cmp x y = ordering_then (nat_cmp x.0 y.0) (cmp x.1 y.1)

  -- it is the end of a block, and comes behind no other: of equal moments it has the least key
  abbrev pub IsFirstOf : (C → Option ℕ) → Option (ℕ × C) → Type 0
  IsFirstOf unblock None = (q : C) → unblock q ≡ None
  IsFirstOf unblock (Some e) = (unblock e.1 ≡ Some e.0)
      × ((q : C) (m : ℕ) → unblock q ≡ Some m → is_gt (end_cmp e (m, q)) ≡ false)

  -- these are the moments of the blocks with their keys, and no others
  abbrev pub AreExpirations : List (ℕ × C) → List (C × ℕ) → Type 0
  AreExpirations expirations blocks = (m : ℕ) (q : C) →
      list_any (is_at (end_cmp (m, q))) expirations ≡ option_map_or (nat_eq m) (unblock_in cmp blocks q) false

  -- .. and this is the first of them
  pub record AreKept (expirations : List (ℕ × C)) (blocks : List (C × ℕ)) (first : Option (ℕ × C)) : Type 0 where
    pub both : AreExpirations expirations blocks
    pub front : IsFirstOf (unblock_in cmp blocks) first
