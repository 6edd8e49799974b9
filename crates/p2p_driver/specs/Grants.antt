-- Grants of own dials on which the peer hasn't greeted: peers with when each was granted, in the
-- order of their keys. Moments and durations are nanoseconds.
use Rattle.std.specs.Prelude.{ℕ, ◌≡◌, ◌+◌, ◌≤◌, ◌&&◌, not, nat_le, nat_lt, Bool, false}
use Rattle.std.specs.Prelude.{if◌then◌else◌, List, Option, Some, None, unwrap_or, option_map}
use Rattle.std.specs.Prelude.{is_some}
use Rattle.std.specs.Duration.{as_nanos}
use Rattle.std.specs.Map.{lookup}
use Rattle.std.specs.BTreeMap.{is_at}
use Rattle.std.specs.declared.cmp.Ordering.{Ordering}
use Rattle.std.specs.declared.time.Duration.{Duration}
use Rattle.p2p_tracker.specs.Directory.{is_free_and}
use Rattle.p2p_tracker.specs.Record.{is_eligible}
use Rattle.p2p_tracker.specs.Seen.{DirectoryView}
use Rattle.p2p_driver.specs.Arrivals.{lesser_of}
use Rattle.p2p_driver.specs.Links.{link_of}
use Rattle.p2p_driver.specs.declared.links.Held.{Held}

-- when the cooldown of a grant is over
abbrev pub cooled_at : ℕ → Duration → ℕ
cooled_at cooldown granted = as_nanos granted + cooldown

-- a grant is kept, and its cooldown is over at a moment
abbrev pub is_cooled : ℕ → ℕ → Option Duration → Bool
is_cooled cooldown now grant =
    unwrap_or (option_map (λ granted. nat_le (cooled_at cooldown granted) now) grant) false

-- there is a grant, and its cooldown isn't over
abbrev pub is_cooling : ℕ → ℕ → Option Duration → Bool
is_cooling cooldown now grant =
    unwrap_or (option_map (λ granted. nat_lt now (cooled_at cooldown granted)) grant) false

-- a grant is kept if its peer has no link
abbrev pub unless_linked : {A : Type 0} → Option A → Option Duration → Option Duration
unless_linked None grant = grant
unless_linked (Some link) grant = None

module _ {C : Type 0} (cmp : C → C → Ordering) where
  -- when the dial of a peer was granted on which it hasn't greeted, if there is one
  abbrev pub grant_of : List (C × Duration) → C → Option Duration
  grant_of grants p = lookup (is_at (cmp p)) grants

  -- .. if that dial came to nothing: its grant is kept
  abbrev pub kept_grant : List (C × Held) → List (C × Duration) → C → Option Duration
  kept_grant links grants p = unless_linked (link_of cmp links p) (grant_of grants p)

  -- a grant is kept of a peer that may not be connected at a moment, by what a directory keeps
  abbrev pub is_unfit : {S : Type 0} → DirectoryView C S → ℕ → C → Option Duration → Bool
  is_unfit d now p kept = is_some kept && not (is_free_and cmp is_eligible d now p)

  -- the least of the moments at which the cooldown of a kept grant is over, if there is one
  abbrev pub IsLeastCooled : ℕ → List (C × Held) → List (C × Duration) → Option ℕ → Type 0
  IsLeastCooled cooldown links grants None = (p : C) → kept_grant links grants p ≡ None
  IsLeastCooled cooldown links grants (Some least) =
      ((p : C) (granted : Duration) → kept_grant links grants p ≡ Some granted →
      least ≤ cooled_at cooldown granted)
      × ((p : C) × (granted : Duration) × (kept_grant links grants p ≡ Some granted)
      × (cooled_at cooldown granted ≡ least))

-- WHILE THEY ARE WALKED
module _ {C : Type 0} (cmp : C → C → Ordering) (links : List (C × Held)) where
  -- the grant of an entry is kept
  abbrev pub is_kept_entry : C × Duration → Bool
  is_kept_entry e = not (is_some (link_of cmp links e.0))

  -- .. and its cooldown is over
  abbrev pub is_cooled_entry : ℕ → ℕ → C × Duration → Bool
  is_cooled_entry cooldown now e = nat_le (cooled_at cooldown e.1) now && is_kept_entry e

  -- .. and its peer may not be connected
  abbrev pub is_unfit_entry : {S : Type 0} → DirectoryView C S → ℕ → C × Duration → Bool
  is_unfit_entry d now e = is_kept_entry e && not (is_free_and cmp is_eligible d now e.0)

  -- the lesser of a moment and that at which the cooldown of an entry is over, if it is kept
  abbrev pub sooner_cooled : ℕ → Option ℕ → C × Duration → Option ℕ
  sooner_cooled cooldown next e =
      if is_kept_entry e then Some (lesser_of next (cooled_at cooldown e.1)) else next
