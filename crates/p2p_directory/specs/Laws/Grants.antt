-- When a peer is granted: the cooldown between its grants, and the end of its blocks.
use Rattle.std.specs.Prelude.{◌≡◌, ℕ, ◌+◌, ◌≤◌, false, List, [], ◌∷◌, ◌++◌, Option, Some, None}
use Rattle.std.specs.Prelude.{option_to_list}
use Rattle.std.specs.List.{AllByRecursion, list_any}
use Rattle.p2p_tracker.specs.Moments.{cap}
use Rattle.p2p_tracker.specs.Calls.{Settings, Call, Grant, Event, moment_of}
use Rattle.p2p_tracker.specs.History.{last_with, grant_by, is_forgetting, block_by}

-- a moment, or now where there is none
abbrev pub or_now : ℕ → Option ℕ → ℕ
or_now now None = now
or_now now (Some t) = t

module _ {C S : Type 0} (s : Settings C S) where
  -- COOLDOWN

  -- t is no earlier than the cooldown after the grant that was found, if one was
  abbrev pub IsCooledAfter : ℕ → Option (Grant × List (Event C S)) → Type 0
  IsCooledAfter t None = Unit {0}
  IsCooledAfter t (Some found) = cap (found.0.t + s.cooldown) ≤ t

  -- .. if none of the events after it forgets it
  abbrev pub IsCooledUnlessForgotten : ℕ → Option (Grant × List (Event C S)) → Type 0
  IsCooledUnlessForgotten t None = Unit {0}
  IsCooledUnlessForgotten t (Some found) =
      list_any (is_forgetting s found.0) found.1 ≡ false → cap (found.0.t + s.cooldown) ≤ t

  -- a grant, if there is one, keeps the cooldown after the grant that was found before it
  abbrev pub IsSpaced : Option Grant → Option (Grant × List (Event C S)) → Type 0
  IsSpaced None found = Unit {0}
  IsSpaced (Some grant) found = IsCooledAfter grant.t found

  -- .. if that wasn't forgotten
  abbrev pub IsSpacedUnlessForgotten : Option Grant → Option (Grant × List (Event C S)) → Type 0
  IsSpacedUnlessForgotten None found = Unit {0}
  IsSpacedUnlessForgotten (Some grant) found = IsCooledUnlessForgotten grant.t found

  -- each grant of p in a past comes no earlier than the cooldown after the grant of p before it
  abbrev pub KeepsCooldown : C → List (Event C S) → Type 0
  KeepsCooldown p [] = Unit {0}
  KeepsCooldown p (e ∷ h) =
      IsSpaced (grant_by s p e) (last_with (grant_by s p) h) × KeepsCooldown p h

  -- .. if that wasn't forgotten in between
  abbrev pub KeepsCooldownUnlessForgotten : C → List (Event C S) → Type 0
  KeepsCooldownUnlessForgotten p [] = Unit {0}
  KeepsCooldownUnlessForgotten p (e ∷ h) =
      IsSpacedUnlessForgotten (grant_by s p e) (last_with (grant_by s p) h)
      × KeepsCooldownUnlessForgotten p h

  -- BLOCKS

  -- the moment of a call, or now where it has none
  abbrev pub moment_or : ℕ → Call C S → ℕ
  moment_or now c = or_now now (moment_of c)

  -- none of the calls, the newest first, comes after now, and none before one that was made earlier
  abbrev pub NeverGoBack : ℕ → List (Call C S) → Type 0
  NeverGoBack now [] = Unit {0}
  NeverGoBack now (c ∷ cs) = (moment_or now c ≤ now) × NeverGoBack (moment_or now c) cs

  -- until when each of p's blocks holds that was taken among these events
  abbrev pub blocks_in : C → List (Event C S) → List ℕ
  blocks_in p [] = []
  blocks_in p (e ∷ h) = option_to_list (block_by s p e) ++ blocks_in p h

  -- each of these moments is at most t
  abbrev pub AreOver : ℕ → List ℕ → Type 0
  AreOver t moments = AllByRecursion (λ m. m ≤ t) moments

  -- a grant, if there is one, comes when these moments are over
  abbrev pub IsOverAt : Option Grant → List ℕ → Type 0
  IsOverAt None moments = Unit {0}
  IsOverAt (Some grant) moments = AreOver grant.t moments

  -- each grant of p in a past comes when every block of p that was taken before it is over
  abbrev pub KeepsBlocks : C → List (Event C S) → Type 0
  KeepsBlocks p [] = Unit {0}
  KeepsBlocks p (e ∷ h) = IsOverAt (grant_by s p e) (blocks_in p h) × KeepsBlocks p h
