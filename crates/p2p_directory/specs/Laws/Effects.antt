-- A directory whose caller makes each call itself: how it stands after them, what the caller holds,
-- and what a grant is.
use Rattle.std.specs.Prelude.{◌≡◌, List, Option, None, option_map}
use Rattle.p2p_tracker.specs.declared.directory.Metadata.{Metadata}
use Rattle.p2p_tracker.specs.Calls.{Settings, Call}
use Rattle.p2p_tracker.specs.Answers.{granted_direction}
use Rattle.p2p_tracker.specs.Seen.{DirectoryView}
use Rattle.p2p_directory.specs.Refinement.{Refines, metadata_of}
use Rattle.p2p_directory.specs.Run.{world_after, event_of, Holds}

module _ {C S : Type 0} where
  -- no reservation is held
  abbrev pub HoldsNone : (C → Option (Metadata C S)) → Type 0
  HoldsNone held = (q : C) → held q ≡ None

module _ {C S : Type 0} (s : Settings C S) where
  -- a directory stands at the point after these calls: it refines the world that they make, and its
  -- caller holds the grants of that world
  pub record DirectoryStandsAt (calls : List (Call C S)) (d : DirectoryView C S)
      (held : C → Option (Metadata C S)) : Type 0 where
    pub refines : Refines s (world_after s calls) d
    pub holds : Holds s (world_after s calls) held

  -- the metadata of the reservation that one more call grants p, if it grants one
  abbrev pub granted_after : List (Call C S) → C → Call C S → Option (Metadata C S)
  granted_after calls p c = option_map (metadata_of p) (granted_direction (event_of s calls c))
