-- Which connections are entitled no more, by the replies to a run: its commands and replies are in
-- order, the oldest first.
use Rattle.std.specs.Prelude.{◌≡◌, Bool, true, false, not, ◌&&◌, ◌||◌, if◌then◌else◌, is_some}
use Rattle.std.specs.Prelude.{List, ◌∷◌, Some}
use Rattle.p2p_tracker.specs.Calls.{Settings, Call}
use Rattle.p2p_tracker.specs.Calls.Call.{Track, Release}
use Rattle.p2p_tracker.specs.History.{same, is_in, is_entitled}
use Rattle.p2p_tracker.specs.Status.{is_inert}
use Rattle.p2p_tracker.specs.World.{World}
use Rattle.p2p_directory.specs.declared.run.commands.Reply.{Reply}
use Rattle.p2p_directory.specs.declared.run.commands.Reply.TheVariants as reply
use Rattle.p2p_directory.specs.Run.{world_after, next}
use Rattle.p2p_directory.specs.Laws.GrantRuns.{granted_by}

module _ {C S : Type 0} (s : Settings C S) where
  -- p is reserved or connected in the world, and not entitled
  abbrev pub is_lingering : World C S → C → Bool
  is_lingering w p = not (is_inert (w.peer p).status) && not (is_entitled s p w.sets)

  -- ONE COMMAND AND ITS REPLY

  -- it is a track that lists p
  abbrev pub is_listed_by : C → Call C S → Reply C S → Bool
  is_listed_by p (Track index primary secondary) (reply.Track (Some torn)) = is_in s p torn
  is_listed_by p _ _ = false

  -- p was released by it
  abbrev pub is_released_by : C → Call C S → Reply C S → Bool
  is_released_by p (Release q) reply.Release = same s q p
  is_released_by p _ _ = false

  -- whether p was listed, and neither granted nor released since, with one more command
  abbrev pub is_listed_after : C → Call C S → Reply C S → Bool → Bool
  is_listed_after p c r listed =
      if is_some (granted_by s p c r) || is_released_by p c r then false
      else listed || is_listed_by p c r

  -- THE RUN

  -- p, where it lingers after these calls, was listed
  abbrev pub IsListedWhereLingering : C → Bool → List (Call C S) → Type 0
  IsListedWhereLingering p listed before =
      is_lingering (world_after s before) p ≡ true → listed ≡ true

  -- with whether a track listed p before, and p was neither granted nor released since: at each
  -- point of a run where p lingers, that is so
  abbrev pub KeepListed : C → Bool → List (Call C S) → List (Call C S) → List (Reply C S) → Type 0
  KeepListed p listed before (c ∷ cs) (r ∷ rs) =
      IsListedWhereLingering p listed before
      × KeepListed p (is_listed_after p c r listed) (next s before c r) cs rs
  KeepListed p listed before _ _ = IsListedWhereLingering p listed before
