-- How many peers a directory holds, by the replies to a run: commands and replies are in order, the
-- oldest first.
use Rattle.std.specs.Prelude.{ℕ, ◌≡◌, ◌+◌, ◌*◌, ◌≤◌, List, ◌∷◌, length}
use Rattle.std.specs.List.{AllByRecursion}
use Rattle.p2p_tracker.specs.Calls.{Settings, Call}
use Rattle.p2p_tracker.specs.History.{is_persistent, taken_sets}
use Rattle.p2p_tracker.specs.World.{past}
use Rattle.p2p_tracker.specs.Lists.{Lists}
use Rattle.p2p_directory.specs.declared.run.commands.Reply.{Reply}
use Rattle.p2p_directory.specs.declared.run.commands.Reply.TheVariants as reply
use Rattle.p2p_directory.specs.Run.{world_after, next}
use Rattle.p2p_directory.specs.Laws.Bounds.{NamesAtMost, is_left_over, IsBounded}

module _ {C S : Type 0} (s : Settings C S) (n : ℕ) where
  -- at most n for each set that may be retained, the persistent keys, and those that are left over
  abbrev pub IsFew : List (Call C S) → ℕ → Type 0
  IsFew before count =
      (persistent left_over : List C) → Lists s.cmp (is_persistent s) persistent →
      Lists s.cmp (is_left_over s (world_after s before)) left_over →
      count ≤ n * s.max_sets + length persistent + length left_over

  -- a reply to `tracked` tells no more
  abbrev pub TellsFew : List (Call C S) → Reply C S → Type 0
  TellsFew before r = (count : ℕ) → r ≡ reply.Tracked count → IsFew before count

  -- each set that was taken names at most n distinct peers
  abbrev pub NameAtMost : List (Call C S) → Type 0
  NameAtMost before = AllByRecursion (NamesAtMost s n) (taken_sets s (past s before))

  -- where the sets taken before name at most n, the present keys and the reply are within the bound
  abbrev pub KeepBound : List (Call C S) → List (Call C S) → List (Reply C S) → Type 0
  KeepBound before (c ∷ cs) (r ∷ rs) =
      (NameAtMost before → IsBounded s n (world_after s before) × TellsFew before r)
      × KeepBound (next s before c r) cs rs
  KeepBound before _ _ = NameAtMost before → IsBounded s n (world_after s before)
