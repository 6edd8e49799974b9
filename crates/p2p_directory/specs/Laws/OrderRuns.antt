-- Infos in another order, by the replies to a run: commands and replies are in order, the oldest
-- first.
use Rattle.std.specs.Prelude.{◌≡◌, List, [], ◌∷◌, ◌++◌}
use Rattle.p2p_discovery.specs.declared.discovery.Info.{Info}
use Rattle.p2p_tracker.specs.Calls.{Settings, Call}
use Rattle.p2p_tracker.specs.Calls.Call.{Update}
use Rattle.p2p_directory.specs.declared.run.commands.Reply.{Reply}
use Rattle.p2p_directory.specs.Run.{world_after, IsAnswer, next}
use Rattle.p2p_directory.specs.Laws.Order.{HaveSame, IsUnambiguous}

module _ {C S : Type 0} (s : Settings C S) where
  -- the infos of updates, one update after the other
  abbrev pub infos_together : List (List (Info C S)) → List (Info C S)
  infos_together [] = []
  infos_together (infos ∷ more) = infos ++ infos_together more

  -- the accepted calls with these updates after them, the newest first
  abbrev pub with_updates : List (List (Info C S)) → List (Call C S) → List (Call C S)
  with_updates [] before = before
  with_updates (infos ∷ more) before = with_updates more (Update infos ∷ before)

  -- after other accepted calls the replies to the rest of a run are answers, too, and at each of
  -- its points all stands as it does
  abbrev pub IsSameAfter : List (Call C S) → List (Call C S) → List (Call C S) →
      List (Reply C S) → Type 0
  IsSameAfter before other (c ∷ cs) (r ∷ rs) =
      (world_after s before ≡ world_after s other) × IsAnswer s other c r
      × IsSameAfter (next s before c r) (next s other c r) cs rs
  IsSameAfter before other _ _ = world_after s before ≡ world_after s other

  -- these infos were given by updates directly after `first`; no two are of one key with one
  -- timestamp: the rest of the run is the same where other updates give them in any order
  abbrev pub IsFreeAfter : List (Call C S) → List (Info C S) → List (Call C S) →
      List (Call C S) → List (Reply C S) → Type 0
  IsFreeAfter first infos before cs rs =
      IsUnambiguous s infos → (some : List (Info C S)) (more : List (List (Info C S))) →
      HaveSame infos (infos_together (some ∷ more)) →
      IsSameAfter before (with_updates (some ∷ more) first) cs rs

  -- .. with these infos, and with those of each update that follows directly
  abbrev pub AreFreeFrom : List (Call C S) → List (Info C S) → List (Call C S) →
      List (Call C S) → List (Reply C S) → Type 0
  AreFreeFrom first infos before (Update given ∷ cs) (r ∷ rs) =
      IsFreeAfter first (infos ++ given) (next s before (Update given) r) cs rs
      × AreFreeFrom first (infos ++ given) (next s before (Update given) r) cs rs
  AreFreeFrom first infos before _ _ = Unit {0}

  -- .. for updates from each point of a run on
  abbrev pub KeepOrder : List (Call C S) → List (Call C S) → List (Reply C S) → Type 0
  KeepOrder before (c ∷ cs) (r ∷ rs) =
      AreFreeFrom before [] before (c ∷ cs) (r ∷ rs) × KeepOrder (next s before c r) cs rs
  KeepOrder before _ _ = Unit {0}
