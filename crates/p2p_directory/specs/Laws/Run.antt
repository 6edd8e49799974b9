-- What the replies to a run say of each other: calls and replies are in order, the oldest first.
use Rattle.std.specs.Prelude.{ℕ, List, [], None, false}
use Rattle.p2p_tracker.specs.Calls.{Settings, Call}
use Rattle.p2p_directory.specs.declared.run.commands.Reply.{Reply}
use Rattle.p2p_directory.specs.Laws.GrantRuns.{RunKeepsCooldownUnlessForgotten, RunKeepsCooldown}
use Rattle.p2p_directory.specs.Laws.GrantRuns.{RunKeepsBlocks}
use Rattle.p2p_directory.specs.Laws.BlockRuns.{KeepLastBlock}
use Rattle.p2p_directory.specs.Laws.DialRuns.{KeepDialable}
use Rattle.p2p_directory.specs.Laws.Isolation.{KeepAlone}
use Rattle.p2p_directory.specs.Laws.OrderRuns.{KeepOrder}
use Rattle.p2p_directory.specs.Laws.BoundRuns.{KeepBound}
use Rattle.p2p_directory.specs.Laws.GrantCounts.{KeepGrantsFew}
use Rattle.p2p_directory.specs.Laws.Lingering.{KeepListed}
use Rattle.p2p_directory.specs.Laws.Repair.{KeepRepair}

module _ {C S : Type 0} (s : Settings C S) (calls : List (Call C S))
    (replies : List (Reply C S)) where
  -- when peers are granted
  pub record LawsOfGrants : Type 0 where
    -- each grant keeps the cooldown after the one before it, if that isn't forgotten in between
    pub spaced : (p : C) → RunKeepsCooldownUnlessForgotten s p None calls replies
    -- .. or if moments never go back
    pub lasting : (p : C) → RunKeepsCooldown s p 0 None calls replies
    -- .. so within any while they are few
    pub few : (p : C) → KeepGrantsFew s p calls replies
    -- if moments never go back, a grant comes when each block that was taken before it is over
    pub blocks : (p : C) → RunKeepsBlocks s p 0 [] calls replies
    -- a grant and a further block come when the last block that no call ended is over
    pub last_block : (p : C) → KeepLastBlock s p None calls replies

  -- all of them
  pub record LawsOfRun : Type 0 where
    pub grants : LawsOfGrants
    -- peers that are dialable are granted by dials, and stay so as long as nothing else is done
    pub dials : KeepDialable s calls replies
    -- calls on single other peers, and infos of others in updates, may be left out
    pub isolation : (p : C) → KeepAlone s p [] calls replies
    -- infos of updates that follow each other directly may be given in any order
    pub order : KeepOrder s [] calls replies
    -- present keys are few, where each set names at most n
    pub bounds : (n : ℕ) → KeepBound s n [] calls replies
    -- a connection that is entitled no more was listed by a track
    pub lingering : (p : C) → KeepListed s p false [] calls replies
    -- an info is asked for anew once dials at its address failed so often
    pub repair : (p : C) → KeepRepair s p 0 [] calls replies
