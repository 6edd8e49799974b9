-- What the replies to a run say of each other, all of it.
use Rattle.std.proofs.Common.{◌≤◌, List, []}
use Rattle.std.specs.Cmp.{IsTotalOrder}
use Rattle.p2p_tracker.specs.Calls.{Settings, Call}
use Rattle.p2p_tracker.specs.History
use Rattle.p2p_directory.specs.declared.run.commands.Reply.{Reply}
use Rattle.p2p_directory.specs.Run.{AreAnswers}
use Rattle.p2p_directory.specs.Laws.Run.{LawsOfGrants, LawsOfRun}
use Rattle.p2p_directory.proofs.LawsOfRuns.GrantRuns.{keep_unless_forgotten, keep_cooldown}
use Rattle.p2p_directory.proofs.LawsOfRuns.BlockRuns.{keep_last_block, keep_blocks}
use Rattle.p2p_directory.proofs.LawsOfRuns.DialRuns.{keep_dialable}
use Rattle.p2p_directory.proofs.LawsOfRuns.Isolation.{keep_alone}
use Rattle.p2p_directory.proofs.LawsOfRuns.OrderRuns.{keep_order}
use Rattle.p2p_directory.proofs.LawsOfRuns.BoundRuns.{keep_bound}
use Rattle.p2p_directory.proofs.LawsOfRuns.GrantCounts.{keep_few}
use Rattle.p2p_directory.proofs.LawsOfRuns.Lingering.{keep_listed}
use Rattle.p2p_directory.proofs.LawsOfRuns.Repair.{keep_repair}

module _ {C S : Type 0} (s : Settings C S) (exact : History.IsExact s) (cs : List (Call C S))
    (rs : List (Reply C S)) (answers : AreAnswers s [] cs rs) where
  pub laws_of_grants : LawsOfGrants s cs rs
  laws_of_grants = record {
    spaced = λ p. keep_unless_forgotten s exact p cs rs answers;
    lasting = λ p. keep_cooldown s exact p cs rs answers;
    few = λ p. keep_few s p cs rs (keep_cooldown s exact p cs rs answers);
    blocks = λ p. keep_blocks s p cs rs (keep_last_block s exact p cs rs answers);
    last_block = λ p. keep_last_block s exact p cs rs answers;
  }

  pub laws_of_run : IsTotalOrder s.cmp → 1 ≤ s.max_sets → LawsOfRun s cs rs
  laws_of_run total least = record {
    grants = laws_of_grants;
    dials = keep_dialable s total exact least [] cs rs answers;
    isolation = λ p. keep_alone s least exact p cs rs answers;
    order = keep_order s least cs rs answers;
    bounds = λ n. keep_bound s n total cs rs answers;
    lingering = λ p. keep_listed s exact p cs rs answers;
    repair = λ p. keep_repair s exact p cs rs answers;
  }
