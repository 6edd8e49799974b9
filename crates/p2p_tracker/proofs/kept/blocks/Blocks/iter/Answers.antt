use Rattle.std.proofs.Common.{rules}
use Rattle.p2p_tracker.proofs.SetsAndRecords.Blocks.{sorted-in_nanos}
use Rattle.p2p_tracker.proofs.kept.blocks.Blocks.iter.Goals as goal

pub returns-clause-sorted : goal.returns-clause-sorted
returns-clause-sorted g c = search (rules, sorted-in_nanos)
