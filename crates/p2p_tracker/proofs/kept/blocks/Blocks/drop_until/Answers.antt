use Rattle.p2p_tracker.proofs.SetsAndRecords.Blocks.{sorted-in_nanos}
use Rattle.p2p_tracker.proofs.kept.blocks.Blocks.drop_until.Goals as goal

pub returns-clause-sorted : goal.returns-clause-sorted
returns-clause-sorted g c = sorted-in_nanos g.C.Ord.cmp c.self.inside.moments.entries c.args.self.now c.self.view_is c.len-moments.ensures.ordered
