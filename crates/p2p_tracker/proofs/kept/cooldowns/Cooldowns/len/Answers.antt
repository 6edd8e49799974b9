use Rattle.p2p_tracker.proofs.SetsAndRecords.Cooldowns.{sorted_seen}
use Rattle.p2p_tracker.proofs.kept.cooldowns.Cooldowns.len.Goals as goal

pub returns-clause-sorted : goal.returns-clause-sorted
returns-clause-sorted g c = sorted_seen g.C.Ord.cmp c.self.inside.moments.entries c.args.self.now c.self.view_is
    c.len.ensures.ordered
