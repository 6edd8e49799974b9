use Rattle.std.specs.Duration.{as_nanos}
use Rattle.p2p_tracker.proofs.SetsAndRecords.Cooldowns.{number_cooled}
use Rattle.p2p_tracker.proofs.directory.Directory.forget_cooled.Goals as goal

pub returns-clause-answer : goal.returns-clause-answer
returns-clause-answer g c = rw (← c.self.view_is)
    (number_cooled (as_nanos c.args.now) g.met.C.Ord.total c.self.inside.cooldowns c.len-kept.ensures.sorted
    c.forget_each.result c.forget_each.ensures.count)
