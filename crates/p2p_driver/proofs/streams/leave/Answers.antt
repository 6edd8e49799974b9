use Rattle.p2p_driver.proofs.Fewer.{settles, leaves_fewer}
use Rattle.p2p_driver.proofs.streams.leave.Goals as goal

pub settle-requires : goal.settle-requires
settle-requires g c = settles c.args.number c.args.arrivals.now c.remove.new.self _ _
    c.remove.ensures c.unclaimed.ensures c.requires.answers_fit

pub returns-clause-fewer : goal.returns-clause-fewer
returns-clause-fewer g c = leaves_fewer c.args.number c.args.arrivals.now c.remove.new.self
    c.remove.ensures c.requires.there
