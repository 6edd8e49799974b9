use Rattle.p2p_driver.proofs.Fewer.{settles, closes_room}
use Rattle.p2p_driver.proofs.streams.close.Goals as goal

pub settle-requires : goal.settle-requires
settle-requires g c = settles c.args.number c.args.arrivals.now c.remove.new.self _ _
    c.remove.ensures c.unclaimed.ensures c.requires.answers_fit

pub returns-clause-actions_room : goal.returns-clause-actions_room
returns-clause-actions_room g c = closes_room c.args.number c.args.arrivals.now c.remove.new.self _ _
    c.remove.ensures c.requires.there c.push.ensures.room
