use Rattle.std.proofs.Common.{subst, sym}
use Rattle.std.specs.Duration.{as_nanos}
use Rattle.p2p_driver.specs.Reads.{Takes}
use Rattle.p2p_driver.proofs.Reading.{of_gossip, of_channel}
use Rattle.p2p_driver.proofs.reads.take.Goals as goal

pub returns-in-None-clause-read : goal.returns-in-None-clause-read
returns-in-None-clause-read c is =
    subst (λ p. Takes c.args.rate (as_nanos c.args.now) p c.args.meters.now c.take_gossip.new.self)
    (sym c.in-None.is)
    (of_gossip c.args.rate (as_nanos c.args.now) c.args.meters.now c.take_gossip.new.self
    (c.take_gossip.ensures.read is) c.take_gossip.ensures.channels)

pub returns-in-Some-clause-read : goal.returns-in-Some-clause-read
returns-in-Some-clause-read c is =
    let e = c.take_message.ensures in
    subst (λ p. Takes c.args.rate (as_nanos c.args.now) p c.args.meters.now c.take_message.new.self)
    (sym c.in-Some.is)
    (of_channel c.args.rate (as_nanos c.args.now) c.in-Some.place c.args.meters.now
    c.take_message.new.self (e.read is) e.gossip e.others e.count)
