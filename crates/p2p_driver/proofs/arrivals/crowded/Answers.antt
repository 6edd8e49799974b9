use Rattle.std.specs.Duration.{as_nanos}
use Rattle.p2p_driver.proofs.Crowded.{second}
use Rattle.p2p_driver.proofs.arrivals.crowded.Goals as goal

pub returns-in-None : goal.returns-in-None
returns-in-None g c = second (as_nanos c.args.grace) (as_nanos c.args.now) c.args.arrivals.now
    c.greatest-most.result c.greatest-most.ensures c.first_of.result c.first_of-in-None.result
    c.first_of.ensures c.in-None.is c.first_of-in-None.ensures
