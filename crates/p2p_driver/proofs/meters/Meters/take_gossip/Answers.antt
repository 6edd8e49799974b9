use Rattle.std.proofs.Common.{subst}
use Rattle.std.specs.Duration.{as_nanos}
use Rattle.p2p_driver.specs.Meters.{IsRead}
use Rattle.p2p_driver.proofs.meters.Meters.take_gossip.Goals as goal

pub returns-clause-read : goal.returns-clause-read
returns-clause-read c is =
    subst (λ v. IsRead c.args.rate (as_nanos c.args.now) v.gossip c.take.new.bucket) c.self.view_is
    (c.take.ensures.read is)
