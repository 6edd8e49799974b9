use Rattle.p2p_driver.proofs.Kept.{at_most}
use Rattle.p2p_driver.proofs.rate.at_most.Goals as goal

pub returns : goal.returns
returns c burst refill happened some all from size = at_most from size burst refill some happened all
