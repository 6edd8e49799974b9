use Rattle.p2p_driver.proofs.Taken.{begins}
use Rattle.p2p_driver.proofs.laws.taken_in_order.Goals as goal

pub returns-clause-stands : goal.returns-clause-stands
returns-clause-stands g c b h v at = at.actions

pub returns-clause-begins : goal.returns-clause-begins
returns-clause-begins g c b h right = begins b h right
