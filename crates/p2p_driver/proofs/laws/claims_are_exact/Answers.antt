use Rattle.std.proofs.Common.{sym, subst}
use Rattle.std.specs.Cmp.{IsTotalOrder}
use Rattle.p2p_driver.proofs.Claims.{proved_at_once}
use Rattle.p2p_driver.proofs.laws.claims_are_exact.Goals as goal

pub returns-clause-goes_on : goal.returns-clause-goes_on
returns-clause-goes_on g c b order h n p origin t right =
    proved_at_once b (subst IsTotalOrder (sym order) g.met.C.Ord.total) h n p origin t right

pub returns-clause-not_granted : goal.returns-clause-not_granted
returns-clause-not_granted g c b h n p t right = right.0.1.2

pub returns-clause-crowded : goal.returns-clause-crowded
returns-clause-crowded g c b h n p t right = right.0.1.2.0
