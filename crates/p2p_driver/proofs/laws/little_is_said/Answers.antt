use Rattle.std.proofs.Common.{sym, subst}
use Rattle.std.specs.Cmp.{IsTotalOrder}
use Rattle.p2p_driver.proofs.Little.{few_said, set_says}
use Rattle.p2p_driver.proofs.laws.little_is_said.Goals as goal

pub returns-clause-sets : goal.returns-clause-sets
returns-clause-sets g c b same h v at t index primary secondary torn =
    set_says b h v at (subst IsTotalOrder (sym same) g.met.C.Ord.total) t index primary secondary torn

pub returns-clause-others : goal.returns-clause-others
returns-clause-others g c b h e is = few_said b h e is
