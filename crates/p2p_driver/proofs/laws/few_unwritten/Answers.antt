use Rattle.std.proofs.Common.{sym, subst}
use Rattle.std.proofs.lemmas.Map.Lookups.{CmpEqualImpliesEq}
use Rattle.p2p_driver.proofs.Queued.{are_unwritten, none_said}
use Rattle.p2p_driver.proofs.laws.few_unwritten.Goals as goal

pub returns-clause-bound : goal.returns-clause-bound
returns-clause-bound g c b order h right p held linked =
    (are_unwritten b (subst CmpEqualImpliesEq (sym order) g.met.C.PublicKey.exact) h right p held linked).bound

pub returns-clause-are : goal.returns-clause-are
returns-clause-are g c b order h right p held linked =
    (are_unwritten b (subst CmpEqualImpliesEq (sym order) g.met.C.PublicKey.exact) h right p held linked).are

pub returns-clause-within : goal.returns-clause-within
returns-clause-within g c b order h right p held linked =
    (are_unwritten b (subst CmpEqualImpliesEq (sym order) g.met.C.PublicKey.exact) h right p held linked).within

pub returns-clause-proved_first : goal.returns-clause-proved_first
returns-clause-proved_first g c b order h right p held linked dial =
    none_said b (subst CmpEqualImpliesEq (sym order) g.met.C.PublicKey.exact) h right p held linked dial
