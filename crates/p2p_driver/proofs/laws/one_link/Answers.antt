use Rattle.std.proofs.Common.{sym, subst}
use Rattle.std.proofs.lemmas.Map.Lookups.{CmpEqualImpliesEq}
use Rattle.p2p_driver.proofs.Numbers.{over, one_number}
use Rattle.p2p_driver.proofs.laws.one_link.Goals as goal

pub returns-clause-proved : goal.returns-clause-proved
returns-clause-proved g c b h right p held linked = over b h right p held linked

pub returns-clause-one : goal.returns-clause-one
returns-clause-one g c b order h right p q held other of_p of_q is =
    one_number b (subst CmpEqualImpliesEq (sym order) g.met.C.PublicKey.exact) h right p q held other of_p of_q is
