use Rattle.std.proofs.Common.{sym, subst}
use Rattle.std.proofs.lemmas.Map.Lookups.{CmpEqualImpliesEq}
use Rattle.p2p_driver.proofs.Beginnings.{Begins, begins}
use Rattle.p2p_driver.proofs.Asked.{lists_are_asked}
use Rattle.p2p_driver.proofs.laws.lists_are_asked.Goals as goal

pub returns : goal.returns
returns g c b order is h right p =
    lists_are_asked b (subst Begins (sym is) (begins _ _ _ _ _ _))
    (subst CmpEqualImpliesEq (sym order) g.met.C.PublicKey.exact) h right p
