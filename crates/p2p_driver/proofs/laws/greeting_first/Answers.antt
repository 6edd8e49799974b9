use Rattle.std.proofs.Common.{sym, ap, subst}
use Rattle.std.specs.Prelude.{◌≡◌}
use Rattle.std.specs.Option.{IsSomeAnd}
use Rattle.std.proofs.lemmas.Map.Lookups.{CmpEqualImpliesEq}
use Rattle.p2p_tracker.specs.Status.{is_active}
use Rattle.p2p_driver.specs.declared.links.Phase.TheVariants as phase
use Rattle.p2p_driver.proofs.Greeted.{served_is_open, served_has_greeted}
use Rattle.p2p_driver.proofs.Status.{is_connected}
use Rattle.p2p_driver.proofs.laws.greeting_first.Goals as goal

pub returns-clause-open : goal.returns-clause-open
returns-clause-open g c b order h n p t owed cause outcome right is =
    let exact = subst CmpEqualImpliesEq (sym order) g.met.C.PublicKey.exact in
    let at = served_is_open b exact h n p t owed cause outcome right is in
    subst (λ o. IsSomeAnd o (λ held. held.phase ≡ phase.Open)) (sym at.1) at.2

pub returns-clause-greeted : goal.returns-clause-greeted
returns-clause-greeted g c b order h n p t owed cause outcome right is =
    served_has_greeted b (subst CmpEqualImpliesEq (sym order) g.met.C.PublicKey.exact) h n p t owed cause outcome right is

pub returns-clause-connected : goal.returns-clause-connected
returns-clause-connected g c b order some h n p t owed cause outcome right is =
    let exact = subst CmpEqualImpliesEq (sym order) g.met.C.PublicKey.exact in
    let at = served_is_open b exact h n p t owed cause outcome right is in
    ap is_active (is_connected b some exact h right.2 p at.0 at.1 at.2)
