use Rattle.std.proofs.Common.{sym, subst}
use Rattle.p2p_driver.proofs.Beginnings.{Begins, begins}
use Rattle.p2p_driver.proofs.Causes.{blames, one_cause}
use Rattle.p2p_driver.proofs.Paced.{one_head}
use Rattle.p2p_driver.proofs.laws.blame.Goals as goal

pub returns-clause-one_cause : goal.returns-clause-one_cause
returns-clause-one_cause g c b is h n m p t u owed other cause x y isnt one two =
    one_cause b (subst Begins (sym is) (begins _ _ _ _ _ _)) h n m p t u owed other cause x y isnt one two

pub returns-clause-one_head : goal.returns-clause-one_head
returns-clause-one_head g c b h n m p t owed other cause x y is one two =
    one_head b h n m p t owed other cause x y is one two

pub returns-clause-blocks : goal.returns-clause-blocks
returns-clause-blocks g c h p now is = blames p now h is
