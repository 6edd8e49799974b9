use Rattle.p2p_driver.proofs.Signatures.{of_greeting, of_list}
use Rattle.p2p_driver.proofs.laws.few_signatures.Goals as goal

pub returns-clause-greeting : goal.returns-clause-greeting
returns-clause-greeting g c b h n p t owed cause w right is = of_greeting b h n p t owed cause w right is

pub returns-clause-list : goal.returns-clause-list
returns-clause-list g c b h n p t owed cause w right is = of_list b h n p t owed cause w right is
