use Rattle.p2p_driver.proofs.Budget.{few_of, few_streams}
use Rattle.p2p_driver.proofs.Counted.{as_many}
use Rattle.p2p_driver.proofs.laws.budget.Goals as goal

pub returns-clause-links : goal.returns-clause-links
returns-clause-links g c b h right = (few_of b h right).links

pub returns-clause-inbound : goal.returns-clause-inbound
returns-clause-inbound g c b h right = (few_of b h right).inbound

pub returns-clause-outbound : goal.returns-clause-outbound
returns-clause-outbound g c b h right = (few_of b h right).outbound

pub returns-clause-dials : goal.returns-clause-dials
returns-clause-dials g c b h right = (few_of b h right).dials

pub returns-clause-kept : goal.returns-clause-kept
returns-clause-kept g c b h v at = as_many h v.links at.counts

pub returns-clause-arrivals : goal.returns-clause-arrivals
returns-clause-arrivals g c b h v at = (few_streams b h v.arrivals at.right at.arrivals).0

pub returns-clause-by_address : goal.returns-clause-by_address
returns-clause-by_address g c b h v at origin = (few_streams b h v.arrivals at.right at.arrivals).1 origin
