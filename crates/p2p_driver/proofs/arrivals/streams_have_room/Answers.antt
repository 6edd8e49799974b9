use Rattle.p2p_driver.proofs.Fairness.{spared, let_in, bounded, of_one}
use Rattle.p2p_driver.proofs.arrivals.streams_have_room.Goals as goal

pub returns-clause-spared : goal.returns-clause-spared
returns-clause-spared g c pace now arrivals origin n is = spared pace now arrivals origin n is

pub returns-clause-let_in : goal.returns-clause-let_in
returns-clause-let_in g c pace now arrivals origin is few = let_in pace now arrivals origin is few

pub returns-clause-bounded : goal.returns-clause-bounded
returns-clause-bounded g c pace now arrivals new within = bounded pace now arrivals new within

pub returns-clause-of_one : goal.returns-clause-of_one
returns-clause-of_one g c pace now arrivals new within origin = of_one pace now arrivals new within origin
