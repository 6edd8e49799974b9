use Rattle.p2p_directory.proofs.node.network.nodes.serve.Goals as goal

pub returns-in-Call-clause-answered : goal.returns-in-Call-clause-answered
returns-in-Call-clause-answered g c = rw c.in-Call.is c.call.ensures.answered

pub returns-in-Ask-clause-answered : goal.returns-in-Ask-clause-answered
returns-in-Ask-clause-answered g c = rw c.in-Ask.is c.ask.ensures.answered

pub returns-in-Ask-clause-written : goal.returns-in-Ask-clause-written
returns-in-Ask-clause-written g c = rw c.in-Ask.is c.ask.ensures.written

pub returns-in-Frame-clause-answered : goal.returns-in-Frame-clause-answered
returns-in-Frame-clause-answered g c = rw c.in-Frame.is c.receive.ensures.answered

pub returns-in-Frame-clause-written : goal.returns-in-Frame-clause-written
returns-in-Frame-clause-written g c = rw c.in-Frame.is c.receive.ensures.written

pub returns-in-Exchange-clause-carried : goal.returns-in-Exchange-clause-carried
returns-in-Exchange-clause-carried g c = rw c.in-Exchange.is c.exchange.ensures.carried

pub returns-in-Exchange-clause-answered : goal.returns-in-Exchange-clause-answered
returns-in-Exchange-clause-answered g c = rw c.in-Exchange.is c.exchange.ensures.answered
