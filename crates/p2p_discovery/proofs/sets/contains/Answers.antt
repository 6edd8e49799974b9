use Rattle.std.proofs.Common.{sym}
use Rattle.p2p_discovery.proofs.Naming.{nowhere}
use Rattle.p2p_discovery.proofs.sets.contains.Goals as goal

pub returns-in-None : goal.returns-in-None
returns-in-None g c = sym (nowhere g.met.P.PublicKey.exact c.args.set.now c.args.peer.now c.in-None.ensures.absent)
