use Rattle.std.proofs.Common.{subst}
use Rattle.p2p_driver.specs.Links.{AreNumbered}
use Rattle.p2p_driver.proofs.Linked.{numbered, need_within}
use Rattle.p2p_driver.proofs.links.Links.agrees.Goals as goal

pub returns-clause-numbered : goal.returns-clause-numbered
returns-clause-numbered g c = subst (AreNumbered g.C.Ord.cmp) c.self.view_is
    (numbered g.met.C.Ord.total c.self.inside.of_peers.entries _ c.self.invariant)

pub returns-clause-needs : goal.returns-clause-needs
returns-clause-needs g c = need_within g.met.C.Ord.total c.args.self.now
