use Rattle.p2p_directory.proofs.Nodes.Worlds.{still_updated}
use Rattle.p2p_directory.proofs.node.Node.apply.Goals as goal

pub invariant_of-self : goal.invariant_of-self
invariant_of-self g c =
    let left =
    still_updated g.C.Ord.cmp c.self.inside.server c.update.new.self c.self.inside.payload c.self.inside.verifier
    c.into_vec-infos.result.items c.update.ensures.slots c.update.ensures.updated
    c.self.invariant.1 c.self.invariant.2 in
    (c.self.invariant.0, left.0, left.1)
