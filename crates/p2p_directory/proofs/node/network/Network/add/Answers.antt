use Rattle.std.proofs.Common.{[], ◌∷◌, ◌++◌, ◌∙◌, ap}
use Rattle.p2p_directory.proofs.Nodes.Among.{added}
use Rattle.p2p_directory.proofs.node.network.Network.add.Goals as goal

pub returns-clause-ok : goal.returns-clause-ok
returns-clause-ok g c = rw (← c.self.view_is) (
    let end = c.in_ok-node.node in
    added g.C.Ord.cmp c.args.setup c.self.inside.nodes.items c.push_reserved.new.self.items end
    c.in_ok-node.ensures.stands
    (c.push_reserved.ensures.items ∙ ap (λ es. es ++ end ∷ []) c.reserve.ensures.items))
