use Rattle.p2p_directory.specs.Nodes.{made_of}
use Rattle.p2p_directory.proofs.Nodes.Worlds.{asked_for_all_in}
use Rattle.p2p_directory.proofs.node.Node.ask_all.Goals as goal

pub returns-clause-asked : goal.returns-clause-asked
returns-clause-asked g c = λ given calls at.
    asked_for_all_in (made_of g.C.Ord.cmp given) _ calls c.args.self.now at c.args.place _ c.ask_all_frame.ensures
