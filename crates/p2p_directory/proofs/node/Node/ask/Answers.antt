use Rattle.p2p_directory.specs.Nodes.{made_of}
use Rattle.p2p_directory.proofs.Nodes.Worlds.{asked_in}
use Rattle.p2p_directory.proofs.node.Node.ask.Goals as goal

pub returns-clause-asked : goal.returns-clause-asked
returns-clause-asked g c = λ given calls at.
    asked_in (made_of g.C.Ord.cmp given) _ calls c.args.self.now at c.args.place _ c.ask_frame.ensures.seen
