use Rattle.p2p_directory.specs.declared.run.commands.Command.TheVariants as command
use Rattle.p2p_directory.specs.declared.run.commands.Reply.TheVariants as reply
use Rattle.p2p_directory.proofs.Nodes.Standing.{step_of}
use Rattle.p2p_directory.proofs.node.Node.may_listen.Goals as goal

pub returns : goal.returns
returns g c = rw (← c.self.view_is)
    (step_of g.met.C.Ord.total g.met.C.PublicKey.exact c.self.inside.payload c.self.inside.verifier (command.MayListen c.args.peer.now c.args.now) (reply.MayListen c.may_listen.result)
    c.self.inside.server c.self.inside.server c.self.invariant.1 c.self.invariant.1 c.may_listen.ensures)
