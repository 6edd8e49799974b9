use Rattle.std.proofs.Common.{sym, ◌∙◌}
use Rattle.p2p_directory.proofs.Reservations.Slots.{held_is}
use Rattle.p2p_directory.proofs.node.Node.held.Goals as goal

pub returns : goal.returns
returns g c = rw (← c.self.view_is)
    (c.held.ensures ∙ sym (held_is g.met.C.Ord.total g.met.C.PublicKey.exact c.self.inside.server.slots c.self.invariant.1 c.args.peer.now))
