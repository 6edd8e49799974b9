use Rattle.std.proofs.Common.{sym, ◌∙◌}
use Rattle.p2p_directory.proofs.Reservations.Slots.{held_is}
use Rattle.p2p_directory.proofs.node.Node.parts.Goals as goal

pub returns-clause-held : goal.returns-clause-held
returns-clause-held g c =
    rw (← c.self.view_is) (λ q. c.into_parts.ensures.held q ∙ sym (held_is g.met.C.Ord.total g.met.C.PublicKey.exact c.self.inside.server.slots c.self.invariant.1 q))
