use Rattle.std.proofs.Common.{sym, ◌∙◌}
use Rattle.p2p_directory.proofs.Nodes.Standing.{same_node, still_same, room_is, slot_is}
use Rattle.p2p_directory.proofs.Nodes.Networks.{on_ok}
use Rattle.p2p_directory.proofs.node.Node.make_room.Goals as goal

pub invariant_of-self : goal.invariant_of-self
invariant_of-self g c = (
  c.self.invariant.0,
  c.make_room.ensures.ordered,
  still_same g.C.Ord.cmp _ _ (same_node g.met.C.Ord.total g.met.C.PublicKey.exact c.self.inside.payload c.self.inside.verifier
      c.self.inside.server c.make_room.new.self c.self.invariant.1 c.make_room.ensures.ordered
      c.make_room.ensures.directory c.make_room.ensures.held) c.self.invariant.2,
)

pub returns-clause-same : goal.returns-clause-same
returns-clause-same g c = rw (← c.self.view_is)
    (same_node g.met.C.Ord.total g.met.C.PublicKey.exact c.self.inside.payload c.self.inside.verifier
    c.self.inside.server c.make_room.new.self c.self.invariant.1 c.make_room.ensures.ordered
    c.make_room.ensures.directory c.make_room.ensures.held)

pub returns-clause-room : goal.returns-clause-room
returns-clause-room g c = on_ok c.make_room.result c.make_room.ensures.room (λ room.
    sym (room_is g.C.Ord.cmp c.self.inside.payload c.self.inside.verifier c.make_room.new.self c.args.command.now) ∙ room)

pub returns-clause-slots : goal.returns-clause-slots
returns-clause-slots g c = rw (← c.self.view_is) (on_ok c.make_room.result c.make_room.ensures.slots (λ more q has.
    sym (slot_is g.C.Ord.cmp c.make_room.new.self.slots q)
    ∙ more q (slot_is g.C.Ord.cmp c.self.inside.server.slots q ∙ has)))
