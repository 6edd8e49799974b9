use Rattle.std.proofs.Common.{Some}
use Rattle.p2p_directory.specs.declared.run.commands.Command.TheVariants as command
use Rattle.p2p_directory.proofs.Nodes.Standing.{same_node, step_of, still, keeps_room}
use Rattle.p2p_directory.proofs.Nodes.HeldAfter.{holds_after}
use Rattle.p2p_directory.proofs.node.Node.release.Goals as goal

pub invariant_of-self : goal.invariant_of-self
invariant_of-self g c = (
  c.self.invariant.0,
  c.release_slot.ensures.ordered,
  still g.C.Ord.cmp (command.Release c.args.peer.now) c.release_slot.result _ _ c.self.invariant.2
      (step_of g.met.C.Ord.total g.met.C.PublicKey.exact c.self.inside.payload c.self.inside.verifier (command.Release c.args.peer.now) c.release_slot.result
      c.self.inside.server c.release_slot.new.self c.self.invariant.1 c.release_slot.ensures.ordered c.release_slot.ensures.served),
)

pub returns-clause-stepped : goal.returns-clause-stepped
returns-clause-stepped g c = rw (← c.self.view_is)
    (step_of g.met.C.Ord.total g.met.C.PublicKey.exact c.self.inside.payload c.self.inside.verifier (command.Release c.args.peer.now) c.release_slot.result
    c.self.inside.server c.release_slot.new.self c.self.invariant.1 c.release_slot.ensures.ordered c.release_slot.ensures.served)

pub returns-clause-unchanged : goal.returns-clause-unchanged
returns-clause-unchanged g c = rw (← c.self.view_is) (λ no.
    same_node g.met.C.Ord.total g.met.C.PublicKey.exact c.self.inside.payload c.self.inside.verifier
    c.self.inside.server c.release_slot.new.self c.self.invariant.1 c.release_slot.ensures.ordered (c.release_slot.ensures.directory no) (c.release_slot.ensures.held no))

pub returns-clause-room : goal.returns-clause-room
returns-clause-room g c = rw (← c.self.view_is)
    (keeps_room g.met.C.Ord.total g.met.C.PublicKey.exact c.self.inside.payload c.self.inside.verifier (Some c.args.peer.now)
    c.self.inside.server c.release_slot.new.self c.release_slot.ensures.ordered c.release_slot.ensures.room)

pub returns-clause-held : goal.returns-clause-held
returns-clause-held g c = rw (← c.self.view_is)
    (holds_after g.met.C.Ord.total g.met.C.PublicKey.exact c.self.inside.payload c.self.inside.verifier (command.Release c.args.peer.now) c.release_slot.result
    c.self.inside.server c.release_slot.new.self c.self.invariant.1 c.release_slot.ensures.ordered c.self.invariant.2
    (step_of g.met.C.Ord.total g.met.C.PublicKey.exact c.self.inside.payload c.self.inside.verifier (command.Release c.args.peer.now) c.release_slot.result
    c.self.inside.server c.release_slot.new.self c.self.invariant.1 c.release_slot.ensures.ordered c.release_slot.ensures.served))
