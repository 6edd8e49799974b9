use Rattle.p2p_directory.specs.Nodes.{named_peer}
use Rattle.p2p_directory.proofs.Nodes.Standing.{same_node, step_alone, still, keeps_room}
use Rattle.p2p_directory.proofs.Nodes.HeldAfter.{holds_after}
use Rattle.p2p_directory.proofs.node.Node.step.Goals as goal

pub invariant_of-self : goal.invariant_of-self
invariant_of-self g c = (
  c.self.invariant.0,
  c.step.ensures.ordered,
  still g.C.Ord.cmp c.args.command c.step.result _ _ c.self.invariant.2
      (step_alone g.met.C.Ord.total g.met.C.PublicKey.exact c.self.inside.payload c.self.inside.verifier c.args.command c.step.result
      c.self.inside.server c.step.new.self c.self.invariant.1 c.step.ensures.ordered c.step.ensures.stepped),
)

pub returns-clause-stepped : goal.returns-clause-stepped
returns-clause-stepped g c = rw (← c.self.view_is)
    (step_alone g.met.C.Ord.total g.met.C.PublicKey.exact c.self.inside.payload c.self.inside.verifier c.args.command c.step.result
    c.self.inside.server c.step.new.self c.self.invariant.1 c.step.ensures.ordered c.step.ensures.stepped)

pub returns-clause-unchanged : goal.returns-clause-unchanged
returns-clause-unchanged g c = rw (← c.self.view_is) (λ no.
    same_node g.met.C.Ord.total g.met.C.PublicKey.exact c.self.inside.payload c.self.inside.verifier
    c.self.inside.server c.step.new.self c.self.invariant.1 c.step.ensures.ordered (c.step.ensures.directory no) (c.step.ensures.held no))

pub returns-clause-room : goal.returns-clause-room
returns-clause-room g c = rw (← c.self.view_is)
    (keeps_room g.met.C.Ord.total g.met.C.PublicKey.exact c.self.inside.payload c.self.inside.verifier (named_peer c.args.command)
    c.self.inside.server c.step.new.self c.step.ensures.ordered c.step.ensures.room)

pub returns-clause-held : goal.returns-clause-held
returns-clause-held g c = rw (← c.self.view_is)
    (holds_after g.met.C.Ord.total g.met.C.PublicKey.exact c.self.inside.payload c.self.inside.verifier c.args.command c.step.result
    c.self.inside.server c.step.new.self c.self.invariant.1 c.step.ensures.ordered c.self.invariant.2
    (step_alone g.met.C.Ord.total g.met.C.PublicKey.exact c.self.inside.payload c.self.inside.verifier c.args.command c.step.result
    c.self.inside.server c.step.new.self c.self.invariant.1 c.step.ensures.ordered c.step.ensures.stepped))
