use Rattle.std.proofs.Common.{sym, subst, ap}
use Rattle.p2p_directory.specs.Private.Slots.{AreSlots, contents}
use Rattle.std.specs.Map.{keys_of}
use Rattle.p2p_directory.specs.declared.run.commands.Command.TheVariants as command
use Rattle.p2p_directory.specs.declared.run.commands.Reply.TheVariants as reply
use Rattle.p2p_directory.proofs.Nodes.Standing.{step_of, still}
use Rattle.p2p_directory.proofs.node.Node.forget_cooled.Goals as goal

pub invariant_of-self : goal.invariant_of-self
invariant_of-self g c = (
  c.self.invariant.0,
  (subst (AreSlots g.C.Ord.cmp) (sym c.forget_cooled.ensures.slots) c.self.invariant.1),
  still g.C.Ord.cmp (command.ForgetCooled c.args.now) (reply.ForgetCooled c.forget_cooled.result) _ _ c.self.invariant.2
      (step_of g.met.C.Ord.total g.met.C.PublicKey.exact c.self.inside.payload c.self.inside.verifier (command.ForgetCooled c.args.now) (reply.ForgetCooled c.forget_cooled.result)
      c.self.inside.server c.forget_cooled.new.self c.self.invariant.1 (subst (AreSlots g.C.Ord.cmp) (sym c.forget_cooled.ensures.slots) c.self.invariant.1) c.forget_cooled.ensures.served),
)

pub returns-clause-stepped : goal.returns-clause-stepped
returns-clause-stepped g c = rw (← c.self.view_is)
    (step_of g.met.C.Ord.total g.met.C.PublicKey.exact c.self.inside.payload c.self.inside.verifier (command.ForgetCooled c.args.now) (reply.ForgetCooled c.forget_cooled.result)
    c.self.inside.server c.forget_cooled.new.self c.self.invariant.1 (subst (AreSlots g.C.Ord.cmp) (sym c.forget_cooled.ensures.slots) c.self.invariant.1) c.forget_cooled.ensures.served)

pub returns-clause-room : goal.returns-clause-room
returns-clause-room g c = rw (← c.self.view_is) (ap keys_of c.forget_cooled.ensures.slots)

pub returns-clause-held : goal.returns-clause-held
returns-clause-held g c = rw (← c.self.view_is) (ap contents c.forget_cooled.ensures.slots)
