use Rattle.std.proofs.Common.{sym, subst, ap}
use Rattle.p2p_directory.specs.Private.Slots.{AreSlots, contents}
use Rattle.std.specs.Map.{keys_of}
use Rattle.p2p_directory.specs.declared.run.commands.Command.TheVariants as command
use Rattle.p2p_directory.specs.declared.run.commands.Reply.TheVariants as reply
use Rattle.p2p_directory.proofs.Nodes.Standing.{step_of, still}
use Rattle.p2p_directory.proofs.node.Node.unblock_expired.Goals as goal

pub invariant_of-self : goal.invariant_of-self
invariant_of-self g c = (
  c.self.invariant.0,
  (subst (AreSlots g.C.Ord.cmp) (sym c.unblock_expired.ensures.slots) c.self.invariant.1),
  still g.C.Ord.cmp (command.UnblockExpired c.args.now) (reply.UnblockExpired c.unblock_expired.result) _ _ c.self.invariant.2
      (step_of g.met.C.Ord.total g.met.C.PublicKey.exact c.self.inside.payload c.self.inside.verifier (command.UnblockExpired c.args.now) (reply.UnblockExpired c.unblock_expired.result)
      c.self.inside.server c.unblock_expired.new.self c.self.invariant.1 (subst (AreSlots g.C.Ord.cmp) (sym c.unblock_expired.ensures.slots) c.self.invariant.1) c.unblock_expired.ensures.served),
)

pub returns-clause-stepped : goal.returns-clause-stepped
returns-clause-stepped g c = rw (← c.self.view_is)
    (step_of g.met.C.Ord.total g.met.C.PublicKey.exact c.self.inside.payload c.self.inside.verifier (command.UnblockExpired c.args.now) (reply.UnblockExpired c.unblock_expired.result)
    c.self.inside.server c.unblock_expired.new.self c.self.invariant.1 (subst (AreSlots g.C.Ord.cmp) (sym c.unblock_expired.ensures.slots) c.self.invariant.1) c.unblock_expired.ensures.served)

pub returns-clause-room : goal.returns-clause-room
returns-clause-room g c = rw (← c.self.view_is) (ap keys_of c.unblock_expired.ensures.slots)

pub returns-clause-held : goal.returns-clause-held
returns-clause-held g c = rw (← c.self.view_is) (ap contents c.unblock_expired.ensures.slots)
