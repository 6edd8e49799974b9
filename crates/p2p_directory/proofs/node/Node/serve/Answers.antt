use Rattle.std.proofs.Common.{refl, sym, ◌∙◌}
use Rattle.p2p_directory.specs.Nodes.{made_of}
use Rattle.p2p_directory.specs.Run.{call_of}
use Rattle.p2p_directory.proofs.Nodes.Standing.{served, still, step_of, room_is, slot_is}
use Rattle.p2p_directory.proofs.Reservations.Slots.{held_is}
use Rattle.p2p_directory.proofs.node.Node.serve.Goals as goal

pub invariant_of-self : goal.invariant_of-self
invariant_of-self g c = (
  c.self.invariant.0,
  (c.serve.ensures.ordered c.self.invariant.1),
  still g.C.Ord.cmp c.args.command c.serve.result _ _ c.self.invariant.2
      (step_of g.met.C.Ord.total g.met.C.PublicKey.exact c.self.inside.payload c.self.inside.verifier c.args.command c.serve.result
      c.self.inside.server c.serve.new.self c.self.invariant.1 (c.serve.ensures.ordered c.self.invariant.1) c.serve.ensures.served),
)

pub returns-clause-served : goal.returns-clause-served
returns-clause-served g c = rw (← c.self.view_is) (λ given calls at.
    served (made_of g.C.Ord.cmp given) calls _ _ c.self.inside.server c.serve.new.self
    (call_of c.args.command) c.serve.result refl (held_is g.met.C.Ord.total g.met.C.PublicKey.exact c.self.inside.server.slots c.self.invariant.1) refl
    (held_is g.met.C.Ord.total g.met.C.PublicKey.exact c.serve.new.self.slots (c.serve.ensures.ordered c.self.invariant.1)) refl refl
    (c.serve.ensures.served given.bootstrappers.items given.myself given.cfg calls) at)

pub serve-requires : goal.serve-requires
serve-requires g c = record {
  room = room_is g.C.Ord.cmp c.self.inside.payload c.self.inside.verifier c.self.inside.server c.args.command
      ∙ (rw c.self.view_is c.requires.room);
}

pub returns-clause-slots : goal.returns-clause-slots
returns-clause-slots g c = rw (← c.self.view_is) (λ q.
    sym (slot_is g.C.Ord.cmp c.serve.new.self.slots q) ∙ c.serve.ensures.slots q
    ∙ slot_is g.C.Ord.cmp c.self.inside.server.slots q)
