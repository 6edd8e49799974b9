use Rattle.std.proofs.Common.{◌≡◌, None, inl, refl, ◌∙◌, ap, sym, subst, is_some}
use Rattle.std.specs.Prelude.{if◌then◌else◌}
use Rattle.std.specs.declared.time.Duration.{Duration}
use Rattle.p2p_directory.specs.declared.run.commands.Command.{Command}
use Rattle.p2p_directory.specs.declared.run.commands.Command.TheVariants as command
use Rattle.p2p_directory.specs.Nodes.{is_named, named_peer}
use Rattle.p2p_directory.specs.Private.Slots.{has_slot, held_in, AreSlots}
use Rattle.p2p_directory.proofs.run.server.Server.step.Goals as goal

-- all other commands name no peer
unnamed : {C S : Type 0} (x : Command C S) →
    ((p : C) (now draw : Duration) → x ≡ command.Dial p now draw → ⊥) →
    ((p : C) (now draw : Duration) → x ≡ command.Listen p now draw → ⊥) →
    ((p : C) → x ≡ command.Release p → ⊥) → named_peer x ≡ None
unnamed (command.Dial p now draw) dial listen release = absurd (dial p now draw refl)
unnamed (command.Listen p now draw) dial listen release = absurd (listen p now draw refl)
unnamed (command.Release p) dial listen release = absurd (release p refl)
unnamed x dial listen release = refl

pub returns-in_default : goal.returns-in_default
returns-in_default g c =
    let none = unnamed c.args.command c.in_default.not-Dial c.in_default.not-Listen c.in_default.not-Release in record {
      stepped = λ bootstrappers myself cfg calls at.
          let h = c.serve.ensures.served bootstrappers myself cfg calls at in
          record { answer = inl h.answer; left = h.left };
      directory = λ no. ap (λ v. v.directory) (c.serve.ensures.unchanged no);
      held = λ no q. ap (λ v. held_in g.C.Ord.cmp v.slots q) (c.serve.ensures.unchanged no);
      room = λ q. c.serve.ensures.slots q
          ∙ ap (λ o. if is_named g.C.Ord.cmp o q then is_some (held_in g.C.Ord.cmp c.serve.new.self.slots q)
          else has_slot g.C.Ord.cmp c.args.self.now.slots q) (sym none);
      ordered = c.serve.ensures.ordered
          (subst (λ v. AreSlots g.C.Ord.cmp v.slots) c.self.view_is c.self.invariant.1);
    }
