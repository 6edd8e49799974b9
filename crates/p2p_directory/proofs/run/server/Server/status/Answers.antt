use Rattle.std.proofs.Common.{refl, ap, ◌∙◌}
use Rattle.p2p_tracker.specs.Calls.Question.{StatusOf}
use Rattle.p2p_directory.specs.declared.run.commands.Reply.TheVariants as reply
use Rattle.p2p_directory.specs.Run.{settings, world_after}
use Rattle.p2p_directory.proofs.Refinement.CallsRefine
use Rattle.p2p_directory.proofs.Reservations.Served.{informed}
use Rattle.p2p_directory.proofs.run.server.Server.status.Goals as goal

pub returns : goal.returns
returns g c = rw (← c.self.view_is) (λ bootstrappers myself cfg calls at.
    let s = settings g.C.Ord.cmp bootstrappers myself cfg in
    informed s cfg.max_sets.ok g.met.C.PublicKey.exact calls _ at (StatusOf c.args.peer.now) (reply.Status c.status.result) refl
    (ap reply.Status (c.status.ensures ∙ CallsRefine.tie_status s (world_after s calls) _ c.args.peer.now at.refines)))
