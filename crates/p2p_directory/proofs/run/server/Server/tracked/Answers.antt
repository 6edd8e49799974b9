use Rattle.std.proofs.Common.{refl, sym, subst}
use Rattle.p2p_tracker.specs.Answers.{IsNumberTracked}
use Rattle.p2p_tracker.specs.Calls.Question.{NumberTracked}
use Rattle.p2p_directory.specs.declared.run.commands.Reply.TheVariants as reply
use Rattle.p2p_directory.specs.Run.{settings, world_after}
use Rattle.p2p_directory.proofs.Refinement.KnowledgeRefines
use Rattle.p2p_directory.proofs.Reservations.Served.{informed}
use Rattle.p2p_directory.proofs.run.server.Server.tracked.Goals as goal

pub returns : goal.returns
returns g c = rw (← c.self.view_is) (λ bootstrappers myself cfg calls at.
    let s = settings g.C.Ord.cmp bootstrappers myself cfg in
    informed s cfg.max_sets.ok g.met.C.PublicKey.exact calls _ at NumberTracked (reply.Tracked c.tracked.result) refl
    (subst (IsNumberTracked s (world_after s calls)) (sym c.tracked.ensures.count)
    (KnowledgeRefines.tie_tracked s g.met.C.Ord.total (world_after s calls) _ at.refines c.tracked.ensures.sorted)))
