use Rattle.std.proofs.Common.{refl, ap, ◌∙◌}
use Rattle.p2p_tracker.specs.Calls.Question.{BitsAt}
use Rattle.p2p_directory.specs.declared.run.commands.Reply.TheVariants as reply
use Rattle.p2p_directory.specs.Run.{settings, world_after}
use Rattle.p2p_directory.proofs.LawsOfRuns.Forgotten
use Rattle.p2p_directory.proofs.Refinement.KnowledgeRefines
use Rattle.p2p_directory.proofs.Reservations.Served.{informed}
use Rattle.p2p_directory.proofs.run.server.Server.get_random_bit_vec.Goals as goal

pub returns-in-Ok : goal.returns-in-Ok
returns-in-Ok g c = rw (← c.self.view_is) (λ bootstrappers myself cfg calls at.
    let s = settings g.C.Ord.cmp bootstrappers myself cfg in
    informed s cfg.max_sets.ok g.met.C.PublicKey.exact calls _ at (BitsAt c.args.place) (reply.GetRandomBitVec c.in-Ok.bits) refl
    (ap reply.GetRandomBitVec (c.in-Ok.ensures.bits ∙ KnowledgeRefines.tie_bits s at.limit_fits (world_after s calls) _ c.args.place
    (Forgotten.absent s calls) at.refines)))
