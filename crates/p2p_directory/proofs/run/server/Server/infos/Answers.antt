use Rattle.std.proofs.Common.{refl, subst, length, ◌<◌, ◌∙◌}
use Rattle.std.specs.Duration.{as_nanos}
use Rattle.std.specs.Option.{IsSomeAnd}
use Rattle.p2p_tracker.specs.Calls.Question.{InfosFor}
use Rattle.p2p_directory.specs.declared.run.commands.Reply.TheVariants as reply
use Rattle.p2p_directory.specs.Run.{settings, world_after}
use Rattle.p2p_directory.proofs.Refinement.KnowledgeRefines
use Rattle.p2p_directory.proofs.Reservations.Served.{informed, uninformed}
use Rattle.p2p_directory.proofs.run.server.Server.infos.Goals as goal

pub returns-in-Ok : goal.returns-in-Ok
returns-in-Ok g c = rw (← c.self.view_is) (λ bootstrappers myself cfg calls at.
    let s = settings g.C.Ord.cmp bootstrappers myself cfg in
    informed s cfg.max_sets.ok g.met.C.PublicKey.exact calls _ at (InfosFor c.args.bit_vec.now.index c.args.bit_vec.now.bits (as_nanos c.args.now)) (reply.Infos c.in-Ok.infos) refl
    (c.in-Ok.ensures.infos ∙ KnowledgeRefines.tie_infos s (world_after s calls) _ c.args.bit_vec.now.index c.args.bit_vec.now.bits (as_nanos c.args.now) at.refines))

pub returns-in-Err : goal.returns-in-Err
returns-in-Err g c = rw (← c.self.view_is) (λ bootstrappers myself cfg calls at.
    let s = settings g.C.Ord.cmp bootstrappers myself cfg in
    uninformed s cfg.max_sets.ok g.met.C.PublicKey.exact calls _ at (InfosFor c.args.bit_vec.now.index c.args.bit_vec.now.bits (as_nanos c.args.now))
    (subst (λ o. IsSomeAnd o (λ infos. 0 < length infos))
    (KnowledgeRefines.tie_infos s (world_after s calls) _ c.args.bit_vec.now.index c.args.bit_vec.now.bits (as_nanos c.args.now) at.refines) c.in-Err.ensures.err))
