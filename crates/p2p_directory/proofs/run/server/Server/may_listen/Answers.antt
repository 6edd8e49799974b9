use Rattle.std.proofs.Common.{refl, ap, ◌∙◌}
use Rattle.std.specs.Duration.{as_nanos}
use Rattle.p2p_tracker.specs.Calls.Question.{MayListen}
use Rattle.p2p_directory.specs.declared.run.commands.Reply.TheVariants as reply
use Rattle.p2p_directory.specs.Run.{settings, world_after}
use Rattle.p2p_directory.proofs.Refinement.DialsRefine
use Rattle.p2p_directory.proofs.Reservations.Served.{informed}
use Rattle.p2p_directory.proofs.run.server.Server.may_listen.Goals as goal

pub returns : goal.returns
returns g c = rw (← c.self.view_is) (λ bootstrappers myself cfg calls at.
    let s = settings g.C.Ord.cmp bootstrappers myself cfg in
    informed s cfg.max_sets.ok g.met.C.PublicKey.exact calls _ at (MayListen c.args.peer.now (as_nanos c.args.now)) (reply.MayListen c.may_listen.result) refl
    (ap reply.MayListen
    (c.may_listen.ensures ∙ DialsRefine.tie_may_listen s (world_after s calls) _ c.args.peer.now (as_nanos c.args.now) at.refines)))
