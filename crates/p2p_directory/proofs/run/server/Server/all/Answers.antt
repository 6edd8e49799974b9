use Rattle.std.proofs.Common.{refl}
use Rattle.p2p_tracker.specs.Calls.Question.{AllPeers}
use Rattle.p2p_directory.specs.declared.run.commands.Reply.TheVariants as reply
use Rattle.p2p_directory.specs.Run.{settings, world_after}
use Rattle.p2p_directory.proofs.Refinement.BlocksRefine
use Rattle.p2p_directory.proofs.Reservations.Served.{informed}
use Rattle.p2p_directory.proofs.run.server.Server.all.Goals as goal

pub returns-in-Ok : goal.returns-in-Ok
returns-in-Ok g c = rw (← c.self.view_is) (λ bootstrappers myself cfg calls at.
    let s = settings g.C.Ord.cmp bootstrappers myself cfg in
    informed s cfg.max_sets.ok g.met.C.PublicKey.exact calls _ at AllPeers (reply.All c.in-Ok.peers) refl
    (BlocksRefine.tie_all s (world_after s calls) _ c.in-Ok.peers at.refines c.in-Ok.ensures.peers))
