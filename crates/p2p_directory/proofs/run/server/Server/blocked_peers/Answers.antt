use Rattle.std.proofs.Common.{refl}
use Rattle.std.specs.Duration.{as_nanos}
use Rattle.p2p_tracker.specs.Calls.Question.{BlockedAt}
use Rattle.p2p_directory.specs.declared.run.commands.Reply.TheVariants as reply
use Rattle.p2p_directory.specs.Run.{settings, world_after}
use Rattle.p2p_directory.proofs.Refinement.BlocksRefine
use Rattle.p2p_directory.proofs.Reservations.Served.{informed}
use Rattle.p2p_directory.proofs.run.server.Server.blocked_peers.Goals as goal

pub returns-in-Ok : goal.returns-in-Ok
returns-in-Ok g c = rw (← c.self.view_is) (λ bootstrappers myself cfg calls at.
    let s = settings g.C.Ord.cmp bootstrappers myself cfg in
    informed s cfg.max_sets.ok g.met.C.PublicKey.exact calls _ at (BlockedAt (as_nanos c.args.now)) (reply.BlockedPeers c.in-Ok.peers) refl
    (BlocksRefine.tie_blocked s (world_after s calls) _ (as_nanos c.args.now) c.in-Ok.peers at.refines c.in-Ok.ensures.peers))
