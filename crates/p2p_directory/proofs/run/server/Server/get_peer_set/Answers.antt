use Rattle.std.proofs.Common.{refl, ap, ◌∙◌}
use Rattle.std.specs.Option.{option_map}
use Rattle.p2p_tracker.specs.PeerSets.{set_with}
use Rattle.p2p_tracker.specs.Seen.{peers_of}
use Rattle.p2p_tracker.specs.Calls.Question.{PeerSet}
use Rattle.p2p_directory.specs.declared.run.commands.Reply.TheVariants as reply
use Rattle.p2p_directory.specs.Run.{settings}
use Rattle.p2p_directory.proofs.Reservations.Served.{informed}
use Rattle.p2p_directory.proofs.run.server.Server.get_peer_set.Goals as goal

pub returns-in-Ok : goal.returns-in-Ok
returns-in-Ok g c = rw (← c.self.view_is) (λ bootstrappers myself cfg calls at.
    let s = settings g.C.Ord.cmp bootstrappers myself cfg in
    informed s cfg.max_sets.ok g.met.C.PublicKey.exact calls _ at (PeerSet c.args.index) (reply.GetPeerSet c.in-Ok.peers) refl
    (ap reply.GetPeerSet
    (c.in-Ok.ensures.peers ∙ ap (λ sets. option_map peers_of (set_with c.args.index sets)) at.refines.sets)))
