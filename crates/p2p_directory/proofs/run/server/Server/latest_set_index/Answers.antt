use Rattle.std.proofs.Common.{refl, ap, ◌∙◌}
use Rattle.p2p_tracker.specs.PeerSets.{latest_index}
use Rattle.p2p_tracker.specs.Calls.Question.{LatestIndex}
use Rattle.p2p_directory.specs.declared.run.commands.Reply.TheVariants as reply
use Rattle.p2p_directory.specs.Run.{settings}
use Rattle.p2p_directory.proofs.Reservations.Served.{informed}
use Rattle.p2p_directory.proofs.run.server.Server.latest_set_index.Goals as goal

pub returns : goal.returns
returns g c = rw (← c.self.view_is) (λ bootstrappers myself cfg calls at.
    let s = settings g.C.Ord.cmp bootstrappers myself cfg in
    informed s cfg.max_sets.ok g.met.C.PublicKey.exact calls _ at LatestIndex (reply.LatestSetIndex c.latest_set_index.result) refl
    (ap reply.LatestSetIndex (c.latest_set_index.ensures ∙ ap latest_index at.refines.sets)))
