use Rattle.std.proofs.Common.{refl}
use Rattle.std.specs.Duration.{as_nanos}
use Rattle.std.specs.Option.{option_map}
use Rattle.p2p_tracker.specs.Answers.{is_dialable}
use Rattle.p2p_tracker.specs.Directory.{is_dialable_in}
use Rattle.p2p_tracker.proofs.Definitions.Listed.{somebody_alike}
use Rattle.p2p_tracker.specs.Calls.Question.{DialableAt}
use Rattle.p2p_directory.specs.declared.run.commands.Reply.TheVariants as reply
use Rattle.p2p_directory.specs.Run.{settings, world_after}
use Rattle.p2p_directory.proofs.Refinement.DialsRefine
use Rattle.p2p_directory.proofs.Reservations.Served.{informed, uninformed}
use Rattle.p2p_directory.proofs.run.server.Server.dialable.Goals as goal

pub returns-in-Ok : goal.returns-in-Ok
returns-in-Ok g c = rw (← c.self.view_is) (λ bootstrappers myself cfg calls at.
    let s = settings g.C.Ord.cmp bootstrappers myself cfg in
    informed s cfg.max_sets.ok g.met.C.PublicKey.exact calls _ at (DialableAt (as_nanos c.args.now)) (reply.Dialable c.in-Ok.dialable) refl
    (DialsRefine.tie_dialable s (world_after s calls) _ (as_nanos c.args.now) c.in-Ok.dialable.peers.items
    (option_map as_nanos c.in-Ok.dialable.next_query_at) at.refines c.in-Ok.ensures.dialable))

pub returns-in-Err : goal.returns-in-Err
returns-in-Err g c = rw (← c.self.view_is) (λ bootstrappers myself cfg calls at.
    let s = settings g.C.Ord.cmp bootstrappers myself cfg in
    uninformed s cfg.max_sets.ok g.met.C.PublicKey.exact calls _ at (DialableAt (as_nanos c.args.now))
    (somebody_alike (is_dialable_in s.cmp c.self.inside.directory (as_nanos c.args.now)) (is_dialable s (world_after s calls) (as_nanos c.args.now))
    (DialsRefine.tie_is_dialable s (world_after s calls) _ (as_nanos c.args.now) at.refines) c.in-Err.ensures.err))
