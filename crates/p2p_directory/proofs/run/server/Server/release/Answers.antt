use Rattle.std.proofs.Common.{sym}
use Rattle.p2p_directory.specs.Run.{settings}
use Rattle.p2p_directory.proofs.Reservations.Served
use Rattle.p2p_directory.proofs.run.server.Server.release.Goals as goal

pub returns-in-Some-clause-served : goal.returns-in-Some-clause-served
returns-in-Some-clause-served g c = rw (← c.self.view_is) (λ bootstrappers myself cfg calls at.
    let facts = c.in-Some.ensures in
    Served.served_release (settings g.C.Ord.cmp bootstrappers myself cfg) cfg.max_sets.ok g.met.C.PublicKey.exact
    calls _ _ at c.args.peer.now c.in-Some.reservation
    (sym facts.taken) (rw facts.peer at c.release.ensures.released) facts.held)
