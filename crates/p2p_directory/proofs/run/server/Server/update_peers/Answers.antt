use Rattle.std.proofs.Common.{refl}
use Rattle.p2p_directory.specs.Run.{settings}
use Rattle.p2p_directory.proofs.Reservations.Served
use Rattle.p2p_directory.proofs.run.server.Server.update_peers.Goals as goal

pub returns-clause-served : goal.returns-clause-served
returns-clause-served g c = rw (← c.self.view_is) (λ bootstrappers myself cfg calls at.
    Served.served_updated (settings g.C.Ord.cmp bootstrappers myself cfg) cfg.max_sets.ok g.met.C.PublicKey.exact
    calls _ _ at c.args.infos.items c.update_peers.ensures.updated refl)
