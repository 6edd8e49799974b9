use Rattle.std.proofs.Common.{refl}
use Rattle.std.specs.Duration.{as_nanos}
use Rattle.p2p_directory.specs.Run.{settings}
use Rattle.p2p_directory.proofs.Reservations.Served
use Rattle.p2p_directory.proofs.run.server.Server.forget_cooled.Goals as goal

pub returns-clause-served : goal.returns-clause-served
returns-clause-served g c = rw (← c.self.view_is) (λ bootstrappers myself cfg calls at.
    Served.served_forgotten (settings g.C.Ord.cmp bootstrappers myself cfg) cfg.max_sets.ok g.met.C.PublicKey.exact
    calls _ _ at (as_nanos c.args.now) c.forget_cooled.result c.forget_cooled.ensures.answer
    c.forget_cooled.ensures.forgotten refl)
