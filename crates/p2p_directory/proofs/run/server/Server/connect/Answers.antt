use Rattle.std.proofs.Common.{refl, sym, ◌∙◌}
use Rattle.p2p_directory.specs.Run.{settings}
use Rattle.p2p_directory.proofs.Reservations.Served
use Rattle.p2p_directory.proofs.run.server.Server.connect.Goals as goal

pub returns-then-try_connect-clause-served : goal.returns-then-try_connect-clause-served
returns-then-try_connect-clause-served g c = rw (← c.self.view_is) (λ bootstrappers myself cfg calls at.
    Served.served_connected (settings g.C.Ord.cmp bootstrappers myself cfg) cfg.max_sets.ok g.met.C.PublicKey.exact calls _ _ at
    c.args.peer.now c.args.dialer (sym c.try_connect.ensures.answer ∙ c.if-try_connect.true)
    (c.try_connect.ensures.connected c.if-try_connect.true) refl)
