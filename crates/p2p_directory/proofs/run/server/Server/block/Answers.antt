use Rattle.std.proofs.Common.{Ok, sym, ◌∙◌, ap, refl}
use Rattle.std.specs.Duration.{as_nanos}
use Rattle.std.proofs.lemmas.Bool.{true_from_ne_false}
use Rattle.p2p_directory.specs.Run.{settings}
use Rattle.p2p_directory.proofs.Reservations.Served
use Rattle.p2p_directory.proofs.run.server.Server.block.Goals as goal
use Rattle.p2p_directory.proofs.run.server.Server.block.Goals.{in-Ok, in-Err}

pub returns-clause-served : goal.returns-clause-served
returns-clause-served g c = rw (← c.self.view_is) (λ bootstrappers myself cfg calls at.
    let s = settings g.C.Ord.cmp bootstrappers myself cfg in
    elim c.match-block.branch [
      | in-Ok w ↦
          rw w.result-is
          (Served.served_block s cfg.max_sets.ok g.met.C.PublicKey.exact calls _ _ at c.args.peer.now
          (as_nanos c.args.now) w.in-Ok.taken w.in-Ok.ensures.answer
          (λ h. c.block.ensures.refused (w.in-Ok.is ∙ ap Ok h)) (λ h. c.block.ensures.taken (w.in-Ok.is ∙ ap Ok h)) refl)
      | in-Err w ↦
          rw w.result-is (Served.served_no_block s cfg.max_sets.ok g.met.C.PublicKey.exact calls _ _ at c.args.peer.now (as_nanos c.args.now)
          (true_from_ne_false _ (λ no. let f = sym w.in-Err.is ∙ c.block.ensures.untaken no in cc)) w.in-Err.ensures.err refl)
    ])
