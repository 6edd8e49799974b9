use Rattle.std.proofs.Common.{List, Option, Some, None, sym, ◌∙◌, refl, inl, inr, ◌≤◌, length}
use Rattle.std.specs.Prelude.{IfSome}
use Rattle.std.specs.declared.cmp.Ordering.{Ordering}
use Rattle.p2p_tracker.specs.Directory.{AreTornDown, other_keys}
use Rattle.std.specs.Cmp.{IsTotalOrder}
use Rattle.std.proofs.lemmas.Bool.{true_from_ne_false}
use Rattle.p2p_tracker.specs.Seen.{DirectoryView}
use Rattle.p2p_directory.specs.Run.{settings}
use Rattle.p2p_directory.proofs.Reservations.Served
use Rattle.p2p_directory.proofs.Reservations.Torn.{few_torn}
use Rattle.p2p_directory.proofs.run.server.Server.track.Goals as goal
use Rattle.p2p_directory.proofs.run.server.Server.track.Goals.{in-Ok, in-Err}

pub returns-clause-served : goal.returns-clause-served
returns-clause-served g c = rw (← c.self.view_is) (λ bootstrappers myself cfg calls at.
    let s = settings g.C.Ord.cmp bootstrappers myself cfg in
    elim c.match-track.branch [
      | in-Ok w ↦
          rw w.result-is
          (Served.served_track s cfg.max_sets.ok g.met.C.PublicKey.exact calls _ _ at c.args.index
          c.args.peers.primary c.args.peers.secondary w.in-Ok.torn
          w.in-Ok.ensures.answer w.in-Ok.ensures.refused w.in-Ok.ensures.taken w.in-Ok.ensures.torn refl)
      | in-Err w ↦
          rw w.result-is
          (Served.served_no_memory s cfg.max_sets.ok g.met.C.PublicKey.exact calls _ _ at c.args.index
          c.args.peers.primary c.args.peers.secondary
          (true_from_ne_false _ (λ old. let f = sym w.in-Err.is ∙ c.track.ensures.untaken old in cc)) w.in-Err.ensures.err refl)
    ])

-- those who are torn down, if a set was taken, are few
few : {C S : Type 0} {cmp : C → C → Ordering} (total : IsTotalOrder cmp) (d d2 : DirectoryView C S) (torn : Option (List C)) →
    IfSome torn (AreTornDown cmp d d2) → IfSome torn (λ ps. length ps ≤ length (other_keys d.records))
few total d d2 None h = tt
few total d d2 (Some torn) h = few_torn total d d2 torn h

pub returns-clause-few : goal.returns-clause-few
returns-clause-few g c = rw (← c.self.view_is) (elim c.match-track.branch [
  | in-Ok w ↦ inr (w.in-Ok.torn, w.result-is, few g.met.C.Ord.total c.self.inside.directory c.track.new.self w.in-Ok.torn w.in-Ok.ensures.torn)
  | in-Err w ↦ inl w.result-is
])
