use Rattle.std.proofs.Common.{◌≡◌, Some, subst}
use Rattle.std.specs.Prelude.{slice_get}
use Rattle.p2p_directory.proofs.run.slots.Slots.first.Goals as goal

pub returns-in-Some-clause-some : goal.returns-in-Some-clause-some
returns-in-Some-clause-some g c = (
  c.in-Some.field-0-1.now,
  subst (λ slots. slice_get slots 0 ≡ Some (c.in-Some.peer.now, c.in-Some.field-0-1.now)) c.self.view_is c.in-Some.ensures.first,
)
