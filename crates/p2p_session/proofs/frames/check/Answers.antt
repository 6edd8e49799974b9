use Rattle.std.proofs.Common.{inl, refl, subst, List, ℕ, ◌<◌, length}
use Rattle.p2p_session.proofs.Unread.{payload_grows}
use Rattle.p2p_session.proofs.frames.check.Goals as goal

pub returns-in-Err-Memory : goal.returns-in-Err-Memory
returns-in-Err-Memory g c = rw (← c.moment.ensures, c.in-Ok.is) (inl (
  subst (λ (l : List ℕ). 0 < length l) c.in-Ok-copied.ensures.ok
      (payload_grows _ _ _ _ _ _ (c.in-Err-Memory.ensures.exact.1 c.in-Err-Memory.field-0-is)),
  (c.number-in-Err-Memory.ensures, refl),
))
