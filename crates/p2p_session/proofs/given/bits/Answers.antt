use Rattle.std.proofs.Common.{inl, refl, subst, List, ℕ, ◌<◌, length}
use Rattle.p2p_session.proofs.Unread.{bits_grow}
use Rattle.p2p_session.proofs.given.bits.Goals as goal

pub returns-in-Err-Memory : goal.returns-in-Err-Memory
returns-in-Err-Memory c = inl (
  refl,
  subst (λ (l : List ℕ). 0 < length l) c.in_ok-bytes.ensures.ok
      (bits_grow _ _ (c.in-Err-Memory.ensures.exact.1 c.in-Err-Memory.field-0-is)),
)
