use Rattle.std.proofs.Common.{[], sym, subst, arith}
use Rattle.std.specs.Duration.{as_nanos}
use Rattle.std.specs.Int.NonZero.{non_zero_u32_get}
use Rattle.p2p_driver.specs.Rates.{IsKept}
use Rattle.p2p_driver.specs.Answers.{kept_of, AreDistinct}
use Rattle.p2p_driver.proofs.Answered.{none_kept, none_distinct}
use Rattle.p2p_driver.proofs.answers.Answers.new.Goals as goal

pub returns-clause-kept : goal.returns-clause-kept
returns-clause-kept c pace now = record {
  all = c.new.ensures.kept _ _ now;
  each = λ o. subst (λ es. IsKept (non_zero_u32_get pace.answers_of_address.burst)
      (as_nanos pace.answers_of_address.refill) now [] (kept_of es o)) (sym c.new-2.ensures.items)
      (none_kept _ _ now);
}

pub invariant_of-result : goal.invariant_of-result
invariant_of-result c = (
  subst AreDistinct (sym c.new-2.ensures.items) none_distinct,
  omega (arith, c.new-2.ensures.len),
)
