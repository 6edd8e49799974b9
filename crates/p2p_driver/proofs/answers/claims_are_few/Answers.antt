use Rattle.std.proofs.Common.{map, arith}
use Rattle.std.specs.Duration.{as_nanos}
use Rattle.std.specs.Int.NonZero.{non_zero_u32_get}
use Rattle.p2p_driver.specs.Answers.{times_of}
use Rattle.p2p_driver.proofs.Kept.{at_most}
use Rattle.p2p_driver.proofs.Answered.{allowed_all, allowed_of}
use Rattle.p2p_driver.proofs.answers.claims_are_few.Goals as goal

pub returns-clause-all : goal.returns-clause-all
returns-clause-all c pace claims answered from size = at_most from size
    (non_zero_u32_get pace.answers.burst) (as_nanos pace.answers.refill)
    (omega (arith, pace.answers.burst.ok)) (map (λ c. c.1) claims) (allowed_all pace claims answered)

pub returns-clause-of_origin : goal.returns-clause-of_origin
returns-clause-of_origin c pace claims answered o from size = at_most from size
    (non_zero_u32_get pace.answers_of_address.burst) (as_nanos pace.answers_of_address.refill)
    (omega (arith, pace.answers_of_address.burst.ok)) (times_of o claims) (allowed_of pace o claims answered)
