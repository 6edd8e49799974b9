use Rattle.std.proofs.Common.{map, arith}
use Rattle.std.specs.Duration.{as_nanos}
use Rattle.std.specs.Int.NonZero.{non_zero_u32_get}
use Rattle.p2p_driver.specs.Answers.{times_of}
use Rattle.p2p_driver.specs.Happenings.{answered_in}
use Rattle.p2p_driver.proofs.Kept.{at_most}
use Rattle.p2p_driver.proofs.Answered.{allowed_all, allowed_of}
use Rattle.p2p_driver.proofs.Claims.{are_answered}
use Rattle.p2p_driver.proofs.laws.claims_in_time.Goals as goal

pub returns-clause-all : goal.returns-clause-all
returns-clause-all g c b h right from size = at_most from size
    (non_zero_u32_get b.pace.answers.burst) (as_nanos b.pace.answers.refill)
    (omega (arith, b.pace.answers.burst.ok)) (map (λ c. c.1) (answered_in h))
    (allowed_all b.pace (answered_in h) (are_answered b h right))

pub returns-clause-of_origin : goal.returns-clause-of_origin
returns-clause-of_origin g c b h right o from size = at_most from size
    (non_zero_u32_get b.pace.answers_of_address.burst) (as_nanos b.pace.answers_of_address.refill)
    (omega (arith, b.pace.answers_of_address.burst.ok)) (times_of o (answered_in h))
    (allowed_of b.pace o (answered_in h) (are_answered b h right))
