use Rattle.std.proofs.Common.{◌≤◌, ◌<◌, ◌-◌, ◌*◌, arith, subst, ◌∙◌, ap}
use Rattle.std.specs.Duration.{as_nanos}
use Rattle.std.specs.Int.NonZero.{non_zero_u32_get}
use Rattle.p2p_driver.proofs.Kept.{allowed, refused}
use Rattle.p2p_driver.proofs.rate.Bucket.next.Goals as goal

pub returns-clause-value : goal.returns-clause-value
returns-clause-value c = c.saturating_sub.ensures
    ∙ ap (λ n. c.self.inside.full_at - n) (ap (λ b. (b - 1) * c.as_nanos.result) c.get.ensures.value
    ∙ ap (λ a. (non_zero_u32_get c.args.rate.burst - 1) * a) c.as_nanos.ensures)
    ∙ ap (λ f. f - (non_zero_u32_get c.args.rate.burst - 1) * as_nanos c.args.rate.refill) c.self.view_is

pub returns-clause-allowed : goal.returns-clause-allowed
returns-clause-allowed c happened now kept late =
    allowed (non_zero_u32_get c.args.rate.burst) (as_nanos c.args.rate.refill)
    (grind (arith, c.get.ensures.value, c.get.ensures.nonzero)) happened _ now kept
    (subst (λ m. m ≤ now) (returns-clause-value c) late)

pub returns-clause-refused : goal.returns-clause-refused
returns-clause-refused c happened now kept early =
    refused (non_zero_u32_get c.args.rate.burst) (as_nanos c.args.rate.refill)
    (grind (arith, c.get.ensures.value, c.get.ensures.nonzero)) happened _ now kept
    (subst (λ m. now < m) (returns-clause-value c) early)
