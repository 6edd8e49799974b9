use Rattle.std.proofs.Common.{◌≡◌, ◌≤◌, ◌+◌, ◌-◌, ◌*◌, ◌∷◌, ◌^◌, max, arith, subst}
use Rattle.std.specs.Duration.{as_nanos}
use Rattle.std.specs.Int.NonZero.{non_zero_u32_get}
use Rattle.std.proofs.lemmas.Nat.{mul-le}
use Rattle.p2p_driver.specs.Rates.{IsKept}
use Rattle.p2p_driver.proofs.Kept.{kept_with}
use Rattle.p2p_driver.proofs.rate.Bucket.take.Goals as goal

pub returns-clause-taken : goal.returns-clause-taken
returns-clause-taken c is happened kept =
    let burst = non_zero_u32_get c.args.rate.burst in
    let refill = as_nanos c.args.rate.refill in
    let late = subst (λ m. c.next.result ≤ m) c.as_nanos.ensures c.if-as_nanos-next.false in
    let full : max c.args.self.now (as_nanos c.args.now) + refill
    ≡ c.max-from.result + c.as_nanos-3.result
    = omega (arith, c.max-from.ensures, c.as_nanos-2.ensures, c.as_nanos-3.ensures) in (
      c.next.ensures.allowed happened (as_nanos c.args.now) kept late,
      subst (IsKept burst refill (as_nanos c.args.now) (as_nanos c.args.now ∷ happened)) full
          (kept_with burst refill (grind (arith, c.args.rate.burst.ok)) happened c.args.self.now (as_nanos c.args.now) kept),
    )

pub invariant_of-self : goal.invariant_of-self
invariant_of-self c =
    let refill = as_nanos c.args.rate.refill in
    let burst = non_zero_u32_get c.args.rate.burst in
    let short : refill ≤ 2 ^ 94 = omega (arith, c.well_formed) in
    let few : burst - 1 ≤ 2 ^ 32 = omega (arith, c.well_formed) in
    let slack : (burst - 1) * refill ≤ 2 ^ 32 * 2 ^ 94 = mul-le (burst - 1) refill _ _ few short in
    let early : as_nanos c.args.now ≤ 2 ^ 94 = omega (arith, c.well_formed) in
    omega (
      arith,
      c.next.ensures.value,
      c.if-as_nanos-next.false,
      c.as_nanos.ensures,
      c.max-from.ensures,
      c.as_nanos-2.ensures,
      c.as_nanos-3.ensures,
      c.self.view_is,
      short,
      slack,
      early,
    )
