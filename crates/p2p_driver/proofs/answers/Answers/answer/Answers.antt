use Rattle.std.proofs.Common.{◌∙◌, sym, ap, subst, map}
use Rattle.std.specs.Duration.{as_nanos}
use Rattle.std.specs.Int.NonZero.{non_zero_u32_get}
use Rattle.p2p_driver.specs.Rates.{IsKept}
use Rattle.p2p_driver.specs.Answers.{AreKept, kept_of, times_of}
use Rattle.p2p_driver.proofs.Answered.{kept_on, kept_more}
use Rattle.p2p_driver.proofs.answers.Answers.answer.Goals as goal

pub returns-then-not-take-clause-refused : goal.returns-then-not-take-clause-refused
returns-then-not-take-clause-refused c is claims kept =
    let now = as_nanos c.args.now in
    let inside = subst (AreKept c.args.pace.now now claims) (sym c.self.view_is) kept in (
      λ may. c.take.ensures.refused c.if-not-take.true (map (λ c. c.1) claims) inside.all may.all,
      kept_on c.args.pace.now now claims _ c.forget_full.new.buckets.items _ inside c.forget_full.ensures.kept,
    )

pub returns-then-not-take-2-clause-refused : goal.returns-then-not-take-2-clause-refused
returns-then-not-take-2-clause-refused c is claims kept =
    let now = as_nanos c.args.now in
    let inside = subst (AreKept c.args.pace.now now claims) (sym c.self.view_is) kept in
    let left = kept_on c.args.pace.now now claims _ c.forget_full.new.buckets.items _ inside
    c.forget_full.ensures.kept in
    let bucket = subst (λ b. IsKept (non_zero_u32_get c.args.pace.now.answers_of_address.burst)
    (as_nanos c.args.pace.now.answers_of_address.refill) now (times_of c.args.origin.0 claims) b)
    (sym (c.bucket_of-bucket.ensures
    ∙ ap (λ es. kept_of es c.args.origin.0) c.deref.ensures.value)) (left.each c.args.origin.0) in (
      λ may. c.take-2.ensures.refused c.if-not-take-2.true (times_of c.args.origin.0 claims) bucket
          may.of_origin,
      left,
    )

pub returns-clause-answered : goal.returns-clause-answered
returns-clause-answered c is claims kept =
    let now = as_nanos c.args.now in
    let inside = subst (AreKept c.args.pace.now now claims) (sym c.self.view_is) kept in
    let left = kept_on c.args.pace.now now claims _ c.forget_full.new.buckets.items 0 inside
    c.forget_full.ensures.kept in
    let bucket = subst (λ b. IsKept (non_zero_u32_get c.args.pace.now.answers_of_address.burst)
    (as_nanos c.args.pace.now.answers_of_address.refill) now (times_of c.args.origin.0 claims) b)
    (sym (c.bucket_of-bucket.ensures
    ∙ ap (λ es. kept_of es c.args.origin.0) c.deref.ensures.value)) (left.each c.args.origin.0) in
    let of_all = c.take.ensures.taken c.if-not-take.false (map (λ c. c.1) claims) inside.all in
    let of_origin = c.take-2.ensures.taken c.if-not-take-2.false (times_of c.args.origin.0 claims)
    bucket in (
      record { all = of_all.0; of_origin = of_origin.0 },
      kept_more c.args.pace.now now claims c.args.origin.0 _ _ c.forget_full.new.buckets.items
          c.put.new.buckets.items _ of_all.1 of_origin.1 left.each c.put.ensures.kept,
    )
