use Rattle.std.proofs.Common.{◌∙◌, sym, ap}
use Rattle.std.specs.Prelude.{unwrap_or}
use Rattle.p2p_driver.proofs.Answered.{found_lookup}
use Rattle.p2p_driver.proofs.answers.bucket_of.Goals as goal

pub returns-in-None : goal.returns-in-None
returns-in-None c = c.new.ensures.full
    ∙ ap (λ o. unwrap_or o 0) (sym c.in-None.is ∙ c.found.ensures
    ∙ found_lookup c.args.origin.0 c.args.buckets.now)

pub returns-in-Some : goal.returns-in-Some
returns-in-Some c = ap (λ o. unwrap_or o 0) (sym c.in-Some.is ∙ c.found.ensures
    ∙ found_lookup c.args.origin.0 c.args.buckets.now)
