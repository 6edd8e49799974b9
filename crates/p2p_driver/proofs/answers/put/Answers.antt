use Rattle.std.proofs.Common.{◌++◌, ◌∷◌, [], ◌∙◌, sym, ap, subst}
use Rattle.p2p_driver.specs.Answers.{kept_of, AreDistinct}
use Rattle.p2p_driver.proofs.Answered.{kept_put, distinct_put}
use Rattle.p2p_driver.proofs.answers.put.Goals as goal

pub returns-clause-kept : goal.returns-clause-kept
returns-clause-kept c o = ap (λ es. kept_of es o) (c.push_reserved.ensures.items
    ∙ ap (λ es. es ++ (c.args.origin.0, c.args.bucket) ∷ []) c.forget.ensures.items)
    ∙ kept_put c.args.origin.0 c.args.bucket c.args.buckets.now.items o

pub returns-clause-distinct : goal.returns-clause-distinct
returns-clause-distinct c = subst AreDistinct (sym (c.push_reserved.ensures.items
    ∙ ap (λ es. es ++ (c.args.origin.0, c.args.bucket) ∷ []) c.forget.ensures.items))
    (distinct_put c.args.origin.0 c.args.bucket c.args.buckets.now.items c.requires.distinct)
