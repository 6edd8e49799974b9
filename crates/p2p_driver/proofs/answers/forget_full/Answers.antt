use Rattle.std.proofs.Common.{not, nat_le, rules, ap, sym, ◌∙◌, subst}
use Rattle.std.specs.Duration.{as_nanos}
use Rattle.std.proofs.lemmas.Fn.{filter_same}
use Rattle.p2p_driver.specs.Answers.{kept_of, AreDistinct}
use Rattle.p2p_driver.proofs.Answered.{kept_filtered, distinct_filtered}
use Rattle.p2p_driver.proofs.answers.forget_full.Goals as goal

pub returns-clause-kept : goal.returns-clause-kept
returns-clause-kept c o = ap (λ es. kept_of es o) (filter_same _
    (λ e. not (nat_le e.1 (as_nanos c.args.now))) _ (λ e b f' k. search rules) _ _
    c.retain.ensures.filtered)
    ∙ kept_filtered (as_nanos c.args.now) c.args.buckets.now.items c.requires o

pub returns-clause-distinct : goal.returns-clause-distinct
returns-clause-distinct c = subst AreDistinct (sym (filter_same _
    (λ e. not (nat_le e.1 (as_nanos c.args.now))) _ (λ e b f' k. search rules) _ _
    c.retain.ensures.filtered))
    (distinct_filtered (λ e. not (nat_le e.1 (as_nanos c.args.now))) c.args.buckets.now.items c.requires)
