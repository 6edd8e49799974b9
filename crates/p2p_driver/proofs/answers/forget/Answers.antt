use Rattle.std.proofs.Common.{not, rules}
use Rattle.std.proofs.lemmas.Fn.{filter_same}
use Rattle.p2p_driver.specs.Answers.{is_origin}
use Rattle.p2p_driver.proofs.answers.forget.Goals as goal

pub returns-clause-items : goal.returns-clause-items
returns-clause-items c = filter_same _ (λ e. not (is_origin c.args.origin.0 e.0)) _
    (λ e b f' k. search rules) _ _ c.retain.ensures.filtered
