use Rattle.std.proofs.Common.{not, rules}
use Rattle.std.proofs.lemmas.Fn.{filter_same}
use Rattle.p2p_driver.specs.Arrivals.{has_number}
use Rattle.p2p_driver.proofs.arrivals.remove.Goals as goal

pub returns-clause-items : goal.returns-clause-items
returns-clause-items g c = filter_same _ (λ a. not (has_number c.args.number a)) _
    (λ e b f' k. search rules) _ _ c.retain.ensures.filtered
