use Rattle.std.proofs.Common.{◌∙◌, ◌++◌, ◌∷◌, [], not, sym, ap}
use Rattle.std.specs.List.{filter}
use Rattle.p2p_driver.specs.Arrivals.{arrival_of, arrived, has_number}
use Rattle.p2p_driver.proofs.arrivals.Arrivals.arrive.Goals as goal

pub returns-in-None-clause-taken : goal.returns-in-None-clause-taken
returns-in-None-clause-taken g c =
    sym (ap (λ r. arrived (arrival_of c.args.number c.args.origin c.args.now) r c.args.self.now) c.in-None.is)

pub returns-in_ok-push-in-Free-clause-taken : goal.returns-in_ok-push-in-Free-clause-taken
returns-in_ok-push-in-Free-clause-taken g c =
    let new = arrival_of c.args.number c.args.origin c.args.now in
    c.in_ok-push-in-Free.ensures.items ∙ ap (λ n. c.self.inside.streams.items ++ n ∷ []) c.new.ensures
    ∙ ap (λ xs. xs ++ new ∷ []) c.self.view_is
    ∙ sym (ap (λ r. arrived new r c.args.self.now) c.in-Free.is)

pub returns-in_ok-reserve-in-Of-clause-taken : goal.returns-in_ok-reserve-in-Of-clause-taken
returns-in_ok-reserve-in-Of-clause-taken g c =
    let new = arrival_of c.args.number c.args.origin c.args.now in
    c.push_reserved.ensures.items ∙ ap (λ n. c.remove.new.streams.items ++ n ∷ []) c.new-in-Of.ensures
    ∙ ap (λ xs. xs ++ new ∷ []) (c.remove.ensures.items ∙ ap (filter (λ a. not (has_number c.in-Of.crowded a)))
    (c.in_ok-reserve-in-Of.ensures.items ∙ c.self.view_is))
