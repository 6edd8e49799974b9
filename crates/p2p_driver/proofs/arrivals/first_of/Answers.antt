use Rattle.std.proofs.Common.{◌∙◌, sym, ap, Some}
use Rattle.std.specs.Prelude.{option_map}
use Rattle.std.specs.Duration.{as_nanos}
use Rattle.p2p_driver.specs.Arrivals.{gives_way}
use Rattle.p2p_driver.proofs.Firsts.{found, passed}
use Rattle.p2p_driver.proofs.arrivals.first_of.Goals as goal

pub loop-arrival-preserved : goal.loop-arrival-preserved
loop-arrival-preserved g c =
    let p = gives_way (as_nanos c.args.grace) (as_nanos c.args.now) c.args.arrivals.now c.args.most c.args.all in
    c.loop-arrival.invariant ∙ passed p c.args.arrivals.now c.loop-arrival.arrival-index c.arrival-item.result
    c.loop-arrival-test.true (ap p (sym c.arrival-item.is) ∙ sym c.gives_way.ensures ∙ c.if-gives_way.false)

pub returns-then-gives_way : goal.returns-then-gives_way
returns-then-gives_way g c =
    let p = gives_way (as_nanos c.args.grace) (as_nanos c.args.now) c.args.arrivals.now c.args.most c.args.all in
    ap (λ a. option_map (λ a. a.number) a) (ap Some c.arrival-item.is ∙ sym (c.loop-arrival.invariant
    ∙ found p c.args.arrivals.now c.loop-arrival.arrival-index c.arrival-item.result
    c.loop-arrival-test.true (ap p (sym c.arrival-item.is) ∙ sym c.gives_way.ensures ∙ c.if-gives_way.true)))
