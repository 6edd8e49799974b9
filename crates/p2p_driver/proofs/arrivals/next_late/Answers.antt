use Rattle.std.proofs.Common.{◌∙◌, ◌+◌, Some, sym, ap, subst}
use Rattle.std.specs.Duration.{as_nanos}
use Rattle.p2p_driver.specs.Arrivals.{lesser_of}
use Rattle.p2p_driver.proofs.Least.{IsLeast, least_next, least_of_all}
use Rattle.p2p_driver.proofs.arrivals.next_late.Goals as goal

pub loop-arrival-preserved : goal.loop-arrival-preserved
loop-arrival-preserved g c =
    let first = as_nanos c.args.first in
    let handshake = as_nanos c.args.handshake in
    subst (λ m. IsLeast first handshake c.args.arrivals.now (c.loop-arrival.arrival-index + 1) (Some m))
    (ap (λ d. lesser_of c.loop-arrival.next d) (sym c.deadline.ensures) ∙ sym c.lesser.ensures)
    (least_next first handshake c.args.arrivals.now c.loop-arrival.arrival-index c.loop-arrival.next
    c.arrival-item.result c.loop-arrival-test.true c.arrival-item.is c.loop-arrival.invariant)

pub returns : goal.returns
returns g c = least_of_all (as_nanos c.args.first) (as_nanos c.args.handshake) c.args.arrivals.now
    c.loop-arrival.arrival-index c.loop-arrival.next c.loop-arrival-test.false c.loop-arrival.invariant
    c.loop-arrival.auto.arrival-index-end
