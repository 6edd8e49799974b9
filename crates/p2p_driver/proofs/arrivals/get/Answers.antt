use Rattle.std.proofs.Common.{◌≡◌, ◌==◌, ◌∙◌, sym, ap, Some, true, false, arith}
use Rattle.std.proofs.lemmas.Bool.Decides.{nat_tests}
use Rattle.p2p_driver.specs.Arrivals.{has_number}
use Rattle.p2p_driver.proofs.Firsts.{found, passed}
use Rattle.p2p_driver.proofs.arrivals.get.Goals as goal

pub loop-stream-preserved : goal.loop-stream-preserved
loop-stream-preserved g c =
    let other : (c.stream-item.result.number == c.args.number) ≡ false
    = grind (arith, nat_tests, c.if-stream-number.false) in
    c.loop-stream.invariant
    ∙ passed (has_number c.args.number) c.args.streams.now c.loop-stream.stream-index c.stream-item.result
    c.loop-stream-test.true (ap (has_number c.args.number) (sym c.stream-item.is) ∙ other)

pub returns-then-stream-number : goal.returns-then-stream-number
returns-then-stream-number g c =
    let it : (c.stream-item.result.number == c.args.number) ≡ true
    = grind (arith, nat_tests, c.if-stream-number.true) in
    ap Some c.stream-item.is ∙ sym (c.loop-stream.invariant
    ∙ found (has_number c.args.number) c.args.streams.now c.loop-stream.stream-index c.stream-item.result
    c.loop-stream-test.true (ap (has_number c.args.number) (sym c.stream-item.is) ∙ it))
