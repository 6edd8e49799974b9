use Rattle.std.proofs.Common.{◌∷◌, arith}
use Rattle.std.proofs.lemmas.Bool.Decides.{nat_tests}
use Rattle.std.specs.Duration.{as_nanos}
use Rattle.p2p_driver.proofs.meters.may_twice.Goals as goal

pub returns-then-take : goal.returns-then-take
returns-then-take c le happened kept = c.next.ensures.allowed (as_nanos c.args.now ∷ happened) (as_nanos c.args.now)
    (c.take.ensures.taken c.if-take.true happened kept).1
    (let is = c.as_nanos.ensures in grind (arith, nat_tests))
