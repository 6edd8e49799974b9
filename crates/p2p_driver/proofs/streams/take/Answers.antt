use Rattle.std.proofs.Common.{rules, arith}
use Rattle.std.specs.Duration.{as_nanos}
use Rattle.p2p_driver.specs.Arrivals.{arrival_of}
use Rattle.p2p_driver.proofs.Fewer.{crowds_claims, crowds_room, found_at}
use Rattle.p2p_driver.proofs.Fairness.{spared}
use Rattle.p2p_driver.proofs.streams.take.Goals as goal

pub settle-requires : goal.settle-requires
settle-requires g c = crowds_claims c.in-Ok-Of.crowded c.args.arrivals.now
    (arrival_of c.args.number c.args.origin c.args.now) c.arrive.new.self _ c.args.answers.now.room _
    (search rules) c.unclaimed.ensures (search rules) c.requires.answers_fit

pub returns-in-Ok-Of-clause-actions_room : goal.returns-in-Ok-Of-clause-actions_room
returns-in-Ok-Of-clause-actions_room g c =
    let gives = spared c.args.pace.now (as_nanos c.args.now) c.args.arrivals.now c.args.origin c.in-Ok-Of.crowded (search rules) in
    crowds_room c.in-Ok-Of.crowded c.args.arrivals.now
    (arrival_of c.args.number c.args.origin c.args.now) c.arrive.new.self c.args.actions.now.room _
    (search rules) (found_at c.in-Ok-Of.crowded c.args.arrivals.now gives.0 gives.1 gives.2 gives.3)
    (grind (arith))
