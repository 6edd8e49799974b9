use Rattle.std.proofs.Common.{arith, ◌≤◌}
use Rattle.std.specs.Duration.{as_nanos}
use Rattle.std.proofs.lemmas.Bool.Decides.{nat_tests}
use Rattle.p2p_driver.proofs.Kept.{forgotten}
use Rattle.p2p_driver.proofs.rate.Bucket.is_full.Goals as goal

pub returns-clause-kept : goal.returns-clause-kept
returns-clause-kept c is burst refill happened kept =
    let over : c.args.self.now ≤ as_nanos c.args.now = grind (arith, nat_tests) in
    forgotten burst refill happened c.args.self.now (as_nanos c.args.now) kept over
