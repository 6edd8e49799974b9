use Rattle.std.proofs.Common.{arith, sym, subst}
use Rattle.p2p_driver.specs.Answers.{IsKeptAt}
use Rattle.p2p_driver.proofs.meters.take.Goals as goal

pub returns-then-take-clause-read : goal.returns-then-take-clause-read
returns-then-take-clause-read c is happened kept =
    c.take.ensures.taken c.if-take.true happened kept

pub returns-clause-early : goal.returns-clause-early
returns-clause-early c =
    let same = sym (c.take.ensures.unchanged c.if-take.false) in record {
      refused = λ happened kept. c.take.ensures.refused c.if-take.false happened kept;
      before = λ happened moment kept early. c.next.ensures.refused happened moment
          (subst (IsKeptAt c.args.rate moment happened) same kept)
          (omega (arith, c.saturated.ensures, early));
      from = λ happened moment kept less late. c.next.ensures.allowed happened moment
          (subst (IsKeptAt c.args.rate moment happened) same kept)
          (omega (arith, c.saturated.ensures, less, late));
    }
