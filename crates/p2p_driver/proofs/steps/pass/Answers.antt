use Rattle.p2p_driver.proofs.Called.{passes}
use Rattle.p2p_driver.proofs.steps.pass.Goals as goal

pub returns : goal.returns
returns g c = passes g.C.Ord.cmp c.args.node.now _ _ c.args.now _ _
    c.forget_cooled-forgotten.ensures.stepped c.unblock_expired-any.ensures.stepped
