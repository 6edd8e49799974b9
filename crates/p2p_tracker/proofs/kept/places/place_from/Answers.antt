use Rattle.std.proofs.Common.{sym, ◌∙◌}
use Rattle.p2p_tracker.proofs.SetsAndRecords.Merged.{equal_behind, greater_behind, greater_met}
use Rattle.p2p_tracker.proofs.kept.places.place_from.Goals as goal

pub returns-in-Equal-clause-rest : goal.returns-in-Equal-clause-rest
returns-in-Equal-clause-rest g c =
    equal_behind g.met.C.Ord.total c.args.key.now c.args.latest.now c.loop-at.at c.index-latest-at.result
    c.loop-at-test.true c.index-latest-at.is c.requires (sym c.cmp.ensures ∙ c.in-Equal.is)
    ∙ c.loop-at.invariant.rest

pub returns-in-Greater-clause-rest : goal.returns-in-Greater-clause-rest
returns-in-Greater-clause-rest g c =
    greater_behind g.met.C.Ord.total c.args.key.now c.args.latest.now c.loop-at.at c.index-latest-at.result
    c.loop-at-test.true c.index-latest-at.is c.requires (sym c.cmp.ensures ∙ c.in-Greater.is)
    ∙ c.loop-at.invariant.rest

pub returns-in-Greater-clause-met : goal.returns-in-Greater-clause-met
returns-in-Greater-clause-met g c =
    greater_met g.met.C.Ord.total c.args.key.now c.args.latest.now c.loop-at.at c.index-latest-at.result
    c.loop-at-test.true c.index-latest-at.is c.requires (sym c.cmp.ensures ∙ c.in-Greater.is)
    ∙ c.loop-at.invariant.met
