use Rattle.p2p_tracker.proofs.SetsAndRecords.Indexed.{none_indexed}
use Rattle.p2p_tracker.proofs.kept.window.Window.new.Goals as goal

pub invariant_of-result : goal.invariant_of-result
invariant_of-result g c = none_indexed g.C.Ord.cmp c.new-3.result c.new-2.result.items c.new.result.items
    c.new-3.ensures c.new-2.ensures.items c.new.ensures.items
