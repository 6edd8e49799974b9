use Rattle.std.proofs.Common.{sym, subst}
use Rattle.std.specs.List.{IsDistinct}
use Rattle.std.specs.Ordering.{eq_by_cmp}
use Rattle.p2p_tracker.proofs.SetsAndRecords.Naming.{none_distinct}
use Rattle.p2p_tracker.proofs.directory.track.drop_oldest.Goals as goal

pub ordered-requires : goal.ordered-requires
ordered-requires g c = subst (IsDistinct (eq_by_cmp g.C.Ord.cmp)) (sym c.requires.empty) (none_distinct (eq_by_cmp g.C.Ord.cmp))
