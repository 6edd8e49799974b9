use Rattle.std.proofs.Common.{subst}
use Rattle.std.specs.List.Sorted.{IsStrictlySortedBy}
use Rattle.p2p_discovery.proofs.Sorting.{nowhere}
use Rattle.p2p_discovery.proofs.sets.OrderedSet.position.Goals as goal

pub returns-in-Err : goal.returns-in-Err
returns-in-Err g c =
    let up = subst (IsStrictlySortedBy g.P.Ord.cmp) c.self.view_is c.self.invariant in
    record {
      found = tt;
      sorted = up;
      absent =
          nowhere g.met.P.Ord.total c.args.self.now c.args.key.now _ up
          (rw (c.deref.ensures.value, c.self.view_is) at c.in-Err.ensures.position);
    }
