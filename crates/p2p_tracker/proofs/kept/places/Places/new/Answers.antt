use Rattle.std.proofs.Common.{sym, subst}
use Rattle.std.specs.List.Sorted.{IsStrictlySortedBy}
use Rattle.std.specs.Map.{keys_of}
use Rattle.p2p_discovery.proofs.Sorting.{sorted_nil}
use Rattle.p2p_tracker.proofs.kept.places.Places.new.Goals as goal

pub invariant_of-result : goal.invariant_of-result
invariant_of-result g c =
    subst (λ es. IsStrictlySortedBy g.C.Ord.cmp (keys_of es)) (sym c.new.ensures.items) (sorted_nil g.C.Ord.cmp)
