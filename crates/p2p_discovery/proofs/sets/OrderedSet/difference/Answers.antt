use Rattle.std.proofs.Common.{not}
use Rattle.std.proofs.lemmas.List.Kept.{IsStrictlySortedBy-filter}
use Rattle.p2p_discovery.specs.Ordered.{has_key}
use Rattle.p2p_discovery.proofs.sets.OrderedSet.difference.Goals as goal

-- the peers that are left stay in ascending order
pub invariant_of-result : goal.invariant_of-result
invariant_of-result g c =
    rw (c.in_ok-items.ensures, c.deref.ensures.value)
    (IsStrictlySortedBy-filter g.P.Ord.cmp (λ q. not (has_key g.P.Ord.cmp c.args.other.now q)) _
    c.self.invariant)
