use Rattle.std.proofs.Common.{◌≡◌}
use Rattle.std.specs.declared.cmp.Ordering.TheVariants.{Less}
use Rattle.std.specs.List.{AllAdjacentBelow}
use Rattle.p2p_discovery.proofs.sets.OrderedSet.try_from.Given as goal

-- up to k each key is below the next
abbrev pub invariant-loop-k : goal.invariant-loop-k
invariant-loop-k g l = AllAdjacentBelow (λ x y. g.P.Ord.cmp x y ≡ Less) l.items.items l.k
