use Rattle.std.proofs.Common.{◌≡◌, ◌+◌, ◌-◌, ◌≤◌, length, drop}
use Rattle.p2p_discovery.proofs.Unions.{common}
use Rattle.p2p_discovery.proofs.sizing.union_size.Given as goal

-- the members that both lists have are those that were met and those that both still have
abbrev pub invariant-loop-i : goal.invariant-loop-i
invariant-loop-i g l = record {
  within : l.i ≤ length l.primary;
  within_too : l.j ≤ length l.secondary;
  fits : l.both ≤ l.i;
  met : l.both + common g.P.Ord.cmp (drop l.i l.primary) (drop l.j l.secondary) ≡ common g.P.Ord.cmp l.primary l.secondary;
}

abbrev pub decreases-loop-i : goal.decreases-loop-i
decreases-loop-i g l = (length l.primary - l.i) + (length l.secondary - l.j)
