use Rattle.std.proofs.Common.{◌≡◌, ◌+◌, filter, not, length}
use Rattle.std.specs.Duration.{as_nanos}
use Rattle.std.specs.List.{count_by}
use Rattle.std.specs.List.Sorted.{IsStrictlySortedBy}
use Rattle.std.specs.Map.{keys_of}
use Rattle.p2p_tracker.specs.Blocks.{in_nanos, is_later}
use Rattle.p2p_tracker.specs.Private.Expirations.{AreExpirations}
use Rattle.p2p_tracker.proofs.kept.blocks.take_each.Given as goal

-- what is left of both are the same pairs, and those that went are counted
abbrev pub invariant-loop-end : goal.invariant-loop-end
invariant-loop-end g l = record {
  expirations : AreExpirations g.C.Ord.cmp l.expirations.keys (in_nanos l.moments.entries);
  sorted : IsStrictlySortedBy g.C.Ord.cmp (keys_of l.moments.entries);
  left : filter (is_later (as_nanos l.now)) (in_nanos l.moments.entries)
      ≡ filter (is_later (as_nanos l.now)) (in_nanos l.initial.moments.entries);
  count : l.count + count_by (λ e. not (is_later (as_nanos l.now) e)) (in_nanos l.moments.entries)
      ≡ count_by (λ e. not (is_later (as_nanos l.now) e)) (in_nanos l.initial.moments.entries);
}

abbrev pub decreases-loop-end : goal.decreases-loop-end
decreases-loop-end g l = length l.expirations.keys
