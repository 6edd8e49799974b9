use Rattle.std.proofs.Common.{◌≡◌, ◌+◌, filter, length}
use Rattle.std.specs.Duration.{as_nanos}
use Rattle.p2p_tracker.specs.Cooldowns.{cooldowns_view, has_cooled}
use Rattle.p2p_tracker.specs.Private.Counts.{cleared_at}
use Rattle.p2p_tracker.specs.Seen.{record_at}
use Rattle.p2p_tracker.proofs.directory.cooled.clear_each.Given as goal

-- with those that are left, all are counted and cleared
abbrev pub invariant-loop-peer : goal.invariant-loop-peer
invariant-loop-peer g l = record {
  count : l.count + length (filter (has_cooled (as_nanos l.now)) (cooldowns_view l.peer-iterator))
      ≡ length (filter (has_cooled (as_nanos l.now)) l.cooldowns);
  records : (q : g.row.C.Denot) →
      cleared_at g.C.Ord.cmp (as_nanos l.now) (cooldowns_view l.peer-iterator) q (record_at g.C.Ord.cmp l.records q)
      ≡ cleared_at g.C.Ord.cmp (as_nanos l.now) l.cooldowns q (record_at g.C.Ord.cmp l.initial.records q);
}
