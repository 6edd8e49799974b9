use Rattle.std.proofs.Common.{◌≡◌, ap, sym, ◌∙◌, filter, not, refl, suc}
use Rattle.std.specs.BTreeMap.{is_at}
use Rattle.std.specs.Duration.{as_nanos}
use Rattle.std.specs.List.{count_by}
use Rattle.std.specs.Map.{remove_entry}
use Rattle.p2p_tracker.specs.Blocks.{in_nanos, is_later}
use Rattle.p2p_tracker.proofs.SetsAndRecords.Blocks.{sorted-in_nanos}
use Rattle.p2p_tracker.proofs.SetsAndRecords.Expirations.{end_is, end_of, ends_taken, unblock_gone}
use Rattle.p2p_tracker.proofs.SetsAndRecords.Expirations.{removed-in_nanos, left_removed, count_removed}
use Rattle.p2p_tracker.proofs.SetsAndRecords.Expirations.{count_step, count_last, all_left, none_left}
use Rattle.p2p_tracker.proofs.kept.blocks.take_each.Goals as goal

pub loop-end-preserved : goal.loop-end-preserved
loop-end-preserved g c =
    let cmp = g.C.Ord.cmp in
    let es = c.loop-end.moments.entries in
    let new = c.remove.new.self.entries in
    let now = as_nanos c.args.now in
    let key = c.in-Some.end.1 in
    let m = c.in-Some.end.0 in
    let found = end_is g.met.C.PublicKey.exact c.loop-end.expirations.keys (in_nanos es) (
      m,
      key,
    ) c.loop-end.invariant.expirations c.in-Some.ensures.some.1 in
    let entries : in_nanos new ≡ remove_entry (is_at (cmp key)) (in_nanos es) = ap in_nanos c.remove.ensures.entries
    ∙ removed-in_nanos (is_at (cmp key)) es in
    record {
      expirations = ends_taken g.met.C.PublicKey.exact c.loop-end.expirations.keys c.take_ended.new.expirations.keys (in_nanos es)
          (in_nanos new) key m c.loop-end.invariant.expirations c.in-Some.ensures.some.2
          (unblock_gone cmp es new key c.remove.ensures.updates.0) c.in-Some.ensures.some.1;
      sorted = c.remove.ensures.ordered;
      left = ap (filter (is_later now)) entries
          ∙ left_removed now (is_at (cmp key)) (in_nanos es) m found c.in-Some.ensures.some.0
          ∙ c.loop-end.invariant.left;
      count = count_step _ _ _ _ (ap (λ bs. suc (count_by (λ e. not (is_later now e)) bs)) entries
          ∙ count_removed now (is_at (cmp key)) (in_nanos es) m found c.in-Some.ensures.some.0)
          c.loop-end.invariant.count;
    }

pub returns-clause-left : goal.returns-clause-left
returns-clause-left g c =
    let es = c.loop-end.moments.entries in
    sym (all_left (as_nanos c.args.now) g.met.C.Ord.total (in_nanos es)
    (sorted-in_nanos g.C.Ord.cmp es (in_nanos es) refl c.loop-end.invariant.sorted)
    (λ q n found. c.in_default.ensures.none (
      n,
      q,
    ) (end_of g.met.C.PublicKey.exact c.loop-end.expirations.keys (in_nanos es) q n c.loop-end.invariant.expirations found)))
    ∙ c.loop-end.invariant.left

pub returns-clause-count : goal.returns-clause-count
returns-clause-count g c =
    let es = c.loop-end.moments.entries in
    count_last _ _ _ (none_left (as_nanos c.args.now) g.met.C.Ord.total (in_nanos es)
    (sorted-in_nanos g.C.Ord.cmp es (in_nanos es) refl c.loop-end.invariant.sorted)
    (λ q n found. c.in_default.ensures.none (
      n,
      q,
    ) (end_of g.met.C.PublicKey.exact c.loop-end.expirations.keys (in_nanos es) q n c.loop-end.invariant.expirations found)))
    c.loop-end.invariant.count
