use Rattle.std.proofs.Common.{◌≡◌, ◌+◌, length, filter, ap, sym, ◌∙◌, arith}
use Rattle.std.specs.Duration.{as_nanos}
use Rattle.std.proofs.lemmas.List.Sums.{count_by-le-length, length-filter}
use Rattle.p2p_tracker.specs.Cooldowns.{cooldown_view, cooldowns_view, has_cooled}
use Rattle.p2p_tracker.specs.Private.Counts.{cleared_at}
use Rattle.p2p_tracker.specs.Seen.{record_at}
use Rattle.p2p_tracker.proofs.SetsAndRecords.Cooldowns.{counted_one}
use Rattle.p2p_tracker.proofs.SetsAndRecords.Cooled.{cleared_step}
use Rattle.p2p_tracker.proofs.directory.cooled.clear_each.Goals as goal

counted : (g : _) (c : goal.After-clear_one-count g) →
    c.loop-peer.count + c.clear_one-count.result
    + length (filter (has_cooled (as_nanos c.args.now)) (cooldowns_view c.next.new.self))
    ≡ length (filter (has_cooled (as_nanos c.args.now)) c.args.cooldowns.now)
counted g c =
    counted_one (as_nanos c.args.now) (c.in-Some.peer.now, cooldown_view c.in-Some.moments.now)
    (cooldowns_view c.next.new.self) c.loop-peer.count c.clear_one-count.result _ c.clear_one-count.ensures.count
    (sym (ap (λ es. c.loop-peer.count + length (filter (has_cooled (as_nanos c.args.now)) (cooldowns_view es)))
    c.in-Some.ensures.steps) ∙ c.loop-peer.invariant.count)

pub overflow_add-count : goal.overflow_add-count
overflow_add-count g c =
    let test = has_cooled {C = g.row.C.Denot} (as_nanos c.args.now) in
    let few = count_by-le-length test c.args.cooldowns.now in
    let same = length-filter test c.args.cooldowns.now in
    omega (arith, counted g c, few, same, c.len-most.ensures.count)

pub loop-peer-preserved : goal.loop-peer-preserved
loop-peer-preserved g c =
    let cmp = g.C.Ord.cmp in
    let now = as_nanos c.args.now in
    record {
      count = counted g c;
      records = λ q.
          ap (cleared_at cmp now (cooldowns_view c.next.new.self) q) (c.clear_one-count.ensures.records q)
          ∙ cleared_step cmp now (c.in-Some.peer.now, cooldown_view c.in-Some.moments.now)
          (cooldowns_view c.next.new.self) q (record_at cmp c.loop-peer.records q)
          ∙ ap (λ es. cleared_at cmp now (cooldowns_view es) q (record_at cmp c.loop-peer.records q))
          (sym c.in-Some.ensures.steps) ∙ c.loop-peer.invariant.records q;
    }
