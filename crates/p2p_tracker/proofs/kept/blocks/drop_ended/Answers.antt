use Rattle.std.proofs.Common.{◌≡◌, ◌<◌, ℕ, Some, refl, sym, ◌∙◌}
use Rattle.std.specs.Duration.{as_nanos}
use Rattle.p2p_tracker.specs.Blocks.{in_nanos, unblock_in}
use Rattle.p2p_tracker.specs.Private.Expirations.{end_in_nanos}
use Rattle.p2p_tracker.proofs.SetsAndRecords.Blocks.{sorted-in_nanos}
use Rattle.p2p_tracker.proofs.SetsAndRecords.Expirations.{none_ended, all_left, none_left}
use Rattle.p2p_tracker.proofs.kept.blocks.drop_ended.Goals as goal

-- where none ends, each is later
later : (g : _) (c : goal.Then-not-has_ended g) (q : g.row.C.Denot) (n : ℕ) →
    unblock_in g.C.Ord.cmp (in_nanos c.args.moments.now.entries) q ≡ Some n → as_nanos c.args.now < n
later g c = none_ended g.C.Ord.cmp (unblock_in g.C.Ord.cmp (in_nanos c.args.moments.now.entries))
    (end_in_nanos c.args.first.now) (as_nanos c.args.now) c.requires.front
    (sym c.has_ended.ensures ∙ c.if-not-has_ended.true)

pub returns-then-not-has_ended-clause-left : goal.returns-then-not-has_ended-clause-left
returns-then-not-has_ended-clause-left g c =
    let es = c.args.moments.now.entries in
    sym (all_left (as_nanos c.args.now) g.met.C.Ord.total (in_nanos es)
    (sorted-in_nanos g.C.Ord.cmp es (in_nanos es) refl c.len-most.ensures.ordered) (later g c))

pub returns-then-not-has_ended-clause-count : goal.returns-then-not-has_ended-clause-count
returns-then-not-has_ended-clause-count g c =
    let es = c.args.moments.now.entries in
    sym (none_left (as_nanos c.args.now) g.met.C.Ord.total (in_nanos es)
    (sorted-in_nanos g.C.Ord.cmp es (in_nanos es) refl c.len-most.ensures.ordered) (later g c))
