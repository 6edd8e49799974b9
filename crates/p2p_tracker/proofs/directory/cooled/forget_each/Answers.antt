use Rattle.std.proofs.Common.{◌≡◌, None, ap, sym, ◌∙◌}
use Rattle.std.specs.Duration.{as_nanos}
use Rattle.std.specs.Option.{option_map}
use Rattle.p2p_tracker.specs.Cooldowns.{cooldown_in, unless_cooled}
use Rattle.p2p_tracker.specs.Private.Counts.{changed_if}
use Rattle.p2p_tracker.specs.Record.{with_cooldown}
use Rattle.p2p_tracker.specs.Seen.{record_at}
use Rattle.p2p_tracker.proofs.SetsAndRecords.Cooldowns.{none_cooled, left_cooldowns, cooled_keys}
use Rattle.p2p_tracker.proofs.SetsAndRecords.Cooled.{cleared_left}
use Rattle.p2p_tracker.proofs.directory.cooled.forget_each.Goals as goal

pub returns-then-not-may_have_cooled-clause-cooldowns : goal.returns-then-not-may_have_cooled-clause-cooldowns
returns-then-not-may_have_cooled-clause-cooldowns g c = λ q.
    let now = as_nanos c.args.now in
    let cs = c.args.cooldowns.now in
    sym (ap (λ ds. cooldown_in g.C.Ord.cmp ds q) (none_cooled now cs (c.may_have_cooled.ensures c.if-not-may_have_cooled.true)))
    ∙ left_cooldowns now g.met.C.Ord.total cs c.len-most.ensures.sorted q

left : (g : _) (c : goal.After-drop_cooled g) (q : g.row.C.Denot) →
    cooldown_in g.C.Ord.cmp c.drop_cooled.new.self q
    ≡ unless_cooled (as_nanos c.args.now) (cooldown_in g.C.Ord.cmp c.args.cooldowns.now q)
left g c q = ap (λ ds. cooldown_in g.C.Ord.cmp ds q) c.drop_cooled.ensures
    ∙ left_cooldowns (as_nanos c.args.now) g.met.C.Ord.total c.args.cooldowns.now c.len-most.ensures.sorted q

pub returns-clause-cooldowns : goal.returns-clause-cooldowns
returns-clause-cooldowns g c = left g c

pub returns-clause-records : goal.returns-clause-records
returns-clause-records g c = λ q.
    let cmp = g.C.Ord.cmp in
    let now = as_nanos c.args.now in
    let cs = c.args.cooldowns.now in
    let old = record_at cmp c.args.records.now q in
    c.clear_each-count.ensures.records q
    ∙ ap (λ b. changed_if cmp b (option_map (with_cooldown None)) old)
    ((cooled_keys now g.met.C.Ord.total cs c.len-most.ensures.sorted).members q)
    ∙ cleared_left cmp now (cooldown_in cmp cs q) old (c.requires q)
    ∙ ap (λ k. option_map (with_cooldown k) old) (sym (left g c q))
