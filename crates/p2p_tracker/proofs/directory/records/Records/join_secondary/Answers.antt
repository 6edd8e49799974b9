use Rattle.std.proofs.Common.{take, ◌∙◌, ap}
use Rattle.p2p_tracker.specs.declared.record.Role.TheVariants.{Secondary}
use Rattle.p2p_tracker.specs.Private.Counts.{one_set_more, one_set_less}
use Rattle.p2p_discovery.specs.Ordered.{has_key}
use Rattle.p2p_tracker.specs.Seen.{record_at}
use Rattle.p2p_tracker.specs.Cooldowns.{cooldown_in}
use Rattle.p2p_tracker.proofs.SetsAndRecords.Naming.{one_changed, changed_here, sorted_take, of_front, undone}
use Rattle.p2p_tracker.proofs.directory.records.Records.join_secondary.Goals as goal

pub undo_each-requires : goal.undo_each-requires
undo_each-requires g c = sorted_take g.C.Ord.cmp c.loop-place.place c.args.peers.now c.requires

pub returns-in-Err-clause-err : goal.returns-in-Err-clause-err
returns-in-Err-clause-err g c = λ q back.
    let cmp = g.C.Ord.cmp in
    let so_far = has_key cmp (take c.loop-place.place c.args.peers.now) q in
    undone so_far (one_set_more Secondary (cooldown_in cmp c.args.cooldowns.now q)) (one_set_less Secondary)
    (record_at cmp c.undo_each.new.self q) (record_at cmp c.join_one.new.self q)
    (record_at cmp c.args.self.now q)
    (λ h. back (of_front cmp c.args.peers.now c.loop-place.place q h)) (c.undo_each.ensures q)
    (ap (λ rs. record_at cmp rs q) c.in-Err.ensures.err ∙ c.loop-place.invariant q)

pub loop-place-preserved : goal.loop-place-preserved
loop-place-preserved g c = λ q.
    one_changed g.met.C.Ord.total g.met.C.PublicKey.exact c.args.peers.now c.loop-place.place
    c.index-peers-place.result c.loop-place-test.true c.index-peers-place.is c.requires
    (one_set_more Secondary (cooldown_in g.C.Ord.cmp c.args.cooldowns.now q)) q
    (record_at g.C.Ord.cmp c.join_one.new.self q) (record_at g.C.Ord.cmp c.loop-place.self q)
    (record_at g.C.Ord.cmp c.args.self.now q)
    (changed_here g.met.C.PublicKey.exact c.index-peers-place.result q
    (λ p. one_set_more Secondary (cooldown_in g.C.Ord.cmp c.args.cooldowns.now p))
    (record_at g.C.Ord.cmp c.join_one.new.self q) (record_at g.C.Ord.cmp c.loop-place.self q)
    (c.in_default.ensures.ok q))
    (c.loop-place.invariant q)
