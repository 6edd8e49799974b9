use Rattle.std.proofs.Common.{◌≡◌, take, cond}
use Rattle.p2p_tracker.specs.declared.record.Role.TheVariants.{Secondary}
use Rattle.p2p_tracker.specs.Private.Counts.{one_set_more}
use Rattle.p2p_discovery.specs.Ordered.{has_key}
use Rattle.p2p_tracker.specs.Seen.{record_at}
use Rattle.p2p_tracker.specs.Cooldowns.{cooldown_in}
use Rattle.p2p_tracker.proofs.directory.records.Records.join_secondary.Given as goal

-- the peers so far are counted
abbrev pub invariant-loop-place : goal.invariant-loop-place
invariant-loop-place g l = (q : g.row.C.Denot) →
    record_at g.C.Ord.cmp l.self q ≡ cond (has_key g.C.Ord.cmp (take l.place l.peers) q)
    (one_set_more Secondary (cooldown_in g.C.Ord.cmp l.cooldowns q) (record_at g.C.Ord.cmp l.initial.self q))
    (record_at g.C.Ord.cmp l.initial.self q)
