use Rattle.std.proofs.Common.{◌≡◌, take, cond}
use Rattle.p2p_tracker.specs.Private.Counts.{one_set_less}
use Rattle.p2p_discovery.specs.Ordered.{has_key}
use Rattle.p2p_tracker.specs.Seen.{record_at}
use Rattle.p2p_tracker.proofs.directory.records.Records.undo_each.Given as goal

-- the peers so far are counted
abbrev pub invariant-loop-peer : goal.invariant-loop-peer
invariant-loop-peer g l = (q : g.row.C.Denot) →
    record_at g.C.Ord.cmp l.self q ≡ cond (has_key g.C.Ord.cmp (take l.peer-index l.peers) q)
    (one_set_less l.role (record_at g.C.Ord.cmp l.initial.self q)) (record_at g.C.Ord.cmp l.initial.self q)
