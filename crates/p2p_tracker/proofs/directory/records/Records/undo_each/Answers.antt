use Rattle.p2p_tracker.specs.Private.Counts.{one_set_less}
use Rattle.p2p_tracker.specs.Seen.{record_at}
use Rattle.p2p_tracker.proofs.SetsAndRecords.Naming.{one_changed}
use Rattle.p2p_tracker.proofs.directory.records.Records.undo_each.Goals as goal

pub loop-peer-preserved : goal.loop-peer-preserved
loop-peer-preserved g c = λ q.
    one_changed g.met.C.Ord.total g.met.C.PublicKey.exact c.args.peers.now c.loop-peer.peer-index
    c.peer-item.result c.loop-peer-test.true c.peer-item.is c.requires
    (one_set_less c.args.role) q (record_at g.C.Ord.cmp c.leave_one.new.self q)
    (record_at g.C.Ord.cmp c.loop-peer.self q) (record_at g.C.Ord.cmp c.args.self.now q)
    (c.leave_one.ensures.records q) (c.loop-peer.invariant q)
