use Rattle.std.proofs.Common.{◌≡◌, ◌++◌}
use Rattle.p2p_tracker.specs.Directory.{shared_at, shared_of}
use Rattle.p2p_tracker.proofs.SetsAndRecords.Shared.{chosen_from}
use Rattle.p2p_tracker.proofs.directory.infos.copy_shared.Given as goal

-- with those from here on, all are listed
abbrev pub invariant-loop-place : goal.invariant-loop-place
invariant-loop-place g l =
    l.infos.items ++ chosen_from (shared_at g.C.Ord.cmp l.records l.millis) l.place l.peers l.bits
    ≡ l.initial.infos.items ++ shared_of g.C.Ord.cmp l.records l.millis l.peers l.bits
