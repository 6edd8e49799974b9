use Rattle.std.proofs.Common.{◌≡◌, ◌≤◌, ◌++◌, filter_map, length, true}
use Rattle.std.specs.Map.{keys_of}
use Rattle.p2p_tracker.specs.Private.Among.{left_keys, shared_with}
use Rattle.p2p_tracker.proofs.directory.infos.copy_among.Given as goal

-- with those of the keys that are left all are listed
abbrev pub invariant-loop-key : goal.invariant-loop-key
invariant-loop-key g l = record {
  grown : length l.initial.infos.items ≤ length l.infos.items;
  listed : l.infos.items ++ filter_map (shared_with g.C.Ord.cmp l.records l.millis l.peers l.bits)
      (left_keys g.C.Ord.cmp l.own_left l.own (keys_of l.key-iterator))
      ≡ l.initial.infos.items ++ filter_map (shared_with g.C.Ord.cmp l.records l.millis l.peers l.bits)
      (left_keys g.C.Ord.cmp true l.own (keys_of l.fn.busy));
}
