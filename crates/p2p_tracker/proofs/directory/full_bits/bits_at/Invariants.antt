use Rattle.std.proofs.Common.{◌≡◌, ◌++◌, ◌-◌, length, take, map, replicate, false}
use Rattle.std.specs.BTreeMap.{is_at}
use Rattle.p2p_tracker.proofs.directory.full_bits.bits_at.Given as goal

abbrev pub invariant-loop-place : goal.invariant-loop-place
invariant-loop-place g l =
    l.bits ≡ take l.place (map (is_at (g.C.Ord.cmp l.own)) l.peers) ++ replicate (length l.peers - l.place) false
