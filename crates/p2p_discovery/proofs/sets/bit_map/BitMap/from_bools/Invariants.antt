use Rattle.std.proofs.Common.{◌≡◌, ◌++◌, ◌-◌, length, take, replicate, false}
use Rattle.p2p_discovery.proofs.sets.bit_map.BitMap.from_bools.Given as goal

abbrev pub invariant-loop-place : goal.invariant-loop-place
invariant-loop-place l = l.bits ≡ take l.place l.values ++ replicate (length l.values - l.place) false
