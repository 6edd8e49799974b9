use Rattle.std.proofs.Common.{◌≡◌, length}
use Rattle.p2p_directory.specs.Private.Slots.{contents, AreSlots}
use Rattle.p2p_directory.proofs.run.held.drop_empty_first.Given as goal

abbrev pub invariant-loop-slots : goal.invariant-loop-slots
invariant-loop-slots g l = record {
  slots : AreSlots g.C.Ord.cmp l.slots;
  same : contents l.slots ≡ contents l.initial.slots;
}

abbrev pub decreases-loop-slots : goal.decreases-loop-slots
decreases-loop-slots g l = length l.slots
