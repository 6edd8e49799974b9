use Rattle.std.proofs.Common.{◌≡◌, ℕ, ◌<◌, true, get_or}
use Rattle.p2p_directory.specs.Private.Serving.{has_slot_for}
use Rattle.p2p_directory.specs.Private.Slots.{held_in, AreSlots}
use Rattle.p2p_directory.specs.declared.run.commands.Command.{Command}
use Rattle.p2p_directory.proofs.run.make_room.Given as goal

-- there is a slot for each command so far, and what is held is as it was
abbrev pub invariant-loop-command : goal.invariant-loop-command
invariant-loop-command g l = record {
  room : (k : ℕ) (d : Command g.row.C.Denot g.row.C-Signature.Denot) → k < l.command-index →
      has_slot_for g.C.Ord.cmp l.slots (get_or l.commands k d) ≡ true;
  held : (q : g.row.C.Denot) → held_in g.C.Ord.cmp l.slots q ≡ held_in g.C.Ord.cmp l.fn.slots q;
  ordered : AreSlots g.C.Ord.cmp l.fn.slots → AreSlots g.C.Ord.cmp l.slots;
}
