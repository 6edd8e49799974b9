use Rattle.std.proofs.Common.{◌≡◌, length}
use Rattle.p2p_tracker.specs.Seen.{record_of}
use Rattle.p2p_directory.specs.Held.{AreHeld, after_release}
use Rattle.p2p_directory.specs.Private.Slots.{held_in, AreSlots}
use Rattle.p2p_directory.proofs.run.held.Held.release_all.Given as goal

-- once what is still held were released, each record would be as promised
abbrev pub invariant-loop-slot : goal.invariant-loop-slot
invariant-loop-slot g l =
    let cmp = g.C.Ord.cmp in
    record {
      slots : AreSlots cmp l.slots;
      agree : AreHeld cmp l.directory (held_in cmp l.slots);
      config : l.directory.config ≡ l.initial.directory.config;
      sets : l.directory.sets ≡ l.initial.directory.sets;
      blocks : l.directory.blocks ≡ l.initial.directory.blocks;
      cooldowns : l.directory.cooldowns ≡ l.initial.directory.cooldowns;
      records : (q : g.row.C.Denot) →
          after_release (held_in cmp l.slots q) (record_of cmp l.directory q)
          ≡ after_release (held_in cmp l.initial.slots q) (record_of cmp l.initial.directory q);
    }

abbrev pub decreases-loop-slot : goal.decreases-loop-slot
decreases-loop-slot g l = length l.slots
