use Rattle.std.proofs.Common.{◌≡◌, ◌+◌, length}
use Rattle.p2p_tracker.specs.Private.Places.{with_bits_at, walk, indices}
use Rattle.p2p_tracker.proofs.kept.window.set_bits.Given as goal

-- with the bits that are still to be written all are, and with the places that are still to be met all are met
abbrev pub invariant-loop-count : goal.invariant-loop-count
invariant-loop-count g l =
    (with_bits_at l.known (walk (indices l.fn.sets.items) l.links.items l.next) l.sets.items
    ≡ with_bits_at l.known (walk (indices l.fn.sets.items) l.links.items l.fn.latest) l.fn.sets.items)
    × (l.count + length (walk (indices l.fn.sets.items) l.links.items l.next)
    ≡ length (walk (indices l.fn.sets.items) l.links.items l.fn.latest))
    × (indices l.sets.items ≡ indices l.fn.sets.items)
