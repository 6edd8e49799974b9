use Rattle.std.proofs.Common.{◌≤◌, length}
use Rattle.failing_alloc.proofs.take_all.Given as goal

abbrev pub invariant-loop-shift : goal.invariant-loop-shift
invariant-loop-shift l = length l.initial.blocks.items ≤ length l.blocks.items

abbrev pub invariant-loop-class : goal.invariant-loop-class
invariant-loop-class l = length l.initial.blocks.items ≤ length l.blocks.items
