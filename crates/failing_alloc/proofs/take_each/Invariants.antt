use Rattle.std.proofs.Common.{◌≤◌, length}
use Rattle.failing_alloc.proofs.take_each.Given as goal

abbrev pub invariant-loop : goal.invariant-loop
invariant-loop l = length l.initial.blocks.items ≤ length l.blocks.items
