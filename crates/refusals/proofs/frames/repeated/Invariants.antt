use Rattle.std.proofs.Common.{◌≡◌, ◌≤◌, length}
use Rattle.std.specs.List.{concat}
use Rattle.refusals.proofs.frames.repeated.Given as goal

abbrev pub invariant-loop : goal.invariant-loop
invariant-loop l = record { total : length (concat l.buffers.items) ≡ l.total; bound : l.total ≤ 1_002_000_000 }

abbrev pub invariant-loop-part : goal.invariant-loop-part
invariant-loop-part l = record { total : length (concat l.buffers.items) ≡ l.total; bound : l.total ≤ 1_002_000_000 }
