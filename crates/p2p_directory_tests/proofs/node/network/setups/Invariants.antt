use Rattle.std.proofs.Common.{◌<◌, ◌-◌, ◌^◌}
use Rattle.std.specs.Int.NonZero.{non_zero_usize_get}
use Rattle.std.specs.List.{All}
use Rattle.p2p_directory_tests.proofs.node.network.setups.Given as goal

abbrev pub invariant-loop-line : goal.invariant-loop-line
invariant-loop-line l = record {
  sets : All (λ s. non_zero_usize_get s.cfg.max_sets < 2 ^ 64 - 1) l.setups.items;
  bits : All (λ s. s.payload.max_bit_vec < 2 ^ 32) l.setups.items;
}
