use Rattle.std.proofs.Common.{◌≡◌, ◌++◌, length, vec_capacity}
use Rattle.p2p_directory.specs.Pairs.{commands_in}
use Rattle.p2p_directory.proofs.node.pair.network_commands.Given as goal

-- the commands so far are given
abbrev pub invariant-loop-command : goal.invariant-loop-command
invariant-loop-command g l = record {
  rest : l.yielded ++ l.command-iterator.rest.items ≡ l.fn.commands.items;
  given : l.given.items ≡ commands_in l.yielded;
  count : length l.given.items ≡ length l.yielded;
  room : vec_capacity l.given ≡ length l.fn.commands.items;
}
