use Rattle.std.proofs.Common.{ℕ, ◌<◌, get_or}
use Rattle.p2p_directory.specs.Network.{AreSame}
use Rattle.p2p_directory.specs.Private.Networks.{HasRoomFor}
use Rattle.p2p_directory.specs.declared.node.network.commands.NetworkCommand.{NetworkCommand}
use Rattle.p2p_directory.proofs.node.network.nodes.make_room.Given as goal

-- there is room for each command so far, and all nodes are as they were but for it
abbrev pub invariant-loop-command : goal.invariant-loop-command
invariant-loop-command g l = record {
  room : (k : ℕ) (d : NetworkCommand g.row.C.Denot g.row.C-Signature.Denot) → k < l.command-index →
      HasRoomFor g.C.Ord.cmp l.nodes (get_or l.commands k d);
  same : AreSame l.fn.nodes l.nodes;
}
