use Rattle.std.proofs.Common.{◌≡◌, ◌≤◌, List, ◌++◌, length, vec_capacity}
use Rattle.p2p_directory.specs.Nodes.{NodeView}
use Rattle.p2p_directory.proofs.Nodes.NetworkRuns.{OfBoth, IsReleased}
use Rattle.p2p_directory.proofs.node.network.Network.finish.Given as goal

-- of the nodes so far all that is held was released
abbrev pub invariant-loop-node : goal.invariant-loop-node
invariant-loop-node g l = record {
  taken : List (NodeView g.row.C.Denot g.row.C-Signature.Denot);
  rest : taken ++ l.left.rest.items ≡ l.initial.left.rest.items;
  count : length l.directories.items ≡ length taken;
  released : OfBoth (IsReleased g.C.Ord.cmp) taken l.directories.items;
  room : length l.initial.left.rest.items ≤ vec_capacity l.directories;
}

abbrev pub decreases-loop-node : goal.decreases-loop-node
decreases-loop-node g l = length l.left.rest.items
