use Rattle.std.proofs.Common.{◌≡◌, ◌++◌, length, vec_capacity}
use Rattle.std.specs.List.{All}
use Rattle.p2p_discovery.specs.Info.{IsInfo, IsKeyed}
use Rattle.p2p_directory.proofs.Nodes.NetworkRuns.{OfBoth, IsNew}
use Rattle.p2p_directory.proofs.node.network.Network.new.Given as goal

-- each endpoint so far is a new node of its setup, whose own info has a spelling
abbrev pub invariant-loop-setup : goal.invariant-loop-setup
invariant-loop-setup g l = record {
  rest : l.yielded ++ l.setup-iterator.rest.items ≡ l.fn.setups.items;
  count : length l.nodes.items ≡ length l.yielded;
  room_for_nodes : vec_capacity l.nodes ≡ length l.fn.setups.items;
  stand : OfBoth (IsNew g.C.Ord.cmp) l.yielded l.nodes.items;
  own : All (λ s. IsInfo s.myself × IsKeyed g.C.FixedBytes.IsValue g.C.Signature.FixedBytes.IsValue
      s.myself) l.yielded;
}
