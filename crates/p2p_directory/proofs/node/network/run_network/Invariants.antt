use Rattle.std.proofs.Common.{◌≡◌, ◌++◌, [], length, vec_capacity}
use Rattle.std.specs.List.{All}
use Rattle.p2p_directory.specs.Network.{OfNetwork, AreNetworkAnswers, StandAfter, done_after}
use Rattle.p2p_directory.specs.Private.Networks.{HasRoomFor}
use Rattle.p2p_directory.specs.Laws.Network.{AreWritten, OfEachReply, CarriesExchange}
use Rattle.p2p_directory.proofs.Nodes.ReadBack.{wire_in}
use Rattle.p2p_directory.proofs.node.network.run_network.Given as goal

-- the replies so far answer the commands so far, what is told has a spelling, exchanges are
-- carried, all nodes stand where these lead, and there is room for all
abbrev pub invariant-loop-command : goal.invariant-loop-command
invariant-loop-command g l =
    let wire = wire_in g.C.PublicKey.verifies g.C.FixedBytes g.C.Signature.FixedBytes in
    record {
      rest : l.yielded ++ l.command-iterator.rest.items ≡ l.fn.commands.items;
      answers : OfNetwork g.C.Ord.cmp l.fn.setups.items (λ size node.
          AreNetworkAnswers wire size node [] l.yielded l.replies.items);
      written : OfNetwork g.C.Ord.cmp l.fn.setups.items (λ size node.
          AreWritten wire size node g.C.FixedBytes.IsValue g.C.Signature.FixedBytes.IsValue
          [] l.yielded l.replies.items);
      carried : OfNetwork g.C.Ord.cmp l.fn.setups.items (λ size node.
          OfEachReply wire size node (CarriesExchange wire size node) [] l.yielded l.replies.items);
      stand : OfNetwork g.C.Ord.cmp l.fn.setups.items (λ size node.
          StandAfter wire size node (done_after wire size node [] l.yielded l.replies.items)
          l.nodes.items);
      replies : length l.replies.items ≡ length l.yielded;
      room_for_replies : vec_capacity l.replies ≡ length l.fn.commands.items;
      slots : All (HasRoomFor g.C.Ord.cmp l.nodes.items) l.fn.commands.items;
      count : length l.nodes.items ≡ length l.initial.nodes.items;
    }
