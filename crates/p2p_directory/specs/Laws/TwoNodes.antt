-- What gossip brings two nodes: the laws of a network of two, by the commands to both and the
-- replies.
use Rattle.std.specs.Prelude.{List, []}
use Rattle.p2p_directory.specs.declared.node.pair.PairCommand.{PairCommand}
use Rattle.p2p_directory.specs.declared.node.pair.PairReply.{PairReply}
use Rattle.p2p_directory.specs.Received.{Wire}
use Rattle.p2p_directory.specs.Nodes.{Made}
use Rattle.p2p_directory.specs.Pairs.{two, commands_in, replies_in}
use Rattle.p2p_directory.specs.Laws.Network.{AtEachPoint, GivesSigned, HoldSigned}
use Rattle.p2p_directory.specs.Laws.Network.{OfEachReply, ReplyLaws}

module _ {C S : Type 0} (wire : Wire C S) (IsKey : C → Type 0) (IsSignature : S → Type 0)
    (left right : Made C S) (cs : List (PairCommand C S)) (rs : List (PairReply C S)) where
  pub record LawsOfPair : Type 0 where
    -- all that is given is signed where all that comes from outside is
    pub given : AtEachPoint wire 2 (two left right) (GivesSigned wire 2 (two left right)) []
        (commands_in cs) (replies_in rs)
    -- .. and so is all that is held
    pub infos : AtEachPoint wire 2 (two left right) (HoldSigned wire 2 (two left right)) []
        (commands_in cs) (replies_in rs)
    -- what is said of each reply of a network
    pub of_each_reply : OfEachReply wire 2 (two left right)
        (ReplyLaws wire 2 (two left right) IsKey IsSignature) [] (commands_in cs) (replies_in rs)
