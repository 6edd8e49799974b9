-- Two nodes are a network of two: the left is node 0, the right node 1.
use Rattle.std.specs.Prelude.{ℕ, zero, suc, List, [], map}
use Rattle.p2p_directory.specs.declared.node.network.commands.NetworkCommand.{NetworkCommand}
use Rattle.p2p_directory.specs.declared.node.network.commands.NetworkCommand.TheVariants as network_command
use Rattle.p2p_directory.specs.declared.node.network.commands.NetworkReply.{NetworkReply}
use Rattle.p2p_directory.specs.declared.node.network.commands.NetworkReply.TheVariants as network_reply
use Rattle.p2p_directory.specs.declared.node.pair.Side.{Side}
use Rattle.p2p_directory.specs.declared.node.pair.Side.TheVariants.{Left, Right}
use Rattle.p2p_directory.specs.declared.node.pair.PairCommand.{PairCommand}
use Rattle.p2p_directory.specs.declared.node.pair.PairCommand.TheVariants as command
use Rattle.p2p_directory.specs.declared.node.pair.PairReply.{PairReply}
use Rattle.p2p_directory.specs.declared.node.pair.PairReply.TheVariants as reply
use Rattle.p2p_tracker.specs.Calls.{Call}
use Rattle.p2p_directory.specs.Received.{Wire}
use Rattle.p2p_directory.specs.Nodes.{Made}
use Rattle.p2p_directory.specs.Network.{Done, calls_at, AreNetworkAnswers, done_after}

-- the number of a node
abbrev pub index : Side → ℕ
index Left = 0
index Right = 1

-- the node with which one at this side exchanges
abbrev pub other : Side → Side
other Left = Right
other Right = Left

-- what is done to two nodes, as to a network
abbrev pub command_in : {C S : Type 0} → PairCommand C S → NetworkCommand C S
command_in (command.Call side x) = network_command.Call (index side) x
command_in (command.Ask side place) = network_command.Ask (index side) place
command_in (command.Frame side frame now) = network_command.Frame (index side) frame now
command_in (command.Exchange asker place asker_now replier_now) =
    network_command.Exchange (index asker) (index (other asker)) place asker_now replier_now

abbrev pub commands_in : {C S : Type 0} → List (PairCommand C S) → List (NetworkCommand C S)
commands_in cs = map command_in cs

-- what is replied
abbrev pub reply_in : {C S : Type 0} → PairReply C S → NetworkReply C S
reply_in (reply.Call r) = network_reply.Call r
reply_in (reply.Ask r) = network_reply.Ask r
reply_in (reply.Frame r) = network_reply.Frame r
reply_in (reply.Exchange r) = network_reply.Exchange r
reply_in reply.OutOfMemory = network_reply.OutOfMemory

abbrev pub replies_in : {C S : Type 0} → List (PairReply C S) → List (NetworkReply C S)
replies_in rs = map reply_in rs

-- what the nodes are made from
abbrev pub two : {C S : Type 0} → Made C S → Made C S → ℕ → Made C S
two left right zero = left
two left right (suc i) = right

module _ {C S : Type 0} (wire : Wire C S) (left right : Made C S) where
  -- one reply for each command, each the answer at its point
  abbrev pub ArePairAnswers : Done C S → List (PairCommand C S) → List (PairReply C S) → Type 0
  ArePairAnswers done cs rs =
      AreNetworkAnswers wire 2 (two left right) done (commands_in cs) (replies_in rs)

  -- the accepted calls of the directory at a side after all of them
  abbrev pub calls_left : List (PairCommand C S) → List (PairReply C S) → Side → List (Call C S)
  calls_left cs rs side = let node = two left right in calls_at wire 2 node
      (done_after wire 2 node [] (commands_in cs) (replies_in rs)) (index side)
