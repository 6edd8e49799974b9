-- Serving one command among nodes: from wherever what was done before led, the reply is the
-- answer.
use Rattle.std.specs.Prelude.{ℕ, ◌≡◌, ◌<◌, true, List, ◌∷◌, length, slice_index_or, slice_set}
use Rattle.std.specs.Prelude.{Bool, false, Option, Result, Ok, Err}
use Rattle.std.specs.Option.{option_map_or}
use Rattle.std.specs.declared.cmp.Ordering.{Ordering}
use Rattle.p2p_directory.specs.declared.node.setup.Setup.{Setup}
use Rattle.p2p_directory.specs.declared.node.network.commands.NetworkCommand.{NetworkCommand}
use Rattle.p2p_directory.specs.declared.node.network.commands.NetworkCommand.TheVariants as command
use Rattle.p2p_directory.specs.declared.node.network.commands.NetworkReply.{NetworkReply}
use Rattle.p2p_directory.specs.declared.node.network.commands.NetworkReply.TheVariants as reply
use Rattle.p2p_directory.specs.declared.node.exchanged.Exchanged.{Exchanged}
use Rattle.p2p_directory.specs.declared.run.commands.Command.{Command}
use Rattle.p2p_directory.specs.declared.run.commands.Reply.{Reply}
use Rattle.p2p_tracker.specs.Calls.{Call}
use Rattle.p2p_directory.specs.Received.{Wire}
use Rattle.p2p_directory.specs.Exchange.{Exchanges, Carries}
use Rattle.p2p_directory.specs.Nodes.{NodeView, Made, NodeStandsAt, AtEach, has_slot}
use Rattle.p2p_directory.specs.Run.{call_of, next, IsAnswer}
use Rattle.p2p_directory.specs.Network.{Done, OfNetwork, StandAfter, IsNetworkAnswer}
use Rattle.p2p_directory.specs.Laws.Network.{IsWritten, CarriesExchange}
use Rattle.p2p_directory.specs.Private.Serving.{reserved_peer}

-- the reply that the answer to an `Ask` is
abbrev pub reply_to_ask : {C S E : Type 0} → Result (Option (List ℕ)) E → NetworkReply C S
reply_to_ask (Ok frame) = reply.Ask frame
reply_to_ask (Err e) = reply.OutOfMemory

-- the reply is of some node
abbrev pub is_of_node : {C S : Type 0} → NetworkReply C S → Bool
is_of_node reply.NoNode = false
is_of_node (reply.Call r) = true
is_of_node (reply.Ask frame) = true
is_of_node (reply.Frame r) = true
is_of_node (reply.Exchange r) = true
is_of_node reply.OutOfMemory = true

-- there is a slot at a node for what the command may be granted
abbrev pub has_room : {C S : Type 0} → (C → C → Ordering) → NodeView C S → Command C S → Bool
has_room cmp v x = option_map_or (has_slot cmp v) (reserved_peer x) true

-- the reply to one more call answers at its point, and the node then stands at the next
pub record IsNodeServedAt {C S : Type 0} (m : Made C S) (calls : List (Call C S)) (c : Call C S)
    (r : Reply C S) (v : NodeView C S) : Type 0 where
  pub answer : IsAnswer m.directory calls c r
  pub left : NodeStandsAt m (next m.directory calls c r) v

-- .. of a command, whatever the node was made from and wherever the calls accepted before led:
-- v before it, v2 after it
abbrev pub IsNodeServed : {C S : Type 0} → (C → C → Ordering) → Command C S → Reply C S →
    NodeView C S → NodeView C S → Type 0
IsNodeServed cmp x r v v2 = AtEach cmp v (λ m calls. IsNodeServedAt m calls (call_of x) r v2)

module _ {C S : Type 0} (cmp : C → C → Ordering) where
  -- there is a slot for what the command may be granted
  abbrev pub HasRoomFor : List (NodeView C S) → NetworkCommand C S → Type 0
  HasRoomFor es (command.Call i x) = (e : NodeView C S) → i < length es →
      has_room cmp (slice_index_or es i e) x ≡ true
  HasRoomFor es _ = Unit {0}

  -- there are slots at each for the peers that had one, or for more
  abbrev pub GrowSlots : List (NodeView C S) → List (NodeView C S) → Type 0
  GrowSlots es es2 = (i : ℕ) (e : NodeView C S) (q : C) → i < length es →
      has_slot cmp (slice_index_or es i e) q ≡ true → has_slot cmp (slice_index_or es2 i e) q ≡ true

  -- .. for just these
  abbrev pub KeepSlots : List (NodeView C S) → List (NodeView C S) → Type 0
  KeepSlots es es2 = (i : ℕ) (e : NodeView C S) (q : C) → i < length es →
      has_slot cmp (slice_index_or es2 i e) q ≡ has_slot cmp (slice_index_or es i e) q

-- the reply to one more command is the answer at its point, and all then stand at the next
pub record IsAnsweredAt {C S : Type 0} (wire : Wire C S) (size : ℕ) (node : ℕ → Made C S)
    (done : Done C S) (c : NetworkCommand C S) (r : NetworkReply C S)
    (vs : List (NodeView C S)) : Type 0 where
  pub answer : IsNetworkAnswer wire size node done c r
  pub stand : StandAfter wire size node ((c, r) ∷ done) vs

-- .. whatever the nodes were made from, and whatever was done: vs before it, vs2 after it
abbrev pub IsNetworkAnswered : {C S : Type 0} → (C → C → Ordering) → Wire C S →
    NetworkCommand C S → NetworkReply C S → List (NodeView C S) → List (NodeView C S) → Type 0
IsNetworkAnswered {C} {S} cmp wire c r vs vs2 = (setups : List (Setup C S)) (done : Done C S) →
    OfNetwork cmp setups (λ size node. StandAfter wire size node done vs →
    IsAnsweredAt wire size node done c r vs2)

-- .. what is told with the reply has a spelling
abbrev pub IsNetworkWritten : {C S : Type 0} → (C → C → Ordering) → Wire C S → (C → Type 0) →
    (S → Type 0) → NetworkCommand C S → NetworkReply C S → List (NodeView C S) → Type 0
IsNetworkWritten {C} {S} cmp wire IsKey IsSignature c r vs =
    (setups : List (Setup C S)) (done : Done C S) →
    OfNetwork cmp setups (λ size node. StandAfter wire size node done vs →
    IsWritten wire size node IsKey IsSignature done c r)

-- .. the outcome of an exchange is what its frames come to
abbrev pub IsNetworkCarried : {C S : Type 0} → (C → C → Ordering) → Wire C S →
    NetworkCommand C S → NetworkReply C S → List (NodeView C S) → Type 0
IsNetworkCarried {C} {S} cmp wire c r vs = (setups : List (Setup C S)) (done : Done C S) →
    OfNetwork cmp setups (λ size node. StandAfter wire size node done vs →
    CarriesExchange wire size node done c r)

-- the asker exchanges infos with the replier, at their moments s and t, and all else stays: es
-- before it, es2 after it
pub record ExchangesAmong {C S : Type 0} (cmp : C → C → Ordering) (wire : Wire C S)
    (asker replier place s t : ℕ) (r : Exchanged C S)
    (es es2 : List (NodeView C S)) : Type 0 where
  pub left : NodeView C S
  pub rest : es2 ≡ slice_set es asker left
  pub seen : (e : NodeView C S) → Exchanges cmp wire place s t r
      (slice_index_or es asker e) (slice_index_or es replier e) left
  pub carried : (e : NodeView C S) → Carries cmp wire place s t r
      (slice_index_or es asker e) (slice_index_or es replier e) left
  pub slots : (e : NodeView C S) → left.slots ≡ (slice_index_or es asker e).slots
