-- Any number of nodes, of which two are a case: what is replied to commands, by the commands before
-- them and what these were replied. The nodes are those with a number below their count.
use Rattle.std.specs.Prelude.{ℕ, ◌≡◌, ◌<◌, Bool, true, false, if◌then◌else◌, not, ◌&&◌, ◌==◌, ◌⊎◌}
use Rattle.std.specs.Prelude.{Result, Ok, Err, nat_lt, List, [], ◌∷◌, length, slice_index_or}
use Rattle.std.specs.Prelude.{is_some, ◌≤◌, ◌++◌, Option, Some, None, slice_set}
use Rattle.std.specs.Duration.{as_nanos}
use Rattle.std.specs.declared.cmp.Ordering.{Ordering}
use Rattle.p2p_discovery.specs.declared.codec.error.CodecError.{CodecError}
use Rattle.p2p_discovery.specs.declared.discovery.Info.{Info}
use Rattle.p2p_discovery.specs.declared.discovery.Payload.{Payload}
use Rattle.p2p_discovery.specs.declared.discovery.PayloadConfig.{PayloadConfig}
use Rattle.p2p_discovery.specs.Payload.{infos_of_payload}
use Rattle.p2p_discovery.specs.Reading.{whole}
use Rattle.p2p_directory.specs.declared.node.received.Received.{Received}
use Rattle.p2p_directory.specs.declared.node.setup.Setup.{Setup}
use Rattle.p2p_directory.specs.declared.node.exchanged.Exchanged.{Exchanged}
use Rattle.p2p_directory.specs.declared.node.network.commands.NetworkCommand.{NetworkCommand}
use Rattle.p2p_directory.specs.declared.node.network.commands.NetworkCommand.TheVariants as command
use Rattle.p2p_directory.specs.declared.node.network.commands.NetworkReply.{NetworkReply}
use Rattle.p2p_directory.specs.declared.node.network.commands.NetworkReply.TheVariants as reply
use Rattle.p2p_directory.specs.declared.run.commands.Command.{Command}
use Rattle.p2p_directory.specs.declared.run.commands.Reply.{Reply}
use Rattle.p2p_directory.specs.declared.run.commands.Reply.TheVariants as run_reply
use Rattle.p2p_tracker.specs.Calls.{Call, may_reserve}
use Rattle.p2p_tracker.specs.World.{World}
use Rattle.p2p_tracker.specs.Answers.{set_at_place}
use Rattle.p2p_directory.specs.Run.{call_of, next, world_after, was_made}
use Rattle.p2p_directory.specs.Run as run
use Rattle.p2p_directory.specs.Received.{Wire, Standing, applies, received_at, ask_frame_at}
use Rattle.p2p_directory.specs.Received.{verdicts_of}
use Rattle.p2p_directory.specs.Received as frames
use Rattle.p2p_directory.specs.Exchange.{exchanged_at, infos_applied, IsExchanged}
use Rattle.p2p_directory.specs.Exchange as exchange
use Rattle.p2p_tracker.specs.Seen.{DirectoryView}
use Rattle.p2p_directory.specs.Held.{ReleasesAll}
use Rattle.p2p_directory.specs.Nodes.{NodeView, Made, NodeStandsAt, made_of, standing_in}
use Rattle.p2p_directory.specs.Nodes.{calls_with, IsStepped, IsReceived, IsAsked, IsSame}
use Rattle.p2p_directory.specs.Nodes.{named_peer, KeepsRoom}

-- what was done to the nodes: commands with their replies, the newest first
abbrev pub Done : Type 0 → Type 0 → Type 0
Done C S = List (NetworkCommand C S × NetworkReply C S)

-- the node whose directory a command may change: in an exchange the asker
abbrev pub changed_by : {C S : Type 0} → NetworkCommand C S → ℕ
changed_by (command.Call i x) = i
changed_by (command.Ask i place) = i
changed_by (command.Frame i frame now) = i
changed_by (command.Exchange asker replier place asker_now replier_now) = asker

-- the nodes of a command are among so many, and an exchange is of two
abbrev pub are_there : {C S : Type 0} → ℕ → NetworkCommand C S → Bool
are_there size (command.Call i x) = nat_lt i size
are_there size (command.Ask i place) = nat_lt i size
are_there size (command.Frame i frame now) = nat_lt i size
are_there size (command.Exchange asker replier place asker_now replier_now) =
    nat_lt asker size && (nat_lt replier size && not (asker == replier))

-- the infos of a payload that was read, which a node applies where it accepts them
abbrev pub infos_of_reading : {C S : Type 0} → Result (Payload C S × List ℕ) CodecError →
    List (Info C S)
infos_of_reading (Ok x) = infos_of_payload x.0
infos_of_reading (Err fault) = []

-- .. of a frame, under the limits of the node
abbrev pub infos_of_frame : {C S : Type 0} → Wire C S → PayloadConfig → List ℕ → List (Info C S)
infos_of_frame wire limits frame = infos_of_reading (whole (wire.reading limits) frame).outcome

-- what the nodes of these setups are made from, by number; past the last, where it is of no matter,
-- another
abbrev pub node_made : {C S : Type 0} → (C → C → Ordering) → Setup C S → List (Setup C S) → ℕ →
    Made C S
node_made cmp other setups i = made_of cmp (slice_index_or setups i other)

-- P holds of so many nodes, made from these setups
abbrev pub OfNetwork : {C S : Type 0} → (C → C → Ordering) → List (Setup C S) →
    (ℕ → (ℕ → Made C S) → Type 0) → Type 0
OfNetwork {C} {S} cmp setups P =
    (other : Setup C S) → P (length setups) (node_made cmp other setups)

module _ {C S : Type 0} (wire : Wire C S) where
  -- WHAT ONE NODE ACCEPTED, by what it is made from alone

  -- the calls of its directory after one more command to it, by its reply
  abbrev pub calls_then : Made C S → NetworkCommand C S → NetworkReply C S → List (Call C S) →
      List (Call C S)
  calls_then m (command.Call i x) (reply.Call r) calls = next m.directory calls (call_of x) r
  calls_then m (command.Frame i frame now) (reply.Frame r) calls =
      if applies r then Call.Update (infos_of_frame wire m.limits frame) ∷ calls else calls
  calls_then m (command.Exchange asker replier place asker_now replier_now) (reply.Exchange r)
      calls = calls_with (infos_applied r) calls
  calls_then m c r calls = calls

  -- the accepted calls of node i, made from m, the newest first
  abbrev pub calls_of_node : Made C S → ℕ → Done C S → List (Call C S)
  calls_of_node m i [] = []
  calls_of_node m i (x ∷ done) = if changed_by x.0 == i
      then calls_then m x.0 x.1 (calls_of_node m i done)
      else calls_of_node m i done

  -- ALL NODES: so many, and what each is made from; past the last that is of no matter
  module _ (size : ℕ) (node : ℕ → Made C S) where
    abbrev pub is_node : ℕ → Bool
    is_node i = nat_lt i size

    -- the accepted calls of the directory of node i, the newest first
    abbrev pub calls_at : Done C S → ℕ → List (Call C S)
    calls_at done i = calls_of_node (node i) i done

    -- the world at which node i stands
    abbrev pub world_at_node : Done C S → ℕ → World C S
    world_at_node done i = world_after (node i).directory (calls_at done i)

    -- how it stands
    abbrev pub standing_at : Done C S → ℕ → Standing C S
    standing_at done i = standing_in (node i) wire (world_at_node done i)

    -- ONE REPLY, by what was done before

    abbrev pub IsServedAnswer : Done C S → NetworkCommand C S → NetworkReply C S → Type 0
    IsServedAnswer done (command.Call i x) (reply.Call r) =
        run.IsAnswer (node i).directory (calls_at done i) (call_of x) r
    IsServedAnswer done (command.Ask i place) (reply.Ask frame) =
        frame ≡ ask_frame_at wire (standing_at done i) place
    IsServedAnswer done (command.Ask i place) reply.OutOfMemory =
        is_some (set_at_place (node i).directory (world_at_node done i) place) ≡ true
    IsServedAnswer done (command.Frame i frame now) (reply.Frame r) =
        let at = standing_at done i in
        frames.IsFrameAnswer
        (frames.frame_may_want_memory_by wire (verdicts_of at.judge) at frame (as_nanos now))
        (received_at wire at frame (as_nanos now)) r
    IsServedAnswer done (command.Exchange asker replier place asker_now replier_now)
        (reply.Exchange r) =
        let a = standing_at done asker in
        exchange.IsExchangeAnswer (exchange.exchange_may_want_memory a place)
        (exchanged_at a (standing_at done replier) place (as_nanos asker_now)
        (as_nanos replier_now)) r
    IsServedAnswer done c r = ⊥

    -- a command whose nodes aren't there is told so, and changes nothing
    abbrev pub IsNetworkAnswer : Done C S → NetworkCommand C S → NetworkReply C S → Type 0
    IsNetworkAnswer done c reply.NoNode = are_there size c ≡ false
    IsNetworkAnswer done c r = (are_there size c ≡ true) × IsServedAnswer done c r

    -- ALL REPLIES

    -- one reply for each command, each the answer at its point
    abbrev pub AreNetworkAnswers : Done C S → List (NetworkCommand C S) →
        List (NetworkReply C S) → Type 0
    AreNetworkAnswers done [] [] = Unit {0}
    AreNetworkAnswers done [] (r ∷ rs) = ⊥
    AreNetworkAnswers done (c ∷ cs) [] = ⊥
    AreNetworkAnswers done (c ∷ cs) (r ∷ rs) =
        IsNetworkAnswer done c r × AreNetworkAnswers ((c, r) ∷ done) cs rs

    -- what was done after all of them
    abbrev pub done_after : Done C S → List (NetworkCommand C S) → List (NetworkReply C S) →
        Done C S
    done_after done [] rs = done
    done_after done (c ∷ cs) [] = done
    done_after done (c ∷ cs) (r ∷ rs) = done_after ((c, r) ∷ done) cs rs

    -- WHERE THE NODES STAND

    -- each at the point after what was done
    pub record StandAfter (done : Done C S) (vs : List (NodeView C S)) : Type 0 where
      pub count : length vs ≡ size
      pub each : (i : ℕ) (v : NodeView C S) → i < size →
          NodeStandsAt (node i) (calls_at done i) (slice_index_or vs i v)

    -- want of memory for the room of what a dial or listen of a node may be granted
    pub record LacksRoom (c : NetworkCommand C S) (r : NetworkReply C S) : Type 0 where
      pub i : ℕ
      pub x : Command C S
      pub called : c ≡ command.Call i x
      pub there : is_node i ≡ true
      pub reserves : may_reserve (call_of x) ≡ true
      pub refused : r ≡ reply.Call run_reply.OutOfMemory

    -- the reply to one more command is the answer at its point, or such want of memory, and all
    -- then stand at the next
    pub record IsNetworkServedAt (done : Done C S) (c : NetworkCommand C S) (r : NetworkReply C S)
        (vs : List (NodeView C S)) : Type 0 where
      pub answer : IsNetworkAnswer done c r ⊎ LacksRoom c r
      pub stand : StandAfter ((c, r) ∷ done) vs

-- .. whatever the nodes were made from, and whatever was done before: vs before it, vs2 after it
abbrev pub IsNetworkServed : {C S : Type 0} → (C → C → Ordering) → Wire C S → NetworkCommand C S →
    NetworkReply C S → List (NodeView C S) → List (NodeView C S) → Type 0
IsNetworkServed {C} {S} cmp wire c r vs vs2 = (setups : List (Setup C S)) (done : Done C S) →
    OfNetwork cmp setups (λ size node. StandAfter wire size node done vs →
    IsNetworkServedAt wire size node done c r vs2)

-- ONE COMMAND, by what each call of a node says: vs before it, vs2 after it

module _ {C S : Type 0} (cmp : C → C → Ordering) (wire : Wire C S) where
  -- node i was stepped, and all others stayed
  pub record StepsAt (i : ℕ) (x : Command C S) (r : Reply C S)
      (vs vs2 : List (NodeView C S)) : Type 0 where
    pub there : i < length vs
    pub node : NodeView C S
    pub others : vs2 ≡ slice_set vs i node
    pub stepped : (v : NodeView C S) → IsStepped cmp x r (slice_index_or vs i v) node

  -- .. took a frame at a moment
  pub record ReceivesAt (i : ℕ) (frame : List ℕ) (now : ℕ) (r : Received C S)
      (vs vs2 : List (NodeView C S)) : Type 0 where
    pub there : i < length vs
    pub node : NodeView C S
    pub others : vs2 ≡ slice_set vs i node
    pub received : (v : NodeView C S) →
        IsReceived cmp wire verdicts_of frame now r (slice_index_or vs i v) node

  -- node i was asked, and all stayed
  pub record AsksAt (i place : ℕ) {E : Type 0} (r : Result (Option (List ℕ)) E)
      (vs vs2 : List (NodeView C S)) : Type 0 where
    pub there : i < length vs
    pub same : vs2 ≡ vs
    pub asked : (v : NodeView C S) → IsAsked cmp wire place r (slice_index_or vs i v)

  -- node i asked node j, another, at their moments s and t, and all but node i stayed
  pub record ExchangesAt (i j place s t : ℕ) (r : Exchanged C S)
      (vs vs2 : List (NodeView C S)) : Type 0 where
    pub there : i < length vs
    pub other : j < length vs
    pub apart : ¬ (i ≡ j)
    pub node : NodeView C S
    pub others : vs2 ≡ slice_set vs i node
    pub exchanged : (v : NodeView C S) → IsExchanged cmp wire place s t r
        (slice_index_or vs i v) (slice_index_or vs j v) node

  -- the command was given to the nodes that it names, and to no other; where they are not there,
  -- nothing changed
  abbrev pub IsServedAmong : NetworkCommand C S → NetworkReply C S → List (NodeView C S) →
      List (NodeView C S) → Type 0
  IsServedAmong c reply.NoNode vs vs2 = (are_there (length vs) c ≡ false) × (vs2 ≡ vs)
  IsServedAmong (command.Call i x) (reply.Call r) vs vs2 = StepsAt i x r vs vs2
  IsServedAmong (command.Ask i place) (reply.Ask frame) vs vs2 =
      AsksAt i place {E = Unit {0}} (Ok frame) vs vs2
  IsServedAmong (command.Ask i place) reply.OutOfMemory vs vs2 =
      AsksAt i place {E = Unit {0}} (Err tt) vs vs2
  IsServedAmong (command.Frame i frame now) (reply.Frame r) vs vs2 =
      ReceivesAt i frame (as_nanos now) r vs vs2
  IsServedAmong (command.Exchange i j place s t) (reply.Exchange r) vs vs2 =
      ExchangesAt i j place (as_nanos s) (as_nanos t) r vs vs2
  IsServedAmong c r vs vs2 = ⊥

-- the command may have changed a node, by its reply
abbrev pub may_change : {C S : Type 0} → NetworkReply C S → Bool
may_change (reply.Call r) = was_made r
may_change (reply.Ask frame) = false
may_change (reply.Frame r) = applies r
may_change (reply.Exchange r) = is_some (infos_applied r)
may_change reply.OutOfMemory = false
may_change reply.NoNode = false

-- the nodes are as they were, but for slots
pub record AreSame {C S : Type 0} (vs vs2 : List (NodeView C S)) : Type 0 where
  pub count : length vs2 ≡ length vs
  pub each : (k : ℕ) (v : NodeView C S) → IsSame (slice_index_or vs k v) (slice_index_or vs2 k v)

-- the peer of node k that a command names, if it names one
abbrev pub named_at : {C S : Type 0} → NetworkCommand C S → ℕ → Option C
named_at (command.Call i x) k = if i == k then named_peer x else None
named_at c k = None

-- each node keeps a slot where something is held of the peer that is named, and else where it had
-- one
abbrev pub KeepRoom : {C S : Type 0} → (C → C → Ordering) → NetworkCommand C S →
    List (NodeView C S) → List (NodeView C S) → Type 0
KeepRoom {C} {S} cmp c vs vs2 = (k : ℕ) (v : NodeView C S) → k < length vs →
    KeepsRoom cmp (named_at c k) (slice_index_or vs k v) (slice_index_or vs2 k v)

-- A NEW NODE of a setup: vs before it, vs2 after it

module _ {C S : Type 0} (cmp : C → C → Ordering) (given : Setup C S) where
  -- it stands behind all others
  pub record IsAdded (vs vs2 : List (NodeView C S)) : Type 0 where
    pub node : NodeView C S
    pub stands : NodeStandsAt (made_of cmp given) [] node
    pub nodes : vs2 ≡ vs ++ node ∷ []

  -- it stands in place of node i
  pub record ReplacesAt (i : ℕ) (vs vs2 : List (NodeView C S)) : Type 0 where
    pub there : i < length vs
    pub node : NodeView C S
    pub stands : NodeStandsAt (made_of cmp given) [] node
    pub nodes : vs2 ≡ slice_set vs i node

  -- .. of which all that was held was released, in the directory that is answered; or there is no
  -- such node, and nothing changed
  abbrev pub IsReplaced : ℕ → Option (DirectoryView C S) → List (NodeView C S) →
      List (NodeView C S) → Type 0
  IsReplaced i None vs vs2 = (length vs ≤ i) × (vs2 ≡ vs)
  IsReplaced i (Some directory) vs vs2 = ReplacesAt i vs vs2
      × ((v : NodeView C S) → let old = slice_index_or vs i v in
      ReleasesAll cmp old.held old.directory directory)

-- all that is held of each node was released, in the directory of the same number
pub record AreReleased {C S : Type 0} (cmp : C → C → Ordering) (vs : List (NodeView C S))
    (directories : List (DirectoryView C S)) : Type 0 where
  pub count : length directories ≡ length vs
  pub each : (i : ℕ) (v : NodeView C S) (d : DirectoryView C S) → i < length vs →
      let node = slice_index_or vs i v in
      ReleasesAll cmp node.held node.directory (slice_index_or directories i d)
