-- Sessions that are called in turn: nodes of a network, in which one predicate says which
-- signatures are right.
use Rattle.std.specs.Prelude.{◌^◌, ◌≡◌, ◌<◌, ℕ, Bool, true, is_some, List, [], ◌∷◌, length}
use Rattle.std.specs.Prelude.{slice_set}
use Rattle.std.specs.Prelude.{slice_index_or, Option, Some, None}
use Rattle.std.specs.List.{filter_map}
use Rattle.std.specs.Duration.{as_nanos}
use Rattle.p2p_directory.specs.declared.node.network.commands.NetworkCommand.{NetworkCommand}
use Rattle.p2p_directory.specs.declared.node.network.commands.NetworkCommand.TheVariants as command
use Rattle.p2p_directory.specs.declared.node.network.commands.NetworkReply.{NetworkReply}
use Rattle.p2p_directory.specs.declared.node.network.commands.NetworkReply.TheVariants as reply
use Rattle.p2p_discovery.specs.Info.{IsInfo, IsKeyed}
use Rattle.p2p_directory.specs.declared.node.exchanged.Exchanged.TheVariants as exchanged
use Rattle.p2p_directory.specs.Exchange.{CanBeSpelled}
use Rattle.p2p_directory.specs.Network.{Done, is_node, standing_at}
use Rattle.p2p_directory.specs.declared.node.setup.Setup.{Setup}
use Rattle.p2p_directory.specs.Nodes.{NodeView, Made, NodeStandsAt, standing_of, made_of}
use Rattle.p2p_directory.specs.Received.{Wire, ask_frame_at}
use Rattle.p2p_tracker.specs.Calls.{Call}
use Rattle.p2p_tracker.specs.Calls.Call.{Update}
use Rattle.p2p_directory.specs.Run.{call_of}
use Rattle.p2p_directory.specs.Laws.InTurn.{Steps}
use Rattle.p2p_directory.specs.Laws.Network.{AtEachPoint, OfEachReply, PointLaws, BringsWanted}
use Rattle.p2p_directory.specs.Laws.Network.{TakesFrame, LeavesOtherNodes, TakesGreeting}
use Rattle.p2p_directory.specs.Laws.Network.{AreWritten, RepliesInfos, CarriesExchange}
use Rattle.p2p_directory.specs.Laws.InTurn.{commands_of, replies_of}
use Rattle.p2p_directory.specs.Laws.Verdicts.{AreToldOf, wire_with}
use Rattle.p2p_session.specs.Schemes.{Scheme, wire}
use Rattle.p2p_session.specs.Requests.{Request}
use Rattle.p2p_session.specs.Requests.Request.{Looking}
use Rattle.p2p_session.specs.Sessions.Look.{Wanted}
use Rattle.p2p_session.specs.Steps.{Step}
use Rattle.p2p_session.specs.Steps.Step.{Called, Heard, Looked}
use Rattle.p2p_session.specs.Laws.{Served, IsInit, Goes}

-- a call of one of the sessions, and what it is to a network, if it is something
pub record SessionCall (C S : Type 0) : Type 0 where
  pub session : ℕ
  pub call : Served C S
  pub in_network : Option (NetworkCommand C S × NetworkReply C S)

-- what all of them are to it, in order
abbrev pub network_steps : {C S : Type 0} → List (SessionCall C S) → Steps C S
network_steps calls = filter_map (λ x. x.in_network) calls

-- the infos of a call fit memory
abbrev pub IsShort : {C S : Type 0} → Call C S → Type 0
IsShort (Update infos) = length infos < 2 ^ 63
IsShort _ = Unit {0}

-- .. of a step
abbrev pub IsShortStep : {C S : Type 0} → Step C S → Type 0
IsShortStep (Called call r) = IsShort call
IsShortStep _ = Unit {0}

module _ {C S : Type 0} (k : Scheme C S) where
  -- each session was made by `init`, of one of these setups, in their order
  abbrev pub AreInit : List (Served C S) → List (Setup C S) → List (NodeView C S) → Type 0
  AreInit [] [] [] = Unit {0}
  AreInit (call ∷ calls) (given ∷ setups) (v ∷ vs) =
      (IsInit k call given × NodeStandsAt (made_of k.key.cmp given) [] v) × AreInit calls setups vs
  AreInit _ _ _ = ⊥

module _ {C S : Type 0} (k : Scheme C S) (verifies : C → List ℕ → List ℕ → S → Bool) where
  -- the signatures that are right by the predicate
  abbrev pub judged_wire : Wire C S
  judged_wire = wire_with verifies (wire k)

  -- ---- one call: v is its node before it, v2 after it

  -- what is said of the signatures in a frame is what the predicate says of those that decide
  abbrev pub AreVerdicts : Step C S → NodeView C S → Type 0
  AreVerdicts (Heard frame now verdicts r) v =
      AreToldOf verifies (wire k) (standing_of k.key.cmp (wire k) v) frame now verdicts
  AreVerdicts _ v = Unit {0}

  -- a step of node i is a command to it with this reply: a call, a frame, or a look at the frame to
  -- ask with. Other looks, and what was refused before the node was called, are nothing.
  abbrev pub IsInNetwork : ℕ → Option (Request C S) → Step C S → NodeView C S →
      Option (NetworkCommand C S × NetworkReply C S) → Type 0
  IsInNetwork i asked (Called call r) v (Some (command.Call j x, reply.Call r2)) =
      (j ≡ i) × (call_of x ≡ call) × (r2 ≡ r)
  IsInNetwork i asked (Heard frame now verdicts r) v
      (Some (command.Frame j bytes moment, reply.Frame r2)) =
      (j ≡ i) × (bytes ≡ frame) × (as_nanos moment ≡ now) × (r2 ≡ r)
  IsInNetwork i (Some (Looking (Wanted n))) Looked v (Some (command.Ask j place, reply.Ask frame)) =
      (j ≡ i) × (place ≡ n) × (frame ≡ ask_frame_at (wire k) (standing_of k.key.cmp (wire k) v) n)
  IsInNetwork i (Some (Looking (Wanted n))) Looked v
      (Some (command.Ask j place, reply.OutOfMemory)) = (j ≡ i) × (place ≡ n)
      × (is_some (ask_frame_at (wire k) (standing_of k.key.cmp (wire k) v) n) ≡ true)
  IsInNetwork i (Some (Looking (Wanted n))) Looked v None = ⊥
  IsInNetwork i asked Looked v None = Unit {0}
  IsInNetwork i asked step v x = ⊥

  -- the call leads from one to the other by a step, which is this to the network, or nothing
  pub record IsServedBy (x : SessionCall C S) (v v2 : NodeView C S) : Type 0 where
    pub goes : Goes k x.call (Some v) (Some v2)
    pub verdicts : AreVerdicts goes.0 v
    pub in_network : IsInNetwork x.session x.call.asked goes.0 v x.in_network

  -- .. or to nothing
  abbrev pub IsSomething : ℕ → Served C S → NodeView C S → NodeView C S → Type 0
  IsSomething i call v v2 = (o : Option (NetworkCommand C S × NetworkReply C S))
      × IsServedBy (record { session = i; call = call; in_network = o }) v v2

  -- it leads the node of its session so, and all others stay
  pub record IsCalled (x : SessionCall C S) (vs vs2 : List (NodeView C S)) : Type 0 where
    pub there : x.session < length vs
    pub before : NodeView C S
    pub is_before : (v : NodeView C S) → slice_index_or vs x.session v ≡ before
    pub node : NodeView C S
    pub others : vs2 ≡ slice_set vs x.session node
    pub served : IsServedBy x before node

  -- the sessions were called so, one call after the other, the oldest first
  abbrev pub AreCalled : List (SessionCall C S) → List (NodeView C S) → List (NodeView C S) → Type 0
  AreCalled [] vs vs2 = vs2 ≡ vs
  AreCalled (x ∷ calls) vs vs2 =
      (between : List (NodeView C S)) × IsCalled x vs between × AreCalled calls between vs2

-- ---- what holds of a run of a network, by these keys and signatures

module _ {C S : Type 0} (wire : Wire C S) (size : ℕ) (node : ℕ → Made C S) (IsKey : C → Type 0)
    (IsSignature : S → Type 0) where
  -- what is told in an exchange has a spelling, unless memory was refused
  abbrev pub IsSpelledIn : Done C S → NetworkCommand C S → NetworkReply C S → Type 0
  IsSpelledIn done (command.Exchange asker replier place s t) (reply.Exchange r) =
      ¬ (r ≡ exchanged.Memory) →
      CanBeSpelled IsKey IsSignature (standing_at wire size node done asker)
      (standing_at wire size node done replier) place (as_nanos t)
  IsSpelledIn done _ _ = Unit {0}

  module _ (steps : Steps C S) where
    -- P holds of each reply
    abbrev pub HoldsOfEach : (Done C S → NetworkCommand C S → NetworkReply C S → Type 0) → Type 0
    HoldsOfEach P = OfEachReply wire size node P [] (commands_of steps) (replies_of steps)

    -- the laws of gossip
    pub record LawsOfGossip : Type 0 where
      pub at_each_point : AtEachPoint wire size node (PointLaws wire size node) []
          (commands_of steps) (replies_of steps)
      pub exchanges : HoldsOfEach (BringsWanted wire size node)
      pub others : HoldsOfEach (LeavesOtherNodes wire size node)
      pub late : HoldsOfEach (TakesFrame wire size node IsKey IsSignature)
      -- where what is told in exchanges has a spelling
      pub carried : HoldsOfEach IsSpelledIn → HoldsOfEach (CarriesExchange wire size node)
      -- where all own infos are infos of these keys and signatures
      pub greetings :
          ((i : ℕ) → is_node wire size node i ≡ true → IsInfo (node i).directory.own) →
          ((i : ℕ) → is_node wire size node i ≡ true →
          IsKeyed IsKey IsSignature (node i).directory.own) →
          HoldsOfEach (TakesGreeting wire size node)
      -- where what is told has a spelling, and so has the greatest number of bits
      pub replies :
          ((i : ℕ) → is_node wire size node i ≡ true → (node i).limits.max_bit_vec < 2 ^ 32) →
          AreWritten wire size node IsKey IsSignature [] (commands_of steps) (replies_of steps) →
          HoldsOfEach (RepliesInfos wire size node IsKey IsSignature)
