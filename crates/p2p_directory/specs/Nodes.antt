-- Nodes: what contracts see of one, what it is made from, and how it stands at the point after the
-- calls that its directory accepted.
use Rattle.std.specs.Prelude.{ℕ, ◌≡◌, ◌<◌, ◌^◌, ◌∷◌, Bool, true, false, ◌⊎◌, List, Option, Some}
use Rattle.std.specs.Prelude.{None, Result, Ok, []}
use Rattle.std.specs.Prelude.{IfOk, IfSome, OnErr, is_some, slice_get, length, ◌≤◌, if◌then◌else◌}
use Rattle.std.specs.BTreeMap.{is_at}
use Rattle.std.specs.Duration.{as_nanos}
use Rattle.std.specs.List.{AllByRecursion, list_any}
use Rattle.std.specs.Option.{IsSomeAnd}
use Rattle.std.specs.declared.cmp.Ordering.{Ordering}
use Rattle.p2p_discovery.specs.declared.discovery.Info.{Info}
use Rattle.p2p_discovery.specs.declared.discovery.Payload.{Payload}
use Rattle.p2p_discovery.specs.declared.discovery.PayloadConfig.{PayloadConfig}
use Rattle.p2p_discovery.specs.Info.{IsInfo, IsKeyed}
use Rattle.p2p_discovery.specs.Judgement.{Judge, Verifier, judge_of}
use Rattle.p2p_discovery.specs.Reading.{Reading, whole}
use Rattle.p2p_tracker.specs.declared.directory.Metadata.{Metadata}
use Rattle.p2p_tracker.specs.declared.directory.Metadata.TheVariants as metadata
use Rattle.p2p_directory.specs.declared.node.received.Received.{Received}
use Rattle.p2p_directory.specs.declared.node.setup.Setup.{Setup}
use Rattle.p2p_directory.specs.declared.run.commands.Command.{Command}
use Rattle.p2p_directory.specs.declared.run.commands.Command.TheVariants as command
use Rattle.p2p_directory.specs.declared.run.commands.Reply.{Reply}
use Rattle.p2p_directory.specs.declared.run.commands.Reply.TheVariants as reply
use Rattle.p2p_tracker.specs.Calls.{Settings, Call, may_reserve, reserved_by}
use Rattle.p2p_tracker.specs.Calls.Call.{Dial, Listen, Release, Update}
use Rattle.p2p_tracker.specs.World.{World}
use Rattle.p2p_tracker.specs.Answers.{infos_for, set_at_place}
use Rattle.p2p_tracker.specs.Directory.{Updates, bit_vec_at, infos_in, other_keys, ingress_in}
use Rattle.p2p_tracker.specs.Directory.{full_bit_vec_at}
use Rattle.p2p_tracker.specs.Seen.{DirectoryView}
use Rattle.p2p_directory.specs.Held.{held_of, AddsHeld, DropsHeld}
use Rattle.p2p_directory.specs.Refinement.{Refines}
use Rattle.p2p_directory.specs.Run.{settings, call_of, world_after, next, bit_vec_in}
use Rattle.p2p_directory.specs.Run.{full_bit_vec_in}
use Rattle.p2p_directory.specs.Run.{IsAnswer, Holds}
use Rattle.p2p_directory.specs.Received as frames
use Rattle.p2p_directory.specs.Received.{Wire, Standing, FrameOutcome, received_at, received_by}
use Rattle.p2p_directory.specs.Received.{frame_may_want_memory_by}
use Rattle.p2p_directory.specs.Received.{ask_frame_at, frame_of_bits, applied_with, told_with}

-- WHAT IS SEEN

-- a node's directory, what is held of its grants, the peers with a slot for their reservation, its
-- limits, and what its verifier holds
pub record NodeView (C S : Type 0) : Type 0 where
  pub directory : DirectoryView C S
  pub held : List (Metadata C S)
  pub slots : List C
  pub limits : PayloadConfig
  pub verifier : Verifier C

-- how it stands, by what is seen
abbrev pub standing_of : {C S : Type 0} → (C → C → Ordering) → Wire C S → NodeView C S →
    Standing C S
standing_of cmp wire v = record {
  limits = v.limits;
  judge = judge_of cmp wire.verifies v.verifier;
  bits = bit_vec_at cmp v.directory;
  infos = infos_in cmp v.directory;
}

-- how it is known which signatures of a payload's infos are right: by the keys, as `verdicts_of`
-- says, or as a caller says
abbrev pub Verdicts : Type 0 → Type 0 → Type 0
Verdicts C S = Judge C S → Payload C S → List Bool

abbrev pub given_verdicts : {C S : Type 0} → List Bool → Verdicts C S
given_verdicts verdicts judge payload = verdicts

-- a frame that was decoded: its bytes, the payload, and the limits
pub record DecodedView (C S : Type 0) : Type 0 where
  pub frame : List ℕ
  pub payload : Payload C S
  pub limits : PayloadConfig

-- the bytes of a frame, as they are read, are those of the payload and no more
abbrev pub IsDecoded : {P : Type 0} → (List ℕ → Reading P) → List ℕ → P → Type 0
IsDecoded reading frame payload = (whole reading frame).outcome ≡ Ok (payload, [])

-- WHAT IT IS MADE FROM

-- that of its directory, its limits, and by what it judges
pub record Made (C S : Type 0) : Type 0 where
  pub directory : Settings C S
  pub limits : PayloadConfig
  pub verifier : Verifier C

-- .. as a caller gives it, with the order of the keys: its own key is that of its own info
abbrev pub made_of : {C S : Type 0} → (C → C → Ordering) → Setup C S → Made C S
made_of cmp given = record {
  directory = settings cmp given.bootstrappers.items given.myself given.cfg;
  limits = given.payload;
  verifier = record {
    me = given.myself.public_key;
    greatest_count = given.peer_gossip_max_count;
    synchrony_bound = as_nanos given.synchrony_bound;
    namespace = given.namespace.items;
  };
}

-- the calls accepted after some, where an update with these infos was one more
abbrev pub calls_with : {C S : Type 0} → Option (List (Info C S)) → List (Call C S) →
    List (Call C S)
calls_with None calls = calls
calls_with (Some infos) calls = Update infos ∷ calls

module _ {C S : Type 0} (m : Made C S) where
  -- how it stands where its directory stands at the world w
  abbrev pub standing_in : Wire C S → World C S → Standing C S
  standing_in wire w = record {
    limits = m.limits;
    judge = judge_of m.directory.cmp wire.verifies m.verifier;
    bits = bit_vec_in m.directory w;
    infos = infos_for m.directory w;
  }

  -- a node stands at the point after these calls: its directory refines the world that they make,
  -- what is held are its grants, and it is made from m; the limit of failures is a `usize`
  pub record NodeStandsAt (calls : List (Call C S)) (v : NodeView C S) : Type 0 where
    pub limit_fits : m.directory.dial_fail_limit < 2 ^ 64
    pub refines : Refines m.directory (world_after m.directory calls) v.directory
    pub holds : Holds m.directory (world_after m.directory calls) (held_of m.directory.cmp v.held)
    pub limits : v.limits ≡ m.limits
    pub verifier : v.verifier ≡ m.verifier

  -- A COMMAND

  -- the reply is that of a run, or want of memory for the room of what a dial or listen may be
  -- granted
  abbrev pub IsStepAnswer : List (Call C S) → Call C S → Reply C S → Type 0
  IsStepAnswer calls c r =
      IsAnswer m.directory calls c r ⊎ ((may_reserve c ≡ true) × (r ≡ reply.OutOfMemory))

  -- the reply to one more call is that at its point, and the node then stands at the next
  pub record IsSteppedAt
      (calls : List (Call C S)) (c : Call C S) (r : Reply C S) (v : NodeView C S) : Type 0 where
    pub answer : IsStepAnswer calls c r
    pub left : NodeStandsAt (next m.directory calls c r) v

  -- A FRAME

  -- an answer that may be want of memory or not, by how the node stands, is this at its point, and
  -- the node then stands at the point after the update that it made, if it made one
  pub record IsAnsweredAt (wire : Wire C S) (calls : List (Call C S)) (may : Standing C S → Bool)
      (outcome : Standing C S → FrameOutcome C S) (r : Received C S) (v : NodeView C S) :
      Type 0 where
    pub answer :
        let node = standing_in wire (world_after m.directory calls) in
        frames.IsFrameAnswer (may node) (outcome node) r
    pub left : let node = standing_in wire (world_after m.directory calls) in
        NodeStandsAt (calls_with (applied_with (outcome node) r) calls) v

  -- .. to a frame, by these verdicts on the signatures of its infos
  abbrev pub IsReceivedAt : Wire C S → List (Call C S) → Verdicts C S → List ℕ → ℕ → Received C S →
      NodeView C S → Type 0
  IsReceivedAt wire calls verdicts frame now = IsAnsweredAt wire calls
      (λ node. frame_may_want_memory_by wire (verdicts node.judge) node frame now)
      (λ node. received_by wire (verdicts node.judge) node frame now)

  -- the frame that is asked with, and want of memory only where there is a set at the place
  pub record IsAskedAt (wire : Wire C S) (calls : List (Call C S)) (place : ℕ)
      {E : Type 0} (r : Result (Option (List ℕ)) E) : Type 0 where
    pub frame : IfOk r (λ frame.
        frame ≡ ask_frame_at wire (standing_in wire (world_after m.directory calls)) place)
    pub err : OnErr r
        (is_some (set_at_place m.directory (world_after m.directory calls) place) ≡ true)

  -- .. with bits as if no info but the own one were known
  pub record IsAskedForAllAt (wire : Wire C S) (calls : List (Call C S)) (place : ℕ)
      {E : Type 0} (r : Result (Option (List ℕ)) E) : Type 0 where
    pub frame : IfOk r (λ frame. frame ≡ frame_of_bits wire
        (full_bit_vec_in m.directory (world_after m.directory calls) place))
    pub err : OnErr r
        (is_some (set_at_place m.directory (world_after m.directory calls) place) ≡ true)

-- EACH CALL, whatever the node was made from, and wherever the calls accepted before led: v before
-- it, v2 after it

module _ {C S : Type 0} (cmp : C → C → Ordering) where
  -- it stands somewhere
  abbrev pub AtEach : NodeView C S → (Made C S → List (Call C S) → Type 0) → Type 0
  AtEach v P = (given : Setup C S) (calls : List (Call C S)) →
      NodeStandsAt (made_of cmp given) calls v → P (made_of cmp given) calls

  abbrev pub IsStepped : Command C S → Reply C S → NodeView C S → NodeView C S → Type 0
  IsStepped x r v v2 = AtEach v (λ m calls. IsSteppedAt m calls (call_of x) r v2)

  abbrev pub IsReceived : Wire C S → Verdicts C S → List ℕ → ℕ → Received C S → NodeView C S →
      NodeView C S → Type 0
  IsReceived wire verdicts frame now r v v2 =
      AtEach v (λ m calls. IsReceivedAt m wire calls verdicts frame now r v2)

  abbrev pub IsAsked : Wire C S → ℕ → {E : Type 0} → Result (Option (List ℕ)) E → NodeView C S →
      Type 0
  IsAsked wire place r v = AtEach v (λ m calls. IsAskedAt m wire calls place r)

  abbrev pub IsAskedForAll : Wire C S → ℕ → {E : Type 0} → Result (Option (List ℕ)) E →
      NodeView C S → Type 0
  IsAskedForAll wire place r v = AtEach v (λ m calls. IsAskedForAllAt m wire calls place r)

-- a node is as it was, but for slots
abbrev pub IsSame : {C S : Type 0} → NodeView C S → NodeView C S → Type 0
IsSame v v2 = v2 ≡ record v { slots = v2.slots }

-- the peer that a command names: of whom it may be granted a reservation, or may release it
abbrev pub named_peer : {C S : Type 0} → Command C S → Option C
named_peer (command.Release p) = Some p
named_peer x = reserved_by (call_of x)

-- q is the peer that is named, if one is
abbrev pub is_named : {C : Type 0} → (C → C → Ordering) → Option C → C → Bool
is_named cmp None q = false
is_named cmp (Some p) q = is_at (cmp p) q

module _ {C S : Type 0} (cmp : C → C → Ordering) where
  -- there is a slot of q
  abbrev pub has_slot : NodeView C S → C → Bool
  has_slot v q = list_any (is_at (cmp q)) v.slots

  -- a call that names a peer, or none, leaves a slot for that peer exactly where something is held
  -- of it, and for each other peer where there was one
  abbrev pub KeepsRoom : Option C → NodeView C S → NodeView C S → Type 0
  KeepsRoom named v v2 = (q : C) → has_slot v2 q ≡ (if is_named cmp named q
      then is_some (held_of cmp v2.held q)
      else has_slot v q)

  -- what a call leaves held, by its reply: a grant adds the reservation of its peer, for a dial at
  -- the address that the directory has of it; a release drops it; all else leaves what is held
  abbrev pub LeavesHeld : Call C S → Reply C S → NodeView C S → NodeView C S → Type 0
  LeavesHeld (Dial p t draw) (reply.Dial true) v v2 = IsSomeAnd (ingress_in cmp v.directory p)
      (λ ingress. AddsHeld cmp (held_of cmp v.held) (held_of cmp v2.held) p
      (Some (metadata.Dialer p ingress)))
  LeavesHeld (Listen p t draw) (reply.Listen true) v v2 =
      AddsHeld cmp (held_of cmp v.held) (held_of cmp v2.held) p (Some (metadata.Listener p))
  LeavesHeld (Release p) reply.Release v v2 =
      DropsHeld cmp (held_of cmp v.held) (held_of cmp v2.held) p
  LeavesHeld c r v v2 = v2.held ≡ v.held

  -- .. of a command
  abbrev pub HoldsAfter : Command C S → Reply C S → NodeView C S → NodeView C S → Type 0
  HoldsAfter x = LeavesHeld (call_of x)

-- a node stands somewhere: there are a setup that it was made from, and calls that it accepted
pub record StandsSomewhere {C S : Type 0} (cmp : C → C → Ordering) (v : NodeView C S) : Type 0 where
  pub given : Setup C S
  pub calls : List (Call C S)
  pub stands : NodeStandsAt (made_of cmp given) calls v

-- infos are made of values of their types
abbrev pub AreValues : {C S : Type 0} → (C → Type 0) → (S → Type 0) → List (Info C S) → Type 0
AreValues IsKey IsSignature infos =
    AllByRecursion IsInfo infos × AllByRecursion (IsKeyed IsKey IsSignature) infos

-- EACH CALL BY WHAT IS SEEN: v before it, v2 after it

-- a track is replied want of memory, or tears down no more peers than there are records, but for
-- that of the local node
abbrev pub TearsDownFew : {C S : Type 0} → DirectoryView C S → Reply C S → Type 0
TearsDownFew {C} d r = (r ≡ reply.OutOfMemory) ⊎ ((torn : Option (List C))
    × (r ≡ reply.Track torn)
    × IfSome torn (λ ps. length ps ≤ length (other_keys d.records)))

module _ {C S : Type 0} (cmp : C → C → Ordering) where
  -- what is left of a node once these infos were applied, or nothing was
  abbrev pub IsLeft : NodeView C S → Option (List (Info C S)) → NodeView C S → Type 0
  IsLeft v None v2 = v2 ≡ v
  IsLeft v (Some infos) v2 =
      Updates cmp v.directory v2.directory infos × (v2 ≡ record v { directory = v2.directory })

  -- an answer that may be want of memory or not, and what is left
  pub record Answers
      (may : Bool) (o : FrameOutcome C S) (r : Received C S) (v v2 : NodeView C S) : Type 0 where
    pub answer : frames.IsFrameAnswer may o r
    pub left : IsLeft v (applied_with o r) v2

  -- .. to a frame at a moment, by these verdicts on the signatures of its infos
  abbrev pub AnswersFrame : Wire C S → Verdicts C S → List ℕ → ℕ → Received C S → NodeView C S →
      NodeView C S → Type 0
  AnswersFrame wire verdicts frame now r v v2 = let node = standing_of cmp wire v in
      Answers (frame_may_want_memory_by wire (verdicts node.judge) node frame now)
      (received_by wire (verdicts node.judge) node frame now) r v v2

  -- the infos that it tells have a spelling: they are made of values of their types
  abbrev pub TellsValues : Wire C S → (C → Type 0) → (S → Type 0) →
      List ℕ → ℕ → Received C S → NodeView C S → Type 0
  TellsValues wire IsKey IsSignature frame now r v =
      let node = standing_of cmp wire v in
      AreValues IsKey IsSignature (told_with (received_at wire node frame now) r)

  -- the frame that is asked with, and want of memory only where there is a set at the place
  pub record AsksWith (wire : Wire C S) (place : ℕ) {E : Type 0}
      (r : Result (Option (List ℕ)) E) (v : NodeView C S) : Type 0 where
    pub frame : IfOk r (λ frame. frame ≡ ask_frame_at wire (standing_of cmp wire v) place)
    pub err : OnErr r (is_some (slice_get v.directory.sets place) ≡ true)

  -- .. with bits as if no info but the own one were known
  pub record AsksForAll (wire : Wire C S) (place : ℕ) {E : Type 0}
      (r : Result (Option (List ℕ)) E) (v : NodeView C S) : Type 0 where
    pub frame : IfOk r (λ frame.
        frame ≡ frame_of_bits wire (full_bit_vec_at cmp v.directory place))
    pub err : OnErr r (is_some (slice_get v.directory.sets place) ≡ true)
