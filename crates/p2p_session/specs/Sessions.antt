-- What a session does for a call, for a look at its node, and for a frame.
use Rattle.std.specs.Prelude.{◌≡◌, ◌⊎◌, ℕ, ◌*◌, ◌<◌, ◌≤◌, ◌^◌, min, Bool, List, [], length, Option}
use Rattle.std.specs.Prelude.{Some, None, Ok, Err, true, false, is_some, option_map}
use Rattle.std.specs.Duration.{as_nanos}
use Rattle.p2p_discovery.specs.BitVec.{bit_vec_spelling}
use Rattle.p2p_discovery.specs.Ingress.{ingress_spelling}
use Rattle.p2p_discovery.specs.Info.{infos_spelling}
use Rattle.p2p_tracker.specs.Calls.{Call}
use Rattle.p2p_tracker.specs.Calls.Call.{Update, Ask}
use Rattle.p2p_tracker.specs.Calls.Question.{InfosFor}
use Rattle.p2p_tracker.specs.Directory.{other_keys, dial_moment_in}
use Rattle.p2p_tracker.specs.Lists.{IsLeastOf}
use Rattle.p2p_directory.specs.Run.{was_made}
use Rattle.p2p_directory.specs.Nodes.{IsSame, AtEach, IsSteppedAt, standing_of, NodeView, NodeStandsAt}
use Rattle.p2p_directory.specs.Nodes.{made_of}
use Rattle.p2p_directory.specs.declared.node.setup.Setup.{Setup}
use Rattle.p2p_session.specs.declared.setup.Numbers.{Numbers}
use Rattle.p2p_directory.specs.declared.run.commands.Reply.{Reply}
use Rattle.p2p_directory.specs.declared.run.commands.Reply.TheVariants as reply
use Rattle.p2p_session.specs.declared.refusal.Refusal.{Refusal}
use Rattle.p2p_session.specs.declared.refusal.Refusal.TheVariants as refusal
use Rattle.p2p_session.specs.declared.session.Session.{Session}
use Rattle.p2p_session.specs.Schemes.{Scheme, wire}
use Rattle.p2p_session.specs.Frames.{TellsHeldOf, ReceivesAt, ChecksAt, verdicts_in}
use Rattle.p2p_session.specs.Answers.{Answer, Tells, Refuses, optional, moment_bytes, keys_bytes}
use Rattle.p2p_session.specs.Answers.{truth, refused, number, peers_bytes, update_bytes, info_bytes}
use Rattle.p2p_session.specs.Answers.{dialable_bytes, status_number}
use Rattle.p2p_session.specs.Answers.Answer.{Is, Bytes}
use Rattle.p2p_session.specs.Refusals.{number_of}
use Rattle.p2p_session.specs.Given.{Asked, and_then, key_at, moment_at, IsTrackRead, IsRead}
use Rattle.p2p_session.specs.Given.{infos_spelled, bits_spelled, IsSetup, IsSetupRefusal}
use Rattle.p2p_session.specs.Given.{numbers_at}
use Rattle.p2p_directory.specs.Received.{ask_frame_at}

-- no node has been made
abbrev pub IsFresh : {C S : Type 0} → Session C S → Type 0
IsFresh it = it.node ≡ None

-- what is answered fits the room, or is no length: nothing of it is lost
abbrev pub Fits : List ℕ → ℕ → Type 0
Fits out n = (n ≤ length out) ⊎ (2 ^ 63 < n)

-- a node does this; where there is none, that is answered, and none is made
abbrev pub OfNode : {C S : Type 0} → (NodeView C S → NodeView C S → Type 0) → List ℕ → List ℕ →
    Option (NodeView C S) → Option (NodeView C S) → ℕ → Type 0
OfNode Does out out2 None o n = (o ≡ None) × Refuses refusal.NoNode out out2 n
OfNode Does out out2 (Some v) None n = ⊥
OfNode Does out out2 (Some v) (Some v2) n = Does v v2

-- a look at the node
pub data Look : Type 0 where
  -- how many bytes the keys of all peers with a record have
  Room : Look
  -- how many sets are retained
  Retained : Look
  -- when the next cooldown may be forgotten
  NextCooled : Look
  -- what is held of a peer
  Held : (peer : List ℕ) → Look
  -- the frame that asks for infos
  Wanted : (place : ℕ) → Look
  -- what has to be verified of a frame
  Check : (frame : List ℕ) (seconds nanos : ℕ) → Look

-- a call at a moment
abbrev pub at_moment : {C S : Type 0} → ℕ → ℕ → (ℕ → Call C S) → Asked C S
at_moment seconds nanos f = and_then (moment_at seconds nanos) (λ now. Ok (f now))

-- an answer that may be spelled in memory of its own, before it is written
abbrev pub is_spelled : {C S : Type 0} → Reply C S → Bool
is_spelled (reply.Infos (Some infos)) = true
is_spelled (reply.GetRandomBitVec (Some bits)) = true
is_spelled _ = false

module _ {C S : Type 0} (k : Scheme C S) where
  -- what is answered to each reply
  abbrev pub answer_to : Reply C S → Answer
  answer_to (reply.Track torn) = optional (keys_bytes k) torn
  answer_to (reply.Dial granted) = truth granted
  answer_to (reply.Listen granted) = truth granted
  answer_to reply.Connect = Is 1
  answer_to reply.Release = Is 1
  answer_to reply.UpdatePeers = Is 1
  answer_to (reply.Block taken) = truth taken
  answer_to (reply.UnblockExpired some) = truth some
  answer_to (reply.ForgetCooled n) = Is n
  answer_to (reply.NextUnblock moment) = optional (λ t. moment_bytes (as_nanos t)) moment
  answer_to (reply.BlockedPeers peers) = Bytes (keys_bytes k peers)
  answer_to (reply.Status status) = status_number status
  answer_to (reply.GetPeerSet peers) = optional (peers_bytes k) peers
  answer_to (reply.LatestSetIndex index) = optional number index
  answer_to (reply.LatestUpdate update) = optional (update_bytes k) update
  answer_to (reply.All peers) = Bytes (peers_bytes k peers)
  answer_to (reply.Info info) = optional (info_bytes k) info
  answer_to (reply.Ingress ingress) = optional ingress_spelling ingress
  answer_to (reply.Infos infos) =
      optional (λ v. infos_spelling k.key.spelled k.signature.spelled v.items) infos
  answer_to (reply.GetRandomBitVec bits) = optional bit_vec_spelling bits
  answer_to (reply.Eligible is) = truth is
  answer_to (reply.Acceptable is) = truth is
  answer_to (reply.MayListen is) = truth is
  answer_to (reply.Dialable d) =
      Bytes (dialable_bytes k (option_map as_nanos d.next_query_at) d.peers.items)
  answer_to (reply.Tracked n) = Is n
  answer_to reply.NotReserved = refused refusal.NotReserved
  answer_to reply.NotHeld = refused refusal.NotHeld
  answer_to reply.OutOfMemory = refused refusal.Memory

  -- the answer to a reply, or want of memory where it has to be spelled
  abbrev pub TellsReply : Reply C S → List ℕ → List ℕ → ℕ → Type 0
  TellsReply r out out2 n =
      ((is_spelled r ≡ true) × Refuses refusal.Memory out out2 n) ⊎ Tells (answer_to r) out out2 n

  -- ---- one call

  -- the node made this call, wherever the calls accepted before led: the reply is that of a run, the
  -- node stands at the next point, and the reply is answered
  pub record Steps (call : Call C S) (r : Reply C S) (v v2 : NodeView C S)
      (out out2 : List ℕ) (n : ℕ) : Type 0 where
    pub stepped : AtEach k.key.cmp v (λ m calls. IsSteppedAt m calls call r v2)
    pub unchanged : was_made r ≡ false → IsSame v v2
    pub told : TellsReply r out out2 n

  -- the call that was asked for is made, or why it can't be read is answered
  abbrev pub Makes : Asked C S → List ℕ → List ℕ → NodeView C S → NodeView C S → ℕ → Type 0
  Makes (Ok call) out out2 v v2 n = (r : Reply C S) × Steps call r v v2 out out2 n
  Makes (Err why) out out2 v v2 n = (v2 ≡ v) × Refuses why out out2 n

  -- .. by the node of a session
  abbrev pub Serves : Asked C S → List ℕ → List ℕ → Option (NodeView C S) → Option (NodeView C S) →
      ℕ → Type 0
  Serves given out out2 o o2 n = OfNode (λ v v2. Makes given out out2 v v2 n) out out2 o o2 n

  -- ---- each call

  abbrev pub of_peer : List ℕ → (C → Call C S) → Asked C S
  of_peer peer f = and_then (key_at k peer) (λ p. Ok (f p))

  abbrev pub of_peer_at : List ℕ → ℕ → ℕ → (C → ℕ → Call C S) → Asked C S
  of_peer_at peer seconds nanos f = and_then (key_at k peer) (λ p. at_moment seconds nanos (f p))

  abbrev pub with_draw : List ℕ → ℕ → ℕ → ℕ → ℕ → (C → ℕ → ℕ → Call C S) → Asked C S
  with_draw peer seconds nanos draw_seconds draw_nanos f =
      and_then (key_at k peer) (λ p. and_then (moment_at seconds nanos) (λ now.
      at_moment draw_seconds draw_nanos (f p now)))

  -- how many bytes the keys of all peers with a record have
  abbrev pub room_for : NodeView C S → ℕ
  room_for v = min (length (other_keys v.directory.records) * k.key.SIZE) (2 ^ 63)

  -- a set is taken, as it was read, and its answer is whole; where the room is shorter than the keys
  -- of all peers with a record it isn't
  abbrev pub Tracks : ℕ → List ℕ → List ℕ → List ℕ → List ℕ → NodeView C S → NodeView C S → ℕ →
      Type 0
  Tracks index primary secondary out out2 v v2 n =
      ((length out < room_for v) × (v2 ≡ v) × Refuses refusal.NoRoom out out2 n)
      ⊎ ((room_for v ≤ length out) × Fits out n × ((given : Asked C S)
      × IsTrackRead k index primary secondary given × Makes given out out2 v v2 n))

  -- this call is made, unless memory to read its argument, these bytes, was refused
  abbrev pub ServesRead : List ℕ → Asked C S → List ℕ → List ℕ → Option (NodeView C S) →
      Option (NodeView C S) → ℕ → Type 0
  ServesRead bytes it out out2 o o2 n =
      (given : Asked C S) × IsRead bytes given it × Serves given out out2 o o2 n

  -- infos that are offered to their peers, and bits that are answered by infos
  abbrev pub updated_by : List ℕ → Asked C S
  updated_by infos = and_then (infos_spelled k infos) (λ is. Ok (Update is))

  abbrev pub infos_for : List ℕ → ℕ → ℕ → Asked C S
  infos_for bits seconds nanos = and_then (bits_spelled bits) (λ v.
      at_moment seconds nanos (λ now. Ask (InfosFor v.index v.bits now)))

  -- ---- a node is made

  -- this node is new, and made from the setup
  abbrev pub IsMade : Option (NodeView C S) → Setup C S → Type 0
  IsMade None given = ⊥
  IsMade (Some v) given = NodeStandsAt (made_of k.key.cmp given) [] v

  -- why none is made: there is one already, or the setup is refused
  abbrev pub IsInitRefusal : Numbers → List ℕ → List ℕ → Option (NodeView C S) → Refusal → Type 0
  IsInitRefusal numbers bootstrappers myself (Some v) why = why ≡ refusal.BadSetting
  IsInitRefusal numbers bootstrappers myself None why =
      IsSetupRefusal k (numbers_at numbers) bootstrappers myself why

  -- 1 where there was none and it is made from these; else why not, and nothing changes
  pub record InitsBy (numbers : Numbers) (namespace bootstrappers myself : List ℕ)
      (before after : Session C S) (n : ℕ) : Type 0 where
    pub made : n ≡ 1 → (before.node ≡ None) × ((given : Setup C S)
        × IsSetup k numbers namespace bootstrappers myself given × IsMade after.node given)
    pub refused : ¬ (n ≡ 1) → (after.node ≡ before.node) × ((why : Refusal)
        × IsInitRefusal numbers bootstrappers myself before.node why × (n ≡ number_of why))

  -- ---- looks and frames

  -- what a look tells
  abbrev pub Shows : Look → NodeView C S → List ℕ → List ℕ → ℕ → Type 0
  Shows Room v out out2 n = Tells (Is (room_for v)) out out2 n
  Shows Retained v out out2 n = Tells (Is (length v.directory.sets)) out out2 n
  Shows NextCooled v out out2 n = (next : Option ℕ)
      × IsLeastOf (dial_moment_in k.key.cmp v.directory) next
      × Tells (optional moment_bytes next) out out2 n
  Shows (Held peer) v out out2 n = TellsHeldOf k v (key_at k peer) out out2 n
  Shows (Wanted place) v out out2 n =
      let frame = ask_frame_at (wire k) (standing_of k.key.cmp (wire k) v) place in
      Tells (optional (λ bytes. bytes) frame) out out2 n
      ⊎ (Refuses refusal.Memory out out2 n × (is_some frame ≡ true))
  Shows (Check frame seconds nanos) v out out2 n =
      ChecksAt k v frame (moment_at seconds nanos) out out2 n

  -- .. and nothing changes
  abbrev pub Looks : Look → List ℕ → List ℕ → Option (NodeView C S) → Option (NodeView C S) → ℕ →
      Type 0
  Looks look out out2 o o2 n =
      OfNode (λ v v2. (v2 ≡ v) × Shows look v out out2 n) out out2 o o2 n

  -- a frame is taken by what was said of the signatures of its infos
  abbrev pub Receives : List ℕ → ℕ → ℕ → List ℕ → List ℕ → List ℕ → Option (NodeView C S) →
      Option (NodeView C S) → ℕ → Type 0
  Receives frame seconds nanos verdicts out out2 o o2 n = OfNode (λ v v2.
      ReceivesAt k (verdicts_in verdicts) frame (moment_at seconds nanos) out out2 v v2 n)
      out out2 o o2 n
