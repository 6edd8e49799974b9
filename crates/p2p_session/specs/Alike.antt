-- What a number and bytes tell of the reply that they answer: all of it, up to the form in which it
-- is held.
use Rattle.std.specs.Prelude.{◌≡◌, ℕ, ◌<◌, ◌/◌, ◌^◌, Bool, List, length, Option, Some, None, IfSome}
use Rattle.std.specs.Prelude.{option_map}
use Rattle.std.specs.Duration.{as_nanos}
use Rattle.std.specs.List.{AllByRecursion}
use Rattle.std.specs.declared.time.Duration.{Duration}
use Rattle.p2p_discovery.specs.declared.codec.error.CodecError.{CodecError}
use Rattle.p2p_discovery.specs.declared.codec.error.CodecError.TheVariants as fault
use Rattle.p2p_discovery.specs.declared.discovery.Error.{Error}
use Rattle.p2p_discovery.specs.declared.discovery.Error.TheVariants as error
use Rattle.p2p_tracker.specs.Calls.{Call}
use Rattle.p2p_discovery.specs.Ingress.{IsIngress}
use Rattle.p2p_tracker.specs.declared.directory.Metadata.{Metadata}
use Rattle.p2p_tracker.specs.declared.directory.Metadata.TheVariants.{Dialer, Listener}
use Rattle.p2p_tracker.specs.declared.directory.TrackedPeers.{TrackedPeers}
use Rattle.p2p_directory.specs.declared.node.received.Received.{Received}
use Rattle.p2p_directory.specs.declared.node.received.Received.TheVariants as received
use Rattle.p2p_directory.specs.declared.run.commands.Reply.{Reply}
use Rattle.p2p_directory.specs.declared.run.commands.Reply.TheVariants as reply
use Rattle.p2p_directory.specs.Nodes.{Made, NodeView, IsStepAnswer}
use Rattle.p2p_session.specs.declared.refusal.Refusal.TheVariants as refusal
use Rattle.p2p_session.specs.Schemes.{Scheme}
use Rattle.p2p_session.specs.Refusals.{number_of}
use Rattle.p2p_session.specs.Answers.{Tells}
use Rattle.p2p_session.specs.Given.{IsInfoOfKeys}
use Rattle.p2p_session.specs.Frames.{Hears, received_answer}
use Rattle.p2p_session.specs.Sessions.{Fits, TellsReply}

-- one reply, where durations are the same that have the same nanoseconds, and lists that have the
-- same items
abbrev pub AreAlike : {C S : Type 0} → Reply C S → Reply C S → Type 0
AreAlike (reply.NextUnblock t) (reply.NextUnblock t2) =
    option_map as_nanos t ≡ option_map as_nanos t2
AreAlike (reply.Infos infos) (reply.Infos infos2) =
    option_map (λ v. v.items) infos ≡ option_map (λ v. v.items) infos2
AreAlike (reply.Dialable d) (reply.Dialable d2) = (d.peers.items ≡ d2.peers.items)
    × (option_map as_nanos d.next_query_at ≡ option_map as_nanos d2.next_query_at)
AreAlike r r2 = r ≡ r2

-- the room is one that a host can have, the answer of this number was written if it is bytes, and
-- it isn't want of memory
pub record IsWhole (out : List ℕ) (n : ℕ) : Type 0 where
  pub room : length out < 2 ^ 63
  pub fits : Fits out n
  pub no_want : ¬ (n ≡ number_of refusal.Memory)

-- ---- values of their types

-- the seconds of a duration fit 64 bits
abbrev pub IsDuration : Duration → Type 0
IsDuration t = as_nanos t / 1_000_000_000 < 2 ^ 64

-- the numbers in why bytes are no payload fit 64 bits
abbrev pub IsFault : CodecError → Type 0
IsFault (fault.ExtraData n) = n < 2 ^ 64
IsFault (fault.InvalidLength n) = n < 2 ^ 64
IsFault (fault.InvalidVarint n) = n < 2 ^ 64
IsFault (fault.InvalidEnum n) = n < 2 ^ 64
IsFault _ = Unit {0}

-- .. in why infos are refused
abbrev pub IsError : Error → Type 0
IsError (error.TooManyPeers n) = n < 2 ^ 64
IsError _ = Unit {0}

-- this is held of a peer, if anything is
abbrev pub IsHeldOf : {C S : Type 0} → C → Option (Metadata C S) → Type 0
IsHeldOf peer None = Unit {0}
IsHeldOf peer (Some (Listener p)) = p ≡ peer
IsHeldOf peer (Some (Dialer p ingress)) = (p ≡ peer) × IsIngress ingress

module _ {C S : Type 0} (k : Scheme C S) where
  -- keys, fewer than a host can have bytes
  abbrev pub AreKeyValues : List C → Type 0
  AreKeyValues keys = AllByRecursion k.key.IsValue keys × (length keys < 2 ^ 63)

  -- .. of both roles
  abbrev pub ArePeers : TrackedPeers C S → Type 0
  ArePeers peers = AreKeyValues peers.primary × AreKeyValues peers.secondary

  -- what a reply holds
  abbrev pub HasValues : Reply C S → Type 0
  HasValues (reply.Track torn) = IfSome torn AreKeyValues
  HasValues (reply.ForgetCooled n) = n < 2 ^ 63
  HasValues (reply.NextUnblock moment) = IfSome moment IsDuration
  HasValues (reply.BlockedPeers peers) = AreKeyValues peers
  HasValues (reply.GetPeerSet peers) = IfSome peers ArePeers
  HasValues (reply.LatestSetIndex index) = IfSome index (λ n. n < 2 ^ 64)
  HasValues (reply.LatestUpdate update) =
      IfSome update (λ u. (u.index < 2 ^ 64) × ArePeers u.latest × ArePeers u.all)
  HasValues (reply.All peers) = ArePeers peers
  HasValues (reply.Info info) = IfSome info (IsInfoOfKeys k)
  HasValues (reply.Ingress ingress) = IfSome ingress IsIngress
  HasValues (reply.Infos infos) =
      IfSome infos (λ v. AllByRecursion (IsInfoOfKeys k) v.items × (length v.items < 2 ^ 32))
  HasValues (reply.GetRandomBitVec bits) =
      IfSome bits (λ v. (v.index < 2 ^ 64) × (length v.bits < 2 ^ 64))
  HasValues (reply.Dialable d) =
      AreKeyValues d.peers.items × IfSome d.next_query_at IsDuration
  HasValues (reply.Tracked n) = n < 2 ^ 63
  HasValues _ = Unit {0}

  -- .. what is returned for a frame
  abbrev pub HasValuesReceived : Received C S → Type 0
  HasValuesReceived (received.Data d) = (d.channel < 2 ^ 64) × (length d.message < 2 ^ 64)
  HasValuesReceived (received.Greeted key) = k.key.IsValue key
  HasValuesReceived (received.Applied count) = count < 2 ^ 64
  HasValuesReceived (received.Codec fault) = IsFault fault
  HasValuesReceived (received.Invalid error) = IsError error
  HasValuesReceived _ = Unit {0}

  -- ---- answers

  -- a number, with the room before and after it, tells this reply of some node to a call
  pub record TellsOfCall (call : Call C S) (r : Reply C S) (out out2 : List ℕ) (n : ℕ) :
      Type 0 where
    pub m : Made C S
    pub before : List (Call C S)
    pub answer : IsStepAnswer m before call r
    pub values : HasValues r
    pub told : TellsReply k r out out2 n

  -- .. what is returned for a frame, by some verdicts and at some moment
  pub record TellsOfFrame (frame : List ℕ) (r : Received C S) (out out2 : List ℕ) (n : ℕ) :
      Type 0 where
    pub verdicts : List Bool
    pub now : ℕ
    pub v : NodeView C S
    pub v2 : NodeView C S
    pub heard : Hears k verdicts frame now v v2 r
    pub values : HasValuesReceived r
    pub told : Tells (received_answer k r) out out2 n
