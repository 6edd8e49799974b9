-- What is answered to a reply: a number, or bytes at the front of the host's room.
use Rattle.std.specs.Prelude.{◌≡◌, ℕ, ◌+◌, ◌/◌, ◌%◌, ◌^◌, min, Bool, true, false, nat_le}
use Rattle.std.specs.Prelude.{if◌then◌else◌, List, [], ◌∷◌, ◌++◌, take, drop, length, flat_map}
use Rattle.std.specs.Prelude.{Option, Some, None}
use Rattle.std.specs.Int.{w32, w64, to_be_bytes}
use Rattle.p2p_discovery.specs.declared.discovery.Info.{Info}
use Rattle.p2p_discovery.specs.Info.{info_spelling}
use Rattle.p2p_discovery.specs.Judgement.{signed_bytes}
use Rattle.p2p_discovery.specs.Varint.{varint32}
use Rattle.p2p_tracker.specs.declared.directory.PeerSetUpdate.{PeerSetUpdate}
use Rattle.p2p_tracker.specs.declared.directory.TrackedPeers.{TrackedPeers}
use Rattle.p2p_tracker.specs.declared.record.Status.{Status}
use Rattle.p2p_tracker.specs.declared.record.Status.TheVariants.{Inert, Reserved, Active}
use Rattle.p2p_session.specs.declared.answer.Values.{Values}
use Rattle.p2p_session.specs.declared.answer.Values.TheVariants as values
use Rattle.p2p_session.specs.declared.refusal.Refusal.{Refusal}
use Rattle.p2p_session.specs.declared.refusal.Refusal.TheVariants as refusal
use Rattle.p2p_session.specs.Schemes.{Scheme}
use Rattle.p2p_session.specs.Refusals.{number_of}

abbrev pub number : ℕ → List ℕ
number n = to_be_bytes w64 n

-- these, one after the other
abbrev pub joined : List (List ℕ) → List ℕ
joined [] = []
joined (bytes ∷ more) = bytes ++ joined more

-- a moment of so many nanoseconds: its seconds, and its nanoseconds below a second
abbrev pub moment_bytes : ℕ → List ℕ
moment_bytes t = joined (number (t / 1_000_000_000) ∷ to_be_bytes w32 (t % 1_000_000_000) ∷ [])

-- a number, or bytes
pub data Answer : Type 0 where
  Is : (n : ℕ) → Answer
  Bytes : (bytes : List ℕ) → Answer

abbrev pub truth : Bool → Answer
truth true = Is 1
truth false = Is 0

abbrev pub refused : Refusal → Answer
refused why = Is (number_of why)

-- the bytes of what there is
abbrev pub optional : {A : Type 0} → (A → List ℕ) → Option A → Answer
optional bytes None = refused refusal.Absent
optional bytes (Some x) = Bytes (bytes x)

abbrev pub status_number : Option Status → Answer
status_number None = refused refusal.Absent
status_number (Some Inert) = Is 0
status_number (Some Reserved) = Is 1
status_number (Some Active) = Is 2

-- the bytes stand in the room from a place on
abbrev pub put_at : ℕ → List ℕ → List ℕ → List ℕ
put_at at bytes out = take at out ++ (bytes ++ drop (at + length bytes) out)

-- bytes are answered: their length, or where they are more the greatest that is told, and they
-- stand at the front of the room, where they fit; else nothing is written
pub record IsAnswered (bytes out out2 : List ℕ) (n : ℕ) : Type 0 where
  pub count : n ≡ min (length bytes) (2 ^ 63)
  pub room : out2 ≡ (if nat_le n (length out) then put_at 0 bytes out else out)

-- what is answered and written
abbrev pub Tells : Answer → List ℕ → List ℕ → ℕ → Type 0
Tells (Is m) out out2 n = (n ≡ m) × (out2 ≡ out)
Tells (Bytes bytes) out out2 n = IsAnswered bytes out out2 n

-- nothing is written, and this is answered
abbrev pub Refuses : Refusal → List ℕ → List ℕ → ℕ → Type 0
Refuses why out out2 n = Tells (refused why) out out2 n

module _ {C S : Type 0} (k : Scheme C S) where
  -- keys, one after the other
  abbrev pub keys_bytes : List C → List ℕ
  keys_bytes keys = flat_map k.key.spelled keys

  -- an info whose signature is asked about: how long its signed bytes are, its key, the signed
  -- bytes, the signature
  abbrev pub asked_bytes : Info C S → List ℕ
  asked_bytes i = let signed = signed_bytes i.ingress i.timestamp in
      number (length signed) ++ (k.key.spelled i.public_key ++
      (signed ++ k.signature.spelled i.signature))

  -- an info, encoded
  abbrev pub info_bytes : Info C S → List ℕ
  info_bytes = info_spelling k.key.spelled k.signature.spelled

  -- the bytes of a part of an answer
  abbrev pub values_bytes : Values C S → List ℕ
  values_bytes (values.Bytes bytes) = bytes.now
  values_bytes (values.Count n) = varint32 n
  values_bytes (values.Key key) = k.key.spelled key.now
  values_bytes (values.Keys keys) = keys_bytes keys.now
  values_bytes (values.Info info) = info_bytes info.now
  values_bytes (values.Infos infos) = flat_map info_bytes infos.now
  values_bytes (values.Question info) = asked_bytes info.now
  values_bytes (values.Questions infos) = flat_map asked_bytes infos.now

  -- how many primary peers there are, they, and the secondary peers
  abbrev pub peers_bytes : TrackedPeers C S → List ℕ
  peers_bytes peers = joined (
      number (length peers.primary)
      ∷ keys_bytes peers.primary ∷ keys_bytes peers.secondary ∷ [])

  -- the index, how many peers the first three lists have, and the four lists
  abbrev pub update_bytes : PeerSetUpdate C S → List ℕ
  update_bytes update = joined (
      number update.index
      ∷ number (length update.latest.primary)
      ∷ number (length update.latest.secondary)
      ∷ number (length update.all.primary)
      ∷ keys_bytes update.latest.primary ∷ keys_bytes update.latest.secondary
      ∷ keys_bytes update.all.primary ∷ keys_bytes update.all.secondary ∷ [])

  -- whether a moment follows, the moment, and the peers
  abbrev pub dialable_bytes : Option ℕ → List C → List ℕ
  dialable_bytes None peers = joined ((0 ∷ []) ∷ keys_bytes peers ∷ [])
  dialable_bytes (Some t) peers = joined (
      (1 ∷ []) ∷ number (t / 1_000_000_000) ∷ to_be_bytes w32 (t % 1_000_000_000)
      ∷ keys_bytes peers ∷ [])
