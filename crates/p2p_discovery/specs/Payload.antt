-- What peers tell each other: which payloads there are, their spelling, and what limits admit.
use Rattle.std.specs.Prelude.{ℕ, ◌+◌, ◌*◌, ◌<◌, ◌≤◌, ◌^◌, max, List, [], ◌∷◌, length, Option, ◌==◌}
use Rattle.std.specs.Prelude.{if◌then◌else◌}
use Rattle.std.specs.List.{AllByRecursion}
use Rattle.p2p_discovery.specs.declared.codec.error.CodecError.TheVariants.{InvalidEnum}
use Rattle.p2p_discovery.specs.declared.codec.error.RangeCfg.{RangeCfg}
use Rattle.p2p_discovery.specs.declared.discovery.Info.{Info}
use Rattle.p2p_discovery.specs.declared.discovery.Payload.{Payload}
use Rattle.p2p_discovery.specs.declared.discovery.Payload.TheVariants as said
use Rattle.p2p_discovery.specs.declared.discovery.PayloadConfig.{PayloadConfig}
use Rattle.p2p_discovery.specs.Reading.{Reading, ◌>>=◌, reads, refuses, byte_at}
use Rattle.p2p_discovery.specs.Varint.{varint64}
use Rattle.p2p_discovery.specs.Data as messages
use Rattle.p2p_discovery.specs.Info.{IsInfo, IsKeyed, info_spelling, info_at, infos_spelling}
use Rattle.p2p_discovery.specs.Info.{infos_at, AreAllowed}
use Rattle.p2p_discovery.specs.Bits.{byte_count}
use Rattle.p2p_discovery.specs.BitVec as bits

-- at most so many
abbrev pub up_to : ℕ → RangeCfg
up_to greatest = record { least = 0; greatest = greatest }

-- the prefix byte of each form
abbrev pub prefix_of : {C S : Type 0} → Payload C S → ℕ
prefix_of (said.Data d) = 0
prefix_of (said.Greeting i) = 1
prefix_of (said.BitVec v) = 2
prefix_of (said.Peers is) = 3

-- the infos that a payload has, in their order
abbrev pub infos_of_payload : {C S : Type 0} → Payload C S → List (Info C S)
infos_of_payload (said.Greeting i) = i ∷ []
infos_of_payload (said.Peers is) = is
infos_of_payload _ = []

-- numbers fit, and ingresses are ones
abbrev pub IsPayload : {C S : Type 0} → Payload C S → Type 0
IsPayload (said.Data d) = d.channel < 2 ^ 64
IsPayload (said.Greeting i) = IsInfo i
IsPayload (said.BitVec v) = v.index < 2 ^ 64
IsPayload (said.Peers is) = AllByRecursion IsInfo is

-- keys and signatures are values of their types
abbrev pub IsKeyedPayload : {C S : Type 0} → (C → Type 0) → (S → Type 0) → Payload C S → Type 0
IsKeyedPayload IsKey IsSignature (said.Data d) = Unit {0}
IsKeyedPayload IsKey IsSignature (said.Greeting i) = IsKeyed IsKey IsSignature i
IsKeyedPayload IsKey IsSignature (said.BitVec v) = Unit {0}
IsKeyedPayload IsKey IsSignature (said.Peers is) = AllByRecursion (IsKeyed IsKey IsSignature) is

-- the limits and the wire admit what is counted; keys and signatures are values of their types
abbrev pub IsAdmitted : {C S : Type 0} → (C → Type 0) → (S → Type 0)
    → PayloadConfig → Payload C S → Type 0
IsAdmitted IsKey IsSignature limits (said.Data d) =
    messages.IsDataAllowed (up_to limits.max_data_length) d
IsAdmitted IsKey IsSignature limits (said.Greeting i) = IsKeyed IsKey IsSignature i
IsAdmitted IsKey IsSignature limits (said.BitVec v) = bits.IsBitVecAllowed limits.max_bit_vec v
IsAdmitted IsKey IsSignature limits (said.Peers is) =
    AreAllowed IsKey IsSignature (up_to limits.max_peers) is

-- ---- spelling

-- what stands behind the prefix
abbrev pub body_spelling : {C S : Type 0} → (C → List ℕ) → (S → List ℕ) → Payload C S → List ℕ
body_spelling key signature (said.Data d) = messages.data_spelling d
body_spelling key signature (said.Greeting i) = info_spelling key signature i
body_spelling key signature (said.BitVec v) = bits.bit_vec_spelling v
body_spelling key signature (said.Peers is) = infos_spelling key signature is

-- the prefix, then the rest
abbrev pub payload_spelling : {C S : Type 0} → (C → List ℕ) → (S → List ℕ) → Payload C S → List ℕ
payload_spelling key signature p = prefix_of p ∷ body_spelling key signature p

-- the message and the list have lengths that can be spelled
abbrev pub CanSpell : {C S : Type 0} → Payload C S → Type 0
CanSpell (said.Data d) = length d.message < 2 ^ 32
CanSpell (said.Greeting i) = Unit {0}
CanSpell (said.BitVec v) = Unit {0}
CanSpell (said.Peers is) = length is < 2 ^ 32

module _ {C S : Type 0} (key_size : ℕ) (key : List ℕ → Option C)
    (signature_size : ℕ) (signature : List ℕ → Option S) (limits : PayloadConfig) where
  -- what is read behind each prefix; another one is refused
  unfoldable pub body_at : ℕ → List ℕ → Reading (Payload C S)
  body_at prefix rest =
      if prefix == 0 then
      (messages.data_at (up_to limits.max_data_length) >>= λ d. reads (said.Data d)) rest
      else if prefix == 1 then
      (info_at key_size key signature_size signature >>= λ i. reads (said.Greeting i)) rest
      else if prefix == 2 then
      (bits.bit_vec_read_at limits.max_bit_vec >>= λ v. reads (said.BitVec v)) rest
      else if prefix == 3 then
      (infos_at key_size key signature_size signature (up_to limits.max_peers)
      >>= λ is. reads (said.Peers is)) rest
      else refuses (InvalidEnum prefix) rest

  unfoldable pub payload_at : List ℕ → Reading (Payload C S)
  payload_at = byte_at >>= body_at

-- ---- sizes

-- the greatest size of a payload that isn't data, where an info has at most so many bytes
abbrev pub gossip_size : ℕ → ℕ → ℕ → ℕ
gossip_size info max_bit_vec max_peers =
    1 + max info (max (10 + (length (varint64 max_bit_vec) + byte_count max_bit_vec))
    (max_peers * info + 5))

-- what a payload holds needs no more than so many bytes, where an info has at least `least` of them
abbrev pub IsBoundedBy : {C S : Type 0} → ℕ → ℕ → Payload C S → Type 0
IsBoundedBy least bytes (said.Data d) = length d.message ≤ bytes
IsBoundedBy least bytes (said.Greeting i) = least ≤ bytes
IsBoundedBy least bytes (said.BitVec v) = length v.bits ≤ 8 * bytes
IsBoundedBy least bytes (said.Peers is) = length is * least ≤ bytes
