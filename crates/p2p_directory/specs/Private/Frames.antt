-- Frames: what has a spelling, what is answered where one cannot be read, and what is read of one
-- that was spelled.
use Rattle.std.specs.Prelude.{ℕ, ◌≡◌, Bool, true, false, ◌⊎◌, List, Result, Ok, Err}
use Rattle.p2p_discovery.specs.declared.codec.error.CodecError.{CodecError}
use Rattle.p2p_discovery.specs.declared.codec.error.CodecError.TheVariants.{InvalidLength, Memory}
use Rattle.p2p_discovery.specs.declared.discovery.BitVec.{BitVec}
use Rattle.p2p_discovery.specs.declared.discovery.Info.{Info}
use Rattle.p2p_discovery.specs.declared.discovery.Payload.{Payload}
use Rattle.p2p_discovery.specs.declared.discovery.Payload.TheVariants as said
use Rattle.p2p_directory.specs.declared.node.received.Received.{Received}
use Rattle.p2p_directory.specs.declared.node.received.Received.TheVariants as received
use Rattle.p2p_directory.specs.Exchange.{HasSpelling, HaveSpelling}

-- a fault, or want of memory
abbrev pub fault_answer : {C S : Type 0} → CodecError → Received C S
fault_answer Memory = received.Memory
fault_answer e = received.Codec e

-- a frame spells bits, as payloads are spelled
abbrev pub SpellsBits : {C S : Type 0} → (Payload C S → List ℕ) → List ℕ → Type 0
SpellsBits spelling frame = (v : BitVec) × HasSpelling v × (frame ≡ spelling (said.BitVec v))

-- .. infos
abbrev pub SpellsInfos : {C S : Type 0} → (C → Type 0) → (S → Type 0) → (Payload C S → List ℕ) →
    List ℕ → Type 0
SpellsInfos {C} {S} IsKey IsSignature spelling frame =
    (infos : List (Info C S)) × HaveSpelling IsKey IsSignature infos
    × (frame ≡ spelling (said.Peers infos))

-- what was spelled is read as it is, or refused for its count where that is above the limit; or
-- memory was refused
abbrev pub IsReadBack : {A : Type 0} → Bool → ℕ → A → Result A CodecError → Type 0
IsReadBack above count x (Ok y) = (above ≡ false) × (y ≡ x)
IsReadBack above count x (Err e) = (e ≡ Memory) ⊎ ((above ≡ true) × (e ≡ InvalidLength count))
