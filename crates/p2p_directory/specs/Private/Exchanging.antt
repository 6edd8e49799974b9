-- The parts of an exchange: what the replier makes of bits, and where it ends.
use Rattle.std.specs.Prelude.{ℕ, ◌≡◌, true, ◌⊎◌, List, Some, None, Result, Ok, Err}
use Rattle.p2p_discovery.specs.declared.codec.error.CodecError.{CodecError}
use Rattle.p2p_discovery.specs.declared.codec.error.CodecError.TheVariants.{Memory}
use Rattle.p2p_discovery.specs.declared.discovery.Info.{Info}
use Rattle.p2p_discovery.specs.declared.discovery.Payload.{Payload}
use Rattle.p2p_discovery.specs.declared.discovery.Payload.TheVariants as said
use Rattle.p2p_directory.specs.declared.node.exchanged.Exchanged.{Exchanged}
use Rattle.p2p_directory.specs.declared.node.exchanged.Exchanged.TheVariants as exchanged
use Rattle.p2p_directory.specs.Received.{Standing}
use Rattle.p2p_directory.specs.Exchange.{ExchangeOutcome, replied_at, IsExchangeAnswer}
use Rattle.p2p_directory.specs.Exchange.{infos_applied, HaveSpelling}

module _ {C S : Type 0} where
  -- the bits cannot be read, or want of memory
  abbrev pub ask_fault : CodecError → Exchanged C S
  ask_fault Memory = exchanged.Memory
  ask_fault e = exchanged.AskRefused e

  -- the infos cannot be read, or want of memory
  abbrev pub reply_fault : CodecError → Exchanged C S
  reply_fault Memory = exchanged.Memory
  reply_fault e = exchanged.ReplyRefused e

  -- the replier's part of an exchange that comes to this, by who asks, and when: a frame that
  -- spells infos, and it comes to what the asker makes of them; or an end of it, nothing applied
  abbrev pub RepliesToBits : (C → Type 0) → (S → Type 0) → (Payload C S → List ℕ) →
      (Standing C S → ℕ → ExchangeOutcome C S) → Result (List ℕ) (Exchanged C S) → Type 0
  RepliesToBits IsKey IsSignature spelling comes (Ok frame) =
      (infos : List (Info C S)) × HaveSpelling IsKey IsSignature infos
      × (frame ≡ spelling (said.Peers infos))
      × ((asker : Standing C S) (now : ℕ) → comes asker now ≡ replied_at asker now (Some infos))
  RepliesToBits IsKey IsSignature spelling comes (Err ended) = (infos_applied ended ≡ None)
      × ((asker : Standing C S) (now : ℕ) → IsExchangeAnswer true (comes asker now) ended)

  -- this holds, unless memory was refused
  abbrev pub UnlessRefused : Type 0 → Exchanged C S → Type 0
  UnlessRefused P r = (r ≡ exchanged.Memory) ⊎ P

  -- .. where there is a reply, or an end of the exchange
  abbrev pub UnlessReplyRefused : Type 0 → Result (List ℕ) (Exchanged C S) → Type 0
  UnlessReplyRefused P (Ok frame) = P
  UnlessReplyRefused P (Err ended) = UnlessRefused P ended
