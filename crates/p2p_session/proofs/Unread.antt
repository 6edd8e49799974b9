-- What could not be read is refused.
use Rattle.std.proofs.Common.{◌≡◌, ◌≢◌, Err, refl, ℕ, List, [], ◌∷◌, Option, true, ◌<◌, ◌⊎◌, inl, inr, length, arith}
use Rattle.p2p_discovery.specs.Reading.{Reading, Fails, whole}
use Rattle.p2p_discovery.specs.BitVec.{bit_vec_read_at}
use Rattle.p2p_discovery.specs.Info.{info_at}
use Rattle.p2p_discovery.specs.Lists.{list_at}
use Rattle.p2p_discovery.specs.Counted.{length_at}
use Rattle.p2p_discovery.specs.Varint.{groups_at}
use Rattle.p2p_discovery.specs.Ingress.{ingress_at}
use Rattle.p2p_discovery.specs.Payload.{payload_at}
use Rattle.p2p_discovery.specs.declared.codec.error.RangeCfg.{RangeCfg}
use Rattle.p2p_discovery.specs.declared.discovery.PayloadConfig.{PayloadConfig}
use Rattle.p2p_discovery.specs.declared.codec.error.CodecError.{CodecError}
use Rattle.p2p_discovery.specs.declared.codec.error.CodecError.TheVariants.{Memory}
use Rattle.p2p_session.specs.declared.refusal.Refusal.{Refusal}
use Rattle.p2p_session.specs.declared.refusal.Refusal.TheVariants as refusal
use Rattle.p2p_session.specs.Given.{spelled}

pub refused_as : {A : Type 0} (why : Refusal) (e : CodecError) (r : Reading A) → e ≢ Memory → Fails e r →
    spelled why r.outcome ≡ Err why
refused_as why e r h fails = rw (fails.0 h) refl

-- WHERE MEMORY IS ASKED FOR, there are bytes

pub infos_grow : {A : Type 0} (limit : RangeCfg) (least : ℕ) (r : List ℕ → Reading A) (bytes : List ℕ) →
    (whole (list_at limit least r) bytes).grows ≡ true → 0 < length bytes
unfolding list_at length_at groups_at
infos_grow limit least r [] grows = absurd cc
infos_grow limit least r (b ∷ bytes) grows = omega arith

pub bits_grow : (limit : ℕ) (bytes : List ℕ) → (whole (bit_vec_read_at limit) bytes).grows ≡ true → 0 < length bytes
unfolding bit_vec_read_at groups_at
bits_grow limit [] grows = absurd cc
bits_grow limit (b ∷ bytes) grows = omega arith

module _ {C S : Type 0} (key_size : ℕ) (key : List ℕ → Option C) (signature_size : ℕ) (signature : List ℕ → Option S) where
  pub info_grows : (bytes : List ℕ) → (whole (info_at key_size key signature_size signature) bytes).grows ≡ true →
      0 < length bytes
  unfolding info_at ingress_at
  info_grows [] grows = absurd cc
  info_grows (b ∷ bytes) grows = omega arith

  pub payload_grows : (limits : PayloadConfig) (bytes : List ℕ) →
      (whole (payload_at key_size key signature_size signature limits) bytes).grows ≡ true → 0 < length bytes
  unfolding payload_at
  payload_grows limits [] grows = absurd cc
  payload_grows limits (b ∷ bytes) grows = omega arith

-- why bytes that spell nothing are refused, by the fault that was met
pub unspelled : {why : Refusal} {fault : CodecError} (bytes : List ℕ) {Spelled : Type 0} →
    (fault ≡ Memory → 0 < length bytes) → (Spelled → fault ≡ Memory) →
    ((why ≡ refusal.Memory) × (fault ≡ Memory)) ⊎ ((why ≡ refusal.BadInfo) × (fault ≢ Memory)) →
    ((why ≡ refusal.Memory) × (0 < length bytes)) ⊎ ((why ≡ refusal.BadInfo) × (¬ Spelled))
unspelled bytes some only (inl memory) = inl (memory.0, some memory.1)
unspelled bytes some only (inr other) = inr (other.0, λ spelled. other.1 (only spelled))
