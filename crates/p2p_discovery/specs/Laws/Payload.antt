-- Payloads are read by their spelling, and those that aren't data are short.
use Rattle.std.proofs.Common.{◌≡◌, ℕ, ◌<◌, eqb, true, false, List}
use Rattle.std.proofs.Common.{Option, refl, sym, arith}
use Rattle.std.proofs.lemmas.Bool.{eqb-true, eqb-false}
use Rattle.p2p_discovery.specs.declared.codec.error.CodecError.TheVariants.{InvalidEnum}
use Rattle.p2p_discovery.specs.declared.discovery.Payload.{Payload}
use Rattle.p2p_discovery.specs.declared.discovery.Payload.TheVariants as said
use Rattle.p2p_discovery.specs.declared.discovery.PayloadConfig.{PayloadConfig}
use Rattle.p2p_discovery.specs.Reading.{◌>>=◌, reads, Lawful}
use Rattle.p2p_discovery.specs.Laws.Fields.{lawful_sized, lawful_byte, lawful_if, lawful_made}
use Rattle.p2p_discovery.specs.Laws.Fields.{lawful_none, lawful_same}
use Rattle.p2p_discovery.specs.Fixed.{IsFixed}
use Rattle.p2p_discovery.specs.Data as messages
use Rattle.p2p_discovery.specs.Laws.Data.{lawful_data}
use Rattle.p2p_discovery.specs.Info.{info_at, infos_at}
use Rattle.p2p_discovery.specs.Laws.Info.{lawful_info, lawful_infos}
use Rattle.p2p_discovery.specs.BitVec as bits
use Rattle.p2p_discovery.specs.Laws.BitVec.{lawful_bit_vec}
use Rattle.p2p_discovery.specs.Payload.{up_to, prefix_of, IsPayload, IsAdmitted, body_spelling}
use Rattle.p2p_discovery.specs.Payload.{payload_spelling, body_at, payload_at}

module _ {C S : Type 0} {key_size signature_size : ℕ} {spell_key : C → List ℕ}
    {spell_signature : S → List ℕ} {key : List ℕ → Option C} {signature : List ℕ → Option S}
    {IsKey : C → Type 0} {IsSignature : S → Type 0}
    (k : IsFixed key_size spell_key key IsKey)
    (s : IsFixed signature_size spell_signature signature IsSignature) where
  -- a payload that is admitted, with this prefix
  Is : PayloadConfig → ℕ → Payload C S → Type 0
  Is limits t p = (IsPayload p × IsAdmitted IsKey IsSignature limits p) × (prefix_of p ≡ t)

  lawful_data_form : (limits : PayloadConfig) (t : ℕ) → eqb t 0 ≡ true
      → Lawful (messages.data_at (up_to limits.max_data_length) >>= λ d. reads (said.Data d))
      (body_spelling spell_key spell_signature) (Is limits t)
  unfolding Is
  lawful_data_form limits t e =
      lawful_made said.Data (body_spelling spell_key spell_signature) (Is limits t)
      (λ d h. ((h, sym (eqb-true t 0 e)), refl))
      (elim [
        | said.Data d ↦ λ h. (d, refl, h.0, refl)
        | said.Greeting i ↦ λ h. absurd (omega (arith, h.1, eqb-true t 0 e))
        | said.BitVec v ↦ λ h. absurd (omega (arith, h.1, eqb-true t 0 e))
        | said.Peers is ↦ λ h. absurd (omega (arith, h.1, eqb-true t 0 e))
      ]) (lawful_data (up_to limits.max_data_length))

  lawful_greeting_form : (limits : PayloadConfig) (t : ℕ) → eqb t 1 ≡ true
      → Lawful (info_at key_size key signature_size signature >>= λ i. reads (said.Greeting i))
      (body_spelling spell_key spell_signature) (Is limits t)
  unfolding Is
  lawful_greeting_form limits t e =
      lawful_made said.Greeting (body_spelling spell_key spell_signature) (Is limits t)
      (λ i h. ((h, sym (eqb-true t 1 e)), refl))
      (elim [
        | said.Data d ↦ λ h. absurd (omega (arith, h.1, eqb-true t 1 e))
        | said.Greeting i ↦ λ h. (i, refl, h.0, refl)
        | said.BitVec v ↦ λ h. absurd (omega (arith, h.1, eqb-true t 1 e))
        | said.Peers is ↦ λ h. absurd (omega (arith, h.1, eqb-true t 1 e))
      ]) (lawful_info k s)

  lawful_bits_form : (limits : PayloadConfig) (t : ℕ) → eqb t 2 ≡ true
      → Lawful (bits.bit_vec_read_at limits.max_bit_vec >>= λ v. reads (said.BitVec v))
      (body_spelling spell_key spell_signature) (Is limits t)
  unfolding Is
  lawful_bits_form limits t e =
      lawful_made said.BitVec (body_spelling spell_key spell_signature) (Is limits t)
      (λ v h. ((h, sym (eqb-true t 2 e)), refl))
      (elim [
        | said.Data d ↦ λ h. absurd (omega (arith, h.1, eqb-true t 2 e))
        | said.Greeting i ↦ λ h. absurd (omega (arith, h.1, eqb-true t 2 e))
        | said.BitVec v ↦ λ h. (v, refl, h.0, refl)
        | said.Peers is ↦ λ h. absurd (omega (arith, h.1, eqb-true t 2 e))
      ]) (lawful_bit_vec limits.max_bit_vec)

  lawful_peers_form : (limits : PayloadConfig) (t : ℕ) → eqb t 3 ≡ true
      → Lawful
      (infos_at key_size key signature_size signature (up_to limits.max_peers)
      >>= λ is. reads (said.Peers is)) (body_spelling spell_key spell_signature) (Is limits t)
  unfolding Is
  lawful_peers_form limits t e =
      lawful_made said.Peers (body_spelling spell_key spell_signature) (Is limits t)
      (λ is h. ((h, sym (eqb-true t 3 e)), refl))
      (elim [
        | said.Data d ↦ λ h. absurd (omega (arith, h.1, eqb-true t 3 e))
        | said.Greeting i ↦ λ h. absurd (omega (arith, h.1, eqb-true t 3 e))
        | said.BitVec v ↦ λ h. absurd (omega (arith, h.1, eqb-true t 3 e))
        | said.Peers is ↦ λ h. (is, refl, h.0, refl)
      ]) (lawful_infos k s (up_to limits.max_peers))

  no_form : (limits : PayloadConfig) (t : ℕ) → eqb t 0 ≡ false → eqb t 1 ≡ false → eqb t 2 ≡ false
      → eqb t 3 ≡ false → (p : Payload C S) → Is limits t p → ⊥
  unfolding Is
  no_form limits t a b c d (said.Data x) h = eqb-false t 0 a (sym h.1)
  no_form limits t a b c d (said.Greeting x) h = eqb-false t 1 b (sym h.1)
  no_form limits t a b c d (said.BitVec x) h = eqb-false t 2 c (sym h.1)
  no_form limits t a b c d (said.Peers x) h = eqb-false t 3 d (sym h.1)

  lawful_body : (limits : PayloadConfig) (t : ℕ)
      → Lawful (body_at key_size key signature_size signature limits t)
      (body_spelling spell_key spell_signature) (Is limits t)
  unfolding body_at
  lawful_body limits t =
      lawful_if (eqb t 0) (lawful_data_form limits t) (λ a.
      lawful_if (eqb t 1) (lawful_greeting_form limits t) (λ b.
      lawful_if (eqb t 2) (lawful_bits_form limits t) (λ c.
      lawful_if (eqb t 3) (lawful_peers_form limits t) (λ d.
      lawful_none (InvalidEnum t) (no_form limits t a b c d)))))

  prefix_small : (p : Payload C S) → prefix_of p < 256
  prefix_small (said.Data d) = omega arith
  prefix_small (said.Greeting i) = omega arith
  prefix_small (said.BitVec v) = omega arith
  prefix_small (said.Peers is) = omega arith

  pub lawful_payload : (limits : PayloadConfig)
      → Lawful (payload_at key_size key signature_size signature limits)
      (payload_spelling spell_key spell_signature)
      (λ p. IsPayload p × IsAdmitted IsKey IsSignature limits p)
  unfolding payload_at Is
  lawful_payload limits =
      lawful_same (λ p h. h.0) (λ p h. (h, prefix_small p))
      (lawful_sized prefix_of lawful_byte (λ t _. lawful_body limits t))
