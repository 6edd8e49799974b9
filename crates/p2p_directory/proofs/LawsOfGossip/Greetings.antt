-- Each greeting of two nodes in a run.
use Rattle.std.proofs.Common.{◌≡◌, ℕ, Bool, List, [], Option, Ok, inl, inr, refl, ◌∙◌, ap, subst}
use Rattle.std.specs.Prelude.{◌⊎◌}
use Rattle.std.proofs.lemmas.List.{append-nil}
use Rattle.p2p_discovery.specs.declared.discovery.Payload.{Payload}
use Rattle.p2p_discovery.specs.declared.discovery.PayloadConfig.{PayloadConfig}
use Rattle.p2p_discovery.specs.Fixed.{IsFixed}
use Rattle.p2p_discovery.specs.Payload.{IsPayload, IsAdmitted, payload_spelling, payload_at}
use Rattle.p2p_discovery.specs.Laws.Payload.{lawful_payload}
use Rattle.p2p_discovery.specs.Reading.{whole, ends_whole}
use Rattle.p2p_directory.specs.declared.node.received.Received.{Received}
use Rattle.p2p_directory.specs.declared.node.received.Received.TheVariants as received
use Rattle.p2p_directory.specs.Received as frames
use Rattle.p2p_directory.specs.Received.{FrameOutcome}

module _ {C S : Type 0} where
  -- an answer is the one that is said, or want of memory
  pub answer_or_memory : (r : Received C S) (may : Bool) (o : FrameOutcome C S) (said : Received C S) →
      frames.IsFrameAnswer may o r → o.answer ≡ said → (r ≡ said) ⊎ (r ≡ received.Memory)
  answer_or_memory received.Memory may o said is e = inr refl
  answer_or_memory r may o said is e = inl (is ∙ e)

  -- what is spelled and admitted is read whole
  pub read_back : {key_size signature_size : ℕ} {key : C → List ℕ} {signature : S → List ℕ}
      {key_of : List ℕ → Option C} {signature_of : List ℕ → Option S}
      {IsKey : C → Type 0} {IsSignature : S → Type 0} (k : IsFixed key_size key key_of IsKey)
      (s : IsFixed signature_size signature signature_of IsSignature)
      (limits : PayloadConfig) (p : Payload C S) →
      IsPayload p × IsAdmitted IsKey IsSignature limits p →
      (whole (payload_at key_size key_of signature_size signature_of limits)
      (payload_spelling key signature p)).outcome ≡ Ok (p, [])
  read_back {key_size} {signature_size} {key} {signature} {key_of} {signature_of} k s limits p h =
      ap ends_whole
      (subst (λ bytes. (payload_at key_size key_of signature_size signature_of limits bytes).outcome
      ≡ Ok (p, []))
      (append-nil (payload_spelling key signature p)) ((lawful_payload k s limits).again p [] h))
