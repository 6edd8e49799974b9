-- A frame that was taken: by equal bytes, and what it encodes.
use Rattle.std.proofs.Common.{◌≡◌, ℕ, Bool, true, false, List, [], ◌∷◌, ◌++◌, length}
use Rattle.std.proofs.Common.{Option, Some, None, Result, Ok, Err, refl, ap, ◌∙◌, subst, arith}
use Rattle.std.proofs.lemmas.List.{append-nil}
use Rattle.std.specs.Prelude.{◌==◌, if◌then◌else◌}
use Rattle.std.proofs.lemmas.Bool.Decides.{nat_tests}
use Rattle.p2p_discovery.specs.declared.codec.error.CodecError.{CodecError}
use Rattle.p2p_discovery.specs.declared.codec.error.CodecError.TheVariants.{ExtraData}
use Rattle.p2p_discovery.specs.declared.data.Data.{Data}
use Rattle.p2p_discovery.specs.declared.discovery.Error.{Error}
use Rattle.p2p_discovery.specs.declared.discovery.Info.{Info}
use Rattle.p2p_discovery.specs.declared.discovery.Payload.{Payload}
use Rattle.p2p_discovery.specs.declared.discovery.Payload.TheVariants as said
use Rattle.p2p_discovery.specs.declared.discovery.PayloadConfig.{PayloadConfig}
use Rattle.p2p_discovery.specs.Laws.Payload.{lawful_payload}
use Rattle.p2p_discovery.specs.Reading.{IsBytes, ends_whole, whole}
use Rattle.p2p_directory.specs.Nodes.{given_verdicts, AnswersFrame, IsReceived}
use Rattle.p2p_directory.specs.Laws.Verdicts.{IsJudged}
use Rattle.p2p_directory.specs.Received as frames
use Rattle.p2p_directory.specs.Received.{Standing}
use Rattle.p2p_directory.specs.declared.node.received.Received.{Received}
use Rattle.p2p_directory.specs.declared.node.received.Received.TheVariants as received
use Rattle.p2p_session.specs.Frames.{Hears}
use Rattle.p2p_discovery.specs.Fixed.{IsFixed}
use Rattle.p2p_discovery.specs.Varint.{varint32, varint64}
use Rattle.p2p_directory.specs.Nodes.{standing_of, NodeView}
use Rattle.p2p_session.specs.Schemes.{Scheme, wire}

module _ {C S : Type 0} (k : Scheme C S) where
  pub hears_same : (verdicts : List Bool) (frame bytes : List ℕ) (t : ℕ) (v v2 : NodeView C S) (r : Received C S) → bytes ≡ frame →
      AnswersFrame k.key.cmp (wire k) (given_verdicts verdicts) bytes t r v v2 → IsReceived k.key.cmp (wire k) (given_verdicts verdicts) bytes t r v v2 →
      IsJudged k.key.cmp (wire k) k.key.IsValue k.signature.IsValue verdicts bytes t r v v2 → Hears k verdicts frame t v v2 r
  hears_same verdicts frame bytes t v v2 r same seen received judged =
      subst (λ x. Hears k verdicts x t v v2 r) same (record { seen = seen; received = received; judged = judged })

module _ {C S : Type 0} (k : Scheme C S)
    (key_laws : IsFixed k.key.SIZE k.key.spelled k.key.value k.key.IsValue)
    (signature_laws : IsFixed k.signature.SIZE k.signature.spelled k.signature.value k.signature.IsValue) where
  -- ---- what is read whole is an encoding

  more_left : {A : Type 0} (x y : A × List ℕ) (none : Bool) → none ≡ false →
      (if none then Ok x else Err (ExtraData (length x.1))) ≡ Ok y → ⊥
  more_left x y true is e = cc
  more_left x y false is e = absurd (cc (e))

  nothing_left : {A : Type 0} (o : Result (A × List ℕ) CodecError) (p : A) (rest : List ℕ) → ends_whole o ≡ Ok (p, rest) → o ≡ Ok (p, [])
  nothing_left {A} (Ok (q, [])) p rest e =
      let pair : (q, []) ≡ (p, rest) = cc (e) in
      ap (λ (x : A × List ℕ). Ok (x.0, [])) pair
  nothing_left (Ok (q, b ∷ bs)) p rest e =
      absurd (more_left (q, b ∷ bs) (p, rest) (length (b ∷ bs) == 0) (grind (arith, nat_tests)) e)
  nothing_left (Err fault) p rest e = absurd (cc)

  pub is_encoding : (limits : PayloadConfig) (frame : List ℕ) (p : Payload C S) (rest : List ℕ) → IsBytes frame →
      (whole ((wire k).reading limits) frame).outcome ≡ Ok (p, rest) → frame ≡ (wire k).spelling p
  is_encoding limits frame p rest bytes read =
      let left = nothing_left ((wire k).reading limits frame).outcome p rest read in
      let took = (lawful_payload key_laws signature_laws limits).takes frame p [] bytes left in
      took.1 ∙ append-nil ((wire k).spelling p)

  append_assoc : (xs ys zs : List ℕ) → xs ++ (ys ++ zs) ≡ (xs ++ ys) ++ zs
  append_assoc [] ys zs = refl
  append_assoc (x ∷ xs) ys zs = ap (λ l. x ∷ l) (append_assoc xs ys zs)

  -- ---- who is greeted by

  module _ (vs : List Bool) (node : Standing C S) (t : ℕ) where
    of_refusal : (key : C) (is : List (Info C S)) (o : Option Error) →
        received.Greeted key ≡ (frames.taken (wire k) is o).answer → ⊥
    of_refusal key is None e = cc
    of_refusal key is (Some why) e = cc

    of_infos : (key : C) (o : Option (List (Info C S))) → received.Greeted key ≡ (frames.replied (wire k) o).answer → ⊥
    of_infos key None e = cc
    of_infos key (Some is) e = cc

    of_greeting : (key : C) (i : Info C S) (o : Option Error) →
        received.Greeted key ≡ (frames.greeted (wire k) i o).answer → key ≡ i.public_key
    of_greeting key i None e = cc
    of_greeting key i (Some why) e = absurd (cc)

    -- no other payload is answered so
    is_greeting : (key : C) (p : Payload C S) → received.Greeted key ≡ (frames.answered_by (wire k) vs node t p).answer →
        (i : Info C S) × (p ≡ said.Greeting i) × (key ≡ i.public_key)
    is_greeting key (said.Data m) e = absurd (cc)
    is_greeting key (said.Greeting i) e = (i, refl, of_greeting key i _ e)
    is_greeting key (said.BitVec v) e = absurd (of_infos key (node.infos v.index v.bits t) e)
    is_greeting key (said.Peers is) e = absurd (of_refusal key is _ e)

    of_refusal_sent : (d : Data) (is : List (Info C S)) (o : Option Error) →
        received.Data d ≡ (frames.taken (wire k) is o).answer → ⊥
    of_refusal_sent d is None e = cc
    of_refusal_sent d is (Some why) e = cc

    of_greeting_sent : (d : Data) (i : Info C S) (o : Option Error) →
        received.Data d ≡ (frames.greeted (wire k) i o).answer → ⊥
    of_greeting_sent d i None e = cc
    of_greeting_sent d i (Some why) e = cc

    of_infos_sent : (d : Data) (o : Option (List (Info C S))) → received.Data d ≡ (frames.replied (wire k) o).answer → ⊥
    of_infos_sent d None e = cc
    of_infos_sent d (Some is) e = cc

    is_message : (d : Data) (p : Payload C S) → received.Data d ≡ (frames.answered_by (wire k) vs node t p).answer →
        p ≡ said.Data d
    is_message d (said.Data m) e = cc
    is_message d (said.Greeting i) e = absurd (of_greeting_sent d i _ e)
    is_message d (said.BitVec v) e = absurd (of_infos_sent d (node.infos v.index v.bits t) e)
    is_message d (said.Peers is) e = absurd (of_refusal_sent d is _ e)

  module _ (vs : List Bool) (frame : List ℕ) (t : ℕ) (v v2 : NodeView C S) (bytes : IsBytes frame) where
    abbrev node : Standing C S
    node = standing_of k.key.cmp (wire k) v

    abbrev Outcome : Type 0
    Outcome = Result (Payload C S × List ℕ) CodecError

    -- a frame that is accepted as a greeting encodes an info, and this key is of its peer
    pub greeting_encodes : (key : C) → AnswersFrame k.key.cmp (wire k) (given_verdicts vs) frame t (received.Greeted key) v v2 →
        (i : Info C S) × (frame ≡ (wire k).spelling (said.Greeting i)) × (key ≡ i.public_key)
    greeting_encodes key h = go (whole ((wire k).reading v.limits) frame).outcome refl h.answer
      where
        go : (o : Outcome) → (whole ((wire k).reading v.limits) frame).outcome ≡ o →
            received.Greeted key ≡ (frames.read_by (wire k) (λ _. vs) node t o).answer →
            (i : Info C S) × (frame ≡ (wire k).spelling (said.Greeting i)) × (key ≡ i.public_key)
        go (Err fault) read e = absurd (cc)
        go (Ok (p, rest)) read e =
            let who = is_greeting vs node t key p e in
            (who.0, is_encoding v.limits frame p rest bytes read ∙ ap (wire k).spelling who.1, who.2)

    -- .. and as a message ends with it
    pub message_ends : (d : Data) → AnswersFrame k.key.cmp (wire k) (given_verdicts vs) frame t (received.Data d) v v2 →
        (front : List ℕ) × (frame ≡ front ++ d.message)
    message_ends d h = go (whole ((wire k).reading v.limits) frame).outcome refl h.answer
      where
        go : (o : Outcome) → (whole ((wire k).reading v.limits) frame).outcome ≡ o →
            received.Data d ≡ (frames.read_by (wire k) (λ _. vs) node t o).answer → (front : List ℕ) × (frame ≡ front ++ d.message)
        go (Err fault) read e = absurd (cc)
        go (Ok (p, rest)) read e =
            let channel : List ℕ = varint64 d.channel in
            let count : List ℕ = varint32 (length d.message) in (
              (0 ∷ channel) ++ count,
              is_encoding v.limits frame p rest bytes read ∙ ap (wire k).spelling (is_message vs node t d p e)
                  ∙ append_assoc (0 ∷ channel) count d.message,
            )
