-- An exchange is carried by frames: what is spelled is read back, or refused for its number.
use Rattle.std.proofs.Common.{◌≡◌, ℕ, Bool, true, false, List, [], length, Option, Some, None}
use Rattle.std.proofs.Common.{Ok, Err, refl, sym, ◌∙◌, ap, subst, inl, inr}
use Rattle.std.specs.Prelude.{if◌then◌else◌, IfSome, nat_lt, option_map}
use Rattle.std.proofs.lemmas.Bool.{ltb-false}
use Rattle.std.specs.declared.cmp.Ordering.{Ordering}
use Rattle.p2p_discovery.specs.declared.codec.error.CodecError.TheVariants.{InvalidLength}
use Rattle.p2p_discovery.specs.declared.discovery.BitVec.{BitVec}
use Rattle.p2p_discovery.specs.declared.discovery.Error.{Error}
use Rattle.p2p_discovery.specs.declared.discovery.Info.{Info}
use Rattle.p2p_discovery.specs.declared.discovery.Payload.TheVariants as said
use Rattle.p2p_discovery.specs.declared.discovery.PayloadConfig.{PayloadConfig}
use Rattle.p2p_discovery.specs.Fixed.{IsFixed}
use Rattle.p2p_discovery.specs.Judgement.{list_refusal}
use Rattle.p2p_discovery.specs.Reading.{whole}
use Rattle.p2p_directory.specs.declared.node.exchanged.Exchanged.{Exchanged}
use Rattle.p2p_directory.specs.declared.node.exchanged.Exchanged.TheVariants as exchanged
use Rattle.p2p_directory.specs.declared.node.received.Received.{Received}
use Rattle.p2p_directory.specs.declared.node.received.Received.TheVariants as received
use Rattle.p2p_directory.specs.Received.{Wire, Standing, FrameOutcome, read_at, received_at, verdicts_of}
use Rattle.p2p_directory.specs.Received.{ask_frame_at, only, applying, replied, taken}
use Rattle.p2p_directory.proofs.Nodes.Frames.{frame_may_want_memory}
use Rattle.p2p_directory.specs.Exchange.{ExchangeOutcome, judged_at, replied_at, asked_at, exchanged_at, IsCarried}
use Rattle.p2p_directory.specs.Exchange.{HasSpelling, HaveSpelling, CanBeReplied, CanBeSpelled, AnswersAsk, TakesReply}
use Rattle.p2p_directory.specs.Exchange.{Exchanges, IsExchangeAnswer, infos_applied, exchange_may_want_memory, Carries}
use Rattle.p2p_directory.specs.Nodes.{NodeView, standing_of, Answers, AnswersFrame, IsLeft}
use Rattle.p2p_directory.specs.Private.Exchanging.{UnlessRefused}
use Rattle.p2p_directory.specs.Exchange.ExchangeOutcome.{NoSet, AskRefused, Malformed, ReplyRefused, Invalid, Applied}
use Rattle.p2p_directory.proofs.LawsOfGossip.Greetings.{read_back}
use Rattle.p2p_directory.proofs.Nodes.ReadBack.{wire_by, too_many_bits, too_many_infos, is_admitted, is_above}

-- WHAT THE FRAMES COME TO is one outcome

module _ {C S : Type 0} (wire : Wire C S) (asker replier : Standing C S) (place s t : ℕ) where
  by_applied : Received C S → Option (List (Info C S)) → ExchangeOutcome C S
  by_applied (received.Codec fault) infos = ReplyRefused fault
  by_applied (received.Invalid error) infos = Invalid error
  by_applied (received.Applied count) (Some infos) = Applied infos
  by_applied _ _ = NoSet

  by_outcome : FrameOutcome C S → ExchangeOutcome C S
  by_outcome o = by_applied o.answer o.applied

  by_answer : Received C S → ExchangeOutcome C S
  by_answer (received.Codec fault) = AskRefused fault
  by_answer received.Malformed = Malformed
  by_answer (received.Reply reply) = by_outcome (received_at wire asker reply s)
  by_answer _ = NoSet

  by_frame : Option (List ℕ) → ExchangeOutcome C S
  by_frame None = NoSet
  by_frame (Some frame) = by_answer (received_at wire replier frame t).answer

  read_off : (o : ExchangeOutcome C S) → IsCarried wire asker replier place s t o → by_frame (ask_frame_at wire asker place) ≡ o
  unfolding by_frame by_answer by_outcome by_applied
  read_off NoSet h = ap by_frame h
  read_off (AskRefused fault) h = ap by_frame h.1 ∙ ap by_answer h.2
  read_off Malformed h = ap by_frame h.1 ∙ ap by_answer h.2
  read_off _ h = ap by_frame h.1.1 ∙ ap by_answer h.1.2 ∙ ap by_outcome h.2

  pub carried_once : (o o2 : ExchangeOutcome C S) → IsCarried wire asker replier place s t o → IsCarried wire asker replier place s t o2 → o ≡ o2
  carried_once o o2 h h2 = sym (read_off o h) ∙ read_off o2 h2

-- an answer that isn't want of memory is that of one outcome, whose infos are applied with it

module _ {C S : Type 0} where
  applied_by : ExchangeOutcome C S → Option (List (Info C S))
  applied_by (Applied infos) = Some infos
  applied_by _ = None

  comes_once : (r : Exchanged C S) (may : Bool) (o o2 : ExchangeOutcome C S) → IsExchangeAnswer false o r → IsExchangeAnswer may o2 r → o ≡ o2
  comes_once exchanged.Memory may o o2 h h2 = absurd cc
  comes_once _ may o o2 h h2 = h ∙ sym h2

  applied_alike : (r : Exchanged C S) (o : ExchangeOutcome C S) → IsExchangeAnswer false o r → infos_applied r ≡ applied_by o
  unfolding applied_by
  applied_alike exchanged.Memory o h = absurd cc
  applied_alike _ o h = ap applied_by (sym h)

  not_refused : (P : Type 0) (r : Exchanged C S) (o : ExchangeOutcome C S) → IsExchangeAnswer false o r → UnlessRefused P r → P
  not_refused P r o h (inl refused) = absurd (let e : false ≡ true = subst (IsExchangeAnswer false o) refused h in cc)
  not_refused P r o h (inr holds) = holds

-- the asker is left as by what it makes of the reply

module _ {C S : Type 0} (cmp : C → C → Ordering) (wire : Wire C S) (place s t : ℕ) (a b a2 : NodeView C S) where
  abbrev asking : Standing C S
  asking = standing_of cmp wire a

  abbrev replying : Standing C S
  replying = standing_of cmp wire b

  abbrev Answered : Received C S → Type 0
  Answered answer = AnswersAsk wire asking replying place t answer

  one_answer : (x y : Received C S) → Answered x → Answered y → x ≡ y
  one_answer x y h h2 =
      let same : h.0 ≡ h2.0 = (let e = h.1 in let e2 = h2.1 in cc) in
      sym h.2 ∙ ap (λ frame. (received_at wire replying frame t).answer) same ∙ h2.2

  one_reply : (x y : List ℕ) → Answered (received.Reply x) → Answered (received.Reply y) → x ≡ y
  one_reply x y h h2 = let e = one_answer (received.Reply x) (received.Reply y) h h2 in cc

  abbrev Left : List ℕ → FrameOutcome C S → Type 0
  Left reply o = Answers cmp (frame_may_want_memory wire asking reply s) o o.answer a a2

  left_by : (o : FrameOutcome C S) (reply : List ℕ) → TakesReply wire asking replying place s t o → Answered (received.Reply reply) → Left reply o →
      AnswersFrame cmp wire verdicts_of reply s (received_at wire asking reply s).answer a a2
  left_by o reply took answered left = subst (Left reply)
      (sym (ap (λ x. received_at wire asking x s) (one_reply reply took.0 answered took.1) ∙ took.2)) left

  left : (o : ExchangeOutcome C S) → IsCarried wire asking replying place s t o → IsLeft cmp a (applied_by o) a2 → (reply : List ℕ) → Answered (received.Reply reply) →
      AnswersFrame cmp wire verdicts_of reply s (received_at wire asking reply s).answer a a2
  unfolding applied_by
  left NoSet h is reply answered = absurd (let e = answered.1 in cc)
  left (AskRefused fault) h is reply answered = absurd (let e = one_answer (received.Codec fault) (received.Reply reply) h answered in cc)
  left Malformed h is reply answered = absurd (let e = one_answer received.Malformed (received.Reply reply) h answered in cc)
  left (ReplyRefused fault) h is reply answered = left_by (only (received.Codec fault)) reply h answered (record { answer = refl; left = is })
  left (Invalid error) h is reply answered = left_by (only (received.Invalid error)) reply h answered (record { answer = refl; left = is })
  left (Applied infos) h is reply answered = left_by (applying (received.Applied (length infos)) infos) reply h answered (record { answer = refl; left = is })

-- WHAT IS SPELLED is read back

module _ {C S : Type 0} {key_size signature_size : ℕ} {key : C → List ℕ} {signature : S → List ℕ}
    {key_of : List ℕ → Option C} {signature_of : List ℕ → Option S}
    {IsKey : C → Type 0} {IsSignature : S → Type 0} (k : IsFixed key_size key key_of IsKey)
    (f : IsFixed signature_size signature signature_of IsSignature)
    (verifies : C → List ℕ → List ℕ → S → Bool) where
  abbrev wire : Wire C S
  wire = wire_by key_size key key_of signature_size signature signature_of verifies

  -- as it is
  bits_read : (limits : PayloadConfig) (v : BitVec) → HasSpelling v → nat_lt limits.max_bit_vec (length v.bits) ≡ false →
      (whole (wire.reading limits) (wire.spelling (said.BitVec v))).outcome ≡ Ok (said.BitVec v, [])
  bits_read limits v fits below = read_back k f limits (said.BitVec v)
      (fits.index, record { within = ltb-false limits.max_bit_vec (length v.bits) below; small = fits.count })

  infos_read : (limits : PayloadConfig) (infos : List (Info C S)) → HaveSpelling IsKey IsSignature infos → nat_lt limits.max_peers (length infos) ≡ false →
      (whole (wire.reading limits) (wire.spelling (said.Peers infos))).outcome ≡ Ok (said.Peers infos, [])
  infos_read limits infos fit below = read_back k f limits (said.Peers infos)
      (fit.values.0, record { within = is_admitted limits.max_peers (length infos) below; small = fit.count; keyed = fit.values.1 })

  -- or refused
  bits_refused : (limits : PayloadConfig) (v : BitVec) → HasSpelling v → nat_lt limits.max_bit_vec (length v.bits) ≡ true →
      (whole (wire.reading limits) (wire.spelling (said.BitVec v))).outcome ≡ Err (InvalidLength (length v.bits))
  bits_refused limits v fits above = too_many_bits key_size key_of signature_size signature_of key signature limits v
      fits.index fits.count (is_above limits.max_bit_vec (length v.bits) above)

  infos_refused : (limits : PayloadConfig) (infos : List (Info C S)) → HaveSpelling IsKey IsSignature infos → nat_lt limits.max_peers (length infos) ≡ true →
      (whole (wire.reading limits) (wire.spelling (said.Peers infos))).outcome ≡ Err (InvalidLength (length infos))
  infos_refused limits infos fit above = too_many_infos key_size key_of signature_size signature_of key signature limits infos
      fit.count (is_above limits.max_peers (length infos) above)

  module _ (asker replier : Standing C S) (place s t : ℕ) where
    abbrev Comes : ExchangeOutcome C S → Type 0
    Comes o = IsCarried wire asker replier place s t o

    module _ (v : BitVec) (fits : HasSpelling v) (is : asker.bits place ≡ Some v) where
      abbrev frame : List ℕ
      frame = wire.spelling (said.BitVec v)

      asked : ask_frame_at wire asker place ≡ Some frame
      asked = ap (option_map (λ x. wire.spelling (said.BitVec x))) is

      module _ (infos : List (Info C S)) (fit : HaveSpelling IsKey IsSignature infos)
          (answered : received_at wire replier frame t ≡ replied wire (Some infos)) where
        abbrev reply : List ℕ
        reply = wire.spelling (said.Peers infos)

        judged : (refused : Option Error) → received_at wire asker reply s ≡ taken wire infos refused → Comes (judged_at infos refused)
        judged None h = (reply, (frame, asked, ap (λ (o : FrameOutcome C S). o.answer) answered, ap (λ (o : FrameOutcome C S). o.applied) answered), h)
        judged (Some error) h = (reply, (frame, asked, ap (λ (o : FrameOutcome C S). o.answer) answered, ap (λ (o : FrameOutcome C S). o.applied) answered), h)

        took : (above : Bool) → nat_lt asker.limits.max_peers (length infos) ≡ above →
            Comes (if above then ReplyRefused (InvalidLength (length infos)) else judged_at infos (list_refusal asker.judge s infos))
        took true h = (
          reply,
          (frame, asked, ap (λ (o : FrameOutcome C S). o.answer) answered, ap (λ (o : FrameOutcome C S). o.applied) answered),
          ap (read_at wire asker s) (infos_refused asker.limits infos fit h),
        )
        took false h = judged (list_refusal asker.judge s infos) (ap (read_at wire asker s) (infos_read asker.limits infos fit h))

      told : (infos : Option (List (Info C S))) → received_at wire replier frame t ≡ replied wire infos → IfSome infos (HaveSpelling IsKey IsSignature) →
          Comes (replied_at asker s infos)
      told None h fit = (frame, asked, ap (λ (o : FrameOutcome C S). o.answer) h, ap (λ (o : FrameOutcome C S). o.applied) h)
      told (Some infos) h fit = took infos fit h (nat_lt asker.limits.max_peers (length infos)) refl

      heard : (above : Bool) → nat_lt replier.limits.max_bit_vec (length v.bits) ≡ above →
          CanBeReplied IsKey IsSignature replier t v →
          Comes (if above then AskRefused (InvalidLength (length v.bits)) else replied_at asker s (replier.infos v.index v.bits t))
      heard true h fit = let h2 : received_at wire replier frame t ≡ only (received.Codec (InvalidLength (length v.bits))) = ap (read_at wire replier t) (bits_refused replier.limits v fits h) in
          (frame, asked, ap (λ (o : FrameOutcome C S). o.answer) h2, ap (λ (o : FrameOutcome C S). o.applied) h2)
      heard false h fit = told (replier.infos v.index v.bits t) (ap (read_at wire replier t) (bits_read replier.limits v fits h)) (fit (ltb-false replier.limits.max_bit_vec (length v.bits) h))

    of_bits : (o : Option BitVec) → asker.bits place ≡ o → IfSome o HasSpelling →
        IfSome o (CanBeReplied IsKey IsSignature replier t) →
        Comes (asked_at asker replier s t o)
    of_bits None is fits fit = ap (option_map (λ x. wire.spelling (said.BitVec x))) is
    of_bits (Some v) is fits fit = heard v fits is (nat_lt replier.limits.max_bit_vec (length v.bits)) refl fit

    -- what an exchange comes to is carried
    pub is_carried : CanBeSpelled IsKey IsSignature asker replier place t → Comes (exchanged_at asker replier place s t)
    is_carried can = of_bits (asker.bits place) refl can.bits can.infos

  -- .. and its nodes are left so
  pub carries : (cmp : C → C → Ordering) (place s t : ℕ) (r : Exchanged C S) (a b a2 : NodeView C S) → Exchanges cmp wire place s t r a b a2 →
      UnlessRefused (CanBeSpelled IsKey IsSignature (standing_of cmp wire a) (standing_of cmp wire b) place t) r →
      Carries cmp wire place s t r a b a2
  carries cmp place s t r a b a2 seen can o answer =
      let asker = standing_of cmp wire a in
      let replier = standing_of cmp wire b in
      let carried : IsCarried wire asker replier place s t o =
      subst (IsCarried wire asker replier place s t) (sym (comes_once r (exchange_may_want_memory asker place) o (exchanged_at asker replier place s t) answer seen.answer))
      (is_carried asker replier place s t (not_refused (CanBeSpelled IsKey IsSignature asker replier place t) r o answer can)) in
      record {
        frames = carried;
        left = left cmp wire place s t a b a2 o carried (subst (λ infos. IsLeft cmp a infos a2) (applied_alike r o answer) seen.left);
      }
