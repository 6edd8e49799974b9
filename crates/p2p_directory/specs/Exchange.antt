-- What an exchange of infos comes to, by how both nodes stand, each at a moment of its own, and the
-- frames that carry it.
use Rattle.std.specs.Prelude.{ℕ, ◌≡◌, ◌≤◌, ◌<◌, ◌^◌, Bool, true, false, if◌then◌else◌}
use Rattle.std.specs.Prelude.{List, length, Option, Some, None, IfSome, is_some, nat_lt}
use Rattle.std.specs.declared.cmp.Ordering.{Ordering}
use Rattle.p2p_discovery.specs.declared.codec.error.CodecError.{CodecError}
use Rattle.p2p_discovery.specs.declared.codec.error.CodecError.TheVariants.{InvalidLength}
use Rattle.p2p_discovery.specs.declared.discovery.BitVec.{BitVec}
use Rattle.p2p_discovery.specs.declared.discovery.Error.{Error}
use Rattle.p2p_discovery.specs.declared.discovery.Info.{Info}
use Rattle.p2p_discovery.specs.Judgement.{list_refusal}
use Rattle.p2p_directory.specs.declared.node.exchanged.Exchanged.{Exchanged}
use Rattle.p2p_directory.specs.declared.node.exchanged.Exchanged.TheVariants as exchanged
use Rattle.p2p_directory.specs.declared.node.received.Received.{Received}
use Rattle.p2p_directory.specs.declared.node.received.Received.TheVariants as received
use Rattle.p2p_tracker.specs.Calls.{Call}
use Rattle.p2p_directory.specs.Received.{Wire, Standing, FrameOutcome, only, applying}
use Rattle.p2p_directory.specs.Received.{ask_frame_at, received_at, verdicts_of}
use Rattle.p2p_directory.specs.Nodes.{NodeView, Made, NodeStandsAt, AtEach, IsLeft, calls_with}
use Rattle.p2p_directory.specs.Nodes.{standing_of, standing_in, AreValues, AnswersFrame}
use Rattle.p2p_directory.specs.Run.{world_after}

-- what an exchange comes to, want of memory aside
pub data ExchangeOutcome (C S : Type 0) : Type 0 where
  -- the asker has no set at the place
  NoSet : ExchangeOutcome C S
  -- the replier cannot read the bits
  AskRefused : (fault : CodecError) → ExchangeOutcome C S
  -- the replier has infos for another number of bits
  Malformed : ExchangeOutcome C S
  -- the asker cannot read the infos
  ReplyRefused : (fault : CodecError) → ExchangeOutcome C S
  -- the asker refuses an info, or their number
  Invalid : (error : Error) → ExchangeOutcome C S
  -- an update with these infos is one more call of the asker
  Applied : (infos : List (Info C S)) → ExchangeOutcome C S

module _ {C S : Type 0} where
  -- the asker judged the infos: why they are refused, if they are
  abbrev pub judged_at : List (Info C S) → Option Error → ExchangeOutcome C S
  judged_at infos (Some error) = Invalid error
  judged_at infos None = Applied infos

  -- the replier has infos for the bits, or none at all; the asker reads them at its moment
  abbrev pub replied_at : Standing C S → ℕ → Option (List (Info C S)) → ExchangeOutcome C S
  replied_at asker asker_now None = Malformed
  replied_at asker asker_now (Some infos) =
      if nat_lt asker.limits.max_peers (length infos)
      then ReplyRefused (InvalidLength (length infos))
      else judged_at infos (list_refusal asker.judge asker_now infos)

  -- the asker has bits at the place, or no set; the replier reads them at its moment
  abbrev pub asked_at : Standing C S → Standing C S → ℕ → ℕ → Option BitVec → ExchangeOutcome C S
  asked_at asker replier asker_now replier_now None = NoSet
  asked_at asker replier asker_now replier_now (Some v) =
      if nat_lt replier.limits.max_bit_vec (length v.bits)
      then AskRefused (InvalidLength (length v.bits))
      else replied_at asker asker_now (replier.infos v.index v.bits replier_now)

  -- EXCHANGE: what it comes to at a place of the asker
  abbrev pub exchanged_at : Standing C S → Standing C S → ℕ → ℕ → ℕ → ExchangeOutcome C S
  exchanged_at asker replier place asker_now replier_now =
      asked_at asker replier asker_now replier_now (asker.bits place)

  -- WANT OF MEMORY: where there is a set at the place
  abbrev pub exchange_may_want_memory : Standing C S → ℕ → Bool
  exchange_may_want_memory asker place = is_some (asker.bits place)

  -- what is answered: want of memory where it is allowed, else what the exchange comes to
  abbrev pub IsExchangeAnswer : Bool → ExchangeOutcome C S → Exchanged C S → Type 0
  IsExchangeAnswer may o exchanged.NoSet = o ≡ NoSet
  IsExchangeAnswer may o (exchanged.AskRefused fault) = o ≡ AskRefused fault
  IsExchangeAnswer may o exchanged.Malformed = o ≡ Malformed
  IsExchangeAnswer may o (exchanged.ReplyRefused fault) = o ≡ ReplyRefused fault
  IsExchangeAnswer may o (exchanged.Invalid error) = o ≡ Invalid error
  IsExchangeAnswer may o exchanged.Memory = may ≡ true
  IsExchangeAnswer may o (exchanged.Applied infos) = o ≡ Applied infos.items

  -- the infos that are applied to the asker's directory with an answer: with all others none are
  abbrev pub infos_applied : Exchanged C S → Option (List (Info C S))
  infos_applied (exchanged.Applied infos) = Some infos.items
  infos_applied _ = None

-- AN EXCHANGE BY WHAT IS SEEN: a is the asker before it and a2 after it, b the replier, which it
-- leaves as it was; s is the asker's moment, t the replier's

pub record Exchanges {C S : Type 0} (cmp : C → C → Ordering) (wire : Wire C S) (place s t : ℕ)
    (r : Exchanged C S) (a b a2 : NodeView C S) : Type 0 where
  pub answer : let asker = standing_of cmp wire a in
      IsExchangeAnswer (exchange_may_want_memory asker place)
      (exchanged_at asker (standing_of cmp wire b) place s t) r
  pub left : IsLeft cmp a (infos_applied r) a2

-- AN EXCHANGE IN WORLDS: the asker is made from m, with the calls cs accepted before, the replier
-- from n, with ds

-- the answer is that at their points, and the asker then stands at the point after the update that
-- it made, if it made one
pub record IsExchangedAt {C S : Type 0} (m n : Made C S) (wire : Wire C S)
    (cs ds : List (Call C S)) (place s t : ℕ) (r : Exchanged C S) (a2 : NodeView C S) : Type 0 where
  pub answer : let asker = standing_in m wire (world_after m.directory cs) in
      IsExchangeAnswer (exchange_may_want_memory asker place)
      (exchanged_at asker (standing_in n wire (world_after n.directory ds)) place s t) r
  pub left : NodeStandsAt m (calls_with (infos_applied r) cs) a2

-- .. whatever the two were made from, and wherever the calls accepted before led
abbrev pub IsExchanged : {C S : Type 0} → (C → C → Ordering) → Wire C S → ℕ → ℕ → ℕ →
    Exchanged C S → NodeView C S → NodeView C S → NodeView C S → Type 0
IsExchanged cmp wire place s t r a b a2 =
    AtEach cmp a (λ m cs. AtEach cmp b (λ n ds. IsExchangedAt m n wire cs ds place s t r a2))

-- AN EXCHANGE AS THREE FRAMES: that of `ask`, and the answers of two calls of `receive`, by the
-- replier at the moment t and by the asker at the moment s

module _ {C S : Type 0} (wire : Wire C S) (asker replier : Standing C S) (place : ℕ) where
  -- the asker asks with a frame; the replier answers it with this, and applies nothing
  abbrev pub AnswersAsk : ℕ → Received C S → Type 0
  AnswersAsk t answer = (frame : List ℕ) × (ask_frame_at wire asker place ≡ Some frame)
      × ((received_at wire replier frame t).answer ≡ answer)
      × ((received_at wire replier frame t).applied ≡ None)

  -- .. with a reply; this is what the asker answers to that, and which infos it applies
  abbrev pub TakesReply : ℕ → ℕ → FrameOutcome C S → Type 0
  TakesReply s t o = (reply : List ℕ) × AnswersAsk t (received.Reply reply)
      × (received_at wire asker reply s ≡ o)

  -- CARRIED: what the frames come to
  abbrev pub IsCarried : ℕ → ℕ → ExchangeOutcome C S → Type 0
  IsCarried s t NoSet = ask_frame_at wire asker place ≡ None
  IsCarried s t (AskRefused fault) = AnswersAsk t (received.Codec fault)
  IsCarried s t Malformed = AnswersAsk t received.Malformed
  IsCarried s t (ReplyRefused fault) = TakesReply s t (only (received.Codec fault))
  IsCarried s t (Invalid error) = TakesReply s t (only (received.Invalid error))
  IsCarried s t (Applied infos) = TakesReply s t (applying (received.Applied (length infos)) infos)

-- WHAT HAS A SPELLING

-- bits: their index and their number fit
pub record HasSpelling (v : BitVec) : Type 0 where
  pub index : v.index < 2 ^ 64
  pub count : length v.bits < 2 ^ 64

-- infos: their number fits, and they are made of values of their types
pub record HaveSpelling {C S : Type 0} (IsKey : C → Type 0) (IsSignature : S → Type 0)
    (infos : List (Info C S)) : Type 0 where
  pub count : length infos < 2 ^ 32
  pub values : AreValues IsKey IsSignature infos

-- the replier's infos for bits at a moment, where it reads so many bits
abbrev pub CanBeReplied : {C S : Type 0} → (C → Type 0) → (S → Type 0) → Standing C S → ℕ →
    BitVec → Type 0
CanBeReplied IsKey IsSignature replier t v = length v.bits ≤ replier.limits.max_bit_vec →
    IfSome (replier.infos v.index v.bits t) (HaveSpelling IsKey IsSignature)

-- all that is told in an exchange: the asker's bits, and the replier's infos for them
pub record CanBeSpelled {C S : Type 0} (IsKey : C → Type 0) (IsSignature : S → Type 0)
    (asker replier : Standing C S) (place t : ℕ) : Type 0 where
  pub bits : IfSome (asker.bits place) HasSpelling
  pub infos : IfSome (asker.bits place) (CanBeReplied IsKey IsSignature replier t)

-- CARRIED, BY WHAT IS SEEN: the frames come to this outcome, and the asker is left as it is by
-- `receive` of the reply, if there is one

pub record IsCarriedTo {C S : Type 0} (cmp : C → C → Ordering) (wire : Wire C S) (place s t : ℕ)
    (o : ExchangeOutcome C S) (a b a2 : NodeView C S) : Type 0 where
  pub frames : IsCarried wire (standing_of cmp wire a) (standing_of cmp wire b) place s t o
  pub left : (reply : List ℕ) →
      AnswersAsk wire (standing_of cmp wire a) (standing_of cmp wire b) place t
      (received.Reply reply) →
      AnswersFrame cmp wire verdicts_of reply s
      (received_at wire (standing_of cmp wire a) reply s).answer a a2

-- .. to the outcome that is answered, unless memory was refused
abbrev pub Carries : {C S : Type 0} → (C → C → Ordering) → Wire C S → ℕ → ℕ → ℕ →
    Exchanged C S → NodeView C S → NodeView C S → NodeView C S → Type 0
Carries {C} {S} cmp wire place s t r a b a2 = (o : ExchangeOutcome C S) →
    IsExchangeAnswer false o r → IsCarriedTo cmp wire place s t o a b a2
