-- The run of ShownRun with one reply replaced is none: in the place of each variant of NetworkReply,
-- Received and Exchanged a wrong reply is refused.
use Rattle.std.proofs.Common.{◌≡◌, ℕ, zero, suc, true, false, List, [], ◌∷◌, Some, None, inl, inr, ap, ◌∙◌}
use Rattle.std.specs.Prelude.{◌⊎◌, slice_set}
use Rattle.p2p_discovery.specs.declared.codec.error.CodecError.TheVariants.{InvalidLength, EndOfBuffer}
use Rattle.p2p_discovery.specs.declared.discovery.Error.TheVariants.{SynchronyBound}
use Rattle.p2p_discovery.specs.Payload.{body_at, payload_at}
use Rattle.p2p_discovery.specs.Data.{data_at, message_at}
use Rattle.p2p_discovery.specs.Counted.{length_at}
use Rattle.p2p_discovery.specs.Varint.{groups, groups_at}
use Rattle.p2p_discovery.specs.Info as texts
use Rattle.p2p_discovery.specs.Ingress.{ingress_at}
use Rattle.p2p_discovery.specs.Socket.{ip_at, socket_at}
use Rattle.p2p_discovery.specs.BitVec.{bits_read_at, bit_vec_read_at}
use Rattle.p2p_discovery.specs.Bits.{bits_in, packed}
use Rattle.p2p_discovery.specs.Lists.{spellings, elems, items_at, list_at}
use Rattle.p2p_tracker.specs.History.{life}
use Rattle.p2p_directory.specs.declared.node.received.Received.{Received}
use Rattle.p2p_directory.specs.declared.node.received.Received.TheVariants as received
use Rattle.p2p_directory.specs.declared.node.exchanged.Exchanged.{Exchanged}
use Rattle.p2p_directory.specs.declared.node.exchanged.Exchanged.TheVariants as exchanged
use Rattle.p2p_directory.specs.declared.node.network.commands.NetworkCommand.{NetworkCommand}
use Rattle.p2p_directory.specs.declared.node.network.commands.NetworkReply.{NetworkReply}
use Rattle.p2p_directory.specs.declared.node.network.commands.NetworkReply.TheVariants as answer
use Rattle.p2p_directory.specs.declared.run.commands.Reply.{Reply}
use Rattle.p2p_directory.specs.declared.run.commands.Reply.TheVariants as reply
use Rattle.p2p_directory.specs.Exchange.{ExchangeOutcome}
use Rattle.p2p_directory.specs.Exchange.ExchangeOutcome.{NoSet, AskRefused, Malformed, ReplyRefused, Invalid, Applied}
use Rattle.p2p_directory.specs.Network.{Done, IsNetworkAnswer, AreNetworkAnswers}
use Rattle.p2p_directory.proofs.Definitions.GossipExamples.{wire, signed}
use Rattle.p2p_directory.proofs.Definitions.ExchangePremises.{three}
use Rattle.p2p_directory.proofs.Definitions.LatePremises.{peers_1}
use Rattle.p2p_directory.proofs.Definitions.ShownRun.{Infos, bits, hello, commands, replies}

-- the reply at a place is the answer at its point
abbrev IsAnswerAt : ℕ → Done ℕ ℕ → List (NetworkCommand ℕ ℕ) → List (NetworkReply ℕ ℕ) → Type 0
IsAnswerAt k before [] rs = Unit {0}
IsAnswerAt k before (c ∷ cs) [] = Unit {0}
IsAnswerAt zero before (c ∷ cs) (r ∷ rs) = IsNetworkAnswer wire 3 three before c r
IsAnswerAt (suc k) before (c ∷ cs) (r ∷ rs) = IsAnswerAt k ((c, r) ∷ before) cs rs

answer_at : (k : ℕ) (before : Done ℕ ℕ) (cs : List (NetworkCommand ℕ ℕ)) (rs : List (NetworkReply ℕ ℕ)) →
    AreNetworkAnswers wire 3 three before cs rs → IsAnswerAt k before cs rs
answer_at zero before (c ∷ cs) (r ∷ rs) h = h.0
answer_at (suc k) before (c ∷ cs) (r ∷ rs) h = answer_at k ((c, r) ∷ before) cs rs h.1
answer_at k before _ _ h = tt

abbrev other_reply : Reply ℕ ℕ
other_reply = reply.NotReserved

message_of : Received ℕ ℕ → List ℕ
message_of (received.Data d) = d.message
message_of _ = []

abbrev Is : ExchangeOutcome ℕ ℕ → ExchangeOutcome ℕ ℕ → Type 0
Is a b = a ≡ b

module _ (brought none passed : Infos) where
  -- the run with another reply at a place
  abbrev with_reply : ℕ → NetworkReply ℕ ℕ → List (NetworkReply ℕ ℕ)
  with_reply k r = slice_set (replies brought none passed) k r

  abbrev IsRefused : ℕ → NetworkReply ℕ ℕ → Type 0
  IsRefused k r = AreNetworkAnswers wire 3 three [] (commands brought none passed) (with_reply k r) → ⊥

  refused : (k : ℕ) (r : NetworkReply ℕ ℕ) → (IsAnswerAt k [] (commands brought none passed) (with_reply k r) → ⊥) →
      IsRefused k r
  refused k r wrong h = wrong (answer_at k [] (commands brought none passed) (with_reply k r) h)

  -- NETWORK REPLIES: to a call, a call of no node, and two questions

  wrong_call : IsRefused 9 (answer.Call reply.NotReserved)
  unfolding life payload_at body_at data_at message_at length_at groups groups_at texts.info_at ingress_at ip_at
      socket_at bits_read_at bit_vec_read_at bits_in packed spellings elems items_at list_at
  wrong_call = refused 9 (answer.Call reply.NotReserved) (λ h. go h.1)
    where
      go : ((other_reply ≡ reply.OutOfMemory) × ⊥) ⊎ (other_reply ≡ reply.Connect) → ⊥
      go (inl e) = absurd e.1
      go (inr e) = absurd (cc)

  out_of_memory_of_call : IsRefused 9 answer.OutOfMemory
  out_of_memory_of_call = refused 9 answer.OutOfMemory (λ h. absurd h.1)

  frame_of_call : IsRefused 9 (answer.Frame received.Memory)
  frame_of_call = refused 9 (answer.Frame received.Memory) (λ h. absurd h.1)

  exchange_of_call : IsRefused 9 (answer.Exchange exchanged.Memory)
  exchange_of_call = refused 9 (answer.Exchange exchanged.Memory) (λ h. absurd h.1)

  no_node : IsRefused 9 answer.NoNode
  no_node = refused 9 answer.NoNode (λ h. absurd (let e : true ≡ false = h in cc))

  call_of_no_node : IsRefused 6 (answer.Call (reply.Track (Some [])))
  call_of_no_node = refused 6 (answer.Call (reply.Track (Some []))) (λ h. absurd (let e : false ≡ true = h.0 in cc))

  no_bits : IsRefused 10 (answer.Ask None)
  unfolding life payload_at body_at data_at message_at length_at groups groups_at texts.info_at ingress_at ip_at
      socket_at bits_read_at bit_vec_read_at bits_in packed spellings elems items_at list_at
  no_bits = refused 10 (answer.Ask None) (λ h. absurd (let e : None ≡ Some bits = h.1 in cc))

  no_bits_again : IsRefused 11 (answer.Ask None)
  unfolding life payload_at body_at data_at message_at length_at groups groups_at texts.info_at ingress_at ip_at
      socket_at bits_read_at bit_vec_read_at bits_in packed spellings elems items_at list_at
  no_bits_again = refused 11 (answer.Ask None) (λ h. absurd (let e : None ≡ Some bits = h.1 in cc))

  -- FRAMES

  abbrev IsWrong : ℕ → Received ℕ ℕ → Type 0
  IsWrong k r = IsRefused k (answer.Frame r)

  frame_refused : (k : ℕ) (r : Received ℕ ℕ) →
      (IsAnswerAt k [] (commands brought none passed) (with_reply k (answer.Frame r)) → ⊥) → IsWrong k r
  frame_refused k r wrong = refused k (answer.Frame r) wrong

  wrong_frames :
      -- in the place of `Memory`: also a greeting of another peer; and of `Invalid`
      IsWrong 3 received.Malformed × IsWrong 3 (received.Greeted 2) × IsWrong 4 (received.Greeted 1)
      -- .. of `Reply`: one without infos; of `Greeted`
      × IsWrong 12 (received.Reply (3 ∷ 0 ∷ [])) × IsWrong 13 (received.Invalid SynchronyBound)
      -- .. of `Data`: also another message
      × IsWrong 14 (received.Codec EndOfBuffer) × IsWrong 14 (received.Data (record { channel = 1; message = [] }))
      -- .. of `Codec`: want of memory, where none may be wanted, and another fault
      × IsWrong 15 received.Memory
      × IsWrong 15 (received.Codec (InvalidLength 0))
      -- .. of `Malformed`
      × IsWrong 16 (received.Reply (3 ∷ 0 ∷ []))
      -- .. of `Applied`: another number, and a refusal because it is late
      × IsWrong 27 (received.Applied 2) × IsWrong 29 (received.Invalid SynchronyBound)
  unfolding life payload_at body_at data_at message_at length_at groups groups_at texts.info_at ingress_at ip_at
      socket_at bits_read_at bit_vec_read_at bits_in packed spellings elems items_at list_at message_of
  wrong_frames = (
    frame_refused 3 received.Malformed (λ h. absurd (let e : received.Malformed ≡ received.Greeted 1 = h.1 in cc)),
    frame_refused 3 (received.Greeted 2) (λ h. absurd (let e : received.Greeted 2 ≡ received.Greeted 1 = h.1 in cc)),
    frame_refused 4 (received.Greeted 1) (λ h. absurd (let e : received.Greeted 1 ≡ received.Invalid SynchronyBound = h.1 in cc)),
    frame_refused 12 (received.Reply (3 ∷ 0 ∷ [])) (λ h. absurd (let e : received.Reply (3 ∷ 0 ∷ []) ≡ received.Reply peers_1 = h.1 in cc)),
    frame_refused 13 (received.Invalid SynchronyBound) (λ h. absurd (let e : received.Invalid SynchronyBound ≡ received.Greeted 8 = h.1 in cc)),
    frame_refused 14 (received.Codec EndOfBuffer) (λ h. absurd (let e : received.Codec EndOfBuffer ≡ received.Data (record { channel = 1; message = hello }) = h.1 in cc)),
    frame_refused 14 (received.Data (record { channel = 1; message = [] })) (λ h.
        absurd (let e : [] ≡ hello = ap message_of h.1 in cc)),
    frame_refused 15 received.Memory (λ h. absurd (let e : false ≡ true = h.1 in cc)),
    frame_refused 15 (received.Codec (InvalidLength 0)) (λ h. absurd (let e : received.Codec (InvalidLength 0) ≡ received.Codec EndOfBuffer = h.1 in cc)),
    frame_refused 16 (received.Reply (3 ∷ 0 ∷ [])) (λ h. absurd (let e : received.Reply (3 ∷ 0 ∷ []) ≡ received.Malformed = h.1 in cc)),
    frame_refused 27 (received.Applied 2) (λ h. absurd (let e : received.Applied 2 ≡ received.Applied 1 = h.1 in cc)),
    frame_refused 29 (received.Invalid SynchronyBound) (λ h. absurd (let e : received.Invalid SynchronyBound ≡ received.Applied 1 = h.1 in cc)),
  )

  -- EXCHANGES

  abbrev IsWrongExchange : ℕ → Exchanged ℕ ℕ → Type 0
  IsWrongExchange k r = IsRefused k (answer.Exchange r)

  exchange_refused : (k : ℕ) (r : Exchanged ℕ ℕ) →
      (IsAnswerAt k [] (commands brought none passed) (with_reply k (answer.Exchange r)) → ⊥) → IsWrongExchange k r
  exchange_refused k r wrong = refused k (answer.Exchange r) wrong

  wrong_exchanges :
      -- in the place of `NoSet`, which wants no memory
      IsWrongExchange 17 exchanged.Memory × IsWrongExchange 17 exchanged.Malformed
      -- .. of `ReplyRefused`, of `Invalid`, of `AskRefused`: another number
      × IsWrongExchange 18 (exchanged.Applied brought) × IsWrongExchange 19 (exchanged.Applied brought)
      × IsWrongExchange 21 (exchanged.AskRefused (InvalidLength 8))
      -- .. of `Memory`, of `Malformed`
      × IsWrongExchange 23 exchanged.NoSet × IsWrongExchange 31 (exchanged.Applied none)
      -- .. of `Applied`
      × IsWrongExchange 24 exchanged.NoSet × IsWrongExchange 24 (exchanged.Invalid SynchronyBound)
      × IsWrongExchange 24 (exchanged.AskRefused (InvalidLength 2))
      × IsWrongExchange 24 exchanged.Malformed × IsWrongExchange 24 (exchanged.ReplyRefused (InvalidLength 1))
  unfolding life payload_at body_at data_at message_at length_at groups groups_at texts.info_at ingress_at ip_at
      socket_at bits_read_at bit_vec_read_at bits_in packed spellings elems items_at list_at
  wrong_exchanges = (
    exchange_refused 17 exchanged.Memory (λ h. absurd (let e : false ≡ true = h.1 in cc)),
    exchange_refused 17 exchanged.Malformed (λ h. absurd (let e : Is NoSet Malformed = h.1 in cc)),
    exchange_refused 18 (exchanged.Applied brought) (λ h. absurd (let e : Is (ReplyRefused (InvalidLength 1)) (Applied brought.items) = h.1 in cc)),
    exchange_refused 19 (exchanged.Applied brought) (λ h. absurd (let e : Is (Invalid SynchronyBound) (Applied brought.items) = h.1 in cc)),
    exchange_refused 21 (exchanged.AskRefused (InvalidLength 8)) (λ h. absurd (let e : Is (AskRefused (InvalidLength 9)) (AskRefused (InvalidLength 8)) = h.1 in cc)),
    exchange_refused 23 exchanged.NoSet (λ h. absurd (let e : Is (Applied (signed 1 100000 ∷ [])) NoSet = h.1 in cc)),
    exchange_refused 31 (exchanged.Applied none) (λ h. absurd (let e : Is Malformed (Applied none.items) = h.1 in cc)),
    exchange_refused 24 exchanged.NoSet (λ h. absurd (let e : Is (Applied (signed 1 100000 ∷ [])) NoSet = h.1 in cc)),
    exchange_refused 24 (exchanged.Invalid SynchronyBound) (λ h. absurd (let e : Is (Applied (signed 1 100000 ∷ [])) (Invalid SynchronyBound) = h.1 in cc)),
    exchange_refused 24 (exchanged.AskRefused (InvalidLength 2)) (λ h. absurd (let e : Is (Applied (signed 1 100000 ∷ [])) (AskRefused (InvalidLength 2)) = h.1 in cc)),
    exchange_refused 24 exchanged.Malformed (λ h. absurd (let e : Is (Applied (signed 1 100000 ∷ [])) Malformed = h.1 in cc)),
    exchange_refused 24 (exchanged.ReplyRefused (InvalidLength 1)) (λ h. absurd (let e : Is (Applied (signed 1 100000 ∷ [])) (ReplyRefused (InvalidLength 1)) = h.1 in cc)),
  )

  -- an exchange that is to apply an info isn't told as one that applied none
  nothing_applied : none.items ≡ [] → IsWrongExchange 24 (exchanged.Applied none)
  unfolding life payload_at body_at data_at message_at length_at groups groups_at texts.info_at ingress_at ip_at
      socket_at bits_read_at bit_vec_read_at bits_in packed spellings elems items_at list_at
  nothing_applied is_none = refused 24 (answer.Exchange (exchanged.Applied none)) (λ h.
      absurd (let e : Is (Applied (signed 1 100000 ∷ [])) (Applied []) = h.1 ∙ ap Applied is_none in cc))
