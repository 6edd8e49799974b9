-- Three frames of worked example 16 are its exchange, with a frame at another node between. With a
-- call of the replier between they aren't, and the exchange then comes to something else.
use Rattle.std.proofs.Common.{◌≡◌, ℕ, [], ◌∷◌, ◌++◌, refl, ap, ◌∙◌, inr, arith}
use Rattle.p2p_discovery.specs.declared.codec.error.CodecError.TheVariants.{EndOfBuffer}
use Rattle.p2p_discovery.specs.Payload.{body_at, payload_at}
use Rattle.p2p_discovery.specs.Data.{data_at, message_at}
use Rattle.p2p_discovery.specs.Counted.{length_at}
use Rattle.p2p_discovery.specs.Varint.{groups, groups_at}
use Rattle.p2p_discovery.specs.Info as texts
use Rattle.p2p_discovery.specs.Ingress.{ingress_at}
use Rattle.p2p_discovery.specs.Socket.{ip_at, socket_at}
use Rattle.p2p_discovery.specs.BitVec.{bits_read_at, bit_vec_read_at}
use Rattle.p2p_discovery.specs.Bits.{bits_in, packed}
use Rattle.p2p_discovery.specs.Lists.{spellings, elems, items_at, list_at}
use Rattle.p2p_tracker.specs.History.{life}
use Rattle.p2p_directory.specs.declared.node.received.Received.TheVariants as received
use Rattle.p2p_directory.specs.declared.node.exchanged.Exchanged.{Exchanged}
use Rattle.p2p_directory.specs.declared.node.exchanged.Exchanged.TheVariants as exchanged
use Rattle.p2p_directory.specs.declared.node.network.commands.NetworkCommand.TheVariants as network
use Rattle.p2p_directory.specs.declared.node.network.commands.NetworkReply.TheVariants as answer
use Rattle.p2p_directory.specs.declared.run.commands.Command.TheVariants as command
use Rattle.p2p_directory.specs.declared.run.commands.Reply.TheVariants as reply
use Rattle.p2p_directory.specs.Exchange.{ExchangeOutcome}
use Rattle.p2p_directory.specs.Exchange.ExchangeOutcome.{Applied}
use Rattle.p2p_directory.specs.Network.{Done, IsNetworkAnswer, AreNetworkAnswers}
use Rattle.p2p_directory.specs.Laws.InTurn.{Steps, commands_of, replies_of}
use Rattle.p2p_directory.specs.Laws.ExchangeFrames.{ExchangeFrames, AreExchange}
use Rattle.p2p_directory.specs.Laws.ExchangeFrames.{frame_steps, exchange_steps, IsSpelledAfter}
use Rattle.p2p_directory.specs.Laws.ExchangeFrames.{AreCounted}
use Rattle.p2p_directory.specs.Laws.ExchangeFrames.ExchangeFrames.{Replied}
use Rattle.p2p_directory.proofs.LawsOfNetworks.ExchangeFrames.{answered_by}
use Rattle.p2p_directory.proofs.Definitions.Setting.{sec}
use Rattle.p2p_directory.proofs.Definitions.GossipExamples.{wire, signed}
use Rattle.p2p_directory.proofs.Definitions.ExchangePremises.{three, done, seconds}
use Rattle.p2p_directory.proofs.Definitions.LatePremises.{Any, address_bytes, peers_1}
use Rattle.p2p_directory.proofs.Definitions.ShownRun.{first, bits, Infos}

abbrev Answered : Done ℕ ℕ → Steps ℕ ℕ → Type 0
Answered before steps =
    AreNetworkAnswers wire 3 three before (commands_of steps) (replies_of steps)

-- node 2 is handed an empty frame, and node 1 releases its peer
abbrev other : Steps ℕ ℕ
other = (network.Frame 2 [] (seconds 100), answer.Frame (received.Codec EndOfBuffer)) ∷ []

abbrev release : Steps ℕ ℕ
release = (network.Call 1 (command.Release 1), answer.Call reply.Release) ∷ []

-- node 0 asks node 1, and takes its reply; in between is this
abbrev with_between : Steps ℕ ℕ → ExchangeFrames ℕ ℕ
with_between later = Replied bits other peers_1 later (received.Applied 1)

abbrev framed : Steps ℕ ℕ → Steps ℕ ℕ
framed later = frame_steps 0 1 0 (seconds 70) (seconds 100) (with_between later)

-- each frame is answered so, whether the replier is called in between or not
are_answered : Answered done (framed other) × Answered done (framed release)
unfolding life payload_at body_at data_at message_at length_at groups groups_at texts.info_at
    ingress_at ip_at socket_at bits_read_at bit_vec_read_at bits_in packed spellings elems items_at
    list_at
are_answered = (
  ((refl, refl), ((refl, refl), ((refl, refl), ((refl, refl), ((refl, refl), tt))))),
  ((refl, refl), ((refl, refl), ((refl, refl), ((refl, inr refl), ((refl, refl), tt))))),
)

-- what is told has a spelling
spelled : IsSpelledAfter wire 3 three Any Any first 0 1 0 (sec 100)
unfolding life payload_at body_at data_at message_at length_at groups groups_at texts.info_at
    ingress_at ip_at socket_at bits_read_at bit_vec_read_at bits_in packed spellings elems items_at
    list_at
spelled = record {
  bits = record { index = omega arith; count = omega arith };
  infos = λ few. record {
    count = omega arith;
    values = (
      (record { ingress = ((refl, address_bytes), omega arith); timestamp = omega arith }, tt),
      (record { key = tt; signature = tt }, tt),
    );
  };
}

-- whatever holds the info that is brought
module _ (brought : Infos) (is_brought : brought.items ≡ signed 1 100000 ∷ []) where
  abbrev outcome : Exchanged ℕ ℕ
  outcome = exchanged.Applied brought

  are_exchange : AreExchange wire 3 three 0 1 (with_between other) outcome
  unfolding life payload_at body_at data_at message_at length_at groups groups_at texts.info_at
      ingress_at ip_at socket_at bits_read_at bit_vec_read_at bits_in packed spellings elems
      items_at list_at
  are_exchange = record {
    there = refl;
    apart = λ e. cc;
    between = ((refl, refl), ((refl, refl), tt));
    outcome = is_brought;
  }

  is_exchange : Answered done
      (exchange_steps 0 1 0 (seconds 70) (seconds 100) (with_between other) outcome)
  unfolding life payload_at body_at data_at message_at length_at groups groups_at texts.info_at
      ingress_at ip_at socket_at bits_read_at bit_vec_read_at bits_in packed spellings elems
      items_at list_at
  is_exchange = answered_by wire 3 three 0 1 0 (seconds 70) (seconds 100) done (with_between other)
      outcome are_exchange (λ made. (peers_1, (bits, refl, refl, refl), refl)) are_answered.0

  are_counted : AreCounted wire 3 three Any Any 1 (first ++ (framed other ++ []))
      (first
      ++ (exchange_steps 0 1 0 (seconds 70) (seconds 100) (with_between other) outcome ++ []))
  are_counted = (
    first
        ++ (exchange_steps 0 1 0 (seconds 70) (seconds 100) (with_between other) outcome ++ []),
    record {
      asker = 0;
      replier = 1;
      place = 0;
      s = seconds 70;
      t = seconds 100;
      frames = with_between other;
      r = outcome;
      before = first;
      after = [];
      are_exchange = are_exchange;
      spelled = λ made. spelled;
      in_frames = refl;
      in_exchange = refl;
    },
    refl,
  )

  not_exchange : AreExchange wire 3 three 0 1 (with_between release) outcome → ⊥
  not_exchange are = let named = are.between.1.0.1 in cc

  -- .. the exchange would bring nothing
  not_answered : IsNetworkAnswer wire 3 three
      ((network.Call 1 (command.Release 1), answer.Call reply.Release) ∷ done)
      (network.Exchange 0 1 0 (seconds 70) (seconds 100)) (answer.Exchange outcome) → ⊥
  unfolding life payload_at body_at data_at message_at length_at groups groups_at texts.info_at
      ingress_at ip_at socket_at bits_read_at bit_vec_read_at bits_in packed spellings elems
      items_at list_at
  not_answered h =
      let nothing : ExchangeOutcome ℕ ℕ = Applied [] in
      let none : nothing ≡ Applied (signed 1 100000 ∷ []) =
      h.1 ∙ ap (λ is. Applied is) is_brought in
      absurd (cc)
