-- Two nodes with keys of 32 bytes and signatures of 64, of which a predicate takes some: a frame
-- with a wrong signature is refused, and three frames are an exchange that brings an info.
use Rattle.std.proofs.Common.{◌≡◌, ℕ, zero, suc, ◌<◌, ◌+◌, Bool, true, false, List, [], ◌∷◌}
use Rattle.std.proofs.Common.{◌++◌, Some}
use Rattle.std.proofs.Common.{inr, refl, sym, ap, subst, arith, ◌∙◌, Vec, Global}
use Rattle.std.specs.Prelude.{◌==◌, slice_index_or}
use Rattle.std.specs.declared.time.Duration.{Duration}
use Rattle.std.specs.List.Sorted.{IsStrictlySortedBy}
use Rattle.p2p_discovery.specs.declared.discovery.Error.TheVariants.{InvalidSignature}
use Rattle.p2p_discovery.specs.declared.discovery.Info.{Info}
use Rattle.p2p_discovery.specs.declared.types.ingress.Ingress.TheVariants.{Socket}
use Rattle.p2p_discovery.specs.declared.types.socket.IpAddr.TheVariants.{V4}
use Rattle.p2p_discovery.specs.Reading.{IsBytes}
use Rattle.p2p_discovery.specs.Payload.{body_at, payload_at}
use Rattle.p2p_discovery.specs.Data.{data_at, message_at}
use Rattle.p2p_discovery.specs.Counted.{length_at}
use Rattle.p2p_discovery.specs.Varint.{groups, groups_at}
use Rattle.p2p_discovery.specs.Info as texts
use Rattle.p2p_discovery.specs.Ingress.{ingress_at}
use Rattle.p2p_discovery.specs.Socket.{ip_at, socket_at}
use Rattle.p2p_discovery.specs.BitVec.{bits_read_at, bit_vec_read_at}
use Rattle.p2p_discovery.specs.Bits.{bits_in, packed}
use Rattle.p2p_discovery.specs.Lists.{spellings, elems, items_at, list_at}
use Rattle.p2p_tracker.specs.declared.directory.TrackedPeers.{TrackedPeers}
use Rattle.p2p_tracker.specs.Calls.{SetAt}
use Rattle.p2p_tracker.specs.History.{life}
use Rattle.p2p_directory.specs.declared.node.exchanged.Exchanged.{Exchanged}
use Rattle.p2p_directory.specs.declared.node.exchanged.Exchanged.TheVariants as exchanged
use Rattle.p2p_directory.specs.declared.node.network.commands.NetworkCommand.TheVariants as network
use Rattle.p2p_directory.specs.declared.node.network.commands.NetworkReply.TheVariants as answer
use Rattle.p2p_directory.specs.declared.node.received.Received.TheVariants as received
use Rattle.p2p_directory.specs.declared.run.commands.Command.TheVariants as command
use Rattle.p2p_directory.specs.declared.run.commands.Reply.TheVariants as reply
use Rattle.p2p_directory.specs.Network.{Done, AreNetworkAnswers}
use Rattle.p2p_directory.specs.Exchange.ExchangeOutcome.{Applied}
use Rattle.p2p_directory.specs.Nodes.{Made}
use Rattle.p2p_directory.specs.Received.{Wire}
use Rattle.p2p_directory.specs.Laws.InTurn.{Steps, commands_of, replies_of}
use Rattle.p2p_directory.specs.Laws.Network.{IsSigned, IsGivenOnly, HaveOneList, Fits, MayBring}
use Rattle.p2p_directory.specs.Laws.Network.{infos_to_bring}
use Rattle.p2p_directory.specs.Laws.ExchangeFrames.{ExchangeFrames, AreExchange, done_by}
use Rattle.p2p_directory.specs.Laws.ExchangeFrames.{frame_steps, exchange_steps, AreCounted}
use Rattle.p2p_directory.specs.Laws.ExchangeFrames.{IsSpelledAfter}
use Rattle.p2p_directory.specs.Laws.ExchangeFrames.ExchangeFrames.{Replied}
use Rattle.p2p_session.specs.declared.key.Key.{Key}
use Rattle.p2p_session.specs.declared.key.Signature.{Signature}
use Rattle.p2p_session.specs.Keys.{keys32_64}
use Rattle.p2p_session.specs.Networks.{judged_wire}
use Rattle.p2p_session.proofs.ShownSteps.{sec}

-- ---- the setting

-- bytes of keys and signatures, of which only the first isn't 0
abbrev zeros : ℕ → List ℕ
zeros zero = []
zeros (suc n) = 0 ∷ zeros n

abbrev bytes32 : ℕ → List ℕ
bytes32 n = n ∷ zeros 31

abbrev bytes64 : ℕ → List ℕ
bytes64 n = n ∷ zeros 63

abbrev key : ℕ → Key
key n = record { 0 = bytes32 n }

-- a signature is right if its first byte is that of its key and 40
abbrev right : Key → List ℕ → List ℕ → Signature → Bool
right p namespace message s = slice_index_or s.0 0 0 == slice_index_or p.0 0 0 + 40

abbrev wire : Wire Key Signature
wire = judged_wire keys32_64 right

abbrev Infos : Type 0
Infos = Vec (Info Key Signature) Global

abbrev info : ℕ → ℕ → ℕ → Info Key Signature
info p timestamp first = record {
  ingress = Socket (record { ip = V4 (1 ∷ 2 ∷ 3 ∷ 4 ∷ []); port = 8001 });
  timestamp = timestamp;
  public_key = key p;
  signature = record { 0 = bytes64 first };
}

abbrev made : ℕ → Made Key Signature
made n = record {
  directory = record {
    cmp = keys32_64.key.cmp;
    own = info n 0 (n + 40);
    bootstrappers = [];
    allow_private_ips = true;
    allow_dns = true;
    max_sets = 1;
    dial_fail_limit = 1;
    cooldown = sec 10;
    block_duration = sec 60;
  };
  limits = record { max_bit_vec = 8; max_peers = 8; max_data_length = 32 };
  verifier = record {
    me = key n;
    greatest_count = 8;
    synchrony_bound = sec 30;
    namespace = [];
  };
}

-- node 0 with key 9, and node 1 with key 8
abbrev two : ℕ → Made Key Signature
two zero = made 9
two (suc i) = made 8

abbrev seconds : ℕ → Duration
seconds n = record { secs = n; nanos = 0 }

abbrev peers12 : TrackedPeers Key Signature
peers12 = record { primary = key 1 ∷ key 2 ∷ []; secondary = [] }

-- ---- the steps

abbrev info_bytes : ℕ → List ℕ
info_bytes first = 0 ∷ 4 ∷ 1 ∷ 2 ∷ 3 ∷ 4 ∷ 31 ∷ 65 ∷ 160 ∷ 141 ∷ 6 ∷ (bytes32 1 ++ bytes64 first)

abbrev greeting : ℕ → List ℕ
greeting first = 1 ∷ info_bytes first

abbrev bits : List ℕ
bits = 2 ∷ 0 ∷ 2 ∷ 0 ∷ []

abbrev given : List ℕ
given = 3 ∷ 1 ∷ info_bytes 41

abbrev before : Steps Key Signature
before =
    (network.Call 0 (command.Track 0 peers12), answer.Call (reply.Track (Some [])))
    ∷ (network.Call 1 (command.Track 0 peers12), answer.Call (reply.Track (Some [])))
    ∷ (
      network.Frame 1 (greeting 42) (seconds 100),
      answer.Frame (received.Invalid InvalidSignature),
    )
    ∷ (network.Frame 1 (greeting 41) (seconds 100), answer.Frame (received.Greeted (key 1)))
    ∷ (
      network.Call 1 (command.Listen (key 1) (seconds 50) (seconds 0)),
      answer.Call (reply.Listen true),
    )
    ∷ (network.Call 1 (command.Connect (key 1) false), answer.Call reply.Connect)
    ∷ []

abbrev three_frames : ExchangeFrames Key Signature
three_frames = Replied bits [] given [] (received.Applied 1)

abbrev framed : Steps Key Signature
framed = frame_steps 0 1 0 (seconds 70) (seconds 100) three_frames

abbrev done : Done Key Signature
done = done_by wire 2 two before

abbrev Answered : Done Key Signature → Steps Key Signature → Type 0
Answered done steps = AreNetworkAnswers wire 2 two done (commands_of steps) (replies_of steps)

are_before : Answered [] before
unfolding life IsStrictlySortedBy payload_at body_at data_at message_at length_at groups groups_at
    texts.info_at ingress_at ip_at socket_at bits_read_at bit_vec_read_at bits_in packed spellings
    elems items_at list_at
are_before = (
  (refl, inr (refl, record { sorted = tt; members = λ p. refl })),
  (
    (refl, inr (refl, record { sorted = tt; members = λ p. refl })),
    ((refl, refl), ((refl, refl), ((refl, inr refl), ((refl, inr refl), tt)))),
  ),
)

are_framed : Answered done framed
unfolding life payload_at body_at data_at message_at length_at groups groups_at texts.info_at
    ingress_at ip_at socket_at bits_read_at bit_vec_read_at bits_in packed spellings elems items_at
    list_at
are_framed = ((refl, refl), ((refl, refl), ((refl, refl), tt)))

-- ---- what is told has a spelling

zero_bytes : (n : ℕ) → IsBytes (zeros n)
zero_bytes zero i = omega arith
zero_bytes (suc n) zero = omega arith
zero_bytes (suc n) (suc i) = zero_bytes n i

first_bytes : (b n : ℕ) → b < 256 → IsBytes (b ∷ zeros n)
first_bytes b n lt zero = lt
first_bytes b n lt (suc i) = zero_bytes n i

address_bytes : IsBytes (1 ∷ 2 ∷ 3 ∷ 4 ∷ [])
address_bytes zero = omega arith
address_bytes (suc zero) = omega arith
address_bytes (suc (suc zero)) = omega arith
address_bytes (suc (suc (suc zero))) = omega arith
address_bytes (suc (suc (suc (suc i)))) = omega arith

spelled : IsSpelledAfter wire 2 two keys32_64.key.IsValue keys32_64.signature.IsValue before 0 1 0
    (sec 100)
unfolding life payload_at body_at data_at message_at length_at groups groups_at texts.info_at
    ingress_at ip_at socket_at bits_read_at bit_vec_read_at bits_in packed spellings elems items_at
    list_at
spelled = record {
  bits = record { index = omega arith; count = omega arith };
  infos = λ few. record {
    count = omega arith;
    values = (
      (record { ingress = ((refl, address_bytes), omega arith); timestamp = omega arith }, tt),
      (
        record {
          key = (refl, first_bytes 1 31 (omega arith));
          signature = (refl, first_bytes 41 63 (omega arith));
        },
        tt,
      ),
    );
  };
}

-- ---- the premises of an exchange: what the replier was given is signed by the predicate

honest : IsGivenOnly wire 2 two 1 (IsSigned wire 2 two 0 1) done
unfolding life payload_at body_at data_at message_at length_at groups groups_at texts.info_at
    ingress_at ip_at socket_at bits_read_at bit_vec_read_at bits_in packed spellings elems items_at
    list_at
honest = record {
  own = λ there. record { at_asker = refl; at_replier = refl };
  given = (
    (λ e. tt),
    (
      (λ e. tt),
      (
        (λ e applied. (record { at_asker = refl; at_replier = refl }, tt)),
        ((λ e applied. absurd (cc)), ((λ e. tt), ((λ e. tt), tt))),
      ),
    ),
  );
}

-- .. and another info isn't
not_signed : IsSigned wire 2 two 0 1 (info 1 100000 42) → ⊥
not_signed h = absurd (let e = h.at_asker in cc)

abbrev x : SetAt Key
x = record { index = 0; primary = key 1 ∷ key 2 ∷ []; secondary = [] }

one_list : HaveOneList wire 2 two done done 0 1 0 x
unfolding life payload_at body_at data_at message_at length_at groups groups_at texts.info_at
    ingress_at ip_at socket_at bits_read_at bit_vec_read_at bits_in packed spellings elems items_at
    list_at
one_list = record { at_place = refl; kept = x; retained = refl; one_list = refl }

brings : infos_to_bring wire 2 two done 0 1 (sec 100) x ≡ info 1 100000 41 ∷ []
unfolding life payload_at body_at data_at message_at length_at groups groups_at texts.info_at
    ingress_at ip_at socket_at bits_read_at bit_vec_read_at bits_in packed spellings elems items_at
    list_at
brings = refl

may_bring : MayBring wire 2 two done 0 1 0 (seconds 70) (seconds 100) x
may_bring = record {
  honest = honest;
  one = one_list;
  fits = subst (Fits wire 2 two 0 1 (sec 70) (sec 100) x) (sym brings) (record {
    bits = omega arith;
    peers = omega arith;
    count = omega arith;
    moments = omega arith;
  });
}

-- ---- the frames count as the exchange, whatever holds the info that is brought

module _ (brought : Infos) (is_brought : brought.items ≡ info 1 100000 41 ∷ []) where
  abbrev outcome : Exchanged Key Signature
  outcome = exchanged.Applied brought

  are_exchange : AreExchange wire 2 two 0 1 three_frames outcome
  unfolding life payload_at body_at data_at message_at length_at groups groups_at texts.info_at
      ingress_at ip_at socket_at bits_read_at bit_vec_read_at bits_in packed spellings elems
      items_at list_at
  are_exchange = record { there = refl; apart = λ e. cc; between = tt; outcome = is_brought }

  abbrev counted : Steps Key Signature
  counted = before
      ++ (exchange_steps 0 1 0 (seconds 70) (seconds 100) three_frames outcome ++ [])

  are_counted : AreCounted wire 2 two keys32_64.key.IsValue keys32_64.signature.IsValue 1
      (before ++ (framed ++ [])) counted
  are_counted = (
    counted,
    record {
      asker = 0;
      replier = 1;
      place = 0;
      s = seconds 70;
      t = seconds 100;
      frames = three_frames;
      r = outcome;
      before = before;
      after = [];
      are_exchange = are_exchange;
      spelled = λ no_want. spelled;
      in_frames = refl;
      in_exchange = refl;
    },
    refl,
  )

  -- .. it is what is answered, and brings the info
  is_answered : Answered done (exchange_steps 0 1 0 (seconds 70) (seconds 100) three_frames outcome)
  unfolding life payload_at body_at data_at message_at length_at groups groups_at texts.info_at
      ingress_at ip_at socket_at bits_read_at bit_vec_read_at bits_in packed spellings elems
      items_at list_at
  is_answered = ((refl, ap Applied (sym is_brought)), tt)

  -- an exchange that comes to nothing isn't
  nothing_is_refused : (none : Infos) → none.items ≡ [] →
      AreExchange wire 2 two 0 1 three_frames (exchanged.Applied none) → ⊥
  unfolding life payload_at body_at data_at message_at length_at groups groups_at texts.info_at
      ingress_at ip_at socket_at bits_read_at bit_vec_read_at bits_in packed spellings elems
      items_at list_at
  nothing_is_refused none empty are =
      let e : [] ≡ info 1 100000 41 ∷ [] = sym empty ∙ are.outcome in absurd (cc)
