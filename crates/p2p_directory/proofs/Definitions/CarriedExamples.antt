-- Worked example 16 frame by frame: each of its six cases is carried, with these frames, and a wrong
-- outcome isn't. All that is told in it has a spelling.
use Rattle.std.proofs.Common.{◌≡◌, ℕ, List, [], ◌∷◌, refl, arith}
use Rattle.p2p_discovery.specs.declared.codec.error.CodecError.TheVariants.{InvalidLength}
use Rattle.p2p_discovery.specs.declared.discovery.Error.TheVariants.{SynchronyBound}
use Rattle.p2p_discovery.specs.Payload.{body_at, payload_at}
use Rattle.p2p_discovery.specs.Data.{data_at, message_at}
use Rattle.p2p_discovery.specs.Counted.{length_at}
use Rattle.p2p_discovery.specs.Varint.{groups, groups_at}
use Rattle.p2p_discovery.specs.Info as texts
use Rattle.p2p_discovery.specs.Ingress.{ingress_at}
use Rattle.p2p_discovery.specs.Socket.{ip_at, socket_at}
use Rattle.p2p_discovery.specs.BitVec.{bits_read_at, bit_vec_read_at}
use Rattle.p2p_discovery.specs.Bits.{bits_in, packed}
use Rattle.p2p_discovery.specs.Lists.{spellings, elems, items_at, list_at}
use Rattle.p2p_tracker.specs.Calls.{Call}
use Rattle.p2p_tracker.specs.History.{life}
use Rattle.p2p_directory.specs.Nodes.{Made}
use Rattle.p2p_directory.specs.Exchange.{ExchangeOutcome, IsCarried, CanBeSpelled}
use Rattle.p2p_directory.specs.Exchange.ExchangeOutcome.{NoSet, AskRefused, Malformed, ReplyRefused, Invalid, Applied}
use Rattle.p2p_directory.proofs.Definitions.Setting.{sec, track}
use Rattle.p2p_directory.proofs.Definitions.GossipExamples.{wire, signed, own_of_8, own_of_9, made, asker, replier, stands, asker_calls, replier_calls}
use Rattle.p2p_directory.proofs.Definitions.LatePremises.{Any, address_bytes, peers_1}
use Rattle.p2p_directory.proofs.Nodes.Carried.{carried_once}

-- the bits of [1, 2] at index 0: none is known
abbrev bits_12 : List ℕ
bits_12 = 2 ∷ 0 ∷ 2 ∷ 0 ∷ []

abbrev carried : Made ℕ ℕ → List (Call ℕ ℕ) → Made ℕ ℕ → List (Call ℕ ℕ) → ℕ → ℕ → ExchangeOutcome ℕ ℕ → Type 0
carried a cs r ds s t o = IsCarried wire (stands a cs) (stands r ds) 0 s t o

applied : carried asker asker_calls replier replier_calls (sec 70) (sec 100) (Applied (signed 1 100000 ∷ []))
unfolding life payload_at body_at data_at message_at length_at groups groups_at texts.info_at ingress_at ip_at
    socket_at bits_read_at bit_vec_read_at bits_in packed spellings elems items_at list_at
applied = (peers_1, (bits_12, refl, refl, refl), refl)

invalid : carried asker asker_calls replier replier_calls 69_999_999_999 (sec 100) (Invalid SynchronyBound)
unfolding life payload_at body_at data_at message_at length_at groups groups_at texts.info_at ingress_at ip_at
    socket_at bits_read_at bit_vec_read_at bits_in packed spellings elems items_at list_at
invalid = (peers_1, (bits_12, refl, refl, refl), refl)

reply_refused : carried (made own_of_9 8 0 8) asker_calls replier replier_calls (sec 70) (sec 100) (ReplyRefused (InvalidLength 1))
unfolding life payload_at body_at data_at message_at length_at groups groups_at texts.info_at ingress_at ip_at
    socket_at bits_read_at bit_vec_read_at bits_in packed spellings elems items_at list_at
reply_refused = (peers_1, (bits_12, refl, refl, refl), refl)

ended_before :
    carried asker asker_calls replier (track 0 (1 ∷ []) ∷ []) (sec 100) (sec 100) Malformed
    × carried asker asker_calls (made own_of_8 1 8 8) asker_calls (sec 100) (sec 100) (AskRefused (InvalidLength 2))
    × carried asker [] replier [] (sec 100) (sec 100) NoSet
unfolding life payload_at body_at data_at message_at length_at groups groups_at texts.info_at ingress_at ip_at
    socket_at bits_read_at bit_vec_read_at bits_in packed spellings elems items_at list_at
ended_before = ((bits_12, refl, refl, refl), (bits_12, refl, refl, refl), refl)

-- other infos than those of the reply aren't applied
none_applied : carried asker asker_calls replier replier_calls (sec 70) (sec 100) (Applied []) → ⊥
none_applied h =
    let same : Applied [] ≡ Applied (signed 1 100000 ∷ []) =
    carried_once wire (stands asker asker_calls) (stands replier replier_calls) 0 (sec 70) (sec 100) (Applied []) (Applied (signed 1 100000 ∷ [])) h applied in
    absurd cc

-- what is told
spelled : CanBeSpelled Any Any (stands asker asker_calls) (stands replier replier_calls) 0 (sec 100)
unfolding life
spelled = record {
  bits = record { index = omega arith; count = omega arith };
  infos = λ few. record {
    count = omega arith;
    values = ((record { ingress = ((refl, address_bytes), omega arith); timestamp = omega arith }, tt), (record { key = tt; signature = tt }, tt));
  };
}
