-- A run of two nodes, as commands of a pair: its replies are answers. Where the reply of its exchange
-- has an info that isn't signed, `LawsOfPair` refuses it.
use Rattle.std.proofs.Common.{◌≡◌, ℕ, zero, suc, true, false, List, [], ◌∷◌, Some, inr, refl, sym, subst, ap}
use Rattle.std.specs.List.{AllByRecursion}
use Rattle.std.specs.List.Sorted.{IsStrictlySortedBy}
use Rattle.p2p_discovery.specs.declared.discovery.Info.{Info}
use Rattle.p2p_discovery.specs.Payload.{body_at, payload_at}
use Rattle.p2p_discovery.specs.Data.{data_at, message_at}
use Rattle.p2p_discovery.specs.Counted.{length_at}
use Rattle.p2p_discovery.specs.Varint.{groups, groups_at}
use Rattle.p2p_discovery.specs.Info as texts
use Rattle.p2p_discovery.specs.Ingress.{ingress_at}
use Rattle.p2p_discovery.specs.Socket.{ip_at, socket_at}
use Rattle.p2p_discovery.specs.BitVec.{bits_read_at, bit_vec_read_at}
use Rattle.p2p_discovery.specs.Bits.{bits_in, packed}
use Rattle.p2p_discovery.specs.Lists.{spellings, elems, items_at, list_at}
use Rattle.p2p_tracker.specs.History.{life}
use Rattle.p2p_directory.specs.declared.node.received.Received.TheVariants as received
use Rattle.p2p_directory.specs.declared.node.exchanged.Exchanged.TheVariants as exchanged
use Rattle.p2p_directory.specs.declared.node.pair.Side.TheVariants.{Left, Right}
use Rattle.p2p_directory.specs.declared.node.pair.PairCommand.{PairCommand}
use Rattle.p2p_directory.specs.declared.node.pair.PairCommand.TheVariants as pair
use Rattle.p2p_directory.specs.declared.node.pair.PairReply.{PairReply}
use Rattle.p2p_directory.specs.declared.node.pair.PairReply.TheVariants as answer
use Rattle.p2p_directory.specs.declared.run.commands.Command.TheVariants as command
use Rattle.p2p_directory.specs.declared.run.commands.Reply.TheVariants as reply
use Rattle.p2p_directory.specs.Exchange.ExchangeOutcome.{Applied}
use Rattle.p2p_directory.specs.Nodes.{Made}
use Rattle.p2p_directory.specs.Network.{Done, is_node, done_after}
use Rattle.p2p_directory.specs.Pairs.{two, commands_in, replies_in, ArePairAnswers}
use Rattle.p2p_directory.specs.Laws.Network.{AreAllGiven, IsGivenOnly, IsSigned}
use Rattle.p2p_directory.specs.Laws.TwoNodes.{LawsOfPair}
use Rattle.p2p_directory.proofs.Definitions.ByteKeys.{IsByte}
use Rattle.p2p_directory.proofs.Definitions.GossipExamples.{wire, signed, signed_elsewhere, asker, replier}
use Rattle.p2p_directory.proofs.Definitions.ExchangePremises.{seconds, peers12, greeting_1}
use Rattle.p2p_directory.proofs.Definitions.ShownRun.{Infos}

abbrev nodes : ℕ → Made ℕ ℕ
nodes = two asker replier

abbrev commands : List (PairCommand ℕ ℕ)
commands =
    pair.Call Left (command.Track 0 peers12)
    ∷ pair.Call Right (command.Track 0 peers12)
    ∷ pair.Frame Right greeting_1 (seconds 100)
    ∷ pair.Call Right (command.Listen 1 (seconds 50) (seconds 0))
    ∷ pair.Call Right (command.Connect 1 false)
    ∷ pair.Exchange Left 0 (seconds 70) (seconds 100)
    ∷ []

-- whatever infos the exchange brought
abbrev replies : Infos → List (PairReply ℕ ℕ)
replies brought =
    answer.Call (reply.Track (Some []))
    ∷ answer.Call (reply.Track (Some []))
    ∷ answer.Frame (received.Greeted 1)
    ∷ answer.Call (reply.Listen true)
    ∷ answer.Call reply.Connect
    ∷ answer.Exchange (exchanged.Applied brought)
    ∷ []

are_answers : (brought : Infos) → brought.items ≡ signed 1 100000 ∷ [] →
    ArePairAnswers wire asker replier [] commands (replies brought)
unfolding life IsStrictlySortedBy payload_at body_at data_at message_at length_at groups groups_at texts.info_at
    ingress_at ip_at socket_at bits_read_at bit_vec_read_at bits_in packed spellings elems items_at list_at
are_answers brought is_brought = (
  (refl, inr (refl, record { sorted = tt; members = λ p. refl })),
  (
    (refl, inr (refl, record { sorted = tt; members = λ p. refl })),
    ((refl, refl), ((refl, inr refl), ((refl, inr refl), ((refl, ap Applied (sym is_brought)), tt)))),
  ),
)

-- SIGNED: all that is given from outside is signed for both

abbrev IsHonest : Info ℕ ℕ → Type 0
IsHonest = IsSigned wire 2 nodes 0 1

abbrev done : Infos → Done ℕ ℕ
done brought = done_after wire 2 nodes [] (commands_in commands) (replies_in (replies brought))

all_given : (brought : Infos) → AreAllGiven wire 2 nodes IsHonest (done brought)
unfolding payload_at body_at data_at message_at length_at groups groups_at texts.info_at ingress_at ip_at
    socket_at bits_read_at bit_vec_read_at bits_in packed spellings elems items_at list_at
all_given brought = record {
  own = own;
  given = (tt, (tt, (tt, ((λ e. (record { at_asker = refl; at_replier = refl }, tt)), (tt, (tt, tt))))));
}
  where
    own : (i : ℕ) → is_node wire 2 nodes i ≡ true → IsHonest (nodes i).directory.own
    own zero there = record { at_asker = refl; at_replier = refl }
    own (suc i) there = record { at_asker = refl; at_replier = refl }

-- an exchange that brings an info of another namespace is refused
forged_is_refused : (forged : Infos) → forged.items ≡ signed_elsewhere 1 5 ∷ [] →
    LawsOfPair wire IsByte IsByte asker replier commands (replies forged) → ⊥
forged_is_refused forged is laws =
    let only : IsGivenOnly wire 2 nodes 0 IsHonest (done forged) =
    (laws.given.1.1.1.1.1.1 0 1).1 (all_given forged) 0 in
    let each : AllByRecursion IsHonest forged.items = only.given.0 refl in
    let one : AllByRecursion IsHonest (signed_elsewhere 1 5 ∷ []) = subst (AllByRecursion IsHonest) is each in
    absurd (let e : false ≡ true = one.0.at_asker in cc)
