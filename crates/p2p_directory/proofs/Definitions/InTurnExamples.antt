-- Steps of one new node, whatever its setup: they are served in turn. With a wrong reply none are.
use Rattle.std.proofs.Common.{◌≡◌, ℕ, zero, suc, ◌<◌, List, [], ◌∷◌, refl, arith}
use Rattle.std.specs.Prelude.{slice_index_or}
use Rattle.std.specs.Ordering.{nat_cmp}
use Rattle.p2p_discovery.specs.declared.codec.error.CodecError.TheVariants.{EndOfBuffer}
use Rattle.p2p_discovery.specs.Payload.{payload_at, body_at}
use Rattle.p2p_directory.specs.declared.node.received.Received.{Received}
use Rattle.p2p_directory.specs.declared.node.received.Received.TheVariants as received
use Rattle.p2p_directory.specs.declared.node.setup.Setup.{Setup}
use Rattle.p2p_directory.specs.declared.node.network.commands.NetworkCommand.TheVariants as command
use Rattle.p2p_directory.specs.declared.node.network.commands.NetworkReply.TheVariants as reply
use Rattle.p2p_directory.specs.declared.run.commands.Command.TheVariants as run_command
use Rattle.p2p_directory.specs.declared.run.commands.Reply.TheVariants as run_reply
use Rattle.p2p_directory.specs.Nodes.{NodeView, NodeStandsAt, made_of}
use Rattle.p2p_directory.specs.Network.{StandAfter, node_made}
use Rattle.p2p_directory.specs.Laws.InTurn.{Steps, AreServedInTurn, IsNetworkRun, not_refused}
use Rattle.p2p_directory.proofs.LawsOfNetworks.InTurn.{is_run}
use Rattle.p2p_directory.proofs.Definitions.GossipExamples.{wire}
use Rattle.p2p_directory.proofs.Definitions.ExchangePremises.{seconds}

-- steps that were refused for memory are left out
abbrev asked : Steps ℕ ℕ
asked = (command.Ask 0 0, reply.OutOfMemory) ∷ []

abbrev lacking : Steps ℕ ℕ
lacking = (
  command.Call 0 (run_command.Listen 1 (seconds 50) (seconds 0)),
  reply.Call run_reply.OutOfMemory,
) ∷ asked

left_out : not_refused lacking ≡ asked
left_out = refl

module _ (given other : Setup ℕ ℕ) (v : NodeView ℕ ℕ)
    (stands : NodeStandsAt (made_of nat_cmp given) [] v) where
  -- an empty frame is no payload, and there is no other node
  abbrev steps : Received ℕ ℕ → Steps ℕ ℕ
  steps r = (command.Frame 0 [] (seconds 100), reply.Frame r) ∷ (command.Ask 1 0, reply.NoNode) ∷ []

  are_served : AreServedInTurn nat_cmp wire (steps (received.Codec EndOfBuffer)) (v ∷ []) (v ∷ [])
  unfolding payload_at body_at
  are_served = (
    v ∷ [],
    record {
      there = omega arith;
      node = v;
      others = refl;
      received = λ u setup calls at. record { answer = refl; left = at };
    },
    (v ∷ [], (refl, refl), refl),
  )

  stand : StandAfter wire 1 (node_made nat_cmp other (given ∷ [])) [] (v ∷ [])
  stand = record { count = refl; each = each }
    where
      each : (i : ℕ) (u : NodeView ℕ ℕ) → i < 1 →
          NodeStandsAt (node_made nat_cmp other (given ∷ []) i) [] (slice_index_or (v ∷ []) i u)
      each zero u lt = stands
      each (suc i) u lt = absurd (omega (arith, lt))

  run : IsNetworkRun wire 1 (node_made nat_cmp other (given ∷ []))
      (steps (received.Codec EndOfBuffer)) (v ∷ [])
  run = is_run nat_cmp wire (given ∷ []) other (steps (received.Codec EndOfBuffer)) (v ∷ [])
      (v ∷ []) stand are_served

  not_applied : {vs : List (NodeView ℕ ℕ)} →
      AreServedInTurn nat_cmp wire (steps (received.Applied 0)) (v ∷ []) vs → ⊥
  unfolding payload_at body_at
  not_applied {vs} h =
      let wrong : IsNetworkRun wire 1 (node_made nat_cmp other (given ∷ []))
      (steps (received.Applied 0)) vs =
      is_run nat_cmp wire (given ∷ []) other (steps (received.Applied 0)) (v ∷ []) vs stand h in
      let applied : Received ℕ ℕ = received.Applied 0 in
      absurd (let e : applied ≡ received.Codec EndOfBuffer = wrong.answers.0.1 in cc)
