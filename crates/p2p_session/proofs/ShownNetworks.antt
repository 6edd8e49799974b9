-- A session that is called is a network of one: it hears a greeting whose signature is right by the
-- predicate, and is looked at. With a verdict that isn't the predicate's it isn't one.
use Rattle.std.proofs.Common.{◌≡◌, ℕ, ◌+◌, Bool, true, false, List, [], ◌∷◌, Some}
use Rattle.std.proofs.Common.{None, inl, inr, refl, arith}
use Rattle.std.specs.Prelude.{◌==◌}
use Rattle.std.specs.Ordering.{nat_cmp}
use Rattle.std.specs.declared.time.Duration.{Duration}
use Rattle.p2p_discovery.specs.Payload.{body_at, payload_at}
use Rattle.p2p_discovery.specs.Data.{data_at, message_at}
use Rattle.p2p_discovery.specs.Counted.{length_at}
use Rattle.p2p_discovery.specs.Varint.{groups, groups_at}
use Rattle.p2p_discovery.specs.Info as texts
use Rattle.p2p_discovery.specs.Ingress.{ingress_at}
use Rattle.p2p_discovery.specs.Socket.{ip_at, socket_at}
use Rattle.p2p_discovery.specs.BitVec.{bits_read_at, bit_vec_read_at}
use Rattle.p2p_discovery.specs.Bits.{bits_in, packed}
use Rattle.p2p_discovery.specs.Lists.{spellings, elems, items_at, list_at}
use Rattle.p2p_directory.specs.declared.node.network.commands.NetworkCommand.TheVariants as command
use Rattle.p2p_directory.specs.declared.node.network.commands.NetworkReply.TheVariants as reply
use Rattle.p2p_directory.specs.declared.node.received.Received.TheVariants as received
use Rattle.p2p_directory.specs.declared.node.setup.Setup.{Setup}
use Rattle.p2p_directory.specs.Network.{node_made}
use Rattle.p2p_directory.specs.Nodes.{NodeStandsAt, made_of}
use Rattle.p2p_directory.specs.Laws.InTurn.{IsNetworkRun}
use Rattle.p2p_session.specs.Laws.{Served, IsInit}
use Rattle.p2p_session.specs.Networks.{SessionCall, AreCalled, AreVerdicts, judged_wire}
use Rattle.p2p_session.specs.Networks.{network_steps}
use Rattle.p2p_session.specs.Requests.Request.{Frame, Looking}
use Rattle.p2p_session.specs.Sessions.Look.{Room}
use Rattle.p2p_session.specs.Steps.Step.{Heard, Looked}
use Rattle.p2p_session.proofs.Networks.{are_network}
use Rattle.p2p_session.proofs.ShownSteps.{k, v, sec, greeting, leads_on_by_frame}

-- a signature is right if it is its key and 40
abbrev right : ℕ → List ℕ → List ℕ → ℕ → Bool
right p namespace message s = s == p + 40

abbrev hundred : Duration
hundred = record { secs = 100; nanos = 0 }

abbrev hears : SessionCall ℕ ℕ
hears = record {
  session = 0;
  call = record {
    asked = Some (Frame greeting 100 0 (1 ∷ []));
    out = 0 ∷ 0 ∷ 0 ∷ 0 ∷ 0 ∷ 0 ∷ 0 ∷ 0 ∷ 0 ∷ [];
    out2 = 1 ∷ 1 ∷ 0 ∷ 0 ∷ 0 ∷ 0 ∷ 0 ∷ 0 ∷ 0 ∷ [];
    n = 2;
  };
  in_network = Some (command.Frame 0 greeting hundred, reply.Frame (received.Greeted 1));
}

abbrev looks : SessionCall ℕ ℕ
looks = record {
  session = 0;
  call = record { asked = Some (Looking Room); out = []; out2 = []; n = 0 };
  in_network = None;
}

verdicts_are : AreVerdicts k right (Heard greeting (sec 100) (true ∷ []) (received.Greeted 1)) v
unfolding payload_at body_at data_at message_at length_at groups groups_at texts.info_at ingress_at
    ip_at socket_at bits_read_at bit_vec_read_at bits_in packed spellings elems items_at list_at
verdicts_are = (refl, λ e. tt)

wrong_verdict : AreVerdicts k right
    (Heard greeting (sec 100) (false ∷ []) (received.Greeted 1)) v → ⊥
unfolding payload_at body_at data_at message_at length_at groups groups_at texts.info_at ingress_at
    ip_at socket_at bits_read_at bit_vec_read_at bits_in packed spellings elems items_at list_at
wrong_verdict h = absurd (let e : false ≡ true = h.0 in cc)

are_called : AreCalled k right (hears ∷ looks ∷ []) (v ∷ []) (v ∷ [])
are_called = (
  v ∷ [],
  record {
    there = omega arith;
    before = v;
    is_before = λ u. refl;
    node = v;
    others = refl;
    served = record {
      goes = (
        Heard greeting (sec 100) (true ∷ []) (received.Greeted 1),
        record {
          asked_for = inr (sec 100, refl, (received.Greeted 1, refl));
          told = inl (record { count = refl; room = refl });
        },
        leads_on_by_frame,
        tt,
      );
      verdicts = verdicts_are;
      in_network = (refl, refl, refl, refl);
    };
  },
  (
    v ∷ [],
    record {
      there = omega arith;
      before = v;
      is_before = λ u. refl;
      node = v;
      others = refl;
      served = record {
        goes = (Looked, record { asked_for = refl; told = inl tt }, refl, (refl, refl));
        verdicts = tt;
        in_network = tt;
      };
    },
    refl,
  ),
)

-- whatever this node was made from by `init`
module _ (init : Served ℕ ℕ) (given other : Setup ℕ ℕ) (inits : IsInit k init given)
    (stands : NodeStandsAt (made_of nat_cmp given) [] v) where
  run : IsNetworkRun (judged_wire k right) 1 (node_made nat_cmp other (given ∷ []))
      (network_steps (hears ∷ looks ∷ [])) (v ∷ [])
  run = are_network k right (given ∷ []) other (init ∷ []) (hears ∷ looks ∷ []) (v ∷ []) (v ∷ [])
      ((inits, stands), tt) are_called
