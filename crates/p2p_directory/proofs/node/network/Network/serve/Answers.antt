use Rattle.std.proofs.Common.{ap, sym, subst, arith, ◌∙◌}
use Rattle.std.proofs.lemmas.List.{with_items_is}
use Rattle.std.specs.Prelude.{List, length, ◌≡◌}
use Rattle.p2p_directory.specs.Nodes.{NodeView}
use Rattle.std.specs.Vec.{with_items}
use Rattle.p2p_directory.specs.declared.node.network.commands.NetworkCommand.{NetworkCommand}
use Rattle.p2p_directory.specs.declared.node.network.commands.NetworkCommand.TheVariants as command
use Rattle.p2p_directory.specs.Network.{node_made, StandAfter, IsNetworkServedAt, AreSame, KeepRoom}
use Rattle.p2p_directory.proofs.Nodes.Among.{among}
use Rattle.p2p_directory.proofs.Nodes.Networks.{answered_served}
use Rattle.p2p_directory.proofs.Nodes.ReadBack.{wire_in}
use Rattle.p2p_directory.proofs.node.network.Network.serve.Goals as goal

-- what is written back over all of a list is the list
same-step : (g : _) (c : goal.After-self-1 g) →
    (with_items c.self.inside.nodes c.step.new.nodes).items ≡ c.step.new.nodes
same-step g c = with_items_is c.self.inside.nodes c.step.new.nodes
    (omega (arith, c.step.auto.nodes, c.deref_mut.ensures.len))

same-receive : (g : _) (c : goal.After-self-in-Frame-1 g) →
    (with_items c.self.inside.nodes c.receive.new.nodes).items ≡ c.receive.new.nodes
same-receive g c = with_items_is c.self.inside.nodes c.receive.new.nodes
    (omega (arith, c.receive.auto.nodes, c.deref_mut-in-Frame.ensures.len))

same-exchange : (g : _) (c : goal.After-self-in-Exchange-1 g) →
    (with_items c.self.inside.nodes c.exchange.new.nodes).items ≡ c.exchange.new.nodes
same-exchange g c = with_items_is c.self.inside.nodes c.exchange.new.nodes
    (omega (arith, c.exchange.auto.nodes, c.deref_mut-in-Exchange.ensures.len))

pub returns-in-Call-clause-served : goal.returns-in-Call-clause-served
returns-in-Call-clause-served g c = rw (← c.self.view_is, c.in-Call.is) (λ setups done other at.
    let wire = wire_in g.C.PublicKey.verifies g.C.FixedBytes g.C.Signature.FixedBytes in
    let size = length setups in
    let node = node_made g.C.Ord.cmp other setups in
    let x : NetworkCommand g.row.C.Denot g.row.C-Signature.Denot =
    command.Call c.in-Call.node c.in-Call.command in
    subst (λ es. IsNetworkServedAt wire size node done x c.step.result es) (sym (same-step g c))
    (c.step.ensures.served setups done other (subst (λ es. StandAfter wire size node done es)
    (sym c.deref_mut.ensures.value) at)))

pub returns-in-Ask-clause-served : goal.returns-in-Ask-clause-served
returns-in-Ask-clause-served g c = rw (← c.self.view_is, c.in-Ask.is) (λ setups done other at.
    let wire = wire_in g.C.PublicKey.verifies g.C.FixedBytes g.C.Signature.FixedBytes in
    let size = length setups in
    let node = node_made g.C.Ord.cmp other setups in
    let x : NetworkCommand g.row.C.Denot g.row.C-Signature.Denot =
    command.Ask c.in-Ask.node c.in-Ask.place in
    subst (λ es. IsNetworkServedAt wire size node done x c.ask.result es) c.deref.ensures.value
    (answered_served wire size node done x _ _ (c.ask.ensures.answered setups done other
    (subst (λ es. StandAfter wire size node done es) (sym c.deref.ensures.value) at))))

pub returns-in-Frame-clause-served : goal.returns-in-Frame-clause-served
returns-in-Frame-clause-served g c = rw (← c.self.view_is, c.in-Frame.is) (λ setups done other at.
    let wire = wire_in g.C.PublicKey.verifies g.C.FixedBytes g.C.Signature.FixedBytes in
    let size = length setups in
    let node = node_made g.C.Ord.cmp other setups in
    let x : NetworkCommand g.row.C.Denot g.row.C-Signature.Denot =
    command.Frame c.in-Frame.node c.in-Frame.frame c.in-Frame.now in
    subst (λ es. IsNetworkServedAt wire size node done x c.receive.result es) (sym (same-receive g c))
    (answered_served wire size node done x _ _
    (c.receive.ensures.answered setups done other
    (subst (λ es. StandAfter wire size node done es) (sym c.deref_mut-in-Frame.ensures.value) at))))

pub returns-in-Exchange-clause-served : goal.returns-in-Exchange-clause-served
returns-in-Exchange-clause-served g c = rw (← c.self.view_is, c.in-Exchange.is) (λ setups done other at.
    let wire = wire_in g.C.PublicKey.verifies g.C.FixedBytes g.C.Signature.FixedBytes in
    let size = length setups in
    let node = node_made g.C.Ord.cmp other setups in
    let x : NetworkCommand g.row.C.Denot g.row.C-Signature.Denot =
    command.Exchange c.in-Exchange.asker c.in-Exchange.replier c.in-Exchange.place
    c.in-Exchange.asker_now c.in-Exchange.replier_now in
    subst (λ es. IsNetworkServedAt wire size node done x c.exchange.result es) (sym (same-exchange g c))
    (answered_served wire size node done x _ _
    (c.exchange.ensures.answered setups done other
    (subst (λ es. StandAfter wire size node done es) (sym c.deref_mut-in-Exchange.ensures.value) at))))

pub returns-in-Call-clause-seen : goal.returns-in-Call-clause-seen
returns-in-Call-clause-seen g c = rw (← c.self.view_is, c.in-Call.is) (
    let wire = wire_in g.C.PublicKey.verifies g.C.FixedBytes g.C.Signature.FixedBytes in
    let x : NetworkCommand g.row.C.Denot g.row.C-Signature.Denot =
    command.Call c.in-Call.node c.in-Call.command in
    among g.C.Ord.cmp wire x c.step.result c.deref_mut.ensures.value (same-step g c) c.step.ensures.seen)

pub returns-in-Call-clause-count : goal.returns-in-Call-clause-count
returns-in-Call-clause-count g c = rw (← c.self.view_is) (ap length (same-step g c)
    ∙ omega (arith, c.step.auto.nodes, c.deref_mut.ensures.len))

pub returns-in-Frame-clause-seen : goal.returns-in-Frame-clause-seen
returns-in-Frame-clause-seen g c = rw (← c.self.view_is, c.in-Frame.is) (
    let wire = wire_in g.C.PublicKey.verifies g.C.FixedBytes g.C.Signature.FixedBytes in
    let x : NetworkCommand g.row.C.Denot g.row.C-Signature.Denot =
    command.Frame c.in-Frame.node c.in-Frame.frame c.in-Frame.now in
    among g.C.Ord.cmp wire x c.receive.result c.deref_mut-in-Frame.ensures.value (same-receive g c) c.receive.ensures.seen)

pub returns-in-Frame-clause-count : goal.returns-in-Frame-clause-count
returns-in-Frame-clause-count g c = rw (← c.self.view_is) (ap length (same-receive g c)
    ∙ omega (arith, c.receive.auto.nodes, c.deref_mut-in-Frame.ensures.len))

pub returns-in-Exchange-clause-seen : goal.returns-in-Exchange-clause-seen
returns-in-Exchange-clause-seen g c = rw (← c.self.view_is, c.in-Exchange.is) (
    let wire = wire_in g.C.PublicKey.verifies g.C.FixedBytes g.C.Signature.FixedBytes in
    let x : NetworkCommand g.row.C.Denot g.row.C-Signature.Denot =
    command.Exchange c.in-Exchange.asker c.in-Exchange.replier c.in-Exchange.place
    c.in-Exchange.asker_now c.in-Exchange.replier_now in
    among g.C.Ord.cmp wire x c.exchange.result c.deref_mut-in-Exchange.ensures.value (same-exchange g c) c.exchange.ensures.seen)

pub returns-in-Exchange-clause-count : goal.returns-in-Exchange-clause-count
returns-in-Exchange-clause-count g c = rw (← c.self.view_is) (ap length (same-exchange g c)
    ∙ omega (arith, c.exchange.auto.nodes, c.deref_mut-in-Exchange.ensures.len))

pub invariant_of-self : goal.invariant_of-self
invariant_of-self g c = (
  c.self.invariant.0,
  omega (arith, ap length (same-step g c), c.step.auto.nodes, c.deref_mut.ensures.len, c.self.invariant.1),
)

pub invariant_of-self-in-Frame : goal.invariant_of-self-in-Frame
invariant_of-self-in-Frame g c = (
  c.self.invariant.0,
  omega (arith, ap length (same-receive g c), c.receive.auto.nodes, c.deref_mut-in-Frame.ensures.len, c.self.invariant.1),
)

pub invariant_of-self-in-Exchange : goal.invariant_of-self-in-Exchange
invariant_of-self-in-Exchange g c = (
  c.self.invariant.0,
  omega (arith, ap length (same-exchange g c), c.exchange.auto.nodes, c.deref_mut-in-Exchange.ensures.len, c.self.invariant.1),
)

pub returns-in-Call-clause-unchanged : goal.returns-in-Call-clause-unchanged
returns-in-Call-clause-unchanged g c = rw (← c.self.view_is) (λ no.
    subst (λ (x : List (NodeView _ _) × List (NodeView _ _)). AreSame x.0 x.1)
    (λ i. (c.deref_mut.ensures.value i, sym (same-step g c) i)) (c.step.ensures.unchanged no))

pub returns-in-Frame-clause-unchanged : goal.returns-in-Frame-clause-unchanged
returns-in-Frame-clause-unchanged g c = rw (← c.self.view_is) (λ no.
    subst (λ (x : List (NodeView _ _) × List (NodeView _ _)). AreSame x.0 x.1)
    (λ i. (c.deref_mut-in-Frame.ensures.value i, sym (same-receive g c) i)) (c.receive.ensures.unchanged no))

pub returns-in-Exchange-clause-unchanged : goal.returns-in-Exchange-clause-unchanged
returns-in-Exchange-clause-unchanged g c = rw (← c.self.view_is) (λ no.
    subst (λ (x : List (NodeView _ _) × List (NodeView _ _)). AreSame x.0 x.1)
    (λ i. (c.deref_mut-in-Exchange.ensures.value i, sym (same-exchange g c) i)) (c.exchange.ensures.unchanged no))

pub returns-in-Call-clause-room : goal.returns-in-Call-clause-room
returns-in-Call-clause-room g c = rw (← c.self.view_is, c.in-Call.is) (
    let x : NetworkCommand g.row.C.Denot g.row.C-Signature.Denot =
    command.Call c.in-Call.node c.in-Call.command in
    subst (λ (y : List (NodeView _ _) × List (NodeView _ _)). KeepRoom g.C.Ord.cmp x y.0 y.1)
    (λ i. (c.deref_mut.ensures.value i, sym (same-step g c) i)) c.step.ensures.room)

pub returns-in-Frame-clause-room : goal.returns-in-Frame-clause-room
returns-in-Frame-clause-room g c = rw (← c.self.view_is, c.in-Frame.is) (
    let x : NetworkCommand g.row.C.Denot g.row.C-Signature.Denot =
    command.Frame c.in-Frame.node c.in-Frame.frame c.in-Frame.now in
    subst (λ (y : List (NodeView _ _) × List (NodeView _ _)). KeepRoom g.C.Ord.cmp x y.0 y.1)
    (λ i. (c.deref_mut-in-Frame.ensures.value i, sym (same-receive g c) i)) c.receive.ensures.room)

pub returns-in-Exchange-clause-room : goal.returns-in-Exchange-clause-room
returns-in-Exchange-clause-room g c = rw (← c.self.view_is, c.in-Exchange.is) (
    let x : NetworkCommand g.row.C.Denot g.row.C-Signature.Denot =
    command.Exchange c.in-Exchange.asker c.in-Exchange.replier c.in-Exchange.place
    c.in-Exchange.asker_now c.in-Exchange.replier_now in
    subst (λ (y : List (NodeView _ _) × List (NodeView _ _)). KeepRoom g.C.Ord.cmp x y.0 y.1)
    (λ i. (c.deref_mut-in-Exchange.ensures.value i, sym (same-exchange g c) i)) c.exchange.ensures.room)
