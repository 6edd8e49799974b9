use Rattle.std.proofs.lemmas.Bool.{le-ltb}
use Rattle.std.specs.Prelude.{length, slice_index_or}
use Rattle.p2p_directory.specs.declared.node.network.commands.NetworkCommand.TheVariants as command
use Rattle.p2p_directory.specs.Network.{node_made, calls_at}
use Rattle.p2p_directory.proofs.Nodes.Among.{not_there, stepped_among}
use Rattle.p2p_directory.proofs.Nodes.Networks.{stands_at, none_more, is_absent, step_more, answered_served, same_set, keep_room, keep_room_of_none}
use Rattle.p2p_directory.proofs.Nodes.ReadBack.{wire_in}
use Rattle.p2p_directory.proofs.node.network.nodes.step.Goals as goal

pub returns-then-node-nodes-clause-served : goal.returns-then-node-nodes-clause-served
returns-then-node-nodes-clause-served g c = λ setups done other at.
    let wire = wire_in g.C.PublicKey.verifies g.C.FixedBytes g.C.Signature.FixedBytes in
    let size = length setups in
    let node = node_made g.C.Ord.cmp other setups in
    let es = c.args.nodes.now in
    answered_served wire size node done (command.Call c.args.node c.args.command) _ _
    (none_more wire size node done es at (command.Call c.args.node c.args.command)
    (is_absent wire size node done es at c.args.node c.if-node-nodes.true))

pub returns-clause-served : goal.returns-clause-served
returns-clause-served g c = λ setups done other at.
    let wire = wire_in g.C.PublicKey.verifies g.C.FixedBytes g.C.Signature.FixedBytes in
    let size = length setups in
    let node = node_made g.C.Ord.cmp other setups in
    let es = c.args.nodes.now in
    let i = c.args.node in
    step_more wire size node done es at i c.args.command c.step.result c.step.new.self
    c.if-node-nodes.false
    (c.step.ensures.stepped (slice_index_or setups i other) (calls_at wire size node done i)
    (stands_at wire size node done es at i c.index-nodes-node.result c.if-node-nodes.false))

pub returns-then-node-nodes-clause-seen : goal.returns-then-node-nodes-clause-seen
returns-then-node-nodes-clause-seen g c =
    let wire = wire_in g.C.PublicKey.verifies g.C.FixedBytes g.C.Signature.FixedBytes in
    not_there g.C.Ord.cmp wire c.args.nodes.now (command.Call c.args.node c.args.command)
    (le-ltb c.args.node (length c.args.nodes.now) c.if-node-nodes.true)

pub returns-clause-seen : goal.returns-clause-seen
returns-clause-seen g c =
    let wire = wire_in g.C.PublicKey.verifies g.C.FixedBytes g.C.Signature.FixedBytes in
    stepped_among g.C.Ord.cmp wire c.args.nodes.now c.args.node c.args.command c.step.result
    c.index-nodes-node.result c.step.new.self c.if-node-nodes.false c.step.ensures.stepped

pub returns-clause-unchanged : goal.returns-clause-unchanged
returns-clause-unchanged g c = λ no. same_set g.C.Ord.cmp c.args.nodes.now c.args.node c.step.new.self
    c.index-nodes-node.result c.if-node-nodes.false (c.step.ensures.unchanged no)

pub returns-clause-room : goal.returns-clause-room
returns-clause-room g c = keep_room g.C.Ord.cmp c.args.nodes.now c.args.node c.step.new.self
    c.index-nodes-node.result c.if-node-nodes.false c.args.command c.step.ensures.room

pub returns-then-node-nodes-clause-room : goal.returns-then-node-nodes-clause-room
returns-then-node-nodes-clause-room g c =
    keep_room_of_none g.C.Ord.cmp c.args.nodes.now c.args.node c.args.command c.if-node-nodes.true
