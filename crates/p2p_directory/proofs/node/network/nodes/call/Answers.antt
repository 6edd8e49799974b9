use Rattle.std.specs.Prelude.{length, slice_index_or}
use Rattle.p2p_directory.specs.declared.node.network.commands.NetworkCommand.TheVariants as command
use Rattle.p2p_directory.specs.Network.{node_made, calls_at}
use Rattle.p2p_directory.proofs.Nodes.Networks.{stands_at, none_more, is_absent, call_more, same_slots}
use Rattle.p2p_directory.proofs.Nodes.ReadBack.{wire_in}
use Rattle.p2p_directory.proofs.node.network.nodes.call.Goals as goal

pub returns-then-node-nodes-clause-answered : goal.returns-then-node-nodes-clause-answered
returns-then-node-nodes-clause-answered g c = λ setups done other at.
    let wire = wire_in g.C.PublicKey.verifies g.C.FixedBytes g.C.Signature.FixedBytes in
    let size = length setups in
    let node = node_made g.C.Ord.cmp other setups in
    let es = c.args.nodes.now in
    none_more wire size node done es at (command.Call c.args.node c.args.command)
    (is_absent wire size node done es at c.args.node c.if-node-nodes.true)

pub returns-clause-answered : goal.returns-clause-answered
returns-clause-answered g c = λ setups done other at.
    let wire = wire_in g.C.PublicKey.verifies g.C.FixedBytes g.C.Signature.FixedBytes in
    let size = length setups in
    let node = node_made g.C.Ord.cmp other setups in
    let es = c.args.nodes.now in
    let i = c.args.node in
    call_more wire size node done es at i c.args.command c.serve.result c.serve.new.self
    c.if-node-nodes.false
    (c.serve.ensures.served (slice_index_or setups i other) (calls_at wire size node done i)
    (stands_at wire size node done es at i c.index-nodes-node.result c.if-node-nodes.false))

pub returns-clause-slots : goal.returns-clause-slots
returns-clause-slots g c = λ i e q lt. same_slots g.C.Ord.cmp c.args.nodes.now
    c.args.node c.serve.new.self c.index-nodes-node.result c.if-node-nodes.false c.serve.ensures.slots
    i e q
