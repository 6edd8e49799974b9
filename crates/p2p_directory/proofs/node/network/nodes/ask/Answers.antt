use Rattle.std.proofs.lemmas.Bool.{le-ltb}
use Rattle.std.specs.Prelude.{length}
use Rattle.p2p_directory.specs.declared.node.network.commands.NetworkCommand.TheVariants as command
use Rattle.p2p_directory.specs.Network.{node_made, calls_at}
use Rattle.p2p_directory.proofs.Nodes.Among.{not_there, asked_among}
use Rattle.p2p_directory.proofs.Nodes.Networks.{stands_there, none_more, is_absent, ask_more, ask_written}
use Rattle.p2p_directory.proofs.Nodes.Worlds.{asked_in, bits_in}
use Rattle.p2p_directory.proofs.Nodes.ReadBack.{wire_in}
use Rattle.p2p_directory.proofs.node.network.nodes.ask.Goals as goal

pub returns-then-node-nodes-clause-answered : goal.returns-then-node-nodes-clause-answered
returns-then-node-nodes-clause-answered g c = λ setups done other at.
    let wire = wire_in g.C.PublicKey.verifies g.C.FixedBytes g.C.Signature.FixedBytes in
    let size = length setups in
    let node = node_made g.C.Ord.cmp other setups in
    let es = c.args.nodes.now in
    none_more wire size node done es at (command.Ask c.args.node c.args.place)
    (is_absent wire size node done es at c.args.node c.if-node-nodes.true)

pub returns-clause-answered : goal.returns-clause-answered
returns-clause-answered g c = λ setups done other at.
    let wire = wire_in g.C.PublicKey.verifies g.C.FixedBytes g.C.Signature.FixedBytes in
    let size = length setups in
    let node = node_made g.C.Ord.cmp other setups in
    let es = c.args.nodes.now in
    let i = c.args.node in
    let e = c.index-nodes-node.result in
    rw c.reply_to_ask.ensures (ask_more wire size node done es at i c.args.place c.ask_frame.result
    c.if-node-nodes.false (asked_in (node i) wire (calls_at wire size node done i) e
    (stands_there wire size node done es at i e c.if-node-nodes.false c.index-nodes-node.is)
    c.args.place c.ask_frame.result c.ask_frame.ensures.seen))

pub returns-clause-written : goal.returns-clause-written
returns-clause-written g c = λ setups done other at.
    let wire = wire_in g.C.PublicKey.verifies g.C.FixedBytes g.C.Signature.FixedBytes in
    let size = length setups in
    let node = node_made g.C.Ord.cmp other setups in
    let es = c.args.nodes.now in
    let i = c.args.node in
    let e = c.index-nodes-node.result in
    rw c.reply_to_ask.ensures (ask_written wire size node g.C.FixedBytes.IsValue
    g.C.Signature.FixedBytes.IsValue done i c.args.place c.ask_frame.result
    (bits_in (node i) wire (calls_at wire size node done i) e
    (stands_there wire size node done es at i e c.if-node-nodes.false c.index-nodes-node.is)
    c.args.place c.ask_frame.result c.ask_frame.ensures.spelled))

pub returns-then-node-nodes-clause-seen : goal.returns-then-node-nodes-clause-seen
returns-then-node-nodes-clause-seen g c =
    let wire = wire_in g.C.PublicKey.verifies g.C.FixedBytes g.C.Signature.FixedBytes in
    not_there g.C.Ord.cmp wire c.args.nodes.now (command.Ask c.args.node c.args.place)
    (le-ltb c.args.node (length c.args.nodes.now) c.if-node-nodes.true)

pub returns-clause-seen : goal.returns-clause-seen
returns-clause-seen g c =
    let wire = wire_in g.C.PublicKey.verifies g.C.FixedBytes g.C.Signature.FixedBytes in
    rw c.reply_to_ask.ensures (asked_among g.C.Ord.cmp wire c.args.nodes.now c.args.node c.args.place
    c.ask_frame.result c.index-nodes-node.result c.if-node-nodes.false c.index-nodes-node.is
    c.ask_frame.ensures.seen)
