use Rattle.p2p_directory.specs.Received.{verdicts_of}
use Rattle.std.specs.List.{list_any}
use Rattle.std.specs.BTreeMap.{is_at}
use Rattle.std.proofs.lemmas.Bool.{le-ltb}
use Rattle.std.specs.Duration.{as_nanos}
use Rattle.std.specs.Prelude.{length, slice_index_or}
use Rattle.p2p_directory.specs.declared.node.network.commands.NetworkCommand.TheVariants as command
use Rattle.p2p_directory.specs.Network.{node_made, calls_at}
use Rattle.std.proofs.Common.{ap}
use Rattle.p2p_directory.proofs.Nodes.Among.{not_there, received_among, left_slots, unchanged_same}
use Rattle.p2p_directory.proofs.Nodes.Networks.{stands_at, none_more, is_absent, frame_more, same_slots, same_set}
use Rattle.p2p_directory.proofs.Nodes.Worlds.{received_in, told_in}
use Rattle.p2p_directory.proofs.Nodes.ReadBack.{wire_in}
use Rattle.p2p_directory.proofs.node.network.nodes.receive.Goals as goal

pub returns-then-node-nodes-clause-answered : goal.returns-then-node-nodes-clause-answered
returns-then-node-nodes-clause-answered g c = λ setups done other at.
    let wire = wire_in g.C.PublicKey.verifies g.C.FixedBytes g.C.Signature.FixedBytes in
    let size = length setups in
    let node = node_made g.C.Ord.cmp other setups in
    let es = c.args.nodes.now in
    none_more wire size node done es at (command.Frame c.args.node c.args.frame c.args.now)
    (is_absent wire size node done es at c.args.node c.if-node-nodes.true)

pub returns-clause-answered : goal.returns-clause-answered
returns-clause-answered g c = λ setups done other at.
    let wire = wire_in g.C.PublicKey.verifies g.C.FixedBytes g.C.Signature.FixedBytes in
    let size = length setups in
    let node = node_made g.C.Ord.cmp other setups in
    let es = c.args.nodes.now in
    let i = c.args.node in
    let e = slice_index_or es i c.index-nodes-node.result in
    frame_more wire size node done es at i c.args.frame c.args.now c.answer.result c.answer.new.self
    c.if-node-nodes.false (received_in (node i) wire (calls_at wire size node done i) e
    (stands_at wire size node done es at i c.index-nodes-node.result c.if-node-nodes.false)
    (slice_index_or setups i other).cfg.max_sets.ok verdicts_of c.args.frame (as_nanos c.args.now)
    c.answer.result c.answer.new.self c.answer.ensures.seen)

pub returns-clause-written : goal.returns-clause-written
returns-clause-written g c = λ setups done other at.
    let wire = wire_in g.C.PublicKey.verifies g.C.FixedBytes g.C.Signature.FixedBytes in
    let size = length setups in
    let node = node_made g.C.Ord.cmp other setups in
    let es = c.args.nodes.now in
    let i = c.args.node in
    let e = slice_index_or es i c.index-nodes-node.result in
    told_in (node i) wire (calls_at wire size node done i) e
    (stands_at wire size node done es at i c.index-nodes-node.result c.if-node-nodes.false)
    g.C.FixedBytes.IsValue g.C.Signature.FixedBytes.IsValue c.args.frame (as_nanos c.args.now)
    c.answer.result c.answer.ensures.values

pub returns-clause-slots : goal.returns-clause-slots
returns-clause-slots g c = λ i e q lt. same_slots g.C.Ord.cmp c.args.nodes.now c.args.node c.answer.new.self
    c.index-nodes-node.result c.if-node-nodes.false
    (λ q. ap (λ slots. list_any (is_at (g.C.Ord.cmp q)) slots) (left_slots g.C.Ord.cmp _ _ _ c.answer.ensures.seen.left)) i e q

pub returns-then-node-nodes-clause-seen : goal.returns-then-node-nodes-clause-seen
returns-then-node-nodes-clause-seen g c =
    let wire = wire_in g.C.PublicKey.verifies g.C.FixedBytes g.C.Signature.FixedBytes in
    not_there g.C.Ord.cmp wire c.args.nodes.now
    (command.Frame c.args.node c.args.frame c.args.now)
    (le-ltb c.args.node (length c.args.nodes.now) c.if-node-nodes.true)

pub returns-clause-seen : goal.returns-clause-seen
returns-clause-seen g c =
    let wire = wire_in g.C.PublicKey.verifies g.C.FixedBytes g.C.Signature.FixedBytes in
    received_among g.C.Ord.cmp wire c.args.nodes.now c.args.node c.args.frame c.args.now
    c.answer.result c.index-nodes-node.result c.answer.new.self c.if-node-nodes.false
    c.answer.ensures.seen

pub returns-clause-unchanged : goal.returns-clause-unchanged
returns-clause-unchanged g c = λ no. same_set g.C.Ord.cmp c.args.nodes.now c.args.node c.answer.new.self
    c.index-nodes-node.result c.if-node-nodes.false (unchanged_same (c.answer.ensures.unchanged no))

pub returns-clause-room : goal.returns-clause-room
returns-clause-room g c = λ k e lt. same_slots g.C.Ord.cmp c.args.nodes.now c.args.node c.answer.new.self
    c.index-nodes-node.result c.if-node-nodes.false
    (λ q. ap (λ slots. list_any (is_at (g.C.Ord.cmp q)) slots) (left_slots g.C.Ord.cmp _ _ _ c.answer.ensures.seen.left)) k e
