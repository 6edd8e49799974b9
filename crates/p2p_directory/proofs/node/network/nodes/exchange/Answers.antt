use Rattle.std.specs.List.{list_any}
use Rattle.std.specs.BTreeMap.{is_at}
use Rattle.std.proofs.Common.{ap, subst, sym}
use Rattle.std.specs.Prelude.{length, slice_index_or}
use Rattle.std.specs.Duration.{as_nanos}
use Rattle.p2p_directory.specs.declared.node.network.commands.NetworkCommand.TheVariants as command
use Rattle.p2p_directory.specs.Network.{node_made, calls_at, AreSame, KeepRoom}
use Rattle.p2p_directory.specs.Exchange.{infos_applied}
use Rattle.p2p_directory.specs.Private.Networks.{KeepSlots}
use Rattle.p2p_directory.proofs.Nodes.Among.{not_there, not_two, exchanged_among_nodes, same_left, unchanged_same}
use Rattle.p2p_directory.proofs.Nodes.Networks.{stands_at, none_more, not_served, exchange_more, same_slots, same_set}
use Rattle.p2p_directory.proofs.Nodes.Worlds.{exchanged_in, carried_in}
use Rattle.p2p_directory.proofs.Nodes.ReadBack.{wire_in}
use Rattle.p2p_directory.proofs.node.network.nodes.exchange.Goals as goal

pub returns-then-asker-nodes-clause-answered : goal.returns-then-asker-nodes-clause-answered
returns-then-asker-nodes-clause-answered g c = λ setups done other at.
    let wire = wire_in g.C.PublicKey.verifies g.C.FixedBytes g.C.Signature.FixedBytes in
    let size = length setups in
    let node = node_made g.C.Ord.cmp other setups in
    let es = c.args.nodes.now in
    none_more wire size node done es at (command.Exchange c.args.asker c.args.replier c.args.place
    c.args.asker_now c.args.replier_now)
    (not_served wire size node done es at c.args.asker c.args.replier c.then-asker-nodes.either)

pub returns-clause-answered : goal.returns-clause-answered
returns-clause-answered g c = λ setups done other at.
    let wire = wire_in g.C.PublicKey.verifies g.C.FixedBytes g.C.Signature.FixedBytes in
    let size = length setups in
    let node = node_made g.C.Ord.cmp other setups in
    let es = c.args.nodes.now in
    let i = c.args.asker in
    let j = c.args.replier in
    let x = c.exchange_between.ensures in
    let a = slice_index_or es i x.left in
    let b = slice_index_or es j x.left in
    let asks = c.if-asker-nodes.false in
    let replies = c.if-replier-nodes.false in
    let seen = x.seen x.left in
    rw x.rest (exchange_more wire size node done es at i j c.args.place c.args.asker_now
    c.args.replier_now c.exchange_between.result x.left asks replies c.if-asker-replier.false
    (exchanged_in (node i) (node j) wire (calls_at wire size node done i)
    (calls_at wire size node done j) a b
    (stands_at wire size node done es at i x.left asks)
    (stands_at wire size node done es at j x.left replies)
    (slice_index_or setups i other).cfg.max_sets.ok c.args.place (as_nanos c.args.asker_now)
    (as_nanos c.args.replier_now) c.exchange_between.result x.left seen.answer seen.left))

pub returns-clause-slots : goal.returns-clause-slots
returns-clause-slots g c =
    let x = c.exchange_between.ensures in
    subst (KeepSlots g.C.Ord.cmp c.args.nodes.now) (sym x.rest) (λ i e q lt.
    same_slots g.C.Ord.cmp c.args.nodes.now c.args.asker x.left x.left c.if-asker-nodes.false
    (λ q. ap (λ slots. list_any (is_at (g.C.Ord.cmp q)) slots) (x.slots x.left)) i e q)

pub returns-then-asker-nodes-clause-seen : goal.returns-then-asker-nodes-clause-seen
returns-then-asker-nodes-clause-seen g c =
    let wire = wire_in g.C.PublicKey.verifies g.C.FixedBytes g.C.Signature.FixedBytes in
    not_there g.C.Ord.cmp wire c.args.nodes.now (command.Exchange c.args.asker c.args.replier
    c.args.place c.args.asker_now c.args.replier_now)
    (not_two (length c.args.nodes.now) c.args.asker c.args.replier c.then-asker-nodes.either)

pub returns-clause-seen : goal.returns-clause-seen
returns-clause-seen g c =
    let wire = wire_in g.C.PublicKey.verifies g.C.FixedBytes g.C.Signature.FixedBytes in
    exchanged_among_nodes g.C.Ord.cmp wire c.args.nodes.now c.args.asker c.args.replier c.args.place
    c.args.asker_now c.args.replier_now c.exchange_between.result c.exchange_between.new.nodes
    c.if-asker-nodes.false c.if-replier-nodes.false c.if-asker-replier.false
    c.exchange_between.ensures

pub returns-clause-carried : goal.returns-clause-carried
returns-clause-carried g c = λ setups done other at o answer.
    let wire = wire_in g.C.PublicKey.verifies g.C.FixedBytes g.C.Signature.FixedBytes in
    let size = length setups in
    let node = node_made g.C.Ord.cmp other setups in
    let es = c.args.nodes.now in
    let i = c.args.asker in
    let j = c.args.replier in
    let x = c.exchange_between.ensures in
    carried_in (node i) (node j) wire (calls_at wire size node done i) (calls_at wire size node done j)
    (slice_index_or es i x.left) (slice_index_or es j x.left)
    (stands_at wire size node done es at i x.left c.if-asker-nodes.false)
    (stands_at wire size node done es at j x.left c.if-replier-nodes.false)
    c.args.place (as_nanos c.args.asker_now) (as_nanos c.args.replier_now) o
    (x.carried x.left o answer).frames

pub returns-clause-unchanged : goal.returns-clause-unchanged
returns-clause-unchanged g c = λ no.
    let x = c.exchange_between.ensures in
    let es = c.args.nodes.now in
    let e = slice_index_or es c.args.asker x.left in
    subst (AreSame es) (sym x.rest) (same_set g.C.Ord.cmp es c.args.asker x.left x.left c.if-asker-nodes.false
    (unchanged_same (same_left g.C.Ord.cmp (infos_applied c.exchange_between.result) e x.left no (x.seen x.left).left)))

pub returns-clause-room : goal.returns-clause-room
returns-clause-room g c =
    let x = c.exchange_between.ensures in
    let es = c.args.nodes.now in
    subst (KeepRoom g.C.Ord.cmp (command.Exchange c.args.asker c.args.replier c.args.place
    c.args.asker_now c.args.replier_now) es) (sym x.rest)
    (λ k e lt. same_slots g.C.Ord.cmp es c.args.asker x.left x.left c.if-asker-nodes.false
    (λ q. ap (λ slots. list_any (is_at (g.C.Ord.cmp q)) slots) (x.slots x.left)) k e)
