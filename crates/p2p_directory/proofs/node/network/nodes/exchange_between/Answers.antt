use Rattle.std.proofs.Common.{arith}
use Rattle.std.specs.Prelude.{slice_index_or, length, ◌<◌}
use Rattle.std.specs.Duration.{as_nanos}
use Rattle.std.proofs.lemmas.Bool.{eqb-false}
use Rattle.p2p_directory.specs.Exchange.{infos_applied}
use Rattle.p2p_directory.proofs.Nodes.Among.{left_slots}
use Rattle.p2p_directory.proofs.Nodes.Carried.{carries}
use Rattle.p2p_directory.proofs.Nodes.Networks.{exchanged_among, set_in_front, set_in_back, of_front, first_of_back}
use Rattle.p2p_directory.proofs.Nodes.ReadBack.{wire_in}
use Rattle.p2p_directory.proofs.node.network.nodes.exchange_between.Goals as goal

pub returns-then-asker-replier : goal.returns-then-asker-replier
returns-then-asker-replier g c =
    let wire = wire_in g.C.PublicKey.verifies g.C.FixedBytes g.C.Signature.FixedBytes in
    let parts = c.split_at_mut-front.ensures in
    let all = c.args.nodes.now in
    let front = c.split_at_mut-front.result.0.now in
    let back = c.split_at_mut-front.result.1.now in
    let a = c.index-front-asker.result in
    let b = c.index-back-0.result in
    let left = c.exchange_with.new.self in
    let there : c.args.asker < length front = omega (arith, parts.front_len, c.if-asker-replier.true) in
    let some : 0 < length back = omega (arith, parts.back_len, c.requires.replies) in
    exchanged_among g.C.Ord.cmp wire c.args.asker c.args.replier c.args.place
    (as_nanos c.args.asker_now) (as_nanos c.args.replier_now) c.exchange_with.result all _
    (slice_index_or front c.args.asker a) (slice_index_or back 0 b) left
    (set_in_front all front back parts.value c.args.asker left there)
    (λ e. of_front all front back parts.value c.args.asker a e there)
    (λ e. first_of_back all front back parts.value c.args.replier b e parts.front_len some)
    c.exchange_with.ensures.seen
    (carries g.met.C.FixedBytes.fixed g.met.C.Signature.FixedBytes.fixed g.C.PublicKey.verifies g.C.Ord.cmp
    c.args.place (as_nanos c.args.asker_now) (as_nanos c.args.replier_now) c.exchange_with.result
    (slice_index_or front c.args.asker a) (slice_index_or back 0 b) left
    c.exchange_with.ensures.seen c.exchange_with.ensures.spelled)
    (left_slots g.C.Ord.cmp (infos_applied c.exchange_with.result) _ _ c.exchange_with.ensures.seen.left)

pub returns-else-asker-replier : goal.returns-else-asker-replier
returns-else-asker-replier g c =
    let wire = wire_in g.C.PublicKey.verifies g.C.FixedBytes g.C.Signature.FixedBytes in
    let parts = c.split_at_mut-front-else-asker-replier.ensures in
    let all = c.args.nodes.now in
    let front = c.split_at_mut-front-else-asker-replier.result.0.now in
    let back = c.split_at_mut-front-else-asker-replier.result.1.now in
    let a = c.index-back-0-else-asker-replier.result in
    let b = c.index-front-replier.result in
    let left = c.exchange_with-else-asker-replier.new.self in
    let apart = eqb-false c.args.asker c.args.replier c.requires.differ in
    let there : c.args.replier < length front =
    omega (arith, parts.front_len, c.if-asker-replier.false, apart) in
    let some : 0 < length back = omega (arith, parts.back_len, c.requires.asks) in
    exchanged_among g.C.Ord.cmp wire c.args.asker c.args.replier c.args.place
    (as_nanos c.args.asker_now) (as_nanos c.args.replier_now)
    c.exchange_with-else-asker-replier.result all _
    (slice_index_or back 0 a) (slice_index_or front c.args.replier b) left
    (set_in_back all front back parts.value c.args.asker left parts.front_len)
    (λ e. first_of_back all front back parts.value c.args.asker a e parts.front_len some)
    (λ e. of_front all front back parts.value c.args.replier b e there)
    c.exchange_with-else-asker-replier.ensures.seen
    (carries g.met.C.FixedBytes.fixed g.met.C.Signature.FixedBytes.fixed g.C.PublicKey.verifies g.C.Ord.cmp
    c.args.place (as_nanos c.args.asker_now) (as_nanos c.args.replier_now)
    c.exchange_with-else-asker-replier.result (slice_index_or back 0 a)
    (slice_index_or front c.args.replier b) left
    c.exchange_with-else-asker-replier.ensures.seen c.exchange_with-else-asker-replier.ensures.spelled)
    (left_slots g.C.Ord.cmp (infos_applied c.exchange_with-else-asker-replier.result) _ _
    c.exchange_with-else-asker-replier.ensures.seen.left)

pub bounds-front-replier : goal.bounds-front-replier
bounds-front-replier g c =
    let parts = c.split_at_mut-front-else-asker-replier.ensures in
    let apart = eqb-false c.args.asker c.args.replier c.requires.differ in
    omega (arith, parts.front_len, c.if-asker-replier.false, apart)
