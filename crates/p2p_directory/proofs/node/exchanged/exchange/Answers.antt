use Rattle.std.specs.Duration.{as_nanos}
use Rattle.p2p_directory.specs.Nodes.{made_of}
use Rattle.p2p_directory.proofs.Nodes.Carried.{carries}
use Rattle.p2p_directory.proofs.Nodes.Worlds.{exchanged_in}
use Rattle.p2p_directory.proofs.Nodes.ReadBack.{wire_in}
use Rattle.p2p_directory.proofs.node.exchanged.exchange.Goals as goal

pub returns-clause-exchanged : goal.returns-clause-exchanged
returns-clause-exchanged g c = λ given cs at given2 ds there.
    exchanged_in (made_of g.C.Ord.cmp given) (made_of g.C.Ord.cmp given2)
    (wire_in g.C.PublicKey.verifies g.C.FixedBytes g.C.Signature.FixedBytes)
    cs ds c.args.asker.now c.args.replier.now at there given.cfg.max_sets.ok
    c.args.place (as_nanos c.args.asker_now) (as_nanos c.args.replier_now)
    c.exchange_with.result c.exchange_with.new.self c.exchange_with.ensures.seen.answer c.exchange_with.ensures.seen.left

pub returns-clause-carried : goal.returns-clause-carried
returns-clause-carried g c =
    carries g.met.C.FixedBytes.fixed g.met.C.Signature.FixedBytes.fixed g.C.PublicKey.verifies g.C.Ord.cmp
    c.args.place (as_nanos c.args.asker_now) (as_nanos c.args.replier_now) c.exchange_with.result
    c.args.asker.now c.args.replier.now c.exchange_with.new.self
    c.exchange_with.ensures.seen c.exchange_with.ensures.spelled
