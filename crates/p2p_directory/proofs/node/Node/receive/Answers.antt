use Rattle.std.proofs.Common.{refl}
use Rattle.std.specs.Duration.{as_nanos}
use Rattle.p2p_directory.specs.Nodes.{made_of, standing_in}
use Rattle.p2p_directory.specs.Received.{verdicts_of}
use Rattle.p2p_directory.proofs.Nodes.Frames.{frame_may_want_memory}
use Rattle.p2p_directory.specs.Run.{world_after}
use Rattle.p2p_directory.proofs.LawsOfGossip.Late
use Rattle.p2p_directory.proofs.Nodes.Worlds.{received_in}
use Rattle.p2p_directory.proofs.Nodes.ReadBack.{wire_in}
use Rattle.p2p_directory.proofs.node.Node.receive.Goals as goal

pub returns-clause-received : goal.returns-clause-received
returns-clause-received g c = λ given calls at.
    received_in (made_of g.C.Ord.cmp given)
    (wire_in g.C.PublicKey.verifies g.C.FixedBytes g.C.Signature.FixedBytes)
    calls c.args.self.now at given.cfg.max_sets.ok verdicts_of c.args.frame (as_nanos c.args.now)
    c.answer.result c.answer.new.self c.answer.ensures.seen

pub returns-clause-late : goal.returns-clause-late
returns-clause-late g c = λ given calls at.
    let wire = wire_in g.C.PublicKey.verifies g.C.FixedBytes g.C.Signature.FixedBytes in
    let m = made_of g.C.Ord.cmp given in
    Late.takes_late g.met.C.FixedBytes.fixed g.met.C.Signature.FixedBytes.fixed g.C.PublicKey.verifies g.C.Ord.cmp g.met.C.Ord.total g.met.C.PublicKey.exact
    m (record { order = refl; me = refl; sets = given.cfg.max_sets.ok }) calls c.args.frame (as_nanos c.args.now) c.answer.result
    (frame_may_want_memory wire (standing_in m wire (world_after m.directory calls)) c.args.frame (as_nanos c.args.now))
    (returns-clause-received g c given calls at).answer
