use Rattle.std.specs.Duration.{as_nanos}
use Rattle.std.proofs.lemmas.Result.{IfOk-weaker}
use Rattle.p2p_directory.specs.Nodes.{given_verdicts, made_of}
use Rattle.p2p_directory.specs.Received.{received_of}
use Rattle.p2p_directory.proofs.Nodes.Worlds.{received_in}
use Rattle.p2p_directory.proofs.LawsOfGossip.FramesByVerdicts.{is_judged}
use Rattle.p2p_directory.proofs.Nodes.ReadBack.{wire_in}
use Rattle.p2p_directory.proofs.node.Node.answer_with_verdicts.Goals as goal

pub returns-clause-received : goal.returns-clause-received
returns-clause-received g c = IfOk-weaker c.answer_frame.result _ _ (λ a seen given calls at.
    received_in (made_of g.C.Ord.cmp given)
    (wire_in g.C.PublicKey.verifies g.C.FixedBytes g.C.Signature.FixedBytes)
    calls c.args.self.now at given.cfg.max_sets.ok (given_verdicts c.args.verdicts.now) c.args.frame (as_nanos c.args.now)
    (received_of (wire_in g.C.PublicKey.verifies g.C.FixedBytes g.C.Signature.FixedBytes) a) c.answer_frame.new.self seen) c.answer_frame.ensures.seen

pub returns-clause-judged : goal.returns-clause-judged
returns-clause-judged g c = IfOk-weaker c.answer_frame.result _ _ (λ a seen.
    is_judged g.met.C.FixedBytes.fixed g.met.C.Signature.FixedBytes.fixed g.C.PublicKey.verifies
    g.C.Ord.cmp g.met.C.Ord.total g.met.C.PublicKey.exact c.args.verdicts.now c.args.frame
    (as_nanos c.args.now)
    (received_of (wire_in g.C.PublicKey.verifies g.C.FixedBytes g.C.Signature.FixedBytes) a)
    c.args.self.now c.answer_frame.new.self seen) c.answer_frame.ensures.seen
