use Rattle.std.specs.Duration.{as_nanos}
use Rattle.p2p_directory.specs.Received.{received_of}
use Rattle.p2p_session.proofs.Heard.{hears_same}
use Rattle.p2p_session.proofs.frames.process.Goals as goal
use Rattle.p2p_session.specs.Schemes.{wire, scheme_by}

pub returns-in_ok-answer_decoded-in-Some-clause-heard :
    goal.returns-in_ok-answer_decoded-in-Some-clause-heard
returns-in_ok-answer_decoded-in-Some-clause-heard g c =
    let a = c.in_ok-answer_decoded-in-Some in
    hears_same (scheme_by g.C.PartialOrd g.C.Ord g.C.PartialEq g.C.FixedBytes g.C.PublicKey g.C.Signature.PartialEq g.C.Signature.FixedBytes) c.args.verdicts.now c.args.frame.now c.in-Some.decoded.frame (as_nanos c.args.now) c.args.node.now
    c.answer_decoded.new.self (received_of (wire (scheme_by g.C.PartialOrd g.C.Ord g.C.PartialEq g.C.FixedBytes g.C.PublicKey g.C.Signature.PartialEq g.C.Signature.FixedBytes)) a.field-0) c.in-Some.ensures a.ensures.seen a.ensures.received a.ensures.judged

pub returns-in_ok-answer_with_verdicts-in-None-clause-heard :
    goal.returns-in_ok-answer_with_verdicts-in-None-clause-heard
returns-in_ok-answer_with_verdicts-in-None-clause-heard g c =
    let a = c.in_ok-answer_with_verdicts-in-None in
    hears_same (scheme_by g.C.PartialOrd g.C.Ord g.C.PartialEq g.C.FixedBytes g.C.PublicKey g.C.Signature.PartialEq g.C.Signature.FixedBytes) c.args.verdicts.now c.args.frame.now c.in_ok-frame-in-None.frame (as_nanos c.args.now) c.args.node.now
    c.answer_with_verdicts.new.self (received_of (wire (scheme_by g.C.PartialOrd g.C.Ord g.C.PartialEq g.C.FixedBytes g.C.PublicKey g.C.Signature.PartialEq g.C.Signature.FixedBytes)) a.field-0) c.in_ok-frame-in-None.ensures.ok a.ensures.seen a.ensures.received a.ensures.judged
