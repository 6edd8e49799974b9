use Rattle.p2p_session.specs.Answers.{asked_bytes}
use Rattle.p2p_session.proofs.Puts.{room_item, put_item}
use Rattle.p2p_session.proofs.answer.put_asked.Goals as goal
use Rattle.p2p_session.specs.Schemes.{scheme_by}

pub put_question-at-requires : goal.put_question-at-requires
put_question-at-requires g c =
    room_item (asked_bytes (scheme_by g.C.PartialOrd g.C.Ord g.C.PartialEq g.C.FixedBytes g.C.PublicKey g.C.Signature.PartialEq g.C.Signature.FixedBytes)) c.args.infos.now c.loop-info.info-index c.args.start c.info-item.result c.loop-info.at c.args.out.now c.loop-info.out
    c.info-item.is c.loop-info-test.true c.requires c.loop-info.invariant.at c.loop-info.auto.out

pub loop-info-preserved : goal.loop-info-preserved
loop-info-preserved g c =
    let next = put_item (asked_bytes (scheme_by g.C.PartialOrd g.C.Ord g.C.PartialEq g.C.FixedBytes g.C.PublicKey g.C.Signature.PartialEq g.C.Signature.FixedBytes)) c.args.infos.now c.loop-info.info-index c.args.start c.info-item.result c.loop-info.at c.args.out.now c.loop-info.out
    c.info-item.is c.put_question-at.result c.put_question-at.new.out c.loop-info-test.true c.requires c.loop-info.invariant.at c.loop-info.invariant.out
    c.put_question-at.ensures.end c.put_question-at.ensures.bytes in
    record { at = next.0; out = next.1 }
