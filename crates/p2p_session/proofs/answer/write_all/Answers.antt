use Rattle.std.proofs.Common.{arith}
use Rattle.p2p_session.proofs.Puts.{room_item, put_item}
use Rattle.p2p_session.proofs.answer.write_all.Goals as goal

pub put-at-requires : goal.put-at-requires
put-at-requires g c =
    room_item g.P.Part.bytes c.args.parts.now c.loop-part.part-index 0 c.part-item.result c.loop-part.at c.args.out.now c.loop-part.out
    c.part-item.is c.loop-part-test.true (omega (arith, c.requires)) c.loop-part.invariant.at c.loop-part.auto.out

pub loop-part-preserved : goal.loop-part-preserved
loop-part-preserved g c =
    let next = put_item g.P.Part.bytes c.args.parts.now c.loop-part.part-index 0 c.part-item.result c.loop-part.at c.args.out.now c.loop-part.out
    c.part-item.is c.put-at.result c.put-at.new.out c.loop-part-test.true (omega (arith, c.requires))
    c.loop-part.invariant.at c.loop-part.invariant.out c.put-at.ensures.end c.put-at.ensures.written in
    record { at = next.0; out = next.1 }
