use Rattle.p2p_session.proofs.Puts.{room_item, put_item}
use Rattle.p2p_session.proofs.answer.put_keys.Goals as goal

pub put_fixed-at-requires : goal.put_fixed-at-requires
put_fixed-at-requires g c =
    room_item g.C.FixedBytes.spelled c.args.keys.now c.loop-key.key-index c.args.start c.key-item.result c.loop-key.at c.args.out.now c.loop-key.out
    c.key-item.is c.loop-key-test.true c.requires c.loop-key.invariant.at c.loop-key.auto.out

pub loop-key-preserved : goal.loop-key-preserved
loop-key-preserved g c =
    let next = put_item g.C.FixedBytes.spelled c.args.keys.now c.loop-key.key-index c.args.start c.key-item.result c.loop-key.at c.args.out.now c.loop-key.out
    c.key-item.is c.put_fixed-at.result c.put_fixed-at.new.out c.loop-key-test.true c.requires c.loop-key.invariant.at c.loop-key.invariant.out
    c.put_fixed-at.ensures.end c.put_fixed-at.ensures.bytes in
    record { at = next.0; out = next.1 }
