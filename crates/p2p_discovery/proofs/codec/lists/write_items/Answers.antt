use Rattle.std.proofs.Common.{arith, ap, length, ◌∙◌, sym, append_assoc, drop, ◌+◌}
use Rattle.std.proofs.lemmas.List.{length-append, append-nil}
use Rattle.p2p_discovery.specs.Lists.{spellings}
use Rattle.p2p_discovery.proofs.ListReads.{next_is, none_left, each_next}
use Rattle.p2p_discovery.proofs.codec.lists.write_items.Goals as goal

pub write-requires-clause-room : goal.write-requires-clause-room
write-requires-clause-room g c =
    let n = next_is g.T.EncodeSize.spelling c.args.items.now c.loop-item.item-index c.item-item.result c.loop-item-test.true c.item-item.is in
    omega (arith, simp length-append at (ap length n), c.loop-item.invariant.spare, c.requires.room)

pub loop-item-preserved : goal.loop-item-preserved
loop-item-preserved g c =
    let n = next_is g.T.EncodeSize.spelling c.args.items.now c.loop-item.item-index c.item-item.result c.loop-item-test.true c.item-item.is in
    record {
      items = rw c.write.ensures.items
          (append_assoc c.loop-item.buf.items (g.T.EncodeSize.spelling c.item-item.result)
          (spellings g.T.EncodeSize.spelling (drop (c.loop-item.item-index + 1) c.args.items.now))
          ∙ (rw n at c.loop-item.invariant.items));
      spare = omega (arith, simp length-append at (ap length n), c.loop-item.invariant.spare, c.write.ensures.spare);
      holds = λ h. c.loop-item.invariant.holds
          (each_next g.T.Write.HoldsValues c.args.items.now c.loop-item.item-index c.item-item.result
          c.loop-item-test.true c.item-item.is c.write.ensures.holds h);
    }

pub returns-clause-items : goal.returns-clause-items
returns-clause-items g c =
    let n = none_left g.T.EncodeSize.spelling c.args.items.now c.loop-item.item-index c.loop-item-test.false in
    sym (append-nil c.loop-item.buf.items) ∙ (rw n at c.loop-item.invariant.items)

pub returns-clause-spare : goal.returns-clause-spare
returns-clause-spare g c =
    let n = none_left g.T.EncodeSize.spelling c.args.items.now c.loop-item.item-index c.loop-item-test.false in
    omega (arith, ap length n, c.loop-item.invariant.spare)
