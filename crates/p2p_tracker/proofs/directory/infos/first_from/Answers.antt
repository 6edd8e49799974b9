use Rattle.std.proofs.Common.{length, ap, sym, ◌∙◌, arith}
use Rattle.std.specs.Ordering.{is_lt}
use Rattle.p2p_tracker.specs.Private.Asked.{asked_from}
use Rattle.p2p_tracker.proofs.SetsAndRecords.Asked.{asked_known, asked_below, asked_here, zip_behind}
use Rattle.p2p_tracker.proofs.directory.infos.first_from.Goals.{else-not-get-via-then-not-get+else-not-is_lt, else-not-get-via-else-not-get}
use Rattle.p2p_tracker.proofs.directory.infos.first_from.Goals as goal

pub returns-then-not-is_lt-clause-first : goal.returns-then-not-is_lt-clause-first
returns-then-not-is_lt-clause-first g c =
    asked_here g.C.Ord.cmp c.args.key.now c.args.peers.now c.args.bits.now c.loop-at.at c.get.result
    (omega (arith, c.loop-at-test.true)) c.get.ensures c.index-peers-at.result c.index-peers-at.is c.if-not-get.true
    (sym (c.is_lt.ensures ∙ ap is_lt c.cmp.ensures) ∙ c.if-not-is_lt.true)
    ∙ c.loop-at.invariant

pub loop-at-preserved : goal.loop-at-preserved
loop-at-preserved g c = elim c.else-not-get.branch [
  | else-not-get-via-then-not-get+else-not-is_lt w ↦
      asked_below g.C.Ord.cmp c.args.key.now c.args.peers.now c.args.bits.now c.loop-at.at c.get.result
      (omega (arith, c.loop-at-test.true)) c.get.ensures w.index-peers-at.result w.index-peers-at.is w.if-not-get.true
      (sym (w.is_lt.ensures ∙ ap is_lt w.cmp.ensures) ∙ w.if-not-is_lt.false)
      ∙ c.loop-at.invariant
  | else-not-get-via-else-not-get w ↦
      asked_known g.C.Ord.cmp c.args.key.now c.args.peers.now c.args.bits.now c.loop-at.at c.get.result
      (omega (arith, c.loop-at-test.true)) c.get.ensures w.if-not-get.false
      ∙ c.loop-at.invariant
]

pub returns-clause-first : goal.returns-clause-first
returns-clause-first g c =
    let ps = c.args.peers.now in
    let bs = c.args.bits.now in
    zip_behind ps bs (length ps) (omega (arith))
    ∙ sym (ap (asked_from g.C.Ord.cmp c.args.key.now) (zip_behind ps bs c.loop-at.at (omega (arith, c.loop-at-test.false))))
    ∙ c.loop-at.invariant
