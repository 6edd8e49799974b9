use Rattle.std.proofs.Common.{◌∙◌, sym, ap, nat_le, ◌&&◌, drop, ◌+◌, max}
use Rattle.std.specs.Duration.{as_nanos}
use Rattle.std.specs.List.{list_all}
use Rattle.p2p_driver.proofs.Greatest.{within, counted, uncounted}
use Rattle.p2p_driver.proofs.arrivals.greatest.Goals.{then-is_older, else-is_older}
use Rattle.p2p_driver.proofs.arrivals.greatest.Goals as goal

pub loop-arrival-preserved : goal.loop-arrival-preserved
loop-arrival-preserved g c n =
    let grace = as_nanos c.args.grace in
    let now = as_nanos c.args.now in
    let rest = list_all (within grace now c.args.arrivals.now n)
    (drop (c.loop-arrival.arrival-index + 1) c.args.arrivals.now) in
    c.loop-arrival.invariant n ∙ elim c.if-is_older.branch [
      | then-is_older w ↦ counted grace now c.args.arrivals.now c.loop-arrival.most c.loop-arrival.arrival-index
          c.arrival-item.result c.loop-arrival-test.true c.arrival-item.is
          (sym c.is_older.ensures ∙ w.if-is_older.true) n
          ∙ ap (λ m. nat_le m n && rest) (ap (λ k. max c.loop-arrival.most k) (sym w.count_older.ensures)
          ∙ sym w.greater-most.ensures ∙ sym w.most-is)
      | else-is_older w ↦ uncounted grace now c.args.arrivals.now c.loop-arrival.most c.loop-arrival.arrival-index
          c.arrival-item.result c.loop-arrival-test.true c.arrival-item.is
          (sym c.is_older.ensures ∙ w.if-is_older.false) n
          ∙ ap (λ m. nat_le m n && rest) (sym w.most-is)
    ]
