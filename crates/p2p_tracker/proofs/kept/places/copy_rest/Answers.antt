use Rattle.std.proofs.Common.{drop, length, length-append, ap, arith}
use Rattle.std.proofs.lemmas.List.{drop_more}
use Rattle.p2p_tracker.proofs.kept.places.copy_rest.Goals as goal

pub push_reserved-requires : goal.push_reserved-requires
push_reserved-requires g c =
    let es = c.args.latest.now in
    omega (
      arith,
      ap length c.loop-at.invariant.copied,
      length-append c.loop-at.copied.items (drop c.loop-at.at es),
      length-append c.args.copied.now.items (drop c.args.from es),
      ap length (drop_more es c.loop-at.at c.index-latest-at.result c.loop-at-test.true),
      c.requires,
      c.loop-at.invariant.capacity,
      c.loop-at.copied.ok.0,
    )
