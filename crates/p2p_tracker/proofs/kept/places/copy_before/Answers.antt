use Rattle.std.proofs.Common.{◌++◌, drop, length-append, length, append-nil, sym, ◌∙◌, ap, arith}
use Rattle.p2p_tracker.specs.Private.Places.{before_key}
use Rattle.p2p_tracker.proofs.SetsAndRecords.Merged.{less_before, equal_before, equal_behind, greater_before, greater_behind}
use Rattle.p2p_tracker.proofs.kept.places.copy_before.Goals as goal

pub push_reserved-requires : goal.push_reserved-requires
push_reserved-requires g c =
    let before = before_key g.C.Ord.cmp c.args.key.now in
    let es = c.args.latest.now in
    omega (
      arith,
      ap length c.loop-at.invariant.copied,
      length-append c.loop-at.copied.items (before (drop c.loop-at.at es)),
      length-append c.args.copied.now.items (before (drop c.args.from es)),
      ap length (less_before g.met.C.Ord.total c.args.key.now es c.loop-at.at c.index-latest-at.result
          c.loop-at-test.true c.index-latest-at.is (sym c.cmp.ensures ∙ c.in-Less.is)),
      c.requires.room,
      c.loop-at.invariant.capacity,
      c.loop-at.copied.ok.0,
    )

pub returns-in-Equal-clause-copied : goal.returns-in-Equal-clause-copied
returns-in-Equal-clause-copied g c =
    sym (append-nil c.loop-at.copied.items)
    ∙ ap (λ es. c.loop-at.copied.items ++ es) (sym (equal_before g.met.C.Ord.total c.args.key.now c.args.latest.now
    c.loop-at.at c.index-latest-at.result c.loop-at-test.true c.index-latest-at.is c.requires.sorted
    (sym c.cmp.ensures ∙ c.in-Equal.is)))
    ∙ c.loop-at.invariant.copied

pub returns-in-Equal-clause-rest : goal.returns-in-Equal-clause-rest
returns-in-Equal-clause-rest g c =
    equal_behind g.met.C.Ord.total c.args.key.now c.args.latest.now c.loop-at.at c.index-latest-at.result
    c.loop-at-test.true c.index-latest-at.is c.requires.sorted (sym c.cmp.ensures ∙ c.in-Equal.is)
    ∙ c.loop-at.invariant.rest

pub returns-in-Greater-clause-copied : goal.returns-in-Greater-clause-copied
returns-in-Greater-clause-copied g c =
    sym (append-nil c.loop-at.copied.items)
    ∙ ap (λ es. c.loop-at.copied.items ++ es) (sym (greater_before g.met.C.Ord.total c.args.key.now c.args.latest.now
    c.loop-at.at c.index-latest-at.result c.loop-at-test.true c.index-latest-at.is c.requires.sorted
    (sym c.cmp.ensures ∙ c.in-Greater.is)))
    ∙ c.loop-at.invariant.copied

pub returns-in-Greater-clause-rest : goal.returns-in-Greater-clause-rest
returns-in-Greater-clause-rest g c =
    greater_behind g.met.C.Ord.total c.args.key.now c.args.latest.now c.loop-at.at c.index-latest-at.result
    c.loop-at-test.true c.index-latest-at.is c.requires.sorted (sym c.cmp.ensures ∙ c.in-Greater.is)
    ∙ c.loop-at.invariant.rest
