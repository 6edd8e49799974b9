use Rattle.std.proofs.Common.{◌<◌, length, sym, arith}
use Rattle.std.specs.Prelude.{◌==◌}
use Rattle.std.proofs.lemmas.Bool.Decides.{nat_tests}
use Rattle.p2p_tracker.specs.Private.Window.{SetWithBits}
use Rattle.p2p_tracker.proofs.SetsAndRecords.Windows.{found_at, not_found_more}
use Rattle.p2p_tracker.proofs.kept.window.set_with_index.Goals as goal

pub returns-then-index : goal.returns-then-index
returns-then-index g c =
    let xs = c.args.sets.now.items in
    let low : c.loop-place.place < length xs = omega (arith, c.loop-place-test.true, c.len-place-end.ensures, c.args.sets.now.ok.0) in
    sym (found_at (λ (set : SetWithBits g.row.C.Denot). set.index == c.args.index) xs c.loop-place.place
    c.index-set.result.now c.loop-place.invariant low c.index-set.ensures
    (grind (arith, nat_tests, c.if-index.true, c.index.ensures)))

pub loop-place-preserved : goal.loop-place-preserved
loop-place-preserved g c =
    let xs = c.args.sets.now.items in
    let low : c.loop-place.place < length xs = omega (arith, c.loop-place-test.true, c.len-place-end.ensures, c.args.sets.now.ok.0) in
    not_found_more (λ (set : SetWithBits g.row.C.Denot). set.index == c.args.index) xs c.loop-place.place
    c.index-set.result.now c.loop-place.invariant low c.index-set.ensures
    (grind (arith, nat_tests, c.if-index.false, c.index.ensures))
