use Rattle.std.proofs.Common.{◌+◌, ◌++◌, length, ap, sym, ◌∙◌, arith, append_assoc}
use Rattle.std.specs.Prelude.{option_to_list}
use Rattle.std.proofs.lemmas.List.{length-append, append-nil}
use Rattle.p2p_discovery.proofs.Results.{OnErr-from}
use Rattle.p2p_tracker.specs.Directory.{shared_at}
use Rattle.p2p_tracker.proofs.SetsAndRecords.Shared.{chosen_from, chosen_at, chosen_behind, chosen_within}
use Rattle.p2p_tracker.proofs.directory.infos.copy_shared.Goals as goal

pub returns-in_err-copy_info-clause-err : goal.returns-in_err-copy_info-clause-err
returns-in_err-copy_info-clause-err g c =
    let f = shared_at g.C.Ord.cmp c.args.records.now c.args.millis in
    let place = c.loop-place.place in
    let one = option_to_list (f (c.index.result.now, c.get-known.result)) in
    let rest = chosen_from f (place + 1) c.args.peers.now c.args.bits.now in
    let here = chosen_at f c.args.peers.now c.args.bits.now place c.index.result.now
    c.get-known.result c.index.ensures c.get-known.ensures in
    let some = c.in_err-copy_info.ensures.err in
    OnErr-from c.from_residual.result
    (omega (
      arith,
      some,
      ap (λ o. length (option_to_list o)) c.shared-info.ensures,
      ap length here,
      length-append one rest,
      chosen_within f c.args.peers.now c.args.bits.now place,
    ))

pub loop-place-preserved : goal.loop-place-preserved
loop-place-preserved g c =
    let f = shared_at g.C.Ord.cmp c.args.records.now c.args.millis in
    let place = c.loop-place.place in
    let one = option_to_list (f (c.index.result.now, c.get-known.result)) in
    let rest = chosen_from f (place + 1) c.args.peers.now c.args.bits.now in
    let here = chosen_at f c.args.peers.now c.args.bits.now place c.index.result.now
    c.get-known.result c.index.ensures c.get-known.ensures in
    ap (λ infos. infos ++ rest)
    (c.in_ok-copy_info.ensures.infos
    ∙ ap (λ o. c.loop-place.infos.items ++ option_to_list o) c.shared-info.ensures)
    ∙ append_assoc c.loop-place.infos.items one rest
    ∙ ap (λ infos. c.loop-place.infos.items ++ infos) (sym here)
    ∙ c.loop-place.invariant

pub returns-clause-infos : goal.returns-clause-infos
returns-clause-infos g c =
    let f = shared_at g.C.Ord.cmp c.args.records.now c.args.millis in
    let past = chosen_behind f c.args.peers.now c.args.bits.now c.loop-place.place
    (omega (arith, c.loop-place-test.false, c.len-place-end.ensures)) in
    sym (append-nil c.loop-place.infos.items)
    ∙ ap (λ infos. c.loop-place.infos.items ++ infos) (sym past) ∙ c.loop-place.invariant
