use Rattle.std.proofs.Common.{◌<◌, ◌∙◌, rules, ap, sym, length, arith}
use Rattle.std.specs.Prelude.{slice_set}
use Rattle.std.proofs.lemmas.List.{get_or-map}
use Rattle.std.proofs.lemmas.List.Sorted.{answers_always}
use Rattle.p2p_tracker.specs.Private.Window.{SetWithBits}
use Rattle.p2p_tracker.proofs.SetsAndRecords.Indexed.{bit_written, bit_nowhere, index_found, index_nowhere, none_has}
use Rattle.p2p_tracker.proofs.kept.window.set_bit_at.Goals as goal

pub returns-in-Some-clause-sets : goal.returns-in-Some-clause-sets
returns-in-Some-clause-sets g c =
    let sets = c.args.sets.now in
    let x = c.in-Some.set.now in
    let low : c.in-Ok.found < length sets.items = omega (arith, c.in-Ok.ensures.bound, sets.ok.0) in
    let by_index = c.in-Ok.ensures.position (λ (set : SetWithBits g.row.C.Denot). set.index)
    (answers_always _ _ _ (λ f a r h called. search rules)) in
    ap (slice_set sets.items c.in-Ok.found) c.set_bit.ensures
    ∙ bit_written c.args.known c.args.place.now sets.items c.in-Ok.found x c.requires low c.in-Some.ensures.value
    (index_found sets.items c.in-Ok.found x c.args.place.now.set c.in-Some.ensures.value (by_index x))

pub returns-in-Some-clause-some : goal.returns-in-Some-clause-some
returns-in-Some-clause-some g c =
    let sets = c.args.sets.now in
    let x = c.in-Some.set.now in
    let low : c.in-Ok.found < length sets.items = omega (arith, c.in-Ok.ensures.bound, sets.ok.0) in
    let by_index = c.in-Ok.ensures.position (λ (set : SetWithBits g.row.C.Denot). set.index)
    (answers_always _ _ _ (λ f a r h called. search rules)) in (
      low,
      get_or-map (λ (set : SetWithBits g.row.C.Denot). set.index) sets.items c.in-Ok.found x 0 low
          ∙ ap (λ (set : SetWithBits g.row.C.Denot). set.index) (sym c.in-Some.ensures.value)
          ∙ index_found sets.items c.in-Ok.found x c.args.place.now.set c.in-Some.ensures.value (by_index x),
    )

pub returns-in-Err-clause-sets : goal.returns-in-Err-clause-sets
returns-in-Err-clause-sets g c =
    let sets = c.args.sets.now.items in
    sym (bit_nowhere c.args.known c.args.place.now sets
    (index_nowhere sets c.args.place.now.set c.in-Err.field-0 c.requires
    (c.in-Err.ensures.position (λ (set : SetWithBits g.row.C.Denot). set.index)
    (answers_always _ _ _ (λ f a r h called. search rules)))))

pub returns-in-Err-clause-none : goal.returns-in-Err-clause-none
returns-in-Err-clause-none g c =
    let sets = c.args.sets.now.items in
    none_has sets c.args.place.now.set
    (index_nowhere sets c.args.place.now.set c.in-Err.field-0 c.requires
    (c.in-Err.ensures.position (λ (set : SetWithBits g.row.C.Denot). set.index)
    (answers_always _ _ _ (λ f a r h called. search rules))))
