use Rattle.std.proofs.Common.{◌≡◌, ◌<◌, ◌++◌, ◌∷◌, [], false, Some, None, length, ap, sym, ◌∙◌}
use Rattle.std.proofs.Common.{arith, length-append, get_or}
use Rattle.std.proofs.lemmas.List.{length-map}
use Rattle.p2p_tracker.specs.Private.Window.{SetWithBits}
use Rattle.p2p_tracker.specs.Private.Places.{with_bits_at, walk, indices, has_index}
use Rattle.p2p_tracker.proofs.SetsAndRecords.Indexed.{bits_last, bit_past, indices_with_bit}
use Rattle.p2p_tracker.proofs.SetsAndRecords.Walks.{passed, met_at}
use Rattle.p2p_tracker.proofs.kept.window.set_bits.Goals as goal

pub returns-in_default-clause-sets : goal.returns-in_default-clause-sets
returns-in_default-clause-sets g c =
    let ns = indices c.args.sets.now.items in
    let none = ap (walk ns c.args.links.now.items) c.in_default.is
    ∙ passed (λ o. []) ns c.args.links.now.items None tt in
    sym (ap (λ ps. with_bits_at c.args.known ps c.loop-count.sets.items) none) ∙ c.loop-count.invariant.0

pub returns-in_default-clause-count : goal.returns-in_default-clause-count
returns-in_default-clause-count g c =
    let ns = indices c.args.sets.now.items in
    let none = ap (walk ns c.args.links.now.items) c.in_default.is
    ∙ passed (λ o. []) ns c.args.links.now.items None tt in
    omega (arith, c.loop-count.invariant.1, ap length none)

pub returns-in_default-set_bit_at-clause-sets : goal.returns-in_default-set_bit_at-clause-sets
returns-in_default-set_bit_at-clause-sets g c =
    let ns = indices c.args.sets.now.items in
    let place = c.in-Some.place in
    let sets = c.loop-count.sets.items in
    let gone : has_index ns place.set ≡ false = sym (ap (λ ns. has_index ns place.set) c.loop-count.invariant.2)
    ∙ c.in_default-set_bit_at.ensures.none in
    let none = ap (walk ns c.args.links.now.items) c.in-Some.is
    ∙ passed (λ o. []) ns c.args.links.now.items (Some place) gone in
    c.set_bit_at.ensures.sets ∙ bit_past c.args.known place sets c.in_default-set_bit_at.ensures.none
    ∙ sym (ap (λ ps. with_bits_at c.args.known ps sets) none) ∙ c.loop-count.invariant.0

pub returns-in_default-set_bit_at-clause-count : goal.returns-in_default-set_bit_at-clause-count
returns-in_default-set_bit_at-clause-count g c =
    let ns = indices c.args.sets.now.items in
    let place = c.in-Some.place in
    let gone : has_index ns place.set ≡ false = sym (ap (λ ns. has_index ns place.set) c.loop-count.invariant.2)
    ∙ c.in_default-set_bit_at.ensures.none in
    let none = ap (walk ns c.args.links.now.items) c.in-Some.is
    ∙ passed (λ o. []) ns c.args.links.now.items (Some place) gone in
    omega (arith, c.loop-count.invariant.1, ap length none)

pub loop-count-preserved : goal.loop-count-preserved
loop-count-preserved g c =
    let ns = indices c.args.sets.now.items in
    let links = c.args.links.now.items in
    let place = c.in-Some.place in
    let sets = c.loop-count.sets.items in
    let next = c.link_at-next.result in
    let found = c.in-Some-set_bit_at.found in
    let at = c.in-Some-set_bit_at.ensures.some in
    let same = c.loop-count.invariant.2 in
    let sized : length (indices sets) ≡ length sets
    = length-map sets (λ (set : SetWithBits g.row.C.Denot). set.index) in
    let low : found < length ns = omega (arith, at.0, sized, ap length same) in
    let step = ap (walk ns links) c.in-Some.is
    ∙ met_at (λ o. []) ns links found place c.requires.ascending c.requires.earlier low
    (sym (ap (λ ns. get_or ns found 0) same) ∙ at.1)
    ∙ ap (λ o. walk ns links o ++ place ∷ []) (sym c.link_at-next.ensures) in (
      ap (with_bits_at c.args.known (walk ns links next)) c.set_bit_at.ensures.sets
          ∙ sym (bits_last c.args.known (walk ns links next) place sets)
          ∙ sym (ap (λ ps. with_bits_at c.args.known ps sets) step) ∙ c.loop-count.invariant.0,
      omega (arith, c.loop-count.invariant.1, ap length step, length-append (walk ns links next) (place ∷ [])),
      ap indices c.set_bit_at.ensures.sets ∙ indices_with_bit c.args.known place sets ∙ same,
    )
