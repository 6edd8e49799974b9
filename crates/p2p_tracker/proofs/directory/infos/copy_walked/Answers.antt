use Rattle.std.proofs.Common.{◌≡◌, ◌+◌, ◌++◌, length, ap, sym, subst, ◌∙◌, arith, append_assoc, drop, zip}
use Rattle.std.specs.List.Sorted.{IsStrictlySortedBy}
use Rattle.std.specs.Map.{keys_of}
use Rattle.std.specs.Ordering.{is_eq}
use Rattle.std.specs.Prelude.{option_to_list}
use Rattle.std.proofs.lemmas.List.{length-append, append-nil}
use Rattle.p2p_discovery.proofs.Results.{OnErr-from}
use Rattle.p2p_tracker.specs.Directory.{shared_at, shared_of}
use Rattle.p2p_tracker.specs.Private.Asked.{shared_of_record}
use Rattle.p2p_tracker.proofs.SetsAndRecords.Shared.{chosen_from}
use Rattle.p2p_tracker.proofs.SetsAndRecords.Asked.{none_left, ordered_left, walked_past, walked_met, walked_missed}
use Rattle.p2p_tracker.proofs.directory.infos.copy_walked.Given.{Over}
use Rattle.p2p_tracker.proofs.directory.infos.copy_walked.Goals.{After-copy_info}
use Rattle.p2p_tracker.proofs.directory.infos.copy_walked.Goals as goal

pub loop-key-init : goal.loop-key-init
loop-key-init g c =
    let all = c.into_iter-key-iterator.ensures.into_iter_gives ∙ c.iter-key-items.ensures.all in
    record {
      within = omega (arith);
      ordered = subst (λ es. IsStrictlySortedBy g.C.Ord.cmp (keys_of es)) (sym all) c.iter-key-items.ensures.sorted;
      grown = omega (arith);
      listed = λ i. c.args.infos.now.items
          ++ shared_of g.C.Ord.cmp (all i) c.args.millis (c.as_slice-keys.ensures.all i) c.args.bits.now;
    }

pub returns-then-place-keys-clause-infos : goal.returns-then-place-keys-clause-infos
returns-then-place-keys-clause-infos g c =
    let infos = c.loop-key.infos.items in
    sym (append-nil infos)
    ∙ ap (λ is. infos ++ is) (sym (walked_past g.met.C.Ord.total c.args.millis c.as_slice-keys.result.now c.args.bits.now
    c.loop-key.key-iterator c.next.new.self (c.in-Some.key.now, c.in-Some.found.now) c.in-Some.ensures.steps
    c.loop-key.invariant.ordered c.loop-key.place c.first_from-place.result c.first_from-place.ensures.first
    (omega (arith, c.if-place-keys.true))))
    ∙ c.loop-key.invariant.listed

-- where the next of the peers is the record's, what is left of the infos begins with what is copied
met : (g : Over) (c : After-copy_info g) → chosen_from (shared_at g.C.Ord.cmp c.loop-key.key-iterator c.args.millis)
    c.loop-key.place c.as_slice-keys.result.now c.args.bits.now
    ≡ option_to_list (shared_of_record c.args.millis c.in-Some.found.now)
    ++ chosen_from (shared_at g.C.Ord.cmp c.next.new.self c.args.millis) (c.first_from-place.result + 1)
    c.as_slice-keys.result.now c.args.bits.now
met g c =
    walked_met g.met.C.Ord.total c.args.millis c.as_slice-keys.result.now c.args.bits.now
    c.loop-key.key-iterator c.next.new.self (c.in-Some.key.now, c.in-Some.found.now) c.in-Some.ensures.steps
    c.loop-key.invariant.ordered c.loop-key.place c.first_from-place.result c.first_from-place.ensures.first
    (subst (λ ks. IsStrictlySortedBy g.C.Ord.cmp ks) (sym c.as_slice-keys.ensures.all) c.as_slice-keys.ensures.sorted)
    (c.requires ∙ ap length (sym c.as_slice-keys.ensures.all)) c.index-keys-place.result
    (omega (arith, c.first_from-place.ensures.within, c.if-place-keys.false)) c.index-keys-place.is
    (sym (c.is_eq.ensures ∙ ap is_eq c.cmp.ensures) ∙ c.if-is_eq.true)

pub returns-in_err-copy_info-clause-err : goal.returns-in_err-copy_info-clause-err
returns-in_err-copy_info-clause-err g c =
    let infos = c.loop-key.infos.items in
    let first = c.args.infos.now.items in
    let all = shared_of g.C.Ord.cmp c.args.records.now c.args.millis c.args.peers.now c.args.bits.now in
    let here = chosen_from (shared_at g.C.Ord.cmp c.loop-key.key-iterator c.args.millis) c.loop-key.place
    c.as_slice-keys.result.now c.args.bits.now in
    let rest = chosen_from (shared_at g.C.Ord.cmp c.next.new.self c.args.millis) (c.first_from-place.result + 1)
    c.as_slice-keys.result.now c.args.bits.now in
    let one = option_to_list (shared_of_record c.args.millis c.in-Some.found.now) in
    let some = c.in_err-copy_info.ensures.err in
    OnErr-from c.from_residual.result
    (omega (
      arith,
      some,
      ap (λ o. length (option_to_list o)) c.shared_by.ensures,
      ap length (met g (goal.at.returns-in_err-copy_info-clause-err g c).After-copy_info),
      length-append one rest,
      ap length c.loop-key.invariant.listed,
      length-append infos here,
      length-append first all,
      c.loop-key.invariant.grown,
    ))

pub loop-key-preserved-then-is_eq : goal.loop-key-preserved-then-is_eq
loop-key-preserved-then-is_eq g c =
    let infos = c.loop-key.infos.items in
    let rest = chosen_from (shared_at g.C.Ord.cmp c.next.new.self c.args.millis) (c.first_from-place.result + 1)
    c.as_slice-keys.result.now c.args.bits.now in
    let one = option_to_list (shared_of_record c.args.millis c.in-Some.found.now) in
    let ordered = ordered_left g.met.C.Ord.total c.args.millis c.as_slice-keys.result.now c.args.bits.now
    c.loop-key.key-iterator c.next.new.self (c.in-Some.key.now, c.in-Some.found.now) c.in-Some.ensures.steps
    c.loop-key.invariant.ordered c.loop-key.place c.first_from-place.result c.first_from-place.ensures.first in
    let more : c.copy_info.new.infos.items ≡ infos ++ one =
    c.in_ok-copy_info.ensures.infos ∙ ap (λ o. infos ++ option_to_list o) c.shared_by.ensures in
    record {
      within = omega (arith, c.first_from-place.ensures.within, c.if-place-keys.false);
      ordered = ordered;
      grown = omega (arith, c.loop-key.invariant.grown, ap length more, length-append infos one);
      listed =
          ap (λ is. is ++ rest) more ∙ append_assoc infos one rest
          ∙ ap (λ is. infos ++ is) (sym (met g (goal.at.loop-key-preserved-then-is_eq g c).After-copy_info))
          ∙ c.loop-key.invariant.listed;
    }

pub loop-key-preserved : goal.loop-key-preserved
loop-key-preserved g c =
    let ordered = ordered_left g.met.C.Ord.total c.args.millis c.as_slice-keys.result.now c.args.bits.now
    c.loop-key.key-iterator c.next.new.self (c.in-Some.key.now, c.in-Some.found.now) c.in-Some.ensures.steps
    c.loop-key.invariant.ordered c.loop-key.place c.first_from-place.result c.first_from-place.ensures.first in
    let missed = walked_missed g.met.C.Ord.total c.args.millis c.as_slice-keys.result.now c.args.bits.now
    c.loop-key.key-iterator c.next.new.self (c.in-Some.key.now, c.in-Some.found.now) c.in-Some.ensures.steps
    c.loop-key.invariant.ordered c.loop-key.place c.first_from-place.result c.first_from-place.ensures.first
    (subst (λ ks. IsStrictlySortedBy g.C.Ord.cmp ks) (sym c.as_slice-keys.ensures.all) c.as_slice-keys.ensures.sorted)
    (c.requires ∙ ap length (sym c.as_slice-keys.ensures.all)) c.index-keys-place.result
    (omega (arith, c.first_from-place.ensures.within, c.if-place-keys.false)) c.index-keys-place.is
    (sym (c.is_eq.ensures ∙ ap is_eq c.cmp.ensures) ∙ c.if-is_eq.false) in
    record {
      within = c.first_from-place.ensures.within;
      ordered = ordered;
      grown = c.loop-key.invariant.grown;
      listed = ap (λ is. c.loop-key.infos.items ++ is) (sym missed) ∙ c.loop-key.invariant.listed;
    }

pub returns-clause-infos : goal.returns-clause-infos
returns-clause-infos g c =
    let infos = c.loop-key.infos.items in
    let none =
    ap (λ es. chosen_from (shared_at g.C.Ord.cmp es c.args.millis) c.loop-key.place c.as_slice-keys.result.now
    c.args.bits.now) c.in-None.ensures.steps.0
    ∙ none_left g.met.C.Ord.total c.args.millis (drop c.loop-key.place (zip c.as_slice-keys.result.now c.args.bits.now)) in
    sym (append-nil infos) ∙ ap (λ is. infos ++ is) (sym none) ∙ c.loop-key.invariant.listed
