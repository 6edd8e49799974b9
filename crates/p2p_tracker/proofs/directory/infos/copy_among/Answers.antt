use Rattle.std.proofs.Common.{◌≡◌, ◌<◌, ◌≤◌, ◌++◌, List, [], ◌∷◌, Option, None, Some, filter_map, length, true}
use Rattle.std.proofs.Common.{refl, ap, sym, ◌∙◌, arith, append_assoc}
use Rattle.std.specs.List.{cons_option}
use Rattle.std.specs.Map.{keys_of}
use Rattle.std.specs.Prelude.{option_to_list}
use Rattle.std.proofs.lemmas.List.{length-append}
use Rattle.p2p_discovery.proofs.Results.{OnErr-from}
use Rattle.p2p_tracker.specs.Private.Among.{left_keys, shared_with}
use Rattle.p2p_tracker.proofs.directory.infos.copy_among.Goals as goal

joined : {X : Type 0} (o : Option X) (xs : List X) → cons_option o xs ≡ option_to_list o ++ xs
joined None xs = refl
joined (Some x) xs = refl

-- what is left has as many as all, where no fewer were listed
some_of_all : {X : Type 0} (listed left first all : List X) → listed ++ left ≡ first ++ all →
    length first ≤ length listed → 0 < length left → 0 < length all
some_of_all listed left first all same grown some =
    omega (arith, some, grown, ap length same, length-append listed left, length-append first all)

some_more : {X : Type 0} (o : Option X) (xs : List X) → 0 < length (option_to_list o) → 0 < length (cons_option o xs)
some_more None xs some = absurd (omega (arith, some))
some_more (Some x) xs some = omega (arith)

pub loop-key-preserved : goal.loop-key-preserved
loop-key-preserved g c =
    let asked = shared_with g.C.Ord.cmp c.args.records.now c.args.millis c.args.peers.now c.args.bits.now in
    let key = c.in-Some.key.now in
    let left = left_keys g.C.Ord.cmp c.in_ok-own_left.own_left c.args.own.now (keys_of c.next.new.self) in
    let one = option_to_list (asked key) in
    let before = c.copy_own_before.new.infos.items in
    record {
      grown = omega (
        arith,
        c.loop-key.invariant.grown,
        c.in_ok-own_left.ensures.grown,
        ap length c.in_ok-copy_asked.ensures.infos,
        length-append before one,
      );
      listed =
          ap (λ is. is ++ filter_map asked left) c.in_ok-copy_asked.ensures.infos
          ∙ append_assoc before one (filter_map asked left)
          ∙ ap (λ is. before ++ is) (sym (joined (asked key) (filter_map asked left)))
          ∙ c.in_ok-own_left.ensures.infos (keys_of c.next.new.self)
          ∙ ap (λ es. c.loop-key.infos.items
          ++ filter_map asked (left_keys g.C.Ord.cmp c.loop-key.own_left c.args.own.now (keys_of es)))
          (sym c.in-Some.ensures.steps)
          ∙ c.loop-key.invariant.listed;
    }

pub returns-in_err-own_left-clause-err : goal.returns-in_err-own_left-clause-err
returns-in_err-own_left-clause-err g c =
    let asked = shared_with g.C.Ord.cmp c.args.records.now c.args.millis c.args.peers.now c.args.bits.now in
    OnErr-from c.from_residual.result
    (some_of_all c.loop-key.infos.items
    (filter_map asked (left_keys g.C.Ord.cmp c.loop-key.own_left c.args.own.now (c.in-Some.key.now ∷ keys_of c.next.new.self)))
    c.args.infos.now.items (filter_map asked (left_keys g.C.Ord.cmp true c.args.own.now (keys_of c.args.busy)))
    (ap (λ es. c.loop-key.infos.items
    ++ filter_map asked (left_keys g.C.Ord.cmp c.loop-key.own_left c.args.own.now (keys_of es)))
    (sym c.in-Some.ensures.steps)
    ∙ c.loop-key.invariant.listed)
    c.loop-key.invariant.grown (c.in_err-own_left.ensures.err (keys_of c.next.new.self)))

pub returns-in_err-copy_asked-clause-err : goal.returns-in_err-copy_asked-clause-err
returns-in_err-copy_asked-clause-err g c =
    let asked = shared_with g.C.Ord.cmp c.args.records.now c.args.millis c.args.peers.now c.args.bits.now in
    let left = left_keys g.C.Ord.cmp c.in_ok-own_left.own_left c.args.own.now (keys_of c.next.new.self) in
    OnErr-from c.from_residual-in_err-copy_asked.result
    (some_of_all c.copy_own_before.new.infos.items (filter_map asked (c.in-Some.key.now ∷ left))
    c.args.infos.now.items (filter_map asked (left_keys g.C.Ord.cmp true c.args.own.now (keys_of c.args.busy)))
    (c.in_ok-own_left.ensures.infos (keys_of c.next.new.self)
    ∙ ap (λ es. c.loop-key.infos.items
    ++ filter_map asked (left_keys g.C.Ord.cmp c.loop-key.own_left c.args.own.now (keys_of es)))
    (sym c.in-Some.ensures.steps)
    ∙ c.loop-key.invariant.listed)
    (omega (arith, c.loop-key.invariant.grown, c.in_ok-own_left.ensures.grown))
    (some_more (asked c.in-Some.key.now) (filter_map asked left) c.in_err-copy_asked.ensures.err))

pub returns-in_err-copy_asked-2-clause-err : goal.returns-in_err-copy_asked-2-clause-err
returns-in_err-copy_asked-2-clause-err g c =
    let asked = shared_with g.C.Ord.cmp c.args.records.now c.args.millis c.args.peers.now c.args.bits.now in
    OnErr-from c.from_residual-in_err-copy_asked-2.result
    (some_of_all c.loop-key.infos.items (filter_map asked (c.args.own.now ∷ []))
    c.args.infos.now.items (filter_map asked (left_keys g.C.Ord.cmp true c.args.own.now (keys_of c.args.busy)))
    ((λ i. c.loop-key.infos.items
    ++ filter_map asked (left_keys g.C.Ord.cmp (sym c.if-own_left.true i) c.args.own.now (keys_of (sym c.in-None.ensures.steps.0 i))))
    ∙ c.loop-key.invariant.listed)
    c.loop-key.invariant.grown (some_more (asked c.args.own.now) [] c.in_err-copy_asked-2.ensures.err))
