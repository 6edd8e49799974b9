use Rattle.std.proofs.Common.{◌≡◌, ◌&&◌, ◌++◌, ◌∷◌, [], drop, length, sym, ◌∙◌, ap, arith, append_assoc, true, false}
use Rattle.std.specs.List.{filter}
use Rattle.std.proofs.lemmas.List.{length-append, append-nil}
use Rattle.std.proofs.lemmas.List.Sums.{length-filter, count_by-le-length}
use Rattle.p2p_tracker.specs.Private.Counts.{is_torn_down_without}
use Rattle.p2p_tracker.proofs.SetsAndRecords.Naming.{sorted_drop}
use Rattle.p2p_tracker.proofs.SetsAndRecords.Walked.{passes_in, none_listed, ordered_left, left_listed, left_unlisted}
use Rattle.p2p_tracker.proofs.directory.records.walks.list_torn.Goals.{else-is_torn_down_without-via-then-is_torn_down_without+else-meet, else-is_torn_down_without-via-else-is_torn_down_without}
use Rattle.p2p_tracker.proofs.directory.records.walks.list_torn.Goals as goal

pub push_reserved-requires : goal.push_reserved-requires
push_reserved-requires g c =
    let cmp = g.C.Ord.cmp in
    let test = is_torn_down_without c.args.role in
    let here = filter (passes_in cmp test c.loop-key.key-iterator) (drop c.loop-key.at c.args.peers.now) in
    let rest = filter (passes_in cmp test c.next.new.self) (drop c.meet.new.at c.args.peers.now) in
    let all = filter (passes_in cmp test c.args.map.now.entries) c.args.peers.now in
    let met : here ≡ c.in-Some.key.now ∷ rest =
    left_listed g.met.C.Ord.total g.met.C.PublicKey.exact test c.loop-key.key-iterator c.next.new.self
    (c.in-Some.key.now, c.in-Some.found.now) c.in-Some.ensures.steps c.loop-key.invariant.ordered
    (drop c.loop-key.at c.args.peers.now) (drop c.meet.new.at c.args.peers.now)
    (sorted_drop cmp c.loop-key.at c.args.peers.now c.meet.ensures.sorted) c.meet.ensures.rest true
    (λ i. ((sym c.meet.ensures.met ∙ c.if-meet.true) i)
    && ((sym c.is_torn_down_without.ensures ∙ c.if-is_torn_down_without.true) i)) in
    omega (
      arith,
      c.loop-key.torn.ok.0,
      ap length met,
      ap length c.loop-key.invariant.listed,
      length-append c.loop-key.torn.items here,
      length-append c.args.torn.now.items all,
      length-filter (passes_in cmp test c.args.map.now.entries) c.args.peers.now,
      count_by-le-length (passes_in cmp test c.args.map.now.entries) c.args.peers.now,
      c.requires.room,
      c.loop-key.invariant.capacity,
    )

pub loop-key-preserved-then-meet : goal.loop-key-preserved-then-meet
loop-key-preserved-then-meet g c =
    let cmp = g.C.Ord.cmp in
    let test = is_torn_down_without c.args.role in
    let rest = filter (passes_in cmp test c.next.new.self) (drop c.meet.new.at c.args.peers.now) in
    record {
      ordered = ordered_left g.met.C.Ord.total g.met.C.PublicKey.exact test c.loop-key.key-iterator c.next.new.self
          (c.in-Some.key.now, c.in-Some.found.now) c.in-Some.ensures.steps c.loop-key.invariant.ordered;
      listed =
          ap (λ is. is ++ rest) c.push_reserved.ensures.items
          ∙ append_assoc c.loop-key.torn.items (c.in-Some.key.now ∷ []) rest
          ∙ ap (λ is. c.loop-key.torn.items ++ is)
          (sym (left_listed g.met.C.Ord.total g.met.C.PublicKey.exact test c.loop-key.key-iterator c.next.new.self
          (c.in-Some.key.now, c.in-Some.found.now) c.in-Some.ensures.steps c.loop-key.invariant.ordered
          (drop c.loop-key.at c.args.peers.now) (drop c.meet.new.at c.args.peers.now)
          (sorted_drop cmp c.loop-key.at c.args.peers.now c.meet.ensures.sorted) c.meet.ensures.rest true
          (λ i. ((sym c.meet.ensures.met ∙ c.if-meet.true) i)
          && ((sym c.is_torn_down_without.ensures ∙ c.if-is_torn_down_without.true) i))))
          ∙ c.loop-key.invariant.listed;
      capacity = c.push_reserved.ensures.capacity ∙ c.loop-key.invariant.capacity;
    }

pub loop-key-preserved : goal.loop-key-preserved
loop-key-preserved g c =
    let cmp = g.C.Ord.cmp in
    let test = is_torn_down_without c.args.role in
    let missed : filter (passes_in cmp test c.loop-key.key-iterator) (drop c.loop-key.at c.args.peers.now)
    ≡ filter (passes_in cmp test c.next.new.self) (drop c.else-is_torn_down_without.at c.args.peers.now) =
    elim c.else-is_torn_down_without.branch [
      | else-is_torn_down_without-via-then-is_torn_down_without+else-meet w ↦
          left_listed g.met.C.Ord.total g.met.C.PublicKey.exact test c.loop-key.key-iterator c.next.new.self
          (c.in-Some.key.now, c.in-Some.found.now) c.in-Some.ensures.steps c.loop-key.invariant.ordered
          (drop c.loop-key.at c.args.peers.now) (drop w.meet.new.at c.args.peers.now)
          (sorted_drop cmp c.loop-key.at c.args.peers.now w.meet.ensures.sorted) w.meet.ensures.rest false
          (ap (λ b. b && test c.in-Some.found.now) (sym w.meet.ensures.met ∙ w.if-meet.false))
          ∙ ap (λ at. filter (passes_in cmp test c.next.new.self) (drop at c.args.peers.now)) (sym w.at-is)
      | else-is_torn_down_without-via-else-is_torn_down_without w ↦
          left_unlisted g.met.C.Ord.total g.met.C.PublicKey.exact test c.loop-key.key-iterator c.next.new.self
          (c.in-Some.key.now, c.in-Some.found.now) c.in-Some.ensures.steps c.loop-key.invariant.ordered
          (drop c.loop-key.at c.args.peers.now)
          (sym c.is_torn_down_without.ensures ∙ w.if-is_torn_down_without.false)
          ∙ ap (λ at. filter (passes_in cmp test c.next.new.self) (drop at c.args.peers.now)) (sym w.at-is)
    ] in
    record {
      ordered = ordered_left g.met.C.Ord.total g.met.C.PublicKey.exact test c.loop-key.key-iterator c.next.new.self
          (c.in-Some.key.now, c.in-Some.found.now) c.in-Some.ensures.steps c.loop-key.invariant.ordered;
      listed = ap (λ is. c.loop-key.torn.items ++ is) (sym missed) ∙ c.loop-key.invariant.listed;
      capacity = c.loop-key.invariant.capacity;
    }

pub returns-clause-torn : goal.returns-clause-torn
returns-clause-torn g c =
    let test = is_torn_down_without c.args.role in
    let ks = drop c.loop-key.at c.args.peers.now in
    let none = ap (λ es. filter (passes_in g.C.Ord.cmp test es) ks) c.in-None.ensures.steps.0 ∙ none_listed g.C.Ord.cmp test ks in
    sym (append-nil c.loop-key.torn.items) ∙ ap (λ is. c.loop-key.torn.items ++ is) (sym none) ∙ c.loop-key.invariant.listed

pub returns-clause-length : goal.returns-clause-length
returns-clause-length g c =
    let passes = passes_in g.C.Ord.cmp (is_torn_down_without c.args.role) c.args.map.now.entries in
    omega (
      arith,
      ap length (returns-clause-torn g c),
      length-append c.args.torn.now.items (filter passes c.args.peers.now),
      length-filter passes c.args.peers.now,
      count_by-le-length passes c.args.peers.now,
    )
