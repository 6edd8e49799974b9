use Rattle.std.proofs.Common.{rules, refl, sym, ◌∙◌, ap, not}
use Rattle.std.specs.Duration.{as_nanos}
use Rattle.p2p_tracker.specs.Blocks.{in_nanos}
use Rattle.p2p_tracker.specs.Private.Expirations.{end_in_nanos}
use Rattle.p2p_tracker.proofs.SetsAndRecords.Blocks.{blocked_as, unblock_after}
use Rattle.p2p_tracker.proofs.SetsAndRecords.Expirations.{first_stays}
use Rattle.p2p_tracker.proofs.kept.blocks.put_block.Goals as goal

pub returns-in_err-put_end-clause-untaken : goal.returns-in_err-put_end-clause-untaken
returns-in_err-put_end-clause-untaken g c = λ blocked.
    absurd (
    let f = sym c.in_err-put_end.was ∙ c.put_end.ensures.untaken
    (blocked_as g.C.Ord.cmp c.args.moments.now.entries c.args.key (as_nanos c.args.now) ∙ blocked) in
    cc
    )

pub returns-then-not-branch-clause-answer : goal.returns-then-not-branch-clause-answer
returns-then-not-branch-clause-answer g c =
    sym c.if-not-branch.true ∙ c.in_ok-put_end.ensures.answer
    ∙ ap not (blocked_as g.C.Ord.cmp c.args.moments.now.entries c.args.key (as_nanos c.args.now))

pub first_to_end-requires : goal.first_to_end-requires
first_to_end-requires g c =
    c.in_ok-put_end.ensures.expirations (search rules) (in_nanos c.put_end.new.moments.entries)
    (unblock_after g.C.Ord.cmp c.args.moments.now.entries c.put_end.new.moments.entries
    (in_nanos c.args.moments.now.entries) c.args.key c.args.until refl (c.in_ok-put_end.ensures.taken (search rules)))

pub returns-then-not-stays_first-clause-kept : goal.returns-then-not-stays_first-clause-kept
returns-then-not-stays_first-clause-kept g c = record {
  both = c.in_ok-put_end.ensures.expirations (search rules) (in_nanos c.put_end.new.moments.entries)
      (unblock_after g.C.Ord.cmp c.args.moments.now.entries c.put_end.new.moments.entries
      (in_nanos c.args.moments.now.entries) c.args.key c.args.until refl (c.in_ok-put_end.ensures.taken (search rules)));
  front = c.first_to_end.ensures;
}

pub returns-then-not-stays_first-clause-answer : goal.returns-then-not-stays_first-clause-answer
returns-then-not-stays_first-clause-answer g c =
    sym c.if-not-branch.false ∙ c.in_ok-put_end.ensures.answer
    ∙ ap not (blocked_as g.C.Ord.cmp c.args.moments.now.entries c.args.key (as_nanos c.args.now))

pub returns-else-not-stays_first-clause-kept : goal.returns-else-not-stays_first-clause-kept
returns-else-not-stays_first-clause-kept g c =
    let put = unblock_after g.C.Ord.cmp c.args.moments.now.entries c.put_end.new.moments.entries
    (in_nanos c.args.moments.now.entries) c.args.key c.args.until refl (c.in_ok-put_end.ensures.taken (search rules)) in
    record {
      both = c.in_ok-put_end.ensures.expirations (search rules) (in_nanos c.put_end.new.moments.entries) put;
      front = first_stays g.met.C.PublicKey.exact (in_nanos c.args.moments.now.entries) (in_nanos c.put_end.new.moments.entries) c.args.key
          (as_nanos c.args.until) (end_in_nanos c.args.first.now) put c.requires.front
          (c.if-not-stays_first.ensures.some refl) (c.if-not-stays_first.ensures.behind refl);
    }

pub returns-else-not-stays_first-clause-answer : goal.returns-else-not-stays_first-clause-answer
returns-else-not-stays_first-clause-answer g c =
    sym c.if-not-branch.false ∙ c.in_ok-put_end.ensures.answer
    ∙ ap not (blocked_as g.C.Ord.cmp c.args.moments.now.entries c.args.key (as_nanos c.args.now))

pub returns-then-not-stays_first-clause-taken : goal.returns-then-not-stays_first-clause-taken
returns-then-not-stays_first-clause-taken g c = λ _.
    unblock_after g.C.Ord.cmp c.args.moments.now.entries c.put_end.new.moments.entries
    (in_nanos c.args.moments.now.entries) c.args.key c.args.until refl (c.in_ok-put_end.ensures.taken (search rules))

pub returns-else-not-stays_first-clause-taken : goal.returns-else-not-stays_first-clause-taken
returns-else-not-stays_first-clause-taken g c = λ _.
    unblock_after g.C.Ord.cmp c.args.moments.now.entries c.put_end.new.moments.entries
    (in_nanos c.args.moments.now.entries) c.args.key c.args.until refl (c.in_ok-put_end.ensures.taken (search rules))

pub returns-then-not-stays_first-clause-untaken : goal.returns-then-not-stays_first-clause-untaken
returns-then-not-stays_first-clause-untaken g c = λ blocked.
    absurd (
    let f = sym c.if-not-branch.false ∙ c.in_ok-put_end.ensures.answer
    ∙ ap not (blocked_as g.C.Ord.cmp c.args.moments.now.entries c.args.key (as_nanos c.args.now) ∙ blocked) in
    cc
    )

pub returns-else-not-stays_first-clause-untaken : goal.returns-else-not-stays_first-clause-untaken
returns-else-not-stays_first-clause-untaken g c = λ blocked.
    absurd (
    let f = sym c.if-not-branch.false ∙ c.in_ok-put_end.ensures.answer
    ∙ ap not (blocked_as g.C.Ord.cmp c.args.moments.now.entries c.args.key (as_nanos c.args.now) ∙ blocked) in
    cc
    )
