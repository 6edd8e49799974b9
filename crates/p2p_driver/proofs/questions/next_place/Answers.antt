use Rattle.std.proofs.Common.{◌≡◌, ◌∙◌, ◌+◌, ℕ, suc, find, drop, ap, sym, arith}
use Rattle.p2p_tracker.specs.PeerSets.{is_above}
use Rattle.p2p_driver.specs.Questions.{is_some_above}
use Rattle.p2p_driver.proofs.Turns.{passed, turn}
use Rattle.p2p_driver.proofs.questions.next_place.Goals as goal

one_more : (k : ℕ) → suc k ≡ k + 1
one_more k = omega arith

pub loop-place-preserved : goal.loop-place-preserved
loop-place-preserved g c = c.loop-place.invariant
    ∙ passed c.args.last c.args.directory.now.sets c.loop-place.place
    (ap (is_some_above c.args.last) (sym c.set_index.ensures) ∙ sym c.is_above.ensures ∙ c.if-is_above.false)
    ∙ ap (λ n. find (λ x. is_above x.index c.args.last) (drop n c.args.directory.now.sets)) (one_more c.loop-place.place)

pub returns-then-is_above : goal.returns-then-is_above
returns-then-is_above g c = turn c.args.last c.args.directory.now.sets c.loop-place.place c.loop-place.invariant
    (ap (is_some_above c.args.last) (sym c.set_index.ensures) ∙ sym c.is_above.ensures ∙ c.if-is_above.true)
