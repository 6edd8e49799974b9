use Rattle.std.proofs.Common.{ℕ, refl, ap, arith}
use Rattle.std.specs.List.{count_by}
use Rattle.p2p_driver.specs.Arrivals.{is_unclaimed}
use Rattle.p2p_driver.proofs.Fewer.{goes_one_less, claims_one_less, found_some, closes_room}
use Rattle.p2p_driver.proofs.streams.claim.Goals as goal

pub answer-requires : goal.answer-requires
answer-requires g c = let less = goes_one_less c.args.stream.number c.args.peer c.args.arrivals.now c.args.stream
    c.requires.there c.requires.unclaimed in let fits = c.requires.answers_fit in grind (arith)

pub returns-then-answer-clause-claimed : goal.returns-then-answer-clause-claimed
returns-then-answer-clause-claimed g c = λ _. (
  c.if-not-may.false,
  c.claim.ensures,
  refl,
  λ claims kept. c.answer.ensures.answered c.if-answer.true claims kept,
)

pub returns-then-answer-clause-answers_room : goal.returns-then-answer-clause-answers_room
returns-then-answer-clause-answers_room g c = let less = claims_one_less c.args.stream.number c.args.peer
    c.args.arrivals.now c.args.stream c.requires.there c.requires.unclaimed in
    let fits = c.requires.answers_fit in let room = c.answer.ensures.room in
    let same = ap {B = ℕ} (λ xs. count_by is_unclaimed xs) c.claim.ensures in grind (arith)

pub returns-clause-closed : goal.returns-clause-closed
returns-clause-closed g c = (
  c.remove.ensures,
  c.push.ensures.items,
  λ claims kept. let refused = c.answer.ensures.refused c.if-answer.false claims kept in
      ((c.if-not-may.false, refused.0), refused.1),
)

pub returns-clause-actions_room : goal.returns-clause-actions_room
returns-clause-actions_room g c = closes_room c.args.stream.number c.args.arrivals.now c.remove.new.self _ _
    c.remove.ensures (found_some _ c.args.stream c.requires.there) c.push.ensures.room

pub returns-clause-answers_room : goal.returns-clause-answers_room
returns-clause-answers_room g c = let less = goes_one_less c.args.stream.number c.args.peer
    c.args.arrivals.now c.args.stream c.requires.there c.requires.unclaimed in
    let fits = c.requires.answers_fit in let room = c.answer.ensures.room in
    let same = ap {B = ℕ} (λ xs. count_by is_unclaimed xs) c.remove.ensures in grind (arith)
