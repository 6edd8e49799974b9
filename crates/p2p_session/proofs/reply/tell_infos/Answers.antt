use Rattle.std.proofs.Common.{subst, inr}
use Rattle.p2p_session.specs.Answers.{IsAnswered}
use Rattle.p2p_session.proofs.Puts.{list_is}
use Rattle.p2p_session.proofs.reply.tell_infos.Goals as goal
use Rattle.p2p_session.specs.Schemes.{scheme_by}

pub returns-in-Ok : goal.returns-in-Ok
returns-in-Ok g c = inr (subst (λ bytes. IsAnswered bytes c.args.out.now c.answer.new.out c.answer.result)
    (list_is (scheme_by g.C.PartialOrd g.C.Ord g.C.PartialEq g.C.FixedBytes g.C.PublicKey g.C.Signature.PartialEq g.C.Signature.FixedBytes) c.args.infos.now c.in-Ok.count c.in-Ok.ensures.1) c.answer.ensures)
