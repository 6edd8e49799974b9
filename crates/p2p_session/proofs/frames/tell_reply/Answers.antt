use Rattle.std.proofs.Common.{◌∷◌, subst, refl}
use Rattle.p2p_session.specs.Answers.{IsAnswered}
use Rattle.p2p_session.proofs.Puts.{list_is}
use Rattle.p2p_session.proofs.frames.tell_reply.Goals as goal
use Rattle.p2p_session.specs.Schemes.{scheme_by}

pub returns : goal.returns
returns g c = subst (λ bytes. IsAnswered (2 ∷ 3 ∷ bytes) c.args.out.now c.answer.new.out c.answer.result)
    (list_is (scheme_by g.C.PartialOrd g.C.Ord g.C.PartialEq g.C.FixedBytes g.C.PublicKey g.C.Signature.PartialEq g.C.Signature.FixedBytes) c.args.infos.now _ refl) c.answer.ensures
