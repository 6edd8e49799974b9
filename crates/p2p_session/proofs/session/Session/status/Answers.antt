use Rattle.std.proofs.Common.{Ok, Some, [], subst}
use Rattle.p2p_tracker.specs.Calls.Call.{Ask}
use Rattle.p2p_tracker.specs.Calls.Question.{StatusOf}
use Rattle.p2p_directory.specs.declared.run.commands.Reply.TheVariants as reply
use Rattle.p2p_session.specs.Given.{and_then}
use Rattle.p2p_session.specs.Sessions.{Serves}
use Rattle.p2p_session.proofs.Direct.{asked}
use Rattle.p2p_session.proofs.session.Session.status.Goals as goal
use Rattle.p2p_session.specs.Schemes.{scheme_by}

pub returns-in-Some-key : goal.returns-in-Some-key
returns-in-Some-key g c =
    let v = c.in-Some.node in
    let n = c.status_of.result in
    rw c.in-Some.is (subst (λ k. Serves (scheme_by g.C.PartialOrd g.C.Ord g.C.PartialEq g.C.FixedBytes g.C.PublicKey g.C.Signature.PartialEq g.C.Signature.FixedBytes) (and_then k (λ p. Ok (Ask (StatusOf p)))) [] [] (Some v) (Some v) n) c.in-Some-key.ensures
    (asked (scheme_by g.C.PartialOrd g.C.Ord g.C.PartialEq g.C.FixedBytes g.C.PublicKey g.C.Signature.PartialEq g.C.Signature.FixedBytes) (Ask (StatusOf c.in-Some-key.peer)) (reply.Status c.status.result) v n c.status.ensures c.status_of.ensures))
