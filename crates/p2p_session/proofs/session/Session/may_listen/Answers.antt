use Rattle.std.proofs.Common.{Ok, Some, [], subst}
use Rattle.std.specs.Duration.{as_nanos}
use Rattle.p2p_tracker.specs.Calls.Call.{Ask}
use Rattle.p2p_tracker.specs.Calls.Question.{MayListen}
use Rattle.p2p_directory.specs.declared.run.commands.Reply.TheVariants as reply
use Rattle.p2p_session.specs.Given.{and_then, moment_at}
use Rattle.p2p_session.specs.Sessions.{Serves}
use Rattle.p2p_session.proofs.Direct.{asked}
use Rattle.p2p_session.proofs.session.Session.may_listen.Goals as goal
use Rattle.p2p_session.specs.Schemes.{scheme_by}

pub returns-in-Some-Ok : goal.returns-in-Some-Ok
returns-in-Some-Ok g c =
    let v = c.in-Some.node in
    let p = c.in-Some-Ok.peer in
    let n = c.truth_of.result in
    rw c.in-Some.is
    (subst (λ k. Serves (scheme_by g.C.PartialOrd g.C.Ord g.C.PartialEq g.C.FixedBytes g.C.PublicKey g.C.Signature.PartialEq g.C.Signature.FixedBytes) (and_then k (λ q. and_then (moment_at c.args.seconds c.args.nanos) (λ t. Ok (Ask (MayListen q t))))) [] [] (Some v) (Some v) n)
    c.in-Some-Ok.ensures
    (subst (λ t. Serves (scheme_by g.C.PartialOrd g.C.Ord g.C.PartialEq g.C.FixedBytes g.C.PublicKey g.C.Signature.PartialEq g.C.Signature.FixedBytes) (and_then t (λ now. Ok (Ask (MayListen p now)))) [] [] (Some v) (Some v) n) c.in-Some-Ok.ensures'
    (asked (scheme_by g.C.PartialOrd g.C.Ord g.C.PartialEq g.C.FixedBytes g.C.PublicKey g.C.Signature.PartialEq g.C.Signature.FixedBytes) (Ask (MayListen p (as_nanos c.in-Some-Ok.now))) (reply.MayListen c.may_listen.result) v n c.may_listen.ensures c.truth_of.ensures)))
