use Rattle.std.proofs.Common.{Ok, Some, [], refl, subst}
use Rattle.std.specs.Duration.{as_nanos}
use Rattle.p2p_tracker.specs.Calls.Call.{ForgetCooled}
use Rattle.p2p_directory.specs.declared.run.commands.Reply.TheVariants as reply
use Rattle.p2p_session.specs.Given.{and_then}
use Rattle.p2p_session.specs.Sessions.{Serves}
use Rattle.p2p_session.proofs.Direct.{changed}
use Rattle.p2p_session.proofs.session.Session.forget_cooled.Goals as goal
use Rattle.p2p_session.specs.Schemes.{scheme_by}

pub returns-in-Ok : goal.returns-in-Ok
returns-in-Ok g c =
    let v = c.in-Some.node in
    let v2 = c.forget_cooled.new.self in
    let n = c.forget_cooled.result in
    rw c.in-Some.is (subst (λ now. Serves (scheme_by g.C.PartialOrd g.C.Ord g.C.PartialEq g.C.FixedBytes g.C.PublicKey g.C.Signature.PartialEq g.C.Signature.FixedBytes) (and_then now (λ t. Ok (ForgetCooled t))) [] [] (Some v) (Some v2) n)
    c.in-Ok.ensures
    (changed (scheme_by g.C.PartialOrd g.C.Ord g.C.PartialEq g.C.FixedBytes g.C.PublicKey g.C.Signature.PartialEq g.C.Signature.FixedBytes) (ForgetCooled (as_nanos c.in-Ok.now)) (reply.ForgetCooled c.forget_cooled.result) v v2 n c.forget_cooled.ensures.stepped refl refl))
