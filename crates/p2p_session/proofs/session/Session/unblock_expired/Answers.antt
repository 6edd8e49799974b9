use Rattle.std.proofs.Common.{Ok, Some, [], refl, subst}
use Rattle.std.specs.Duration.{as_nanos}
use Rattle.p2p_tracker.specs.Calls.Call.{UnblockExpired}
use Rattle.p2p_directory.specs.declared.run.commands.Reply.TheVariants as reply
use Rattle.p2p_session.specs.Given.{and_then}
use Rattle.p2p_session.specs.Sessions.{Serves}
use Rattle.p2p_session.proofs.Direct.{changed}
use Rattle.p2p_session.proofs.session.Session.unblock_expired.Goals as goal
use Rattle.p2p_session.specs.Schemes.{scheme_by}

pub returns-in-Ok : goal.returns-in-Ok
returns-in-Ok g c =
    let v = c.in-Some.node in
    let v2 = c.unblock_expired.new.self in
    let n = c.truth_of.result in
    rw c.in-Some.is (subst (λ now. Serves (scheme_by g.C.PartialOrd g.C.Ord g.C.PartialEq g.C.FixedBytes g.C.PublicKey g.C.Signature.PartialEq g.C.Signature.FixedBytes) (and_then now (λ t. Ok (UnblockExpired t))) [] [] (Some v) (Some v2) n)
    c.in-Ok.ensures
    (changed (scheme_by g.C.PartialOrd g.C.Ord g.C.PartialEq g.C.FixedBytes g.C.PublicKey g.C.Signature.PartialEq g.C.Signature.FixedBytes) (UnblockExpired (as_nanos c.in-Ok.now)) (reply.UnblockExpired c.unblock_expired.result) v v2 n c.unblock_expired.ensures.stepped refl c.truth_of.ensures))
