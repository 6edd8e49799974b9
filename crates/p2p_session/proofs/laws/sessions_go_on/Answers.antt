use Rattle.p2p_session.specs.Schemes.{scheme_by}
use Rattle.p2p_session.proofs.Served.{requested, sessions}
use Rattle.p2p_session.proofs.Steps.{are_run}
use Rattle.p2p_session.proofs.laws.sessions_go_on.Goals as goal

pub returns-clause-requested : goal.returns-clause-requested
returns-clause-requested g c =
    requested (scheme_by g.C.PartialOrd g.C.Ord g.C.PartialEq g.C.FixedBytes g.C.PublicKey
    g.C.Signature.PartialEq g.C.Signature.FixedBytes)

pub returns-clause-steps : goal.returns-clause-steps
returns-clause-steps g c =
    are_run (scheme_by g.C.PartialOrd g.C.Ord g.C.PartialEq g.C.FixedBytes g.C.PublicKey
    g.C.Signature.PartialEq g.C.Signature.FixedBytes) g.met.C.PublicKey.exact g.met.C.Ord.total

pub returns-clause-sessions : goal.returns-clause-sessions
returns-clause-sessions g c =
    sessions (scheme_by g.C.PartialOrd g.C.Ord g.C.PartialEq g.C.FixedBytes g.C.PublicKey
    g.C.Signature.PartialEq g.C.Signature.FixedBytes) g.met.C.PublicKey.exact g.met.C.Ord.total
