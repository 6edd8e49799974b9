use Rattle.p2p_session.proofs.Spellings.{spelled_once}
use Rattle.p2p_session.proofs.laws.requests_have_one_encoding.Goals as goal
use Rattle.p2p_session.specs.Schemes.{scheme_by}

pub returns : goal.returns
returns g c = spelled_once (scheme_by g.C.PartialOrd g.C.Ord g.C.PartialEq g.C.FixedBytes g.C.PublicKey g.C.Signature.PartialEq g.C.Signature.FixedBytes) g.met.C.FixedBytes.fixed
