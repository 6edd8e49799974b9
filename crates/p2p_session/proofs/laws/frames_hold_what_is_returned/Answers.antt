use Rattle.p2p_session.proofs.Heard.{greeting_encodes, message_ends}
use Rattle.p2p_session.proofs.laws.frames_hold_what_is_returned.Goals as goal
use Rattle.p2p_session.specs.Schemes.{scheme_by}

pub returns-clause-message : goal.returns-clause-message
returns-clause-message g c = λ verdicts frame now v v2 d bytes h. message_ends (scheme_by g.C.PartialOrd g.C.Ord g.C.PartialEq g.C.FixedBytes g.C.PublicKey g.C.Signature.PartialEq g.C.Signature.FixedBytes) g.met.C.FixedBytes.fixed g.met.C.Signature.FixedBytes.fixed verdicts frame now v v2 bytes d h.seen

pub returns-clause-greeting : goal.returns-clause-greeting
returns-clause-greeting g c = λ verdicts frame now v v2 key bytes h. greeting_encodes (scheme_by g.C.PartialOrd g.C.Ord g.C.PartialEq g.C.FixedBytes g.C.PublicKey g.C.Signature.PartialEq g.C.Signature.FixedBytes) g.met.C.FixedBytes.fixed g.met.C.Signature.FixedBytes.fixed verdicts frame now v v2 bytes key h.seen
