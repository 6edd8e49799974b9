use Rattle.std.proofs.Common.{arith}
use Rattle.p2p_session.proofs.Puts.{length_asked}
use Rattle.p2p_session.proofs.answer.size_asked.Goals as goal
use Rattle.p2p_session.specs.Schemes.{scheme_by}

pub returns-clause-size : goal.returns-clause-size
returns-clause-size g c = omega (arith, length_asked (scheme_by g.C.PartialOrd g.C.Ord g.C.PartialEq g.C.FixedBytes g.C.PublicKey g.C.Signature.PartialEq g.C.Signature.FixedBytes) g.met.C.FixedBytes.fixed g.met.C.Signature.FixedBytes.fixed c.args.info.now, c.encode_size-signed.ensures.size)
