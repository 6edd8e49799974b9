use Rattle.std.proofs.Common.{arith}
use Rattle.p2p_session.proofs.Puts.{length_keys}
use Rattle.p2p_session.specs.Schemes.{scheme_by}
use Rattle.p2p_session.proofs.answer.ValuesPart.size.Goals as goal

pub returns-in-Keys : goal.returns-in-Keys
returns-in-Keys g c = rw c.in-Keys.is (rw (length_keys (scheme_by g.C.PartialOrd g.C.Ord g.C.PartialEq g.C.FixedBytes g.C.PublicKey g.C.Signature.PartialEq g.C.Signature.FixedBytes) g.met.C.FixedBytes.fixed c.in-Keys.keys.now) c.size_of_keys.ensures)

pub returns-in-Key : goal.returns-in-Key
returns-in-Key g c = rw c.in-Key.is (omega (arith, g.met.C.FixedBytes.fixed.len c.in-Key.field-0.now, g.met.C.FixedBytes.fixed.small))
