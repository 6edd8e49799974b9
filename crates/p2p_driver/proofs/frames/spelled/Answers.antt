use Rattle.std.proofs.Common.{subst}
use Rattle.p2p_discovery.specs.Reading.{IsBytes}
use Rattle.p2p_driver.proofs.Payloads.{spelled_by}
use Rattle.p2p_driver.proofs.frames.spelled.Goals as goal

pub returns : goal.returns
returns g c = spelled_by g.met.C.FixedBytes.fixed g.met.C.Signature.FixedBytes.fixed c.args.decoded.now.limits
    c.args.decoded.now.frame c.args.decoded.now.payload (subst IsBytes c.frame.ensures c.are_bytes.ensures) c.payload-payload.ensures.decoded
