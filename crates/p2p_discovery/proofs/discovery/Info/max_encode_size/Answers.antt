use Rattle.p2p_discovery.proofs.Lengths.{info_short}
use Rattle.p2p_discovery.proofs.discovery.Info.max_encode_size.Goals as goal

pub returns-clause-bound : goal.returns-clause-bound
returns-clause-bound g c = λ i is.
    let l = info_short g.met.C.FixedBytes.fixed g.met.C.Signature.FixedBytes.fixed i is in
    rw (c.SIZE.ensures, c.SIZE-2.ensures) l
