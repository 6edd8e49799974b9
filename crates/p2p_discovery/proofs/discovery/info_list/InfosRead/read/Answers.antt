use Rattle.p2p_discovery.proofs.Lengths.{info_long}
use Rattle.p2p_discovery.proofs.discovery.info_list.InfosRead.read.Goals as goal

pub read_infos-requires-clause-least : goal.read_infos-requires-clause-least
read_infos-requires-clause-least g c = λ i is.
    let l = info_long g.met.C.FixedBytes.fixed g.met.C.Signature.FixedBytes.fixed i is in
    rw (c.SIZE.ensures, c.SIZE-2.ensures) l
