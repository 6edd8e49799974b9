use Rattle.p2p_directory.proofs.Nodes.Frames.{frame_may_want_memory}
use Rattle.p2p_directory.specs.Nodes.{standing_in}
use Rattle.p2p_directory.specs.Run.{world_after}
use Rattle.p2p_directory.proofs.LawsOfGossip.Late
use Rattle.p2p_directory.proofs.Nodes.ReadBack.{wire_in}
use Rattle.p2p_directory.proofs.laws.gossip.infos_may_come_late.Goals as goal

pub returns : goal.returns
returns g c = λ verifies m made calls frame now r v received.
    let wire = wire_in verifies g.C.FixedBytes g.C.Signature.FixedBytes in
    Late.takes_late g.met.C.FixedBytes.fixed g.met.C.Signature.FixedBytes.fixed verifies g.C.Ord.cmp
    g.met.C.Ord.total g.met.C.PublicKey.exact m made calls frame now r
    (frame_may_want_memory wire (standing_in m wire (world_after m.directory calls)) frame now) received.answer
