use Rattle.p2p_directory.specs.Exchange.{exchanged_at}
use Rattle.p2p_directory.proofs.Nodes.Carried.{is_carried, carried_once}
use Rattle.p2p_directory.proofs.Nodes.ReadBack.{wire_in}
use Rattle.p2p_directory.proofs.laws.gossip.exchanges_are_carried.Goals as goal

pub returns-clause-carried : goal.returns-clause-carried
returns-clause-carried g c = λ verifies asker replier place s t can.
    is_carried g.met.C.FixedBytes.fixed g.met.C.Signature.FixedBytes.fixed verifies
    asker replier place s t can

pub returns-clause-only : goal.returns-clause-only
returns-clause-only g c = λ verifies asker replier place s t can o carried.
    let wire = wire_in verifies g.C.FixedBytes g.C.Signature.FixedBytes in
    carried_once wire asker replier place s t o (exchanged_at asker replier place s t) carried
    (is_carried g.met.C.FixedBytes.fixed g.met.C.Signature.FixedBytes.fixed verifies
    asker replier place s t can)
