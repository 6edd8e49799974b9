use Rattle.p2p_directory.proofs.LawsOfNetworks.ExchangeFrames
use Rattle.p2p_directory.proofs.Nodes.Carried.{is_carried}
use Rattle.p2p_directory.proofs.Nodes.ReadBack.{wire_in}
use Rattle.p2p_directory.proofs.laws.gossip.frames_are_an_exchange.Goals as goal

pub returns-clause-run : goal.returns-clause-run
returns-clause-run g c = λ verifies size node n steps counted are vs run.
    let wire = wire_in verifies g.C.FixedBytes g.C.Signature.FixedBytes in
    ExchangeFrames.stays_run wire size node g.C.FixedBytes.IsValue
    g.C.Signature.FixedBytes.IsValue (λ a b place s t can.
    is_carried g.met.C.FixedBytes.fixed g.met.C.Signature.FixedBytes.fixed verifies a b place s t
    can) n steps counted are vs run

pub returns-clause-calls : goal.returns-clause-calls
returns-clause-calls g c = λ wire size node n steps counted are.
    ExchangeFrames.same_after wire size node g.C.FixedBytes.IsValue
    g.C.Signature.FixedBytes.IsValue n steps counted are
