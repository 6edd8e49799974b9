use Rattle.std.specs.Prelude.{length}
use Rattle.p2p_directory.specs.Laws.InTurn.{not_refused}
use Rattle.p2p_directory.specs.Network.{node_made}
use Rattle.p2p_session.specs.Networks.{network_steps, judged_wire}
use Rattle.p2p_directory.proofs.LawsOfNetworks.ExchangeFrames.{stays_run}
use Rattle.p2p_directory.proofs.Nodes.Carried.{is_carried}
use Rattle.p2p_session.specs.Schemes.{scheme_by}
use Rattle.p2p_session.proofs.Networks.{are_network, are_made, laws_hold, is_something}
use Rattle.p2p_session.proofs.laws.sessions_are_a_network.Goals as goal

pub returns-clause-run : goal.returns-clause-run
returns-clause-run g c = λ verifies inits setups calls vs vs2 made called other.
    are_network (scheme_by g.C.PartialOrd g.C.Ord g.C.PartialEq g.C.FixedBytes g.C.PublicKey
    g.C.Signature.PartialEq g.C.Signature.FixedBytes) verifies setups other inits calls vs vs2 made
    called

pub returns-clause-laws : goal.returns-clause-laws
returns-clause-laws g c = λ verifies inits setups calls vs vs2 n counted made called
    other are.
    let k = scheme_by g.C.PartialOrd g.C.Ord g.C.PartialEq g.C.FixedBytes g.C.PublicKey
    g.C.Signature.PartialEq g.C.Signature.FixedBytes in
    let w = judged_wire k verifies in
    let size = length setups in
    let node = node_made g.C.Ord.cmp other setups in
    laws_hold g.met.C.FixedBytes.fixed g.met.C.Signature.FixedBytes.fixed verifies size node
    g.C.Ord.cmp g.met.C.Ord.total g.met.C.PublicKey.exact counted
    (are_made k verifies setups other w)
    (stays_run w size node g.C.FixedBytes.IsValue g.C.Signature.FixedBytes.IsValue
    (is_carried g.met.C.FixedBytes.fixed g.met.C.Signature.FixedBytes.fixed verifies) n
    (not_refused (network_steps calls)) counted are vs2
    (are_network k verifies setups other inits calls vs vs2 made called)).answers

pub returns-clause-each : goal.returns-clause-each
returns-clause-each g c = λ verifies i call v v2 goes short told.
    is_something (scheme_by g.C.PartialOrd g.C.Ord g.C.PartialEq g.C.FixedBytes g.C.PublicKey
    g.C.Signature.PartialEq g.C.Signature.FixedBytes) verifies i call v v2 goes short told
