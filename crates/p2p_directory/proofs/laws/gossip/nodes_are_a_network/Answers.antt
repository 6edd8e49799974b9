use Rattle.p2p_directory.proofs.LawsOfNetworks.InTurn.{is_run}
use Rattle.p2p_directory.proofs.laws.gossip.nodes_are_a_network.Goals as goal

pub returns : goal.returns
returns g c = λ wire setups steps vs vs2 other stand served.
    is_run g.C.Ord.cmp wire setups other steps vs vs2 stand served
