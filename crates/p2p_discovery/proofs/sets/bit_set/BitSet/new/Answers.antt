use Rattle.p2p_discovery.proofs.BitLists.{zip_unset}
use Rattle.p2p_discovery.proofs.sets.bit_set.BitSet.new.Goals as goal

pub returns : goal.returns
returns g c = rw (c.in_ok-knowledge.ensures, c.len.ensures) (zip_unset _)
