use Rattle.std.proofs.Common.{◌∙◌, sym, ap}
use Rattle.std.specs.Map.{keys_of}
use Rattle.p2p_discovery.proofs.BitLists.{peers_zip}
use Rattle.p2p_discovery.proofs.sets.bit_set.BitSet.ordered.Goals as goal

pub returns : goal.returns
returns g c = sym (peers_zip c.self.inside.ordered c.self.inside.knowledge c.self.invariant) ∙ ap keys_of c.self.view_is
