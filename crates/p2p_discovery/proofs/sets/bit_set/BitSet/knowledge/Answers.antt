use Rattle.std.proofs.Common.{◌∙◌, sym, ap}
use Rattle.std.specs.Map.{values_of}
use Rattle.p2p_discovery.proofs.BitLists.{bits_zip}
use Rattle.p2p_discovery.proofs.sets.bit_set.BitSet.knowledge.Goals as goal

pub returns : goal.returns
returns g c =
    let bits = sym (bits_zip c.self.inside.ordered c.self.inside.knowledge c.self.invariant) ∙ ap values_of c.self.view_is in
    rw (← bits) c.clone.ensures
