use Rattle.std.proofs.Common.{◌∙◌, sym, ap, length}
use Rattle.p2p_discovery.proofs.BitLists.{length_zip}
use Rattle.p2p_discovery.proofs.sets.bit_set.BitSet.len.Goals as goal

pub returns : goal.returns
returns g c = c.len.ensures ∙ sym (length_zip _ _ c.self.invariant) ∙ ap length c.self.view_is
