use Rattle.std.proofs.Common.{◌∙◌, sym, ap, length}
use Rattle.p2p_discovery.specs.Laws.Bits.{length-bits_in}
use Rattle.p2p_discovery.proofs.sets.bit_map.BitMap.len.Goals as goal

pub returns : goal.returns
returns c = sym (length-bits_in _ _) ∙ ap length c.self.view_is
