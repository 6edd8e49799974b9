use Rattle.std.proofs.Common.{◌∙◌, sym, ap}
use Rattle.p2p_discovery.specs.Reading.{IsBytes}
use Rattle.p2p_discovery.specs.Bits.{packed}
use Rattle.p2p_discovery.specs.Laws.Bits.{packed-bits_in}
use Rattle.p2p_discovery.proofs.sets.bit_map.BitMap.as_bytes.Goals as goal

pub returns : goal.returns
returns c =
    let fits : IsBytes c.self.inside.bytes.items = rw c.deref.ensures.value at c.are_bytes.ensures in
    c.deref-2.ensures.value ∙ sym (packed-bits_in c.self.inside.len c.self.inside.bytes.items fits c.self.invariant) ∙ ap packed c.self.view_is
