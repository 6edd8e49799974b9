use Rattle.std.proofs.Common.{arith}
use Rattle.p2p_discovery.specs.Laws.Bits.{packed_unpadded}
use Rattle.p2p_discovery.proofs.sets.bit_map.BitMap.from_bytes.Goals as goal

pub invariant_of-result : goal.invariant_of-result
invariant_of-result c = rw (c.in_ok-extend_from_slice.ensures.items, c.in_ok-stored.ensures.items)
    (packed_unpadded c.args.n c.args.bytes.now c.requires
    (omega (arith, c.padding_in.ensures, c.if-padding_in-ne0.false)))
