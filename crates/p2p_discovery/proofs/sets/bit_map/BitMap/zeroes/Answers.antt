use Rattle.std.proofs.Common.{rules}
use Rattle.p2p_discovery.proofs.BitMaps.{no_bits}
use Rattle.p2p_discovery.proofs.sets.bit_map.BitMap.zeroes.Goals as goal

pub returns : goal.returns
returns c = (no_bits c.in_ok-bytes.bytes.items c.bytes_for.result c.args.n
    (c.in_ok-bytes.ensures.items_if_clones_equal (search rules)) c.bytes_for.ensures).bits
