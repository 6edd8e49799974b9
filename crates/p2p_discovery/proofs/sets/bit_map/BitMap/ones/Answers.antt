use Rattle.std.proofs.Common.{rules, arith}
use Rattle.p2p_discovery.proofs.BitMaps.{whole_ones, cut_ones}
use Rattle.p2p_discovery.proofs.sets.bit_map.BitMap.ones.Goals as goal

pub returns-then-n-eq0 : goal.returns-then-n-eq0
returns-then-n-eq0 c =
    (whole_ones c.in_ok-bytes.bytes.items c.bytes_for.result c.args.n
    (c.in_ok-bytes.ensures.items_if_clones_equal (search rules)) c.bytes_for.ensures (omega arith)).bits

pub invariant_of-result-2 : goal.invariant_of-result-2
invariant_of-result-2 c =
    (cut_ones c.in_ok-bytes.bytes.items c.bytes_for.result c.args.n
    (c.in_ok-bytes.ensures.items_if_clones_equal (search rules)) c.bytes_for.ensures
    (λ z. absurd (omega (arith, z)))).packed

pub returns : goal.returns
returns c = (cut_ones c.in_ok-bytes.bytes.items c.bytes_for.result c.args.n
    (c.in_ok-bytes.ensures.items_if_clones_equal (search rules)) c.bytes_for.ensures
    (λ z. absurd (omega (arith, z)))).bits
