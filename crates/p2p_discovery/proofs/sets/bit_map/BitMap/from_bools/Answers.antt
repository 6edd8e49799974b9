use Rattle.std.proofs.Common.{arith, ◌∙◌, ap, set, get_or, refl, false}
use Rattle.p2p_discovery.proofs.BitMaps.{next_value}
use Rattle.p2p_discovery.proofs.sets.bit_map.BitMap.from_bools.Goals as goal

pub loop-place-preserved : goal.loop-place-preserved
loop-place-preserved c =
    c.set.ensures ∙ ap (λ bits. set bits c.loop-place.place (get_or c.args.values.now c.loop-place.place false)) c.loop-place.invariant
    ∙ next_value c.args.values.now c.loop-place.place (get_or c.args.values.now c.loop-place.place false) (omega arith) refl
