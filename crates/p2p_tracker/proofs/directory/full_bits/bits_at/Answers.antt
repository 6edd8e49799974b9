use Rattle.std.proofs.Common.{◌≡◌, ◌++◌, ◌-◌, ◌<◌, ◌+◌, length, take, map, replicate, set, get_or, refl, sym, ◌∙◌, ap, false, arith}
use Rattle.std.specs.Bool.{◌==◌}
use Rattle.std.specs.BTreeMap.{is_at}
use Rattle.std.specs.Ordering.{ordering_index, is_eq}
use Rattle.std.specs.declared.cmp.Ordering.{Ordering}
use Rattle.std.specs.declared.cmp.Ordering.TheVariants.{Less, Equal, Greater}
use Rattle.std.proofs.lemmas.List.{length-map, get_or-map}
use Rattle.p2p_discovery.proofs.BitMaps.{next_value}
use Rattle.p2p_tracker.proofs.directory.full_bits.bits_at.Goals as goal

-- whether an order is that of equals
equals : (o : Ordering) → (ordering_index o == 1) ≡ is_eq o
equals Less = refl
equals Equal = refl
equals Greater = refl

pub loop-place-preserved : goal.loop-place-preserved
loop-place-preserved g c =
    let peers = c.as_slice-peers.result.now in
    let place = c.loop-place.place in
    let test = is_at (g.C.Ord.cmp c.args.own.now) in
    let values = map test peers in
    let long : length values ≡ length peers = length-map peers test in
    let within : place < length peers = omega (arith, c.loop-place-test.true) in
    let told : c.eq.result ≡ get_or values place false =
    c.eq.ensures ∙ equals c.cmp.result ∙ ap is_eq c.cmp.ensures ∙ ap test c.index-peers-place.is
    ∙ sym (get_or-map test peers place c.index-peers-place.result false within)
    in
    c.set.ensures
    ∙ ap (λ bits. set bits place c.eq.result) (c.loop-place.invariant ∙ ap (λ n. take place values ++ replicate (n - place) false) (sym long))
    ∙ next_value values place c.eq.result (omega (arith, within, long)) told
    ∙ ap (λ n. take (place + 1) values ++ replicate (n - (place + 1)) false) long
