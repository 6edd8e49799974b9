use Rattle.std.proofs.Common.{◌≡◌, ◌∙◌, ◌<◌, ◌/◌, ◌%◌, ◌^◌, sym, ap, length, arith, Some, eqb, bit_and, get_or}
use Rattle.std.specs.List.{slice_get}
use Rattle.std.proofs.lemmas.List.{get_or_default}
use Rattle.p2p_discovery.specs.Laws.Bits.{length-bits_in}
use Rattle.p2p_discovery.proofs.BitMaps.{bit_read}
use Rattle.p2p_discovery.proofs.sets.bit_map.BitMap.get.Goals as goal

pub index-requires : goal.index-requires
index-requires c =
    let n = sym (length-bits_in c.self.inside.bytes.items c.self.inside.len) ∙ ap length c.self.view_is in
    omega (arith, c.self.invariant.len, n)

pub returns : goal.returns
returns c =
    let n = sym (length-bits_in c.self.inside.bytes.items c.self.inside.len) ∙ ap length c.self.view_is in
    let low : c.args.place / 8 < length c.self.inside.bytes.items = omega (arith, c.self.invariant.len, n) in
    let byte : c.index.result.now ≡ get_or c.self.inside.bytes.items (c.args.place / 8) 0 =
    c.index.ensures ∙ get_or_default c.self.inside.bytes.items (c.args.place / 8) _ 0 low in
    ap (λ xs. slice_get xs c.args.place) (sym c.self.view_is) ∙ bit_read c.self.inside.bytes.items c.self.inside.len c.args.place (omega (arith, n))
    ∙ ap (λ x. Some (eqb (bit_and (x / 2 ^ (c.args.place % 8)) 1) 1)) (sym byte)
