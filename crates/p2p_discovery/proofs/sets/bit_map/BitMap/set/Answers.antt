use Rattle.std.proofs.Common.{◌∙◌, ◌/◌, sym, ap, length, arith, set}
use Rattle.std.proofs.lemmas.List.{get_or_default}
use Rattle.p2p_discovery.specs.Laws.Bits.{length-bits_in}
use Rattle.p2p_discovery.proofs.BitMaps.{wrote_true, wrote_false}
use Rattle.p2p_discovery.proofs.sets.bit_map.BitMap.set.Goals as goal

pub index_mut-requires : goal.index_mut-requires
index_mut-requires c =
    let n = sym (length-bits_in c.self.inside.bytes.items c.self.inside.len) ∙ ap length c.self.view_is in
    omega (arith, c.self.invariant.len, n)

pub index_mut-requires-else-value : goal.index_mut-requires-else-value
index_mut-requires-else-value c =
    let n = sym (length-bits_in c.self.inside.bytes.items c.self.inside.len) ∙ ap length c.self.view_is in
    omega (arith, c.self.invariant.len, n)

pub invariant_of-self : goal.invariant_of-self
invariant_of-self c =
    let n = sym (length-bits_in c.self.inside.bytes.items c.self.inside.len) ∙ ap length c.self.view_is in
    let byte = c.index_mut.ensures.value ∙ get_or_default c.self.inside.bytes.items (c.args.place / 8)
    c.index_mut.result.now 0 (omega (arith, c.self.invariant.len, n)) in
    (wrote_true c.self.inside.bytes.items c.self.inside.len c.args.place c.index_mut.result.now byte c.self.invariant (omega (arith, n))).packed

pub returns-then-value : goal.returns-then-value
returns-then-value c =
    let n = sym (length-bits_in c.self.inside.bytes.items c.self.inside.len) ∙ ap length c.self.view_is in
    let byte = c.index_mut.ensures.value ∙ get_or_default c.self.inside.bytes.items (c.args.place / 8)
    c.index_mut.result.now 0 (omega (arith, c.self.invariant.len, n)) in
    (wrote_true c.self.inside.bytes.items c.self.inside.len c.args.place c.index_mut.result.now byte
    c.self.invariant (omega (arith, n))).bits
    ∙ (λ i. set (c.self.view_is i) c.args.place (sym c.if-value.true i))

pub invariant_of-self-else-value : goal.invariant_of-self-else-value
invariant_of-self-else-value c =
    let n = sym (length-bits_in c.self.inside.bytes.items c.self.inside.len) ∙ ap length c.self.view_is in
    let byte = c.index_mut-else-value.ensures.value ∙ get_or_default c.self.inside.bytes.items (c.args.place / 8)
    c.index_mut-else-value.result.now 0 (omega (arith, c.self.invariant.len, n)) in
    (wrote_false c.self.inside.bytes.items c.self.inside.len c.args.place c.index_mut-else-value.result.now byte c.self.invariant (omega (arith, n))).packed

pub returns-else-value : goal.returns-else-value
returns-else-value c =
    let n = sym (length-bits_in c.self.inside.bytes.items c.self.inside.len) ∙ ap length c.self.view_is in
    let byte = c.index_mut-else-value.ensures.value ∙ get_or_default c.self.inside.bytes.items (c.args.place / 8)
    c.index_mut-else-value.result.now 0 (omega (arith, c.self.invariant.len, n)) in
    (wrote_false c.self.inside.bytes.items c.self.inside.len c.args.place c.index_mut-else-value.result.now byte
    c.self.invariant (omega (arith, n))).bits
    ∙ (λ i. set (c.self.view_is i) c.args.place (sym c.if-value.false i))
