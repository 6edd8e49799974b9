use Rattle.std.proofs.Common.{arith}
use Rattle.std.proofs.lemmas.Bool.{ne_eqb}
use Rattle.p2p_discovery.specs.Reading.{IsBytes}
use Rattle.p2p_discovery.proofs.BitMaps.{bytes_tell, numbers_tell}
use Rattle.p2p_discovery.proofs.sets.bit_map.BitMapPartialEq.eq.Goals as goal

pub returns-then-self-other : goal.returns-then-self-other
returns-then-self-other c =
    let fits : IsBytes c.self.inside.bytes.items = rw c.deref.ensures.value at c.are_bytes.ensures in
    let others : IsBytes c.other.inside.bytes.items = rw c.deref-2.ensures.value at c.are_bytes-2.ensures in
    let t = bytes_tell c.self.inside.bytes.items c.other.inside.bytes.items c.self.inside.len c.other.inside.len
    c.args.self.now c.args.other.now c.eq.result fits others c.self.invariant c.other.invariant
    c.self.view_is c.other.view_is (omega arith) c.eq.ensures in
    record { same = t.same; exact = t.exact }

pub returns-else-self-other : goal.returns-else-self-other
returns-else-self-other c =
    let t = numbers_tell c.self.inside.bytes.items c.other.inside.bytes.items c.self.inside.len c.other.inside.len
    c.args.self.now c.args.other.now c.self.view_is c.other.view_is c.if-self-other.false in
    rw (ne_eqb c.self.inside.len c.other.inside.len c.if-self-other.false) (record { same = t.same; exact = t.exact })
