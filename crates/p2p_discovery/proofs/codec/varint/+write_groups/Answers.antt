use Rattle.p2p_discovery.specs.Varint.{groups}
use Rattle.std.proofs.Common.{◌+◌, ◌%◌, ◌/◌, ◌∷◌, [], arith, ap, ◌∙◌, length, append_assoc}
use Rattle.p2p_discovery.proofs.GroupWrites.{one_group, two_groups, more_groups}
use Rattle.p2p_discovery.proofs.codec.varint.+write_groups.Goals as goal

pub extend_reserved-requires : goal.extend_reserved-requires
extend_reserved-requires t c =
    let k = ap length (one_group c.requires.0 _ c.requires.1 c.if-high-eq0.true) in omega arith

pub extend_reserved-requires-then-high-lt128 : goal.extend_reserved-requires-then-high-lt128
extend_reserved-requires-then-high-lt128 t c =
    let k = ap length (two_groups c.requires.0 _ c.requires.2 c.if-high-eq0.false c.if-high-lt128.true) in omega arith

pub extend_reserved-requires-else-high-lt128 : goal.extend_reserved-requires-else-high-lt128
extend_reserved-requires-else-high-lt128 t c =
    let m = more_groups c.requires.0 _ c.requires.2 c.if-high-lt128.false in
    let k = ap length m.is in omega arith

pub write_groups-requires : goal.write_groups-requires
write_groups-requires t c =
    let m = more_groups c.requires.0 _ c.requires.2 c.if-high-lt128.false in
    let k = ap length m.is in
    (omega arith, (m.less, m.some, m.fits, omega arith))

pub returns-then-high-eq0 : goal.returns-then-high-eq0
returns-then-high-eq0 t c = λ most p h.
    rw (one_group most _ p c.if-high-eq0.true) (c.extend_reserved.ensures.items, omega arith)

pub returns-then-high-lt128 : goal.returns-then-high-lt128
returns-then-high-lt128 t c = λ most p h.
    rw (two_groups most _ h c.if-high-eq0.false c.if-high-lt128.true)
    (c.extend_reserved-then-high-lt128.ensures.items, omega arith)

pub returns-else-high-lt128 : goal.returns-else-high-lt128
returns-else-high-lt128 t c = λ most p h.
    let m = more_groups most _ h c.if-high-lt128.false in
    let r = c.write_groups.ensures m.less m.some m.fits in
    rw m.is (
      r.0 ∙ rw c.extend_reserved-else-high-lt128.ensures.items
          (append_assoc c.args.buf.now.items ((c.args.n % 128 + 128) ∷ (c.args.n / 128 % 128 + 128) ∷ [])
          (groups m.less (c.args.n / 128 / 128))),
      omega (arith, r.1),
    )
