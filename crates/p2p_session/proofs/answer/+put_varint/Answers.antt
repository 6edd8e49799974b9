use Rattle.std.proofs.Common.{◌∷◌, [], ◌+◌, ◌%◌, ◌/◌, arith, ap, length}
use Rattle.p2p_discovery.specs.Varint.{groups}
use Rattle.p2p_discovery.specs.Laws.Varint.{groups_small, groups_more}
use Rattle.p2p_session.proofs.Puts.{put_more}
use Rattle.p2p_session.proofs.answer.+put_varint.Goals as goal

pub put-requires : goal.put-requires
put-requires t c =
    let k = ap length (groups_small c.requires.0 _ c.requires.1 c.if-number-lt128.true) in
    omega (arith, k, c.requires.3)

pub returns-then-number-lt128 : goal.returns-then-number-lt128
returns-then-number-lt128 t c = λ most p h.
    rw (groups_small most _ p c.if-number-lt128.true) (c.put.ensures.bytes, c.put.ensures.end)

pub put-next-requires : goal.put-next-requires
put-next-requires t c =
    let m = groups_more c.requires.0 _ c.requires.2 c.if-number-lt128.false in
    omega (arith, ap length m.is, c.requires.3)

pub put_varint-requires : goal.put_varint-requires
put_varint-requires t c =
    let m = groups_more c.requires.0 _ c.requires.2 c.if-number-lt128.false in
    (omega arith, (m.less, m.some, m.fits, omega (arith, ap length m.is, c.requires.3, c.put-next.ensures.end)))

pub returns : goal.returns
returns t c = λ most p h.
    let m = groups_more most _ h c.if-number-lt128.false in
    let r = c.put_varint.ensures m.less m.some m.fits in
    let first = groups_more c.requires.0 _ c.requires.2 c.if-number-lt128.false in
    rw m.is (
      put_more c.args.at c.put-next.result ((c.args.number % 128 + 128) ∷ []) (groups m.less (c.args.number / 128))
          c.args.out.now c.put-next.new.out c.put_varint.new.out (omega (arith, ap length first.is, c.requires.3)) c.put-next.ensures.bytes c.put-next.ensures.end r.0,
      omega (arith, r.1, c.put-next.ensures.end),
    )
