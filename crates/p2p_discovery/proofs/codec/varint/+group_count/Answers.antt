use Rattle.std.proofs.Common.{arith, ap, sym, length}
use Rattle.p2p_discovery.specs.Laws.Varint.{groups_small, groups_more, groups_short}
use Rattle.p2p_discovery.proofs.codec.varint.+group_count.Goals as goal

pub returns-then-n-lt128-clause-size : goal.returns-then-n-lt128-clause-size
returns-then-n-lt128-clause-size t c = λ most p h. sym (ap length (groups_small most _ p c.if-n-lt128.true))

pub returns-else-n-lt128-clause-size : goal.returns-else-n-lt128-clause-size
returns-else-n-lt128-clause-size t c = λ most p h.
    let m = groups_more most _ h c.if-n-lt128.false in
    rw m.is (omega (arith, c.group_count.ensures.size m.less m.some m.fits))

pub returns-else-n-lt128-clause-short : goal.returns-else-n-lt128-clause-short
returns-else-n-lt128-clause-short t c = λ most p h.
    let m = groups_more most _ h c.if-n-lt128.false in
    omega (arith, c.group_count.ensures.size m.less m.some m.fits, groups_short most c.args.n, ap length m.is)
