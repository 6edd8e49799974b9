use Rattle.std.proofs.Common.{◌≡◌, suc, ◌+◌, ◌-◌, ◌^◌, ◌∷◌, false, arith}
use Rattle.std.proofs.lemmas.Result.{err_from_is_err_and}
use Rattle.p2p_discovery.specs.Varint.{groups_at}
use Rattle.p2p_discovery.proofs.GroupReads.{starts, sums_on, no_byte, low_fault, last_fault, low_sum, last_sum, unit_starts, unit_step, unit_within, half, within_more, product}
use Rattle.p2p_discovery.proofs.codec.varint.read_more.Goals as goal

pub loop-init : goal.loop-init
loop-init c = record {
  goes = starts c.args.most c.args.top c.args.left (c.args.left - 0) c.args.first c.args.reader.now (omega arith) c.requires.more.0;
  unit = unit_starts c.args.left (c.args.left - 0) (omega arith);
  less = omega arith;
}

pub returns-in_err-byte-clause-exact : goal.returns-in_err-byte-clause-exact
returns-in_err-byte-clause-exact c =
    let p = err_from_is_err_and c.from_residual.result c.from_residual.ensures.1 in
    rw (p.1, p.2) (no_byte c.args.most c.args.top (c.args.left - c.loop.counter) c.loop.sum c.loop.unit c.loop.reader
    (groups_at c.args.most c.args.top false (c.args.left + 1) (c.args.first ∷ c.args.reader.now))
    c.in_err-byte.field-0.0 c.in_err-byte.ensures c.loop.invariant.goes)

pub returns-in_err-checked_last-clause-exact : goal.returns-in_err-checked_last-clause-exact
returns-in_err-checked_last-clause-exact c =
    let p = err_from_is_err_and c.from_residual-in_err-checked_last.result c.from_residual-in_err-checked_last.ensures.1 in
    rw (p.1, p.2) (low_fault c.args.most c.args.top (c.args.left - c.loop.counter) (c.args.left - (c.loop.counter + 1))
    c.loop.sum c.loop.unit c.in_ok-byte.byte c.loop.reader c.byte.new.self
    (groups_at c.args.most c.args.top false (c.args.left + 1) (c.args.first ∷ c.args.reader.now))
    c.in_err-checked_last.field-0.0 (omega arith) c.in_ok-byte.ensures c.if-byte-lt128.true
    (c.in_err-checked_last.ensures.exact c.byte.new.self) c.loop.invariant.goes)

pub overflow_mul-result : goal.overflow_mul-result
overflow_mul-result c =
    let k : c.args.left - c.loop.counter ≡ suc (c.args.left - (c.loop.counter + 1)) = omega arith in
    let u = unit_within c.loop.unit _ _ _ k c.loop.invariant.unit in
    let h = half c.args.top (128 ^ (c.args.left + 1)) c.requires.more.1 c.requires.fits in
    let m = product c.loop.unit c.in_ok-checked_last.field-0 127 c.in_ok-checked_last.ensures.bound in
    omega (arith, u, h, m)

pub overflow_add-result : goal.overflow_add-result
overflow_add-result c =
    let k : c.args.left - c.loop.counter ≡ suc (c.args.left - (c.loop.counter + 1)) = omega arith in
    let u = unit_within c.loop.unit _ _ _ k c.loop.invariant.unit in
    let h = half c.args.top (128 ^ (c.args.left + 1)) c.requires.more.1 c.requires.fits in
    let m = product c.loop.unit c.in_ok-checked_last.field-0 127 c.in_ok-checked_last.ensures.bound in
    omega (arith, u, h, m, c.loop.invariant.less)

pub returns-then-byte-lt128-clause-exact : goal.returns-then-byte-lt128-clause-exact
returns-then-byte-lt128-clause-exact c =
    low_sum c.args.most c.args.top (c.args.left - c.loop.counter) (c.args.left - (c.loop.counter + 1))
    c.loop.sum c.loop.unit c.in_ok-byte.byte c.in_ok-checked_last.field-0 c.loop.reader c.byte.new.self
    (groups_at c.args.most c.args.top false (c.args.left + 1) (c.args.first ∷ c.args.reader.now))
    (omega arith) c.in_ok-byte.ensures c.if-byte-lt128.true
    (c.in_ok-checked_last.ensures.exact c.byte.new.self) c.loop.invariant.goes

pub returns-then-byte-lt128-clause-bound : goal.returns-then-byte-lt128-clause-bound
returns-then-byte-lt128-clause-bound c =
    let k : c.args.left - c.loop.counter ≡ suc (c.args.left - (c.loop.counter + 1)) = omega arith in
    let u = unit_within c.loop.unit _ _ _ k c.loop.invariant.unit in
    let w = within_more c.args.top (128 ^ (c.args.left + 1)) in
    let m = product c.loop.unit c.in_ok-checked_last.field-0 127 c.in_ok-checked_last.ensures.bound in
    omega (arith, u, w, m, c.loop.invariant.less)

pub overflow_mul-sum : goal.overflow_mul-sum
overflow_mul-sum c =
    let k : c.args.left - c.loop.counter ≡ suc (c.args.left - (c.loop.counter + 1)) = omega arith in
    let u = unit_within c.loop.unit _ _ _ k c.loop.invariant.unit in
    let h = half c.args.top (128 ^ (c.args.left + 1)) c.requires.more.1 c.requires.fits in
    let m = product c.loop.unit (c.in_ok-byte.byte - 128) 127 (omega arith) in
    omega (arith, u, h, m)

pub overflow_add-sum : goal.overflow_add-sum
overflow_add-sum c =
    let k : c.args.left - c.loop.counter ≡ suc (c.args.left - (c.loop.counter + 1)) = omega arith in
    let u = unit_within c.loop.unit _ _ _ k c.loop.invariant.unit in
    let h = half c.args.top (128 ^ (c.args.left + 1)) c.requires.more.1 c.requires.fits in
    let m = product c.loop.unit (c.in_ok-byte.byte - 128) 127 (omega arith) in
    omega (arith, u, h, m, c.loop.invariant.less)

pub overflow_mul-unit : goal.overflow_mul-unit
overflow_mul-unit c =
    let k : c.args.left - c.loop.counter ≡ suc (c.args.left - (c.loop.counter + 1)) = omega arith in
    let u = unit_within c.loop.unit _ _ _ k c.loop.invariant.unit in
    let h = half c.args.top (128 ^ (c.args.left + 1)) c.requires.more.1 c.requires.fits in
    omega (arith, u, h)

pub loop-preserved : goal.loop-preserved
loop-preserved c =
    let k : c.args.left - c.loop.counter ≡ suc (c.args.left - (c.loop.counter + 1)) = omega arith in
    let m = product c.loop.unit (c.in_ok-byte.byte - 128) 127 (omega arith) in
    record {
      goes = sums_on c.args.most c.args.top (c.args.left - c.loop.counter) (c.args.left - (c.loop.counter + 1))
          c.loop.sum c.loop.unit c.in_ok-byte.byte c.loop.reader c.byte.new.self
          (groups_at c.args.most c.args.top false (c.args.left + 1) (c.args.first ∷ c.args.reader.now))
          k c.in_ok-byte.ensures c.if-byte-lt128.false c.loop.invariant.goes;
      unit = unit_step c.loop.unit _ _ _ k c.loop.invariant.unit;
      less = omega (arith, m, c.loop.invariant.less);
    }

pub returns-in_err-byte-2-clause-exact : goal.returns-in_err-byte-2-clause-exact
returns-in_err-byte-2-clause-exact c =
    let p = err_from_is_err_and c.from_residual-in_err-byte-2.result c.from_residual-in_err-byte-2.ensures.1 in
    rw (p.1, p.2) (no_byte c.args.most c.args.top (c.args.left - c.loop.counter) c.loop.sum c.loop.unit c.loop.reader
    (groups_at c.args.most c.args.top false (c.args.left + 1) (c.args.first ∷ c.args.reader.now))
    c.in_err-byte-2.field-0.0 c.in_err-byte-2.ensures c.loop.invariant.goes)

pub returns-in_err-checked_last-2-clause-exact : goal.returns-in_err-checked_last-2-clause-exact
returns-in_err-checked_last-2-clause-exact c =
    let p = err_from_is_err_and c.from_residual-in_err-checked_last-2.result c.from_residual-in_err-checked_last-2.ensures.1 in
    rw (p.1, p.2) (last_fault c.args.most c.args.top (c.args.left - c.loop.counter)
    c.loop.sum c.loop.unit c.in_ok-byte-2.byte c.loop.reader c.byte-2.new.self
    (groups_at c.args.most c.args.top false (c.args.left + 1) (c.args.first ∷ c.args.reader.now))
    c.in_err-checked_last-2.field-0.0 (omega arith) c.in_ok-byte-2.ensures
    (c.in_err-checked_last-2.ensures.exact c.byte-2.new.self) c.loop.invariant.goes)

pub returns-clause-exact : goal.returns-clause-exact
returns-clause-exact c =
    last_sum c.args.most c.args.top (c.args.left - c.loop.counter)
    c.loop.sum c.loop.unit c.in_ok-byte-2.byte c.in_ok-checked_last-2.field-0 c.loop.reader c.byte-2.new.self
    (groups_at c.args.most c.args.top false (c.args.left + 1) (c.args.first ∷ c.args.reader.now))
    (omega arith) c.in_ok-byte-2.ensures
    (c.in_ok-checked_last-2.ensures.exact c.byte-2.new.self) c.loop.invariant.goes
