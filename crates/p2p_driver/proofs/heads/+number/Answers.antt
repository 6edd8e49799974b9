use Rattle.std.proofs.Common.{◌≡◌, suc, ◌+◌, ◌-◌, ◌*◌, ◌^◌, ◌≤◌, ◌<◌, option_map, arith, sym, ap, ◌∙◌}
use Rattle.p2p_discovery.specs.Varint.{groups_at}
use Rattle.p2p_discovery.specs.Laws.Varint.{bound_low, bound_more}
use Rattle.p2p_driver.specs.Heads.{value_of}
use Rattle.p2p_driver.proofs.Spelled.{no_byte, last_byte, low_byte, high_byte, fits_less, weaker}
use Rattle.p2p_driver.proofs.heads.+number.Goals as goal

pub returns-in_default-clause-value : goal.returns-in_default-clause-value
returns-in_default-clause-value t c =
    no_byte 10 1 c.args.more c.args.left c.args.bytes.now c.in_default.ensures.cases

pub returns-then-left-eq0-clause-value : goal.returns-then-left-eq0-clause-value
returns-then-left-eq0-clause-value t c =
    c.last.ensures.value c.in-Some.rest.now
    ∙ sym (last_byte 10 1 c.args.more c.args.left c.in-Some.byte.now c.in-Some.rest.now c.if-left-eq0.true)
    ∙ sym (ap (λ bytes. value_of (groups_at 10 1 c.args.more c.args.left bytes).outcome)
    c.in-Some.ensures.cases.0)

pub returns-then-byte-lt128-clause-value : goal.returns-then-byte-lt128-clause-value
returns-then-byte-lt128-clause-value t c =
    let more : c.args.left ≡ suc (c.args.left - 1) = omega (arith, c.if-left-eq0.false) in
    c.last-then-byte-lt128.ensures.value c.in-Some.rest.now
    ∙ sym (low_byte 10 1 c.args.more c.args.left (c.args.left - 1) c.in-Some.byte.now c.in-Some.rest.now
    more c.if-byte-lt128.true)
    ∙ sym (ap (λ bytes. value_of (groups_at 10 1 c.args.more c.args.left bytes).outcome)
    c.in-Some.ensures.cases.0)

pub returns-then-byte-lt128-clause-bound : goal.returns-then-byte-lt128-clause-bound
returns-then-byte-lt128-clause-bound t c =
    let more : c.args.left ≡ suc (c.args.left - 1) = omega (arith, c.if-left-eq0.false) in
    weaker c.last-then-byte-lt128.result (λ n. n ≤ 127) (λ n. n < 2 * 128 ^ c.args.left)
    (λ n small. bound_low n 1 c.args.left (c.args.left - 1) more small)
    c.last-then-byte-lt128.ensures.bound

pub number-requires : goal.number-requires
number-requires t c =
    let more : c.args.left ≡ suc (c.args.left - 1) = omega (arith, c.if-left-eq0.false) in
    (omega (arith, more), omega (arith, fits_less c.args.left (c.args.left - 1) more c.requires))

pub returns-in_default-number-clause-value : goal.returns-in_default-number-clause-value
returns-in_default-number-clause-value t c =
    let more : c.args.left ≡ suc (c.args.left - 1) = omega (arith, c.if-left-eq0.false) in
    ap (option_map (λ high. c.in-Some.byte.now - 128 + 128 * high)) c.in_default-number.ensures.value
    ∙ sym (high_byte 10 1 c.args.more c.args.left (c.args.left - 1) c.in-Some.byte.now c.in-Some.rest.now
    more c.if-byte-lt128.false)
    ∙ sym (ap (λ bytes. value_of (groups_at 10 1 c.args.more c.args.left bytes).outcome)
    c.in-Some.ensures.cases.0)

pub overflow_mul-result : goal.overflow_mul-result
overflow_mul-result t c =
    let more : c.args.left ≡ suc (c.args.left - 1) = omega (arith, c.if-left-eq0.false) in
    omega (
      arith,
      fits_less c.args.left (c.args.left - 1) more c.requires,
      c.in-Some-number.ensures.bound,
    )

pub overflow_add-result : goal.overflow_add-result
overflow_add-result t c =
    let more : c.args.left ≡ suc (c.args.left - 1) = omega (arith, c.if-left-eq0.false) in
    omega (
      arith,
      fits_less c.args.left (c.args.left - 1) more c.requires,
      c.in-Some-number.ensures.bound,
    )

pub returns-clause-value : goal.returns-clause-value
returns-clause-value t c =
    let more : c.args.left ≡ suc (c.args.left - 1) = omega (arith, c.if-left-eq0.false) in
    ap (option_map (λ high. c.in-Some.byte.now - 128 + 128 * high)) c.in-Some-number.ensures.value
    ∙ sym (high_byte 10 1 c.args.more c.args.left (c.args.left - 1) c.in-Some.byte.now c.in-Some.rest.now
    more c.if-byte-lt128.false)
    ∙ sym (ap (λ bytes. value_of (groups_at 10 1 c.args.more c.args.left bytes).outcome)
    c.in-Some.ensures.cases.0)

pub returns-clause-bound : goal.returns-clause-bound
returns-clause-bound t c =
    let more : c.args.left ≡ suc (c.args.left - 1) = omega (arith, c.if-left-eq0.false) in
    bound_more c.in-Some.byte.now c.in-Some-number.high 1 c.args.left (c.args.left - 1) more
    (omega arith) c.in-Some-number.ensures.bound
