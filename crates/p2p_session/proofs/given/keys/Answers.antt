use Rattle.std.proofs.Common.{take, drop, length, arith, ◌+◌}
use Rattle.std.specs.Prelude.{vec_len, vec_capacity}
use Rattle.p2p_session.proofs.Keys.{some_behind, some_size, begin_with_one, behind_one, one_more, one_more_fits, taken}
use Rattle.p2p_session.specs.Schemes.{scheme_by}
use Rattle.p2p_session.proofs.given.keys.Goals as goal

pub unreachable-requires : goal.unreachable-requires
unreachable-requires g c =
    begin_with_one (scheme_by g.C.PartialOrd g.C.Ord g.C.PartialEq g.C.FixedBytes g.C.PublicKey g.C.Signature.PartialEq g.C.Signature.FixedBytes) g.met.C.FixedBytes.fixed
    (drop c.loop-at.at c.args.bytes.now) (some_behind c.args.bytes.now c.loop-at.at c.loop-at-test.true)
    c.loop-at.invariant.rest (c.key_in.ensures.none c.in_default.is)

pub push_reserved-requires : goal.push_reserved-requires
push_reserved-requires g c =
    let before = c.loop-at.invariant in
    let positive = some_size (scheme_by g.C.PartialOrd g.C.Ord g.C.PartialEq g.C.FixedBytes g.C.PublicKey g.C.Signature.PartialEq g.C.Signature.FixedBytes) g.met.C.FixedBytes.fixed
    (drop c.loop-at.at c.args.bytes.now) (some_behind c.args.bytes.now c.loop-at.at c.loop-at-test.true) before.rest in
    one_more_fits g.C.FixedBytes.SIZE (vec_len c.loop-at.keys) c.loop-at.at (length c.args.bytes.now) (vec_capacity c.loop-at.keys)
    positive before.counted c.in-Some.ensures.some.0 (before.room positive)

pub loop-at-smaller : goal.loop-at-smaller
loop-at-smaller g c =
    let positive = some_size (scheme_by g.C.PartialOrd g.C.Ord g.C.PartialEq g.C.FixedBytes g.C.PublicKey g.C.Signature.PartialEq g.C.Signature.FixedBytes) g.met.C.FixedBytes.fixed
    (drop c.loop-at.at c.args.bytes.now) (some_behind c.args.bytes.now c.loop-at.at c.loop-at-test.true) c.loop-at.invariant.rest in
    omega (arith, c.SIZE-at.ensures, positive, c.in-Some.ensures.some.0)

pub loop-at-preserved : goal.loop-at-preserved
loop-at-preserved g c =
    let at = c.loop-at.at in
    let bytes = c.args.bytes.now in
    let before = c.loop-at.invariant in
    let key = c.in-Some.ensures in
    rw (c.SIZE-at.ensures, c.push_reserved.ensures.items) (record {
      are = one_more (scheme_by g.C.PartialOrd g.C.Ord g.C.PartialEq g.C.FixedBytes g.C.PublicKey g.C.Signature.PartialEq g.C.Signature.FixedBytes) g.met.C.FixedBytes.fixed
          (take at bytes) (take (at + g.C.FixedBytes.SIZE) bytes) c.loop-at.keys.items c.in-Some.key before.are key.some.1
          (taken (scheme_by g.C.PartialOrd g.C.Ord g.C.PartialEq g.C.FixedBytes g.C.PublicKey g.C.Signature.PartialEq g.C.Signature.FixedBytes) g.met.C.FixedBytes.fixed bytes at c.in-Some.key key.some.2);
      rest = behind_one (scheme_by g.C.PartialOrd g.C.Ord g.C.PartialEq g.C.FixedBytes g.C.PublicKey g.C.Signature.PartialEq g.C.Signature.FixedBytes) g.met.C.FixedBytes.fixed
          (drop at bytes) (drop (at + g.C.FixedBytes.SIZE) bytes) c.in-Some.key (some_behind bytes at c.loop-at-test.true) key.some.2 before.rest;
      inside = key.some.0;
      counted = rw c.push_reserved.ensures.len (omega (arith, before.counted));
      room = λ positive. omega (arith, before.room positive, c.push_reserved.ensures.capacity);
    })
