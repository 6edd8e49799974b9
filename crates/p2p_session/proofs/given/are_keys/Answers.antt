use Rattle.std.proofs.Common.{[], ◌∷◌, ◌++◌, sym, take, drop, ◌+◌, ◌∙◌}
use Rattle.p2p_session.proofs.Bootstrappers.{some_left}
use Rattle.p2p_session.proofs.Keys.{none_of_none, begin_with_one, behind_one, one_more, taken, some_behind}
use Rattle.p2p_session.specs.Schemes.{scheme_by}
use Rattle.p2p_session.proofs.given.are_keys.Goals as goal

pub returns-then-SIZE-eq0-clause-no : goal.returns-then-SIZE-eq0-clause-no
returns-then-SIZE-eq0-clause-no g c = λ no are.
    some_left c.is_empty.ensures no (none_of_none (scheme_by g.C.PartialOrd g.C.Ord g.C.PartialEq g.C.FixedBytes g.C.PublicKey g.C.Signature.PartialEq g.C.Signature.FixedBytes) g.met.C.FixedBytes.fixed c.args.bytes.now (sym c.SIZE.ensures ∙ c.if-SIZE-eq0.true) are)

pub returns-in_default-clause-no : goal.returns-in_default-clause-no
returns-in_default-clause-no g c = λ _ are.
    begin_with_one (scheme_by g.C.PartialOrd g.C.Ord g.C.PartialEq g.C.FixedBytes g.C.PublicKey g.C.Signature.PartialEq g.C.Signature.FixedBytes) g.met.C.FixedBytes.fixed (drop c.loop-at.at c.args.bytes.now)
    (some_behind c.args.bytes.now c.loop-at.at c.loop-at-test.true)
    (c.loop-at.invariant.rest are) (c.key_in.ensures.none c.in_default.is)

pub loop-at-preserved : goal.loop-at-preserved
loop-at-preserved g c =
    let at = c.loop-at.at in
    let bytes = c.args.bytes.now in
    let before = c.loop-at.invariant in
    let key = c.in-Some.ensures in
    rw c.SIZE-at.ensures (record {
      are = (
        before.are.0 ++ c.in-Some._key ∷ [],
        one_more (scheme_by g.C.PartialOrd g.C.Ord g.C.PartialEq g.C.FixedBytes g.C.PublicKey g.C.Signature.PartialEq g.C.Signature.FixedBytes) g.met.C.FixedBytes.fixed (take at bytes) (take (at + g.C.FixedBytes.SIZE) bytes)
            before.are.0 c.in-Some._key before.are.1 key.some.1 (taken (scheme_by g.C.PartialOrd g.C.Ord g.C.PartialEq g.C.FixedBytes g.C.PublicKey g.C.Signature.PartialEq g.C.Signature.FixedBytes) g.met.C.FixedBytes.fixed bytes at c.in-Some._key key.some.2),
      );
      rest = λ are. behind_one (scheme_by g.C.PartialOrd g.C.Ord g.C.PartialEq g.C.FixedBytes g.C.PublicKey g.C.Signature.PartialEq g.C.Signature.FixedBytes) g.met.C.FixedBytes.fixed (drop at bytes) (drop (at + g.C.FixedBytes.SIZE) bytes) c.in-Some._key
          (some_behind bytes at c.loop-at-test.true) key.some.2 (before.rest are);
      inside = key.some.0;
    })
