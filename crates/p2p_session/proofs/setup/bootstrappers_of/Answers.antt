use Rattle.std.proofs.Common.{ap, arith, length, List, ℕ}
use Rattle.std.proofs.lemmas.Result.{err_from_is_err_and}
use Rattle.p2p_session.specs.Given.{IsBootstrapper}
use Rattle.p2p_session.proofs.Bootstrappers.{some_left, some_bytes, none_read, others_spelled, all_with, spelled_with}
use Rattle.p2p_session.proofs.setup.bootstrappers_of.Goals as goal
use Rattle.p2p_session.specs.Schemes.{scheme_by}

pub returns-in_err-one-clause-refused : goal.returns-in_err-one-clause-refused
returns-in_err-one-clause-refused g c =
    let p = err_from_is_err_and c.from_residual-in_err-one.result c.from_residual-in_err-one.ensures.1 in
    rw (p.1, p.2) (none_read (scheme_by g.C.PartialOrd g.C.Ord g.C.PartialEq g.C.FixedBytes g.C.PublicKey g.C.Signature.PartialEq g.C.Signature.FixedBytes) g.met.C.FixedBytes.fixed c.loop-left.left c.args.bytes.now (some_left c.is_empty.ensures c.loop-left-test.true)
    (some_bytes _ _ (some_left c.is_empty.ensures c.loop-left-test.true) c.loop-left.invariant.spelled) c.loop-left.invariant.rest
    c.in_err-one.ensures.refused)

pub loop-left-preserved : goal.loop-left-preserved
loop-left-preserved g c = record {
  spelled = rw c.in_ok-push.ensures.items (spelled_with (scheme_by g.C.PartialOrd g.C.Ord g.C.PartialEq g.C.FixedBytes g.C.PublicKey g.C.Signature.PartialEq g.C.Signature.FixedBytes) g.met.C.FixedBytes.fixed c.loop-left.read.items c.in_ok-one.one c.bootstrapper.new.left
      (c.loop-left.left) c.args.bytes.now c.in_ok-one.ensures.spelled c.loop-left.invariant.spelled);
  are = rw c.in_ok-push.ensures.items (all_with (IsBootstrapper (scheme_by g.C.PartialOrd g.C.Ord g.C.PartialEq g.C.FixedBytes g.C.PublicKey g.C.Signature.PartialEq g.C.Signature.FixedBytes)) c.loop-left.read.items c.in_ok-one.one c.loop-left.invariant.are c.in_ok-one.ensures.is);
  rest = λ h. others_spelled (scheme_by g.C.PartialOrd g.C.Ord g.C.PartialEq g.C.FixedBytes g.C.PublicKey g.C.Signature.PartialEq g.C.Signature.FixedBytes) g.met.C.FixedBytes.fixed c.loop-left.left c.bootstrapper.new.left (λ e. omega (arith, ap (λ (l : List ℕ). length l) e, c.in_ok-one.ensures.shorter)) c.in_ok-one.ensures.rest (c.loop-left.invariant.rest h);
}
