use Rattle.std.proofs.Common.{inr}
use Rattle.std.proofs.lemmas.Result.{err_from_is_err_and}
use Rattle.p2p_session.proofs.Bootstrappers.{no_key, behind_key, unread}
use Rattle.p2p_session.proofs.setup.bootstrapper.Goals as goal
use Rattle.p2p_session.specs.Schemes.{scheme_by}

pub returns-in_err-key-clause-refused : goal.returns-in_err-key-clause-refused
returns-in_err-key-clause-refused g c =
    let p = err_from_is_err_and c.from_residual.result c.from_residual.ensures.1 in
    let why = c.in_err-key.ensures.refused in
    rw (p.1, p.2) (inr (why.0, λ b rest is e. no_key (scheme_by g.C.PartialOrd g.C.Ord g.C.PartialEq g.C.FixedBytes g.C.PublicKey g.C.Signature.PartialEq g.C.Signature.FixedBytes) g.met.C.FixedBytes.fixed c.args.left.now why.1 b rest is e))

pub returns-in-Ok-clause-rest : goal.returns-in-Ok-clause-rest
returns-in-Ok-clause-rest g c = λ b rest is e.
    let key = c.in_ok-key.ensures in
    (c.in-Ok.ensures.only b.1 rest is.1
    (behind_key (scheme_by g.C.PartialOrd g.C.Ord g.C.PartialEq g.C.FixedBytes g.C.PublicKey g.C.Signature.PartialEq g.C.Signature.FixedBytes) g.met.C.FixedBytes.fixed c.args.left.now c.in_ok-key.key c.front_key.new.left b rest key.spelled is e)).1

pub returns-in-Err : goal.returns-in-Err
returns-in-Err g c = record {
  is = tt;
  spelled = tt;
  shorter = tt;
  rest = tt;
  refused = unread (scheme_by g.C.PartialOrd g.C.Ord g.C.PartialEq g.C.FixedBytes g.C.PublicKey g.C.Signature.PartialEq g.C.Signature.FixedBytes) g.met.C.FixedBytes.fixed c.undecoded.ensures (λ b rest is e.
      let key = c.in_ok-key.ensures in
      c.in-Err.ensures.only b.1 rest is.1
      (behind_key (scheme_by g.C.PartialOrd g.C.Ord g.C.PartialEq g.C.FixedBytes g.C.PublicKey g.C.Signature.PartialEq g.C.Signature.FixedBytes) g.met.C.FixedBytes.fixed c.args.left.now c.in_ok-key.key c.front_key.new.left b rest key.spelled is e));
}
