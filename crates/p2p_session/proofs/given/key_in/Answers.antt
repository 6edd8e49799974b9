use Rattle.std.proofs.Common.{ℕ, List, ap, take, drop, ◌≡◌, ◌-◌, arith, length, ◌+◌, ◌≤◌}
use Rattle.std.proofs.lemmas.List.{length-append, length-drop}
use Rattle.p2p_session.proofs.Keys.{key_read}
use Rattle.p2p_session.specs.Schemes.{scheme_by}
use Rattle.p2p_session.proofs.given.key_in.Goals as goal

pub returns-then-bytes-at-clause-none : goal.returns-then-bytes-at-clause-none
returns-then-bytes-at-clause-none g c = λ _ key rest is e. omega (
  arith,
  c.if-bytes-at.true,
  c.SIZE.ensures,
  ap (λ (l : List ℕ). length l) e,
  length-append (g.C.FixedBytes.spelled key) rest,
  g.met.C.FixedBytes.fixed.len key,
  length-drop c.args.at c.args.bytes.now,
)

pub returns-clause-some : goal.returns-clause-some
returns-clause-some g c =
    let long : c.args.at + g.C.FixedBytes.SIZE ≤ length c.args.bytes.now = omega (arith, c.if-bytes-at.false, c.requires, c.SIZE.ensures) in
    let size : c.args.at + c.SIZE-2.result - c.args.at ≡ g.C.FixedBytes.SIZE = omega (arith, c.SIZE-2.ensures) in
    key_read (scheme_by g.C.PartialOrd g.C.Ord g.C.PartialEq g.C.FixedBytes g.C.PublicKey g.C.Signature.PartialEq g.C.Signature.FixedBytes) g.met.C.FixedBytes.fixed
    c.args.bytes.now _ c.args.at long (ap (λ n. take n (drop c.args.at c.args.bytes.now)) size) c.are_bytes.ensures c.read_fixed.result c.read_fixed.ensures
