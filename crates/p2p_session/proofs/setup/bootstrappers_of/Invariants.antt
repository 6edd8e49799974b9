use Rattle.std.proofs.Common.{◌≡◌, ◌++◌, length}
use Rattle.std.specs.List.{AllByRecursion}
use Rattle.p2p_session.specs.Given.{IsBootstrapper, SpellBootstrappers, bootstrappers_spelling}
use Rattle.p2p_session.proofs.setup.bootstrappers_of.Given as goal
use Rattle.p2p_session.specs.Schemes.{scheme_by}

abbrev pub invariant-loop-left : goal.invariant-loop-left
invariant-loop-left g l = record {
  spelled : bootstrappers_spelling (scheme_by g.C.PartialOrd g.C.Ord g.C.PartialEq g.C.FixedBytes g.C.PublicKey g.C.Signature.PartialEq g.C.Signature.FixedBytes) l.read.items ++ l.left ≡ l.bytes;
  are : AllByRecursion (IsBootstrapper (scheme_by g.C.PartialOrd g.C.Ord g.C.PartialEq g.C.FixedBytes g.C.PublicKey g.C.Signature.PartialEq g.C.Signature.FixedBytes)) l.read.items;
  rest : SpellBootstrappers (scheme_by g.C.PartialOrd g.C.Ord g.C.PartialEq g.C.FixedBytes g.C.PublicKey g.C.Signature.PartialEq g.C.Signature.FixedBytes) l.bytes → SpellBootstrappers (scheme_by g.C.PartialOrd g.C.Ord g.C.PartialEq g.C.FixedBytes g.C.PublicKey g.C.Signature.PartialEq g.C.Signature.FixedBytes) l.left;
}

abbrev pub decreases-loop-left : goal.decreases-loop-left
decreases-loop-left g l = length l.left
