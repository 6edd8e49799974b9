use Rattle.std.proofs.Common.{subst, sym}
use Rattle.std.specs.Cmp.{IsTotalOrder}
use Rattle.p2p_directory.proofs.Definitions.Keys.{exact_from}
use Rattle.p2p_directory.proofs.LawsOfRuns.Bounded
use Rattle.p2p_directory.proofs.LawsOfRuns.Listed
use Rattle.p2p_directory.proofs.laws.directories.presence_is_bounded.Goals as goal

pub returns-clause-bounded : goal.returns-clause-bounded
returns-clause-bounded g c = λ s order n cs h.
    Bounded.bounded s n (subst IsTotalOrder (sym order) g.met.C.Ord.total) cs h

pub returns-clause-listed : goal.returns-clause-listed
returns-clause-listed g c = λ s order cs.
    Listed.are_listed s (exact_from s g.C.Ord.cmp order g.met.C.PublicKey.exact)
    (subst IsTotalOrder (sym order) g.met.C.Ord.total) cs

pub returns-clause-named : goal.returns-clause-named
returns-clause-named g c = λ s order x.
    Listed.naming_listed s (exact_from s g.C.Ord.cmp order g.met.C.PublicKey.exact)
    (subst IsTotalOrder (sym order) g.met.C.Ord.total) x
