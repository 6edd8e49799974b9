use Rattle.std.proofs.Common.{subst, sym}
use Rattle.std.specs.Cmp.{IsTotalOrder}
use Rattle.p2p_directory.proofs.Definitions.Keys.{exact_from}
use Rattle.p2p_directory.proofs.LawsOfRuns.Laws
use Rattle.p2p_directory.proofs.LawsOfRuns.OrderRuns
use Rattle.p2p_directory.proofs.LawsOfRuns.BoundRuns
use Rattle.p2p_directory.proofs.laws.runs.laws_of_a_run.Goals as goal

pub returns-clause-laws : goal.returns-clause-laws
returns-clause-laws g c = λ s order least cs rs answers.
    Laws.laws_of_run s (exact_from s g.C.Ord.cmp order g.met.C.PublicKey.exact) cs rs answers
    (subst IsTotalOrder (sym order) g.met.C.Ord.total) least

pub returns-clause-grants : goal.returns-clause-grants
returns-clause-grants g c = λ s order cs rs answers.
    Laws.laws_of_grants s (exact_from s g.C.Ord.cmp order g.met.C.PublicKey.exact) cs rs answers

pub returns-clause-order : goal.returns-clause-order
returns-clause-order g c = λ s least cs rs answers. OrderRuns.keep_order s least cs rs answers

pub returns-clause-bounds : goal.returns-clause-bounds
returns-clause-bounds g c = λ s order n cs rs answers.
    BoundRuns.keep_bound s n (subst IsTotalOrder (sym order) g.met.C.Ord.total) cs rs answers
