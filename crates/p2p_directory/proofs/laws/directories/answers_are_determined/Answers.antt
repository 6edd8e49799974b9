use Rattle.std.proofs.Common.{subst, sym}
use Rattle.std.specs.Cmp.{IsTotalOrder}
use Rattle.p2p_directory.proofs.Definitions.Keys.{exact_from}
use Rattle.p2p_tracker.proofs.Definitions.Listed
use Rattle.p2p_directory.proofs.laws.directories.answers_are_determined.Goals as goal

pub returns-clause-lists : goal.returns-clause-lists
returns-clause-lists g c = λ s order test xs ys.
    Listed.one_list s (subst IsTotalOrder (sym order) g.met.C.Ord.total) (exact_from s g.C.Ord.cmp order g.met.C.PublicKey.exact) test xs ys

pub returns-clause-numbers : goal.returns-clause-numbers
returns-clause-numbers g c = λ s order w m n.
    Listed.one_number s (subst IsTotalOrder (sym order) g.met.C.Ord.total) (exact_from s g.C.Ord.cmp order g.met.C.PublicKey.exact) w m n

pub returns-clause-cooled : goal.returns-clause-cooled
returns-clause-cooled g c = λ s order w t m n.
    Listed.one_number_cooled s (subst IsTotalOrder (sym order) g.met.C.Ord.total) (exact_from s g.C.Ord.cmp order g.met.C.PublicKey.exact) w t m n
