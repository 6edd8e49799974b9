use Rattle.std.proofs.Common.{subst, sym}
use Rattle.std.specs.Cmp.{IsTotalOrder}
use Rattle.p2p_directory.proofs.LawsOfRuns.Dialled
use Rattle.p2p_directory.proofs.laws.directories.dialable_are_granted.Goals as goal

pub returns-clause-whole : goal.returns-clause-whole
returns-clause-whole g c = λ s order some cs t xs next answer. Dialled.listed_dialled s (subst IsTotalOrder (sym order) g.met.C.Ord.total) some cs t xs answer.0

pub returns-clause-chosen : goal.returns-clause-chosen
returns-clause-chosen g c = λ s order some cs t ps xs next answer chosen. Dialled.chosen_dialled s some cs t ps xs answer.0 chosen
