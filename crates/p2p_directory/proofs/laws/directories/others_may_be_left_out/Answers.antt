use Rattle.p2p_directory.proofs.Definitions.Keys.{exact_from}
use Rattle.p2p_directory.proofs.LawsOfRuns.Isolation
use Rattle.p2p_directory.proofs.laws.directories.others_may_be_left_out.Goals as goal

pub returns-clause-same : goal.returns-clause-same
returns-clause-same g c = λ s order some p cs. Isolation.isolated s some (exact_from s g.C.Ord.cmp order g.met.C.PublicKey.exact) p cs
