use Rattle.p2p_directory.proofs.LawsOfRuns.Forgotten
use Rattle.p2p_directory.proofs.laws.directories.absent_are_forgotten.Goals as goal

pub returns : goal.returns
returns g c = λ s cs p gone. Forgotten.absent s cs p gone
