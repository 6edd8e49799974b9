use Rattle.p2p_directory.proofs.Definitions.Law
use Rattle.p2p_directory.proofs.laws.directories.recomputed_is_one_step.Goals as goal

pub returns : goal.returns
returns g c = λ s order some cs call. Law.recomputed_is_one_step s some cs call
