use Rattle.p2p_directory.proofs.LawsOfRuns.FullQuestions
use Rattle.p2p_directory.proofs.laws.steps.full_questions_bring_all.Goals as goal

pub returns : goal.returns
returns g c = λ a s v w place asked kept bits t at full found same.
    FullQuestions.brings_all a s w v place asked kept bits t at full found same
