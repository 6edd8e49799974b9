use Rattle.p2p_directory.proofs.LawsOfRuns.OneCall
use Rattle.p2p_directory.proofs.laws.steps.infos_leave_moments.Goals as goal

pub returns-clause-updates : goal.returns-clause-updates
returns-clause-updates g c = λ s order some cs infos. OneCall.infos_leave s some cs infos

pub returns-clause-asks : goal.returns-clause-asks
returns-clause-asks g c = λ s order some cs question. OneCall.asks_leave s some cs question
