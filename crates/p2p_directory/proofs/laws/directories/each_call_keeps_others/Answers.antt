use Rattle.p2p_directory.proofs.LawsOfRuns.Isolation
use Rattle.p2p_directory.proofs.laws.directories.each_call_keeps_others.Goals as goal

pub returns-clause-another : goal.returns-clause-another
returns-clause-another g c = λ s some p call cs e. Isolation.another_alike s some p call cs e

pub returns-clause-narrowed : goal.returns-clause-narrowed
returns-clause-narrowed g c = λ s p w call. Isolation.narrowed_alike s p w call
