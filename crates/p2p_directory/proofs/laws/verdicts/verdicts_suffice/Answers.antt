use Rattle.p2p_directory.proofs.LawsOfGossip.Verdicts.{list_suffices, list_needs, one_suffices}
use Rattle.p2p_directory.proofs.laws.verdicts.verdicts_suffice.Goals as goal

pub returns-clause-list : goal.returns-clause-list
returns-clause-list g c = λ verifies judge now infos verdicts told.
    list_suffices verifies judge now infos verdicts told

pub returns-clause-needed : goal.returns-clause-needed
returns-clause-needed g c = λ verifies judge now infos before i behind listed right wrong.
    list_needs verifies judge now infos before i behind listed right wrong

pub returns-clause-one : goal.returns-clause-one
returns-clause-one g c = λ verifies judge now info verdicts told.
    one_suffices verifies judge now info verdicts told
