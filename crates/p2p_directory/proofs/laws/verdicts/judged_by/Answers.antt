use Rattle.p2p_directory.proofs.LawsOfGossip.FramesByVerdicts.{received_alike, received_over}
use Rattle.p2p_directory.proofs.LawsOfGossip.FramesByVerdicts.{received_given, answers_over}
use Rattle.p2p_directory.proofs.laws.verdicts.judged_by.Goals as goal

pub returns-clause-outcome : goal.returns-clause-outcome
returns-clause-outcome g c = λ verifies wire node frame now verdicts told.
    received_alike verifies wire now verdicts node frame told

pub returns-clause-seen : goal.returns-clause-seen
returns-clause-seen g c = λ verifies wire frame now verdicts r v v2 told seen.
    answers_over verifies wire now verdicts g.C.Ord.cmp frame r v v2 told seen

pub returns-clause-received : goal.returns-clause-received
returns-clause-received g c = λ verifies m wire calls frame now verdicts r v told is.
    received_over verifies wire now verdicts m calls frame r v told is

pub returns-clause-given : goal.returns-clause-given
returns-clause-given g c = λ verifies m wire calls frame now verdicts r v told is.
    received_given verifies wire now verdicts m calls frame r v told is
