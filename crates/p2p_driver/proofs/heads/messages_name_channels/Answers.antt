use Rattle.p2p_driver.proofs.Fitting.{begins, spells, found}
use Rattle.p2p_driver.proofs.heads.messages_name_channels.Goals as goal

pub returns-clause-spelled : goal.returns-clause-spelled
returns-clause-spelled c head number are = (begins head number are, spells head number)

pub returns-clause-found : goal.returns-clause-found
returns-clause-found c = found
