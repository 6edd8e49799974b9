use Rattle.p2p_driver.proofs.Fitting.{eleven}
use Rattle.p2p_driver.proofs.heads.eleven_bytes_are_enough.Goals as goal

pub returns : goal.returns
returns c = eleven
