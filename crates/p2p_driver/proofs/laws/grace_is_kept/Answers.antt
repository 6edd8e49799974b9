use Rattle.p2p_driver.proofs.Spared.{gives_way_late}
use Rattle.p2p_driver.proofs.laws.grace_is_kept.Goals as goal

pub returns : goal.returns
returns g c b h n origin t m right = gives_way_late b h n origin t m right
