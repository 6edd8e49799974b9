use Rattle.p2p_discovery.specs.Laws.Data.{payload_short}
use Rattle.p2p_discovery.proofs.discovery.laws.short_data_frames.Goals as goal

pub returns : goal.returns
returns g c = payload_short
