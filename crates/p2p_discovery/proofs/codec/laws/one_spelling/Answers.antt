use Rattle.p2p_discovery.proofs.ReadLaws.{one_value}
use Rattle.p2p_discovery.proofs.codec.laws.one_spelling.Goals as goal

pub returns : goal.returns
returns g c = λ v w x y is_v admits_v is_w admits_w same. one_value (g.met.T.Read.lawful c.args.cfg.now) v w x y (is_v, admits_v) (is_w, admits_w) same
