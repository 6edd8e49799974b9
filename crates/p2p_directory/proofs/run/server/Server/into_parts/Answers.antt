use Rattle.std.proofs.Common.{◌∙◌, ap}
use Rattle.std.specs.Option.{is_some}
use Rattle.p2p_directory.proofs.run.server.Server.into_parts.Goals as goal

pub returns-clause-held : goal.returns-clause-held
returns-clause-held g c = rw (← c.self.view_is) c.into_held.ensures

pub returns-clause-agree : goal.returns-clause-agree
returns-clause-agree g c = λ q. ap is_some (c.into_held.ensures q) ∙ c.self.invariant.0 q
