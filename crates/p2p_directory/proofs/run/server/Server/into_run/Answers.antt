use Rattle.std.proofs.Common.{ap, ◌∙◌}
use Rattle.std.specs.Prelude.{is_some}
use Rattle.p2p_directory.specs.Private.Serving.{ServerView}
use Rattle.p2p_directory.specs.Private.Slots.{held_in}
use Rattle.p2p_directory.proofs.run.server.Server.into_run.Goals as goal

pub invariant_of-result : goal.invariant_of-result
invariant_of-result g c = record { agree = λ q. ap is_some (c.into_held.ensures q) ∙ c.self.invariant.0 q }

pub returns-clause-held : goal.returns-clause-held
returns-clause-held g c = λ q.
    c.into_held.ensures q ∙ ap (λ (v : ServerView g.row.C.Denot g.row.C-Signature.Denot). held_in g.C.Ord.cmp v.slots q) c.self.view_is
