use Rattle.std.proofs.Common.{sym, subst}
use Rattle.std.proofs.lemmas.Map.Lookups.{CmpEqualImpliesEq}
use Rattle.p2p_tracker.specs.World.{past}
use Rattle.p2p_directory.proofs.LawsOfRuns.OneCall
use Rattle.p2p_directory.proofs.laws.steps.busy_is_one_step.Goals as goal

pub returns-clause-status : goal.returns-clause-status
returns-clause-status g c = λ s order some cs call p. OneCall.status_is s some cs call p

pub returns-clause-held : goal.returns-clause-held
returns-clause-held g c = λ s cs p. OneCall.held_is_busy s p (past s cs)

pub returns-clause-busy : goal.returns-clause-busy
returns-clause-busy g c = λ s order some cs call p.
    OneCall.busy_is s some (subst CmpEqualImpliesEq (sym order) g.met.C.PublicKey.exact) cs call p
