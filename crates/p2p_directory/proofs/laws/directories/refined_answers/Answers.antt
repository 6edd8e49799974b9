use Rattle.std.proofs.Common.{sym, subst}
use Rattle.std.specs.Cmp.{IsTotalOrder}
use Rattle.p2p_directory.specs.Run.{world_after}
use Rattle.p2p_directory.proofs.LawsOfRuns.Forgotten
use Rattle.p2p_directory.proofs.Refinement.CallsRefine
use Rattle.p2p_directory.proofs.Refinement.BlocksRefine
use Rattle.p2p_directory.proofs.Refinement.DialsRefine
use Rattle.p2p_directory.proofs.Refinement.KnowledgeRefines
use Rattle.p2p_directory.proofs.laws.directories.refined_answers.Goals as goal

pub returns : goal.returns
returns g c = λ s order fits cs d refines.
    let w = world_after s cs in
    record {
      calls = CallsRefine.answer s w d refines;
      blocks = BlocksRefine.answer s w d refines;
      knowledge = KnowledgeRefines.answer s (subst IsTotalOrder (sym order) g.met.C.Ord.total) fits w d (Forgotten.absent s cs) refines;
      dials = DialsRefine.answer s w d refines;
    }
