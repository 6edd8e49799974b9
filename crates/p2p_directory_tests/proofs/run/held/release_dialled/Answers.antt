use Rattle.std.proofs.Common.{sym, ap, ◌∙◌}
use Rattle.std.specs.Prelude.{is_some}
use Rattle.p2p_directory_tests.proofs.run.held.release_dialled.Goals as goal

pub release-requires : goal.release-requires
release-requires g c =
    rw c.in-Some.ensures.peer (sym (c.requires c.args.peer.now) ∙ ap is_some (sym c.in-Some.ensures.taken))
