use Rattle.std.proofs.Common.{ap, ◌∙◌}
use Rattle.p2p_tracker.specs.Seen.{DirectoryView, record_of}
use Rattle.p2p_directory.specs.Held.{held_of, after_release}
use Rattle.p2p_directory.proofs.node.Node.finish.Goals as goal

pub returns : goal.returns
returns g c =
    let same = c.parts-directory.ensures.directory in
    let cmp = g.C.Ord.cmp in
    record {
      config = c.release_all.ensures.config ∙ ap (λ (d : DirectoryView g.row.C.Denot g.row.C-Signature.Denot). d.config) same;
      sets = c.release_all.ensures.sets ∙ ap (λ (d : DirectoryView g.row.C.Denot g.row.C-Signature.Denot). d.sets) same;
      blocks = c.release_all.ensures.blocks ∙ ap (λ (d : DirectoryView g.row.C.Denot g.row.C-Signature.Denot). d.blocks) same;
      cooldowns = c.release_all.ensures.cooldowns
          ∙ ap (λ (d : DirectoryView g.row.C.Denot g.row.C-Signature.Denot). d.cooldowns) same;
      records = λ q. c.release_all.ensures.records q
          ∙ ap (λ o. after_release o (record_of cmp c.parts-directory.result.0 q)) (c.parts-directory.ensures.held q)
          ∙ ap (λ d. after_release (held_of cmp c.args.self.held q) (record_of cmp d q)) same;
    }
