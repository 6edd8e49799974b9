use Rattle.std.proofs.Common.{Some, sym, ◌∙◌, ap}
use Rattle.std.specs.Map.{values_of}
use Rattle.p2p_tracker.specs.Seen.{DirectoryView}
use Rattle.p2p_tracker.proofs.SetsAndRecords.Shared.{bit_vec_told, no_bit_vec_told}
use Rattle.p2p_tracker.proofs.directory.Directory.get_random_bit_vec.Goals as goal

pub returns-in_ok-knowledge-in-Some-clause-bits : goal.returns-in_ok-knowledge-in-Some-clause-bits
returns-in_ok-knowledge-in-Some-clause-bits g c =
    (λ i. Some (record {
      index = c.index.ensures i;
      bits = (c.in_ok-knowledge-in-Some.ensures ∙ ap values_of c.primary.ensures.bits) i;
    }))
    ∙ bit_vec_told g.C.Ord.cmp c.args.self.now c.self.inside.sets c.self.inside.records
    c.self.inside.config.dial_fail_limit c.args.place c.in-Some.set.now
    (ap (λ (d : DirectoryView g.row.C.Denot g.row.C-Signature.Denot). d.sets) (sym c.self.view_is))
    (ap (λ (d : DirectoryView g.row.C.Denot g.row.C-Signature.Denot). d.records) (sym c.self.view_is))
    (ap (λ (d : DirectoryView g.row.C.Denot g.row.C-Signature.Denot). d.config.dial_fail_limit)
    (sym c.self.view_is))
    c.self.invariant.whole.bits (sym c.in-Some.ensures)

pub returns-in-None-clause-bits : goal.returns-in-None-clause-bits
returns-in-None-clause-bits g c =
    no_bit_vec_told g.C.Ord.cmp c.args.self.now c.self.inside.sets c.args.place
    (ap (λ (d : DirectoryView g.row.C.Denot g.row.C-Signature.Denot). d.sets) (sym c.self.view_is))
    (sym c.in-None.ensures)
