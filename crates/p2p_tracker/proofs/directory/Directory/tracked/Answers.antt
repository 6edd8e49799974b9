use Rattle.std.proofs.Common.{not, filter, length, ◌∙◌, ap, arith}
use Rattle.std.proofs.lemmas.Map.Entries.{length-keys_of}
use Rattle.p2p_tracker.specs.Record.{is_myself}
use Rattle.p2p_tracker.specs.Seen.{RecordView, DirectoryView}
use Rattle.p2p_tracker.specs.Directory.{other_keys}
use Rattle.p2p_tracker.proofs.SetsAndRecords.Own.{one_passes}
use Rattle.p2p_tracker.proofs.directory.Directory.tracked.Goals as goal

pub overflow_sub-result : goal.overflow_sub-result
overflow_sub-result g c =
    let all = one_passes g.met.C.Ord.total g.met.C.PublicKey.exact
    (λ (r : RecordView g.row.C.Denot g.row.C-Signature.Denot). is_myself r.address)
    c.self.inside.own c.self.inside.records c.len.ensures.sorted
    c.self.invariant.whole.own.is_own in
    omega (arith, all, c.len.ensures.count)

pub returns-clause-count : goal.returns-clause-count
returns-clause-count g c =
    let own : RecordView g.row.C.Denot g.row.C-Signature.Denot → _ = λ r. is_myself r.address in
    let all = one_passes g.met.C.Ord.total g.met.C.PublicKey.exact own c.self.inside.own
    c.self.inside.records c.len.ensures.sorted c.self.invariant.whole.own.is_own in
    let counted = length-keys_of (filter (λ e. not (own e.1)) c.self.inside.records) in
    omega (arith, all, c.len.ensures.count, counted)
    ∙ ap (λ (d : DirectoryView g.row.C.Denot g.row.C-Signature.Denot). length (other_keys d.records))
    c.self.view_is
