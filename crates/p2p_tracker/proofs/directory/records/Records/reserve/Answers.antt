use Rattle.std.proofs.Common.{◌≡◌, refl, ◌∙◌}
use Rattle.std.specs.BTreeMap.{is_at}
use Rattle.p2p_discovery.proofs.Results.{OnErr-from}
use Rattle.p2p_tracker.specs.Seen.{RecordView}
use Rattle.p2p_tracker.proofs.SetsAndRecords.Entries.{found_written}
use Rattle.p2p_tracker.proofs.directory.records.Records.reserve.Given.{Over}
use Rattle.p2p_tracker.proofs.directory.records.Records.reserve.Goals.{In-Some}
use Rattle.p2p_tracker.proofs.directory.records.Records.reserve.Goals as goal

-- the record that was found, written back as it was, changes nothing
unchanged : (g : Over) (c : In-Some g) (w : RecordView g.row.C.Denot g.row.C-Signature.Denot) → w ≡ c.in-Some.found.now →
    (c.get_mut.follows.lender w).entries ≡ c.args.self.now
unchanged g c w same =
    found_written (is_at (g.C.Ord.cmp c.args.peer.now)) c.self.inside.map.entries (c.get_mut.follows.lender w).entries
    c.in-Some.found.now w (c.get_mut.follows.holds w).0 same c.in-Some.ensures.value
    ∙ c.self.view_is

pub returns-in_err-metadata-clause-err : goal.returns-in_err-metadata-clause-err
returns-in_err-metadata-clause-err g c =
    OnErr-from c.from_residual.result (unchanged g (goal.at.returns-in_err-metadata-clause-err g c).In-Some c.in-Some.found.now refl, refl)

pub returns-in_default-2-clause-refused : goal.returns-in_default-2-clause-refused
returns-in_default-2-clause-refused g c = (unchanged g (goal.at.returns-in_default-2-clause-refused g c).In-Some c.in-Some.found.now refl, refl)

pub returns-in_err-keep_reserved-clause-err : goal.returns-in_err-keep_reserved-clause-err
returns-in_err-keep_reserved-clause-err g c =
    OnErr-from c.from_residual-in_err-keep_reserved.result (
      unchanged g (goal.at.returns-in_err-keep_reserved-clause-err g c).In-Some c.keep_reserved.new.found c.in_err-keep_reserved.ensures.err.0,
      c.in_err-keep_reserved.ensures.err.1,
    )
