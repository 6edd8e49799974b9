use Rattle.std.proofs.Common.{Some, None, sym, ◌∙◌, ap}
use Rattle.std.specs.List.{last_or}
use Rattle.std.specs.Option.{option_map}
use Rattle.p2p_discovery.proofs.Results.{OnErr-from}
use Rattle.p2p_tracker.specs.Seen.{DirectoryView}
use Rattle.p2p_tracker.specs.Private.Window.{plain_set, plain_sets}
use Rattle.p2p_tracker.proofs.SetsAndRecords.Windows.{last_plain}
use Rattle.p2p_tracker.proofs.SetsAndRecords.Retained.{named_in_last}
use Rattle.p2p_tracker.proofs.directory.Directory.latest_update.Goals as goal

pub returns-in_err-peers_in-in-Some-clause-err : goal.returns-in_err-peers_in-in-Some-clause-err
returns-in_err-peers_in-in-Some-clause-err g c = rw (← c.self.view_is)
    (OnErr-from c.from_residual.result
    (named_in_last g.met.C.Ord.total (plain_sets c.self.inside.sets) (plain_set c.in-Some.set.now)
    (last_plain c.self.inside.sets ∙ sym (ap (option_map plain_set) c.in-Some.ensures))
    c.in_err-peers_in-in-Some.ensures.err))

pub returns-in_ok-all-in-Some-clause-update : goal.returns-in_ok-all-in-Some-clause-update
returns-in_ok-all-in-Some-clause-update g c = (
  ap (λ (d : DirectoryView g.row.C.Denot g.row.C-Signature.Denot). last_or None d.sets) (sym c.self.view_is)
      ∙ last_plain c.self.inside.sets
      ∙ sym (ap (option_map plain_set) c.in-Some.ensures)
      ∙ (λ i. Some (record {
        index = sym c.index.ensures i;
        primary = (sym c.in_ok-peers_in-in-Some.ensures.peers i).primary;
        secondary = (sym c.in_ok-peers_in-in-Some.ensures.peers i).secondary;
      })),
  c.in_ok-all-in-Some.ensures.peers,
)

pub returns-in-None-clause-update : goal.returns-in-None-clause-update
returns-in-None-clause-update g c = rw (← c.self.view_is) (last_plain c.self.inside.sets ∙ sym (ap (option_map plain_set) c.in-None.ensures))
