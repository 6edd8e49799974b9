use Rattle.std.proofs.Common.{sym, ◌∙◌}
use Rattle.std.specs.BTreeMap.{is_at}
use Rattle.std.proofs.lemmas.Map.Steps.{set_value_same}
use Rattle.p2p_tracker.proofs.directory.records.Records.connect.Goals as goal

-- the record is written back as it was
pub returns-then-ne-clause-none : goal.returns-then-ne-clause-none
returns-then-ne-clause-none g c =
    let v = c.in_ok-found.found.now in
    (c.get_mut.follows.holds v).0
    ∙ set_value_same (is_at (g.C.Ord.cmp c.args.peer.now)) c.self.inside.map.entries v (sym c.in_ok-found.ensures.value)
    ∙ c.self.view_is
