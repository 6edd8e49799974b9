use Rattle.std.proofs.Common.{◌≡◌, ◌<◌, sym, ◌∙◌, ap, subst, Some, length}
use Rattle.std.specs.Prelude.{IfOk, OnErr}
use Rattle.std.specs.Option.{option_map, IsSomeAnd}
use Rattle.std.specs.Duration.{as_nanos}
use Rattle.std.specs.Map.{keys_of}
use Rattle.p2p_tracker.specs.Directory.{infos_in, shared_for}
use Rattle.p2p_tracker.specs.Seen.{DirectoryView}
use Rattle.p2p_tracker.proofs.SetsAndRecords.Shared.{infos_told, infos_not_found}
use Rattle.p2p_tracker.proofs.directory.Directory.infos.Given.{Over}
use Rattle.p2p_tracker.proofs.directory.Directory.infos.Goals.{After-shared_for}
use Rattle.p2p_tracker.proofs.directory.Directory.infos.Goals as goal

-- the infos for the set that was found are those of its primary peers
told : (g : Over) (c : After-shared_for g) →
    shared_for g.C.Ord.cmp c.self.inside.records c.epoch_millis.result c.ordered-peers.result.now c.args.bit_vec.now.bits
    ≡ infos_in g.C.Ord.cmp c.args.self.now c.args.bit_vec.now.index c.args.bit_vec.now.bits (as_nanos c.args.now)
told g c =
    infos_told g.C.Ord.cmp c.args.self.now c.self.inside.sets c.self.inside.records c.args.bit_vec.now.index
    c.args.bit_vec.now.bits (as_nanos c.args.now) c.in-Some.set.now _ _
    (ap (λ (d : DirectoryView g.row.C.Denot g.row.C-Signature.Denot). d.sets) (sym c.self.view_is))
    (ap (λ (d : DirectoryView g.row.C.Denot g.row.C-Signature.Denot). d.records) (sym c.self.view_is))
    (sym c.in-Some.ensures) c.epoch_millis.ensures
    (c.ordered-peers.ensures ∙ ap (λ es. keys_of es) c.primary.ensures.bits)

pub returns-in-Some-clause-infos : goal.returns-in-Some-clause-infos
returns-in-Some-clause-infos g c =
    subst (λ o. IfOk c.shared_for.result (λ infos. option_map (λ v. v.items) infos ≡ o))
    (told g (goal.at.returns-in-Some-clause-infos g c).After-shared_for) c.shared_for.ensures.infos

pub returns-in-Some-clause-err : goal.returns-in-Some-clause-err
returns-in-Some-clause-err g c =
    subst (λ o. OnErr c.shared_for.result (IsSomeAnd o (λ infos. 0 < length infos)))
    (told g (goal.at.returns-in-Some-clause-err g c).After-shared_for) c.shared_for.ensures.err

pub returns-in-None-clause-infos : goal.returns-in-None-clause-infos
returns-in-None-clause-infos g c =
    let v = c.args.bit_vec.now in
    ap Some c.new.ensures.items
    ∙ sym (infos_not_found g.C.Ord.cmp c.args.self.now c.self.inside.sets v.index v.bits
    (as_nanos c.args.now)
    (ap (λ (d : DirectoryView g.row.C.Denot g.row.C-Signature.Denot). d.sets) (sym c.self.view_is))
    (sym c.in-None.ensures))
