use Rattle.std.proofs.Common.{◌≡◌, ◌<◌, ◌++◌, OnOk, OnErr, length, ap, sym, subst, ◌∙◌}
use Rattle.std.specs.Option.{option_and_then, option_copied}
use Rattle.std.specs.Prelude.{option_to_list}
use Rattle.std.proofs.lemmas.List.{append-nil}
use Rattle.p2p_tracker.specs.Directory.{shared_at}
use Rattle.p2p_tracker.specs.Private.Among.{shared_with}
use Rattle.p2p_tracker.proofs.SetsAndRecords.Among.{found_at, found_nowhere}
use Rattle.p2p_tracker.proofs.directory.infos.copy_asked.Given.{Over}
use Rattle.p2p_tracker.proofs.directory.infos.copy_asked.Goals.{After-copy_info}
use Rattle.p2p_tracker.proofs.directory.infos.copy_asked.Goals as goal

pub returns-in_default-clause-infos : goal.returns-in_default-clause-infos
returns-in_default-clause-infos g c =
    let items = c.args.infos.now.items in
    let q = c.args.peer.now in
    let none =
    ap (λ o. option_to_list (option_and_then (λ known. shared_at g.C.Ord.cmp c.args.records.now c.args.millis (q, known)) o))
    (found_nowhere g.met.C.Ord.total g.met.C.PublicKey.exact c.args.peers.now c.args.bits.now q
    c.in_default.ensures.absent) in
    sym (append-nil items) ∙ ap (λ is. items ++ is) (sym none)

-- what is copied is what is shared with the peer's bit
same : (g : Over) (c : After-copy_info g) → option_copied c.shared-info.result
    ≡ shared_with g.C.Ord.cmp c.args.records.now c.args.millis c.args.peers.now c.args.bits.now c.args.peer.now
same g c =
    c.shared-info.ensures
    ∙ sym (ap (λ o. option_and_then (λ known. shared_at g.C.Ord.cmp c.args.records.now c.args.millis (c.args.peer.now, known)) o)
    (found_at g.met.C.Ord.total c.args.peers.now c.args.bits.now c.in-Some.place c.args.peer.now c.get.result
    c.position.ensures.sorted c.in-Some.ensures.found.in_range c.in-Some.ensures.found.at_place c.get.ensures))

pub returns-clause-infos : goal.returns-clause-infos
returns-clause-infos g c =
    subst (λ o. OnOk c.copy_info.result (c.copy_info.new.infos.items ≡ c.args.infos.now.items ++ option_to_list o))
    (same g (goal.at.returns-clause-infos g c).After-copy_info) c.copy_info.ensures.infos

pub returns-clause-err : goal.returns-clause-err
returns-clause-err g c =
    subst (λ o. OnErr c.copy_info.result (0 < length (option_to_list o)))
    (same g (goal.at.returns-clause-err g c).After-copy_info) c.copy_info.ensures.err
