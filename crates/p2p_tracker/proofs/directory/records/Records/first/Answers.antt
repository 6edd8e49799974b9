use Rattle.std.proofs.Common.{true, sym, ◌∙◌, ap, Some}
use Rattle.std.specs.Prelude.{if◌then◌else◌}
use Rattle.std.specs.Option.{option_map}
use Rattle.std.specs.Ordering.{is_eq}
use Rattle.p2p_discovery.specs.declared.types.ingress.Ingress.{Ingress}
use Rattle.p2p_tracker.specs.Record.{new_record}
use Rattle.p2p_tracker.specs.Seen.{RecordView}
use Rattle.p2p_tracker.specs.Lists.{last_ingress_by}
use Rattle.p2p_tracker.specs.declared.record.Address.TheVariants.{Bootstrapper}
use Rattle.p2p_tracker.proofs.SetsAndRecords.Bootstrapped.{last_ingress-push, mapped}
use Rattle.p2p_tracker.proofs.directory.records.Records.first.Goals as goal

pub loop-peer-preserved : goal.loop-peer-preserved
loop-peer-preserved g c = λ q.
    let record_at : Ingress → RecordView g.row.C.Denot g.row.C-Signature.Denot = λ ingress. new_record (Bootstrapper ingress) true in
    let same = is_eq (g.C.Ord.cmp c.in-Some.peer q) in
    let before = last_ingress_by g.C.Ord.cmp q c.loop-peer.yielded in
    c.in_ok-put.ensures.ok q
    ∙ (λ i. if same then Some (c.bootstrapper.ensures i) else c.loop-peer.invariant q i)
    ∙ sym (mapped record_at same c.in-Some.ingress before)
    ∙ ap (option_map record_at) (sym (last_ingress-push g.C.Ord.cmp q c.loop-peer.yielded (c.in-Some.peer, c.in-Some.ingress)))
