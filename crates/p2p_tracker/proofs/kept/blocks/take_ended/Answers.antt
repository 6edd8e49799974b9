use Rattle.std.proofs.Common.{ap, sym, ◌∙◌, arith}
use Rattle.std.specs.List.{list_any}
use Rattle.std.specs.BTreeMap.{is_at}
use Rattle.p2p_tracker.specs.Private.Expirations.{end_cmp}
use Rattle.p2p_tracker.proofs.SetsAndRecords.Expirations.{none_first, not_before}
use Rattle.p2p_tracker.proofs.kept.blocks.take_ended.Goals as goal
use Rattle.p2p_tracker.proofs.kept.blocks.take_ended.Goals.{in_default-via-in-Some+else-end-as_nanos, in_default-via-in_default}

pub returns-in_default-clause-none : goal.returns-in_default-clause-none
returns-in_default-clause-none g c =
    elim c.in_default.branch [
      | in_default-via-in-Some+else-end-as_nanos w ↦
          λ e has. (let low = not_before g.C.Ord.cmp w.in-Some.field-0.now e (w.in-Some.ensures.least e has) in
          omega (arith, w.as_nanos.ensures, w.if-end-as_nanos.false, low))
      | in_default-via-in_default w ↦ λ e has. absurd (let none =
          none_first c.first.result c.args.expirations.now.keys w.in_default.is c.first.ensures.variant in let f =
          sym (ap (list_any (is_at (end_cmp g.C.Ord.cmp e))) none) ∙ has in cc)
    ]
