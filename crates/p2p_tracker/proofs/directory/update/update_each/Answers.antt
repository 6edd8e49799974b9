use Rattle.std.proofs.Common.{◌∷◌, [], sym, ◌∙◌, ap}
use Rattle.std.specs.Option.{option_map}
use Rattle.std.specs.BTreeMap.{is_at}
use Rattle.std.proofs.lemmas.List.Elements.{filter-append}
use Rattle.p2p_discovery.specs.declared.discovery.Info.{Info}
use Rattle.p2p_tracker.specs.Directory.{infos_of, updated_record}
use Rattle.p2p_tracker.specs.Seen.{record_at}
use Rattle.p2p_tracker.proofs.SetsAndRecords.Changes.{updated_more}
use Rattle.p2p_tracker.proofs.SetsAndRecords.Moved.{item_moved}
use Rattle.p2p_tracker.proofs.directory.update.update_each.Goals as goal

pub loop-info-preserved : goal.loop-info-preserved
loop-info-preserved g c =
    let cmp = g.C.Ord.cmp in
    let kept = c.loop-info.invariant in
    let before = c.loop-info.yielded in
    let info = c.in-Some.info in
    record {
      rest = item_moved before c.loop-info.info-iterator.rest.items c.next.new.self.rest.items c.args.infos.items info kept.rest c.in-Some.ensures.steps.0;
      sets = c.update_one.ensures.sets ∙ kept.sets;
      records = λ q.
          updated_more (is_at (cmp info.public_key) q) (infos_of cmp before q) info
          (record_at cmp c.args.records.now q) (record_at cmp c.loop-info.records q)
          (record_at cmp c.update_one.new.records q) (kept.records q) (c.update_one.ensures.records q)
          ∙ ap (λ is. option_map (updated_record is) (record_at cmp c.args.records.now q))
          (sym (filter-append (λ (i : Info g.row.C.Denot g.row.C-Signature.Denot). is_at (cmp i.public_key) q)
          before (info ∷ [])));
      bits = c.update_one.ensures.bits;
    }
