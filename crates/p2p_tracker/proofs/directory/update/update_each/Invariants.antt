use Rattle.std.proofs.Common.{◌≡◌, ◌++◌}
use Rattle.std.specs.Option.{option_map}
use Rattle.p2p_tracker.specs.Directory.{infos_of, updated_record}
use Rattle.p2p_tracker.specs.Seen.{record_at}
use Rattle.p2p_tracker.specs.Private.Window.{plain_sets}
use Rattle.p2p_tracker.specs.Private.Counts.{AreMarked}
use Rattle.p2p_tracker.proofs.directory.update.update_each.Given as goal

-- the infos so far are offered
abbrev pub invariant-loop-info : goal.invariant-loop-info
invariant-loop-info g l = record {
  rest : l.yielded ++ l.info-iterator.rest.items ≡ l.fn.infos.items;
  sets : plain_sets l.sets ≡ plain_sets l.fn.sets;
  records : (q : g.row.C.Denot) → record_at g.C.Ord.cmp l.records q ≡
      option_map (updated_record (infos_of g.C.Ord.cmp l.yielded q)) (record_at g.C.Ord.cmp l.fn.records q);
  bits : AreMarked g.C.Ord.cmp l.fn.limit l.sets (record_at g.C.Ord.cmp l.records);
}
