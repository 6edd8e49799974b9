use Rattle.std.proofs.Common.{◌≡◌, ◌++◌, filter, true}
use Rattle.std.specs.Duration.{as_nanos}
use Rattle.std.specs.List.{list_any}
use Rattle.std.specs.Map.{keys_of}
use Rattle.std.specs.Option.{option_map}
use Rattle.p2p_tracker.specs.Record.{is_now, later_moment}
use Rattle.p2p_tracker.specs.Private.Dialling.{entry_state, earliest, least_by}
use Rattle.p2p_tracker.proofs.directory.records.listing.dialable_in.Given as goal

-- with those that are left, all are listed, and the least moment is that of all; who is left is one of all
abbrev pub invariant-loop-peer : goal.invariant-loop-peer
invariant-loop-peer g l = record {
  peers : l.answer.peers.items ++ keys_of (filter (λ e. is_now (entry_state g.C.Ord.cmp l.blocks l.cfg (as_nanos l.now) e)) l.peer-iterator)
      ≡ keys_of (filter (λ e. is_now (entry_state g.C.Ord.cmp l.blocks l.cfg (as_nanos l.now) e)) l.map.entries);
  next : earliest (option_map as_nanos l.answer.next_query_at)
      (least_by (λ e. later_moment (entry_state g.C.Ord.cmp l.blocks l.cfg (as_nanos l.now) e)) l.peer-iterator)
      ≡ least_by (λ e. later_moment (entry_state g.C.Ord.cmp l.blocks l.cfg (as_nanos l.now) e)) l.map.entries;
  left : list_any (λ e. is_now (entry_state g.C.Ord.cmp l.blocks l.cfg (as_nanos l.now) e)) l.peer-iterator ≡ true
      → list_any (λ e. is_now (entry_state g.C.Ord.cmp l.blocks l.cfg (as_nanos l.now) e)) l.map.entries ≡ true;
}
