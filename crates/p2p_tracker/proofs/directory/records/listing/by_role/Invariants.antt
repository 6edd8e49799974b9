use Rattle.std.proofs.Common.{◌≡◌, ◌++◌, filter, true}
use Rattle.std.specs.List.{list_any}
use Rattle.std.specs.Map.{keys_of}
use Rattle.p2p_tracker.specs.Private.Dialling.{is_primary_record, is_secondary_record, is_record_in_set}
use Rattle.p2p_tracker.proofs.directory.records.listing.by_role.Given as goal

-- with those that are left, all are listed; who is left is one of all
abbrev pub invariant-loop-peer : goal.invariant-loop-peer
invariant-loop-peer g l = record {
  primary : l.primary.items ++ keys_of (filter (λ e. is_primary_record e.1) l.peer-iterator) ≡ keys_of (filter (λ e. is_primary_record e.1) l.map.entries);
  secondary : l.secondary.items ++ keys_of (filter (λ e. is_secondary_record e.1) l.peer-iterator)
      ≡ keys_of (filter (λ e. is_secondary_record e.1) l.map.entries);
  left : list_any (λ e. is_record_in_set e.1) l.peer-iterator ≡ true → list_any (λ e. is_record_in_set e.1) l.map.entries ≡ true;
}
