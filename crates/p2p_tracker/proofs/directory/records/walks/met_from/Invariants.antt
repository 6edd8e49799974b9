use Rattle.std.proofs.Common.{◌≡◌, drop}
use Rattle.p2p_discovery.specs.Ordered.{has_key}
use Rattle.p2p_tracker.specs.Private.Walked.{above}
use Rattle.p2p_tracker.proofs.directory.records.walks.met_from.Given as goal

-- those that were passed are below the key
abbrev pub invariant-loop-at : goal.invariant-loop-at
invariant-loop-at g l = record {
  rest : above g.C.Ord.cmp l.key (drop l.at l.peers) ≡ above g.C.Ord.cmp l.key (drop l.from l.peers);
  met : has_key g.C.Ord.cmp (drop l.at l.peers) l.key ≡ has_key g.C.Ord.cmp (drop l.from l.peers) l.key;
}
