use Rattle.std.proofs.Common.{◌≡◌, take, not}
use Rattle.std.specs.List.{filter}
use Rattle.p2p_discovery.specs.Ordered.{has_key}
use Rattle.p2p_discovery.proofs.sets.peers_outside.Given as goal

-- those of the peers so far
abbrev pub invariant-loop-peer : goal.invariant-loop-peer
invariant-loop-peer g l = l.rest.items ≡ filter (λ q. not (has_key g.P.Ord.cmp l.set q)) (take l.peer-index l.peers)
