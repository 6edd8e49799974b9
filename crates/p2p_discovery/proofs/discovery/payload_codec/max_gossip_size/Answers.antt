use Rattle.std.proofs.Common.{rules}
use Rattle.p2p_discovery.proofs.Lengths.{gossip_short}
use Rattle.p2p_discovery.proofs.discovery.payload_codec.max_gossip_size.Goals as goal

pub returns-clause-value : goal.returns-clause-value
returns-clause-value g c = search rules

pub returns-clause-bound : goal.returns-clause-bound
returns-clause-bound g c =
    λ limits p e f h a other. rw (returns-clause-value g c, ← e, ← f)
    (gossip_short g.met.C.FixedBytes.fixed g.met.C.Signature.FixedBytes.fixed limits p h a other)
