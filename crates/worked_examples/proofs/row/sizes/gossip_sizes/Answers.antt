use Rattle.std.proofs.Common.{arith}
use Rattle.p2p_discovery.specs.Laws.Varint.{groups_short}
use Rattle.worked_examples.proofs.row.sizes.gossip_sizes.Goals as goal

pub max_gossip_size-requires : goal.max_gossip_size-requires
max_gossip_size-requires g c = omega (arith, groups_short 10 1000)

pub max_gossip_size-requires-2 : goal.max_gossip_size-requires-2
max_gossip_size-requires-2 g c = omega (arith, groups_short 10 100000)
