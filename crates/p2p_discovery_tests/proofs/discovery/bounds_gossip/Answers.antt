use Rattle.std.proofs.Common.{arith}
use Rattle.p2p_discovery.specs.Laws.Varint.{groups_short}
use Rattle.p2p_discovery_tests.proofs.discovery.bounds_gossip.Goals as goal

pub max_gossip_size-requires : goal.max_gossip_size-requires
max_gossip_size-requires c = omega (arith, groups_short 10 0)

pub max_gossip_size-requires-2 : goal.max_gossip_size-requires-2
max_gossip_size-requires-2 c = omega (arith, groups_short 10 0)

pub max_gossip_size-requires-3 : goal.max_gossip_size-requires-3
max_gossip_size-requires-3 c = omega (arith, groups_short 10 1000)

pub max_gossip_size-requires-4 : goal.max_gossip_size-requires-4
max_gossip_size-requires-4 c = omega (arith, groups_short 10 100000)
