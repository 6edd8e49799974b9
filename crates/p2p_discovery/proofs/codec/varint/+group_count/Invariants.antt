use Rattle.p2p_discovery.proofs.codec.varint.+group_count.Given as goal

abbrev pub decreases-group_count : goal.decreases-group_count
decreases-group_count l = l.n
