use Rattle.std.proofs.Common.{arith}
use Rattle.p2p_discovery.proofs.codec.varint.U32EncodeSize.encode_size.Goals as goal

pub returns-clause-bound : goal.returns-clause-bound
returns-clause-bound c = c.group_count.ensures.short 5 (omega arith) (omega arith)
