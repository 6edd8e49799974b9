use Rattle.std.proofs.Common.{arith, ap, length}
use Rattle.p2p_discovery.specs.Laws.Bits.{length-packed}
use Rattle.p2p_discovery.proofs.discovery.bits_codec.BitVecEncodeSize.encode_size.Goals as goal

pub returns-clause-bound : goal.returns-clause-bound
returns-clause-bound c = omega (arith, ap length c.as_bytes.ensures, length-packed c.args.self.now.bits, c.len.ensures)
