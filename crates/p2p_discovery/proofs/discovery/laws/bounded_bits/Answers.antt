use Rattle.std.proofs.Common.{◌+◌, ◌*◌, ◌≤◌, length, ap, arith}
use Rattle.std.proofs.lemmas.List.{length-append}
use Rattle.std.proofs.lemmas.Result.{IfOk-weaker}
use Rattle.p2p_discovery.specs.BitVec.{bit_vec_spelling}
use Rattle.p2p_discovery.proofs.Lengths.{bits_bounded}
use Rattle.p2p_discovery.proofs.discovery.laws.bounded_bits.Goals as goal

pub returns-clause-bounded : goal.returns-clause-bounded
returns-clause-bounded c =
    IfOk-weaker c.read_cfg.result _
    (λ v. length v.bits + 8 * length c.read_cfg.new.buf ≤ 8 * length c.args.buf.now)
    (λ v h. omega (
      arith,
      bits_bounded v,
      ap length h.2,
      length-append (bit_vec_spelling v) c.read_cfg.new.buf,
    ))
    c.read_cfg.ensures.found
