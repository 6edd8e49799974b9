use Rattle.std.proofs.Common.{◌+◌, ◌*◌, ◌≤◌, length, ap, arith}
use Rattle.std.proofs.lemmas.List.{length-append}
use Rattle.std.proofs.lemmas.Result.{IfOk-weaker}
use Rattle.p2p_discovery.specs.Info.{infos_spelling}
use Rattle.p2p_discovery.proofs.Lengths.{infos_bounded}
use Rattle.p2p_discovery.proofs.discovery.laws.bounded_infos.Goals as goal

pub returns-clause-bounded : goal.returns-clause-bounded
returns-clause-bounded g c =
    let spelled = infos_spelling g.C.FixedBytes.spelled g.C.Signature.FixedBytes.spelled in
    IfOk-weaker c.read_cfg.result _
    (λ is. length is * (6 + g.C.FixedBytes.SIZE + g.C.Signature.FixedBytes.SIZE)
    + length c.read_cfg.new.buf ≤ length c.args.buf.now)
    (λ is h. omega (
      arith,
      infos_bounded g.met.C.FixedBytes.fixed g.met.C.Signature.FixedBytes.fixed is h.0,
      ap length h.2,
      length-append (spelled is) c.read_cfg.new.buf,
    ))
    c.read_cfg.ensures.found
