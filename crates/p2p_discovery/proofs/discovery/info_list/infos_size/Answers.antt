use Rattle.std.proofs.Common.{arith, ap, length}
use Rattle.std.proofs.lemmas.List.{length-append}
use Rattle.p2p_discovery.specs.Info.{IsInfo, info_spelling}
use Rattle.p2p_discovery.proofs.ListReads.{next_is, none_left, each_next}
use Rattle.p2p_discovery.proofs.discovery.info_list.infos_size.Goals as goal

pub loop-info-preserved : goal.loop-info-preserved
loop-info-preserved g c =
    let k = g.met.C.FixedBytes.fixed.small in
    let s = g.met.C.Signature.FixedBytes.fixed.small in
    let n = next_is (info_spelling g.C.FixedBytes.spelled g.C.Signature.FixedBytes.spelled) c.args.infos.now
    c.loop-info.info-index c.info-item.result c.loop-info-test.true c.info-item.is in
    record {
      size = omega (arith, rw length-append at (ap length n), c.encode_size-size.ensures.size, c.loop-info.invariant.size);
      value = λ h. c.loop-info.invariant.value
          (each_next IsInfo c.args.infos.now c.loop-info.info-index c.info-item.result c.loop-info-test.true
          c.info-item.is c.encode_size-size.ensures.value h);
      bound = omega (arith, k, s, c.encode_size-size.ensures.bound, c.loop-info.invariant.bound);
    }

pub returns-clause-size : goal.returns-clause-size
returns-clause-size g c =
    let n = none_left (info_spelling g.C.FixedBytes.spelled g.C.Signature.FixedBytes.spelled) c.args.infos.now c.loop-info.info-index c.loop-info-test.false in
    omega (arith, ap length n, c.loop-info.invariant.size)
