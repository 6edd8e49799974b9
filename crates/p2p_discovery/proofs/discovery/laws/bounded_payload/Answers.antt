use Rattle.std.proofs.Common.{◌+◌, length, ap, sym, subst}
use Rattle.std.proofs.lemmas.Result.{IfOk-weaker}
use Rattle.p2p_discovery.specs.Payload.{IsBoundedBy}
use Rattle.p2p_discovery.proofs.Lengths.{payload_bounded}
use Rattle.p2p_discovery.proofs.discovery.laws.bounded_payload.Goals as goal

pub returns-clause-bounded : goal.returns-clause-bounded
returns-clause-bounded g c =
    let least = 6 + g.C.FixedBytes.SIZE + g.C.Signature.FixedBytes.SIZE in
    IfOk-weaker c.decode_cfg.result _ (IsBoundedBy least (length c.args.frame))
    (λ p h. subst (λ n. IsBoundedBy least n p) (sym (ap length h.2))
    (payload_bounded g.met.C.FixedBytes.fixed g.met.C.Signature.FixedBytes.fixed p h.0))
    c.decode_cfg.ensures.found
