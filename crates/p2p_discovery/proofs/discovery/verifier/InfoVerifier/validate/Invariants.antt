use Rattle.std.proofs.Common.{◌≡◌, drop}
use Rattle.std.specs.Duration.{as_nanos}
use Rattle.p2p_discovery.specs.Judgement.{judge_of, first_refusal}
use Rattle.p2p_discovery.proofs.discovery.verifier.InfoVerifier.validate.Given as goal

abbrev pub invariant-loop-info : goal.invariant-loop-info
invariant-loop-info g l =
    first_refusal (judge_of g.C.Ord.cmp g.C.PublicKey.verifies l.self) (as_nanos l.now) (drop l.info-index l.infos)
    ≡ first_refusal (judge_of g.C.Ord.cmp g.C.PublicKey.verifies l.self) (as_nanos l.now) l.infos
