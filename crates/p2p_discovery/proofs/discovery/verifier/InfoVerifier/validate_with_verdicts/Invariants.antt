use Rattle.std.proofs.Common.{◌≡◌, drop}
use Rattle.std.specs.Duration.{as_nanos}
use Rattle.p2p_discovery.specs.Judgement.{judge_of, first_refusal_by}
use Rattle.p2p_discovery.proofs.discovery.verifier.InfoVerifier.validate_with_verdicts.Given as goal

abbrev pub invariant-loop-place : goal.invariant-loop-place
invariant-loop-place g l =
    let judge = judge_of g.C.Ord.cmp g.C.PublicKey.verifies l.self in
    first_refusal_by judge (drop l.place l.verdicts) (as_nanos l.now) (drop l.place l.infos)
    ≡ first_refusal_by judge l.verdicts (as_nanos l.now) l.infos
