use Rattle.std.proofs.Common.{◌≡◌, ◌++◌, take, drop}
use Rattle.std.specs.Duration.{as_nanos}
use Rattle.p2p_discovery.specs.Judgement.{judge_of, judged_before}
use Rattle.p2p_discovery.proofs.discovery.verifier.InfoVerifier.count_to_verify.Given as goal

abbrev pub invariant-loop-place : goal.invariant-loop-place
invariant-loop-place g l =
    let judge = judge_of g.C.Ord.cmp g.C.PublicKey.verifies l.self in
    take l.place l.infos ++ judged_before judge (as_nanos l.now) (drop l.place l.infos)
    ≡ judged_before judge (as_nanos l.now) l.infos
