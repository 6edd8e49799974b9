use Rattle.std.proofs.Common.{◌≡◌, ◌+◌, take, length}
use Rattle.std.specs.Prelude.{flat_map}
use Rattle.p2p_session.specs.Answers.{asked_bytes, put_at}
use Rattle.p2p_session.proofs.answer.put_asked.Given as goal
use Rattle.p2p_session.specs.Schemes.{scheme_by}

abbrev pub invariant-loop-info : goal.invariant-loop-info
invariant-loop-info g l =
    let done = flat_map (asked_bytes (scheme_by g.C.PartialOrd g.C.Ord g.C.PartialEq g.C.FixedBytes g.C.PublicKey g.C.Signature.PartialEq g.C.Signature.FixedBytes)) (take l.info-index l.infos) in
    record { at : l.at ≡ l.start + length done; out : l.out ≡ put_at l.start done l.fn.out }
