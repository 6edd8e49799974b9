use Rattle.std.proofs.Common.{◌≡◌, ◌+◌, take, length}
use Rattle.p2p_session.specs.Answers.{keys_bytes, put_at}
use Rattle.p2p_session.proofs.answer.put_keys.Given as goal
use Rattle.p2p_session.specs.Schemes.{scheme_by}

abbrev pub invariant-loop-key : goal.invariant-loop-key
invariant-loop-key g l =
    let done = (keys_bytes (scheme_by g.C.PartialOrd g.C.Ord g.C.PartialEq g.C.FixedBytes g.C.PublicKey g.C.Signature.PartialEq g.C.Signature.FixedBytes)) (take l.key-index l.keys) in
    record { at : l.at ≡ l.start + length done; out : l.out ≡ put_at l.start done l.fn.out }
