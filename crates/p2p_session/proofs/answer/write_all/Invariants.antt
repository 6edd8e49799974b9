use Rattle.std.proofs.Common.{◌≡◌, ◌+◌, take, length}
use Rattle.std.specs.Prelude.{flat_map}
use Rattle.p2p_session.specs.Answers.{put_at}
use Rattle.p2p_session.proofs.answer.write_all.Given as goal

abbrev pub invariant-loop-part : goal.invariant-loop-part
invariant-loop-part g l =
    let done = flat_map g.P.Part.bytes (take l.part-index l.parts) in
    record { at : l.at ≡ 0 + length done; out : l.out ≡ put_at 0 done l.fn.out }
