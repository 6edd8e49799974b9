use Rattle.std.proofs.Common.{◌≡◌, take}
use Rattle.p2p_session.specs.Frames.{verdicts_in}
use Rattle.p2p_session.proofs.frames.verdicts_of.Given as goal

abbrev pub invariant-loop-byte : goal.invariant-loop-byte
invariant-loop-byte l = l.verdicts.items ≡ verdicts_in (take l.byte-index l.bytes)
