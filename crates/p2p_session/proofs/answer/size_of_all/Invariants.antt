use Rattle.std.proofs.Common.{◌≡◌, ◌^◌, take, length, min}
use Rattle.std.specs.Prelude.{flat_map}
use Rattle.p2p_session.proofs.answer.size_of_all.Given as goal

abbrev pub invariant-loop-part : goal.invariant-loop-part
invariant-loop-part g l = l.size ≡ min (length (flat_map g.P.Part.bytes (take l.part-index l.parts))) (2 ^ 63)
