-- The numbers that calls answer where they are refused: they stand at the top of u64.
use Rattle.std.specs.Prelude.{ℕ, ◌-◌, ◌^◌}
use Rattle.p2p_session.specs.declared.refusal.Refusal.{Refusal}
use Rattle.p2p_session.specs.declared.refusal.Refusal.TheVariants.{Memory, NoNode, Absent, NoRoom}
use Rattle.p2p_session.specs.declared.refusal.Refusal.TheVariants.{NotReserved, NotHeld, BadKey}
use Rattle.p2p_session.specs.declared.refusal.Refusal.TheVariants.{BadKeys, BadInfo, BadBits}
use Rattle.p2p_session.specs.declared.refusal.Refusal.TheVariants.{BadMoment, BadSetting}
use Rattle.p2p_session.specs.declared.refusal.Refusal.TheVariants.{BadVerdicts, BadCall}

abbrev pub number_of : Refusal → ℕ
number_of Memory = 2 ^ 64 - 1
number_of NoNode = 2 ^ 64 - 2
number_of Absent = 2 ^ 64 - 3
number_of NoRoom = 2 ^ 64 - 4
number_of NotReserved = 2 ^ 64 - 5
number_of NotHeld = 2 ^ 64 - 6
number_of BadKey = 2 ^ 64 - 7
number_of BadKeys = 2 ^ 64 - 8
number_of BadInfo = 2 ^ 64 - 9
number_of BadBits = 2 ^ 64 - 10
number_of BadMoment = 2 ^ 64 - 11
number_of BadSetting = 2 ^ 64 - 12
number_of BadVerdicts = 2 ^ 64 - 13
number_of BadCall = 2 ^ 64 - 14
