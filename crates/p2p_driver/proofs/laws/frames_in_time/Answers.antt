use Rattle.std.proofs.Common.{arith}
use Rattle.std.specs.Duration.{as_nanos}
use Rattle.std.specs.Int.NonZero.{non_zero_u32_get}
use Rattle.p2p_driver.specs.Reading.{frames_read}
use Rattle.p2p_driver.proofs.Kept.{at_most}
use Rattle.p2p_driver.proofs.Paced.{read_allowed}
use Rattle.p2p_driver.proofs.laws.frames_in_time.Goals as goal

pub returns : goal.returns
returns g c b h right n place rate has from size = at_most from size
    (non_zero_u32_get rate.burst) (as_nanos rate.refill) (omega (arith, rate.burst.ok))
    (frames_read n place h) (read_allowed b n place rate has h right)
