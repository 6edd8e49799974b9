use Rattle.std.proofs.Common.{◌≡◌}
use Rattle.std.specs.Duration.{as_nanos}
use Rattle.std.specs.Prelude.{length}
use Rattle.p2p_driver.specs.Drivers.{wire_with}
use Rattle.p2p_driver.specs.Timers.{FreesSome}
use Rattle.p2p_driver.proofs.driver.Driver.free_all_unfit.Given as goal

-- some were given up, and no time passed
abbrev pub invariant-unfit : goal.invariant-unfit
invariant-unfit g l = (l.self.latest ≡ as_nanos l.now)
    × FreesSome g.C.Ord.cmp (wire_with g.C.PublicKey.verifies g.C.FixedBytes.spelled g.C.Signature.FixedBytes.spelled
    g.C.FixedBytes.SIZE g.C.FixedBytes.value g.C.Signature.FixedBytes.SIZE g.C.Signature.FixedBytes.value)
    l.now l.initial.self l.self

abbrev pub decreases-unfit : goal.decreases-unfit
decreases-unfit g l = length l.self.next_dial.grants
