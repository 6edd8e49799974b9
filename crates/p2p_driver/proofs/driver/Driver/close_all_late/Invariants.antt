use Rattle.std.proofs.Common.{◌≡◌}
use Rattle.std.specs.Duration.{as_nanos}
use Rattle.p2p_driver.specs.Drivers.{wire_with}
use Rattle.p2p_driver.specs.Timers.{ClosesLate, NoneLate, pending}
use Rattle.p2p_driver.proofs.driver.Driver.close_all_late.Given as goal

-- some were closed, and no time passed; none was, if none is late
abbrev pub invariant-late : goal.invariant-late
invariant-late g l = (l.self.latest ≡ as_nanos l.now)
    × ClosesLate g.C.Ord.cmp (wire_with g.C.PublicKey.verifies g.C.FixedBytes.spelled g.C.Signature.FixedBytes.spelled
    g.C.FixedBytes.SIZE g.C.FixedBytes.value g.C.Signature.FixedBytes.SIZE g.C.Signature.FixedBytes.value)
    l.now l.initial.self l.self
    × (NoneLate g.C.Ord.cmp (as_nanos l.now) l.initial.self → l.self ≡ l.initial.self)

abbrev pub decreases-late : goal.decreases-late
decreases-late g l = pending l.self
