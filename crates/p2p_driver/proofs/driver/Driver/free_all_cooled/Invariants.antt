use Rattle.std.proofs.Common.{◌≡◌}
use Rattle.std.specs.Duration.{as_nanos}
use Rattle.std.specs.Prelude.{length}
use Rattle.p2p_driver.specs.Drivers.{wire_with}
use Rattle.p2p_driver.specs.Timers.{FreesSome, NoneCooled}
use Rattle.p2p_driver.proofs.driver.Driver.free_all_cooled.Given as goal

-- some were given up, and no time passed; none was, if no cooldown is over
abbrev pub invariant-cooled : goal.invariant-cooled
invariant-cooled g l = (l.self.latest ≡ as_nanos l.now)
    × FreesSome g.C.Ord.cmp (wire_with g.C.PublicKey.verifies g.C.FixedBytes.spelled g.C.Signature.FixedBytes.spelled
    g.C.FixedBytes.SIZE g.C.FixedBytes.value g.C.Signature.FixedBytes.SIZE g.C.Signature.FixedBytes.value)
    l.now l.initial.self l.self
    × (NoneCooled g.C.Ord.cmp (as_nanos l.now) l.initial.self → l.self ≡ l.initial.self)

abbrev pub decreases-cooled : goal.decreases-cooled
decreases-cooled g l = length l.self.next_dial.grants
