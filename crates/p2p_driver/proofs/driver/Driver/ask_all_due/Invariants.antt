use Rattle.std.proofs.Common.{◌≡◌}
use Rattle.std.specs.Duration.{as_nanos}
use Rattle.p2p_driver.specs.Drivers.{wire_with}
use Rattle.p2p_driver.specs.Links.{to_ask}
use Rattle.p2p_driver.specs.Timers.{AsksAll, NoneLate, NoneToAsk}
use Rattle.p2p_driver.proofs.driver.Driver.ask_all_due.Given as goal

-- some were asked, no time passed, none is late that wasn't, and none was asked if none is to be
abbrev pub invariant-due : goal.invariant-due
invariant-due g l = (l.self.latest ≡ as_nanos l.now)
    × AsksAll g.C.Ord.cmp (wire_with g.C.PublicKey.verifies g.C.FixedBytes.spelled g.C.Signature.FixedBytes.spelled
    g.C.FixedBytes.SIZE g.C.FixedBytes.value g.C.Signature.FixedBytes.SIZE g.C.Signature.FixedBytes.value)
    l.now l.all l.initial.self l.self
    × (NoneLate g.C.Ord.cmp (as_nanos l.now) l.initial.self → NoneLate g.C.Ord.cmp (as_nanos l.now) l.self)
    × (NoneToAsk g.C.Ord.cmp (as_nanos l.now) l.initial.self → l.self ≡ l.initial.self)

abbrev pub decreases-due : goal.decreases-due
decreases-due g l = to_ask (as_nanos l.self.pace.tick) (as_nanos l.now) l.self.links
