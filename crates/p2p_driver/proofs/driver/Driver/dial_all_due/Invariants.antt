use Rattle.p2p_driver.specs.Drivers.{wire_with}
use Rattle.p2p_driver.proofs.DrivingTimers.{DialsSo}
use Rattle.p2p_driver.proofs.driver.Driver.dial_all_due.Given as goal

-- it was looked by the words so far
abbrev pub invariant-words : goal.invariant-words
invariant-words g l = DialsSo g.C.Ord.cmp (wire_with g.C.PublicKey.verifies g.C.FixedBytes.spelled g.C.Signature.FixedBytes.spelled
    g.C.FixedBytes.SIZE g.C.FixedBytes.value g.C.Signature.FixedBytes.SIZE g.C.Signature.FixedBytes.value)
    l.now l.words l.word-index l.all l.initial.self l.self
