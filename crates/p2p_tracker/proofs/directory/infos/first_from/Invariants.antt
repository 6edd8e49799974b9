use Rattle.std.proofs.Common.{◌≡◌, drop, zip}
use Rattle.p2p_tracker.specs.Private.Asked.{asked_from}
use Rattle.p2p_tracker.proofs.directory.infos.first_from.Given as goal

-- those from here on serve
abbrev pub invariant-loop-at : goal.invariant-loop-at
invariant-loop-at g l =
    asked_from g.C.Ord.cmp l.key (drop l.at (zip l.peers l.bits))
    ≡ asked_from g.C.Ord.cmp l.key (drop l.fn.place (zip l.peers l.bits))
