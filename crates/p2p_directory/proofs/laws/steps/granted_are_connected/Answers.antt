use Rattle.std.proofs.Common.{true, ◌∷◌, refl, sym, subst}
use Rattle.std.specs.Cmp.{IsTotalOrder}
use Rattle.p2p_tracker.specs.Calls.Call.{Listen, Dial}
use Rattle.p2p_directory.proofs.LawsOfRuns.OneCall
use Rattle.p2p_directory.proofs.laws.steps.granted_are_connected.Goals as goal

pub returns-clause-may : goal.returns-clause-may
returns-clause-may g c = λ s order some cs call p of_p granted.
    OneCall.connects s some (subst IsTotalOrder (sym order) g.met.C.Ord.total) cs call p of_p granted

pub returns-clause-listened : goal.returns-clause-listened
returns-clause-listened g c = λ m order some cs p t draw dialer r told answer.
    OneCall.connected_reply m (Listen p t draw ∷ cs) p dialer r answer
    (OneCall.connects m.directory some (subst IsTotalOrder (sym order) g.met.C.Ord.total) cs (Listen p t draw) p refl
    (OneCall.listen_told m cs p t draw true told))

pub returns-clause-dialled : goal.returns-clause-dialled
returns-clause-dialled g c = λ m order some cs p t draw dialer r told answer.
    OneCall.connected_reply m (Dial p t draw ∷ cs) p dialer r answer
    (OneCall.connects m.directory some (subst IsTotalOrder (sym order) g.met.C.Ord.total) cs (Dial p t draw) p refl
    (OneCall.dial_told m cs p t draw true told))
