use Rattle.std.proofs.Common.{◌≤◌, ap, arith}
use Rattle.std.specs.Duration.{as_nanos}
use Rattle.std.specs.Map.{values_of}
use Rattle.std.specs.declared.time.Duration.{Duration}
use Rattle.std.proofs.lemmas.Grind.{common_steps}
use Rattle.std.proofs.lemmas.List.Elements.{All-cons, All-same}
use Rattle.p2p_tracker.proofs.kept.cooldowns.least_dial.Goals as goal

pub loop-cooldown-preserved : goal.loop-cooldown-preserved
loop-cooldown-preserved g c = λ m le rest.
    let P : Duration × Duration → Type 0 = λ d. m ≤ as_nanos d.1 in
    let before : m ≤ c.loop-cooldown.least = grind (arith, common_steps) in
    let here : m ≤ as_nanos c.in-Some.cooldown.now.1 = grind (arith, common_steps) in
    c.loop-cooldown.invariant m before
    (All-same P _ _ (ap values_of c.in-Some.ensures.steps)
    (All-cons P c.in-Some.cooldown.now (values_of c.next.new.self) here rest))
