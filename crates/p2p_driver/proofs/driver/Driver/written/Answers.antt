use Rattle.std.proofs.Common.{◌∙◌, sym, ap, arith}
use Rattle.std.specs.Prelude.{option_map}
use Rattle.std.specs.Duration.{as_nanos}
use Rattle.p2p_directory.specs.Received.{Wire}
use Rattle.p2p_driver.specs.Drivers.{wire_with}
use Rattle.p2p_driver.specs.Happenings.{Happening}
use Rattle.p2p_driver.proofs.Driving.{goes_on, no_earlier}
use Rattle.p2p_driver.proofs.DrivingApplication.{writes, write_answered, none_unwritten, none_linked}
use Rattle.p2p_driver.proofs.DrivingFrames.{linked_as}
use Rattle.p2p_driver.proofs.driver.Driver.written.Given as given
use Rattle.p2p_driver.proofs.driver.Driver.written.Goals as goal

-- how keys are, by the type of the keys
abbrev wire_in : (g : given.Over) → Wire g.row.C.Denot g.row.C-Signature.Denot
wire_in g = wire_with g.C.PublicKey.verifies g.C.FixedBytes.spelled g.C.Signature.FixedBytes.spelled g.C.FixedBytes.SIZE
    g.C.FixedBytes.value g.C.Signature.FixedBytes.SIZE g.C.Signature.FixedBytes.value

pub returns-then-len-sends_on : goal.returns-then-len-sends_on
returns-then-len-sends_on g c = let d = c.self.inside in
    let linked = sym c.get.ensures ∙ ap (option_map (λ h. h.now)) c.in-Some-get.is in
    none_unwritten g.C.Ord.cmp (wire_in g) c.args.link.0 (as_nanos c.args.now.steady) _ _ c.args.self.now c.self.view_is g.met.C.PublicKey.exact
    c.in-Some.peer c.in-Some-get.held.now linked c.in-Some.ensures.only
    (let few = c.if-len-sends_on.true in let all = c.len.ensures in let sent = c.sends_on.ensures in grind (arith))

pub invariant_of-self : goal.invariant_of-self
invariant_of-self g c = let d = c.self.inside in
    let linked = sym c.get.ensures ∙ ap (option_map (λ h. h.now)) c.in-Some-get.is in (
      goes_on (Happening.Written c.args.link.0 c.in-Some.peer c.later-self-inside.result) _ _ c.self.invariant.0
          (writes g.C.Ord.cmp (wire_in g) d.node d.pace d.greeting (as_nanos d.cooldown) d.next_dial (as_nanos d.latest) d.next d.arrivals d.answers d.reads d.links d.actions.items
          c.args.link.0 c.in-Some.peer c.in-Some-get.held.now c.later-self-inside.result c.write.new.self linked
          (linked_as g.C.Ord.cmp d.links c.in-Some.peer c.in-Some-get.held.now c.args.link.0 linked c.in-Some.ensures.found)
          (let few = c.if-len-sends_on.false in let all = c.len.ensures in let sent = c.sends_on.ensures in grind (arith))
          (no_earlier (as_nanos d.latest) (as_nanos c.args.now.steady) (as_nanos c.later-self-inside.result) c.later-self-inside.ensures)
          c.write.ensures.links c.write.ensures.counts),
      record {
        actions_fit = (let same = c.write.ensures.needs in let fits = c.self.invariant.1.actions_fit in grind (arith));
        answers_fit = c.self.invariant.1.answers_fit;
      },
    )

pub returns : goal.returns
returns g c = let d = c.self.inside in
    let linked = sym c.get.ensures ∙ ap (option_map (λ h. h.now)) c.in-Some-get.is in
    write_answered g.C.Ord.cmp (wire_in g) c.args.link.0 (as_nanos c.args.now.steady) _ _ _ c.self.view_is c.in-Some.peer c.later-self-inside.result
    c.later-self-inside.ensures
    (writes g.C.Ord.cmp (wire_in g) d.node d.pace d.greeting (as_nanos d.cooldown) d.next_dial (as_nanos d.latest) d.next d.arrivals d.answers d.reads d.links d.actions.items
    c.args.link.0 c.in-Some.peer c.in-Some-get.held.now c.later-self-inside.result c.write.new.self linked
    (linked_as g.C.Ord.cmp d.links c.in-Some.peer c.in-Some-get.held.now c.args.link.0 linked c.in-Some.ensures.found)
    (let few = c.if-len-sends_on.false in let all = c.len.ensures in let sent = c.sends_on.ensures in grind (arith))
    (no_earlier (as_nanos d.latest) (as_nanos c.args.now.steady) (as_nanos c.later-self-inside.result) c.later-self-inside.ensures)
    c.write.ensures.links c.write.ensures.counts)

pub returns-in_default : goal.returns-in_default
returns-in_default g c = none_linked g.C.Ord.cmp (wire_in g) c.args.link.0 (as_nanos c.args.now.steady) _ _ c.args.self.now c.self.view_is c.in_default.ensures.none
