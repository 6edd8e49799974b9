use Rattle.std.proofs.Common.{◌∙◌, refl, sym, ap, subst}
use Rattle.std.specs.Prelude.{option_map}
use Rattle.std.specs.Duration.{as_nanos}
use Rattle.p2p_directory.specs.Received.{Wire}
use Rattle.p2p_driver.specs.Admissions.{SeenIn}
use Rattle.p2p_driver.specs.Drivers.{seen, wire_with}
use Rattle.p2p_driver.proofs.DrivingFrames.{came_on, no_link, no_link_dialing, linked_as, expected_in}
use Rattle.p2p_driver.specs.Links.{is_unexpected}
use Rattle.p2p_driver.specs.declared.links.Phase.TheVariants as phase
use Rattle.p2p_driver.proofs.Fewer.{none_of}
use Rattle.p2p_driver.proofs.driver.Driver.admit.Given as given
use Rattle.p2p_driver.proofs.driver.Driver.admit.Goals as goal

-- how keys are, by the type of the keys
abbrev wire_in : (g : given.Over) → Wire g.row.C.Denot g.row.C-Signature.Denot
wire_in g = wire_with g.C.PublicKey.verifies g.C.FixedBytes.spelled g.C.Signature.FixedBytes.spelled g.C.FixedBytes.SIZE
    g.C.FixedBytes.value g.C.Signature.FixedBytes.SIZE g.C.Signature.FixedBytes.value

pub came-requires : goal.came-requires
came-requires g c =
    let held = c.in-Some-get.held.now in
    let linked = sym c.get.ensures ∙ ap (option_map (λ h. h.now)) c.in-Some-get.is in
    came_on g.C.Ord.cmp (wire_in g) c.args.link.0 c.in-Some.peer held.owed c.args.frame.now c.args.now.wall c.first-came.result
    (seen c.self.inside.node c.self.inside.pace c.self.inside.greeting (as_nanos c.self.inside.cooldown) c.self.inside.next_dial (as_nanos c.self.inside.latest)
    c.self.inside.next c.self.inside.arrivals c.self.inside.answers c.self.inside.reads c.self.inside.links c.self.inside.actions.items)
    c.args.self.now held c.self.view_is linked
    (linked_as g.C.Ord.cmp c.self.inside.links c.in-Some.peer held c.args.link.0 linked c.in-Some.ensures.found) refl
    (none_of held.waiting (sym c.is_some.ensures ∙ c.if-is_some.false))
    (expected_in c.args.frame.now held phase.Greeting (c.in-Greeting.is) refl
    (ap (λ xs. is_unexpected xs held) (sym c.as_slice.ensures) ∙ sym c.is_unexpected.ensures ∙ c.if-is_unexpected.false))
    (subst (λ ph. SeenIn g.C.Ord.cmp (wire_in g) ph c.in-Some.peer held.owed c.args.frame.now c.args.now.wall c.first-came.result
    (seen c.self.inside.node c.self.inside.pace c.self.inside.greeting (as_nanos c.self.inside.cooldown) c.self.inside.next_dial (as_nanos c.self.inside.latest)
    c.self.inside.next c.self.inside.arrivals c.self.inside.answers c.self.inside.reads c.self.inside.links c.self.inside.actions.items).node)
    (sym c.in-Greeting.is) c.first-came.ensures)

pub came-requires-in-Open : goal.came-requires-in-Open
came-requires-in-Open g c =
    let held = c.in-Some-get.held.now in
    let linked = sym c.get.ensures ∙ ap (option_map (λ h. h.now)) c.in-Some-get.is in
    came_on g.C.Ord.cmp (wire_in g) c.args.link.0 c.in-Some.peer held.owed c.args.frame.now c.args.now.wall c.next-came.result
    (seen c.self.inside.node c.self.inside.pace c.self.inside.greeting (as_nanos c.self.inside.cooldown) c.self.inside.next_dial (as_nanos c.self.inside.latest)
    c.self.inside.next c.self.inside.arrivals c.self.inside.answers c.self.inside.reads c.self.inside.links c.self.inside.actions.items)
    c.args.self.now held c.self.view_is linked
    (linked_as g.C.Ord.cmp c.self.inside.links c.in-Some.peer held c.args.link.0 linked c.in-Some.ensures.found) refl
    (none_of held.waiting (sym c.is_some.ensures ∙ c.if-is_some.false))
    (expected_in c.args.frame.now held phase.Open (c.in-Open.is) refl
    (ap (λ xs. is_unexpected xs held) (sym c.as_slice.ensures) ∙ sym c.is_unexpected.ensures ∙ c.if-is_unexpected.false))
    (subst (λ ph. SeenIn g.C.Ord.cmp (wire_in g) ph c.in-Some.peer held.owed c.args.frame.now c.args.now.wall c.next-came.result
    (seen c.self.inside.node c.self.inside.pace c.self.inside.greeting (as_nanos c.self.inside.cooldown) c.self.inside.next_dial (as_nanos c.self.inside.latest)
    c.self.inside.next c.self.inside.arrivals c.self.inside.answers c.self.inside.reads c.self.inside.links c.self.inside.actions.items).node)
    (sym c.in-Open.is) c.next-came.ensures)

pub returns-in_default : goal.returns-in_default
returns-in_default g c = (refl, no_link g.C.Ord.cmp c.args.link.0 _ c.args.self.now c.self.view_is c.in_default.ensures.none)

pub returns-then-is_dialing : goal.returns-then-is_dialing
returns-then-is_dialing g c = (
  refl,
  no_link_dialing g.C.Ord.cmp c.args.link.0 _ c.args.self.now c.self.view_is g.met.C.PublicKey.exact
      c.in-Some.peer c.in-Some-get.held.now (sym c.get.ensures ∙ ap (option_map (λ h. h.now)) c.in-Some-get.is) c.in-Some.ensures.only
      (sym c.is_dialing.ensures ∙ c.if-is_dialing.true),
)
