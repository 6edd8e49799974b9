use Rattle.std.proofs.Common.{◌≡◌, ℕ, ap, subst, sym, ◌∙◌, arith}
use Rattle.std.specs.Prelude.{is_some}
use Rattle.std.specs.Duration.{as_nanos}
use Rattle.p2p_driver.specs.Happenings.{Happening}
use Rattle.p2p_driver.proofs.Driving.{goes_on, no_earlier}
use Rattle.p2p_driver.specs.Links.{link_of}
use Rattle.p2p_driver.proofs.DrivingReads.{the_one}
use Rattle.p2p_driver.proofs.DrivingLinks.{leaves_as, end_left, end_ended, end_nothing, ends_later}
use Rattle.std.specs.Option.{IsSomeAnd}
use Rattle.p2p_directory.specs.Received.{Wire}
use Rattle.p2p_driver.specs.Drivers.{DriverView, EndsAt, seen, wire_with}
use Rattle.p2p_driver.proofs.driver.Driver.ended.Given as given
use Rattle.p2p_driver.proofs.driver.Driver.ended.Goals as goal

-- how keys are, by the type of the keys
abbrev wire_in : (g : given.Over) → Wire g.row.C.Denot g.row.C-Signature.Denot
wire_in g = wire_with g.C.PublicKey.verifies g.C.FixedBytes.spelled g.C.Signature.FixedBytes.spelled g.C.FixedBytes.SIZE
    g.C.FixedBytes.value g.C.Signature.FixedBytes.SIZE g.C.Signature.FixedBytes.value

pub invariant_of-self : goal.invariant_of-self
invariant_of-self g c = (
  goes_on (Happening.Left c.args.link.0 c.later-self-inside.result) _ _ c.self.invariant.0
      (leaves_as c.self.inside.node c.self.inside.pace c.self.inside.greeting (as_nanos c.self.inside.cooldown) c.self.inside.next_dial
      (as_nanos c.self.inside.latest) c.self.inside.next c.self.inside.arrivals c.self.inside.answers c.self.inside.reads c.self.inside.links
      c.self.inside.actions.items c.args.link.0 c.later-self-inside.result c.leave.new.arrivals c.leave.new.answers
      c.give_back.new.self.items (sym (ap is_some c.get.ensures) ∙ sym c.is_some.ensures ∙ c.if-is_some.true)
      (no_earlier _ _ _ c.later-self-inside.ensures) c.leave.ensures.arrivals c.leave.ensures.answers c.give_back.ensures.items),
  record {
    actions_fit = (let fewer = c.leave.ensures.fewer in let room = c.give_back.ensures.room in let fits = c.self.invariant.1.actions_fit in grind (arith));
    answers_fit = c.leave.ensures.answers_room;
  },
)

pub returns-then-is_some : goal.returns-then-is_some
returns-then-is_some g c = end_left g.C.Ord.cmp _ c.args.link.0 (as_nanos c.args.now.steady) _ _ _ c.self.view_is
    (sym (ap is_some c.get.ensures) ∙ sym c.is_some.ensures ∙ c.if-is_some.true) c.later-self-inside.result c.later-self-inside.ensures
    (leaves_as c.self.inside.node c.self.inside.pace c.self.inside.greeting (as_nanos c.self.inside.cooldown) c.self.inside.next_dial
    (as_nanos c.self.inside.latest) c.self.inside.next c.self.inside.arrivals c.self.inside.answers c.self.inside.reads c.self.inside.links
    c.self.inside.actions.items c.args.link.0 c.later-self-inside.result c.leave.new.arrivals c.leave.new.answers
    c.give_back.new.self.items (sym (ap is_some c.get.ensures) ∙ sym c.is_some.ensures ∙ c.if-is_some.true)
    (no_earlier _ _ _ c.later-self-inside.ensures) c.leave.ensures.arrivals c.leave.ensures.answers c.give_back.ensures.items)

pub returns-in_default : goal.returns-in_default
returns-in_default g c = end_nothing g.C.Ord.cmp _ c.args.link.0 (as_nanos c.args.now.steady) _ _ _ c.self.view_is
    (sym (ap is_some c.get.ensures) ∙ sym c.is_some.ensures ∙ c.if-is_some.false) c.in_default.ensures.none (sym c.self.view_is)

-- what the end of a link answers, of the link that is seen
abbrev Ends : (g : given.Over) → ℕ → g.row.C.Denot → ℕ → DriverView g.row.C.Denot g.row.C-Signature.Denot → DriverView g.row.C.Denot g.row.C-Signature.Denot → Type 0
Ends g n p t v2 v = IsSomeAnd (link_of g.C.Ord.cmp v.links p) (λ held. EndsAt g.C.Ord.cmp (wire_in g) n p t held v v2)

pub returns : goal.returns
returns g c = let d = c.self.inside in
    let one = the_one (λ held. held.number ≡ c.args.link.0) (link_of g.C.Ord.cmp d.links c.in-Some.peer) c.in-Some.ensures.found in
    let ends = subst (Ends g c.args.link.0 c.in-Some.peer (as_nanos c.later-now.result) c.end.new.self) (sym c.self.view_is) c.end.ensures in
    end_ended g.C.Ord.cmp (wire_in g) c.args.link.0 (as_nanos c.args.now.steady) _ _ _ c.in-Some.peer c.self.view_is
    (sym (ap is_some c.get.ensures) ∙ sym c.is_some.ensures ∙ c.if-is_some.false) one.0 one.1 one.2
    (ends_later g.C.Ord.cmp (wire_in g) c.args.link.0 c.in-Some.peer (as_nanos c.later-now.result) (as_nanos c.args.now.steady) one.0 _ _
    c.later-now.ensures (subst (λ o. IsSomeAnd o (λ held. EndsAt g.C.Ord.cmp (wire_in g) c.args.link.0 c.in-Some.peer
    (as_nanos c.later-now.result) held (seen d.node d.pace d.greeting (as_nanos d.cooldown) d.next_dial (as_nanos d.latest) d.next d.arrivals d.answers d.reads d.links d.actions.items)
    c.end.new.self)) one.1 ends))
