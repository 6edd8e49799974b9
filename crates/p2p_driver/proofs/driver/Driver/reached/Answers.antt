use Rattle.std.proofs.Common.{◌≡◌, ◌≤◌, ℕ, Bool, List, Some, false, true, sym, ap, subst, ◌∙◌, arith}
use Rattle.std.specs.Prelude.{option_map, max}
use Rattle.std.specs.Duration.{as_nanos}
use Rattle.std.specs.Ordering.{is_eq}
use Rattle.std.specs.Option.{IsSomeAnd}
use Rattle.std.proofs.lemmas.Map.Views.{tells_apart}
use Rattle.p2p_driver.specs.Links.{is_dialing}
use Rattle.p2p_directory.specs.Received.{Wire}
use Rattle.p2p_driver.specs.Drivers.{DriverView, seen, wire_with}
use Rattle.p2p_driver.specs.Links.{link_of}
use Rattle.p2p_driver.specs.declared.links.Held.{Held}
use Rattle.p2p_driver.proofs.Driving.{goes_on}
use Rattle.p2p_driver.proofs.DrivingDials.{IsDial, reaches, mistakes, dial_reached, dial_mistaken, no_dial, no_dial_linked, dial_failed}
use Rattle.p2p_driver.proofs.DrivingFrames.{linked_as}
use Rattle.p2p_driver.proofs.driver.Driver.reached.Given as given
use Rattle.p2p_driver.proofs.driver.Driver.reached.Goals as goal

-- how keys are, by the type of the keys
abbrev wire_in : (g : given.Over) → Wire g.row.C.Denot g.row.C-Signature.Denot
wire_in g = wire_with g.C.PublicKey.verifies g.C.FixedBytes.spelled g.C.Signature.FixedBytes.spelled g.C.FixedBytes.SIZE
    g.C.FixedBytes.value g.C.Signature.FixedBytes.SIZE g.C.Signature.FixedBytes.value

not_both : {b : Bool} → b ≡ true → b ≡ false → ⊥
not_both is isnt = cc

-- a time that isn't before the latest
at_now : (latest now : ℕ) → latest ≤ now → now ≡ max latest now
at_now latest now after = grind (arith)

pub returns-in_default : goal.returns-in_default
returns-in_default g c = no_dial g.C.Ord.cmp (wire_in g) c.args.link.0 c.args.peer.now (as_nanos c.args.now) _ c.args.self.now _ c.self.view_is (sym c.self.view_is)
    (λ q held linked number dials timed. c.in_default.ensures.none q held linked number)

pub returns-then-not-is_dialing : goal.returns-then-not-is_dialing
returns-then-not-is_dialing g c = let d = c.self.inside in
    let linked = sym c.get.ensures ∙ ap (option_map (λ h. h.now)) c.in-Some-get.is in
    no_dial_linked g.C.Ord.cmp (wire_in g) c.args.link.0 c.args.peer.now (as_nanos c.args.now) _ c.args.self.now _ c.self.view_is (sym c.self.view_is) g.met.C.PublicKey.exact
    c.in-Some.dialed c.in-Some-get.held.now linked c.in-Some.ensures.only
    (λ dials timed. not_both dials (sym c.is_dialing.ensures ∙ c.if-not-is_dialing.true))

pub returns-then-not-is_timed : goal.returns-then-not-is_timed
returns-then-not-is_timed g c = let d = c.self.inside in
    let linked = sym c.get.ensures ∙ ap (option_map (λ h. h.now)) c.in-Some-get.is in
    no_dial_linked g.C.Ord.cmp (wire_in g) c.args.link.0 c.args.peer.now (as_nanos c.args.now) _ c.args.self.now _ c.self.view_is (sym c.self.view_is) g.met.C.PublicKey.exact
    c.in-Some.dialed c.in-Some-get.held.now linked c.in-Some.ensures.only
    (λ dials timed. not_both timed (sym c.is_timed.ensures ∙ c.if-not-is_timed.true))

-- the dial with the number, by who it is of
abbrev IsTheDial : (g : given.Over) → ℕ → List (g.row.C.Denot × Held) → g.row.C.Denot → Held → Type 0
IsTheDial g n links p held = (link_of g.C.Ord.cmp links p ≡ Some held) × IsDial n held

pub invariant_of-self-then-is_eq : goal.invariant_of-self-then-is_eq
invariant_of-self-then-is_eq g c = let d = c.self.inside in
    let held = c.in-Some-get.held.now in
    let linked = sym c.get.ensures ∙ ap (option_map (λ h. h.now)) c.in-Some-get.is in
    let number = linked_as g.C.Ord.cmp d.links c.in-Some.dialed held c.args.link.0 linked c.in-Some.ensures.found in
    let is : IsDial c.args.link.0 held = (number, sym c.is_dialing.ensures ∙ c.if-not-is_dialing.false, sym c.is_timed.ensures ∙ c.if-not-is_timed.false) in
    let at = subst (λ q. IsTheDial g c.args.link.0 d.links q held) (tells_apart g.met.C.PublicKey.exact c.in-Some.dialed c.args.peer.now
    (ap is_eq (sym c.cmp.ensures) ∙ sym c.is_eq.ensures ∙ c.if-is_eq.true)) (linked, is) in
    let after = subst (λ (v : DriverView g.row.C.Denot g.row.C-Signature.Denot). v.latest ≤ as_nanos c.args.now) (sym c.self.view_is) c.requires in (
      goes_on _ _ _ c.self.invariant.0
          (reaches g.C.Ord.cmp (wire_in g) d.node d.pace d.greeting (as_nanos d.cooldown) d.next_dial (as_nanos d.latest) d.next d.arrivals d.answers d.reads d.links d.actions.items
          c.args.link.0 c.args.peer.now held c.args.now c.reach.new.links c.reach.new.actions.items
          at.0 at.1 after c.in_ok-reach.ensures.links
          (c.in_ok-reach.ensures.counts (subst (λ o. IsSomeAnd o (λ h. is_dialing h ≡ true)) (sym at.0) at.1.1)) c.in_ok-reach.ensures.said),
      record {
        actions_fit = (let same = c.reach.ensures.needs in let room = c.reach.ensures.room in let fits = c.self.invariant.1.actions_fit in grind (arith));
        answers_fit = c.self.invariant.1.answers_fit;
      },
    )

pub returns-then-is_eq : goal.returns-then-is_eq
returns-then-is_eq g c = let d = c.self.inside in
    let held = c.in-Some-get.held.now in
    let linked = sym c.get.ensures ∙ ap (option_map (λ h. h.now)) c.in-Some-get.is in
    let number = linked_as g.C.Ord.cmp d.links c.in-Some.dialed held c.args.link.0 linked c.in-Some.ensures.found in
    let is : IsDial c.args.link.0 held = (number, sym c.is_dialing.ensures ∙ c.if-not-is_dialing.false, sym c.is_timed.ensures ∙ c.if-not-is_timed.false) in
    let at = subst (λ q. IsTheDial g c.args.link.0 d.links q held) (tells_apart g.met.C.PublicKey.exact c.in-Some.dialed c.args.peer.now
    (ap is_eq (sym c.cmp.ensures) ∙ sym c.is_eq.ensures ∙ c.if-is_eq.true)) (linked, is) in
    let after = subst (λ (v : DriverView g.row.C.Denot g.row.C-Signature.Denot). v.latest ≤ as_nanos c.args.now) (sym c.self.view_is) c.requires in
    dial_reached g.C.Ord.cmp (wire_in g) c.args.link.0 c.args.peer.now (as_nanos c.args.now) _ c.args.self.now _ c.self.view_is c.args.now (at_now (as_nanos d.latest) (as_nanos c.args.now) after)
    (reaches g.C.Ord.cmp (wire_in g) d.node d.pace d.greeting (as_nanos d.cooldown) d.next_dial (as_nanos d.latest) d.next d.arrivals d.answers d.reads d.links d.actions.items
    c.args.link.0 c.args.peer.now held c.args.now c.reach.new.links c.reach.new.actions.items
    at.0 at.1 after c.in_ok-reach.ensures.links
    (c.in_ok-reach.ensures.counts (subst (λ o. IsSomeAnd o (λ h. is_dialing h ≡ true)) (sym at.0) at.1.1)) c.in_ok-reach.ensures.said)

pub returns-in_err-reach : goal.returns-in_err-reach
returns-in_err-reach g c = let d = c.self.inside in
    let held = c.in-Some-get.held.now in
    let linked = sym c.get.ensures ∙ ap (option_map (λ h. h.now)) c.in-Some-get.is in
    let number = linked_as g.C.Ord.cmp d.links c.in-Some.dialed held c.args.link.0 linked c.in-Some.ensures.found in
    let is : IsDial c.args.link.0 held = (number, sym c.is_dialing.ensures ∙ c.if-not-is_dialing.false, sym c.is_timed.ensures ∙ c.if-not-is_timed.false) in
    let at = subst (λ q. IsTheDial g c.args.link.0 d.links q held) (tells_apart g.met.C.PublicKey.exact c.in-Some.dialed c.args.peer.now
    (ap is_eq (sym c.cmp.ensures) ∙ sym c.is_eq.ensures ∙ c.if-is_eq.true)) (linked, is) in
    dial_failed g.C.Ord.cmp (wire_in g) c.args.link.0 c.args.peer.now (as_nanos c.args.now) _ c.args.self.now _ c.self.view_is c.from_residual.result c.from_residual.ensures.0
    (ap (λ ls. seen d.node d.pace d.greeting (as_nanos d.cooldown) d.next_dial (as_nanos d.latest) d.next d.arrivals d.answers d.reads ls c.reach.new.actions.items) c.in_err-reach.ensures.err.0
    ∙ ap (seen d.node d.pace d.greeting (as_nanos d.cooldown) d.next_dial (as_nanos d.latest) d.next d.arrivals d.answers d.reads d.links) c.in_err-reach.ensures.err.1) held at.0 at.1.0 at.1.1 at.1.2

pub invariant_of-self-2 : goal.invariant_of-self-2
invariant_of-self-2 g c = let d = c.self.inside in
    let held = c.in-Some-get.held.now in
    let linked = sym c.get.ensures ∙ ap (option_map (λ h. h.now)) c.in-Some-get.is in
    let number = linked_as g.C.Ord.cmp d.links c.in-Some.dialed held c.args.link.0 linked c.in-Some.ensures.found in
    let is : IsDial c.args.link.0 held = (number, sym c.is_dialing.ensures ∙ c.if-not-is_dialing.false, sym c.is_timed.ensures ∙ c.if-not-is_timed.false) in
    let after = subst (λ (v : DriverView g.row.C.Denot g.row.C-Signature.Denot). v.latest ≤ as_nanos c.args.now) (sym c.self.view_is) c.requires in (
      goes_on _ _ _ c.self.invariant.0
          (mistakes g.C.Ord.cmp (wire_in g) d.node d.pace d.greeting (as_nanos d.cooldown) d.next_dial (as_nanos d.latest) d.next d.arrivals d.answers d.reads d.links d.actions.items
          c.args.link.0 c.in-Some.dialed held c.args.now c.shut.new.links c.shut.new.actions.items
          linked is after c.shut.ensures.links c.shut.ensures.counts c.shut.ensures.said),
      record {
        actions_fit = (let same = c.shut.ensures.needs in let room = c.shut.ensures.room in let fits = c.self.invariant.1.actions_fit in grind (arith));
        answers_fit = c.self.invariant.1.answers_fit;
      },
    )

pub returns : goal.returns
returns g c = let d = c.self.inside in
    let held = c.in-Some-get.held.now in
    let linked = sym c.get.ensures ∙ ap (option_map (λ h. h.now)) c.in-Some-get.is in
    let number = linked_as g.C.Ord.cmp d.links c.in-Some.dialed held c.args.link.0 linked c.in-Some.ensures.found in
    let is : IsDial c.args.link.0 held = (number, sym c.is_dialing.ensures ∙ c.if-not-is_dialing.false, sym c.is_timed.ensures ∙ c.if-not-is_timed.false) in
    let after = subst (λ (v : DriverView g.row.C.Denot g.row.C-Signature.Denot). v.latest ≤ as_nanos c.args.now) (sym c.self.view_is) c.requires in
    dial_mistaken g.C.Ord.cmp (wire_in g) c.args.link.0 c.args.peer.now (as_nanos c.args.now) _ c.args.self.now _ c.self.view_is c.in-Some.dialed
    (ap is_eq (sym c.cmp.ensures) ∙ sym c.is_eq.ensures ∙ c.if-is_eq.false) c.args.now (at_now (as_nanos d.latest) (as_nanos c.args.now) after)
    (mistakes g.C.Ord.cmp (wire_in g) d.node d.pace d.greeting (as_nanos d.cooldown) d.next_dial (as_nanos d.latest) d.next d.arrivals d.answers d.reads d.links d.actions.items
    c.args.link.0 c.in-Some.dialed held c.args.now c.shut.new.links c.shut.new.actions.items
    linked is after c.shut.ensures.links c.shut.ensures.counts c.shut.ensures.said)
