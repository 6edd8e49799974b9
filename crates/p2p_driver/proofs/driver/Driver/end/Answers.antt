use Rattle.std.proofs.Common.{◌≡◌, ◌≤◌, ℕ, subst, refl, sym, ◌∙◌, arith, inl, inr, max}
use Rattle.std.specs.Duration.{as_nanos}
use Rattle.std.specs.Option.{IsSomeAnd}
use Rattle.std.specs.declared.time.Duration.{Duration}
use Rattle.p2p_directory.specs.Received.{Wire}
use Rattle.p2p_driver.specs.Drivers.{DriverView, EndsAt, seen, wire_with}
use Rattle.p2p_driver.specs.Links.{link_of}
use Rattle.p2p_driver.proofs.Driving.{given_some, goes_on}
use Rattle.p2p_driver.proofs.DrivingLinks.{busy_here, ends_as, fails_as, linked_some}
use Rattle.p2p_driver.proofs.DrivingReads.{the_one}
use Rattle.p2p_driver.proofs.Standing.{at_once}
use Rattle.p2p_driver.proofs.driver.Driver.end.Given as given
use Rattle.p2p_driver.proofs.driver.Driver.end.Goals as goal

-- how keys are, by the type of the keys
abbrev wire_in : (g : given.Over) → Wire g.row.C.Denot g.row.C-Signature.Denot
wire_in g = wire_with g.C.PublicKey.verifies g.C.FixedBytes.spelled g.C.Signature.FixedBytes.spelled g.C.FixedBytes.SIZE
    g.C.FixedBytes.value g.C.Signature.FixedBytes.SIZE g.C.Signature.FixedBytes.value

-- the peer has a link of this number
abbrev IsToEnd : (g : given.Over) → Duration → g.row.C.Denot → ℕ → DriverView g.row.C.Denot g.row.C-Signature.Denot → Type 0
IsToEnd g t p n v = (v.latest ≤ as_nanos t) × IsSomeAnd (link_of g.C.Ord.cmp v.links p) (λ held. held.number ≡ n)

pub end-requires-2-clause-busy : goal.end-requires-2-clause-busy
end-requires-2-clause-busy g c = let d = c.self.inside in
    let at = subst (IsToEnd g c.args.now c.args.peer.now c.args.link.0) (sym c.self.view_is) (c.requires.time, c.requires.linked) in
    busy_here d.node d.pace d.greeting (as_nanos d.cooldown) d.next_dial (as_nanos d.latest) d.next d.arrivals d.answers d.reads d.links d.actions.items
    g.met.C.PublicKey.exact c.self.invariant.0 c.args.peer.now (linked_some _ _ at.1)

-- the time is the later of the latest and this one
later_is : (latest t : ℕ) → latest ≤ t → t ≡ max latest t
later_is latest t after = grind (arith)

pub invariant_of-self : goal.invariant_of-self
invariant_of-self g c = let d = c.self.inside in
    let at = subst (IsToEnd g c.args.now c.args.peer.now c.args.link.0) (sym c.self.view_is) (c.requires.time, c.requires.linked) in
    let one = the_one (λ held. held.number ≡ c.args.link.0) (link_of g.C.Ord.cmp d.links c.args.peer.now) at.1 in (
      goes_on _ _ _ c.self.invariant.0
          (fails_as d.node d.pace d.greeting (as_nanos d.cooldown) d.next_dial (as_nanos d.latest) d.next d.arrivals d.answers d.reads d.links d.actions.items
          c.args.link.0 c.args.peer.now one.0 c.args.now c.end.new.self c.fail.new.links c.fail.new.actions.items one.1 one.2 at.0
          (λ given calls stands. sym c.if-stays.true ∙ c.stays-stays.ensures given calls stands) c.end.ensures.reads c.fail.ensures.links
          (given_some _ _ one.0 one.1 c.fail.ensures.counts) c.fail.ensures.said),
      record {
        actions_fit = (let room = c.fail.ensures.room in let fits = c.self.invariant.1.actions_fit in grind (arith));
        answers_fit = c.self.invariant.1.answers_fit;
      },
    )

-- what is answered, of the link that is seen
abbrev Ends : (g : given.Over) → ℕ → g.row.C.Denot → ℕ → DriverView g.row.C.Denot g.row.C-Signature.Denot → DriverView g.row.C.Denot g.row.C-Signature.Denot → Type 0
Ends g n p t v2 v = IsSomeAnd (link_of g.C.Ord.cmp v.links p) (λ held. EndsAt g.C.Ord.cmp (wire_in g) n p t held v v2)

pub returns-then-stays : goal.returns-then-stays
returns-then-stays g c = let d = c.self.inside in
    let at = subst (IsToEnd g c.args.now c.args.peer.now c.args.link.0) (sym c.self.view_is) (c.requires.time, c.requires.linked) in
    let one = the_one (λ held. held.number ≡ c.args.link.0) (link_of g.C.Ord.cmp d.links c.args.peer.now) at.1 in
    let v2 = seen d.node d.pace d.greeting (as_nanos d.cooldown) d.next_dial (as_nanos c.args.now) d.next d.arrivals d.answers c.end.new.self c.fail.new.links c.fail.new.actions.items in
    subst (Ends g c.args.link.0 c.args.peer.now (as_nanos c.args.now) v2) c.self.view_is
    (subst (λ o. IsSomeAnd o (λ held. EndsAt g.C.Ord.cmp (wire_in g) c.args.link.0 c.args.peer.now (as_nanos c.args.now) held
    (seen d.node d.pace d.greeting (as_nanos d.cooldown) d.next_dial (as_nanos d.latest) d.next d.arrivals d.answers d.reads d.links d.actions.items) v2)) (sym one.1)
    (inr (
      c.args.now,
      later_is (as_nanos d.latest) (as_nanos c.args.now) at.0,
      fails_as d.node d.pace d.greeting (as_nanos d.cooldown) d.next_dial (as_nanos d.latest) d.next d.arrivals d.answers d.reads d.links d.actions.items
          c.args.link.0 c.args.peer.now one.0 c.args.now c.end.new.self c.fail.new.links c.fail.new.actions.items one.1 one.2 at.0
          (λ given calls stands. sym c.if-stays.true ∙ c.stays-stays.ensures given calls stands) c.end.ensures.reads c.fail.ensures.links
          (given_some _ _ one.0 one.1 c.fail.ensures.counts) c.fail.ensures.said,
    )))

pub invariant_of-self-2 : goal.invariant_of-self-2
invariant_of-self-2 g c = let d = c.self.inside in
    let at = subst (IsToEnd g c.args.now c.args.peer.now c.args.link.0) (sym c.self.view_is) (c.requires.time, c.requires.linked) in
    let one = the_one (λ held. held.number ≡ c.args.link.0) (link_of g.C.Ord.cmp d.links c.args.peer.now) at.1 in (
      goes_on _ _ _ c.self.invariant.0
          (ends_as d.node d.pace d.greeting (as_nanos d.cooldown) d.next_dial (as_nanos d.latest) d.next d.arrivals d.answers d.reads d.links d.actions.items
          c.args.link.0 c.args.peer.now one.0 c.args.now c.end-2.new.node _ c.end.new.self c.end-2.new.links c.end-2.new.actions.items (refl, refl) one.1 one.2 at.0
          (λ given calls stands. sym c.if-stays.false ∙ c.stays-stays.ensures given calls stands) c.end-2.ensures.made c.end.ensures.reads c.end-2.ensures.links
          c.remove.ensures.gone (given_some _ _ one.0 one.1 c.end-2.ensures.counts) c.end-2.ensures.said),
      record {
        actions_fit = (let room = c.end-2.ensures.room in let fits = c.self.invariant.1.actions_fit in grind (arith));
        answers_fit = c.self.invariant.1.answers_fit;
      },
    )

pub returns : goal.returns
returns g c = let d = c.self.inside in
    let at = subst (IsToEnd g c.args.now c.args.peer.now c.args.link.0) (sym c.self.view_is) (c.requires.time, c.requires.linked) in
    let one = the_one (λ held. held.number ≡ c.args.link.0) (link_of g.C.Ord.cmp d.links c.args.peer.now) at.1 in
    let v2 = seen c.end-2.new.node d.pace d.greeting (as_nanos d.cooldown) (record d.next_dial { from = (at_once d.next_dial).from; grants = c.remove.new.self }) (as_nanos c.args.now)
    d.next d.arrivals d.answers c.end.new.self c.end-2.new.links c.end-2.new.actions.items in
    subst (Ends g c.args.link.0 c.args.peer.now (as_nanos c.args.now) v2) c.self.view_is
    (subst (λ o. IsSomeAnd o (λ held. EndsAt g.C.Ord.cmp (wire_in g) c.args.link.0 c.args.peer.now (as_nanos c.args.now) held
    (seen d.node d.pace d.greeting (as_nanos d.cooldown) d.next_dial (as_nanos d.latest) d.next d.arrivals d.answers d.reads d.links d.actions.items) v2)) (sym one.1)
    (inl (
      c.args.now,
      later_is (as_nanos d.latest) (as_nanos c.args.now) at.0,
      ends_as d.node d.pace d.greeting (as_nanos d.cooldown) d.next_dial (as_nanos d.latest) d.next d.arrivals d.answers d.reads d.links d.actions.items
          c.args.link.0 c.args.peer.now one.0 c.args.now c.end-2.new.node _ c.end.new.self c.end-2.new.links c.end-2.new.actions.items (refl, refl) one.1 one.2 at.0
          (λ given calls stands. sym c.if-stays.false ∙ c.stays-stays.ensures given calls stands) c.end-2.ensures.made c.end.ensures.reads c.end-2.ensures.links
          c.remove.ensures.gone (given_some _ _ one.0 one.1 c.end-2.ensures.counts) c.end-2.ensures.said,
    )))
