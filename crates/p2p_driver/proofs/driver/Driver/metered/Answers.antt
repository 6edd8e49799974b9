use Rattle.std.proofs.Common.{◌≡◌, ◌<◌, ℕ, ◌+◌, refl, sym, subst, arith, Some, true}
use Rattle.std.specs.Prelude.{is_some, IfSome, length}
use Rattle.std.specs.Option.{IsSomeAnd}
use Rattle.p2p_driver.specs.Reads.{reads_of, HasPlace}
use Rattle.p2p_driver.specs.Meters.{MetersView}
use Rattle.std.specs.Duration.{as_nanos}
use Rattle.p2p_directory.specs.Received.{Wire}
use Rattle.p2p_driver.specs.Drivers.{DriverView, seen, wire_with}
use Rattle.p2p_driver.specs.Frames.{Outcome}
use Rattle.p2p_driver.specs.Frames.Cause.{OfHead}
use Rattle.p2p_driver.specs.Happenings.{Happening, looked_by}
use Rattle.p2p_driver.specs.Looked.{looked_of}
use Rattle.p2p_driver.specs.Reading.{kind_at_rate}
use Rattle.p2p_driver.proofs.Driving.{goes_on, no_earlier}
use Rattle.p2p_driver.proofs.DrivingFrames.{heard_of}
use Rattle.p2p_driver.proofs.DrivingReads.{found_to, reads_on, delays_on, looked_at, linked_meters}
use Rattle.p2p_driver.proofs.driver.Driver.metered.Given as given
use Rattle.p2p_driver.proofs.driver.Driver.metered.Goals as goal

-- how keys are, by the type of the keys
abbrev wire_in : (g : given.Over) → Wire g.row.C.Denot g.row.C-Signature.Denot
wire_in g = wire_with g.C.PublicKey.verifies g.C.FixedBytes.spelled g.C.Signature.FixedBytes.spelled g.C.FixedBytes.SIZE
    g.C.FixedBytes.value g.C.Signature.FixedBytes.SIZE g.C.Signature.FixedBytes.value

-- no info is longer
abbrev longest : given.Over → ℕ
longest g = 261 + 10 + g.C.FixedBytes.SIZE + g.C.Signature.FixedBytes.SIZE

-- what is kept of the link
abbrev meters : (g : given.Over) (c : goal.After-take-arg-1 g) →
    (m : MetersView) × (reads_of c.self.inside.reads c.args.link.0 ≡ Some m) × HasPlace c.args.place m
meters g c = (linked_meters g.C.Ord.cmp (wire_in g) c.self.inside.node c.self.inside.pace c.self.inside.greeting (as_nanos c.self.inside.cooldown) c.self.inside.next_dial (as_nanos c.self.inside.latest)
    c.self.inside.next c.self.inside.arrivals c.self.inside.answers c.self.inside.reads c.self.inside.links c.self.inside.actions.items (longest g) c.args.link.0 c.args.peer.now c.args.owed c.args.head.now c.args.length
    c.later-time.result (no_earlier _ _ _ c.later-time.ensures) g.met.C.PublicKey.exact c.self.invariant.0 c.args.place
    (subst (λ (x : DriverView g.row.C.Denot g.row.C-Signature.Denot). IfSome c.args.place (λ y. y < length x.pace.channels.items)) (sym c.self.view_is)
    c.requires.place) (kind_at_rate c.args.place) (found_to g.C.Ord.cmp (longest g) c.args.link.0 c.args.peer.now c.args.owed c.args.head.now c.args.length (kind_at_rate c.args.place) (kind_at_rate c.args.place) c.args.self.now
    (seen c.self.inside.node c.self.inside.pace c.self.inside.greeting (as_nanos c.self.inside.cooldown) c.self.inside.next_dial (as_nanos c.self.inside.latest)
    c.self.inside.next c.self.inside.arrivals c.self.inside.answers c.self.inside.reads c.self.inside.links c.self.inside.actions.items) c.self.view_is refl c.requires.looks))

pub take-requires : goal.take-requires
take-requires g c = let m = meters g c in subst (λ o. IsSomeAnd o (HasPlace c.args.place)) (sym m.1) m.2

pub invariant_of-self : goal.invariant_of-self
invariant_of-self g c = (
  goes_on (Happening.Heard c.args.link.0 c.args.peer.now c.later-time.result c.args.owed (OfHead (longest g) c.args.head.now c.args.length) (Outcome.Reads (kind_at_rate c.args.place) (looked_of c.args.head.now c.args.length))) _ _ c.self.invariant.0
      (let m = (linked_meters g.C.Ord.cmp (wire_in g) c.self.inside.node c.self.inside.pace c.self.inside.greeting (as_nanos c.self.inside.cooldown) c.self.inside.next_dial (as_nanos c.self.inside.latest)
      c.self.inside.next c.self.inside.arrivals c.self.inside.answers c.self.inside.reads c.self.inside.links c.self.inside.actions.items (longest g) c.args.link.0 c.args.peer.now c.args.owed c.args.head.now c.args.length
      c.later-time.result (no_earlier _ _ _ c.later-time.ensures) g.met.C.PublicKey.exact c.self.invariant.0 c.args.place
      (subst (λ (x : DriverView g.row.C.Denot g.row.C-Signature.Denot). IfSome c.args.place (λ y. y < length x.pace.channels.items)) (sym c.self.view_is)
      c.requires.place) (kind_at_rate c.args.place) (found_to g.C.Ord.cmp (longest g) c.args.link.0 c.args.peer.now c.args.owed c.args.head.now c.args.length (kind_at_rate c.args.place) (kind_at_rate c.args.place) c.args.self.now
      (seen c.self.inside.node c.self.inside.pace c.self.inside.greeting (as_nanos c.self.inside.cooldown) c.self.inside.next_dial (as_nanos c.self.inside.latest)
      c.self.inside.next c.self.inside.arrivals c.self.inside.answers c.self.inside.reads c.self.inside.links c.self.inside.actions.items) c.self.view_is refl c.requires.looks)) in let m2 = c.take.ensures.read c.in-None.is m.0 m.1 in
      reads_on g.C.Ord.cmp (wire_in g) c.self.inside.node c.self.inside.pace c.self.inside.greeting (as_nanos c.self.inside.cooldown) c.self.inside.next_dial (as_nanos c.self.inside.latest)
      c.self.inside.next c.self.inside.arrivals c.self.inside.answers c.self.inside.reads c.self.inside.links c.self.inside.actions.items
      (longest g) c.args.link.0 c.args.peer.now c.args.owed c.args.head.now c.args.length c.later-time.result (no_earlier _ _ _ c.later-time.ensures)
      g.met.C.PublicKey.exact c.args.place c.rate_at-rate.result c.rate_at-rate.ensures
      c.take.new.self c.look.new.self c.self.inside.actions.items m.0 m2.0 (found_to g.C.Ord.cmp (longest g) c.args.link.0 c.args.peer.now c.args.owed c.args.head.now c.args.length (kind_at_rate c.args.place) (kind_at_rate c.args.place) c.args.self.now
      (seen c.self.inside.node c.self.inside.pace c.self.inside.greeting (as_nanos c.self.inside.cooldown) c.self.inside.next_dial (as_nanos c.self.inside.latest)
      c.self.inside.next c.self.inside.arrivals c.self.inside.answers c.self.inside.reads c.self.inside.links c.self.inside.actions.items) c.self.view_is refl c.requires.looks) m.1 m2.1 m2.2 c.take.ensures.others
      (looked_at g.C.Ord.cmp c.self.inside.links c.look.new.self c.args.peer.now c.new.result (looked_of c.args.head.now c.args.length) c.new.ensures c.look.ensures.links)
      c.look.ensures.counts refl),
  record {
    actions_fit = (let f0 = c.look.ensures.needs in let fits = c.self.invariant.1.actions_fit in grind (arith));
    answers_fit = c.self.invariant.1.answers_fit;
  },
)

pub returns-in-None : goal.returns-in-None
returns-in-None g c = heard_of g.C.Ord.cmp (wire_in g) c.self.view_is c.args.link.0 c.args.peer.now c.later-time.result c.args.owed (as_nanos c.args.now.steady)
    (OfHead (longest g) c.args.head.now c.args.length) (Outcome.Reads (kind_at_rate c.args.place) (looked_of c.args.head.now c.args.length)) (λ o. is_some (looked_by o) ≡ true)
    c.later-time.ensures refl
    (let m = (linked_meters g.C.Ord.cmp (wire_in g) c.self.inside.node c.self.inside.pace c.self.inside.greeting (as_nanos c.self.inside.cooldown) c.self.inside.next_dial (as_nanos c.self.inside.latest)
    c.self.inside.next c.self.inside.arrivals c.self.inside.answers c.self.inside.reads c.self.inside.links c.self.inside.actions.items (longest g) c.args.link.0 c.args.peer.now c.args.owed c.args.head.now c.args.length
    c.later-time.result (no_earlier _ _ _ c.later-time.ensures) g.met.C.PublicKey.exact c.self.invariant.0 c.args.place
    (subst (λ (x : DriverView g.row.C.Denot g.row.C-Signature.Denot). IfSome c.args.place (λ y. y < length x.pace.channels.items)) (sym c.self.view_is)
    c.requires.place) (kind_at_rate c.args.place) (found_to g.C.Ord.cmp (longest g) c.args.link.0 c.args.peer.now c.args.owed c.args.head.now c.args.length (kind_at_rate c.args.place) (kind_at_rate c.args.place) c.args.self.now
    (seen c.self.inside.node c.self.inside.pace c.self.inside.greeting (as_nanos c.self.inside.cooldown) c.self.inside.next_dial (as_nanos c.self.inside.latest)
    c.self.inside.next c.self.inside.arrivals c.self.inside.answers c.self.inside.reads c.self.inside.links c.self.inside.actions.items) c.self.view_is refl c.requires.looks)) in let m2 = c.take.ensures.read c.in-None.is m.0 m.1 in
    reads_on g.C.Ord.cmp (wire_in g) c.self.inside.node c.self.inside.pace c.self.inside.greeting (as_nanos c.self.inside.cooldown) c.self.inside.next_dial (as_nanos c.self.inside.latest)
    c.self.inside.next c.self.inside.arrivals c.self.inside.answers c.self.inside.reads c.self.inside.links c.self.inside.actions.items
    (longest g) c.args.link.0 c.args.peer.now c.args.owed c.args.head.now c.args.length c.later-time.result (no_earlier _ _ _ c.later-time.ensures)
    g.met.C.PublicKey.exact c.args.place c.rate_at-rate.result c.rate_at-rate.ensures
    c.take.new.self c.look.new.self c.self.inside.actions.items m.0 m2.0 (found_to g.C.Ord.cmp (longest g) c.args.link.0 c.args.peer.now c.args.owed c.args.head.now c.args.length (kind_at_rate c.args.place) (kind_at_rate c.args.place) c.args.self.now
    (seen c.self.inside.node c.self.inside.pace c.self.inside.greeting (as_nanos c.self.inside.cooldown) c.self.inside.next_dial (as_nanos c.self.inside.latest)
    c.self.inside.next c.self.inside.arrivals c.self.inside.answers c.self.inside.reads c.self.inside.links c.self.inside.actions.items) c.self.view_is refl c.requires.looks) m.1 m2.1 m2.2 c.take.ensures.others
    (looked_at g.C.Ord.cmp c.self.inside.links c.look.new.self c.args.peer.now c.new.result (looked_of c.args.head.now c.args.length) c.new.ensures c.look.ensures.links)
    c.look.ensures.counts refl)

pub invariant_of-self-in-Some : goal.invariant_of-self-in-Some
invariant_of-self-in-Some g c = (
  goes_on (Happening.Heard c.args.link.0 c.args.peer.now c.later-time.result c.args.owed (OfHead (longest g) c.args.head.now c.args.length) (Outcome.Delays (as_nanos c.in-Some.next))) _ _ c.self.invariant.0
      (let m = (linked_meters g.C.Ord.cmp (wire_in g) c.self.inside.node c.self.inside.pace c.self.inside.greeting (as_nanos c.self.inside.cooldown) c.self.inside.next_dial (as_nanos c.self.inside.latest)
      c.self.inside.next c.self.inside.arrivals c.self.inside.answers c.self.inside.reads c.self.inside.links c.self.inside.actions.items (longest g) c.args.link.0 c.args.peer.now c.args.owed c.args.head.now c.args.length
      c.later-time.result (no_earlier _ _ _ c.later-time.ensures) g.met.C.PublicKey.exact c.self.invariant.0 c.args.place
      (subst (λ (x : DriverView g.row.C.Denot g.row.C-Signature.Denot). IfSome c.args.place (λ y. y < length x.pace.channels.items)) (sym c.self.view_is)
      c.requires.place) (kind_at_rate c.args.place) (found_to g.C.Ord.cmp (longest g) c.args.link.0 c.args.peer.now c.args.owed c.args.head.now c.args.length (kind_at_rate c.args.place) (kind_at_rate c.args.place) c.args.self.now
      (seen c.self.inside.node c.self.inside.pace c.self.inside.greeting (as_nanos c.self.inside.cooldown) c.self.inside.next_dial (as_nanos c.self.inside.latest)
      c.self.inside.next c.self.inside.arrivals c.self.inside.answers c.self.inside.reads c.self.inside.links c.self.inside.actions.items) c.self.view_is refl c.requires.looks)) in
      delays_on g.C.Ord.cmp (wire_in g) c.self.inside.node c.self.inside.pace c.self.inside.greeting (as_nanos c.self.inside.cooldown) c.self.inside.next_dial (as_nanos c.self.inside.latest)
      c.self.inside.next c.self.inside.arrivals c.self.inside.answers c.self.inside.reads c.self.inside.links c.self.inside.actions.items
      (longest g) c.args.link.0 c.args.peer.now c.args.owed c.args.head.now c.args.length c.later-time.result (no_earlier _ _ _ c.later-time.ensures)
      g.met.C.PublicKey.exact c.args.place c.rate_at-rate.result c.rate_at-rate.ensures
      (as_nanos c.in-Some.next) c.take.new.self c.hear.new.self c.self.inside.actions.items m.0 c.in-Some.ensures.unchanged (found_to g.C.Ord.cmp (longest g) c.args.link.0 c.args.peer.now c.args.owed c.args.head.now c.args.length (kind_at_rate c.args.place) (kind_at_rate c.args.place) c.args.self.now
      (seen c.self.inside.node c.self.inside.pace c.self.inside.greeting (as_nanos c.self.inside.cooldown) c.self.inside.next_dial (as_nanos c.self.inside.latest)
      c.self.inside.next c.self.inside.arrivals c.self.inside.answers c.self.inside.reads c.self.inside.links c.self.inside.actions.items) c.self.view_is refl c.requires.looks) m.1 (c.in-Some.ensures.early m.0 m.1) c.in-Some.ensures.bound
      c.hear.ensures.links c.hear.ensures.counts refl),
  record {
    actions_fit = (let f0 = c.hear.ensures.needs in let fits = c.self.invariant.1.actions_fit in grind (arith));
    answers_fit = c.self.invariant.1.answers_fit;
  },
)

pub returns-in-Some : goal.returns-in-Some
returns-in-Some g c = heard_of g.C.Ord.cmp (wire_in g) c.self.view_is c.args.link.0 c.args.peer.now c.later-time.result c.args.owed (as_nanos c.args.now.steady)
    (OfHead (longest g) c.args.head.now c.args.length) (Outcome.Delays (as_nanos c.in-Some.next)) (λ o. o ≡ Outcome.Delays (as_nanos c.in-Some.next))
    c.later-time.ensures refl
    (let m = (linked_meters g.C.Ord.cmp (wire_in g) c.self.inside.node c.self.inside.pace c.self.inside.greeting (as_nanos c.self.inside.cooldown) c.self.inside.next_dial (as_nanos c.self.inside.latest)
    c.self.inside.next c.self.inside.arrivals c.self.inside.answers c.self.inside.reads c.self.inside.links c.self.inside.actions.items (longest g) c.args.link.0 c.args.peer.now c.args.owed c.args.head.now c.args.length
    c.later-time.result (no_earlier _ _ _ c.later-time.ensures) g.met.C.PublicKey.exact c.self.invariant.0 c.args.place
    (subst (λ (x : DriverView g.row.C.Denot g.row.C-Signature.Denot). IfSome c.args.place (λ y. y < length x.pace.channels.items)) (sym c.self.view_is)
    c.requires.place) (kind_at_rate c.args.place) (found_to g.C.Ord.cmp (longest g) c.args.link.0 c.args.peer.now c.args.owed c.args.head.now c.args.length (kind_at_rate c.args.place) (kind_at_rate c.args.place) c.args.self.now
    (seen c.self.inside.node c.self.inside.pace c.self.inside.greeting (as_nanos c.self.inside.cooldown) c.self.inside.next_dial (as_nanos c.self.inside.latest)
    c.self.inside.next c.self.inside.arrivals c.self.inside.answers c.self.inside.reads c.self.inside.links c.self.inside.actions.items) c.self.view_is refl c.requires.looks)) in
    delays_on g.C.Ord.cmp (wire_in g) c.self.inside.node c.self.inside.pace c.self.inside.greeting (as_nanos c.self.inside.cooldown) c.self.inside.next_dial (as_nanos c.self.inside.latest)
    c.self.inside.next c.self.inside.arrivals c.self.inside.answers c.self.inside.reads c.self.inside.links c.self.inside.actions.items
    (longest g) c.args.link.0 c.args.peer.now c.args.owed c.args.head.now c.args.length c.later-time.result (no_earlier _ _ _ c.later-time.ensures)
    g.met.C.PublicKey.exact c.args.place c.rate_at-rate.result c.rate_at-rate.ensures
    (as_nanos c.in-Some.next) c.take.new.self c.hear.new.self c.self.inside.actions.items m.0 c.in-Some.ensures.unchanged (found_to g.C.Ord.cmp (longest g) c.args.link.0 c.args.peer.now c.args.owed c.args.head.now c.args.length (kind_at_rate c.args.place) (kind_at_rate c.args.place) c.args.self.now
    (seen c.self.inside.node c.self.inside.pace c.self.inside.greeting (as_nanos c.self.inside.cooldown) c.self.inside.next_dial (as_nanos c.self.inside.latest)
    c.self.inside.next c.self.inside.arrivals c.self.inside.answers c.self.inside.reads c.self.inside.links c.self.inside.actions.items) c.self.view_is refl c.requires.looks) m.1 (c.in-Some.ensures.early m.0 m.1) c.in-Some.ensures.bound
    c.hear.ensures.links c.hear.ensures.counts refl)
