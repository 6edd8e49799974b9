use Rattle.std.proofs.Common.{◌≡◌, ℕ, ◌+◌, refl, arith, inr, true}
use Rattle.std.specs.Prelude.{is_some}
use Rattle.std.specs.Duration.{as_nanos}
use Rattle.p2p_directory.specs.Received.{Wire}
use Rattle.p2p_driver.specs.Drivers.{seen, wire_with}
use Rattle.p2p_driver.specs.Frames.{Outcome}
use Rattle.p2p_driver.specs.Frames.Cause.{OfHead}
use Rattle.p2p_driver.specs.Happenings.{Happening, is_closing, looked_by}
use Rattle.p2p_driver.specs.Looked.{looked_of}
use Rattle.p2p_driver.specs.declared.actions.Breach.TheVariants as breach
use Rattle.p2p_driver.specs.declared.heads.Kind.TheVariants as kind
use Rattle.p2p_driver.proofs.Driving.{goes_on, no_earlier}
use Rattle.p2p_driver.proofs.DrivingFrames.{heard_of}
use Rattle.p2p_driver.proofs.DrivingReads.{found_to, breaks_on, lacks_on, free_on, looked_at}
use Rattle.p2p_driver.proofs.driver.Driver.looked.Given as given
use Rattle.p2p_driver.proofs.driver.Driver.looked.Goals as goal

-- how keys are, by the type of the keys
abbrev wire_in : (g : given.Over) → Wire g.row.C.Denot g.row.C-Signature.Denot
wire_in g = wire_with g.C.PublicKey.verifies g.C.FixedBytes.spelled g.C.Signature.FixedBytes.spelled g.C.FixedBytes.SIZE
    g.C.FixedBytes.value g.C.Signature.FixedBytes.SIZE g.C.Signature.FixedBytes.value

-- no info is longer
abbrev longest : given.Over → ℕ
longest g = 261 + 10 + g.C.FixedBytes.SIZE + g.C.Signature.FixedBytes.SIZE

pub invariant_of-self : goal.invariant_of-self
invariant_of-self g c = (
  goes_on (Happening.Heard c.args.link.0 c.args.peer.now c.later-time.result c.args.owed (OfHead (longest g) c.args.head.now c.args.length) (Outcome.Reads kind.Greeting (looked_of c.args.head.now c.args.length))) _ _ c.self.invariant.0
      (free_on g.C.Ord.cmp (wire_in g) c.self.inside.node c.self.inside.pace c.self.inside.greeting (as_nanos c.self.inside.cooldown) c.self.inside.next_dial (as_nanos c.self.inside.latest)
      c.self.inside.next c.self.inside.arrivals c.self.inside.answers c.self.inside.reads c.self.inside.links c.self.inside.actions.items
      (longest g) c.args.link.0 c.args.peer.now c.args.owed c.args.head.now c.args.length c.later-time.result (no_earlier _ _ _ c.later-time.ensures)
      c.look.new.self c.self.inside.actions.items (found_to g.C.Ord.cmp (longest g) c.args.link.0 c.args.peer.now c.args.owed c.args.head.now c.args.length c.args.kind (kind.Greeting) c.args.self.now
      (seen c.self.inside.node c.self.inside.pace c.self.inside.greeting (as_nanos c.self.inside.cooldown) c.self.inside.next_dial (as_nanos c.self.inside.latest)
      c.self.inside.next c.self.inside.arrivals c.self.inside.answers c.self.inside.reads c.self.inside.links c.self.inside.actions.items) c.self.view_is c.in-Greeting.is c.requires.looks)
      (looked_at g.C.Ord.cmp c.self.inside.links c.look.new.self c.args.peer.now c.new.result (looked_of c.args.head.now c.args.length) c.new.ensures c.look.ensures.links)
      c.look.ensures.counts refl),
  record {
    actions_fit = (let f0 = c.look.ensures.needs in let fits = c.self.invariant.1.actions_fit in grind (arith));
    answers_fit = c.self.invariant.1.answers_fit;
  },
)

pub returns-in-Greeting : goal.returns-in-Greeting
returns-in-Greeting g c = heard_of g.C.Ord.cmp (wire_in g) c.self.view_is c.args.link.0 c.args.peer.now c.later-time.result c.args.owed (as_nanos c.args.now.steady)
    (OfHead (longest g) c.args.head.now c.args.length) (Outcome.Reads kind.Greeting (looked_of c.args.head.now c.args.length)) (λ o. is_some (looked_by o) ≡ true)
    c.later-time.ensures refl
    (free_on g.C.Ord.cmp (wire_in g) c.self.inside.node c.self.inside.pace c.self.inside.greeting (as_nanos c.self.inside.cooldown) c.self.inside.next_dial (as_nanos c.self.inside.latest)
    c.self.inside.next c.self.inside.arrivals c.self.inside.answers c.self.inside.reads c.self.inside.links c.self.inside.actions.items
    (longest g) c.args.link.0 c.args.peer.now c.args.owed c.args.head.now c.args.length c.later-time.result (no_earlier _ _ _ c.later-time.ensures)
    c.look.new.self c.self.inside.actions.items (found_to g.C.Ord.cmp (longest g) c.args.link.0 c.args.peer.now c.args.owed c.args.head.now c.args.length c.args.kind (kind.Greeting) c.args.self.now
    (seen c.self.inside.node c.self.inside.pace c.self.inside.greeting (as_nanos c.self.inside.cooldown) c.self.inside.next_dial (as_nanos c.self.inside.latest)
    c.self.inside.next c.self.inside.arrivals c.self.inside.answers c.self.inside.reads c.self.inside.links c.self.inside.actions.items) c.self.view_is c.in-Greeting.is c.requires.looks)
    (looked_at g.C.Ord.cmp c.self.inside.links c.look.new.self c.args.peer.now c.new.result (looked_of c.args.head.now c.args.length) c.new.ensures c.look.ensures.links)
    c.look.ensures.counts refl)

pub invariant_of-self-in-NoChannel : goal.invariant_of-self-in-NoChannel
invariant_of-self-in-NoChannel g c = (
  goes_on (Happening.Heard c.args.link.0 c.args.peer.now c.later-time.result c.args.owed (OfHead (longest g) c.args.head.now c.args.length) (Outcome.LacksChannel)) _ _ c.self.invariant.0
      (lacks_on g.C.Ord.cmp (wire_in g) c.self.inside.node c.self.inside.pace c.self.inside.greeting (as_nanos c.self.inside.cooldown) c.self.inside.next_dial (as_nanos c.self.inside.latest)
      c.self.inside.next c.self.inside.arrivals c.self.inside.answers c.self.inside.reads c.self.inside.links c.self.inside.actions.items
      (longest g) c.args.link.0 c.args.peer.now c.args.owed c.args.head.now c.args.length c.later-time.result (no_earlier _ _ _ c.later-time.ensures)
      c.shut_unknown.new.links c.shut_unknown.new.actions.items (found_to g.C.Ord.cmp (longest g) c.args.link.0 c.args.peer.now c.args.owed c.args.head.now c.args.length c.args.kind (kind.NoChannel) c.args.self.now
      (seen c.self.inside.node c.self.inside.pace c.self.inside.greeting (as_nanos c.self.inside.cooldown) c.self.inside.next_dial (as_nanos c.self.inside.latest)
      c.self.inside.next c.self.inside.arrivals c.self.inside.answers c.self.inside.reads c.self.inside.links c.self.inside.actions.items) c.self.view_is c.in-NoChannel.is c.requires.looks)
      (c.shut_unknown.ensures.follows c.args.link.0 c.args.owed)),
  record {
    actions_fit = (let f0 = c.shut_unknown.ensures.room in let fits = c.self.invariant.1.actions_fit in grind (arith));
    answers_fit = c.self.invariant.1.answers_fit;
  },
)

pub returns-in-NoChannel : goal.returns-in-NoChannel
returns-in-NoChannel g c = inr (heard_of g.C.Ord.cmp (wire_in g) c.self.view_is c.args.link.0 c.args.peer.now c.later-time.result c.args.owed (as_nanos c.args.now.steady)
    (OfHead (longest g) c.args.head.now c.args.length) (Outcome.LacksChannel) (λ o. is_closing o ≡ true)
    c.later-time.ensures refl
    (lacks_on g.C.Ord.cmp (wire_in g) c.self.inside.node c.self.inside.pace c.self.inside.greeting (as_nanos c.self.inside.cooldown) c.self.inside.next_dial (as_nanos c.self.inside.latest)
    c.self.inside.next c.self.inside.arrivals c.self.inside.answers c.self.inside.reads c.self.inside.links c.self.inside.actions.items
    (longest g) c.args.link.0 c.args.peer.now c.args.owed c.args.head.now c.args.length c.later-time.result (no_earlier _ _ _ c.later-time.ensures)
    c.shut_unknown.new.links c.shut_unknown.new.actions.items (found_to g.C.Ord.cmp (longest g) c.args.link.0 c.args.peer.now c.args.owed c.args.head.now c.args.length c.args.kind (kind.NoChannel) c.args.self.now
    (seen c.self.inside.node c.self.inside.pace c.self.inside.greeting (as_nanos c.self.inside.cooldown) c.self.inside.next_dial (as_nanos c.self.inside.latest)
    c.self.inside.next c.self.inside.arrivals c.self.inside.answers c.self.inside.reads c.self.inside.links c.self.inside.actions.items) c.self.view_is c.in-NoChannel.is c.requires.looks)
    (c.shut_unknown.ensures.follows c.args.link.0 c.args.owed)))

pub invariant_of-self-in-NoGreeting : goal.invariant_of-self-in-NoGreeting
invariant_of-self-in-NoGreeting g c = (
  goes_on (Happening.Heard c.args.link.0 c.args.peer.now c.later-time.result c.args.owed (OfHead (longest g) c.args.head.now c.args.length) (Outcome.Breaks breach.NoGreeting c.break_off.result)) _ _ c.self.invariant.0
      (breaks_on g.C.Ord.cmp (wire_in g) c.self.inside.node c.self.inside.pace c.self.inside.greeting (as_nanos c.self.inside.cooldown) c.self.inside.next_dial (as_nanos c.self.inside.latest)
      c.self.inside.next c.self.inside.arrivals c.self.inside.answers c.self.inside.reads c.self.inside.links c.self.inside.actions.items
      (longest g) c.args.link.0 c.args.peer.now c.args.owed c.args.head.now c.args.length c.later-time.result (no_earlier _ _ _ c.later-time.ensures)
      (kind.NoGreeting) breach.NoGreeting c.break_off.result c.break_off.new.node _ c.break_off.new.links c.break_off.new.actions.items ((refl, refl), refl) (found_to g.C.Ord.cmp (longest g) c.args.link.0 c.args.peer.now c.args.owed c.args.head.now c.args.length c.args.kind (kind.NoGreeting) c.args.self.now
      (seen c.self.inside.node c.self.inside.pace c.self.inside.greeting (as_nanos c.self.inside.cooldown) c.self.inside.next_dial (as_nanos c.self.inside.latest)
      c.self.inside.next c.self.inside.arrivals c.self.inside.answers c.self.inside.reads c.self.inside.links c.self.inside.actions.items) c.self.view_is c.in-NoGreeting.is c.requires.looks)
      refl (λ pace2 h. tt) c.break_off.ensures.made c.break_off.ensures.taken (c.break_off.ensures.follows c.args.link.0 c.args.owed)),
  record {
    actions_fit = (let f0 = c.break_off.ensures.room in let fits = c.self.invariant.1.actions_fit in grind (arith));
    answers_fit = c.self.invariant.1.answers_fit;
  },
)

pub returns-in-NoGreeting : goal.returns-in-NoGreeting
returns-in-NoGreeting g c = inr (heard_of g.C.Ord.cmp (wire_in g) c.self.view_is c.args.link.0 c.args.peer.now c.later-time.result c.args.owed (as_nanos c.args.now.steady)
    (OfHead (longest g) c.args.head.now c.args.length) (Outcome.Breaks breach.NoGreeting c.break_off.result) (λ o. is_closing o ≡ true)
    c.later-time.ensures refl
    (breaks_on g.C.Ord.cmp (wire_in g) c.self.inside.node c.self.inside.pace c.self.inside.greeting (as_nanos c.self.inside.cooldown) c.self.inside.next_dial (as_nanos c.self.inside.latest)
    c.self.inside.next c.self.inside.arrivals c.self.inside.answers c.self.inside.reads c.self.inside.links c.self.inside.actions.items
    (longest g) c.args.link.0 c.args.peer.now c.args.owed c.args.head.now c.args.length c.later-time.result (no_earlier _ _ _ c.later-time.ensures)
    (kind.NoGreeting) breach.NoGreeting c.break_off.result c.break_off.new.node _ c.break_off.new.links c.break_off.new.actions.items ((refl, refl), refl) (found_to g.C.Ord.cmp (longest g) c.args.link.0 c.args.peer.now c.args.owed c.args.head.now c.args.length c.args.kind (kind.NoGreeting) c.args.self.now
    (seen c.self.inside.node c.self.inside.pace c.self.inside.greeting (as_nanos c.self.inside.cooldown) c.self.inside.next_dial (as_nanos c.self.inside.latest)
    c.self.inside.next c.self.inside.arrivals c.self.inside.answers c.self.inside.reads c.self.inside.links c.self.inside.actions.items) c.self.view_is c.in-NoGreeting.is c.requires.looks)
    refl (λ pace2 h. tt) c.break_off.ensures.made c.break_off.ensures.taken (c.break_off.ensures.follows c.args.link.0 c.args.owed)))

pub invariant_of-self-in-TooLong : goal.invariant_of-self-in-TooLong
invariant_of-self-in-TooLong g c = (
  goes_on (Happening.Heard c.args.link.0 c.args.peer.now c.later-time.result c.args.owed (OfHead (longest g) c.args.head.now c.args.length) (Outcome.Breaks breach.FrameLength c.break_off-in-TooLong.result)) _ _ c.self.invariant.0
      (breaks_on g.C.Ord.cmp (wire_in g) c.self.inside.node c.self.inside.pace c.self.inside.greeting (as_nanos c.self.inside.cooldown) c.self.inside.next_dial (as_nanos c.self.inside.latest)
      c.self.inside.next c.self.inside.arrivals c.self.inside.answers c.self.inside.reads c.self.inside.links c.self.inside.actions.items
      (longest g) c.args.link.0 c.args.peer.now c.args.owed c.args.head.now c.args.length c.later-time.result (no_earlier _ _ _ c.later-time.ensures)
      (kind.TooLong) breach.FrameLength c.break_off-in-TooLong.result c.break_off-in-TooLong.new.node _ c.break_off-in-TooLong.new.links c.break_off-in-TooLong.new.actions.items ((refl, refl), refl) (found_to g.C.Ord.cmp (longest g) c.args.link.0 c.args.peer.now c.args.owed c.args.head.now c.args.length c.args.kind (kind.TooLong) c.args.self.now
      (seen c.self.inside.node c.self.inside.pace c.self.inside.greeting (as_nanos c.self.inside.cooldown) c.self.inside.next_dial (as_nanos c.self.inside.latest)
      c.self.inside.next c.self.inside.arrivals c.self.inside.answers c.self.inside.reads c.self.inside.links c.self.inside.actions.items) c.self.view_is c.in-TooLong.is c.requires.looks)
      refl (λ pace2 h. tt) c.break_off-in-TooLong.ensures.made c.break_off-in-TooLong.ensures.taken (c.break_off-in-TooLong.ensures.follows c.args.link.0 c.args.owed)),
  record {
    actions_fit = (let f0 = c.break_off-in-TooLong.ensures.room in let fits = c.self.invariant.1.actions_fit in grind (arith));
    answers_fit = c.self.invariant.1.answers_fit;
  },
)

pub returns-in-TooLong : goal.returns-in-TooLong
returns-in-TooLong g c = inr (heard_of g.C.Ord.cmp (wire_in g) c.self.view_is c.args.link.0 c.args.peer.now c.later-time.result c.args.owed (as_nanos c.args.now.steady)
    (OfHead (longest g) c.args.head.now c.args.length) (Outcome.Breaks breach.FrameLength c.break_off-in-TooLong.result) (λ o. is_closing o ≡ true)
    c.later-time.ensures refl
    (breaks_on g.C.Ord.cmp (wire_in g) c.self.inside.node c.self.inside.pace c.self.inside.greeting (as_nanos c.self.inside.cooldown) c.self.inside.next_dial (as_nanos c.self.inside.latest)
    c.self.inside.next c.self.inside.arrivals c.self.inside.answers c.self.inside.reads c.self.inside.links c.self.inside.actions.items
    (longest g) c.args.link.0 c.args.peer.now c.args.owed c.args.head.now c.args.length c.later-time.result (no_earlier _ _ _ c.later-time.ensures)
    (kind.TooLong) breach.FrameLength c.break_off-in-TooLong.result c.break_off-in-TooLong.new.node _ c.break_off-in-TooLong.new.links c.break_off-in-TooLong.new.actions.items ((refl, refl), refl) (found_to g.C.Ord.cmp (longest g) c.args.link.0 c.args.peer.now c.args.owed c.args.head.now c.args.length c.args.kind (kind.TooLong) c.args.self.now
    (seen c.self.inside.node c.self.inside.pace c.self.inside.greeting (as_nanos c.self.inside.cooldown) c.self.inside.next_dial (as_nanos c.self.inside.latest)
    c.self.inside.next c.self.inside.arrivals c.self.inside.answers c.self.inside.reads c.self.inside.links c.self.inside.actions.items) c.self.view_is c.in-TooLong.is c.requires.looks)
    refl (λ pace2 h. tt) c.break_off-in-TooLong.ensures.made c.break_off-in-TooLong.ensures.taken (c.break_off-in-TooLong.ensures.follows c.args.link.0 c.args.owed)))
