use Rattle.std.proofs.Common.{◌≡◌, ◌<◌, ◌++◌, ℕ, Bool, true, false, Option, Some, None, refl, sym, ap, ◌∙◌, subst, find, arith}
use Rattle.std.specs.Option.{IsSomeAnd}
use Rattle.std.proofs.lemmas.Bool.Decides.{nat_tests}
use Rattle.p2p_driver.specs.declared.arrivals.Arrival.{Arrival}
use Rattle.p2p_driver.specs.declared.links.Held.{Held}
use Rattle.std.specs.Prelude.{nat_le}
use Rattle.std.specs.Duration.{as_nanos}
use Rattle.p2p_directory.specs.Received.{Wire}
use Rattle.p2p_driver.specs.Arrivals.{has_number, deadline_of}
use Rattle.p2p_driver.specs.Drivers.{DriverView, seen, wire_with}
use Rattle.p2p_driver.specs.Happenings.{next_at, shut}
use Rattle.p2p_driver.specs.Links.{link_of, is_late}
use Rattle.p2p_driver.specs.Timers.{ClosesOne, NoneLate}
use Rattle.p2p_driver.proofs.Driving.{goes_on}
use Rattle.p2p_driver.proofs.DrivingSets.{room_stays}
use Rattle.p2p_driver.proofs.DrivingTimers.{there, late_found, none_late, room_left, late_stream, late_link}
use Rattle.p2p_driver.proofs.driver.Driver.close_late.Given as given
use Rattle.p2p_driver.proofs.driver.Driver.close_late.Goals as goal

-- how keys are, by the type of the keys
abbrev wire_in : (g : given.Over) → Wire g.row.C.Denot g.row.C-Signature.Denot
wire_in g = wire_with g.C.PublicKey.verifies g.C.FixedBytes.spelled g.C.Signature.FixedBytes.spelled g.C.FixedBytes.SIZE
    g.C.FixedBytes.value g.C.Signature.FixedBytes.SIZE g.C.Signature.FixedBytes.value

pub close-requires-clause-there : goal.close-requires-clause-there
close-requires-clause-there g c = let d = c.self.inside in
    there _ (find (has_number c.in-Some.number) d.arrivals) (late_found (λ a. nat_le (deadline_of (as_nanos d.pace.first) (as_nanos d.pace.handshake) a) (as_nanos c.args.now))
    c.in-Some.number 0 (next_at c.self.invariant.0.history) d.arrivals c.self.invariant.0.stands.arrivals.rise (sym c.late.ensures ∙ c.in-Some.is))

pub invariant_of-self : goal.invariant_of-self
invariant_of-self g c = let d = c.self.inside in (
  goes_on _ _ _ c.self.invariant.0 (late_stream g.C.Ord.cmp (wire_in g) d.node d.pace d.greeting (as_nanos d.cooldown) d.next_dial (as_nanos d.latest) d.next d.arrivals d.answers d.reads d.links d.actions.items
      c.in-Some.number c.args.now c.close.new.arrivals c.close.new.answers c.close.new.actions.items
      (ap (λ (v : DriverView g.row.C.Denot g.row.C-Signature.Denot). v.latest) c.self.view_is ∙ c.requires)
      (late_found (λ a. nat_le (deadline_of (as_nanos d.pace.first) (as_nanos d.pace.handshake) a) (as_nanos c.args.now))
      c.in-Some.number 0 (next_at c.self.invariant.0.history) d.arrivals c.self.invariant.0.stands.arrivals.rise (sym c.late.ensures ∙ c.in-Some.is))
      c.close.ensures.arrivals c.close.ensures.answers c.close.ensures.said).does,
  room_left d.arrivals c.close.new.arrivals d.answers c.close.new.answers d.links d.actions c.close.new.actions
      c.self.invariant.1 c.close.ensures.actions_room c.close.ensures.answers_room,
)

pub returns-in-Some-clause-one : goal.returns-in-Some-clause-one
returns-in-Some-clause-one g c is = let d = c.self.inside in
    subst (λ v. ClosesOne g.C.Ord.cmp (wire_in g) c.args.now v
    (seen d.node d.pace d.greeting (as_nanos d.cooldown) d.next_dial (as_nanos d.latest) d.next c.close.new.arrivals c.close.new.answers d.reads d.links c.close.new.actions.items))
    c.self.view_is (late_stream g.C.Ord.cmp (wire_in g) d.node d.pace d.greeting (as_nanos d.cooldown) d.next_dial (as_nanos d.latest) d.next d.arrivals d.answers d.reads d.links d.actions.items
    c.in-Some.number c.args.now c.close.new.arrivals c.close.new.answers c.close.new.actions.items
    (ap (λ (v : DriverView g.row.C.Denot g.row.C-Signature.Denot). v.latest) c.self.view_is ∙ c.requires)
    (late_found (λ a. nat_le (deadline_of (as_nanos d.pace.first) (as_nanos d.pace.handshake) a) (as_nanos c.args.now))
    c.in-Some.number 0 (next_at c.self.invariant.0.history) d.arrivals c.self.invariant.0.stands.arrivals.rise (sym c.late.ensures ∙ c.in-Some.is))
    c.close.ensures.arrivals c.close.ensures.answers c.close.ensures.said)

pub invariant_of-self-in-Some-late : goal.invariant_of-self-in-Some-late
invariant_of-self-in-Some-late g c = let d = c.self.inside in (
  goes_on _ _ _ c.self.invariant.0 (late_link g.C.Ord.cmp (wire_in g) d.node d.pace d.greeting (as_nanos d.cooldown) d.next_dial (as_nanos d.latest) d.next d.arrivals d.answers d.reads d.links d.actions.items
      c.in-Some-late.peer c.args.now c.shut.new.links c.shut.new.actions.items
      (ap (λ (v : DriverView g.row.C.Denot g.row.C-Signature.Denot). v.latest) c.self.view_is ∙ c.requires)
      c.in-Some-late.ensures.late c.shut.ensures.links c.shut.ensures.counts
      (c.shut.ensures.said ∙ ap (λ w. d.actions.items ++ shut c.in-Some-late.peer w (link_of g.C.Ord.cmp d.links c.in-Some-late.peer)) c.why_late-why.ensures) c.shut.ensures.needs).does,
  room_stays d.arrivals d.answers d.links c.shut.new.links d.actions c.shut.new.actions c.self.invariant.1 c.shut.ensures.room,
)

pub returns-in-Some-late-clause-one : goal.returns-in-Some-late-clause-one
returns-in-Some-late-clause-one g c is = let d = c.self.inside in
    subst (λ v. ClosesOne g.C.Ord.cmp (wire_in g) c.args.now v
    (seen d.node d.pace d.greeting (as_nanos d.cooldown) d.next_dial (as_nanos d.latest) d.next d.arrivals d.answers d.reads c.shut.new.links c.shut.new.actions.items))
    c.self.view_is (late_link g.C.Ord.cmp (wire_in g) d.node d.pace d.greeting (as_nanos d.cooldown) d.next_dial (as_nanos d.latest) d.next d.arrivals d.answers d.reads d.links d.actions.items
    c.in-Some-late.peer c.args.now c.shut.new.links c.shut.new.actions.items
    (ap (λ (v : DriverView g.row.C.Denot g.row.C-Signature.Denot). v.latest) c.self.view_is ∙ c.requires)
    c.in-Some-late.ensures.late c.shut.ensures.links c.shut.ensures.counts
    (c.shut.ensures.said ∙ ap (λ w. d.actions.items ++ shut c.in-Some-late.peer w (link_of g.C.Ord.cmp d.links c.in-Some-late.peer)) c.why_late-why.ensures) c.shut.ensures.needs)

pub returns-clause-none : goal.returns-clause-none
returns-clause-none g c is = let d = c.self.inside in
    subst (λ v. NoneLate g.C.Ord.cmp (as_nanos c.args.now) v) c.self.view_is (record {
      streams = none_late (as_nanos d.pace.first) (as_nanos d.pace.handshake) (as_nanos c.args.now) d.arrivals (sym c.late.ensures ∙ c.in_default.is);
      links = c.in_default-late.ensures.none;
    })

-- a stream that is late is against none being late
stream_late : {K : Type 0} (first handshake t n : ℕ) (o : Option (Arrival K)) → IsSomeAnd o (λ a. nat_le (deadline_of first handshake a) t ≡ true) →
    ((a : Arrival K) → o ≡ Some a → t < deadline_of first handshake a) → ⊥
stream_late first handshake t n None late none = late
stream_late first handshake t n (Some a) late none = let later = none a refl in not_both (deadline_of first handshake a) t late later
  where
    not_both : (d t : ℕ) → nat_le d t ≡ true → t < d → ⊥
    not_both d t le lt = grind (arith, nat_tests)

link_late : (o : Option Held) (late : Held → Bool) → IsSomeAnd o (λ h. late h ≡ true) → ((h : Held) → o ≡ Some h → late h ≡ false) → ⊥
link_late None late is none = is
link_late (Some h) late is none = let not = none h refl in let both = sym is ∙ not in cc

pub returns-in-Some-clause-late : goal.returns-in-Some-clause-late
returns-in-Some-clause-late g c is none = let d = c.self.inside in
    let seen = subst (NoneLate g.C.Ord.cmp (as_nanos c.args.now)) (sym c.self.view_is) none in
    stream_late (as_nanos d.pace.first) (as_nanos d.pace.handshake) (as_nanos c.args.now) c.in-Some.number (find (has_number c.in-Some.number) d.arrivals)
    (late_found (λ a. nat_le (deadline_of (as_nanos d.pace.first) (as_nanos d.pace.handshake) a) (as_nanos c.args.now))
    c.in-Some.number 0 (next_at c.self.invariant.0.history) d.arrivals c.self.invariant.0.stands.arrivals.rise (sym c.late.ensures ∙ c.in-Some.is))
    (λ a at. seen.streams c.in-Some.number a at)

pub returns-in-Some-late-clause-late : goal.returns-in-Some-late-clause-late
returns-in-Some-late-clause-late g c is none = let d = c.self.inside in
    let seen = subst (NoneLate g.C.Ord.cmp (as_nanos c.args.now)) (sym c.self.view_is) none in
    link_late (link_of g.C.Ord.cmp d.links c.in-Some-late.peer) (is_late d.pace (as_nanos c.args.now))
    c.in-Some-late.ensures.late (λ h at. seen.links c.in-Some-late.peer h at)
