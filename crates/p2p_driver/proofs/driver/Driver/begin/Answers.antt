use Rattle.std.proofs.Common.{◌≡◌, ◌≤◌, ◌==◌, ◌+◌, ℕ, Some, true, find, ap, subst, refl, sym, ◌∙◌, arith, length}
use Rattle.std.specs.Prelude.{if◌then◌else◌}
use Rattle.std.specs.Duration.{as_nanos}
use Rattle.std.specs.declared.time.Duration.{Duration}
use Rattle.p2p_tracker.specs.Answers.{may_listen_at}
use Rattle.p2p_directory.specs.Nodes.{AtEach}
use Rattle.p2p_directory.specs.Received.{Wire}
use Rattle.p2p_directory.specs.Run.{world_after}
use Rattle.p2p_driver.specs.Arrivals.{has_number}
use Rattle.p2p_driver.specs.Drivers.{Does, DriverView, is_claim_by, jitter_of, seen, wire_with}
use Rattle.p2p_driver.specs.Happenings.{Happening}
use Rattle.p2p_driver.specs.Reads.{reads_of, unread}
use Rattle.p2p_driver.specs.Steps.{comes_by}
use Rattle.p2p_driver.proofs.Driving.{each_unslotted, goes_on}
use Rattle.p2p_driver.proofs.DrivingLinks.{proves_by, unused_here, listens_by, unread_at, claimed_some}
use Rattle.p2p_driver.proofs.Standing.{at_once}
use Rattle.p2p_driver.proofs.driver.Driver.begin.Given as given
use Rattle.p2p_driver.proofs.driver.Driver.begin.Goals as goal

-- how keys are, by the type of the keys
abbrev wire_in : (g : given.Over) → Wire g.row.C.Denot g.row.C-Signature.Denot
wire_in g = wire_with g.C.PublicKey.verifies g.C.FixedBytes.spelled g.C.Signature.FixedBytes.spelled g.C.FixedBytes.SIZE
    g.C.FixedBytes.value g.C.Signature.FixedBytes.SIZE g.C.Signature.FixedBytes.value

-- a stream has claimed to be the peer's, and that may be reserved
abbrev IsToBegin : (g : given.Over) → Duration → g.row.C.Denot → ℕ → DriverView g.row.C.Denot g.row.C-Signature.Denot → Type 0
IsToBegin g t p n v = (v.latest ≤ as_nanos t) × (is_claim_by g.C.Ord.cmp p (find (has_number n) v.arrivals) ≡ true)
    × AtEach g.C.Ord.cmp v.node (λ m calls.
    comes_by g.C.Ord.cmp v.pace v.links p (may_listen_at m.directory (world_after m.directory calls) p (as_nanos t)) ≡ true)

pub begin-requires-clause-unread : goal.begin-requires-clause-unread
begin-requires-clause-unread g c = let d = c.self.inside in
    let at = subst (IsToBegin g c.args.now c.args.peer c.args.link.0) (sym c.self.view_is) (c.requires.time, c.requires.claimed, c.requires.may) in
    unread_at d.node d.pace d.greeting (as_nanos d.cooldown) d.next_dial (as_nanos d.latest) d.next d.arrivals d.answers d.reads d.links d.actions.items
    c.self.invariant.0 c.args.link.0 (claimed_some g.C.Ord.cmp c.args.peer (find (has_number c.args.link.0) d.arrivals) at.1)

pub begin-requires-clause-unused : goal.begin-requires-clause-unused
begin-requires-clause-unused g c = let d = c.self.inside in
    let at = subst (IsToBegin g c.args.now c.args.peer c.args.link.0) (sym c.self.view_is) (c.requires.time, c.requires.claimed, c.requires.may) in
    unused_here d.node d.pace d.greeting (as_nanos d.cooldown) d.next_dial (as_nanos d.latest) d.next d.arrivals d.answers d.reads d.links d.actions.items
    c.self.invariant.0 c.args.link.0 (claimed_some g.C.Ord.cmp c.args.peer (find (has_number c.args.link.0) d.arrivals) at.1)

pub begin-requires-clause-may : goal.begin-requires-clause-may
begin-requires-clause-may g c = let d = c.self.inside in
    let at = subst (IsToBegin g c.args.now c.args.peer c.args.link.0) (sym c.self.view_is) (c.requires.time, c.requires.claimed, c.requires.may) in
    listens_by d.node d.pace d.greeting (as_nanos d.cooldown) d.next_dial (as_nanos d.latest) d.next d.arrivals d.answers d.reads d.links d.actions.items
    g.C.Ord.cmp c.args.peer c.args.now
    (each_unslotted (λ m calls. comes_by g.C.Ord.cmp d.pace d.links c.args.peer (may_listen_at m.directory (world_after m.directory calls) c.args.peer (as_nanos c.args.now)) ≡ true) at.2)

-- it is a link
begun : (g : given.Over) (c : goal.After-self-1 g) → let d = c.self.inside in
    Does {C = g.row.C.Denot} {S = g.row.C-Signature.Denot} g.C.Ord.cmp (wire_in g) (Happening.Proved c.args.link.0 c.args.peer c.args.now c.jitter.result)
    (seen d.node d.pace d.greeting (as_nanos d.cooldown) d.next_dial (as_nanos d.latest) d.next d.arrivals d.answers d.reads d.links d.actions.items)
    (seen c.begin.new.node d.pace d.greeting (as_nanos d.cooldown) (at_once d.next_dial) (as_nanos c.args.now) d.next c.leave.new.arrivals c.leave.new.answers
    c.begin.new.reads c.begin.new.links c.begin.new.actions.items)
begun g c = let d = c.self.inside in
    let at = subst (IsToBegin g c.args.now c.args.peer c.args.link.0) (sym c.self.view_is) (c.requires.time, c.requires.claimed, c.requires.may) in
    proves_by d.node d.pace d.greeting (as_nanos d.cooldown) d.next_dial (as_nanos d.latest) d.next d.arrivals d.answers d.reads d.links d.actions.items
    c.args.link.0 c.args.peer c.args.now c.jitter.result c.begin.new.node _ c.begin.new.reads c.begin.new.links c.leave.new.arrivals c.leave.new.answers
    c.begin.new.actions.items ((refl, refl), refl) at.1
    (each_unslotted (λ m calls. comes_by g.C.Ord.cmp d.pace d.links c.args.peer (may_listen_at m.directory (world_after m.directory calls) c.args.peer (as_nanos c.args.now)) ≡ true) at.2)
    at.0 c.in_ok-begin.ensures.made
    (λ j. c.in_ok-begin.ensures.reads j
    ∙ ap (λ xs. if j == c.args.link.0 then Some (unread (length xs + length xs)) else reads_of d.reads j) c.as_slice.ensures.value)
    c.in_ok-begin.ensures.links c.in_ok-begin.ensures.counts c.leave.ensures.arrivals c.leave.ensures.answers c.in_ok-begin.ensures.said

pub invariant_of-self-2 : goal.invariant_of-self-2
invariant_of-self-2 g c = (
  goes_on _ _ _ c.self.invariant.0 (begun g c),
  record {
    actions_fit = (let fewer = c.leave.ensures.fewer in let more = c.in_ok-begin.ensures.needs in
        let room = c.in_ok-begin.ensures.room in let fits = c.self.invariant.1.actions_fit in grind (arith));
    answers_fit = c.leave.ensures.answers_room;
  },
)

pub returns-clause-did : goal.returns-clause-did
returns-clause-did g c = let d = c.self.inside in (
  c.jitter.result,
  c.jitter.ensures ∙ ap (λ (v : DriverView g.row.C.Denot g.row.C-Signature.Denot). jitter_of v.cooldown c.args.word) c.self.view_is,
  subst (λ v. Does g.C.Ord.cmp (wire_in g) (Happening.Proved c.args.link.0 c.args.peer c.args.now c.jitter.result) v
      (seen c.begin.new.node d.pace d.greeting (as_nanos d.cooldown) (at_once d.next_dial) (as_nanos c.args.now) d.next c.leave.new.arrivals c.leave.new.answers
      c.begin.new.reads c.begin.new.links c.begin.new.actions.items)) c.self.view_is (begun g c),
)
