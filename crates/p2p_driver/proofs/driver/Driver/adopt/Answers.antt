use Rattle.std.proofs.Common.{◌≡◌, ◌≤◌, ◌==◌, ◌+◌, ℕ, Some, true, find, ap, subst, refl, sym, ◌∙◌, arith, length}
use Rattle.std.specs.Prelude.{if◌then◌else◌, is_some}
use Rattle.std.specs.Duration.{as_nanos}
use Rattle.std.specs.declared.time.Duration.{Duration}
use Rattle.p2p_tracker.specs.Answers.{is_eligible_at}
use Rattle.p2p_directory.specs.Nodes.{AtEach}
use Rattle.p2p_directory.specs.Received.{Wire}
use Rattle.p2p_directory.specs.Run.{world_after}
use Rattle.p2p_driver.specs.Arrivals.{has_number}
use Rattle.p2p_driver.specs.Drivers.{Does, DriverStands, DriverView, is_claim_by, seen, wire_with}
use Rattle.p2p_driver.specs.Grants.{kept_grant}
use Rattle.p2p_driver.specs.Happenings.{Happening}
use Rattle.p2p_driver.specs.Links.{needs}
use Rattle.p2p_driver.specs.Reads.{reads_of, unread}
use Rattle.p2p_driver.specs.Steps.{adopts_by, is_outbound_free}
use Rattle.p2p_driver.proofs.Driving.{each_unslotted, goes_on}
use Rattle.p2p_driver.proofs.DrivingLinks.{adopts_as, unused_here, unread_at, failed_view, claimed_some}
use Rattle.p2p_driver.proofs.driver.Driver.adopt.Given as given
use Rattle.p2p_driver.proofs.driver.Driver.adopt.Goals as goal

-- how keys are, by the type of the keys
abbrev wire_in : (g : given.Over) → Wire g.row.C.Denot g.row.C-Signature.Denot
wire_in g = wire_with g.C.PublicKey.verifies g.C.FixedBytes.spelled g.C.Signature.FixedBytes.spelled g.C.FixedBytes.SIZE
    g.C.FixedBytes.value g.C.Signature.FixedBytes.SIZE g.C.Signature.FixedBytes.value

-- a stream has claimed to be the peer's, and that may come in by the grant that is kept of it
abbrev IsToAdopt : (g : given.Over) → Duration → g.row.C.Denot → ℕ → DriverView g.row.C.Denot g.row.C-Signature.Denot → Type 0
IsToAdopt g t p n v = (v.latest ≤ as_nanos t) × (is_claim_by g.C.Ord.cmp p (find (has_number n) v.arrivals) ≡ true)
    × AtEach g.C.Ord.cmp v.node (λ m calls. adopts_by v.pace v.links (is_some (kept_grant g.C.Ord.cmp v.links v.next_dial.grants p))
    (is_eligible_at m.directory (world_after m.directory calls) p (as_nanos t)) ≡ true)

pub adopt-requires-clause-unread : goal.adopt-requires-clause-unread
adopt-requires-clause-unread g c = let d = c.self.inside in
    let at = subst (IsToAdopt g c.args.now c.args.peer c.args.link.0) (sym c.self.view_is) (c.requires.time, c.requires.claimed, c.requires.may) in
    unread_at d.node d.pace d.greeting (as_nanos d.cooldown) d.next_dial (as_nanos d.latest) d.next d.arrivals d.answers d.reads d.links d.actions.items
    c.self.invariant.0 c.args.link.0 (claimed_some g.C.Ord.cmp c.args.peer (find (has_number c.args.link.0) d.arrivals) at.1)

pub adopt-requires-clause-unused : goal.adopt-requires-clause-unused
adopt-requires-clause-unused g c = let d = c.self.inside in
    let at = subst (IsToAdopt g c.args.now c.args.peer c.args.link.0) (sym c.self.view_is) (c.requires.time, c.requires.claimed, c.requires.may) in
    unused_here d.node d.pace d.greeting (as_nanos d.cooldown) d.next_dial (as_nanos d.latest) d.next d.arrivals d.answers d.reads d.links d.actions.items
    c.self.invariant.0 c.args.link.0 (claimed_some g.C.Ord.cmp c.args.peer (find (has_number c.args.link.0) d.arrivals) at.1)

pub invariant_of-self : goal.invariant_of-self
invariant_of-self g c = let d = c.self.inside in let e = c.in_err-adopt.ensures.err in (
  subst (DriverStands g.C.Ord.cmp (wire_in g)) (sym (failed_view d.node d.pace d.greeting (as_nanos d.cooldown) d.next_dial (as_nanos d.latest) d.next d.arrivals d.answers d.reads d.links d.actions.items
      d.node (record d.next_dial { grants = c.adopt.new.grants }) c.adopt.new.reads c.adopt.new.links c.adopt.new.actions.items refl
      (ap (λ gs. record d.next_dial { grants = gs }) e.2) e.0 e.1 e.3)) c.self.invariant.0,
  record {
    actions_fit = (let same = ap needs e.1 in let room = c.in_err-adopt.ensures.room in let fits = c.self.invariant.1.actions_fit in grind (arith));
    answers_fit = c.self.invariant.1.answers_fit;
  },
)

-- it is a link
adopted : (g : given.Over) (c : goal.After-now-1 g) → let d = c.self.inside in
    Does {C = g.row.C.Denot} {S = g.row.C-Signature.Denot} g.C.Ord.cmp (wire_in g) (Happening.Adopted c.args.link.0 c.args.peer c.args.now (is_outbound_free d.pace d.links))
    (seen d.node d.pace d.greeting (as_nanos d.cooldown) d.next_dial (as_nanos d.latest) d.next d.arrivals d.answers d.reads d.links d.actions.items)
    (seen d.node d.pace d.greeting (as_nanos d.cooldown) (record d.next_dial { grants = c.adopt.new.grants }) (as_nanos c.args.now) d.next c.leave.new.arrivals c.leave.new.answers
    c.adopt.new.reads c.adopt.new.links c.adopt.new.actions.items)
adopted g c = let d = c.self.inside in
    let at = subst (IsToAdopt g c.args.now c.args.peer c.args.link.0) (sym c.self.view_is) (c.requires.time, c.requires.claimed, c.requires.may) in
    let may = each_unslotted (λ m calls. adopts_by d.pace d.links (is_some (kept_grant g.C.Ord.cmp d.links d.next_dial.grants c.args.peer))
    (is_eligible_at m.directory (world_after m.directory calls) c.args.peer (as_nanos c.args.now)) ≡ true) at.2 in
    adopts_as d.node d.pace d.greeting (as_nanos d.cooldown) d.next_dial (as_nanos d.latest) d.next d.arrivals d.answers d.reads d.links d.actions.items
    c.args.link.0 c.args.peer c.args.now c.adopts_as-direction.result _ c.adopt.new.reads c.adopt.new.links c.leave.new.arrivals c.leave.new.answers
    c.adopt.new.actions.items refl refl at.1 (λ given calls stands. sym (may given calls stands)) c.adopts_as-direction.ensures at.0
    (λ j. c.in_ok-adopt.ensures.reads j
    ∙ ap (λ xs. if j == c.args.link.0 then Some (unread (length xs + length xs)) else reads_of d.reads j) c.as_slice.ensures.value)
    c.in_ok-adopt.ensures.links c.in_ok-adopt.ensures.grants c.in_ok-adopt.ensures.counts c.leave.ensures.arrivals c.leave.ensures.answers c.in_ok-adopt.ensures.said

pub invariant_of-self-2 : goal.invariant_of-self-2
invariant_of-self-2 g c = (
  goes_on _ _ _ c.self.invariant.0 (adopted g c),
  record {
    actions_fit = (let fewer = c.leave.ensures.fewer in let more = c.in_ok-adopt.ensures.needs in
        let room = c.in_ok-adopt.ensures.room in let fits = c.self.invariant.1.actions_fit in grind (arith));
    answers_fit = c.leave.ensures.answers_room;
  },
)

pub returns-clause-did : goal.returns-clause-did
returns-clause-did g c = let d = c.self.inside in (
  is_outbound_free d.pace d.links,
  subst (λ v. Does g.C.Ord.cmp (wire_in g) (Happening.Adopted c.args.link.0 c.args.peer c.args.now (is_outbound_free d.pace d.links)) v
      (seen d.node d.pace d.greeting (as_nanos d.cooldown) (record d.next_dial { grants = c.adopt.new.grants }) (as_nanos c.args.now) d.next c.leave.new.arrivals c.leave.new.answers
      c.adopt.new.reads c.adopt.new.links c.adopt.new.actions.items)) c.self.view_is (adopted g c),
)
