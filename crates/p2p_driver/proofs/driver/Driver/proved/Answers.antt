use Rattle.std.proofs.Common.{subst, sym, ◌∙◌, length, true, ◌≡◌}
use Rattle.std.specs.Duration.{as_nanos}
use Rattle.p2p_driver.specs.Happenings.{Happening}
use Rattle.p2p_driver.specs.Links.{needs}
use Rattle.p2p_driver.proofs.Driving.{each_slotted, goes_on, no_earlier, room_left}
use Rattle.p2p_driver.proofs.Fewer.{found_some}
use Rattle.p2p_driver.proofs.DrivingLinks.{unproves_by, proof_refused, begins_by, proof_failed, nothing_against}
use Rattle.p2p_directory.specs.Received.{Wire}
use Rattle.p2p_tracker.specs.Answers.{may_listen_at}
use Rattle.p2p_directory.specs.Nodes.{AtEach}
use Rattle.p2p_directory.specs.Run.{world_after}
use Rattle.p2p_driver.specs.Drivers.{DriverView, wire_with}
use Rattle.p2p_driver.specs.Steps.{comes_by}
use Rattle.p2p_driver.proofs.driver.Driver.proved.Given as given
use Rattle.p2p_driver.proofs.driver.Driver.proved.Goals as goal

-- how keys are, by the type of the keys
abbrev wire_in : (g : given.Over) → Wire g.row.C.Denot g.row.C-Signature.Denot
wire_in g = wire_with g.C.PublicKey.verifies g.C.FixedBytes.spelled g.C.Signature.FixedBytes.spelled g.C.FixedBytes.SIZE
    g.C.FixedBytes.value g.C.Signature.FixedBytes.SIZE g.C.Signature.FixedBytes.value

pub invariant_of-self : goal.invariant_of-self
invariant_of-self g c = (
  goes_on (Happening.Unproved c.args.link.0 c.args.peer c.later-now.result c.in-Some-no_proof.why) _ _ c.self.invariant.0
      (unproves_by c.self.inside.node c.self.inside.pace c.self.inside.greeting (as_nanos c.self.inside.cooldown) c.self.inside.next_dial (as_nanos c.self.inside.latest) c.self.inside.next c.self.inside.arrivals c.self.inside.answers c.self.inside.reads c.self.inside.links c.self.inside.actions.items c.args.link.0 c.in-Some.stream c.args.peer
      c.later-now.result c.in-Some-no_proof.why c.close.new.arrivals c.close.new.answers c.close.new.actions.items
      (sym c.get.ensures ∙ c.in-Some.is)
      (λ given calls stands. sym c.in-Some-no_proof.is ∙ c.no_proof.ensures given calls stands)
      (no_earlier _ _ _ c.later-now.ensures) c.close.ensures.arrivals c.close.ensures.answers c.close.ensures.said),
  record {
    actions_fit = room_left (length c.self.inside.arrivals) (length c.close.new.arrivals) (needs c.self.inside.links)
        c.self.inside.actions.room c.close.new.actions.room c.close.ensures.actions_room c.self.invariant.1.actions_fit;
    answers_fit = c.close.ensures.answers_room;
  },
)

pub returns-in-Some-no_proof : goal.returns-in-Some-no_proof
returns-in-Some-no_proof g c = proof_refused g.C.Ord.cmp (wire_in g) c.args.link.0 c.args.peer c.args.word (as_nanos c.args.now.steady) _ _ _
    c.self.view_is (found_some _ c.in-Some.stream (sym c.get.ensures ∙ c.in-Some.is)) c.later-now.result c.in-Some-no_proof.why
    c.later-now.ensures
    (unproves_by c.self.inside.node c.self.inside.pace c.self.inside.greeting (as_nanos c.self.inside.cooldown) c.self.inside.next_dial (as_nanos c.self.inside.latest) c.self.inside.next c.self.inside.arrivals c.self.inside.answers c.self.inside.reads c.self.inside.links c.self.inside.actions.items c.args.link.0 c.in-Some.stream c.args.peer
    c.later-now.result c.in-Some-no_proof.why c.close.new.arrivals c.close.new.answers c.close.new.actions.items
    (sym c.get.ensures ∙ c.in-Some.is)
    (λ given calls stands. sym c.in-Some-no_proof.is ∙ c.no_proof.ensures given calls stands)
    (no_earlier _ _ _ c.later-now.ensures) c.close.ensures.arrivals c.close.ensures.answers c.close.ensures.said)

pub returns-in_err-adopt : goal.returns-in_err-adopt
returns-in_err-adopt g c = let d = c.self.inside in
    proof_failed g.C.Ord.cmp (wire_in g) c.args.link.0 c.args.peer c.args.word (as_nanos c.args.now.steady) _ _ _
    c.self.view_is (found_some _ c.in-Some.stream (sym c.get.ensures ∙ c.in-Some.is)) c.from_residual.result c.from_residual.ensures.0
    (c.in_err-adopt.ensures.err ∙ sym c.self.view_is)
    (nothing_against d.node d.pace d.greeting (as_nanos d.cooldown) d.next_dial (as_nanos d.latest) d.next d.arrivals d.answers d.reads d.links d.actions.items
    g.C.Ord.cmp (wire_in g) c.args.link.0 c.in-Some.stream c.args.peer c.later-now.result (as_nanos c.args.now.steady)
    (sym c.get.ensures ∙ c.in-Some.is) (λ given calls stands. sym c.in_default-no_proof.is ∙ c.no_proof.ensures given calls stands) c.later-now.ensures)

pub begin-requires-clause-may : goal.begin-requires-clause-may
begin-requires-clause-may g c = let d = c.self.inside in
    subst (λ (v : DriverView g.row.C.Denot g.row.C-Signature.Denot). AtEach g.C.Ord.cmp v.node (λ m calls.
    comes_by g.C.Ord.cmp v.pace v.links c.args.peer (may_listen_at m.directory (world_after m.directory calls) c.args.peer (as_nanos c.later-now.result)) ≡ true))
    c.self.view_is
    (each_slotted (λ m calls. comes_by g.C.Ord.cmp d.pace d.links c.args.peer (may_listen_at m.directory (world_after m.directory calls) c.args.peer (as_nanos c.later-now.result)) ≡ true)
    (begins_by d.node d.pace d.greeting (as_nanos d.cooldown) d.next_dial (as_nanos d.latest) d.next d.arrivals d.answers d.reads d.links d.actions.items
    g.C.Ord.cmp c.in-Some.stream c.args.peer c.later-now.result
    (λ given calls stands. sym c.in_default-no_proof.is ∙ c.no_proof.ensures given calls stands)
    (λ given calls stands. sym c.if-may_adopt.false ∙ c.may_adopt.ensures given calls stands)))

pub returns-in_err-begin : goal.returns-in_err-begin
returns-in_err-begin g c = let d = c.self.inside in
    proof_failed g.C.Ord.cmp (wire_in g) c.args.link.0 c.args.peer c.args.word (as_nanos c.args.now.steady) _ _ _
    c.self.view_is (found_some _ c.in-Some.stream (sym c.get.ensures ∙ c.in-Some.is)) c.from_residual-in_err-begin.result c.from_residual-in_err-begin.ensures.0
    (c.in_err-begin.ensures.err ∙ sym c.self.view_is)
    (nothing_against d.node d.pace d.greeting (as_nanos d.cooldown) d.next_dial (as_nanos d.latest) d.next d.arrivals d.answers d.reads d.links d.actions.items
    g.C.Ord.cmp (wire_in g) c.args.link.0 c.in-Some.stream c.args.peer c.later-now.result (as_nanos c.args.now.steady)
    (sym c.get.ensures ∙ c.in-Some.is) (λ given calls stands. sym c.in_default-no_proof.is ∙ c.no_proof.ensures given calls stands) c.later-now.ensures)
