use Rattle.std.proofs.Common.{inl, inr, ◌≡◌, ◌∙◌, ℕ, List, [], None, Some, rules, refl, sym, ap, subst, arith}
use Rattle.std.specs.BTreeMap.{is_at}
use Rattle.std.specs.Duration.{as_nanos}
use Rattle.p2p_directory.specs.Nodes.{NodeView}
use Rattle.p2p_directory.specs.Received.{Wire}
use Rattle.p2p_driver.specs.Admissions.{IsAdmitted}
use Rattle.p2p_driver.specs.Answers.{AnswersView}
use Rattle.p2p_driver.specs.Drivers.{DriverStands, seen, wire_with}
use Rattle.p2p_driver.specs.Links.{link_of, hearing, saying, has_room_at}
use Rattle.p2p_driver.specs.Meters.{MetersView}
use Rattle.p2p_driver.specs.declared.actions.Action.{Action}
use Rattle.p2p_driver.specs.declared.arrivals.Arrival.{Arrival}
use Rattle.p2p_driver.specs.declared.links.Held.{Held}
use Rattle.p2p_driver.specs.declared.next_dial.NextDial.{NextDial}
use Rattle.p2p_driver.specs.declared.pace.Pace.{Pace}
use Rattle.p2p_driver.specs.Frames.{Outcome}
use Rattle.p2p_driver.specs.Frames.Cause.{OfFrame}
use Rattle.p2p_driver.specs.Happenings.{Happening}
use Rattle.p2p_driver.specs.declared.actions.Breach.TheVariants as breach
use Rattle.p2p_driver.specs.declared.admission.Admission.TheVariants as admission
use Rattle.p2p_driver.specs.declared.admission.Heard.TheVariants as heard
use Rattle.p2p_driver.specs.declared.actions.Why.TheVariants as why
use Rattle.p2p_driver.specs.declared.frames.Came.TheVariants as came
use Rattle.p2p_driver.proofs.Driving.{goes_on, no_earlier}
use Rattle.p2p_driver.proofs.DrivingFrames.{found_as, heard_of, servable_on, serves_on, unchanged, follows_from, makes_from, blocks_from, blocked_done, said_none, said_then, found_on, dropped, served_read, same_parts, changed_twice}
use Rattle.p2p_driver.proofs.driver.Driver.served.Given as given
use Rattle.p2p_driver.proofs.driver.Driver.served.Goals as goal

-- how keys are, by the type of the keys
abbrev wire_in : (g : given.Over) → Wire g.row.C.Denot g.row.C-Signature.Denot
wire_in g = wire_with g.C.PublicKey.verifies g.C.FixedBytes.spelled g.C.Signature.FixedBytes.spelled g.C.FixedBytes.SIZE
    g.C.FixedBytes.value g.C.Signature.FixedBytes.SIZE g.C.Signature.FixedBytes.value

-- all parts are as they were
same_all : {C S : Type 0} (node node2 : NodeView C S) (pace : Pace) (greeting : List ℕ) (cooldown : ℕ) (dial : NextDial C) (latest next : ℕ) (arrivals : List (Arrival C))
    (answers : AnswersView) (reads : List (ℕ × MetersView)) (links links2 : List (C × Held)) (actions actions2 : List (Action C)) → node2 ≡ node →
    links2 ≡ links → actions2 ≡ actions →
    seen node2 pace greeting cooldown dial latest next arrivals answers reads links2 actions2 ≡ seen node pace greeting cooldown dial latest next arrivals answers reads links actions
same_all node node2 pace greeting cooldown dial latest next arrivals answers reads links links2 actions actions2 same tied said i =
    seen (same i) pace greeting cooldown dial latest next arrivals answers reads (tied i) (said i)

pub invariant_of-self : goal.invariant_of-self
invariant_of-self g c = (
  subst (λ x. DriverStands g.C.Ord.cmp (wire_in g) x) (sym (same_parts c.self.inside.node c.self.inside.node c.self.inside.pace c.self.inside.greeting (as_nanos c.self.inside.cooldown) c.self.inside.next_dial (as_nanos c.self.inside.latest)
      c.self.inside.next c.self.inside.arrivals c.self.inside.answers c.self.inside.reads c.self.inside.links c.self.inside.actions.items c.reserve.new.self.items
      refl (search rules))) c.self.invariant.0,
  record {
    actions_fit = (let same : c.reserve.new.self.room ≡ c.self.inside.actions.room = search rules in let fits = c.self.invariant.1.actions_fit in grind (arith));
    answers_fit = c.self.invariant.1.answers_fit;
  },
)

pub returns-then-is_err : goal.returns-then-is_err
returns-then-is_err g c =
    let f = found_on g.C.Ord.cmp (wire_in g) c.args.link.0 c.args.peer.now c.args.owed c.args.frame.now c.args.now.wall came.Served c.args.self.now c.requires in
    dropped g.C.Ord.cmp (wire_in g) c.args.link.0 c.args.peer.now c.args.owed c.args.frame.now c.args.now.wall came.Served (as_nanos c.args.now.steady) c.args.self.now _ f
    (served_read g.C.Ord.cmp (wire_in g) c.args.link.0 c.args.peer.now c.args.owed c.args.frame.now c.args.now.wall c.args.self.now f)
    (same_parts c.self.inside.node c.self.inside.node c.self.inside.pace c.self.inside.greeting (as_nanos c.self.inside.cooldown) c.self.inside.next_dial (as_nanos c.self.inside.latest)
    c.self.inside.next c.self.inside.arrivals c.self.inside.answers c.self.inside.reads c.self.inside.links c.self.inside.actions.items c.reserve.new.self.items refl (search rules) ∙ c.self.view_is)

pub serve-requires : goal.serve-requires
serve-requires g c = servable_on g.C.Ord.cmp (wire_in g) c.self.inside.node c.self.inside.pace c.self.inside.greeting (as_nanos c.self.inside.cooldown) c.self.inside.next_dial (as_nanos c.self.inside.latest)
    c.self.inside.next c.self.inside.arrivals c.self.inside.answers c.self.inside.reads c.self.inside.links c.self.inside.actions.items
    c.args.link.0 c.args.peer.now c.args.owed c.args.frame.now c.args.now.wall c.later-time.result (no_earlier _ _ _ c.later-time.ensures) (found_as g.C.Ord.cmp (wire_in g) c.args.link.0 c.args.peer.now c.args.owed c.args.frame.now c.args.now.wall came.Served (came.Served)
    c.args.self.now
    (seen c.self.inside.node c.self.inside.pace c.self.inside.greeting (as_nanos c.self.inside.cooldown) c.self.inside.next_dial (as_nanos c.self.inside.latest)
    c.self.inside.next c.self.inside.arrivals c.self.inside.answers c.self.inside.reads c.self.inside.links c.self.inside.actions.items) c.self.view_is refl c.requires)

pub invariant_of-self-then-not-say : goal.invariant_of-self-then-not-say
invariant_of-self-then-not-say g c = (
  subst (λ x. DriverStands g.C.Ord.cmp (wire_in g) x) (sym (same_all c.self.inside.node c.serve.new.node c.self.inside.pace c.self.inside.greeting (as_nanos c.self.inside.cooldown) c.self.inside.next_dial (as_nanos c.self.inside.latest)
      c.self.inside.next c.self.inside.arrivals c.self.inside.answers c.self.inside.reads c.self.inside.links c.say.new.links c.self.inside.actions.items c.give_back-then-not-say.new.self.items
      c.in-Reply.ensures.0 (c.say.ensures.unchanged c.if-not-say.true) (search rules))) c.self.invariant.0,
  record {
    actions_fit = (let f0 = c.reserve.ensures.room in let f1 = c.give_back-then-not-say.ensures.room in let f2 = c.say.ensures.needs in
        let fits = c.self.invariant.1.actions_fit in grind (arith));
    answers_fit = c.self.invariant.1.answers_fit;
  },
)

pub returns-then-not-say : goal.returns-then-not-say
returns-then-not-say g c =
    let f = found_on g.C.Ord.cmp (wire_in g) c.args.link.0 c.args.peer.now c.args.owed c.args.frame.now c.args.now.wall came.Served c.args.self.now c.requires in
    dropped g.C.Ord.cmp (wire_in g) c.args.link.0 c.args.peer.now c.args.owed c.args.frame.now c.args.now.wall came.Served (as_nanos c.args.now.steady) c.args.self.now _ f
    (served_read g.C.Ord.cmp (wire_in g) c.args.link.0 c.args.peer.now c.args.owed c.args.frame.now c.args.now.wall c.args.self.now f)
    (same_all c.self.inside.node c.serve.new.node c.self.inside.pace c.self.inside.greeting (as_nanos c.self.inside.cooldown) c.self.inside.next_dial (as_nanos c.self.inside.latest)
    c.self.inside.next c.self.inside.arrivals c.self.inside.answers c.self.inside.reads c.self.inside.links c.say.new.links c.self.inside.actions.items c.give_back-then-not-say.new.self.items
    c.in-Reply.ensures.0 (c.say.ensures.unchanged c.if-not-say.true) (search rules) ∙ c.self.view_is)

pub invariant_of-self-in-Reply : goal.invariant_of-self-in-Reply
invariant_of-self-in-Reply g c =
    let found = (found_as g.C.Ord.cmp (wire_in g) c.args.link.0 c.args.peer.now c.args.owed c.args.frame.now c.args.now.wall came.Served (came.Served)
    c.args.self.now (seen c.self.inside.node c.self.inside.pace c.self.inside.greeting (as_nanos c.self.inside.cooldown) c.self.inside.next_dial (as_nanos c.self.inside.latest)
    c.self.inside.next c.self.inside.arrivals c.self.inside.answers c.self.inside.reads c.self.inside.links c.self.inside.actions.items) c.self.view_is refl c.requires) in (
      goes_on (Happening.Heard c.args.link.0 c.args.peer.now c.later-time.result c.args.owed (OfFrame c.args.frame.now c.args.now.wall) (Outcome.Answers c.in-Reply.frame)) _ _ c.self.invariant.0
          (serves_on g.C.Ord.cmp (wire_in g) c.self.inside.node c.self.inside.pace c.self.inside.greeting (as_nanos c.self.inside.cooldown) c.self.inside.next_dial (as_nanos c.self.inside.latest)
          c.self.inside.next c.self.inside.arrivals c.self.inside.answers c.self.inside.reads c.self.inside.links c.self.inside.actions.items
          c.args.link.0 c.args.peer.now c.args.owed c.args.frame.now c.args.now.wall c.later-time.result (no_earlier _ _ _ c.later-time.ensures)
          (Outcome.Answers c.in-Reply.frame) c.serve.new.node c.self.inside.next_dial c.hear.new.self c.push.new.self.items (λ dials. tt) (inl (refl, refl, refl), λ q. refl) found
          (λ owed l j shares greets asked comes. (greets, asked, comes)) c.in-Reply.ensures.1 (sym found.owed_is)
          (λ given calls at. tt) (unchanged g.C.Ord.cmp c.self.inside.node c.serve.new.node c.in-Reply.ensures.0)
          (λ j place. refl) (record {
            links_are = λ q. changed_twice (is_at (g.C.Ord.cmp c.args.peer.now) q) (saying (Some c.later-time.result)) (hearing c.later-time.result c.args.owed None)
                (link_of g.C.Ord.cmp c.self.inside.links q) (link_of g.C.Ord.cmp c.say.new.links q) (link_of g.C.Ord.cmp c.hear.new.self q)
                (c.say.ensures.links c.if-not-say.false q) (c.hear.ensures.links q);
            counts = λ way. c.hear.ensures.counts way ∙ c.say.ensures.counts way;
            said = said_then c.self.inside.actions.items c.reserve.new.self.items c.push.new.self.items _ (search rules) c.push.ensures.items;
          }) (sym (ap (has_room_at c.self.inside.pace.queue) found.linked) ∙ c.say.ensures.room c.if-not-say.false)),
      record {
        actions_fit = (let f0 = c.hear.ensures.needs in let f1 = c.reserve.ensures.room in let f2 = c.push.ensures.room in let f3 = c.say.ensures.needs in
            let fits = c.self.invariant.1.actions_fit in grind (arith));
        answers_fit = c.self.invariant.1.answers_fit;
      },
    )

pub returns-else-not-say : goal.returns-else-not-say
returns-else-not-say g c =
    let found = (found_as g.C.Ord.cmp (wire_in g) c.args.link.0 c.args.peer.now c.args.owed c.args.frame.now c.args.now.wall came.Served (came.Served)
    c.args.self.now (seen c.self.inside.node c.self.inside.pace c.self.inside.greeting (as_nanos c.self.inside.cooldown) c.self.inside.next_dial (as_nanos c.self.inside.latest)
    c.self.inside.next c.self.inside.arrivals c.self.inside.answers c.self.inside.reads c.self.inside.links c.self.inside.actions.items) c.self.view_is refl c.requires) in
    heard_of g.C.Ord.cmp (wire_in g) c.self.view_is c.args.link.0 c.args.peer.now c.later-time.result c.args.owed (as_nanos c.args.now.steady)
    (OfFrame c.args.frame.now c.args.now.wall) (Outcome.Answers c.in-Reply.frame) (λ o. IsAdmitted c.args.frame.now o (admission.Heard heard.Answered))
    c.later-time.ensures refl
    (serves_on g.C.Ord.cmp (wire_in g) c.self.inside.node c.self.inside.pace c.self.inside.greeting (as_nanos c.self.inside.cooldown) c.self.inside.next_dial (as_nanos c.self.inside.latest)
    c.self.inside.next c.self.inside.arrivals c.self.inside.answers c.self.inside.reads c.self.inside.links c.self.inside.actions.items
    c.args.link.0 c.args.peer.now c.args.owed c.args.frame.now c.args.now.wall c.later-time.result (no_earlier _ _ _ c.later-time.ensures)
    (Outcome.Answers c.in-Reply.frame) c.serve.new.node c.self.inside.next_dial c.hear.new.self c.push.new.self.items (λ dials. tt) (inl (refl, refl, refl), λ q. refl) found
    (λ owed l j shares greets asked comes. (greets, asked, comes)) c.in-Reply.ensures.1 (sym found.owed_is)
    (λ given calls at. tt) (unchanged g.C.Ord.cmp c.self.inside.node c.serve.new.node c.in-Reply.ensures.0)
    (λ j place. refl) (record {
      links_are = λ q. changed_twice (is_at (g.C.Ord.cmp c.args.peer.now) q) (saying (Some c.later-time.result)) (hearing c.later-time.result c.args.owed None)
          (link_of g.C.Ord.cmp c.self.inside.links q) (link_of g.C.Ord.cmp c.say.new.links q) (link_of g.C.Ord.cmp c.hear.new.self q)
          (c.say.ensures.links c.if-not-say.false q) (c.hear.ensures.links q);
      counts = λ way. c.hear.ensures.counts way ∙ c.say.ensures.counts way;
      said = said_then c.self.inside.actions.items c.reserve.new.self.items c.push.new.self.items _ (search rules) c.push.ensures.items;
    }) (sym (ap (has_room_at c.self.inside.pace.queue) found.linked) ∙ c.say.ensures.room c.if-not-say.false))

pub invariant_of-self-in-Applied : goal.invariant_of-self-in-Applied
invariant_of-self-in-Applied g c = (
  goes_on (Happening.Heard c.args.link.0 c.args.peer.now c.later-time.result c.args.owed (OfFrame c.args.frame.now c.args.now.wall) (Outcome.Takes [])) _ _ c.self.invariant.0
      (serves_on g.C.Ord.cmp (wire_in g) c.self.inside.node c.self.inside.pace c.self.inside.greeting (as_nanos c.self.inside.cooldown) c.self.inside.next_dial (as_nanos c.self.inside.latest)
      c.self.inside.next c.self.inside.arrivals c.self.inside.answers c.self.inside.reads c.self.inside.links c.self.inside.actions.items
      c.args.link.0 c.args.peer.now c.args.owed c.args.frame.now c.args.now.wall c.later-time.result (no_earlier _ _ _ c.later-time.ensures)
      (Outcome.Takes []) c.serve.new.node _ c.hear-in-Applied.new.self c.give_back-in-Applied.new.self.items (λ dials. tt) (inr (refl, refl), λ q. refl) (found_as g.C.Ord.cmp (wire_in g) c.args.link.0 c.args.peer.now c.args.owed c.args.frame.now c.args.now.wall came.Served (came.Served)
      c.args.self.now
      (seen c.self.inside.node c.self.inside.pace c.self.inside.greeting (as_nanos c.self.inside.cooldown) c.self.inside.next_dial (as_nanos c.self.inside.latest)
      c.self.inside.next c.self.inside.arrivals c.self.inside.answers c.self.inside.reads c.self.inside.links c.self.inside.actions.items) c.self.view_is refl c.requires)
      (λ owed l j shares greets asked comes. (greets, asked, comes)) c.in-Applied.ensures.1 (sym ((found_as g.C.Ord.cmp (wire_in g) c.args.link.0 c.args.peer.now c.args.owed c.args.frame.now c.args.now.wall came.Served (came.Served)
      c.args.self.now
      (seen c.self.inside.node c.self.inside.pace c.self.inside.greeting (as_nanos c.self.inside.cooldown) c.self.inside.next_dial (as_nanos c.self.inside.latest)
      c.self.inside.next c.self.inside.arrivals c.self.inside.answers c.self.inside.reads c.self.inside.links c.self.inside.actions.items) c.self.view_is refl c.requires)).owed_is)
      (λ given calls at. tt) c.in-Applied.ensures.0
      (λ j place. refl) (record { links_are = c.hear-in-Applied.ensures.links; counts = c.hear-in-Applied.ensures.counts; said = said_none _ _ (search rules) }) tt),
  record {
    actions_fit = (let f0 = c.hear-in-Applied.ensures.needs in let f1 = c.reserve.ensures.room in let f2 = c.give_back-in-Applied.ensures.room in let fits = c.self.invariant.1.actions_fit in grind (arith));
    answers_fit = c.self.invariant.1.answers_fit;
  },
)

pub returns-in-Applied : goal.returns-in-Applied
returns-in-Applied g c = heard_of g.C.Ord.cmp (wire_in g) c.self.view_is c.args.link.0 c.args.peer.now c.later-time.result c.args.owed (as_nanos c.args.now.steady)
    (OfFrame c.args.frame.now c.args.now.wall) (Outcome.Takes []) (λ o. IsAdmitted c.args.frame.now o (admission.Heard (heard.Applied 0)))
    c.later-time.ensures refl
    (serves_on g.C.Ord.cmp (wire_in g) c.self.inside.node c.self.inside.pace c.self.inside.greeting (as_nanos c.self.inside.cooldown) c.self.inside.next_dial (as_nanos c.self.inside.latest)
    c.self.inside.next c.self.inside.arrivals c.self.inside.answers c.self.inside.reads c.self.inside.links c.self.inside.actions.items
    c.args.link.0 c.args.peer.now c.args.owed c.args.frame.now c.args.now.wall c.later-time.result (no_earlier _ _ _ c.later-time.ensures)
    (Outcome.Takes []) c.serve.new.node _ c.hear-in-Applied.new.self c.give_back-in-Applied.new.self.items (λ dials. tt) (inr (refl, refl), λ q. refl) (found_as g.C.Ord.cmp (wire_in g) c.args.link.0 c.args.peer.now c.args.owed c.args.frame.now c.args.now.wall came.Served (came.Served)
    c.args.self.now
    (seen c.self.inside.node c.self.inside.pace c.self.inside.greeting (as_nanos c.self.inside.cooldown) c.self.inside.next_dial (as_nanos c.self.inside.latest)
    c.self.inside.next c.self.inside.arrivals c.self.inside.answers c.self.inside.reads c.self.inside.links c.self.inside.actions.items) c.self.view_is refl c.requires)
    (λ owed l j shares greets asked comes. (greets, asked, comes)) c.in-Applied.ensures.1 (sym ((found_as g.C.Ord.cmp (wire_in g) c.args.link.0 c.args.peer.now c.args.owed c.args.frame.now c.args.now.wall came.Served (came.Served)
    c.args.self.now
    (seen c.self.inside.node c.self.inside.pace c.self.inside.greeting (as_nanos c.self.inside.cooldown) c.self.inside.next_dial (as_nanos c.self.inside.latest)
    c.self.inside.next c.self.inside.arrivals c.self.inside.answers c.self.inside.reads c.self.inside.links c.self.inside.actions.items) c.self.view_is refl c.requires)).owed_is)
    (λ given calls at. tt) c.in-Applied.ensures.0
    (λ j place. refl) (record { links_are = c.hear-in-Applied.ensures.links; counts = c.hear-in-Applied.ensures.counts; said = said_none _ _ (search rules) }) tt)

pub invariant_of-self-in-Malformed : goal.invariant_of-self-in-Malformed
invariant_of-self-in-Malformed g c = (
  goes_on (Happening.Heard c.args.link.0 c.args.peer.now c.later-time.result c.args.owed (OfFrame c.args.frame.now c.args.now.wall) (Outcome.Breaks breach.Malformed c.break_off.result)) _ _ c.self.invariant.0
      (serves_on g.C.Ord.cmp (wire_in g) c.self.inside.node c.self.inside.pace c.self.inside.greeting (as_nanos c.self.inside.cooldown) c.self.inside.next_dial (as_nanos c.self.inside.latest)
      c.self.inside.next c.self.inside.arrivals c.self.inside.answers c.self.inside.reads c.self.inside.links c.self.inside.actions.items
      c.args.link.0 c.args.peer.now c.args.owed c.args.frame.now c.args.now.wall c.later-time.result (no_earlier _ _ _ c.later-time.ensures)
      (Outcome.Breaks breach.Malformed c.break_off.result) c.break_off.new.node _ c.break_off.new.links c.break_off.new.actions.items (λ dials. tt) (inr (refl, refl), λ q. refl) (found_as g.C.Ord.cmp (wire_in g) c.args.link.0 c.args.peer.now c.args.owed c.args.frame.now c.args.now.wall came.Served (came.Served)
      c.args.self.now
      (seen c.self.inside.node c.self.inside.pace c.self.inside.greeting (as_nanos c.self.inside.cooldown) c.self.inside.next_dial (as_nanos c.self.inside.latest)
      c.self.inside.next c.self.inside.arrivals c.self.inside.answers c.self.inside.reads c.self.inside.links c.self.inside.actions.items) c.self.view_is refl c.requires)
      (λ owed l j shares greets asked comes. (greets, asked, comes)) (c.in-Malformed.ensures.1 c.break_off.result) (sym ((found_as g.C.Ord.cmp (wire_in g) c.args.link.0 c.args.peer.now c.args.owed c.args.frame.now c.args.now.wall came.Served (came.Served)
      c.args.self.now
      (seen c.self.inside.node c.self.inside.pace c.self.inside.greeting (as_nanos c.self.inside.cooldown) c.self.inside.next_dial (as_nanos c.self.inside.latest)
      c.self.inside.next c.self.inside.arrivals c.self.inside.answers c.self.inside.reads c.self.inside.links c.self.inside.actions.items) c.self.view_is refl c.requires)).owed_is)
      (blocked_done g.C.Ord.cmp (wire_in g) c.self.inside.node c.args.peer.now c.later-time.result breach.Malformed c.break_off.result
      (blocks_from g.C.Ord.cmp c.serve.new.node c.self.inside.node c.args.peer.now (as_nanos c.later-time.result) c.break_off.result c.in-Malformed.ensures.0 c.break_off.ensures.taken))
      (makes_from g.C.Ord.cmp c.serve.new.node c.self.inside.node c.break_off.new.node c.args.peer.now c.later-time.result (Outcome.Breaks breach.Malformed c.break_off.result) c.in-Malformed.ensures.0 c.break_off.ensures.made)
      (λ j place. refl) (follows_from (search rules) (c.break_off.ensures.follows c.args.link.0 c.args.owed)) tt),
  record {
    actions_fit = (let f0 = c.break_off.ensures.room in let f1 = c.reserve.ensures.room in let f2 = c.give_back-in-Malformed.ensures.room in let fits = c.self.invariant.1.actions_fit in grind (arith));
    answers_fit = c.self.invariant.1.answers_fit;
  },
)

pub returns-in-Malformed : goal.returns-in-Malformed
returns-in-Malformed g c = heard_of g.C.Ord.cmp (wire_in g) c.self.view_is c.args.link.0 c.args.peer.now c.later-time.result c.args.owed (as_nanos c.args.now.steady)
    (OfFrame c.args.frame.now c.args.now.wall) (Outcome.Breaks breach.Malformed c.break_off.result) (λ o. IsAdmitted c.args.frame.now o (admission.Heard (heard.Closing (why.Breach breach.Malformed))))
    c.later-time.ensures refl
    (serves_on g.C.Ord.cmp (wire_in g) c.self.inside.node c.self.inside.pace c.self.inside.greeting (as_nanos c.self.inside.cooldown) c.self.inside.next_dial (as_nanos c.self.inside.latest)
    c.self.inside.next c.self.inside.arrivals c.self.inside.answers c.self.inside.reads c.self.inside.links c.self.inside.actions.items
    c.args.link.0 c.args.peer.now c.args.owed c.args.frame.now c.args.now.wall c.later-time.result (no_earlier _ _ _ c.later-time.ensures)
    (Outcome.Breaks breach.Malformed c.break_off.result) c.break_off.new.node _ c.break_off.new.links c.break_off.new.actions.items (λ dials. tt) (inr (refl, refl), λ q. refl) (found_as g.C.Ord.cmp (wire_in g) c.args.link.0 c.args.peer.now c.args.owed c.args.frame.now c.args.now.wall came.Served (came.Served)
    c.args.self.now
    (seen c.self.inside.node c.self.inside.pace c.self.inside.greeting (as_nanos c.self.inside.cooldown) c.self.inside.next_dial (as_nanos c.self.inside.latest)
    c.self.inside.next c.self.inside.arrivals c.self.inside.answers c.self.inside.reads c.self.inside.links c.self.inside.actions.items) c.self.view_is refl c.requires)
    (λ owed l j shares greets asked comes. (greets, asked, comes)) (c.in-Malformed.ensures.1 c.break_off.result) (sym ((found_as g.C.Ord.cmp (wire_in g) c.args.link.0 c.args.peer.now c.args.owed c.args.frame.now c.args.now.wall came.Served (came.Served)
    c.args.self.now
    (seen c.self.inside.node c.self.inside.pace c.self.inside.greeting (as_nanos c.self.inside.cooldown) c.self.inside.next_dial (as_nanos c.self.inside.latest)
    c.self.inside.next c.self.inside.arrivals c.self.inside.answers c.self.inside.reads c.self.inside.links c.self.inside.actions.items) c.self.view_is refl c.requires)).owed_is)
    (blocked_done g.C.Ord.cmp (wire_in g) c.self.inside.node c.args.peer.now c.later-time.result breach.Malformed c.break_off.result
    (blocks_from g.C.Ord.cmp c.serve.new.node c.self.inside.node c.args.peer.now (as_nanos c.later-time.result) c.break_off.result c.in-Malformed.ensures.0 c.break_off.ensures.taken))
    (makes_from g.C.Ord.cmp c.serve.new.node c.self.inside.node c.break_off.new.node c.args.peer.now c.later-time.result (Outcome.Breaks breach.Malformed c.break_off.result) c.in-Malformed.ensures.0 c.break_off.ensures.made)
    (λ j place. refl) (follows_from (search rules) (c.break_off.ensures.follows c.args.link.0 c.args.owed)) tt)

pub invariant_of-self-in-Memory : goal.invariant_of-self-in-Memory
invariant_of-self-in-Memory g c = (
  subst (λ x. DriverStands g.C.Ord.cmp (wire_in g) x) (sym (same_parts c.self.inside.node c.serve.new.node c.self.inside.pace c.self.inside.greeting (as_nanos c.self.inside.cooldown) c.self.inside.next_dial (as_nanos c.self.inside.latest)
      c.self.inside.next c.self.inside.arrivals c.self.inside.answers c.self.inside.reads c.self.inside.links c.self.inside.actions.items c.give_back.new.self.items
      c.in-Memory.ensures (search rules))) c.self.invariant.0,
  record {
    actions_fit = (let f0 = c.reserve.ensures.room in let f1 = c.give_back.ensures.room in let fits = c.self.invariant.1.actions_fit in grind (arith));
    answers_fit = c.self.invariant.1.answers_fit;
  },
)

pub returns-in-Memory : goal.returns-in-Memory
returns-in-Memory g c =
    let f = found_on g.C.Ord.cmp (wire_in g) c.args.link.0 c.args.peer.now c.args.owed c.args.frame.now c.args.now.wall came.Served c.args.self.now c.requires in
    dropped g.C.Ord.cmp (wire_in g) c.args.link.0 c.args.peer.now c.args.owed c.args.frame.now c.args.now.wall came.Served (as_nanos c.args.now.steady) c.args.self.now _ f
    (served_read g.C.Ord.cmp (wire_in g) c.args.link.0 c.args.peer.now c.args.owed c.args.frame.now c.args.now.wall c.args.self.now f)
    (same_parts c.self.inside.node c.serve.new.node c.self.inside.pace c.self.inside.greeting (as_nanos c.self.inside.cooldown) c.self.inside.next_dial (as_nanos c.self.inside.latest)
    c.self.inside.next c.self.inside.arrivals c.self.inside.answers c.self.inside.reads c.self.inside.links c.self.inside.actions.items c.give_back.new.self.items c.in-Memory.ensures (search rules) ∙ c.self.view_is)
