use Rattle.std.proofs.Common.{◌∙◌, ◌≡◌, [], Some, None, rules, refl, sym, ap, arith}
use Rattle.std.specs.Prelude.{option_map}
use Rattle.std.specs.Duration.{as_nanos}
use Rattle.p2p_discovery.specs.Judgement.{judge_of}
use Rattle.p2p_directory.specs.Received.{Wire}
use Rattle.p2p_driver.specs.Admissions.{IsReturned}
use Rattle.p2p_driver.specs.Drivers.{seen, wire_with}
use Rattle.p2p_discovery.specs.declared.discovery.Error.{Error}
use Rattle.p2p_driver.specs.Frames.{Outcome, owed_after, is_early}
use Rattle.p2p_driver.specs.declared.serving.Judged.TheVariants as judged
use Rattle.p2p_driver.specs.Frames.Cause.{OfVerdicts}
use Rattle.p2p_driver.specs.Happenings.{Happening}
use Rattle.p2p_driver.specs.declared.actions.Breach.TheVariants as breach
use Rattle.p2p_driver.specs.declared.actions.Why.TheVariants as why
use Rattle.p2p_driver.specs.declared.admission.Heard.TheVariants as heard
use Rattle.p2p_driver.specs.declared.links.Phase.TheVariants as phase
use Rattle.p2p_driver.proofs.Driving.{goes_on, no_earlier}
use Rattle.p2p_driver.proofs.DrivingFrames.{heard_of, linked_as, follows_from}
use Rattle.p2p_driver.proofs.DrivingVerdicts.{misjudges_unlinked, misjudges_linked, waits_seen, may_greet, greeting_phase, greets_by, takes_by, early_by, refuses_by}
use Rattle.p2p_driver.proofs.driver.Driver.judged.Given as given
use Rattle.p2p_driver.proofs.driver.Driver.judged.Goals as goal

-- how keys are, by the type of the keys
abbrev wire_in : (g : given.Over) → Wire g.row.C.Denot g.row.C-Signature.Denot
wire_in g = wire_with g.C.PublicKey.verifies g.C.FixedBytes.spelled g.C.Signature.FixedBytes.spelled g.C.FixedBytes.SIZE
    g.C.FixedBytes.value g.C.Signature.FixedBytes.SIZE g.C.Signature.FixedBytes.value

-- what there is is one
only_one : {A : Type 0} (x y : A) → Some x ≡ Some y → x ≡ y
only_one x y e = cc

refused_is : (e f : Error) → judged.Refused e ≡ judged.Refused f → e ≡ f
refused_is e f is = cc

pub returns-in_default : goal.returns-in_default
returns-in_default g c =
    misjudges_unlinked g.C.Ord.cmp (wire_in g) c.args.link.0 (as_nanos c.args.now.steady) c.args.verdicts.now _ c.self.view_is c.in_default.ensures.none

pub returns-in_default-waiting : goal.returns-in_default-waiting
returns-in_default-waiting g c =
    let linked = sym c.get.ensures ∙ ap (option_map (λ h. h.now)) c.in-Some-get.is in
    misjudges_linked g.C.Ord.cmp (wire_in g) c.args.link.0 (as_nanos c.args.now.steady) c.args.verdicts.now _ c.self.view_is g.met.C.PublicKey.exact c.in-Some.peer c.in-Some-get.held.now linked c.in-Some.ensures.only
    (λ w waits. absurd (c.in_default-waiting.not-Some w waits))

pub returns-then-verdicts-waiting : goal.returns-then-verdicts-waiting
returns-then-verdicts-waiting g c =
    let linked = sym c.get.ensures ∙ ap (option_map (λ h. h.now)) c.in-Some-get.is in
    misjudges_linked g.C.Ord.cmp (wire_in g) c.args.link.0 (as_nanos c.args.now.steady) c.args.verdicts.now _ c.self.view_is g.met.C.PublicKey.exact c.in-Some.peer c.in-Some-get.held.now linked c.in-Some.ensures.only
    (λ w waits counted. c.if-verdicts-waiting.true (counted ∙ ap (λ x. x.count) (only_one w c.in-Some-waiting.waiting (sym waits ∙ c.in-Some-waiting.is))))

pub judge-judged-requires-clause-waits : goal.judge-judged-requires-clause-waits
judge-judged-requires-clause-waits g c =
    let linked = sym c.get.ensures ∙ ap (option_map (λ h. h.now)) c.in-Some-get.is in
    (waits_seen g.C.Ord.cmp (wire_in g) g.met.C.PublicKey.exact (seen c.self.inside.node c.self.inside.pace c.self.inside.greeting (as_nanos c.self.inside.cooldown) c.self.inside.next_dial (as_nanos c.self.inside.latest)
    c.self.inside.next c.self.inside.arrivals c.self.inside.answers c.self.inside.reads c.self.inside.links c.self.inside.actions.items) c.self.invariant.0 c.in-Some.peer c.in-Some-get.held.now linked c.in-Some-waiting.waiting c.in-Some-waiting.is)

pub greet-requires-clause-may : goal.greet-requires-clause-may
greet-requires-clause-may g c =
    let linked = sym c.get.ensures ∙ ap (option_map (λ h. h.now)) c.in-Some-get.is in
    may_greet g.C.Ord.cmp (wire_in g) g.met.C.PublicKey.exact (seen c.self.inside.node c.self.inside.pace c.self.inside.greeting (as_nanos c.self.inside.cooldown) c.self.inside.next_dial (as_nanos c.self.inside.latest)
    c.self.inside.next c.self.inside.arrivals c.self.inside.answers c.self.inside.reads c.self.inside.links c.self.inside.actions.items) c.self.invariant.0 c.in-Some.peer c.in-Some-get.held.now linked
    c.self.inside.node c.judge-judged.new.node c.in-Greeted.ensures.0 refl
    (greeting_phase g.C.Ord.cmp (wire_in g) c.self.inside.node.limits
    (judge_of g.C.Ord.cmp g.C.PublicKey.verifies c.self.inside.node.verifier) c.in-Some-get.held.now.phase c.in-Some.peer c.in-Some-waiting.waiting c.in-Greeted.ensures.0 (waits_seen g.C.Ord.cmp (wire_in g) g.met.C.PublicKey.exact (seen c.self.inside.node c.self.inside.pace c.self.inside.greeting (as_nanos c.self.inside.cooldown) c.self.inside.next_dial (as_nanos c.self.inside.latest)
    c.self.inside.next c.self.inside.arrivals c.self.inside.answers c.self.inside.reads c.self.inside.links c.self.inside.actions.items) c.self.invariant.0 c.in-Some.peer c.in-Some-get.held.now linked c.in-Some-waiting.waiting c.in-Some-waiting.is) (c.in-Greeted.ensures.1 c.is_dialer-dialer.result None).0)
    c.in-Greeted.ensures.2

pub invariant_of-self-in-Greeted : goal.invariant_of-self-in-Greeted
invariant_of-self-in-Greeted g c =
    let linked = sym c.get.ensures ∙ ap (option_map (λ h. h.now)) c.in-Some-get.is in
    let greets = c.greet.ensures.greets c.in-Greeted.ensures.0 in (
      goes_on (Happening.Heard c.args.link.0 c.in-Some.peer c.later-time.result (owed_after phase.Greeting (Outcome.Greets c.is_dialer-dialer.result c.in-Greeted.ensures.0 greets.0) c.self.inside.pace.owed c.in-Some-get.held.now.owed) (OfVerdicts c.args.verdicts.now) (Outcome.Greets c.is_dialer-dialer.result c.in-Greeted.ensures.0 greets.0)) _ _ c.self.invariant.0
          (greets_by g.C.Ord.cmp (wire_in g) c.self.inside.node c.self.inside.pace c.self.inside.greeting (as_nanos c.self.inside.cooldown) c.self.inside.next_dial (as_nanos c.self.inside.latest)
          c.self.inside.next c.self.inside.arrivals c.self.inside.answers c.self.inside.reads c.self.inside.links c.self.inside.actions.items
          c.args.link.0 c.in-Some.peer c.in-Some-get.held.now c.in-Some-waiting.waiting c.args.verdicts.now c.later-time.result (no_earlier _ _ _ c.later-time.ensures)
          linked (linked_as g.C.Ord.cmp c.self.inside.links c.in-Some.peer c.in-Some-get.held.now c.args.link.0 linked c.in-Some.ensures.found) c.in-Some-waiting.is
          (waits_seen g.C.Ord.cmp (wire_in g) g.met.C.PublicKey.exact (seen c.self.inside.node c.self.inside.pace c.self.inside.greeting (as_nanos c.self.inside.cooldown) c.self.inside.next_dial (as_nanos c.self.inside.latest)
          c.self.inside.next c.self.inside.arrivals c.self.inside.answers c.self.inside.reads c.self.inside.links c.self.inside.actions.items) c.self.invariant.0 c.in-Some.peer c.in-Some-get.held.now linked c.in-Some-waiting.waiting c.in-Some-waiting.is)
          (search rules)
          c.is_dialer-dialer.result c.in-Greeted.ensures.0 greets.0 c.judge-judged.new.node c.greet.new.node _ c.greet.new.links c.greet.new.actions.items (refl, refl) c.remove.ensures.gone c.is_dialer-dialer.ensures
          (c.in-Greeted.ensures.1 c.is_dialer-dialer.result greets.0) c.in-Greeted.ensures.2 c.greet.ensures.made greets.1 greets.2 (follows_from (search rules) greets.3)),
      record {
        actions_fit = (let f0 = c.reserve.ensures.room in let f1 = c.greet.ensures.room in let fits = c.self.invariant.1.actions_fit in grind (arith));
        answers_fit = c.self.invariant.1.answers_fit;
      },
    )

pub returns-in-Greeted : goal.returns-in-Greeted
returns-in-Greeted g c =
    let linked = sym c.get.ensures ∙ ap (option_map (λ h. h.now)) c.in-Some-get.is in
    let greets = c.greet.ensures.greets c.in-Greeted.ensures.0 in
    heard_of g.C.Ord.cmp (wire_in g) c.self.view_is c.args.link.0 c.in-Some.peer c.later-time.result (owed_after phase.Greeting (Outcome.Greets c.is_dialer-dialer.result c.in-Greeted.ensures.0 greets.0) c.self.inside.pace.owed c.in-Some-get.held.now.owed) (as_nanos c.args.now.steady)
    (OfVerdicts c.args.verdicts.now) (Outcome.Greets c.is_dialer-dialer.result c.in-Greeted.ensures.0 greets.0) (λ o. IsReturned [] o (heard.Greeted)) c.later-time.ensures refl
    (greets_by g.C.Ord.cmp (wire_in g) c.self.inside.node c.self.inside.pace c.self.inside.greeting (as_nanos c.self.inside.cooldown) c.self.inside.next_dial (as_nanos c.self.inside.latest)
    c.self.inside.next c.self.inside.arrivals c.self.inside.answers c.self.inside.reads c.self.inside.links c.self.inside.actions.items
    c.args.link.0 c.in-Some.peer c.in-Some-get.held.now c.in-Some-waiting.waiting c.args.verdicts.now c.later-time.result (no_earlier _ _ _ c.later-time.ensures)
    linked (linked_as g.C.Ord.cmp c.self.inside.links c.in-Some.peer c.in-Some-get.held.now c.args.link.0 linked c.in-Some.ensures.found) c.in-Some-waiting.is
    (waits_seen g.C.Ord.cmp (wire_in g) g.met.C.PublicKey.exact (seen c.self.inside.node c.self.inside.pace c.self.inside.greeting (as_nanos c.self.inside.cooldown) c.self.inside.next_dial (as_nanos c.self.inside.latest)
    c.self.inside.next c.self.inside.arrivals c.self.inside.answers c.self.inside.reads c.self.inside.links c.self.inside.actions.items) c.self.invariant.0 c.in-Some.peer c.in-Some-get.held.now linked c.in-Some-waiting.waiting c.in-Some-waiting.is)
    (search rules)
    c.is_dialer-dialer.result c.in-Greeted.ensures.0 greets.0 c.judge-judged.new.node c.greet.new.node _ c.greet.new.links c.greet.new.actions.items (refl, refl) c.remove.ensures.gone c.is_dialer-dialer.ensures
    (c.in-Greeted.ensures.1 c.is_dialer-dialer.result greets.0) c.in-Greeted.ensures.2 c.greet.ensures.made greets.1 greets.2 (follows_from (search rules) greets.3))

pub invariant_of-self-in-Applied : goal.invariant_of-self-in-Applied
invariant_of-self-in-Applied g c =
    let linked = sym c.get.ensures ∙ ap (option_map (λ h. h.now)) c.in-Some-get.is in (
      goes_on (Happening.Heard c.args.link.0 c.in-Some.peer c.later-time.result c.in-Some-get.held.now.owed (OfVerdicts c.args.verdicts.now) (Outcome.Takes c.in-Applied.ensures.0)) _ _ c.self.invariant.0
          (takes_by g.C.Ord.cmp (wire_in g) c.self.inside.node c.self.inside.pace c.self.inside.greeting (as_nanos c.self.inside.cooldown) c.self.inside.next_dial (as_nanos c.self.inside.latest)
          c.self.inside.next c.self.inside.arrivals c.self.inside.answers c.self.inside.reads c.self.inside.links c.self.inside.actions.items
          c.args.link.0 c.in-Some.peer c.in-Some-get.held.now c.in-Some-waiting.waiting c.args.verdicts.now c.later-time.result (no_earlier _ _ _ c.later-time.ensures)
          linked (linked_as g.C.Ord.cmp c.self.inside.links c.in-Some.peer c.in-Some-get.held.now c.args.link.0 linked c.in-Some.ensures.found) c.in-Some-waiting.is
          (waits_seen g.C.Ord.cmp (wire_in g) g.met.C.PublicKey.exact (seen c.self.inside.node c.self.inside.pace c.self.inside.greeting (as_nanos c.self.inside.cooldown) c.self.inside.next_dial (as_nanos c.self.inside.latest)
          c.self.inside.next c.self.inside.arrivals c.self.inside.answers c.self.inside.reads c.self.inside.links c.self.inside.actions.items) c.self.invariant.0 c.in-Some.peer c.in-Some-get.held.now linked c.in-Some-waiting.waiting c.in-Some-waiting.is)
          (search rules)
          c.in-Applied.ensures.0 c.judge-judged.new.node _ c.hear.new.self c.give_back-in-Applied.new.self.items ((refl, refl), refl) c.in-Applied.ensures.2 c.in-Applied.ensures.3
          c.hear.ensures.links c.hear.ensures.counts (search rules)),
      record {
        actions_fit = (let f0 = c.reserve.ensures.room in let f1 = c.give_back-in-Applied.ensures.room in let f2 = c.hear.ensures.needs in let fits = c.self.invariant.1.actions_fit in grind (arith));
        answers_fit = c.self.invariant.1.answers_fit;
      },
    )

pub returns-in-Applied : goal.returns-in-Applied
returns-in-Applied g c =
    let linked = sym c.get.ensures ∙ ap (option_map (λ h. h.now)) c.in-Some-get.is in
    heard_of g.C.Ord.cmp (wire_in g) c.self.view_is c.args.link.0 c.in-Some.peer c.later-time.result (c.in-Some-get.held.now.owed) (as_nanos c.args.now.steady)
    (OfVerdicts c.args.verdicts.now) (Outcome.Takes c.in-Applied.ensures.0) (λ o. IsReturned [] o (heard.Applied c.in-Applied.count)) c.later-time.ensures (ap heard.Applied c.in-Applied.ensures.1)
    (takes_by g.C.Ord.cmp (wire_in g) c.self.inside.node c.self.inside.pace c.self.inside.greeting (as_nanos c.self.inside.cooldown) c.self.inside.next_dial (as_nanos c.self.inside.latest)
    c.self.inside.next c.self.inside.arrivals c.self.inside.answers c.self.inside.reads c.self.inside.links c.self.inside.actions.items
    c.args.link.0 c.in-Some.peer c.in-Some-get.held.now c.in-Some-waiting.waiting c.args.verdicts.now c.later-time.result (no_earlier _ _ _ c.later-time.ensures)
    linked (linked_as g.C.Ord.cmp c.self.inside.links c.in-Some.peer c.in-Some-get.held.now c.args.link.0 linked c.in-Some.ensures.found) c.in-Some-waiting.is
    (waits_seen g.C.Ord.cmp (wire_in g) g.met.C.PublicKey.exact (seen c.self.inside.node c.self.inside.pace c.self.inside.greeting (as_nanos c.self.inside.cooldown) c.self.inside.next_dial (as_nanos c.self.inside.latest)
    c.self.inside.next c.self.inside.arrivals c.self.inside.answers c.self.inside.reads c.self.inside.links c.self.inside.actions.items) c.self.invariant.0 c.in-Some.peer c.in-Some-get.held.now linked c.in-Some-waiting.waiting c.in-Some-waiting.is)
    (search rules)
    c.in-Applied.ensures.0 c.judge-judged.new.node _ c.hear.new.self c.give_back-in-Applied.new.self.items ((refl, refl), refl) c.in-Applied.ensures.2 c.in-Applied.ensures.3
    c.hear.ensures.links c.hear.ensures.counts (search rules))

pub invariant_of-self-then-is_early : goal.invariant_of-self-then-is_early
invariant_of-self-then-is_early g c =
    let linked = sym c.get.ensures ∙ ap (option_map (λ h. h.now)) c.in-Some-get.is in (
      goes_on (Happening.Heard c.args.link.0 c.in-Some.peer c.later-time.result c.in-Some-get.held.now.owed (OfVerdicts c.args.verdicts.now) (Outcome.IsEarly)) _ _ c.self.invariant.0
          (early_by g.C.Ord.cmp (wire_in g) c.self.inside.node c.self.inside.pace c.self.inside.greeting (as_nanos c.self.inside.cooldown) c.self.inside.next_dial (as_nanos c.self.inside.latest)
          c.self.inside.next c.self.inside.arrivals c.self.inside.answers c.self.inside.reads c.self.inside.links c.self.inside.actions.items
          c.args.link.0 c.in-Some.peer c.in-Some-get.held.now c.in-Some-waiting.waiting c.args.verdicts.now c.later-time.result (no_earlier _ _ _ c.later-time.ensures)
          linked (linked_as g.C.Ord.cmp c.self.inside.links c.in-Some.peer c.in-Some-get.held.now c.args.link.0 linked c.in-Some.ensures.found) c.in-Some-waiting.is
          (waits_seen g.C.Ord.cmp (wire_in g) g.met.C.PublicKey.exact (seen c.self.inside.node c.self.inside.pace c.self.inside.greeting (as_nanos c.self.inside.cooldown) c.self.inside.next_dial (as_nanos c.self.inside.latest)
          c.self.inside.next c.self.inside.arrivals c.self.inside.answers c.self.inside.reads c.self.inside.links c.self.inside.actions.items) c.self.invariant.0 c.in-Some.peer c.in-Some-get.held.now linked c.in-Some-waiting.waiting c.in-Some-waiting.is)
          (search rules)
          c.in-Refused.error c.judge-judged.new.node c.shut_early.new.links c.shut_early.new.actions.items (c.in-Refused.ensures.1, c.in-Refused.ensures.2, c.in-Refused.ensures.3)
          (sym c.is_early.ensures ∙ c.if-is_early.true) c.in-Refused.ensures.0
          (follows_from (search rules) (c.shut_early.ensures.follows c.args.link.0 c.in-Some-get.held.now.owed))),
      record {
        actions_fit = (let f0 = c.reserve.ensures.room in let f1 = c.give_back-in-Refused.ensures.room in let f2 = c.shut_early.ensures.room in let fits = c.self.invariant.1.actions_fit in grind (arith));
        answers_fit = c.self.invariant.1.answers_fit;
      },
    )

pub returns-in-Refused : goal.returns-in-Refused
returns-in-Refused g c =
    let linked = sym c.get.ensures ∙ ap (option_map (λ h. h.now)) c.in-Some-get.is in
    heard_of g.C.Ord.cmp (wire_in g) c.self.view_is c.args.link.0 c.in-Some.peer c.later-time.result (c.in-Some-get.held.now.owed) (as_nanos c.args.now.steady)
    (OfVerdicts c.args.verdicts.now) (Outcome.IsEarly) (λ o. IsReturned [] o (heard.Closing why.Future)) c.later-time.ensures refl
    (early_by g.C.Ord.cmp (wire_in g) c.self.inside.node c.self.inside.pace c.self.inside.greeting (as_nanos c.self.inside.cooldown) c.self.inside.next_dial (as_nanos c.self.inside.latest)
    c.self.inside.next c.self.inside.arrivals c.self.inside.answers c.self.inside.reads c.self.inside.links c.self.inside.actions.items
    c.args.link.0 c.in-Some.peer c.in-Some-get.held.now c.in-Some-waiting.waiting c.args.verdicts.now c.later-time.result (no_earlier _ _ _ c.later-time.ensures)
    linked (linked_as g.C.Ord.cmp c.self.inside.links c.in-Some.peer c.in-Some-get.held.now c.args.link.0 linked c.in-Some.ensures.found) c.in-Some-waiting.is
    (waits_seen g.C.Ord.cmp (wire_in g) g.met.C.PublicKey.exact (seen c.self.inside.node c.self.inside.pace c.self.inside.greeting (as_nanos c.self.inside.cooldown) c.self.inside.next_dial (as_nanos c.self.inside.latest)
    c.self.inside.next c.self.inside.arrivals c.self.inside.answers c.self.inside.reads c.self.inside.links c.self.inside.actions.items) c.self.invariant.0 c.in-Some.peer c.in-Some-get.held.now linked c.in-Some-waiting.waiting c.in-Some-waiting.is)
    (search rules)
    c.in-Refused.error c.judge-judged.new.node c.shut_early.new.links c.shut_early.new.actions.items (c.in-Refused.ensures.1, c.in-Refused.ensures.2, c.in-Refused.ensures.3)
    (sym c.is_early.ensures ∙ c.if-is_early.true) c.in-Refused.ensures.0
    (follows_from (search rules) (c.shut_early.ensures.follows c.args.link.0 c.in-Some-get.held.now.owed)))

pub invariant_of-self-in-Refused-2 : goal.invariant_of-self-in-Refused-2
invariant_of-self-in-Refused-2 g c =
    let linked = sym c.get.ensures ∙ ap (option_map (λ h. h.now)) c.in-Some-get.is in (
      goes_on (Happening.Heard c.args.link.0 c.in-Some.peer c.later-time.result c.in-Some-get.held.now.owed (OfVerdicts c.args.verdicts.now) (Outcome.Breaks (breach.Invalid c.in-Refused-2.error) c.break_off.result)) _ _ c.self.invariant.0
          (refuses_by g.C.Ord.cmp (wire_in g) c.self.inside.node c.self.inside.pace c.self.inside.greeting (as_nanos c.self.inside.cooldown) c.self.inside.next_dial (as_nanos c.self.inside.latest)
          c.self.inside.next c.self.inside.arrivals c.self.inside.answers c.self.inside.reads c.self.inside.links c.self.inside.actions.items
          c.args.link.0 c.in-Some.peer c.in-Some-get.held.now c.in-Some-waiting.waiting c.args.verdicts.now c.later-time.result (no_earlier _ _ _ c.later-time.ensures)
          linked (linked_as g.C.Ord.cmp c.self.inside.links c.in-Some.peer c.in-Some-get.held.now c.args.link.0 linked c.in-Some.ensures.found) c.in-Some-waiting.is
          (waits_seen g.C.Ord.cmp (wire_in g) g.met.C.PublicKey.exact (seen c.self.inside.node c.self.inside.pace c.self.inside.greeting (as_nanos c.self.inside.cooldown) c.self.inside.next_dial (as_nanos c.self.inside.latest)
          c.self.inside.next c.self.inside.arrivals c.self.inside.answers c.self.inside.reads c.self.inside.links c.self.inside.actions.items) c.self.invariant.0 c.in-Some.peer c.in-Some-get.held.now linked c.in-Some-waiting.waiting c.in-Some-waiting.is)
          (search rules)
          c.in-Refused-2.error c.break_off.result c.judge-judged.new.node c.break_off.new.node _ c.break_off.new.links c.break_off.new.actions.items ((refl, refl), refl)
          (c.in-Refused-2.ensures.1, c.in-Refused-2.ensures.2, c.in-Refused-2.ensures.3)
          (ap is_early (refused_is c.in-Refused-2.error c.in-Refused.error (sym c.in-Refused-2.is ∙ c.in-Refused.is)) ∙ sym c.is_early.ensures ∙ c.if-is_early.false) c.in-Refused-2.ensures.0
          c.break_off.ensures.made c.break_off.ensures.taken
          (follows_from (search rules) (c.break_off.ensures.follows c.args.link.0 c.in-Some-get.held.now.owed))),
      record {
        actions_fit = (let f0 = c.reserve.ensures.room in let f1 = c.give_back-in-Refused-2.ensures.room in let f2 = c.break_off.ensures.room in let fits = c.self.invariant.1.actions_fit in grind (arith));
        answers_fit = c.self.invariant.1.answers_fit;
      },
    )

pub returns-in-Refused-2 : goal.returns-in-Refused-2
returns-in-Refused-2 g c =
    let linked = sym c.get.ensures ∙ ap (option_map (λ h. h.now)) c.in-Some-get.is in
    heard_of g.C.Ord.cmp (wire_in g) c.self.view_is c.args.link.0 c.in-Some.peer c.later-time.result (c.in-Some-get.held.now.owed) (as_nanos c.args.now.steady)
    (OfVerdicts c.args.verdicts.now) (Outcome.Breaks (breach.Invalid c.in-Refused-2.error) c.break_off.result) (λ o. IsReturned [] o (heard.Closing (why.Breach (breach.Invalid c.in-Refused-2.error)))) c.later-time.ensures refl
    (refuses_by g.C.Ord.cmp (wire_in g) c.self.inside.node c.self.inside.pace c.self.inside.greeting (as_nanos c.self.inside.cooldown) c.self.inside.next_dial (as_nanos c.self.inside.latest)
    c.self.inside.next c.self.inside.arrivals c.self.inside.answers c.self.inside.reads c.self.inside.links c.self.inside.actions.items
    c.args.link.0 c.in-Some.peer c.in-Some-get.held.now c.in-Some-waiting.waiting c.args.verdicts.now c.later-time.result (no_earlier _ _ _ c.later-time.ensures)
    linked (linked_as g.C.Ord.cmp c.self.inside.links c.in-Some.peer c.in-Some-get.held.now c.args.link.0 linked c.in-Some.ensures.found) c.in-Some-waiting.is
    (waits_seen g.C.Ord.cmp (wire_in g) g.met.C.PublicKey.exact (seen c.self.inside.node c.self.inside.pace c.self.inside.greeting (as_nanos c.self.inside.cooldown) c.self.inside.next_dial (as_nanos c.self.inside.latest)
    c.self.inside.next c.self.inside.arrivals c.self.inside.answers c.self.inside.reads c.self.inside.links c.self.inside.actions.items) c.self.invariant.0 c.in-Some.peer c.in-Some-get.held.now linked c.in-Some-waiting.waiting c.in-Some-waiting.is)
    (search rules)
    c.in-Refused-2.error c.break_off.result c.judge-judged.new.node c.break_off.new.node _ c.break_off.new.links c.break_off.new.actions.items ((refl, refl), refl)
    (c.in-Refused-2.ensures.1, c.in-Refused-2.ensures.2, c.in-Refused-2.ensures.3)
    (ap is_early (refused_is c.in-Refused-2.error c.in-Refused.error (sym c.in-Refused-2.is ∙ c.in-Refused.is)) ∙ sym c.is_early.ensures ∙ c.if-is_early.false) c.in-Refused-2.ensures.0
    c.break_off.ensures.made c.break_off.ensures.taken
    (follows_from (search rules) (c.break_off.ensures.follows c.args.link.0 c.in-Some-get.held.now.owed)))
