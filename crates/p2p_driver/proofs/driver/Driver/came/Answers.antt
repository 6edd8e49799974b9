use Rattle.std.proofs.Common.{refl, arith}
use Rattle.std.specs.Duration.{as_nanos}
use Rattle.p2p_directory.specs.Received.{Wire}
use Rattle.p2p_driver.specs.Admissions.{IsAdmitted}
use Rattle.p2p_driver.specs.Drivers.{seen, wire_with}
use Rattle.p2p_driver.specs.Frames.{Outcome}
use Rattle.p2p_driver.specs.Frames.Cause.{OfFrame}
use Rattle.p2p_driver.specs.Happenings.{Happening}
use Rattle.p2p_driver.specs.declared.admission.Admission.TheVariants as admission
use Rattle.p2p_driver.specs.declared.admission.Heard.TheVariants as heard
use Rattle.p2p_driver.specs.declared.actions.Why.TheVariants as why
use Rattle.p2p_driver.specs.declared.frames.Came.TheVariants as came
use Rattle.p2p_driver.proofs.Driving.{goes_on, no_earlier}
use Rattle.p2p_driver.proofs.DrivingFrames.{found_as, heard_of, waits_on, ignores_on, delivers_on, delivers_out, delivered, early_on, breaks_on}
use Rattle.p2p_driver.proofs.driver.Driver.came.Given as given
use Rattle.p2p_driver.proofs.driver.Driver.came.Goals as goal

-- how keys are, by the type of the keys
abbrev wire_in : (g : given.Over) → Wire g.row.C.Denot g.row.C-Signature.Denot
wire_in g = wire_with g.C.PublicKey.verifies g.C.FixedBytes.spelled g.C.Signature.FixedBytes.spelled g.C.FixedBytes.SIZE
    g.C.FixedBytes.value g.C.Signature.FixedBytes.SIZE g.C.Signature.FixedBytes.value

pub invariant_of-self : goal.invariant_of-self
invariant_of-self g c = (
  goes_on (Happening.Heard c.args.link.0 c.args.peer.now c.later-time.result c.saturating_sub.result (OfFrame c.args.frame.now c.args.now.wall) (Outcome.Waits c.in-Waits.waiting)) _ _ c.self.invariant.0
      (waits_on g.C.Ord.cmp (wire_in g) c.self.inside.node c.self.inside.pace c.self.inside.greeting (as_nanos c.self.inside.cooldown) c.self.inside.next_dial (as_nanos c.self.inside.latest)
      c.self.inside.next c.self.inside.arrivals c.self.inside.answers c.self.inside.reads c.self.inside.links c.self.inside.actions.items
      c.args.link.0 c.args.peer.now c.args.owed c.args.frame.now c.args.now.wall c.later-time.result (no_earlier _ _ _ c.later-time.ensures)
      c.hear.new.self c.self.inside.actions.items c.hear.ensures.counts c.in-Waits.waiting c.saturating_sub.result
      (found_as g.C.Ord.cmp (wire_in g) c.args.link.0 c.args.peer.now c.args.owed c.args.frame.now c.args.now.wall c.args.came (came.Waits c.in-Waits.waiting)
      c.args.self.now
      (seen c.self.inside.node c.self.inside.pace c.self.inside.greeting (as_nanos c.self.inside.cooldown) c.self.inside.next_dial (as_nanos c.self.inside.latest)
      c.self.inside.next c.self.inside.arrivals c.self.inside.answers c.self.inside.reads c.self.inside.links c.self.inside.actions.items) c.self.view_is c.in-Waits.is c.requires)
      c.saturating_sub.ensures c.hear.ensures.links refl),
  record {
    actions_fit = (let f0 = c.hear.ensures.needs in let fits = c.self.invariant.1.actions_fit in grind (arith));
    answers_fit = c.self.invariant.1.answers_fit;
  },
)

pub returns-in-Waits : goal.returns-in-Waits
returns-in-Waits g c = heard_of g.C.Ord.cmp (wire_in g) c.self.view_is c.args.link.0 c.args.peer.now c.later-time.result c.saturating_sub.result (as_nanos c.args.now.steady)
    (OfFrame c.args.frame.now c.args.now.wall) (Outcome.Waits c.in-Waits.waiting) (λ o. IsAdmitted c.args.frame.now o (admission.Verify c.in-Waits.waiting.count))
    c.later-time.ensures refl
    (waits_on g.C.Ord.cmp (wire_in g) c.self.inside.node c.self.inside.pace c.self.inside.greeting (as_nanos c.self.inside.cooldown) c.self.inside.next_dial (as_nanos c.self.inside.latest)
    c.self.inside.next c.self.inside.arrivals c.self.inside.answers c.self.inside.reads c.self.inside.links c.self.inside.actions.items
    c.args.link.0 c.args.peer.now c.args.owed c.args.frame.now c.args.now.wall c.later-time.result (no_earlier _ _ _ c.later-time.ensures)
    c.hear.new.self c.self.inside.actions.items c.hear.ensures.counts c.in-Waits.waiting c.saturating_sub.result
    (found_as g.C.Ord.cmp (wire_in g) c.args.link.0 c.args.peer.now c.args.owed c.args.frame.now c.args.now.wall c.args.came (came.Waits c.in-Waits.waiting)
    c.args.self.now
    (seen c.self.inside.node c.self.inside.pace c.self.inside.greeting (as_nanos c.self.inside.cooldown) c.self.inside.next_dial (as_nanos c.self.inside.latest)
    c.self.inside.next c.self.inside.arrivals c.self.inside.answers c.self.inside.reads c.self.inside.links c.self.inside.actions.items) c.self.view_is c.in-Waits.is c.requires)
    c.saturating_sub.ensures c.hear.ensures.links refl)

pub invariant_of-self-in-Ignored : goal.invariant_of-self-in-Ignored
invariant_of-self-in-Ignored g c = (
  goes_on (Happening.Heard c.args.link.0 c.args.peer.now c.later-time.result c.args.owed (OfFrame c.args.frame.now c.args.now.wall) (Outcome.Ignores)) _ _ c.self.invariant.0
      (ignores_on g.C.Ord.cmp (wire_in g) c.self.inside.node c.self.inside.pace c.self.inside.greeting (as_nanos c.self.inside.cooldown) c.self.inside.next_dial (as_nanos c.self.inside.latest)
      c.self.inside.next c.self.inside.arrivals c.self.inside.answers c.self.inside.reads c.self.inside.links c.self.inside.actions.items
      c.args.link.0 c.args.peer.now c.args.owed c.args.frame.now c.args.now.wall c.later-time.result (no_earlier _ _ _ c.later-time.ensures)
      c.hear-in-Ignored.new.self c.self.inside.actions.items c.hear-in-Ignored.ensures.counts
      (found_as g.C.Ord.cmp (wire_in g) c.args.link.0 c.args.peer.now c.args.owed c.args.frame.now c.args.now.wall c.args.came (came.Ignored)
      c.args.self.now
      (seen c.self.inside.node c.self.inside.pace c.self.inside.greeting (as_nanos c.self.inside.cooldown) c.self.inside.next_dial (as_nanos c.self.inside.latest)
      c.self.inside.next c.self.inside.arrivals c.self.inside.answers c.self.inside.reads c.self.inside.links c.self.inside.actions.items) c.self.view_is c.in-Ignored.is c.requires)
      c.hear-in-Ignored.ensures.links refl),
  record {
    actions_fit = (let f0 = c.hear-in-Ignored.ensures.needs in let fits = c.self.invariant.1.actions_fit in grind (arith));
    answers_fit = c.self.invariant.1.answers_fit;
  },
)

pub returns-in-Ignored : goal.returns-in-Ignored
returns-in-Ignored g c = heard_of g.C.Ord.cmp (wire_in g) c.self.view_is c.args.link.0 c.args.peer.now c.later-time.result c.args.owed (as_nanos c.args.now.steady)
    (OfFrame c.args.frame.now c.args.now.wall) (Outcome.Ignores) (λ o. IsAdmitted c.args.frame.now o (admission.Ignored))
    c.later-time.ensures tt
    (ignores_on g.C.Ord.cmp (wire_in g) c.self.inside.node c.self.inside.pace c.self.inside.greeting (as_nanos c.self.inside.cooldown) c.self.inside.next_dial (as_nanos c.self.inside.latest)
    c.self.inside.next c.self.inside.arrivals c.self.inside.answers c.self.inside.reads c.self.inside.links c.self.inside.actions.items
    c.args.link.0 c.args.peer.now c.args.owed c.args.frame.now c.args.now.wall c.later-time.result (no_earlier _ _ _ c.later-time.ensures)
    c.hear-in-Ignored.new.self c.self.inside.actions.items c.hear-in-Ignored.ensures.counts
    (found_as g.C.Ord.cmp (wire_in g) c.args.link.0 c.args.peer.now c.args.owed c.args.frame.now c.args.now.wall c.args.came (came.Ignored)
    c.args.self.now
    (seen c.self.inside.node c.self.inside.pace c.self.inside.greeting (as_nanos c.self.inside.cooldown) c.self.inside.next_dial (as_nanos c.self.inside.latest)
    c.self.inside.next c.self.inside.arrivals c.self.inside.answers c.self.inside.reads c.self.inside.links c.self.inside.actions.items) c.self.view_is c.in-Ignored.is c.requires)
    c.hear-in-Ignored.ensures.links refl)

pub invariant_of-self-in-Message : goal.invariant_of-self-in-Message
invariant_of-self-in-Message g c =
    let f = (found_as g.C.Ord.cmp (wire_in g) c.args.link.0 c.args.peer.now c.args.owed c.args.frame.now c.args.now.wall c.args.came (came.Message c.in-Message.channel c.in-Message.start)
    c.args.self.now
    (seen c.self.inside.node c.self.inside.pace c.self.inside.greeting (as_nanos c.self.inside.cooldown) c.self.inside.next_dial (as_nanos c.self.inside.latest)
    c.self.inside.next c.self.inside.arrivals c.self.inside.answers c.self.inside.reads c.self.inside.links c.self.inside.actions.items) c.self.view_is c.in-Message.is c.requires) in
    let out = delivers_out g.C.Ord.cmp (wire_in g) (seen c.self.inside.node c.self.inside.pace c.self.inside.greeting (as_nanos c.self.inside.cooldown) c.self.inside.next_dial (as_nanos c.self.inside.latest)
    c.self.inside.next c.self.inside.arrivals c.self.inside.answers c.self.inside.reads c.self.inside.links c.self.inside.actions.items).node c.args.peer.now f.held c.args.frame.now c.args.now.wall f.none c.in-Message.channel c.in-Message.start f.is_seen in (
      goes_on (Happening.Heard c.args.link.0 c.args.peer.now c.later-time.result c.args.owed (OfFrame c.args.frame.now c.args.now.wall) (Outcome.Delivers out.0)) _ _ c.self.invariant.0
          (delivers_on g.C.Ord.cmp (wire_in g) c.self.inside.node c.self.inside.pace c.self.inside.greeting (as_nanos c.self.inside.cooldown) c.self.inside.next_dial (as_nanos c.self.inside.latest)
          c.self.inside.next c.self.inside.arrivals c.self.inside.answers c.self.inside.reads c.self.inside.links c.self.inside.actions.items
          c.args.link.0 c.args.peer.now c.args.owed c.args.frame.now c.args.now.wall c.later-time.result (no_earlier _ _ _ c.later-time.ensures)
          c.hear-in-Message.new.self c.self.inside.actions.items c.hear-in-Message.ensures.counts out.0 f.held f.linked f.number f.owed_is f.expected out.1
          c.hear-in-Message.ensures.links refl),
      record {
        actions_fit = (let f0 = c.hear-in-Message.ensures.needs in let fits = c.self.invariant.1.actions_fit in grind (arith));
        answers_fit = c.self.invariant.1.answers_fit;
      },
    )

pub returns-in-Message : goal.returns-in-Message
returns-in-Message g c =
    let f = (found_as g.C.Ord.cmp (wire_in g) c.args.link.0 c.args.peer.now c.args.owed c.args.frame.now c.args.now.wall c.args.came (came.Message c.in-Message.channel c.in-Message.start)
    c.args.self.now
    (seen c.self.inside.node c.self.inside.pace c.self.inside.greeting (as_nanos c.self.inside.cooldown) c.self.inside.next_dial (as_nanos c.self.inside.latest)
    c.self.inside.next c.self.inside.arrivals c.self.inside.answers c.self.inside.reads c.self.inside.links c.self.inside.actions.items) c.self.view_is c.in-Message.is c.requires) in
    let out = delivers_out g.C.Ord.cmp (wire_in g) (seen c.self.inside.node c.self.inside.pace c.self.inside.greeting (as_nanos c.self.inside.cooldown) c.self.inside.next_dial (as_nanos c.self.inside.latest)
    c.self.inside.next c.self.inside.arrivals c.self.inside.answers c.self.inside.reads c.self.inside.links c.self.inside.actions.items).node c.args.peer.now f.held c.args.frame.now c.args.now.wall f.none c.in-Message.channel c.in-Message.start f.is_seen in
    heard_of g.C.Ord.cmp (wire_in g) c.self.view_is c.args.link.0 c.args.peer.now c.later-time.result c.args.owed (as_nanos c.args.now.steady)
    (OfFrame c.args.frame.now c.args.now.wall) (Outcome.Delivers out.0)
    (λ o. IsAdmitted c.args.frame.now o (admission.Heard (heard.Message c.in-Message.channel (record { start = c.in-Message.start; end = c.len.result }))))
    c.later-time.ensures (delivered g.row.C.Denot g.row.C-Signature.Denot c.args.frame.now c.in-Message.channel c.in-Message.start c.len.result out.0 out.2 c.len.ensures.value)
    (delivers_on g.C.Ord.cmp (wire_in g) c.self.inside.node c.self.inside.pace c.self.inside.greeting (as_nanos c.self.inside.cooldown) c.self.inside.next_dial (as_nanos c.self.inside.latest)
    c.self.inside.next c.self.inside.arrivals c.self.inside.answers c.self.inside.reads c.self.inside.links c.self.inside.actions.items
    c.args.link.0 c.args.peer.now c.args.owed c.args.frame.now c.args.now.wall c.later-time.result (no_earlier _ _ _ c.later-time.ensures)
    c.hear-in-Message.new.self c.self.inside.actions.items c.hear-in-Message.ensures.counts out.0 f.held f.linked f.number f.owed_is f.expected out.1
    c.hear-in-Message.ensures.links refl)

pub invariant_of-self-in-Early : goal.invariant_of-self-in-Early
invariant_of-self-in-Early g c = (
  goes_on (Happening.Heard c.args.link.0 c.args.peer.now c.later-time.result c.args.owed (OfFrame c.args.frame.now c.args.now.wall) (Outcome.IsEarly)) _ _ c.self.invariant.0
      (early_on g.C.Ord.cmp (wire_in g) c.self.inside.node c.self.inside.pace c.self.inside.greeting (as_nanos c.self.inside.cooldown) c.self.inside.next_dial (as_nanos c.self.inside.latest)
      c.self.inside.next c.self.inside.arrivals c.self.inside.answers c.self.inside.reads c.self.inside.links c.self.inside.actions.items
      c.args.link.0 c.args.peer.now c.args.owed c.args.frame.now c.args.now.wall c.later-time.result (no_earlier _ _ _ c.later-time.ensures)
      c.shut_early.new.links c.shut_early.new.actions.items
      (found_as g.C.Ord.cmp (wire_in g) c.args.link.0 c.args.peer.now c.args.owed c.args.frame.now c.args.now.wall c.args.came (came.Early)
      c.args.self.now
      (seen c.self.inside.node c.self.inside.pace c.self.inside.greeting (as_nanos c.self.inside.cooldown) c.self.inside.next_dial (as_nanos c.self.inside.latest)
      c.self.inside.next c.self.inside.arrivals c.self.inside.answers c.self.inside.reads c.self.inside.links c.self.inside.actions.items) c.self.view_is c.in-Early.is c.requires)
      (c.shut_early.ensures.follows c.args.link.0 c.args.owed)),
  record {
    actions_fit = (let f0 = c.shut_early.ensures.room in let fits = c.self.invariant.1.actions_fit in grind (arith));
    answers_fit = c.self.invariant.1.answers_fit;
  },
)

pub returns-in-Early : goal.returns-in-Early
returns-in-Early g c = heard_of g.C.Ord.cmp (wire_in g) c.self.view_is c.args.link.0 c.args.peer.now c.later-time.result c.args.owed (as_nanos c.args.now.steady)
    (OfFrame c.args.frame.now c.args.now.wall) (Outcome.IsEarly) (λ o. IsAdmitted c.args.frame.now o (admission.Heard (heard.Closing why.Future)))
    c.later-time.ensures refl
    (early_on g.C.Ord.cmp (wire_in g) c.self.inside.node c.self.inside.pace c.self.inside.greeting (as_nanos c.self.inside.cooldown) c.self.inside.next_dial (as_nanos c.self.inside.latest)
    c.self.inside.next c.self.inside.arrivals c.self.inside.answers c.self.inside.reads c.self.inside.links c.self.inside.actions.items
    c.args.link.0 c.args.peer.now c.args.owed c.args.frame.now c.args.now.wall c.later-time.result (no_earlier _ _ _ c.later-time.ensures)
    c.shut_early.new.links c.shut_early.new.actions.items
    (found_as g.C.Ord.cmp (wire_in g) c.args.link.0 c.args.peer.now c.args.owed c.args.frame.now c.args.now.wall c.args.came (came.Early)
    c.args.self.now
    (seen c.self.inside.node c.self.inside.pace c.self.inside.greeting (as_nanos c.self.inside.cooldown) c.self.inside.next_dial (as_nanos c.self.inside.latest)
    c.self.inside.next c.self.inside.arrivals c.self.inside.answers c.self.inside.reads c.self.inside.links c.self.inside.actions.items) c.self.view_is c.in-Early.is c.requires)
    (c.shut_early.ensures.follows c.args.link.0 c.args.owed))

pub invariant_of-self-in-Breach : goal.invariant_of-self-in-Breach
invariant_of-self-in-Breach g c = (
  goes_on (Happening.Heard c.args.link.0 c.args.peer.now c.later-time.result c.args.owed (OfFrame c.args.frame.now c.args.now.wall) (Outcome.Breaks c.in-Breach.breach c.break_off.result)) _ _ c.self.invariant.0
      (breaks_on g.C.Ord.cmp (wire_in g) c.self.inside.node c.self.inside.pace c.self.inside.greeting (as_nanos c.self.inside.cooldown) c.self.inside.next_dial (as_nanos c.self.inside.latest)
      c.self.inside.next c.self.inside.arrivals c.self.inside.answers c.self.inside.reads c.self.inside.links c.self.inside.actions.items
      c.args.link.0 c.args.peer.now c.args.owed c.args.frame.now c.args.now.wall c.later-time.result (no_earlier _ _ _ c.later-time.ensures)
      c.in-Breach.breach c.break_off.result c.break_off.new.node _ c.break_off.new.links c.break_off.new.actions.items ((refl, refl), refl)
      (found_as g.C.Ord.cmp (wire_in g) c.args.link.0 c.args.peer.now c.args.owed c.args.frame.now c.args.now.wall c.args.came (came.Breach c.in-Breach.breach)
      c.args.self.now
      (seen c.self.inside.node c.self.inside.pace c.self.inside.greeting (as_nanos c.self.inside.cooldown) c.self.inside.next_dial (as_nanos c.self.inside.latest)
      c.self.inside.next c.self.inside.arrivals c.self.inside.answers c.self.inside.reads c.self.inside.links c.self.inside.actions.items) c.self.view_is c.in-Breach.is c.requires)
      c.break_off.ensures.made c.break_off.ensures.taken (c.break_off.ensures.follows c.args.link.0 c.args.owed)),
  record {
    actions_fit = (let f0 = c.break_off.ensures.room in let fits = c.self.invariant.1.actions_fit in grind (arith));
    answers_fit = c.self.invariant.1.answers_fit;
  },
)

pub returns-in-Breach : goal.returns-in-Breach
returns-in-Breach g c = heard_of g.C.Ord.cmp (wire_in g) c.self.view_is c.args.link.0 c.args.peer.now c.later-time.result c.args.owed (as_nanos c.args.now.steady)
    (OfFrame c.args.frame.now c.args.now.wall) (Outcome.Breaks c.in-Breach.breach c.break_off.result) (λ o. IsAdmitted c.args.frame.now o (admission.Heard (heard.Closing (why.Breach c.in-Breach.breach))))
    c.later-time.ensures refl
    (breaks_on g.C.Ord.cmp (wire_in g) c.self.inside.node c.self.inside.pace c.self.inside.greeting (as_nanos c.self.inside.cooldown) c.self.inside.next_dial (as_nanos c.self.inside.latest)
    c.self.inside.next c.self.inside.arrivals c.self.inside.answers c.self.inside.reads c.self.inside.links c.self.inside.actions.items
    c.args.link.0 c.args.peer.now c.args.owed c.args.frame.now c.args.now.wall c.later-time.result (no_earlier _ _ _ c.later-time.ensures)
    c.in-Breach.breach c.break_off.result c.break_off.new.node _ c.break_off.new.links c.break_off.new.actions.items ((refl, refl), refl)
    (found_as g.C.Ord.cmp (wire_in g) c.args.link.0 c.args.peer.now c.args.owed c.args.frame.now c.args.now.wall c.args.came (came.Breach c.in-Breach.breach)
    c.args.self.now
    (seen c.self.inside.node c.self.inside.pace c.self.inside.greeting (as_nanos c.self.inside.cooldown) c.self.inside.next_dial (as_nanos c.self.inside.latest)
    c.self.inside.next c.self.inside.arrivals c.self.inside.answers c.self.inside.reads c.self.inside.links c.self.inside.actions.items) c.self.view_is c.in-Breach.is c.requires)
    c.break_off.ensures.made c.break_off.ensures.taken (c.break_off.ensures.follows c.args.link.0 c.args.owed))
