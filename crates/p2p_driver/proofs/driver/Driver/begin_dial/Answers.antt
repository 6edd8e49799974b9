use Rattle.std.proofs.Common.{◌≡◌, ◌==◌, ◌+◌, Some, length, refl, sym, ap, subst, ◌∙◌, true, rules, arith}
use Rattle.std.specs.Prelude.{if◌then◌else◌}
use Rattle.std.specs.Duration.{as_nanos}
use Rattle.p2p_directory.specs.Received.{Wire}
use Rattle.p2p_driver.specs.Drivers.{DriverStands, DriverView, seen, wire_with}
use Rattle.p2p_driver.specs.Reads.{reads_of, unread}
use Rattle.p2p_driver.specs.Steps.{IsChosen}
use Rattle.p2p_driver.specs.Timers.{BeginsOne, is_to_dial}
use Rattle.p2p_driver.proofs.Dialable.{granted_by}
use Rattle.p2p_driver.proofs.Driving.{goes_on}
use Rattle.p2p_driver.specs.Links.{needs}
use Rattle.p2p_driver.proofs.DrivingLinks.{failed_view}
use Rattle.p2p_driver.proofs.DrivingDials.{unread_here, unused_here, unlinked_here, ungranted_here, begins, begins_one, chosen_of}
use Rattle.p2p_driver.proofs.Standing.{at_once}
use Rattle.p2p_driver.proofs.driver.Driver.begin_dial.Given as given
use Rattle.p2p_driver.proofs.driver.Driver.begin_dial.Goals as goal

-- how keys are, by the type of the keys
abbrev wire_in : (g : given.Over) → Wire g.row.C.Denot g.row.C-Signature.Denot
wire_in g = wire_with g.C.PublicKey.verifies g.C.FixedBytes.spelled g.C.Signature.FixedBytes.spelled g.C.FixedBytes.SIZE
    g.C.FixedBytes.value g.C.Signature.FixedBytes.SIZE g.C.Signature.FixedBytes.value

pub dial-requires-clause-unread : goal.dial-requires-clause-unread
dial-requires-clause-unread g c = let d = c.self.inside in unread_here g.C.Ord.cmp (wire_in g) d.node d.pace d.greeting (as_nanos d.cooldown) d.next_dial (as_nanos d.latest) d.next d.arrivals d.answers d.reads d.links d.actions.items c.self.invariant.0

pub dial-requires-clause-unused : goal.dial-requires-clause-unused
dial-requires-clause-unused g c = let d = c.self.inside in unused_here g.C.Ord.cmp (wire_in g) d.node d.pace d.greeting (as_nanos d.cooldown) d.next_dial (as_nanos d.latest) d.next d.arrivals d.answers d.reads d.links d.actions.items c.self.invariant.0

pub dial-requires-clause-unlinked : goal.dial-requires-clause-unlinked
dial-requires-clause-unlinked g c = let d = c.self.inside in unlinked_here g.C.Ord.cmp (wire_in g) d.node d.pace d.greeting (as_nanos d.cooldown) d.next_dial (as_nanos d.latest) d.next d.arrivals d.answers d.reads d.links d.actions.items
    g.met.C.Ord.total g.met.C.PublicKey.exact c.self.invariant.0 (as_nanos c.args.now) c.args.word c.args.peer
    (chosen_of g.C.Ord.cmp (subst (λ (v : DriverView g.row.C.Denot g.row.C-Signature.Denot). IsChosen g.C.Ord.cmp (as_nanos c.args.now) c.args.word c.args.peer v.node) (sym c.self.view_is) c.requires.chosen))

pub dial-requires-clause-ungranted : goal.dial-requires-clause-ungranted
dial-requires-clause-ungranted g c = let d = c.self.inside in ungranted_here g.C.Ord.cmp (wire_in g) d.node d.pace d.greeting (as_nanos d.cooldown) d.next_dial (as_nanos d.latest) d.next d.arrivals d.answers d.reads d.links d.actions.items
    g.met.C.Ord.total g.met.C.PublicKey.exact c.self.invariant.0 (as_nanos c.args.now) c.args.word c.args.peer
    (chosen_of g.C.Ord.cmp (subst (λ (v : DriverView g.row.C.Denot g.row.C-Signature.Denot). IsChosen g.C.Ord.cmp (as_nanos c.args.now) c.args.word c.args.peer v.node) (sym c.self.view_is) c.requires.chosen))

pub dial-requires-clause-granted : goal.dial-requires-clause-granted
dial-requires-clause-granted g c = granted_by g.C.Ord.cmp c.self.inside.node (as_nanos c.args.now) g.met.C.Ord.total c.dialable_are_granted.ensures.chosen
    c.args.word (as_nanos c.jitter.result) c.args.peer
    (chosen_of g.C.Ord.cmp (subst (λ (v : DriverView g.row.C.Denot g.row.C-Signature.Denot). IsChosen g.C.Ord.cmp (as_nanos c.args.now) c.args.word c.args.peer v.node) (sym c.self.view_is) c.requires.chosen))

pub invariant_of-self : goal.invariant_of-self
invariant_of-self g c = let d = c.self.inside in let e = c.in_err-_ingress.ensures.err in (
  subst (DriverStands g.C.Ord.cmp (wire_in g)) (sym (failed_view d.node d.pace d.greeting (as_nanos d.cooldown) d.next_dial (as_nanos d.latest) d.next d.arrivals d.answers d.reads d.links
      d.actions.items c.dial.new.node (record d.next_dial { grants = c.dial.new.grants }) c.dial.new.reads c.dial.new.links c.dial.new.actions.items e.0
      (ap (λ gs. record d.next_dial { grants = gs }) e.3) e.1 e.2 e.4)) c.self.invariant.0,
  record {
    actions_fit = (let same = ap needs e.2 in let room = e.5 in let fits = c.self.invariant.1.actions_fit in grind (arith));
    answers_fit = c.self.invariant.1.answers_fit;
  },
)

pub invariant_of-self-2 : goal.invariant_of-self-2
invariant_of-self-2 g c = let d = c.self.inside in
    let at = subst (λ (v : DriverView g.row.C.Denot g.row.C-Signature.Denot). (v.latest ≡ as_nanos c.args.now) × (is_to_dial (as_nanos c.args.now) v ≡ true)
    × IsChosen g.C.Ord.cmp (as_nanos c.args.now) c.args.word c.args.peer v.node) (sym c.self.view_is) (c.requires.time, c.requires.due, c.requires.chosen) in (
      goes_on _ _ _ c.self.invariant.0
          (begins g.C.Ord.cmp (wire_in g) d.node d.pace d.greeting (as_nanos d.cooldown) d.next_dial (as_nanos d.latest) d.next d.arrivals d.answers d.reads d.links d.actions.items
          c.args.peer c.args.now c.jitter.result c.args.word c.in_ok-_ingress._ingress c.dial.new.node _ c.dial.new.reads c.dial.new.links c.dial.new.actions.items c.in_ok-next.next
          (refl, refl) at.0 at.1 (chosen_of g.C.Ord.cmp at.2)
          (granted_by g.C.Ord.cmp d.node (as_nanos c.args.now) g.met.C.Ord.total c.dialable_are_granted.ensures.chosen c.args.word (as_nanos c.jitter.result) c.args.peer (chosen_of g.C.Ord.cmp at.2))
          c.jitter.ensures c.in_ok-_ingress.ensures.address c.in_ok-_ingress.ensures.made
          (λ j. c.in_ok-_ingress.ensures.reads j ∙ ap (λ xs. if j == d.next then Some (unread (length xs + length xs)) else reads_of d.reads j) c.as_slice.ensures.value)
          c.in_ok-_ingress.ensures.links c.in_ok-_ingress.ensures.grants c.in_ok-_ingress.ensures.counts c.in_ok-_ingress.ensures.said (search rules)),
      record {
        actions_fit = (let needs = c.in_ok-_ingress.ensures.needs in let room = c.in_ok-_ingress.ensures.room in let fits = c.self.invariant.1.actions_fit in grind (arith));
        answers_fit = c.self.invariant.1.answers_fit;
      },
    )

pub returns : goal.returns
returns g c = let d = c.self.inside in
    let at = subst (λ (v : DriverView g.row.C.Denot g.row.C-Signature.Denot). (v.latest ≡ as_nanos c.args.now) × (is_to_dial (as_nanos c.args.now) v ≡ true)
    × IsChosen g.C.Ord.cmp (as_nanos c.args.now) c.args.word c.args.peer v.node) (sym c.self.view_is) (c.requires.time, c.requires.due, c.requires.chosen) in
    subst (λ v. BeginsOne g.C.Ord.cmp (wire_in g) c.args.now c.args.word c.args.peer v
    (seen c.dial.new.node d.pace d.greeting (as_nanos d.cooldown) (record d.next_dial { from = (at_once d.next_dial).from; grants = c.dial.new.grants }) (as_nanos d.latest) c.in_ok-next.next d.arrivals d.answers c.dial.new.reads c.dial.new.links c.dial.new.actions.items))
    c.self.view_is
    (begins_one g.C.Ord.cmp (wire_in g) d.node d.pace d.greeting (as_nanos d.cooldown) d.next_dial (as_nanos d.latest) d.next d.arrivals d.answers d.reads d.links d.actions.items
    c.args.peer c.args.now c.jitter.result c.args.word c.in_ok-_ingress._ingress c.dial.new.node _ c.dial.new.reads c.dial.new.links c.dial.new.actions.items c.in_ok-next.next
    (begins g.C.Ord.cmp (wire_in g) d.node d.pace d.greeting (as_nanos d.cooldown) d.next_dial (as_nanos d.latest) d.next d.arrivals d.answers d.reads d.links d.actions.items
    c.args.peer c.args.now c.jitter.result c.args.word c.in_ok-_ingress._ingress c.dial.new.node _ c.dial.new.reads c.dial.new.links c.dial.new.actions.items c.in_ok-next.next
    (refl, refl) at.0 at.1 (chosen_of g.C.Ord.cmp at.2)
    (granted_by g.C.Ord.cmp d.node (as_nanos c.args.now) g.met.C.Ord.total c.dialable_are_granted.ensures.chosen c.args.word (as_nanos c.jitter.result) c.args.peer (chosen_of g.C.Ord.cmp at.2))
    c.jitter.ensures c.in_ok-_ingress.ensures.address c.in_ok-_ingress.ensures.made
    (λ j. c.in_ok-_ingress.ensures.reads j ∙ ap (λ xs. if j == d.next then Some (unread (length xs + length xs)) else reads_of d.reads j) c.as_slice.ensures.value)
    c.in_ok-_ingress.ensures.links c.in_ok-_ingress.ensures.grants c.in_ok-_ingress.ensures.counts c.in_ok-_ingress.ensures.said (search rules))
    c.in_ok-_ingress.ensures.links c.in_ok-_ingress.ensures.grants c.in_ok-_ingress.ensures.counts)
