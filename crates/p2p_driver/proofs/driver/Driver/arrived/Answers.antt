use Rattle.std.proofs.Common.{rules, ap, sym, ◌∙◌, subst, inl}
use Rattle.std.specs.Prelude.{length}
use Rattle.std.specs.Duration.{as_nanos}
use Rattle.p2p_driver.specs.Arrivals.{arrival_of, room_of, arrived}
use Rattle.p2p_driver.specs.Drivers.{HasNoRoom}
use Rattle.p2p_driver.specs.Happenings.{Happening}
use Rattle.p2p_driver.specs.Links.{needs}
use Rattle.p2p_driver.proofs.Driving.{comes, comes_from, goes_on, kept_view, no_earlier, room_left, few_wait}
use Rattle.p2p_driver.proofs.driver.Driver.arrived.Goals as goal

pub invariant_of-self-in_default-room : goal.invariant_of-self-in_default-room
invariant_of-self-in_default-room g c = (
  goes_on (Happening.Arrived c.self.inside.next c.of.result c.later-now.result c.in_ok-room.room) _ _
      c.self.invariant.0
      (comes c.self.inside.node c.self.inside.pace c.self.inside.greeting (as_nanos c.self.inside.cooldown) c.self.inside.next_dial (as_nanos c.self.inside.latest)
      c.self.inside.next c.self.inside.arrivals c.self.inside.answers c.self.inside.reads c.self.inside.links c.self.inside.actions.items
      c.of.result c.later-now.result c.in_ok-room.room c.take.new.arrivals c.take.new.answers c.take.new.actions.items c.in-Some.next
      (no_earlier _ _ _ c.later-now.ensures) c.in_default-room.not-None c.in_ok-room.ensures.room c.in_ok-room.ensures.arrivals
      c.in_ok-room.ensures.answers c.in_ok-room.ensures.said (search rules)),
  record {
    actions_fit = room_left (length c.self.inside.arrivals) (length c.take.new.arrivals) (needs c.self.inside.links)
        c.self.inside.actions.room c.take.new.actions.room c.in_ok-room.ensures.actions_room c.self.invariant.1.actions_fit;
    answers_fit = c.in_ok-room.ensures.answers_room;
  },
)

pub returns-in-None-clause-none : goal.returns-in-None-clause-none
returns-in-None-clause-none g c = λ _. (
  kept_view c.self.inside.node c.self.inside.pace c.self.inside.greeting (as_nanos c.self.inside.cooldown) c.self.inside.next_dial (as_nanos c.self.inside.latest)
      c.self.inside.next c.self.inside.arrivals c.self.inside.answers c.self.inside.reads c.self.inside.links c.self.inside.actions.items
      _ c.take.new.answers _ (c.in_ok-room.ensures.arrivals ∙ ap (λ space. arrived (arrival_of c.self.inside.next c.of.result c.later-now.result) space c.self.inside.arrivals) c.in-None.is)
      c.in_ok-room.ensures.answers (c.in_ok-room.ensures.said ∙ search rules) ∙ c.self.view_is,
  subst (HasNoRoom _ (as_nanos c.args.now.steady)) c.self.view_is (inl (λ from is.
      ap (λ t. room_of c.self.inside.pace t c.self.inside.arrivals from) (sym c.later-now.ensures)
      ∙ ap (λ n. room_of c.self.inside.pace (as_nanos c.later-now.result) c.self.inside.arrivals (record { 0 = n })) (is ∙ sym c.of.ensures)
      ∙ c.in_ok-room.ensures.room ∙ c.in-None.is)),
)

pub returns-in_default-room : goal.returns-in_default-room
returns-in_default-room g c = record {
  came = comes_from c.self.view_is (record {
    next = search rules;
    from = c.of.result;
    from_is = c.of.ensures;
    space = c.in_ok-room.room;
    few = few_wait (length c.self.inside.actions.items) c.self.inside.pace.arrivals (search rules);
    does = (
      c.later-now.result,
      c.later-now.ensures,
      comes c.self.inside.node c.self.inside.pace c.self.inside.greeting (as_nanos c.self.inside.cooldown) c.self.inside.next_dial (as_nanos c.self.inside.latest)
          c.self.inside.next c.self.inside.arrivals c.self.inside.answers c.self.inside.reads c.self.inside.links c.self.inside.actions.items
          c.of.result c.later-now.result c.in_ok-room.room c.take.new.arrivals c.take.new.answers c.take.new.actions.items c.in-Some.next
          (no_earlier _ _ _ c.later-now.ensures) c.in_default-room.not-None c.in_ok-room.ensures.room c.in_ok-room.ensures.arrivals
          c.in_ok-room.ensures.answers c.in_ok-room.ensures.said (search rules),
    );
  });
  none = λ is. absurd cc;
  err = tt;
}
