use Rattle.std.proofs.Common.{arith}
use Rattle.std.specs.Duration.{as_nanos}
use Rattle.p2p_driver.proofs.DrivingLinks.{takes_on, takes_answered}
use Rattle.p2p_driver.proofs.driver.Driver.next_action.Goals as goal

pub invariant_of-self : goal.invariant_of-self
invariant_of-self g c = (
  takes_on c.self.inside.node c.self.inside.pace c.self.inside.greeting (as_nanos c.self.inside.cooldown) c.self.inside.next_dial
      (as_nanos c.self.inside.latest) c.self.inside.next c.self.inside.arrivals c.self.inside.answers c.self.inside.reads c.self.inside.links
      c.self.inside.actions.items c.pop.result c.pop.new.self.items c.self.invariant.0 c.pop.ensures.items c.pop.ensures.none,
  record {
    actions_fit = (let room = c.pop.ensures.room in let fits = c.self.invariant.1.actions_fit in grind (arith));
    answers_fit = c.self.invariant.1.answers_fit;
  },
)

pub returns : goal.returns
returns g c = takes_answered c.self.inside.node c.self.inside.pace c.self.inside.greeting (as_nanos c.self.inside.cooldown) c.self.inside.next_dial
    (as_nanos c.self.inside.latest) c.self.inside.next c.self.inside.arrivals c.self.inside.answers c.self.inside.reads c.self.inside.links
    c.self.inside.actions.items g.C.Ord.cmp _ _ c.pop.result c.pop.new.self.items c.self.view_is c.pop.ensures.items c.pop.ensures.none
