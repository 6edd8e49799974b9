use Rattle.std.proofs.Common.{rules, ◌≡◌, ◌++◌, ℕ, List, ap, sym, ◌∙◌, not, filter}
use Rattle.std.specs.Prelude.{length, is_some}
use Rattle.std.specs.Duration.{as_nanos}
use Rattle.p2p_driver.specs.Answers.{AreKept, IsClaimRefusal}
use Rattle.p2p_driver.specs.Arrivals.{has_number}
use Rattle.p2p_driver.specs.Drivers.{may_claim}
use Rattle.p2p_driver.specs.Happenings.{closing}
use Rattle.p2p_driver.specs.Links.{needs}
use Rattle.p2p_driver.proofs.Driving.{claims_by, refuses_by, claim_leaves, claim_answered, no_earlier, room_left, given_some}
use Rattle.p2p_driver.proofs.Fewer.{found_number, none_of}
use Rattle.p2p_driver.proofs.driver.Driver.claimed.Goals as goal

pub invariant_of-self : goal.invariant_of-self
invariant_of-self g c =
    let stream = c.in-Some.stream in
    let n = c.args.link.0 in
    let found = sym c.get.ensures ∙ c.in-Some.is in
    let number = found_number n c.self.inside.arrivals stream found in
    let none = none_of stream.claim (search rules) in (
      claim_leaves c.self.invariant.0 c.claim-closed.result
          (λ goes. let claimed = c.claim-closed.ensures.claimed goes in
          claims_by c.self.inside.node c.self.inside.pace c.self.inside.greeting (as_nanos c.self.inside.cooldown) c.self.inside.next_dial
          (as_nanos c.self.inside.latest) c.self.inside.next c.self.inside.arrivals c.self.inside.answers c.self.inside.reads c.self.inside.links
          c.self.inside.actions.items n stream c.args.peer c.later-now.result c.may_come-may.result c.claim-closed.new.arrivals
          c.claim-closed.new.answers c.claim-closed.new.actions.items number found none c.may_come-may.ensures
          (no_earlier _ _ _ c.later-now.ensures) claimed.0 claimed.1 claimed.2 claimed.3)
          (λ w stops. let closed = given_some (λ w. (c.claim-closed.new.arrivals ≡ filter (λ a. not (has_number stream.number a)) c.self.inside.arrivals)
          × (c.claim-closed.new.actions.items ≡ c.self.inside.actions.items ++ closing stream.number w)
          × ((claims : List (ℕ × ℕ)) → AreKept c.self.inside.pace (as_nanos c.later-now.result) claims c.self.inside.answers →
          IsClaimRefusal c.self.inside.pace (as_nanos c.later-now.result) stream.origin.0 claims c.may_come-may.result w
          × AreKept c.self.inside.pace (as_nanos c.later-now.result) claims c.claim-closed.new.answers))
          c.claim-closed.result w stops c.claim-closed.ensures.closed in
          refuses_by c.self.inside.node c.self.inside.pace c.self.inside.greeting (as_nanos c.self.inside.cooldown) c.self.inside.next_dial
          (as_nanos c.self.inside.latest) c.self.inside.next c.self.inside.arrivals c.self.inside.answers c.self.inside.reads c.self.inside.links
          c.self.inside.actions.items n stream c.args.peer c.later-now.result c.may_come-may.result w c.claim-closed.new.arrivals
          c.claim-closed.new.answers c.claim-closed.new.actions.items number found none c.may_come-may.ensures
          (no_earlier _ _ _ c.later-now.ensures) closed.0 closed.1 closed.2),
      record {
        actions_fit = room_left (length c.self.inside.arrivals) (length c.claim-closed.new.arrivals) (needs c.self.inside.links)
            c.self.inside.actions.room c.claim-closed.new.actions.room c.claim-closed.ensures.actions_room c.self.invariant.1.actions_fit;
        answers_fit = c.claim-closed.ensures.answers_room;
      },
    )

pub returns : goal.returns
returns g c =
    let stream = c.in-Some.stream in
    let n = c.args.link.0 in
    let found = sym c.get.ensures ∙ c.in-Some.is in
    let number = found_number n c.self.inside.arrivals stream found in
    let none = none_of stream.claim (search rules) in
    claim_answered (as_nanos c.args.now.steady) c.is_none.result c.self.view_is
    (ap may_claim found ∙ ap (λ claim. not (is_some claim)) none) c.later-now.ensures c.claim-closed.result (search rules)
    (λ goes. let claimed = c.claim-closed.ensures.claimed goes in
    claims_by c.self.inside.node c.self.inside.pace c.self.inside.greeting (as_nanos c.self.inside.cooldown) c.self.inside.next_dial
    (as_nanos c.self.inside.latest) c.self.inside.next c.self.inside.arrivals c.self.inside.answers c.self.inside.reads c.self.inside.links
    c.self.inside.actions.items n stream c.args.peer c.later-now.result c.may_come-may.result c.claim-closed.new.arrivals
    c.claim-closed.new.answers c.claim-closed.new.actions.items number found none c.may_come-may.ensures
    (no_earlier _ _ _ c.later-now.ensures) claimed.0 claimed.1 claimed.2 claimed.3)
    (λ w stops. let closed = given_some (λ w. (c.claim-closed.new.arrivals ≡ filter (λ a. not (has_number stream.number a)) c.self.inside.arrivals)
    × (c.claim-closed.new.actions.items ≡ c.self.inside.actions.items ++ closing stream.number w)
    × ((claims : List (ℕ × ℕ)) → AreKept c.self.inside.pace (as_nanos c.later-now.result) claims c.self.inside.answers →
    IsClaimRefusal c.self.inside.pace (as_nanos c.later-now.result) stream.origin.0 claims c.may_come-may.result w
    × AreKept c.self.inside.pace (as_nanos c.later-now.result) claims c.claim-closed.new.answers))
    c.claim-closed.result w stops c.claim-closed.ensures.closed in
    refuses_by c.self.inside.node c.self.inside.pace c.self.inside.greeting (as_nanos c.self.inside.cooldown) c.self.inside.next_dial
    (as_nanos c.self.inside.latest) c.self.inside.next c.self.inside.arrivals c.self.inside.answers c.self.inside.reads c.self.inside.links
    c.self.inside.actions.items n stream c.args.peer c.later-now.result c.may_come-may.result w c.claim-closed.new.arrivals
    c.claim-closed.new.answers c.claim-closed.new.actions.items number found none c.may_come-may.ensures
    (no_earlier _ _ _ c.later-now.ensures) closed.0 closed.1 closed.2)
