use Rattle.std.proofs.Common.{◌≡◌, ◌∙◌, ◌≤◌, ◌+◌, ◌<◌, ℕ, Option, Some, None, rules, refl, sym, ap, subst, arith}
use Rattle.std.specs.Prelude.{option_map, length, slice_get, IfSome}
use Rattle.std.specs.Duration.{as_nanos}
use Rattle.std.specs.Option.{IsSomeAnd}
use Rattle.std.specs.declared.time.Duration.{Duration}
use Rattle.p2p_directory.specs.Received.{Wire}
use Rattle.p2p_driver.specs.Drivers.{DriverStands, HasRoom, Does, AnswersSay, seen, wire_with}
use Rattle.p2p_driver.specs.Happenings.{Happening}
use Rattle.p2p_driver.specs.Links.{has_room_at}
use Rattle.p2p_driver.specs.Meters.{MetersView, MayTwice, IsEarly}
use Rattle.p2p_driver.specs.Reading.{rate_at}
use Rattle.p2p_driver.specs.Reads.{reads_of, kept_in, HasPlace}
use Rattle.p2p_driver.specs.declared.rate.Rate.{Rate}
use Rattle.p2p_driver.proofs.Driving.{goes_on, no_earlier}
use Rattle.p2p_driver.proofs.DrivingReads.{the_one}
use Rattle.p2p_driver.proofs.DrivingSays.{is_taken, says_on}
use Rattle.p2p_driver.proofs.driver.Driver.say.Given as given
use Rattle.p2p_driver.proofs.driver.Driver.say.Goals as goal

-- how keys are, by the type of the keys
abbrev wire_in : (g : given.Over) → Wire g.row.C.Denot g.row.C-Signature.Denot
wire_in g = wire_with g.C.PublicKey.verifies g.C.FixedBytes.spelled g.C.Signature.FixedBytes.spelled g.C.FixedBytes.SIZE
    g.C.FixedBytes.value g.C.Signature.FixedBytes.SIZE g.C.Signature.FixedBytes.value

pub encoded-requires : goal.encoded-requires
encoded-requires g c = c.in_ok-place.ensures.fits

pub rate_of-rate-requires : goal.rate_of-rate-requires
rate_of-rate-requires g c = subst (λ cs. c.in_ok-place.place < length cs) c.as_slice.ensures.value c.in_ok-place.ensures.within

pub invariant_of-self : goal.invariant_of-self
invariant_of-self g c = let d = c.self.inside in
    let same = c.say.ensures.unchanged c.if-not-say.true in (
      subst (λ ls. DriverStands g.C.Ord.cmp (wire_in g) (seen d.node d.pace d.greeting (as_nanos d.cooldown) d.next_dial (as_nanos d.latest) d.next d.arrivals d.answers d.reads ls d.actions.items))
          (sym same) c.self.invariant.0,
      subst (λ ls. HasRoom d.arrivals d.answers ls d.actions) (sym same) c.self.invariant.1,
    )

-- what is said of each that is kept is said of this one
early_of : (rate : Rate) (now : ℕ) (place : Option ℕ) (o : Option Duration) (reads : Option MetersView) (m : MetersView) → reads ≡ Some m →
    IfSome o (λ next. (m : MetersView) → reads ≡ Some m → IsEarly rate now (kept_in place m) (as_nanos next)) →
    IfSome o (λ next. IsEarly rate now (kept_in place m) (as_nanos next))
early_of rate now place None reads m is all = tt
early_of rate now place (Some next) reads m is all = all m is

pub invariant_of-self-2 : goal.invariant_of-self-2
invariant_of-self-2 g c = let d = c.self.inside in
    let linked = sym c.get.ensures ∙ ap (option_map (λ h. h.now)) c.in_ok-held.was in
    let items = d.pace.channels.items in
    let at : c.in_ok-said_at.said_at ≡ c.in_ok-place.place + length items = search rules in
    let rated : rate_at d.pace (Some c.in_ok-said_at.said_at) ≡ Some c.rate_of-rate.result =
    ap (λ k. rate_at d.pace (Some k)) at ∙ c.rate_of-rate.ensures.said in
    let after = no_earlier (as_nanos d.latest) (as_nanos c.args.now.steady) (as_nanos c.later-time.result) c.later-time.ensures in
    let opens = sym c.is_open-open.ensures ∙ c.if-not-open.false in
    let idle = sym c.count_of.ensures ∙ c.if-count_of-ne0.false in
    let room = sym (ap (has_room_at d.pace.queue) linked) ∙ c.say.ensures.room c.if-not-say.false in
    let behind : length items ≤ c.in_ok-said_at.said_at = (let is = at in omega (arith, is)) in
    let taken = the_one (λ m. HasPlace (Some c.in_ok-said_at.said_at) m × MayTwice c.rate_of-rate.result (as_nanos c.later-time.result) (kept_in (Some c.in_ok-said_at.said_at) m))
    (reads_of d.reads c.in_ok-held.held.now.number) (c.may_take_two.ensures c.if-not-may_take_two.false) in
    let none = is_taken g.C.Ord.cmp (wire_in g) d.node d.pace d.greeting (as_nanos d.cooldown) d.next_dial (as_nanos d.latest) d.next d.arrivals d.answers d.reads d.links d.actions.items
    g.met.C.PublicKey.exact c.in_ok-held.held.now.number c.args.peer.now c.in_ok-held.held.now linked refl c.in_ok-said_at.said_at c.rate_of-rate.result rated
    c.later-time.result after c.self.invariant.0 c.take-taken.result taken.0 taken.1 (early_of c.rate_of-rate.result (as_nanos c.later-time.result) (Some c.in_ok-said_at.said_at)
    c.take-taken.result (reads_of d.reads c.in_ok-held.held.now.number) taken.0 taken.1 c.take-taken.ensures.early) taken.2.1 in
    let now = c.take-taken.ensures.read none taken.0 taken.1 in (
      goes_on _ _ _ c.self.invariant.0 (let m = taken.0 in says_on g.C.Ord.cmp (wire_in g) d.node d.pace d.greeting (as_nanos d.cooldown) d.next_dial (as_nanos d.latest) d.next d.arrivals d.answers d.reads d.links d.actions.items g.met.C.PublicKey.exact
          c.in_ok-held.held.now.number c.args.peer.now c.in_ok-held.held.now linked refl c.in_ok-said_at.said_at c.rate_of-rate.result rated c.later-time.result after
          m now.0 c.take-taken.new.self c.say.new.links opens idle room behind taken.1 now.1 taken.2.1 now.2
          (λ j differs. c.take-taken.ensures.others j differs) (c.say.ensures.links c.if-not-say.false) c.say.ensures.counts),
      record {
        actions_fit = (let same = c.say.ensures.needs in let fits = c.self.invariant.1.actions_fit in grind (arith));
        answers_fit = c.self.invariant.1.answers_fit;
      },
    )

pub returns : goal.returns
returns g c = let d = c.self.inside in
    let linked = sym c.get.ensures ∙ ap (option_map (λ h. h.now)) c.in_ok-held.was in
    let items = d.pace.channels.items in
    let at : c.in_ok-said_at.said_at ≡ c.in_ok-place.place + length items = search rules in
    let rated : rate_at d.pace (Some c.in_ok-said_at.said_at) ≡ Some c.rate_of-rate.result =
    ap (λ k. rate_at d.pace (Some k)) at ∙ c.rate_of-rate.ensures.said in
    let after = no_earlier (as_nanos d.latest) (as_nanos c.args.now.steady) (as_nanos c.later-time.result) c.later-time.ensures in
    let opens = sym c.is_open-open.ensures ∙ c.if-not-open.false in
    let idle = sym c.count_of.ensures ∙ c.if-count_of-ne0.false in
    let room = sym (ap (has_room_at d.pace.queue) linked) ∙ c.say.ensures.room c.if-not-say.false in
    let behind : length items ≤ c.in_ok-said_at.said_at = (let is = at in omega (arith, is)) in
    let taken = the_one (λ m. HasPlace (Some c.in_ok-said_at.said_at) m × MayTwice c.rate_of-rate.result (as_nanos c.later-time.result) (kept_in (Some c.in_ok-said_at.said_at) m))
    (reads_of d.reads c.in_ok-held.held.now.number) (c.may_take_two.ensures c.if-not-may_take_two.false) in
    let none = is_taken g.C.Ord.cmp (wire_in g) d.node d.pace d.greeting (as_nanos d.cooldown) d.next_dial (as_nanos d.latest) d.next d.arrivals d.answers d.reads d.links d.actions.items
    g.met.C.PublicKey.exact c.in_ok-held.held.now.number c.args.peer.now c.in_ok-held.held.now linked refl c.in_ok-said_at.said_at c.rate_of-rate.result rated
    c.later-time.result after c.self.invariant.0 c.take-taken.result taken.0 taken.1 (early_of c.rate_of-rate.result (as_nanos c.later-time.result) (Some c.in_ok-said_at.said_at)
    c.take-taken.result (reads_of d.reads c.in_ok-held.held.now.number) taken.0 taken.1 c.take-taken.ensures.early) taken.2.1 in
    let now = c.take-taken.ensures.read none taken.0 taken.1 in
    subst (λ v. AnswersSay g.C.Ord.cmp (wire_in g) c.args.peer.now c.args.channel c.args.size (as_nanos c.args.now.steady)
    (Some (c.in_ok-held.held.now.number, c.in_ok-data.data)) v
    (seen d.node d.pace d.greeting (as_nanos d.cooldown) d.next_dial (as_nanos c.later-time.result) d.next d.arrivals d.answers c.take-taken.new.self c.say.new.links d.actions.items))
    c.self.view_is (
      c.in_ok-place.place,
      subst (λ cs. IsSomeAnd (slice_get cs c.in_ok-place.place) (λ x. (x.number ≡ c.args.channel) × (c.args.size ≤ x.longest))) c.as_slice.ensures.value c.in_ok-place.ensures.found,
      c.in_ok-data.ensures.0,
      c.in_ok-data.ensures.1,
      (
        c.later-time.result,
        c.later-time.ensures,
        subst (λ k. Does g.C.Ord.cmp (wire_in g) (Happening.Spoken c.in_ok-held.held.now.number c.args.peer.now c.later-time.result k)
            (seen d.node d.pace d.greeting (as_nanos d.cooldown) d.next_dial (as_nanos d.latest) d.next d.arrivals d.answers d.reads d.links d.actions.items)
            (seen d.node d.pace d.greeting (as_nanos d.cooldown) d.next_dial (as_nanos c.later-time.result) d.next d.arrivals d.answers c.take-taken.new.self c.say.new.links d.actions.items))
            at (let m = taken.0 in says_on g.C.Ord.cmp (wire_in g) d.node d.pace d.greeting (as_nanos d.cooldown) d.next_dial (as_nanos d.latest) d.next d.arrivals d.answers d.reads d.links d.actions.items g.met.C.PublicKey.exact
            c.in_ok-held.held.now.number c.args.peer.now c.in_ok-held.held.now linked refl c.in_ok-said_at.said_at c.rate_of-rate.result rated c.later-time.result after
            m now.0 c.take-taken.new.self c.say.new.links opens idle room behind taken.1 now.1 taken.2.1 now.2
            (λ j differs. c.take-taken.ensures.others j differs) (c.say.ensures.links c.if-not-say.false) c.say.ensures.counts),
      ),
    )
