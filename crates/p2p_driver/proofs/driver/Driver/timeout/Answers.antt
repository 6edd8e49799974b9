use Rattle.std.proofs.Common.{◌∙◌, ◌≡◌, ◌≤◌, ◌<◌, ◌&&◌, ◌∷◌, ap, length, max, refl, subst, sym}
use Rattle.std.specs.Prelude.{Result, Ok, Err}
use Rattle.std.specs.Result.{is_ok, result_and}
use Rattle.std.specs.declared.alloc.AllocError.{AllocError}
use Rattle.p2p_tracker.specs.Calls.Call.{UnblockExpired, ForgetCooled}
use Rattle.p2p_directory.specs.Nodes.{NodeStandsAt}
use Rattle.p2p_driver.specs.Happenings.{calls_of}
use Rattle.p2p_driver.specs.declared.pace.Pace.{Pace}
use Rattle.std.specs.Duration.{as_nanos}
use Rattle.p2p_directory.specs.Received.{Wire}
use Rattle.p2p_driver.specs.Drivers.{DriverView, DriverStands, base_of, wire_with}
use Rattle.p2p_driver.specs.Timers.{NoneDue, NoneLate, NoneToAsk, NoneCooled, NoneToDial}
use Rattle.p2p_driver.proofs.DrivingGrants.{frees_late, frees_asked}
use Rattle.p2p_driver.proofs.DrivingTimers.{times_out}
use Rattle.p2p_driver.proofs.Early.{none_late, none_to_ask, none_cooled, none_to_dial}
use Rattle.p2p_driver.proofs.Later.{next_is_later, as_before, as_it_was}
use Rattle.p2p_driver.proofs.driver.Driver.timeout.Given as given
use Rattle.p2p_driver.proofs.driver.Driver.timeout.Goals as goal

-- how keys are, by the type of the keys
abbrev wire_in : (g : given.Over) → Wire g.row.C.Denot g.row.C-Signature.Denot
wire_in g = wire_with g.C.PublicKey.verifies g.C.FixedBytes.spelled g.C.Signature.FixedBytes.spelled g.C.FixedBytes.SIZE
    g.C.FixedBytes.value g.C.Signature.FixedBytes.SIZE g.C.Signature.FixedBytes.value

-- memory was there for all, if it was for both
both : (asked dialed : Result (Unit {0}) AllocError) → (is_ok asked && is_ok dialed) ≡ is_ok (result_and asked dialed)
both (Ok x) dialed = refl
both (Err e) dialed = refl

pub returns-clause-did : goal.returns-clause-did
returns-clause-did g c =
    times_out g.C.Ord.cmp (wire_in g) c.later-now.result (as_nanos c.args.now.steady) c.args.words.now c.ask_all_due-asked.result c.dial_all_due-dialed.result c.and.result
    c.args.self.now c.pass.new.self c.close_all_late.new.self c.ask_all_due-asked.new.self c.free_all_cooled.new.self c.dial_all_due-dialed.new.self
    (both c.ask_all_due-asked.result c.dial_all_due-dialed.result ∙ ap is_ok (sym c.and.ensures))
    (c.later-now.ensures ∙ ap (λ (v : DriverView g.row.C.Denot g.row.C-Signature.Denot). max v.latest (as_nanos c.args.now.steady)) c.self.view_is)
    c.pass.ensures.did c.close_all_late.ensures.did c.ask_all_due-asked.ensures.did c.free_all_cooled.ensures.did c.dial_all_due-dialed.ensures.did

-- the latest time, as it is seen
time : (g : given.Over) (c : goal.After-and g) → as_nanos c.later-now.result ≡ max c.args.self.now.latest (as_nanos c.args.now.steady)
time g c = c.later-now.ensures ∙ ap (λ (v : DriverView g.row.C.Denot g.row.C-Signature.Denot). max v.latest (as_nanos c.args.now.steady)) c.self.view_is

none_due : (g : given.Over) (c : goal.After-and g) →
    NoneDue g.C.Ord.cmp (max c.args.self.now.latest (as_nanos c.args.now.steady)) c.dial_all_due-dialed.new.self
none_due g c = subst (λ t. NoneDue g.C.Ord.cmp t c.dial_all_due-dialed.new.self) (time g c) (record {
  late = c.dial_all_due-dialed.ensures.late (frees_late g.C.Ord.cmp (wire_in g) c.later-now.result _ _ c.free_all_cooled.ensures.did
      (c.ask_all_due-asked.ensures.late c.close_all_late.ensures.none));
  to_ask = c.dial_all_due-dialed.ensures.to_ask (frees_asked g.C.Ord.cmp (wire_in g) c.later-now.result _ _ c.free_all_cooled.ensures.did c.ask_all_due-asked.ensures.none);
  kept = c.dial_all_due-dialed.ensures.kept c.free_all_cooled.ensures.none;
})

pub returns-clause-done : goal.returns-clause-done
returns-clause-done g c = none_due g c

-- the settings stay
same_pace : (g : given.Over) (c : goal.After-and g) → c.free_all_cooled.new.self.pace ≡ c.args.self.now.pace
same_pace g c = let stands = subst (DriverStands g.C.Ord.cmp (wire_in g)) c.self.view_is c.self.invariant.0 in
    (c.free_all_cooled.ensures.did.does stands.given stands.pace _ (c.ask_all_due-asked.ensures.did.does stands.given stands.pace _
    (c.close_all_late.ensures.did.does stands.given stands.pace _
    (c.pass.ensures.did.goes stands.given stands.pace stands.history stands.stands)))).pace ∙ sym stands.stands.pace

nobody : (g : given.Over) (c : goal.After-and g) → c.args.self.now.pace.dials ≤ length c.args.words.now →
    NoneToDial (max c.args.self.now.latest (as_nanos c.args.now.steady)) c.dial_all_due-dialed.new.self
nobody g c enough = subst (λ t. NoneToDial t c.dial_all_due-dialed.new.self) (time g c) (c.dial_all_due-dialed.ensures.none
    (subst (λ (p : Pace). p.dials ≤ length c.args.words.now) (sym (same_pace g c)) enough))

pub returns-clause-dialed : goal.returns-clause-dialed
returns-clause-dialed g c enough = nobody g c enough

pub returns-clause-later : goal.returns-clause-later
returns-clause-later g c fits enough positive next is = let stands = subst (DriverStands g.C.Ord.cmp (wire_in g)) c.self.view_is c.self.invariant.0 in
    next_is_later g.C.Ord.cmp (wire_in g) (as_nanos c.args.now.steady) c.args.words.now c.and.result c.args.self.now c.dial_all_due-dialed.new.self
    stands (returns-clause-did g c) (none_due g c) (nobody g c enough) (subst (λ k. 0 < k) stands.stands.cooldown positive) fits next is

pub returns-clause-early : goal.returns-clause-early
returns-clause-early g c next is later =
    let t = max c.args.self.now.latest (as_nanos c.args.now.steady) in
    let v = c.args.self.now in
    let passed = sym c.pass.ensures.rest in
    let late = subst (λ k. NoneLate g.C.Ord.cmp k v) (sym (time g c)) (none_late g.C.Ord.cmp t v next is later) in
    let ask = subst (λ k. NoneToAsk g.C.Ord.cmp k v) (sym (time g c)) (none_to_ask g.C.Ord.cmp t v next is later) in
    let dial = subst (λ k. NoneToDial k v) (sym (time g c)) (none_to_dial g.C.Ord.cmp t v next is later) in
    let closed = c.close_all_late.ensures.same (subst (NoneLate g.C.Ord.cmp (as_nanos c.later-now.result)) passed (record { streams = late.streams; links = late.links })) in
    let asked = c.ask_all_due-asked.ensures.same (subst (NoneToAsk g.C.Ord.cmp (as_nanos c.later-now.result)) (passed ∙ sym closed) ask) in
    let cooled = subst (λ k. NoneCooled g.C.Ord.cmp k v) (sym (time g c)) (none_cooled g.C.Ord.cmp t v next is later) in
    let freed = c.free_all_cooled.ensures.same (subst (NoneCooled g.C.Ord.cmp (as_nanos c.later-now.result)) (passed ∙ sym closed ∙ sym asked) cooled) in
    let dialed = c.dial_all_due-dialed.ensures.same (subst (NoneToDial (as_nanos c.later-now.result)) (passed ∙ sym closed ∙ sym asked ∙ sym freed) dial) in
    let stands = subst (DriverStands g.C.Ord.cmp (wire_in g)) c.self.view_is c.self.invariant.0 in
    let b = base_of g.C.Ord.cmp (wire_in g) stands.given stands.pace in
    let all = dialed ∙ freed ∙ asked ∙ closed in
    as_before g.C.Ord.cmp (wire_in g) (as_nanos c.args.now.steady) c.args.words.now c.and.result v c.dial_all_due-dialed.new.self
    stands (returns-clause-did g c) (as_nanos c.later-now.result) (time g c)
    (subst (λ (x : DriverView g.row.C.Denot g.row.C-Signature.Denot). NodeStandsAt b.made (UnblockExpired (as_nanos c.later-now.result) ∷ ForgetCooled (as_nanos c.later-now.result) ∷ calls_of stands.history) x.node)
    (sym all) (c.pass.ensures.did.goes stands.given stands.pace stands.history stands.stands).node) next is later
    (as_it_was v c.dial_all_due-dialed.new.self c.pass.new.self (as_nanos c.later-now.result) t all c.pass.ensures.rest (time g c))
