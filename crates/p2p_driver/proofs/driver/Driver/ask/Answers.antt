use Rattle.std.proofs.Common.{◌∙◌, ◌≡◌, ◌<◌, ◌+◌, ◌++◌, ℕ, Bool, Option, Some, None, true, false, max, rules, refl, sym, ap, subst, arith}
use Rattle.std.specs.Prelude.{if◌then◌else◌, option_map, is_some, not, ◌||◌, IfSome}
use Rattle.std.specs.BTreeMap.{is_at}
use Rattle.std.specs.Duration.{as_nanos}
use Rattle.std.specs.Option.{IsSomeAnd}
use Rattle.p2p_directory.specs.Received.{Wire}
use Rattle.p2p_driver.specs.Drivers.{DriverView, seen, wire_with}
use Rattle.p2p_driver.specs.Happenings.{asking_on}
use Rattle.p2p_driver.specs.Links.{link_of, asking, is_to_ask}
use Rattle.p2p_driver.specs.Questions.{owed_with}
use Rattle.p2p_driver.specs.Timers.{AsksOne}
use Rattle.p2p_driver.specs.declared.links.Asked.{Asked}
use Rattle.p2p_driver.specs.declared.questions.Question.{Question}
use Rattle.p2p_driver.proofs.Driving.{goes_on}
use Rattle.p2p_driver.proofs.DrivingFrames.{said_none}
use Rattle.p2p_driver.proofs.DrivingTimers.{asks_one}
use Rattle.p2p_driver.proofs.driver.Driver.ask.Given as given
use Rattle.p2p_driver.proofs.driver.Driver.ask.Goals as goal

-- how keys are, by the type of the keys
abbrev wire_in : (g : given.Over) → Wire g.row.C.Denot g.row.C-Signature.Denot
wire_in g = wire_with g.C.PublicKey.verifies g.C.FixedBytes.spelled g.C.Signature.FixedBytes.spelled g.C.FixedBytes.SIZE
    g.C.FixedBytes.value g.C.Signature.FixedBytes.SIZE g.C.Signature.FixedBytes.value

-- a tick takes some time
later : (t tick : ℕ) → t < t + max tick 1
later t tick = grind (arith)

-- there is room, and so memory alone decides
asked_or : (b : Bool) → (b || not true) ≡ b
asked_or true = refl
asked_or false = refl

always : (o : Option Question) → IfSome o (λ q. true ≡ true)
always None = tt
always (Some q) = refl

pub invariant_of-self : goal.invariant_of-self
invariant_of-self g c = let d = c.self.inside in
    let linked : link_of g.C.Ord.cmp d.links c.args.peer.now ≡ Some c.in-Some.held.now = sym c.get.ensures ∙ ap (option_map (λ h. h.now)) c.in-Some.is in
    let there = subst (λ (v : DriverView g.row.C.Denot g.row.C-Signature.Denot). IsSomeAnd (link_of g.C.Ord.cmp v.links c.args.peer.now)
    (λ held. is_to_ask (as_nanos v.pace.tick) (as_nanos c.args.now) held ≡ true)) (sym c.self.view_is) c.requires.due in
    let due = subst (λ o. IsSomeAnd o (λ held. is_to_ask (as_nanos d.pace.tick) (as_nanos c.args.now) held ≡ true)) linked there in (
      goes_on _ _ _ c.self.invariant.0 (asks_one g.C.Ord.cmp (wire_in g) d.node d.pace d.greeting (as_nanos d.cooldown) d.next_dial (as_nanos d.latest) d.next d.arrivals d.answers d.reads d.links d.actions.items g.met.C.PublicKey.exact
          c.in-Some.held.now.number c.args.peer.now c.in-Some.held.now c.args.now c.in-Some.held.now.owed false None true
          c.ask.new.self d.actions.items
          (ap (λ (v : DriverView g.row.C.Denot g.row.C-Signature.Denot). v.latest) c.self.view_is ∙ c.requires.time)
          linked refl due refl tt refl
          (subst (λ (a : Asked). (q : g.row.C.Denot) → link_of g.C.Ord.cmp c.ask.new.self q ≡ (if is_at (g.C.Ord.cmp c.args.peer.now) q
          then option_map (asking c.in-Some.held.now.owed a) (link_of g.C.Ord.cmp d.links q) else link_of g.C.Ord.cmp d.links q)) c.tried.ensures c.ask.ensures.links)
          c.ask.ensures.counts (said_none d.actions.items d.actions.items (search rules))
          (c.ask.ensures.fewer (as_nanos d.pace.tick) (as_nanos c.args.now)
          (subst (λ (a : Asked). as_nanos c.args.now < as_nanos a.at + max (as_nanos d.pace.tick) 1) (sym c.tried.ensures) (later (as_nanos c.args.now) (as_nanos d.pace.tick)))
          there) (sym c.if-not-has_room.true ∙ c.has_room.ensures) tt).does,
      record {
        actions_fit = (let needs = c.ask.ensures.needs in let fits = c.self.invariant.1.actions_fit in grind (arith));
        answers_fit = c.self.invariant.1.answers_fit;
      },
    )

pub returns-then-not-has_room : goal.returns-then-not-has_room
returns-then-not-has_room g c = let d = c.self.inside in
    let linked : link_of g.C.Ord.cmp d.links c.args.peer.now ≡ Some c.in-Some.held.now = sym c.get.ensures ∙ ap (option_map (λ h. h.now)) c.in-Some.is in
    let there = subst (λ (v : DriverView g.row.C.Denot g.row.C-Signature.Denot). IsSomeAnd (link_of g.C.Ord.cmp v.links c.args.peer.now)
    (λ held. is_to_ask (as_nanos v.pace.tick) (as_nanos c.args.now) held ≡ true)) (sym c.self.view_is) c.requires.due in
    let due = subst (λ o. IsSomeAnd o (λ held. is_to_ask (as_nanos d.pace.tick) (as_nanos c.args.now) held ≡ true)) linked there in
    subst (λ v. AsksOne g.C.Ord.cmp (wire_in g) c.args.now true v
    (seen d.node d.pace d.greeting (as_nanos d.cooldown) d.next_dial (as_nanos d.latest) d.next d.arrivals d.answers d.reads c.ask.new.self d.actions.items))
    c.self.view_is (asks_one g.C.Ord.cmp (wire_in g) d.node d.pace d.greeting (as_nanos d.cooldown) d.next_dial (as_nanos d.latest) d.next d.arrivals d.answers d.reads d.links d.actions.items g.met.C.PublicKey.exact
    c.in-Some.held.now.number c.args.peer.now c.in-Some.held.now c.args.now c.in-Some.held.now.owed false None true
    c.ask.new.self d.actions.items
    (ap (λ (v : DriverView g.row.C.Denot g.row.C-Signature.Denot). v.latest) c.self.view_is ∙ c.requires.time)
    linked refl due refl tt refl
    (subst (λ (a : Asked). (q : g.row.C.Denot) → link_of g.C.Ord.cmp c.ask.new.self q ≡ (if is_at (g.C.Ord.cmp c.args.peer.now) q
    then option_map (asking c.in-Some.held.now.owed a) (link_of g.C.Ord.cmp d.links q) else link_of g.C.Ord.cmp d.links q)) c.tried.ensures c.ask.ensures.links)
    c.ask.ensures.counts (said_none d.actions.items d.actions.items (search rules))
    (c.ask.ensures.fewer (as_nanos d.pace.tick) (as_nanos c.args.now)
    (subst (λ (a : Asked). as_nanos c.args.now < as_nanos a.at + max (as_nanos d.pace.tick) 1) (sym c.tried.ensures) (later (as_nanos c.args.now) (as_nanos d.pace.tick)))
    there) (sym c.if-not-has_room.true ∙ c.has_room.ensures) tt)

pub invariant_of-self-then-is_err : goal.invariant_of-self-then-is_err
invariant_of-self-then-is_err g c = let d = c.self.inside in
    let linked : link_of g.C.Ord.cmp d.links c.args.peer.now ≡ Some c.in-Some.held.now = sym c.get.ensures ∙ ap (option_map (λ h. h.now)) c.in-Some.is in
    let there = subst (λ (v : DriverView g.row.C.Denot g.row.C-Signature.Denot). IsSomeAnd (link_of g.C.Ord.cmp v.links c.args.peer.now)
    (λ held. is_to_ask (as_nanos v.pace.tick) (as_nanos c.args.now) held ≡ true)) (sym c.self.view_is) c.requires.due in
    let due = subst (λ o. IsSomeAnd o (λ held. is_to_ask (as_nanos d.pace.tick) (as_nanos c.args.now) held ≡ true)) linked there in (
      goes_on _ _ _ c.self.invariant.0 (asks_one g.C.Ord.cmp (wire_in g) d.node d.pace d.greeting (as_nanos d.cooldown) d.next_dial (as_nanos d.latest) d.next d.arrivals d.answers d.reads d.links d.actions.items g.met.C.PublicKey.exact
          c.in-Some.held.now.number c.args.peer.now c.in-Some.held.now c.args.now c.in-Some.held.now.owed true None false
          c.ask-then-is_err.new.self c.reserve.new.self.items
          (ap (λ (v : DriverView g.row.C.Denot g.row.C-Signature.Denot). v.latest) c.self.view_is ∙ c.requires.time)
          linked refl due refl tt refl
          (subst (λ (a : Asked). (q : g.row.C.Denot) → link_of g.C.Ord.cmp c.ask-then-is_err.new.self q ≡ (if is_at (g.C.Ord.cmp c.args.peer.now) q
          then option_map (asking c.in-Some.held.now.owed a) (link_of g.C.Ord.cmp d.links q) else link_of g.C.Ord.cmp d.links q)) c.tried-then-is_err.ensures c.ask-then-is_err.ensures.links)
          c.ask-then-is_err.ensures.counts (said_none d.actions.items c.reserve.new.self.items (search rules))
          (c.ask-then-is_err.ensures.fewer (as_nanos d.pace.tick) (as_nanos c.args.now)
          (subst (λ (a : Asked). as_nanos c.args.now < as_nanos a.at + max (as_nanos d.pace.tick) 1) (sym c.tried-then-is_err.ensures) (later (as_nanos c.args.now) (as_nanos d.pace.tick)))
          there) (sym c.if-not-has_room.false ∙ c.has_room.ensures) tt).does,
      record {
        actions_fit = (let same : c.reserve.new.self.room ≡ d.actions.room = search rules in let needs = c.ask-then-is_err.ensures.needs in
            let fits = c.self.invariant.1.actions_fit in grind (arith));
        answers_fit = c.self.invariant.1.answers_fit;
      },
    )

pub returns-then-is_err : goal.returns-then-is_err
returns-then-is_err g c = let d = c.self.inside in
    let linked : link_of g.C.Ord.cmp d.links c.args.peer.now ≡ Some c.in-Some.held.now = sym c.get.ensures ∙ ap (option_map (λ h. h.now)) c.in-Some.is in
    let there = subst (λ (v : DriverView g.row.C.Denot g.row.C-Signature.Denot). IsSomeAnd (link_of g.C.Ord.cmp v.links c.args.peer.now)
    (λ held. is_to_ask (as_nanos v.pace.tick) (as_nanos c.args.now) held ≡ true)) (sym c.self.view_is) c.requires.due in
    let due = subst (λ o. IsSomeAnd o (λ held. is_to_ask (as_nanos d.pace.tick) (as_nanos c.args.now) held ≡ true)) linked there in
    subst (λ v. AsksOne g.C.Ord.cmp (wire_in g) c.args.now false v
    (seen d.node d.pace d.greeting (as_nanos d.cooldown) d.next_dial (as_nanos d.latest) d.next d.arrivals d.answers d.reads c.ask-then-is_err.new.self c.reserve.new.self.items))
    c.self.view_is (asks_one g.C.Ord.cmp (wire_in g) d.node d.pace d.greeting (as_nanos d.cooldown) d.next_dial (as_nanos d.latest) d.next d.arrivals d.answers d.reads d.links d.actions.items g.met.C.PublicKey.exact
    c.in-Some.held.now.number c.args.peer.now c.in-Some.held.now c.args.now c.in-Some.held.now.owed true None false
    c.ask-then-is_err.new.self c.reserve.new.self.items
    (ap (λ (v : DriverView g.row.C.Denot g.row.C-Signature.Denot). v.latest) c.self.view_is ∙ c.requires.time)
    linked refl due refl tt refl
    (subst (λ (a : Asked). (q : g.row.C.Denot) → link_of g.C.Ord.cmp c.ask-then-is_err.new.self q ≡ (if is_at (g.C.Ord.cmp c.args.peer.now) q
    then option_map (asking c.in-Some.held.now.owed a) (link_of g.C.Ord.cmp d.links q) else link_of g.C.Ord.cmp d.links q)) c.tried-then-is_err.ensures c.ask-then-is_err.ensures.links)
    c.ask-then-is_err.ensures.counts (said_none d.actions.items c.reserve.new.self.items (search rules))
    (c.ask-then-is_err.ensures.fewer (as_nanos d.pace.tick) (as_nanos c.args.now)
    (subst (λ (a : Asked). as_nanos c.args.now < as_nanos a.at + max (as_nanos d.pace.tick) 1) (sym c.tried-then-is_err.ensures) (later (as_nanos c.args.now) (as_nanos d.pace.tick)))
    there) (sym c.if-not-has_room.false ∙ c.has_room.ensures) tt)

pub invariant_of-self-2 : goal.invariant_of-self-2
invariant_of-self-2 g c = let d = c.self.inside in
    let linked : link_of g.C.Ord.cmp d.links c.args.peer.now ≡ Some c.in-Some.held.now = sym c.get.ensures ∙ ap (option_map (λ h. h.now)) c.in-Some.is in
    let there = subst (λ (v : DriverView g.row.C.Denot g.row.C-Signature.Denot). IsSomeAnd (link_of g.C.Ord.cmp v.links c.args.peer.now)
    (λ held. is_to_ask (as_nanos v.pace.tick) (as_nanos c.args.now) held ≡ true)) (sym c.self.view_is) c.requires.due in
    let due = subst (λ o. IsSomeAnd o (λ held. is_to_ask (as_nanos d.pace.tick) (as_nanos c.args.now) held ≡ true)) linked there in
    let asks = c.ask-2.ensures.asks in (
      goes_on _ _ _ c.self.invariant.0 (asks_one g.C.Ord.cmp (wire_in g) d.node d.pace d.greeting (as_nanos d.cooldown) d.next_dial (as_nanos d.latest) d.next d.arrivals d.answers d.reads d.links d.actions.items g.met.C.PublicKey.exact
          c.in-Some.held.now.number c.args.peer.now c.in-Some.held.now c.args.now (owed_with asks.0 d.pace.owed c.in-Some.held.now.owed) true asks.0 c.ask-2.result
          c.ask-2.new.links c.ask-2.new.actions.items
          (ap (λ (v : DriverView g.row.C.Denot g.row.C-Signature.Denot). v.latest) c.self.view_is ∙ c.requires.time)
          linked refl due refl asks.2 (asked_or (is_some asks.0) ∙ asks.1) asks.4
          c.ask-2.ensures.counts (asks.5 ∙ ap (λ xs. xs ++ asking_on c.in-Some.held.now.number asks.0) (search rules))
          (c.ask-2.ensures.fewer (as_nanos d.pace.tick) there) (sym c.if-not-has_room.false ∙ c.has_room.ensures) (always asks.0)).does,
      record {
        actions_fit = (let more = c.reserve.ensures.room in let used = c.ask-2.ensures.room in let needs = c.ask-2.ensures.needs in
            let fits = c.self.invariant.1.actions_fit in grind (arith));
        answers_fit = c.self.invariant.1.answers_fit;
      },
    )

pub returns : goal.returns
returns g c = let d = c.self.inside in
    let linked : link_of g.C.Ord.cmp d.links c.args.peer.now ≡ Some c.in-Some.held.now = sym c.get.ensures ∙ ap (option_map (λ h. h.now)) c.in-Some.is in
    let there = subst (λ (v : DriverView g.row.C.Denot g.row.C-Signature.Denot). IsSomeAnd (link_of g.C.Ord.cmp v.links c.args.peer.now)
    (λ held. is_to_ask (as_nanos v.pace.tick) (as_nanos c.args.now) held ≡ true)) (sym c.self.view_is) c.requires.due in
    let due = subst (λ o. IsSomeAnd o (λ held. is_to_ask (as_nanos d.pace.tick) (as_nanos c.args.now) held ≡ true)) linked there in
    let asks = c.ask-2.ensures.asks in
    subst (λ v. AsksOne g.C.Ord.cmp (wire_in g) c.args.now c.ask-2.result v
    (seen d.node d.pace d.greeting (as_nanos d.cooldown) d.next_dial (as_nanos d.latest) d.next d.arrivals d.answers d.reads c.ask-2.new.links c.ask-2.new.actions.items))
    c.self.view_is (asks_one g.C.Ord.cmp (wire_in g) d.node d.pace d.greeting (as_nanos d.cooldown) d.next_dial (as_nanos d.latest) d.next d.arrivals d.answers d.reads d.links d.actions.items g.met.C.PublicKey.exact
    c.in-Some.held.now.number c.args.peer.now c.in-Some.held.now c.args.now (owed_with asks.0 d.pace.owed c.in-Some.held.now.owed) true asks.0 c.ask-2.result
    c.ask-2.new.links c.ask-2.new.actions.items
    (ap (λ (v : DriverView g.row.C.Denot g.row.C-Signature.Denot). v.latest) c.self.view_is ∙ c.requires.time)
    linked refl due refl asks.2 (asked_or (is_some asks.0) ∙ asks.1) asks.4
    c.ask-2.ensures.counts (asks.5 ∙ ap (λ xs. xs ++ asking_on c.in-Some.held.now.number asks.0) (search rules))
    (c.ask-2.ensures.fewer (as_nanos d.pace.tick) there) (sym c.if-not-has_room.false ∙ c.has_room.ensures) (always asks.0))
