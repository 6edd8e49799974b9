-- How the time that passes makes a driver stand, by its parts.
use Rattle.std.proofs.Common.{◌≡◌, ℕ, ◌==◌, ◌+◌, ◌≤◌, ◌<◌, Bool, true, false, not, cond, ◌&&◌, List, [], ◌∷◌, ◌++◌, Option, Some, None, find, filter, refl, sym, ◌∙◌, ap, subst}
use Rattle.std.proofs.Common.{arith}
use Rattle.std.specs.Prelude.{is_some, length, ◌||◌, max, min, nat_le, option_map, unwrap_or, IfSome, if◌then◌else◌, Result, Ok}
use Rattle.std.specs.Result.{is_ok}
use Rattle.std.specs.List.{list_all}
use Rattle.std.specs.BTreeMap.{is_at}
use Rattle.std.specs.declared.alloc.AllocError.{AllocError}
use Rattle.std.proofs.lemmas.Map.Views.{tells_apart}
use Rattle.std.proofs.lemmas.Map.Lookups.{CmpEqualImpliesEq}
use Rattle.std.specs.Duration.{as_nanos}
use Rattle.std.specs.List.{count_by}
use Rattle.std.specs.Option.{IsSomeAnd}
use Rattle.std.specs.declared.cmp.Ordering.{Ordering}
use Rattle.std.specs.declared.time.Duration.{Duration}
use Rattle.std.proofs.lemmas.Bool.Decides.{nat_tests}
use Rattle.std.proofs.lemmas.List.{append_assoc}
use Rattle.std.proofs.lemmas.List.Sums.{sum_by-cons}
use Rattle.p2p_tracker.specs.Calls.Call.{UnblockExpired, ForgetCooled}
use Rattle.p2p_tracker.specs.Calls.{Call}
use Rattle.p2p_directory.specs.Run.{world_after}
use Rattle.p2p_directory.specs.Nodes.{NodeView, NodeStandsAt, made_of}
use Rattle.p2p_directory.specs.Received.{Wire}
use Rattle.p2p_driver.specs.Actions.{ActionsView}
use Rattle.p2p_driver.specs.Answers.{AnswersView, AreKept, roomless}
use Rattle.p2p_driver.specs.Arrivals.{has_number, is_unclaimed, deadline_of, lesser_of}
use Rattle.p2p_driver.specs.Drivers.{DriverView, DriverStandsAt, IsRight, IsAsked, HasRoom, Does, Rise, seen, base_of}
use Rattle.p2p_driver.specs.Happenings.{Happening, calls_of, answered_in, closing, closed_at, shut, asking_on, said_with, why_late}
use Rattle.p2p_driver.specs.Links.{link_of, count_of, needs, need_of, need_at, is_late, is_timed, due, hear_by, write_by, has_room, asking, saying, is_to_ask, to_ask}
use Rattle.p2p_driver.specs.Meters.{MetersView}
use Rattle.p2p_driver.specs.Questions.{owed_with, asked_after, IsQuestion, IsNextQuestion}
use Rattle.p2p_driver.specs.Steps.{Makes}
use Rattle.p2p_driver.specs.Timers.{ClosesOne, ClosesLate, AsksOne, AsksAll, was_asked, TimesOut, DialsOne, DialsAll, FreesSome, is_dial, was_dialed}
use Rattle.p2p_driver.specs.Timers.{NoneLate, NoneToAsk, NoneCooled, NoneToDial, dial_at}
use Rattle.p2p_driver.specs.Steps.{is_before, is_outbound_free}
use Rattle.p2p_driver.specs.declared.driver.dialing.Dialed.{Dialed}
use Rattle.p2p_driver.specs.declared.driver.dialing.Dialed.TheVariants as dialed
use Rattle.p2p_driver.specs.declared.links.Direction.TheVariants.{Dialing}
use Rattle.std.specs.Prelude.{slice_get, nat_lt}
use Rattle.std.proofs.Common.{inl, inr, ◌⊎◌}
use Rattle.p2p_driver.specs.declared.actions.Action.{Action}
use Rattle.p2p_driver.specs.declared.actions.Why.TheVariants as why
use Rattle.p2p_driver.specs.declared.arrivals.Arrival.{Arrival}
use Rattle.p2p_driver.specs.declared.links.Direction.{Direction}
use Rattle.p2p_driver.specs.declared.links.Held.{Held}
use Rattle.p2p_driver.specs.declared.links.Phase.{Phase}
use Rattle.p2p_driver.specs.declared.links.Phase.TheVariants as phase
use Rattle.p2p_driver.specs.declared.links.Asked.{Asked}
use Rattle.p2p_driver.specs.declared.pace.Pace.{Pace}
use Rattle.p2p_driver.specs.declared.next_dial.NextDial.{NextDial}
use Rattle.p2p_driver.specs.declared.questions.Question.{Question}
use Rattle.p2p_driver.proofs.Budget.{none_below}
use Rattle.p2p_driver.proofs.Driving.{viewed, slotted, unslotted}
use Rattle.p2p_driver.proofs.Fewer.{leaves_fewer}
use Rattle.p2p_driver.proofs.Quiet.{quiet_passed}
use Rattle.p2p_driver.proofs.Standing

-- a time that is no later than another
up_to : (a b : ℕ) → nat_le a b ≡ true → a ≤ b
up_to a b is = grind (arith, nat_tests)

past : (a b : ℕ) → nat_le a b ≡ false → b < a
past a b isnt = grind (arith, nat_tests)

below : (m n : ℕ) → (m == n) ≡ true → n ≤ m
below m n is = grind (arith, nat_tests)

same_number : (m n : ℕ) → m ≡ n → (m == n) ≡ true
same_number m n is = grind (arith, nat_tests)

-- what there is
pub there : {A : Type 0} (P : A → Type 0) (o : Option A) → IsSomeAnd o P → is_some o ≡ true
there P None some = absurd some
there P (Some a) some = refl

-- what isn't found is none of those that are
unfound : {A : Type 0} (p q : A → Bool) (xs : List A) (a : A) → find p xs ≡ None → find q xs ≡ Some a → p a ≡ false
unfound p q [] a none is = absurd cc
unfound p q (x ∷ xs) a none is = go (p x) refl (q x) none is (unfound p q xs a)
  where
    go : (b : Bool) → p x ≡ b → (d : Bool) → cond b (Some x) (find p xs) ≡ None → cond d (Some x) (find q xs) ≡ Some a →
        (find p xs ≡ None → find q xs ≡ Some a → p a ≡ false) → p a ≡ false
    go true at d none is rest = absurd cc
    go false at true none is rest = subst (λ y. p y ≡ false) (ap (λ o. unwrap_or o x) is) at
    go false at false none is rest = rest none is

unmapped : {A B : Type 0} (f : A → B) (o : Option A) → option_map f o ≡ None → o ≡ None
unmapped f None is = refl
unmapped f (Some a) is = absurd cc

module _ {C : Type 0} where
  -- a stream that is found late is the one with its number
  pub late_found : (p : Arrival C → Bool) (n m k : ℕ) (xs : List (Arrival C)) → Rise m xs k →
      option_map (λ a. a.number) (find p xs) ≡ Some n → IsSomeAnd (find (has_number n) xs) (λ a. p a ≡ true)
  late_found p n m k [] rise is = absurd cc
  late_found p n m k (a ∷ xs) rise is = go (p a) refl is (late_found p n a.number k xs rise.1)
    where
      other : (d : Bool) → (a.number == n) ≡ d → IsSomeAnd (find (has_number n) xs) (λ a. p a ≡ true) →
          IsSomeAnd (cond d (Some a) (find (has_number n) xs)) (λ a. p a ≡ true)
      other true same rest = absurd (subst (λ o. IsSomeAnd o (λ a. p a ≡ true))
          (none_below a.number k xs rise.1 n (below a.number n same)) rest)
      other false isnt rest = rest

      go : (b : Bool) → p a ≡ b → option_map (λ a. a.number) (cond b (Some a) (find p xs)) ≡ Some n →
          (option_map (λ a. a.number) (find p xs) ≡ Some n → IsSomeAnd (find (has_number n) xs) (λ a. p a ≡ true)) →
          IsSomeAnd (cond (a.number == n) (Some a) (find (has_number n) xs)) (λ a. p a ≡ true)
      go true at is rest = subst (λ d. IsSomeAnd (cond d (Some a) (find (has_number n) xs)) (λ a. p a ≡ true))
          (sym (same_number a.number n (ap (λ o. unwrap_or o n) is))) at
      go false at is rest = other (a.number == n) refl (rest is)

  -- none of them is late
  pub none_late : (first handshake t : ℕ) (arrivals : List (Arrival C)) →
      option_map (λ a. a.number) (find (λ a. nat_le (deadline_of first handshake a) t) arrivals) ≡ None →
      (n : ℕ) (a : Arrival C) → find (has_number n) arrivals ≡ Some a → t < deadline_of first handshake a
  none_late first handshake t arrivals none n a is = past (deadline_of first handshake a) t
      (unfound (λ a. nat_le (deadline_of first handshake a) t) (has_number n) arrivals a
      (unmapped (λ a. a.number) (find (λ a. nat_le (deadline_of first handshake a) t) arrivals) none) is)

  -- the room for what may have to be said, once a stream is closed
  pub room_left : (arrivals arrivals2 : List (Arrival C)) (answers answers2 : AnswersView) (links : List (C × Held)) (actions actions2 : ActionsView C) →
      HasRoom arrivals answers links actions → length arrivals2 + actions.room ≤ actions2.room + length arrivals →
      count_by is_unclaimed arrivals2 ≤ answers2.room → HasRoom arrivals2 answers2 links actions2
  room_left arrivals arrivals2 answers answers2 links actions actions2 has fits fits2 = record {
    actions_fit = let fit = has.actions_fit in grind (arith);
    answers_fit = fits2;
  }

-- a frame that is said makes no link late at once
late_saying : (pace : Pace) (t : Duration) (question : Option Question) (x : Held) → is_late pace (as_nanos t) x ≡ false →
    is_late pace (as_nanos t) (saying (said_with t question) x) ≡ false
late_saying pace t None x isnt = isnt
late_saying pace t (Some q) x isnt = go (is_timed x.phase) x.unwritten (hear_by pace x) isnt
  where
    go : (timed : Bool) (us : List Duration) (by : ℕ) → (timed && nat_le (lesser_of (write_by (as_nanos pace.silence) us) by) (as_nanos t)) ≡ false →
        (timed && nat_le (lesser_of (write_by (as_nanos pace.silence) (us ++ t ∷ [])) by) (as_nanos t)) ≡ false
    go false us by isnt = refl
    go true [] by isnt = not_yet by isnt
      where
        not_yet : (by : ℕ) → nat_le by (as_nanos t) ≡ false → nat_le (min (as_nanos t + max (as_nanos pace.silence) 1) by) (as_nanos t) ≡ false
        not_yet by isnt = grind (arith, nat_tests)
    go true (u ∷ us) by isnt = isnt

-- a link that is late isn't closed: something may have to be said of it
late_needs : (pace : Pace) (t : ℕ) (held : Held) → is_late pace t held ≡ true → 1 ≤ need_of held.phase
late_needs pace t held late = go held.phase (nat_le (due pace held) t) late
  where
    go : (ph : Phase) (b : Bool) → (is_timed ph && b) ≡ true → 1 ≤ need_of ph
    go phase.Greeting b late = omega arith
    go phase.Open b late = omega arith
    go phase.Closing b late = absurd cc

module _ {C S : Type 0} (cmp : C → C → Ordering) (wire : Wire C S) (node : NodeView C S) (pace : Pace)
    (greeting : List ℕ) (cooldown : ℕ) (dial : NextDial C) (latest next : ℕ) (arrivals : List (Arrival C)) (answers : AnswersView) (reads : List (ℕ × MetersView))
    (links : List (C × Held)) (actions : List (Action C)) where
  abbrev v : DriverView C S
  v = seen node pace greeting cooldown dial latest next arrivals answers reads links actions

  -- time passed
  pub passes : (t : Duration) (node2 : NodeView C S) → latest ≤ as_nanos t →
      Makes cmp (UnblockExpired (as_nanos t) ∷ ForgetCooled (as_nanos t) ∷ []) node node2 →
      Does cmp wire (Happening.Passed t) v (seen node2 pace greeting cooldown dial (as_nanos t) next arrivals answers reads links actions)
  passes t node2 after made = record {
    goes = λ given pace2 h at.
        let d = (made_of cmp given).directory in
        Standing.passed (base_of cmp wire given pace2) h v at t (record node2 { slots = [] }) after
        (unslotted (made given (calls_of h) (slotted at.node)))
        (quiet_passed d given.cfg.max_sets.ok (calls_of h) (as_nanos t) (option_map as_nanos dial.from)
        (Standing.quiet_later (base_of cmp wire given pace2) h v at (as_nanos t) after));
  }

  -- a stream that is late is closed
  stream_closes : (n : ℕ) (t : Duration) (arrivals2 : List (Arrival C)) (answers2 : AnswersView) (actions2 : List (Action C)) →
      latest ≡ as_nanos t →
      IsSomeAnd (find (has_number n) arrivals) (λ a. nat_le (deadline_of (as_nanos pace.first) (as_nanos pace.handshake) a) (as_nanos t) ≡ true) →
      arrivals2 ≡ filter (λ a. not (has_number n a)) arrivals → roomless answers2 ≡ roomless answers →
      actions2 ≡ actions ++ closing n why.Slow →
      Does cmp wire (Happening.StreamLate n t) v (seen node pace greeting cooldown dial latest next arrivals2 answers2 reads links actions2)
  stream_closes n t arrivals2 answers2 actions2 now late gone same said = record {
    goes = λ given pace2 h at.
        let b = base_of cmp wire given pace2 in
        let e : Happening C S = Happening.StreamLate n t in
        subst (DriverStandsAt b (e ∷ h))
        (viewed (record v {
          latest = as_nanos t;
          arrivals = filter (λ a. not (has_number n a)) arrivals;
          answers = roomless answers;
          actions = actions ++ closing n why.Slow;
        }) node pace greeting cooldown dial latest next arrivals2 answers2 reads links actions2 refl refl refl refl refl (sym now) refl (sym gone) (sym same) refl refl (sym said))
        (Standing.goes b h v at n t e (closing n why.Slow) (roomless answers) refl (λ j. refl) (λ j. refl) (λ j. refl) refl refl
        (λ p. refl) (λ p. refl) (λ p. refl) (λ way. refl) refl refl refl refl (λ q. refl) (λ q. refl) refl refl refl refl (λ j. refl) (λ j. refl) (λ j place. refl)
        (right b h at) (let is = now in grind (arith))
        (subst (λ k. AreKept b.pace k (answered_in h) (roomless answers)) (sym at.latest ∙ now) at.answers));
  }
    where
      right : (b : _) (h : List (Happening C S)) → DriverStandsAt b h v → IsRight b h (Happening.StreamLate n t)
      right b h at = subst (λ o. IsSomeAnd o (λ a. deadline_of (as_nanos b.pace.first) (as_nanos b.pace.handshake) a ≤ as_nanos t))
          (at.arrivals.each n)
          (subst (λ pace. IsSomeAnd (find (has_number n) arrivals) (λ a. deadline_of (as_nanos pace.first) (as_nanos pace.handshake) a ≤ as_nanos t)) at.pace
          (in_time (find (has_number n) arrivals) late))
        where
          in_time : (o : Option (Arrival C)) →
              IsSomeAnd o (λ a. nat_le (deadline_of (as_nanos pace.first) (as_nanos pace.handshake) a) (as_nanos t) ≡ true) →
              IsSomeAnd o (λ a. deadline_of (as_nanos pace.first) (as_nanos pace.handshake) a ≤ as_nanos t)
          in_time None late = absurd late
          in_time (Some a) late = up_to (deadline_of (as_nanos pace.first) (as_nanos pace.handshake) a) (as_nanos t) late

  pub late_stream : (n : ℕ) (t : Duration) (arrivals2 : List (Arrival C)) (answers2 : AnswersView) (actions2 : List (Action C)) →
      latest ≡ as_nanos t →
      IsSomeAnd (find (has_number n) arrivals) (λ a. nat_le (deadline_of (as_nanos pace.first) (as_nanos pace.handshake) a) (as_nanos t) ≡ true) →
      arrivals2 ≡ filter (λ a. not (has_number n a)) arrivals → roomless answers2 ≡ roomless answers →
      actions2 ≡ actions ++ closing n why.Slow →
      ClosesOne cmp wire t v (seen node pace greeting cooldown dial latest next arrivals2 answers2 reads links actions2)
  late_stream n t arrivals2 answers2 actions2 now late gone same said = record {
    happening = Happening.StreamLate n t;
    is_late = refl;
    does = stream_closes n t arrivals2 answers2 actions2 now late gone same said;
    latest = refl;
    fewer = let less = leaves_fewer n arrivals arrivals2 gone (there _ (find (has_number n) arrivals) late) in grind (arith);
  }

  -- a link that is late is closed
  link_closes : (n : ℕ) (p : C) (held : Held) (t : Duration) (links2 : List (C × Held)) (actions2 : List (Action C)) →
      latest ≡ as_nanos t → link_of cmp links p ≡ Some held → n ≡ held.number →
      is_late pace (as_nanos t) held ≡ true →
      ((q : C) → link_of cmp links2 q ≡ closed_at cmp p (link_of cmp links) q) → ((way : Direction) → count_of way links2 ≡ count_of way links) →
      actions2 ≡ actions ++ shut p (why_late (link_of cmp links p)) (link_of cmp links p) →
      Does cmp wire (Happening.LinkLate n p t) v (seen node pace greeting cooldown dial latest next arrivals answers reads links2 actions2)
  link_closes n p held t links2 actions2 now linked is late tied same said = record {
    goes = λ given pace2 h at.
        let b = base_of cmp wire given pace2 in
        subst (DriverStandsAt b (Happening.LinkLate n p t ∷ h))
        (viewed (record v {
          latest = as_nanos t;
          links = links2;
          actions = actions ++ shut p (why_late (link_of cmp links p)) (link_of cmp links p);
        }) node pace greeting cooldown dial latest next arrivals answers reads links2 actions2 refl refl refl refl refl (sym now) refl refl refl refl refl (sym said))
        (Standing.lapses b h v at n p t links2
        (subst (λ o. IsSomeAnd o (λ held. (held.number ≡ n)
        × (is_late b.pace (as_nanos t) held ≡ true))) (sym linked ∙ at.links p)
        (sym is, subst (λ (pace : Pace). is_late pace (as_nanos t) held ≡ true) at.pace late))
        (let is = now in grind (arith)) tied same);
  }

  pub late_link : (p : C) (t : Duration) (links2 : List (C × Held)) (actions2 : List (Action C)) →
      latest ≡ as_nanos t →
      IsSomeAnd (link_of cmp links p) (λ held. is_late pace (as_nanos t) held ≡ true) →
      ((q : C) → link_of cmp links2 q ≡ closed_at cmp p (link_of cmp links) q) → ((way : Direction) → count_of way links2 ≡ count_of way links) →
      actions2 ≡ actions ++ shut p (why_late (link_of cmp links p)) (link_of cmp links p) → needs links2 + need_at (link_of cmp links p) ≡ needs links →
      ClosesOne cmp wire t v (seen node pace greeting cooldown dial latest next arrivals answers reads links2 actions2)
  late_link p t links2 actions2 now late tied same said less = go (link_of cmp links p) refl late
    where
      needed : (held : Held) → link_of cmp links p ≡ Some held → needs links2 + need_of held.phase ≡ needs links
      needed held linked = sym (ap (λ o. needs links2 + need_at o) linked) ∙ less

      go : (o : Option Held) → link_of cmp links p ≡ o →
          IsSomeAnd o (λ held. is_late pace (as_nanos t) held ≡ true) →
          ClosesOne cmp wire t v (seen node pace greeting cooldown dial latest next arrivals answers reads links2 actions2)
      go None linked late = absurd late
      go (Some held) linked late = record {
        happening = Happening.LinkLate held.number p t;
        is_late = refl;
        does = link_closes held.number p held t links2 actions2 now linked refl late tied same said;
        latest = refl;
        fewer = let one = needed held linked in
            let some = late_needs pace (as_nanos t) held late in grind (arith);
      }

  -- a question was due
  asks : (exact : CmpEqualImpliesEq cmp) (n : ℕ) (p : C) (held : Held) (t : Duration) (owed : ℕ) (fits : Bool) (question : Option Question)
      (links2 : List (C × Held)) (actions2 : List (Action C)) →
      latest ≡ as_nanos t → link_of cmp links p ≡ Some held → held.number ≡ n →
      is_to_ask (as_nanos pace.tick) (as_nanos t) held ≡ true → owed ≡ owed_with question pace.owed held.owed →
      IfSome question (λ q. IsNextQuestion cmp wire pace.refresh held.asked q node) →
      ((q : C) → link_of cmp links2 q ≡ (if is_at (cmp p) q then option_map (λ x. saying (said_with t question) (asking owed (asked_after t question held.asked) x)) (link_of cmp links q) else link_of cmp links q)) →
      ((way : Direction) → count_of way links2 ≡ count_of way links) → actions2 ≡ actions ++ asking_on n question → fits ≡ has_room pace.queue held → IfSome question (λ q. fits ≡ true) →
      Does cmp wire (Happening.Asked n p t owed fits question) v (seen node pace greeting cooldown dial latest next arrivals answers reads links2 actions2)
  asks exact n p held t owed fits question links2 actions2 now linked number due owes next_is tied same said room_is room = record {
    goes = λ given pace2 h at.
        let b = base_of cmp wire given pace2 in
        subst (DriverStandsAt b (Happening.Asked n p t owed fits question ∷ h))
        (viewed (record v {
          latest = as_nanos t;
          links = links2;
          actions = actions ++ asking_on n question;
        }) node pace greeting cooldown dial latest next arrivals answers reads links2 actions2 refl refl refl refl refl (sym now) refl refl refl refl refl (sym said))
        (Standing.asks b h v at n p t owed fits question links2
        (subst (λ o. IsSomeAnd o (IsAsked b h n p t owed fits question)) (sym linked ∙ at.links p) (record {
          number = number;
          due = subst (λ (q : Pace). is_to_ask (as_nanos q.tick) (as_nanos t) held ≡ true) at.pace due;
          owes = subst (λ (q : Pace). owed ≡ owed_with question q.owed held.owed) at.pace owes;
          asks = subst (λ (q : Pace). IfSome question (IsQuestion wire b.made (world_after b.made.directory (calls_of h)) q.refresh held.asked)) at.pace
              (here given (calls_of h) (slotted at.node) question next_is);
          room_is = subst (λ (q : Pace). fits ≡ has_room q.queue held) at.pace room_is;
          room = room;
        }))
        (let is = now in grind (arith)) tied_at same);
  }
    where
      here : (given : _) (calls : List (Call C S)) → NodeStandsAt (made_of cmp given) calls node → (x : Option Question) →
          IfSome x (λ q. IsNextQuestion cmp wire pace.refresh held.asked q node) →
          IfSome x (IsQuestion wire (made_of cmp given) (world_after (made_of cmp given).directory calls) pace.refresh held.asked)
      here given calls at None is = tt
      here given calls at (Some q) is = is given calls at

      tied_at : (q : C) → link_of cmp links2 q
          ≡ (if is_at (cmp p) q then option_map (λ x. saying (said_with t question) (asking owed (asked_after t question x.asked) x)) (link_of cmp links q) else link_of cmp links q)
      tied_at q = tied q ∙ go (is_at (cmp p) q) refl
        where
          go : (b : Bool) → is_at (cmp p) q ≡ b →
              (if b then option_map (λ x. saying (said_with t question) (asking owed (asked_after t question held.asked) x)) (link_of cmp links q) else link_of cmp links q)
              ≡ (if b then option_map (λ x. saying (said_with t question) (asking owed (asked_after t question x.asked) x)) (link_of cmp links q) else link_of cmp links q)
          go false is = refl
          go true is = let at : link_of cmp links q ≡ Some held = sym (ap (link_of cmp links) (tells_apart exact p q is)) ∙ linked in
              ap (option_map (λ x. saying (said_with t question) (asking owed (asked_after t question held.asked) x))) at
              ∙ sym (ap (option_map (λ x. saying (said_with t question) (asking owed (asked_after t question x.asked) x))) at)

  -- no link is late that wasn't
  still_in_time : (t : Duration) (p_owed : ℕ) (p : C) (a : Asked) (question : Option Question) (links2 : List (C × Held)) →
      ((q : C) → link_of cmp links2 q ≡ (if is_at (cmp p) q then option_map (λ x. saying (said_with t question) (asking p_owed a x)) (link_of cmp links q) else link_of cmp links q)) →
      ((q : C) (h : Held) → link_of cmp links q ≡ Some h → is_late pace (as_nanos t) h ≡ false) →
      (q : C) (h : Held) → link_of cmp links2 q ≡ Some h → is_late pace (as_nanos t) h ≡ false
  still_in_time t p_owed p a question links2 tied none q h is = go (is_at (cmp p) q) (link_of cmp links q) refl (sym (tied q) ∙ is)
    where
      late : Held → Bool
      late h = is_late pace (as_nanos t) h

      asked : Held → Held
      asked x = saying (said_with t question) (asking p_owed a x)

      go : (b : Bool) (o : Option Held) → link_of cmp links q ≡ o → (if b then option_map asked o else o) ≡ Some h → late h ≡ false
      go true None at is = absurd cc
      go true (Some x) at is = subst (λ y. late y ≡ false) (only x is)
          (late_saying pace t question (asking p_owed a x) (none q x at))
        where
          only : (x : Held) → Some (asked x) ≡ Some h → asked x ≡ h
          only x is = cc
      go false o at is = none q h (at ∙ is)

  -- one that is to be asked is
  pub asks_one : (exact : CmpEqualImpliesEq cmp) (n : ℕ) (p : C) (held : Held) (t : Duration) (owed : ℕ) (fits : Bool) (question : Option Question) (whether : Bool)
      (links2 : List (C × Held)) (actions2 : List (Action C)) →
      latest ≡ as_nanos t → link_of cmp links p ≡ Some held → held.number ≡ n →
      is_to_ask (as_nanos pace.tick) (as_nanos t) held ≡ true → owed ≡ owed_with question pace.owed held.owed →
      IfSome question (λ q. IsNextQuestion cmp wire pace.refresh held.asked q node) → (is_some question || not fits) ≡ whether →
      ((q : C) → link_of cmp links2 q ≡ (if is_at (cmp p) q then option_map (λ x. saying (said_with t question) (asking owed (asked_after t question held.asked) x)) (link_of cmp links q) else link_of cmp links q)) →
      ((way : Direction) → count_of way links2 ≡ count_of way links) → actions2 ≡ actions ++ asking_on n question →
      to_ask (as_nanos pace.tick) (as_nanos t) links2 + 1 ≡ to_ask (as_nanos pace.tick) (as_nanos t) links →
      fits ≡ has_room pace.queue held → IfSome question (λ q. fits ≡ true) →
      AsksOne cmp wire t whether v (seen node pace greeting cooldown dial latest next arrivals answers reads links2 actions2)
  asks_one exact n p held t owed fits question whether links2 actions2 now linked number due owes next_is asked_is tied same said fewer room_is room = record {
    number = n;
    peer = p;
    owed = owed;
    fits = fits;
    question = question;
    asked_is = asked_is;
    does = asks exact n p held t owed fits question links2 actions2 now linked number due owes next_is tied same said room_is room;
    latest = refl;
    pace = refl;
    late = λ none. record {
      streams = none.streams;
      links = still_in_time t owed p (asked_after t question held.asked) question links2 tied none.links;
    };
    fewer = fewer;
  }

-- memory was refused for a dial
abbrev pub is_memory : Dialed → Bool
is_memory dialed.Memory = true
is_memory _ = false

module _ {C S : Type 0} (cmp : C → C → Ordering) (wire : Wire C S) (t : Duration) where
  -- none was closed
  pub closes_none : (v : DriverView C S) → ClosesLate cmp wire t v v
  closes_none v = record { happenings = []; are_late = tt; does = λ given pace h at. at; latest = refl }

  -- one more was closed
  pub closes_more : (v v2 v3 : DriverView C S) → ClosesLate cmp wire t v v2 → ClosesOne cmp wire t v2 v3 → ClosesLate cmp wire t v v3
  closes_more v v2 v3 before one = record {
    happenings = one.happening ∷ before.happenings;
    are_late = (one.is_late, before.are_late);
    does = λ given pace h at. one.does.goes given pace (before.happenings ++ h) (before.does given pace h at);
    latest = one.latest ∙ before.latest;
  }

  -- nobody was asked
  pub asks_none : (v : DriverView C S) → AsksAll cmp wire t (Ok tt) v v
  asks_none v = record { happenings = []; are_asked = tt; all = refl; does = λ given pace h at. at; latest = refl }

  -- one more was asked, if memory was there
  pub asks_more : (v v2 v3 : DriverView C S) (before after : Result (Unit {0}) AllocError) (asked : Bool) → AsksAll cmp wire t before v v2 →
      AsksOne cmp wire t asked v2 v3 → (asked && is_ok before) ≡ is_ok after → AsksAll cmp wire t after v v3
  asks_more v v2 v3 before after asked all one is = record {
    happenings = Happening.Asked one.number one.peer t one.owed one.fits one.question ∷ all.happenings;
    are_asked = (refl, all.are_asked);
    all = ap (λ b. b && list_all was_asked all.happenings) one.asked_is ∙ ap (λ b. asked && b) all.all ∙ is;
    does = λ given pace h at. one.does.goes given pace (all.happenings ++ h) (all.does given pace h at);
    latest = one.latest ∙ all.latest;
  }

  -- nobody was dialled
  pub dials_none : (words : List ℕ) (v : DriverView C S) → DialsAll cmp wire t words (Ok tt) v v
  dials_none words v = record { happenings = []; are_dialed = tt; all = refl; does = λ given pace h at. at; latest = refl }

  not_both : {b : Bool} → b ≡ true → b ≡ false → ⊥
  not_both is isnt = cc

  -- as many dials began as there were words so far, or nobody is to be dialled
  abbrev pub IsTurn : ℕ → List (Happening C S) → DriverView C S → Type 0
  IsTurn i es v = NoneToDial (as_nanos t) v ⊎ (count_by is_dial es ≡ i)

  -- it was looked once more, by the next word
  pub dials_more : (words : List ℕ) (v v2 v3 : DriverView C S) (before after : Result (Unit {0}) AllocError) (i word : ℕ) (d : Dialed) →
      slice_get words i ≡ Some word → (all : DialsAll cmp wire t words before v v2) → IsTurn i all.happenings v2 → DialsOne cmp wire t word d v2 v3 →
      (not (is_memory d) && is_ok before) ≡ is_ok after →
      (new : DialsAll cmp wire t words after v v3) × IsTurn (i + 1) new.happenings v3
  dials_more words v v2 v3 before after i word dialed.Begun at all turn one is = let begins = one.1.1 in (
    record {
      happenings = Happening.Dialed begins.number one.1.0 t begins.draw word begins.ingress ∷ all.happenings;
      are_dialed = ((refl, ap (slice_get words) (began turn) ∙ at), all.are_dialed);
      all = all.all ∙ is;
      does = λ given pace h at. begins.does.goes given pace (all.happenings ++ h) (all.does given pace h at);
      latest = begins.latest ∙ all.latest;
    },
    inr (sum_by-cons (λ e. cond (is_dial e) 1 0) (Happening.Dialed begins.number one.1.0 t begins.draw word begins.ingress) all.happenings ∙ next (count_by is_dial all.happenings) (began turn)),
  )
    where
      next : (n : ℕ) → n ≡ i → 1 + n ≡ i + 1
      next n is = grind (arith)

      began : IsTurn i all.happenings v2 → count_by is_dial all.happenings ≡ i
      began (inl none) = absurd (not_both one.0 none)
      began (inr same) = same
  dials_more words v v2 v3 before after i word dialed.Memory at all turn one is = (
    record {
      happenings = Happening.Undialed t ∷ all.happenings;
      are_dialed = (refl, all.are_dialed);
      all = is;
      does = λ given pace h at. one.1.goes given pace (all.happenings ++ h) (all.does given pace h at);
      latest = ap (λ (x : DriverView C S). x.latest) one.2.1 ∙ all.latest;
    },
    inl one.3,
  )
  dials_more words v v2 v3 before after i word dialed.Nobody at all turn one is = (
    record {
      happenings = all.happenings;
      are_dialed = all.are_dialed;
      all = all.all ∙ is;
      does = λ given pace h at. one.0 given pace (all.happenings ++ h) (all.does given pace h at);
      latest = ap (λ (x : DriverView C S). x.latest) one.1.1 ∙ all.latest;
    },
    inl one.2,
  )

  -- .. nothing else is late that wasn't, and nobody is to be asked that wasn't
  dials_pace : (word : ℕ) (d : Dialed) (v v2 : DriverView C S) → DialsOne cmp wire t word d v v2 → v2.pace ≡ v.pace
  dials_pace word dialed.Begun v v2 one = one.1.1.pace
  dials_pace word dialed.Memory v v2 one = ap (λ (x : DriverView C S). x.pace) one.2.1
  dials_pace word dialed.Nobody v v2 one = ap (λ (x : DriverView C S). x.pace) one.1.1

  dials_late : (word : ℕ) (d : Dialed) (v v2 : DriverView C S) → DialsOne cmp wire t word d v v2 → NoneLate cmp (as_nanos t) v → NoneLate cmp (as_nanos t) v2
  dials_late word dialed.Begun v v2 one none = one.1.1.late none
  dials_late word dialed.Memory v v2 one none = subst (NoneLate cmp (as_nanos t)) (sym one.2.1) (record { streams = none.streams; links = none.links })
  dials_late word dialed.Nobody v v2 one none = subst (NoneLate cmp (as_nanos t)) (sym one.1.1) (record { streams = none.streams; links = none.links })

  dials_asked : (word : ℕ) (d : Dialed) (v v2 : DriverView C S) → DialsOne cmp wire t word d v v2 → NoneToAsk cmp (as_nanos t) v → NoneToAsk cmp (as_nanos t) v2
  dials_asked word dialed.Begun v v2 one none = one.1.1.to_ask none
  dials_asked word dialed.Memory v v2 one none = subst (NoneToAsk cmp (as_nanos t)) (sym one.2.1) none
  dials_asked word dialed.Nobody v v2 one none = subst (NoneToAsk cmp (as_nanos t)) (sym one.1.1) none

  dials_kept : (word : ℕ) (d : Dialed) (v v2 : DriverView C S) → DialsOne cmp wire t word d v v2 → NoneCooled cmp (as_nanos t) v → NoneCooled cmp (as_nanos t) v2
  dials_kept word dialed.Begun v v2 one none = one.1.1.kept none
  dials_kept word dialed.Memory v v2 one none = subst (NoneCooled cmp (as_nanos t)) (sym one.2.1) none
  dials_kept word dialed.Nobody v v2 one none = subst (NoneCooled cmp (as_nanos t)) (sym one.1.1) none

  -- nobody was dialled if nobody was to be
  dials_same : (word : ℕ) (d : Dialed) (v v2 v3 : DriverView C S) → DialsOne cmp wire t word d v2 v3 → (NoneToDial (as_nanos t) v → v2 ≡ v) → NoneToDial (as_nanos t) v → v3 ≡ v
  dials_same word dialed.Begun v v2 v3 one same none = absurd (not_both one.0 (subst (NoneToDial (as_nanos t)) (sym (same none)) none))
  dials_same word dialed.Memory v v2 v3 one same none = absurd (not_both one.0 (subst (NoneToDial (as_nanos t)) (sym (same none)) none))
  dials_same word dialed.Nobody v v2 v3 one same none = one.3 (subst (NoneToDial (as_nanos t)) (sym (same none)) none) ∙ same none

  -- as many dials are under way as there were words, or nobody is to be dialled
  dials_count : (word i : ℕ) (d : Dialed) (v v2 : DriverView C S) → DialsOne cmp wire t word d v v2 →
      NoneToDial (as_nanos t) v ⊎ (i ≤ count_of Dialing v.links) → NoneToDial (as_nanos t) v2 ⊎ (i + 1 ≤ count_of Dialing v2.links)
  dials_count word i dialed.Begun v v2 one (inl none) = absurd (not_both one.0 none)
  dials_count word i dialed.Begun v v2 one (inr many) = inr (let more = one.1.1.more in grind (arith))
  dials_count word i dialed.Memory v v2 one many = inl one.3
  dials_count word i dialed.Nobody v v2 one many = inl one.2

  -- what is so of the first words
  pub record DialsSo (words : List ℕ) (i : ℕ) (result : Result (Unit {0}) AllocError) (v v2 : DriverView C S) : Type 0 where
    pub now : v2.latest ≡ as_nanos t
    pub pace : v2.pace ≡ v.pace
    pub did : DialsAll cmp wire t words result v v2
    pub turn : IsTurn i did.happenings v2
    pub late : NoneLate cmp (as_nanos t) v → NoneLate cmp (as_nanos t) v2
    pub to_ask : NoneToAsk cmp (as_nanos t) v → NoneToAsk cmp (as_nanos t) v2
    pub kept : NoneCooled cmp (as_nanos t) v → NoneCooled cmp (as_nanos t) v2
    pub same : NoneToDial (as_nanos t) v → v2 ≡ v
    pub many : NoneToDial (as_nanos t) v2 ⊎ (i ≤ count_of Dialing v2.links)

  pub dials_first : (words : List ℕ) (v : DriverView C S) → v.latest ≡ as_nanos t → DialsSo words 0 (Ok tt) v v
  unfolding dials_none
  dials_first words v now = record {
    now = now;
    pace = refl;
    did = dials_none words v;
    turn = inr refl;
    late = λ none. none;
    to_ask = λ none. none;
    kept = λ none. none;
    same = λ none. refl;
    many = inr (let k = count_of Dialing v.links in grind (arith));
  }

  pub dials_next : (words : List ℕ) (v v2 v3 : DriverView C S) (before after : Result (Unit {0}) AllocError) (i word : ℕ) (d : Dialed) →
      slice_get words i ≡ Some word → DialsSo words i before v v2 → DialsOne cmp wire t word d v2 v3 → (not (is_memory d) && is_ok before) ≡ is_ok after →
      DialsSo words (i + 1) after v v3
  dials_next words v v2 v3 before after i word d at so one is = let more = dials_more words v v2 v3 before after i word d at so.did so.turn one is in record {
    now = dials_latest d one ∙ so.now;
    pace = dials_pace word d v2 v3 one ∙ so.pace;
    did = more.0;
    turn = more.1;
    late = λ none. dials_late word d v2 v3 one (so.late none);
    to_ask = λ none. dials_asked word d v2 v3 one (so.to_ask none);
    kept = λ none. dials_kept word d v2 v3 one (so.kept none);
    same = λ none. dials_same word d v v2 v3 one so.same none;
    many = dials_count word i d v2 v3 one so.many;
  }
    where
      dials_latest : (d : Dialed) → DialsOne cmp wire t word d v2 v3 → v3.latest ≡ v2.latest
      dials_latest dialed.Begun one = one.1.1.latest
      dials_latest dialed.Memory one = ap (λ (x : DriverView C S). x.latest) one.2.1
      dials_latest dialed.Nobody one = ap (λ (x : DriverView C S). x.latest) one.1.1

  -- with a word for each dial that may be under way, nobody is to be dialled
  pub dials_done : (words : List ℕ) (result : Result (Unit {0}) AllocError) (v v2 : DriverView C S) → DialsSo words (length words) result v v2 →
      v.pace.dials ≤ length words → NoneToDial (as_nanos t) v2
  dials_done words result v v2 so enough = go so.many
    where
      go : NoneToDial (as_nanos t) v2 ⊎ (length words ≤ count_of Dialing v2.links) → NoneToDial (as_nanos t) v2
      go (inl none) = none
      go (inr many) = all_placed (not (is_before (as_nanos t) (dial_at v2))) (nat_lt (length v2.links) v2.pace.links)
          (is_outbound_free v2.pace v2.links) full
        where
          full : nat_lt (count_of Dialing v2.links) v2.pace.dials ≡ false
          full = let fits = enough in let same = ap (λ (p : Pace). p.dials) so.pace in grind (arith, nat_tests)

          all_placed : (a b c : Bool) {d : Bool} → d ≡ false → (a && (b && (c && d))) ≡ false
          all_placed true true true is = is
          all_placed true true false is = refl
          all_placed true false c is = refl
          all_placed false b c is = refl

  -- time passed, then they were closed, then some were asked, then some grants were given up, and then some were dialled
  pub times_out : (now : ℕ) (words : List ℕ) (asked dialed result : Result (Unit {0}) AllocError) (v v2 v3 v4 v5 v6 : DriverView C S) →
      (is_ok asked && is_ok dialed) ≡ is_ok result → as_nanos t ≡ max v.latest now → Does cmp wire (Happening.Passed t) v v2 →
      ClosesLate cmp wire t v2 v3 → AsksAll cmp wire t asked v3 v4 → FreesSome cmp wire t v4 v5 → DialsAll cmp wire t words dialed v5 v6 →
      TimesOut cmp wire now words result v v6
  times_out now words asked dialed result v v2 v3 v4 v5 v6 both is passed closes asks frees dials = record {
    time = t;
    time_is = is;
    late = closes.happenings;
    are_late = closes.are_late;
    asked = asks.happenings;
    are_asked = asks.are_asked;
    freed = frees.happenings;
    are_freed = frees.are_freed;
    dialed = dials.happenings;
    are_dialed = dials.are_dialed;
    all = ap (λ b. b && list_all was_dialed dials.happenings) asks.all ∙ ap (λ b. is_ok asked && b) dials.all ∙ both;
    does = λ given pace h at. let late : List (Happening C S) = closes.happenings ++ Happening.Passed t ∷ [] in
        subst (λ k. DriverStandsAt (base_of cmp wire given pace) k v6)
        (ap (λ k. dials.happenings ++ k) (ap (λ k. frees.happenings ++ k) (ap (λ k. asks.happenings ++ k)
        (sym (append_assoc closes.happenings (Happening.Passed t ∷ []) h))
        ∙ sym (append_assoc asks.happenings late h))
        ∙ sym (append_assoc frees.happenings (asks.happenings ++ late) h))
        ∙ sym (append_assoc dials.happenings (frees.happenings ++ (asks.happenings ++ late)) h))
        (dials.does given pace (frees.happenings ++ (asks.happenings ++ (closes.happenings ++ Happening.Passed t ∷ h)))
        (frees.does given pace (asks.happenings ++ (closes.happenings ++ Happening.Passed t ∷ h))
        (asks.does given pace (closes.happenings ++ Happening.Passed t ∷ h)
        (closes.does given pace (Happening.Passed t ∷ h) (passed.goes given pace h at)))));
  }
