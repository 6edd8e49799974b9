-- How much is said at a time.
use Rattle.std.proofs.Common.{◌≡◌, ◌≤◌, ◌+◌, ◌*◌, ℕ, Bool, true, false, List, [], ◌∷◌, Option, Some, None, refl, ap, arith}
use Rattle.std.specs.Prelude.{length}
use Rattle.std.specs.BTreeMap.{is_at}
use Rattle.std.specs.Cmp.{IsTotalOrder}
use Rattle.std.specs.Map.{set_value, values_of}
use Rattle.std.specs.declared.cmp.Ordering.{Ordering}
use Rattle.std.specs.declared.time.Duration.{Duration}
use Rattle.std.proofs.lemmas.List.{length-append}
use Rattle.std.proofs.lemmas.List.Sums.{sum_by-cons}
use Rattle.p2p_tracker.specs.Calls.{Settings}
use Rattle.p2p_driver.specs.Drivers.{Base, DriverView, DriverStandsAt}
use Rattle.p2p_driver.specs.Frames.{Outcome}
use Rattle.p2p_driver.specs.Happenings.{Happening, says_by, shut, shut_in, shut_all, closed_at, downed, parted, barred, asking_on, answered_on, crowded_out, link_at, why_late}
use Rattle.p2p_driver.specs.Laws.{is_set}
use Rattle.p2p_driver.specs.Links.{link_of, need_of, need_at, needs, closed}
use Rattle.p2p_driver.specs.declared.actions.Breach.{Breach}
use Rattle.p2p_driver.specs.declared.actions.Why.{Why}
use Rattle.p2p_driver.specs.declared.actions.Why.TheVariants as why
use Rattle.p2p_driver.specs.declared.arrivals.Room.{Room}
use Rattle.p2p_driver.specs.declared.arrivals.Room.TheVariants as room
use Rattle.p2p_driver.specs.declared.links.Held.{Held}
use Rattle.p2p_driver.specs.declared.links.Phase.{Phase}
use Rattle.p2p_driver.specs.declared.links.Phase.TheVariants as phase
use Rattle.p2p_driver.specs.declared.questions.Question.{Question}
use Rattle.p2p_driver.proofs.Linked.{written_at, needs_closed, noted_at}

need_few : (ph : Phase) → need_of ph ≤ 2
need_few phase.Greeting = omega arith
need_few phase.Open = omega arith
need_few phase.Closing = omega arith

at_few : (o : Option Held) → need_at o ≤ 2
at_few None = omega arith
at_few (Some held) = need_few held.phase

asked_few : (C : Type 0) (n : ℕ) (q : Option Question) → length (asking_on {C = C} n q) ≤ 1
asked_few C n None = omega arith
asked_few C n (Some q) = omega arith

crowded_few : (C : Type 0) (space : Room) → length (crowded_out {C = C} space) ≤ 1
crowded_few C room.Free = omega arith
crowded_few C (room.Of n) = omega arith
crowded_few C room.None = omega arith

module _ {C : Type 0} where
  -- what a link needs is enough for its close
  shut_fits : (p : C) (w : Why) (o : Option Held) → length (shut p w o) ≤ need_at o
  shut_fits p w None = omega arith
  shut_fits p w (Some held) = go held.phase
    where
      go : (ph : Phase) → length (shut_in held.number p w ph) ≤ need_of ph
      go phase.Greeting = omega arith
      go phase.Open = omega arith
      go phase.Closing = omega arith

  needs_few : (links : List (C × Held)) → needs links ≤ 2 * length links
  needs_few [] = omega arith
  needs_few (e ∷ links) = let one = need_few e.1.phase in let rest = needs_few links in
      let sum = sum_by-cons (λ (h : Held). need_of h.phase) e.1 (values_of links) in omega (arith, one, rest, sum)

  shut_few : (p : C) (w : Why) (o : Option Held) → length (shut p w o) ≤ 2
  shut_few p w o = let fits = shut_fits p w o in let few = at_few o in omega (arith, fits, few)

  parted_few : (p : C) (o : Option Held) → length (parted p o) ≤ 1
  parted_few p None = omega arith
  parted_few p (Some held) = go held.phase
    where
      go : (ph : Phase) → length (downed held.number p None ph) ≤ 1
      go phase.Greeting = omega arith
      go phase.Open = omega arith
      go phase.Closing = omega arith

  barred_few : (p : C) (b : Breach) (o : Option Bool) → length (barred p b o) ≤ 1
  barred_few p b None = omega arith
  barred_few p b (Some true) = omega arith
  barred_few p b (Some false) = omega arith

  answered_few : {S : Type 0} (n : ℕ) (p : C) (x : Outcome C S) (o : Option Held) → length (answered_on n p x o) ≤ 3
  answered_few n p (Outcome.Waits waiting) o = omega arith
  answered_few n p (Outcome.Greets dialer info question) o = let few = asked_few C n question in omega (arith, few)
  answered_few n p (Outcome.Takes infos) o = omega arith
  answered_few n p (Outcome.Answers reply) o = omega arith
  answered_few n p (Outcome.Delivers message) o = omega arith
  answered_few n p Outcome.Ignores o = omega arith
  answered_few n p (Outcome.Breaks b blocked) o = let long = length-append (shut p (why.Breach b) o) (barred p b blocked) in
      let one = shut_few p (why.Breach b) o in let two = barred_few p b blocked in omega (arith, long, one, two)
  answered_few n p Outcome.IsEarly o = let few = shut_few p why.Future o in omega (arith, few)
  answered_few n p Outcome.LacksChannel o = let few = shut_few p why.NoChannel o in omega (arith, few)
  answered_few n p (Outcome.Delays next) o = omega arith
  answered_few n p (Outcome.Reads kind looked) o = omega arith

-- links that are closed one after the other
module _ {C : Type 0} {cmp : C → C → Ordering} (total : IsTotalOrder cmp) where
  torn_few : (ps : List C) (links : List (C × Held)) → length (shut_all cmp ps (link_of cmp links)) ≤ needs links
  torn_few [] links = omega arith
  torn_few (p ∷ ps) links = go (link_of cmp links p) refl (λ links2. torn_few ps links2)
    where
      both : (links2 : List (C × Held)) → ((q : C) → link_of cmp links2 q ≡ closed_at cmp p (link_of cmp links) q) →
          needs links2 + need_at (link_of cmp links p) ≡ needs links → length (shut_all cmp ps (link_of cmp links2)) ≤ needs links2 →
          length (shut_all cmp (p ∷ ps) (link_of cmp links)) ≤ needs links
      both links2 is fewer few = let long = length-append (shut p why.NoSet (link_of cmp links p)) (shut_all cmp ps (closed_at cmp p (link_of cmp links))) in
          let same : length (shut_all cmp ps (link_of cmp links2)) ≡ length (shut_all cmp ps (closed_at cmp p (link_of cmp links))) =
          ap (λ f. length (shut_all cmp ps f)) (λ i q. is q i) in
          let one = shut_fits p why.NoSet (link_of cmp links p) in omega (arith, long, same, one, fewer, few)

      none : link_of cmp links p ≡ None → (held : Held) → link_of cmp links p ≡ Some held → ⊥
      none has held is = cc

      go : (o : Option Held) → link_of cmp links p ≡ o →
          ((links2 : List (C × Held)) → length (shut_all cmp ps (link_of cmp links2)) ≤ needs links2) →
          length (shut_all cmp (p ∷ ps) (link_of cmp links)) ≤ needs links
      go None has rest = both links
          (noted_at total links links closed p (λ held is. absurd (none has held is)) (λ is. refl))
          (let zero : need_at (link_of cmp links p) ≡ 0 = ap need_at has in omega (arith, zero)) (rest links)
      go (Some held) has rest = both (set_value (is_at (cmp p)) links (closed held))
          (written_at total links (set_value (is_at (cmp p)) links (closed held)) closed p held has refl)
          (needs_closed total links (set_value (is_at (cmp p)) links (closed held)) p held has refl)
          (rest (set_value (is_at (cmp p)) links (closed held)))

module _ {C S : Type 0} (b : Base C S) (h : List (Happening C S)) where
  abbrev d : Settings C S
  d = b.made.directory

  -- what is no set says at most three actions
  pub few_said : (e : Happening C S) → is_set e ≡ false → length (says_by d b.greeting h e) ≤ 3
  few_said (Happening.Arrived n origin t space) is = let few = crowded_few C space in omega (arith, few)
  few_said (Happening.Mistaken n p t) is = let few = shut_few p why.WrongKey (link_at d p h) in omega (arith, few)
  few_said (Happening.Ended n p t direction) is = let few = parted_few p (link_at d p h) in omega (arith, few)
  few_said (Happening.Failed n p t direction) is = let few = parted_few p (link_at d p h) in omega (arith, few)
  few_said (Happening.SetCame t index primary secondary torn) is = absurd cc
  few_said (Happening.LinkLate n p t) is = let few = shut_few p (why_late (link_at d p h)) (link_at d p h) in omega (arith, few)
  few_said (Happening.Heard n p t owed cause outcome) is = answered_few n p outcome (link_at d p h)
  few_said (Happening.Asked n p t owed fits question) is = let few = asked_few C n question in omega (arith, few)
  few_said (Happening.Barred p t taken) is = let few = shut_few p why.Blocked (link_at d p h) in omega (arith, few)
  few_said (Happening.Parted p t) is = let few = shut_few p why.Application (link_at d p h) in omega (arith, few)
  few_said e is = omega arith

  -- a set says at most two for each link
  pub set_says : (v : DriverView C S) → DriverStandsAt b h v → IsTotalOrder d.cmp → (t : Duration) (index : ℕ) (primary secondary torn : List C) →
      length (says_by d b.greeting h (Happening.SetCame t index primary secondary torn)) ≤ 2 * length v.links
  set_says v at total t index primary secondary torn = let few = torn_few total torn v.links in let all = needs_few v.links in
      let same : length (shut_all d.cmp torn (link_of d.cmp v.links)) ≡ length (says_by d b.greeting h (Happening.SetCame t index primary secondary torn)) =
      ap (λ f. length (shut_all d.cmp torn f)) (λ i p. at.links p i) in omega (arith, few, all, same)
