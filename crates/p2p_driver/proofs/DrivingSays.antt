-- How a message that is said makes a driver stand, by its parts.
use Rattle.std.proofs.Common.{◌≡◌, true, false, ℕ, ◌==◌, ◌+◌, ◌≤◌, cond, List, ◌∷◌, Option, Some, None, refl, sym, ◌∙◌, ap, subst, arith}
use Rattle.std.specs.Prelude.{if◌then◌else◌, option_map, length, IfSome}
use Rattle.std.specs.BTreeMap.{is_at}
use Rattle.std.specs.Duration.{as_nanos}
use Rattle.std.specs.List.{count_by}
use Rattle.std.specs.Option.{IsSomeAnd}
use Rattle.std.specs.declared.cmp.Ordering.{Ordering}
use Rattle.std.specs.declared.time.Duration.{Duration}
use Rattle.std.proofs.lemmas.List.Sums.{sum_by-append}
use Rattle.std.proofs.lemmas.Map.Lookups.{CmpEqualImpliesEq}
use Rattle.p2p_directory.specs.Nodes.{NodeView}
use Rattle.p2p_directory.specs.Received.{Wire}
use Rattle.p2p_driver.specs.Actions.{is_of_link}
use Rattle.p2p_driver.specs.Answers.{AnswersView, IsAllowedAt, IsKeptAt}
use Rattle.p2p_driver.specs.Drivers.{DriverView, DriverStandsAt, DriverStands, IsSpoken, Does, Base, seen, base_of}
use Rattle.p2p_driver.specs.Happenings.{Happening, said, taken}
use Rattle.p2p_driver.specs.Links.{link_of, count_of, is_open, saying, has_room}
use Rattle.p2p_driver.specs.Meters.{MetersView, IsEarly, MayTwice}
use Rattle.p2p_driver.specs.Reading.{rate_at, read_in, since_in, frames_read, IsMetered}
use Rattle.p2p_driver.specs.Reads.{reads_of, kept_in, Takes}
use Rattle.p2p_driver.specs.declared.actions.Action.{Action}
use Rattle.p2p_driver.specs.declared.arrivals.Arrival.{Arrival}
use Rattle.p2p_driver.specs.declared.links.Direction.{Direction}
use Rattle.p2p_driver.specs.declared.links.Held.{Held}
use Rattle.p2p_driver.specs.declared.pace.Pace.{Pace}
use Rattle.p2p_driver.specs.declared.next_dial.NextDial.{NextDial}
use Rattle.p2p_driver.specs.declared.rate.Rate.{Rate}
use Rattle.p2p_driver.proofs.DrivingReads.{of_some}
use Rattle.p2p_driver.proofs.Kept.{kept_later}
use Rattle.p2p_driver.proofs.Lasting.{metered_by}
use Rattle.p2p_driver.proofs.Metered.{metered_says}
use Rattle.p2p_driver.proofs.Paced.{allowed_once}
use Rattle.p2p_driver.proofs.Standing

-- what may be said isn't refused
not_early : (rate : Rate) (now kept : ℕ) (happened : List ℕ) (o : Option Duration) → IfSome o (λ next. IsEarly rate now kept (as_nanos next)) →
    IsKeptAt rate now happened kept → MayTwice rate now kept → o ≡ None
not_early rate now kept happened None early is may = refl
not_early rate now kept happened (Some next) early is may = absurd (early.refused happened is (allowed_once rate happened now (may happened is)))

module _ {C S : Type 0} (cmp : C → C → Ordering) (wire : Wire C S) (node : NodeView C S) (pace : Pace)
    (greeting : List ℕ) (cooldown : ℕ) (dial : NextDial C) (latest next : ℕ) (arrivals : List (Arrival C)) (answers : AnswersView) (reads : List (ℕ × MetersView))
    (links : List (C × Held)) (actions : List (Action C)) (exact : CmpEqualImpliesEq cmp) (n : ℕ) (p : C) (held : Held)
    (linked : link_of cmp links p ≡ Some held) (number : held.number ≡ n) (place : ℕ) (rate : Rate) (rated : rate_at pace (Some place) ≡ Some rate)
    (t : Duration) (after : latest ≤ as_nanos t) where
  abbrev v : DriverView C S
  v = seen node pace greeting cooldown dial latest next arrivals answers reads links actions

  -- what is kept says what was said
  kept_at : (b : Base C S) (h : List (Happening C S)) → b.made.directory.cmp ≡ cmp → DriverStandsAt b h v → CmpEqualImpliesEq b.made.directory.cmp →
      link_of b.made.directory.cmp links p ≡ Some held → (m : MetersView) → reads_of reads n ≡ Some m →
      IsKeptAt rate (as_nanos t) (frames_read n (Some place) h) (kept_in (Some place) m)
  kept_at b h order at exact linked m old =
      let here = metered_by b exact h v at p held n linked number in
      let kept = of_some (IsMetered b.pace latest n here.0.1) (reads_of reads n) m old here.2 in
      subst (λ o. IsKeptAt rate (as_nanos t) (read_in n (Some place) (since_in o)) (kept_in (Some place) m)) (sym here.1)
      (kept_later _ _ (read_in n (Some place) here.0.1) (kept_in (Some place) m) latest (as_nanos t)
      (kept.kept (Some place) rate (ap (λ q. rate_at q (Some place)) (sym at.pace) ∙ rated)) after)

  -- a message that may be said twice is taken
  pub is_taken : DriverStands cmp wire v → (o : Option Duration) (m : MetersView) → reads_of reads n ≡ Some m →
      IfSome o (λ next. IsEarly rate (as_nanos t) (kept_in (Some place) m) (as_nanos next)) →
      MayTwice rate (as_nanos t) (kept_in (Some place) m) → o ≡ None
  is_taken stands o m old early may = not_early rate (as_nanos t) (kept_in (Some place) m) (frames_read n (Some place) stands.history) o early
      (kept_at (base_of cmp wire stands.given stands.pace) stands.history refl stands.stands exact linked m old) may

  -- .. and said
  pub says_on : (m m2 : MetersView) (reads2 : List (ℕ × MetersView)) (links2 : List (C × Held)) →
      is_open held.phase ≡ true → count_by (is_of_link n) actions ≡ 0 → has_room pace.queue held ≡ true → length pace.channels.items ≤ place →
      reads_of reads n ≡ Some m → reads_of reads2 n ≡ Some m2 → MayTwice rate (as_nanos t) (kept_in (Some place) m) →
      Takes rate (as_nanos t) (Some place) m m2 → ((j : ℕ) → (j == n) ≡ false → reads_of reads2 j ≡ reads_of reads j) →
      ((q : C) → link_of cmp links2 q ≡ (if is_at (cmp p) q then option_map (saying (Some t)) (link_of cmp links q) else link_of cmp links q)) →
      ((way : Direction) → count_of way links2 ≡ count_of way links) →
      Does cmp wire (Happening.Spoken n p t place) v (seen node pace greeting cooldown dial (as_nanos t) next arrivals answers reads2 links2 actions)
  says_on m m2 reads2 links2 opens idle room behind old new may takes others tied same = record {
    goes = λ given pace2 h at.
        let b = base_of cmp wire given pace2 in
        let rated2 : rate_at pace2 (Some place) ≡ Some rate = ap (λ q. rate_at q (Some place)) (sym at.pace) ∙ rated in
        Standing.speaks b h v at n p t place reads2 links2
        (subst (λ o. IsSomeAnd o (IsSpoken b h n t place)) (sym linked ∙ at.links p) (record {
          number = number;
          opens = opens;
          taken = all_taken b h at;
          room = subst (λ (q : Pace). has_room q.queue held ≡ true) at.pace room;
          after = subst (λ (q : Pace). length q.channels.items ≤ place) at.pace behind;
          rate = subst (λ o. IsSomeAnd o (λ r. IsAllowedAt r (as_nanos t ∷ frames_read n (Some place) h) (as_nanos t))) (sym rated2)
              (may (frames_read n (Some place) h) (kept_at b h refl at exact linked m old));
        }))
        after
        (metered_says pace2 n p t place rate h reads reads2 m m2 rated2 old new takes others (Standing.reads_at b h v at (as_nanos t) after))
        tied same;
  }
    where
      -- no action of the link waits
      all_taken : (b : Base C S) (h : List (Happening C S)) → DriverStandsAt b h v →
          count_by (is_of_link n) (said b.made.directory b.greeting h) ≡ count_by (is_of_link n) (taken h)
      all_taken b h at = go _ _ _ _ (ap (count_by (is_of_link n)) at.actions)
          (sum_by-append (λ a. cond (is_of_link n a) 1 0) (taken h) actions) idle
        where
          go : (both told here there : ℕ) → both ≡ told → both ≡ here + there → there ≡ 0 → told ≡ here
          go both told here there all sums none = omega (arith, all, sums, none)
