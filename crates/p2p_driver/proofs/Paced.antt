-- Frames of a link are read at the rates, and the first bytes of a frame decide what comes of them.
use Rattle.std.proofs.Common.{◌≡◌, ℕ, suc, ◌+◌, ◌-◌, ◌*◌, ◌==◌, ◌≤◌, ◌<◌, ◌&&◌, ◌⊎◌, inl, inr, Bool, true, false, List, [], ◌∷◌, ◌++◌, Option, Some, None, refl, sym, ◌∙◌, ap, subst, arith}
use Rattle.std.specs.Prelude.{if◌then◌else◌}
use Rattle.std.specs.Duration.{as_nanos, max_nanos}
use Rattle.std.specs.Int.NonZero.{non_zero_u32_get}
use Rattle.std.specs.Option.{IsSomeAnd}
use Rattle.std.specs.declared.time.Duration.{Duration}
use Rattle.std.proofs.lemmas.Bool.{cases_lt}
use Rattle.std.proofs.lemmas.Bool.Decides.{nat_tests}
use Rattle.p2p_tracker.specs.Calls.{Call}
use Rattle.p2p_tracker.specs.History.{last_with, found_with}
use Rattle.p2p_driver.specs.Answers.{IsAllowedAt}
use Rattle.p2p_driver.specs.Drivers.{Base, AreRight, IsRight, IsInTime, IsHeard, IsSpoken, link, standing}
use Rattle.p2p_driver.specs.Frames.{Cause, Outcome, IsOutcome}
use Rattle.p2p_driver.specs.Happenings.{Happening, calls_of, latest_at, latest_of, time_by}
use Rattle.p2p_driver.specs.Heads.{kind_of}
use Rattle.p2p_driver.specs.Laws.{bare, is_head}
use Rattle.p2p_driver.specs.Links.{is_open}
use Rattle.p2p_driver.specs.Looked.{LookedView, looked_of}
use Rattle.p2p_driver.specs.Rates.{AreAllowed, AreBefore}
use Rattle.p2p_driver.specs.Reading.{is_of, kind_at_rate, rate_at, begins_as, read_by, read_in, since_in, frames_read, IsDelayed, IsInTurn, ComesOfKind, IsPaced}
use Rattle.p2p_driver.specs.declared.actions.Breach.TheVariants as breach
use Rattle.p2p_driver.specs.declared.heads.Kind.{Kind}
use Rattle.p2p_driver.specs.declared.heads.Kind.TheVariants as kind
use Rattle.p2p_driver.specs.declared.links.Held.{Held}
use Rattle.p2p_driver.specs.declared.links.Phase.{Phase}
use Rattle.p2p_driver.specs.declared.links.Phase.TheVariants as phase
use Rattle.p2p_driver.specs.declared.links.Waiting.{Waiting}
use Rattle.p2p_driver.specs.declared.pace.Pace.{Pace}
use Rattle.p2p_driver.specs.declared.rate.Rate.{Rate}
use Rattle.p2p_driver.proofs.Claims.{later_than, before_on, one_before}

same_number : (m n : ℕ) → (m == n) ≡ true → m ≡ n
same_number m n is = grind (arith, nat_tests)

-- the kind of a frame says by which rate it is read
the_place : (place other : Option ℕ) → is_of place (kind_at_rate other) ≡ true → other ≡ place
the_place None None is = refl
the_place None (Some other) is = absurd cc
the_place (Some place) None is = absurd cc
the_place (Some place) (Some other) is = ap (λ (x : ℕ). Some x) (same_number other place is)

no_place : (place : Option ℕ) → is_of place kind.Greeting ≡ true → ⊥
no_place None is = cc
no_place (Some place) is = cc

both : (x y : Bool) → (x && y) ≡ true → (x ≡ true) × (y ≡ true)
both true true is = (refl, refl)
both true false is = absurd cc
both false y is = absurd cc

nothing_before : (now : ℕ) → AreBefore now []
nothing_before now k a at = absurd cc

-- what may happen twice may happen once
pub allowed_once : (rate : Rate) (xs : List ℕ) (now : ℕ) → IsAllowedAt rate (now ∷ xs) now → IsAllowedAt rate xs now
allowed_once rate xs now may k a found = one (as_nanos rate.refill) (non_zero_u32_get rate.burst * as_nanos rate.refill) k (now - a) (may (suc k) a found)
  where
    one : (refill all k past : ℕ) → (suc k + 2) * refill ≤ all + past → (k + 2) * refill ≤ all + past
    one refill all k past is = grind (arith)

-- AT THE RATES
module _ {C S : Type 0} (b : Base C S) (n : ℕ) (place : Option ℕ) (rate : Rate) (has : rate_at b.pace place ≡ Some rate) where
  -- a frame may be read only by its first bytes
  by_head : (cs : List (Call C S)) (p : C) (ph : Phase) (owed : ℕ) (waiting : Option Waiting) (c : Cause) (k : Kind) (looked : LookedView) →
      IsOutcome b.made.directory.cmp b.wire (standing b cs) ph owed waiting p c (Outcome.Reads k looked) → is_head c ≡ true
  by_head cs p phase.Greeting owed None (Cause.OfFrame frame wall) k looked comes = absurd comes
  by_head cs p phase.Greeting owed None (Cause.OfVerdicts verdicts) k looked comes = absurd comes
  by_head cs p phase.Greeting owed None (Cause.OfHead longest head size) k looked comes = refl
  by_head cs p phase.Greeting owed (Some w) (Cause.OfFrame frame wall) k looked comes = absurd comes
  by_head cs p phase.Greeting owed (Some w) (Cause.OfVerdicts verdicts) k looked comes = absurd comes.1.2
  by_head cs p phase.Greeting owed (Some w) (Cause.OfHead longest head size) k looked comes = absurd comes
  by_head cs p phase.Open owed None (Cause.OfFrame frame wall) k looked comes = absurd comes.2.3
  by_head cs p phase.Open owed None (Cause.OfVerdicts verdicts) k looked comes = absurd comes
  by_head cs p phase.Open owed None (Cause.OfHead longest head size) k looked comes = refl
  by_head cs p phase.Open owed (Some w) (Cause.OfFrame frame wall) k looked comes = absurd comes
  by_head cs p phase.Open owed (Some w) (Cause.OfVerdicts verdicts) k looked comes = absurd comes.1.2
  by_head cs p phase.Open owed (Some w) (Cause.OfHead longest head size) k looked comes = absurd comes
  by_head cs p phase.Closing owed waiting c k looked comes = absurd comes

  -- .. and if its rate allows it
  module _ (h : List (Happening C S)) (m now : ℕ) (k : Kind) (looked : LookedView) (at : is_of place k ≡ true) where
    abbrev May : Option ℕ → Type 0
    May x = IsSomeAnd (rate_at b.pace x) (λ r. IsAllowedAt r (frames_read m x h) now)

    in_turn : (other : Option ℕ) (l : LookedView) → IsInTurn b.pace h m now other l (Outcome.Reads k looked) → May place
    in_turn other l comes = subst May (the_place place other (subst (λ x. is_of place x ≡ true) comes.0 at)) comes.2

    of_kind : (x : Kind) (l : LookedView) → ComesOfKind b.pace h m now x l (Outcome.Reads k looked) → May place
    of_kind kind.NoGreeting l comes = absurd comes
    of_kind kind.TooLong l comes = absurd comes
    of_kind kind.NoChannel l comes = absurd comes
    of_kind kind.Greeting l comes = absurd (no_place place (subst (λ x. is_of place x ≡ true) comes.0 at))
    of_kind kind.Gossip l comes = in_turn None l comes
    of_kind (kind.Message other) l comes = in_turn (Some other) l comes

    of_cause : (held : Held) (c : Cause) → is_head c ≡ true → IsPaced b.pace h m now b.made.limits held c (Outcome.Reads k looked) → May place
    of_cause held (Cause.OfFrame frame wall) is paced = absurd cc
    of_cause held (Cause.OfVerdicts verdicts) is paced = absurd cc
    of_cause held (Cause.OfHead longest head size) is paced =
        of_kind (kind_of longest b.pace.channels.items b.made.limits (is_open held.phase) head size) (looked_of head size) paced.1

  may_be_read : (m : ℕ) (p : C) (t : Duration) (owed : ℕ) (c : Cause) (k : Kind) (looked : LookedView) (h : List (Happening C S)) →
      IsRight b h (Happening.Heard m p t owed c (Outcome.Reads k looked)) → (m == n) ≡ true → is_of place k ≡ true →
      IsAllowedAt rate (frames_read n place h) (as_nanos t)
  may_be_read m p t owed c k looked h right same at = go (link b p h) right
    where
      go : (o : Option Held) → IsSomeAnd o (IsHeard b h m p t owed c (Outcome.Reads k looked)) → IsAllowedAt rate (frames_read n place h) (as_nanos t)
      go None right = absurd right
      go (Some held) right = subst (λ j. IsAllowedAt rate (frames_read j place h) (as_nanos t)) (same_number m n same)
          (subst (λ o. IsSomeAnd o (λ r. IsAllowedAt r (frames_read m place h) (as_nanos t))) has
          (of_cause h m (as_nanos t) k looked at held c
          (by_head (calls_of h) p held.phase held.owed held.waiting c k looked right.comes) right.paced))

  may_be_said : (m : ℕ) (p : C) (t : Duration) (at : ℕ) (h : List (Happening C S)) →
      IsRight b h (Happening.Spoken m p t at) → (m == n) ≡ true → is_of place (kind.Message at) ≡ true →
      IsAllowedAt rate (frames_read n place h) (as_nanos t)
  may_be_said m p t at h right same is = go (link b p h) right
    where
      go : (o : Option Held) → IsSomeAnd o (IsSpoken b h m t at) → IsAllowedAt rate (frames_read n place h) (as_nanos t)
      go None right = absurd right
      go (Some held) right = subst (λ j. IsAllowedAt rate (frames_read j place h) (as_nanos t)) (same_number m n same)
          (allowed_once rate (frames_read m place h) (as_nanos t)
          (subst (λ o. IsSomeAnd o (λ r. IsAllowedAt r (as_nanos t ∷ frames_read m place h) (as_nanos t))) has
          (subst (λ x. IsSomeAnd (rate_at b.pace x) (λ r. IsAllowedAt r (as_nanos t ∷ frames_read m x h) (as_nanos t)))
          (the_place place (Some at) is) right.rate)))

  -- the frames of the link that were read since it began
  abbrev reads_in : Option (Duration × List (Happening C S)) → List ℕ
  reads_in found = read_in n place (since_in found)

  -- what one happening makes of them: none, the same, or one more at a time at which it might be
  abbrev Makes : Happening C S → List ℕ → List ℕ → Type 0
  Makes e old new = (new ≡ []) ⊎ ((new ≡ old)
      ⊎ ((t : Duration) × (time_by e ≡ Some t) × (new ≡ as_nanos t ∷ old) × IsAllowedAt rate old (as_nanos t)))

  abbrev MakesAfter : Happening C S → List (Happening C S) → Type 0
  MakesAfter e h = Makes e (frames_read n place h) (frames_read n place (e ∷ h))

  stays : (e : Happening C S) (h : List (Happening C S)) → begins_as n e ≡ None → read_by n place e ≡ [] → MakesAfter e h
  stays e h begins none = inr (inl (go (last_with (begins_as n) h)))
    where
      go : (found : Option (Duration × List (Happening C S))) → reads_in (found_with (begins_as n e) e found) ≡ reads_in found
      go None = ap (λ o. reads_in (found_with o e None)) begins
      go (Some found) = ap (λ o. reads_in (found_with o e (Some found))) begins ∙ ap (λ xs. xs ++ read_in n place found.1) none

  begun : (m : ℕ) (t : Duration) (e : Happening C S) (h : List (Happening C S)) → begins_as n e ≡ (if m == n then Some t else None) →
      read_by n place e ≡ [] → MakesAfter e h
  begun m t e h begins none = go (m == n) refl
    where
      go : (x : Bool) → (m == n) ≡ x → MakesAfter e h
      go true is = inl (ap (λ o. reads_in (found_with o e (last_with (begins_as n) h))) (begins ∙ ap (λ x. if x then Some t else None) is))
      go false is = stays e h (begins ∙ ap (λ x. if x then Some t else None) is) none

  reads : (m : ℕ) (p : C) (t : Duration) (owed : ℕ) (c : Cause) (k : Kind) (looked : LookedView) (h : List (Happening C S)) →
      IsRight b h (Happening.Heard m p t owed c (Outcome.Reads k looked)) → MakesAfter (Happening.Heard m p t owed c (Outcome.Reads k looked)) h
  reads m p t owed c k looked h right = go ((m == n) && is_of place k) refl
    where
      e : Happening C S
      e = Happening.Heard m p t owed c (Outcome.Reads k looked)

      more : (found : Option (Duration × List (Happening C S))) → read_by n place e ≡ as_nanos t ∷ [] →
          IsAllowedAt rate (reads_in found) (as_nanos t) → Makes e (reads_in found) (reads_in (found_with None e found))
      more None is may = inl refl
      more (Some found) is may = inr (inr (t, refl, ap (λ xs. xs ++ read_in n place found.1) is, may))

      go : (x : Bool) → ((m == n) && is_of place k) ≡ x → MakesAfter e h
      go true is = let two = both (m == n) (is_of place k) is in
          more (last_with (begins_as n) h) (ap (λ x. if x then as_nanos t ∷ [] else []) is)
          (may_be_read m p t owed c k looked h right two.0 two.1)
      go false is = stays e h refl (ap (λ x. if x then as_nanos t ∷ [] else []) is)

  -- a message was said, if its rate allowed it
  speaks : (m : ℕ) (p : C) (t : Duration) (at : ℕ) (h : List (Happening C S)) →
      IsRight b h (Happening.Spoken m p t at) → MakesAfter (Happening.Spoken m p t at) h
  speaks m p t at h right = go ((m == n) && is_of place (kind.Message at)) refl
    where
      e : Happening C S
      e = Happening.Spoken m p t at

      more : (found : Option (Duration × List (Happening C S))) → read_by n place e ≡ as_nanos t ∷ [] →
          IsAllowedAt rate (reads_in found) (as_nanos t) → Makes e (reads_in found) (reads_in (found_with None e found))
      more None is may = inl refl
      more (Some found) is may = inr (inr (t, refl, ap (λ xs. xs ++ read_in n place found.1) is, may))

      go : (x : Bool) → ((m == n) && is_of place (kind.Message at)) ≡ x → MakesAfter e h
      go true is = let two = both (m == n) (is_of place (kind.Message at)) is in
          more (last_with (begins_as n) h) (ap (λ x. if x then as_nanos t ∷ [] else []) is)
          (may_be_said m p t at h right two.0 two.1)
      go false is = stays e h refl (ap (λ x. if x then as_nanos t ∷ [] else []) is)

  hears : (m : ℕ) (p : C) (t : Duration) (owed : ℕ) (c : Cause) (x : Outcome C S) (h : List (Happening C S)) →
      IsRight b h (Happening.Heard m p t owed c x) → MakesAfter (Happening.Heard m p t owed c x) h
  hears m p t owed c (Outcome.Waits w) h right = stays (Happening.Heard m p t owed c (Outcome.Waits w)) h refl refl
  hears m p t owed c (Outcome.Greets dialer info question) h right = stays (Happening.Heard m p t owed c (Outcome.Greets dialer info question)) h refl refl
  hears m p t owed c (Outcome.Takes infos) h right = stays (Happening.Heard m p t owed c (Outcome.Takes infos)) h refl refl
  hears m p t owed c (Outcome.Answers reply) h right = stays (Happening.Heard m p t owed c (Outcome.Answers reply)) h refl refl
  hears m p t owed c (Outcome.Delivers message) h right = stays (Happening.Heard m p t owed c (Outcome.Delivers message)) h refl refl
  hears m p t owed c Outcome.Ignores h right = stays (Happening.Heard m p t owed c Outcome.Ignores) h refl refl
  hears m p t owed c (Outcome.Breaks broken blocked) h right = stays (Happening.Heard m p t owed c (Outcome.Breaks broken blocked)) h refl refl
  hears m p t owed c Outcome.IsEarly h right = stays (Happening.Heard m p t owed c Outcome.IsEarly) h refl refl
  hears m p t owed c (Outcome.Reads k looked) h right = reads m p t owed c k looked h right
  hears m p t owed c (Outcome.Delays next) h right = stays (Happening.Heard m p t owed c (Outcome.Delays next)) h refl refl
  hears m p t owed c Outcome.LacksChannel h right = stays (Happening.Heard m p t owed c Outcome.LacksChannel) h refl refl

  makes : (e : Happening C S) (h : List (Happening C S)) → IsRight b h e → MakesAfter e h
  makes (Happening.Proved m q t draw) h right = begun m t (Happening.Proved m q t draw) h refl refl
  makes (Happening.Adopted m q t outbound) h right = begun m t (Happening.Adopted m q t outbound) h refl refl
  makes (Happening.Dialed m q t draw word ingress) h right = begun m t (Happening.Dialed m q t draw word ingress) h refl refl
  makes (Happening.Spoken m q t at) h right = speaks m q t at h right
  makes (Happening.Heard m q t owed cause outcome) h right = hears m q t owed cause outcome h right
  makes e h right = stays e h refl refl

  -- none was read after the latest time
  none_later : (h : List (Happening C S)) → AreRight b h → AreBefore (latest_at h) (frames_read n place h)
  none_later [] right = nothing_before 0
  none_later (e ∷ h) right = go (makes e h right.0) (none_later h right.2)
    where
      go : MakesAfter e h → AreBefore (latest_at h) (frames_read n place h) → AreBefore (latest_at (e ∷ h)) (frames_read n place (e ∷ h))
      go (inl none) before = subst (AreBefore (latest_at (e ∷ h))) (sym none) (nothing_before (latest_at (e ∷ h)))
      go (inr (inl same)) before = subst (AreBefore (latest_at (e ∷ h))) (sym same)
          (before_on b (latest_at h) (latest_at (e ∷ h)) (frames_read n place h) (later_than b e h right.1) before)
      go (inr (inr (t, time, more, may))) before =
          subst (λ o. AreBefore (latest_of (found_with o e (last_with time_by h))) (frames_read n place (e ∷ h))) (sym time)
          (subst (AreBefore (as_nanos t)) (sym more) (one_before b (as_nanos t) (frames_read n place h)
          (before_on b (latest_at h) (as_nanos t) (frames_read n place h) (subst (IsInTime b h) time right.1) before)))

  -- each was read when it might be
  pub read_allowed : (h : List (Happening C S)) → AreRight b h →
      AreAllowed (non_zero_u32_get rate.burst) (as_nanos rate.refill) (frames_read n place h)
  read_allowed [] right = tt
  read_allowed (e ∷ h) right = go (makes e h right.0) (none_later h right.2) (read_allowed h right.2)
    where
      go : MakesAfter e h → AreBefore (latest_at h) (frames_read n place h) →
          AreAllowed (non_zero_u32_get rate.burst) (as_nanos rate.refill) (frames_read n place h) →
          AreAllowed (non_zero_u32_get rate.burst) (as_nanos rate.refill) (frames_read n place (e ∷ h))
      go (inl none) before all = subst (AreAllowed (non_zero_u32_get rate.burst) (as_nanos rate.refill)) (sym none) tt
      go (inr (inl same)) before all = subst (AreAllowed (non_zero_u32_get rate.burst) (as_nanos rate.refill)) (sym same) all
      go (inr (inr (t, time, more, may))) before all = subst (AreAllowed (non_zero_u32_get rate.burst) (as_nanos rate.refill)) (sym more)
          (may, before_on b (latest_at h) (as_nanos t) (frames_read n place h) (subst (IsInTime b h) time right.1) before, all)

-- BY THE FIRST BYTES of a frame
below : (a b c : ℕ) → a < b → b ≤ c → a < c
below a b c less most = omega arith

alike : (a b : ℕ) → a ≤ b → b ≤ a → a ≡ b
alike a b one other = omega arith

before_it : (a b : ℕ) → a < b → a ≤ b
before_it a b less = omega arith

itself : (a : ℕ) → a ≤ a
itself a = omega arith

-- .. one may be read first at one time
module _ (rate : Rate) (times : List ℕ) (now : ℕ) where
  no_sooner : (next other : ℕ) → IsDelayed rate times now next → IsDelayed rate times now other → next < other → ⊥
  no_sooner next other late later less = elim (cases_lt next now) [
    | inl past ↦ late.refused (late.from (below next other max_nanos less later.bound) now (before_it next now past))
    | inr after ↦ later.before next after less (late.from (below next other max_nanos less later.bound) next (itself next))
  ]

  one_time : (next other : ℕ) → IsDelayed rate times now next → IsDelayed rate times now other → next ≡ other
  one_time next other late later = elim (cases_lt next other) [
    | inl less ↦ absurd (no_sooner next other late later less)
    | inr most ↦ elim (cases_lt other next) [
      | inl less ↦ absurd (no_sooner other next later late less)
      | inr least ↦ alike next other least most
    ]
  ]

module _ {C S : Type 0} (pace : Pace) (h : List (Happening C S)) (n now : ℕ) where
  abbrev IsNow : Option ℕ → Type 0
  IsNow place = IsSomeAnd (rate_at pace place) (λ rate. IsAllowedAt rate (frames_read n place h) now)

  abbrev IsAfter : Option ℕ → ℕ → Type 0
  IsAfter place next = IsSomeAnd (rate_at pace place) (λ rate. IsDelayed rate (frames_read n place h) now next)

  not_both : (o : Option Rate) (times : List ℕ) (next : ℕ) → IsSomeAnd o (λ rate. IsAllowedAt rate times now) →
      IsSomeAnd o (λ rate. IsDelayed rate times now next) → ⊥
  not_both None times next may late = absurd may
  not_both (Some rate) times next may late = late.refused may

  at_one_time : (o : Option Rate) (times : List ℕ) (next other : ℕ) → IsSomeAnd o (λ rate. IsDelayed rate times now next) →
      IsSomeAnd o (λ rate. IsDelayed rate times now other) → next ≡ other
  at_one_time None times next other late later = absurd late
  at_one_time (Some rate) times next other late later = one_time rate times now next other late later

  abbrev Turns : Option ℕ → LookedView → Outcome C S → Type 0
  Turns place l x = ((x ≡ Outcome.Reads (kind_at_rate place) l) × IsNow place)
      ⊎ ((next : ℕ) × (x ≡ Outcome.Delays next) × IsAfter place next)

  turns : (place : Option ℕ) (l : LookedView) (x : Outcome C S) → IsInTurn pace h n now place l x → Turns place l x
  turns place l (Outcome.Reads k looked) comes =
      inl (ap (λ q. Outcome.Reads q looked) comes.0 ∙ ap (Outcome.Reads (kind_at_rate place)) comes.1, comes.2)
  turns place l (Outcome.Delays next) comes = inr (next, refl, comes)
  turns place l (Outcome.Waits w) comes = absurd comes
  turns place l (Outcome.Greets dialer info question) comes = absurd comes
  turns place l (Outcome.Takes infos) comes = absurd comes
  turns place l (Outcome.Answers reply) comes = absurd comes
  turns place l (Outcome.Delivers message) comes = absurd comes
  turns place l Outcome.Ignores comes = absurd comes
  turns place l (Outcome.Breaks broken blocked) comes = absurd comes
  turns place l Outcome.IsEarly comes = absurd comes
  turns place l Outcome.LacksChannel comes = absurd comes

  one_turn : (place : Option ℕ) (l : LookedView) (x y : Outcome C S) → Turns place l x → Turns place l y → x ≡ y
  one_turn place l x y (inl (is, may)) (inl (other, allowed)) = is ∙ sym other
  one_turn place l x y (inl (is, may)) (inr (next, other, late)) =
      absurd (not_both (rate_at pace place) (frames_read n place h) next may late)
  one_turn place l x y (inr (next, is, late)) (inl (other, may)) =
      absurd (not_both (rate_at pace place) (frames_read n place h) next may late)
  one_turn place l x y (inr (next, is, late)) (inr (time, other, later)) =
      is ∙ ap Outcome.Delays (at_one_time (rate_at pace place) (frames_read n place h) next time late later) ∙ sym other

  of_turn : (place : Option ℕ) (l : LookedView) (x y : Outcome C S) → IsInTurn pace h n now place l x → IsInTurn pace h n now place l y → bare x ≡ bare y
  of_turn place l x y one other = ap bare (one_turn place l x y (turns place l x one) (turns place l y other))

  breaks : (l : LookedView) (x : Outcome C S) → ComesOfKind pace h n now kind.NoGreeting l x → bare x ≡ Outcome.Breaks breach.NoGreeting None
  breaks l (Outcome.Breaks breach.NoGreeting blocked) comes = refl
  breaks l (Outcome.Breaks breach.OtherGreeting blocked) comes = absurd comes
  breaks l (Outcome.Breaks breach.SecondGreeting blocked) comes = absurd comes
  breaks l (Outcome.Breaks breach.FrameLength blocked) comes = absurd comes
  breaks l (Outcome.Breaks (breach.Codec fault) blocked) comes = absurd comes
  breaks l (Outcome.Breaks breach.Malformed blocked) comes = absurd comes
  breaks l (Outcome.Breaks (breach.Invalid e) blocked) comes = absurd comes
  breaks l (Outcome.Waits w) comes = absurd comes
  breaks l (Outcome.Greets dialer info question) comes = absurd comes
  breaks l (Outcome.Takes infos) comes = absurd comes
  breaks l (Outcome.Answers reply) comes = absurd comes
  breaks l (Outcome.Delivers message) comes = absurd comes
  breaks l Outcome.Ignores comes = absurd comes
  breaks l Outcome.IsEarly comes = absurd comes
  breaks l (Outcome.Reads k looked) comes = absurd comes
  breaks l (Outcome.Delays next) comes = absurd comes
  breaks l Outcome.LacksChannel comes = absurd comes

  too_long : (l : LookedView) (x : Outcome C S) → ComesOfKind pace h n now kind.TooLong l x → bare x ≡ Outcome.Breaks breach.FrameLength None
  too_long l (Outcome.Breaks breach.FrameLength blocked) comes = refl
  too_long l (Outcome.Breaks breach.NoGreeting blocked) comes = absurd comes
  too_long l (Outcome.Breaks breach.OtherGreeting blocked) comes = absurd comes
  too_long l (Outcome.Breaks breach.SecondGreeting blocked) comes = absurd comes
  too_long l (Outcome.Breaks (breach.Codec fault) blocked) comes = absurd comes
  too_long l (Outcome.Breaks breach.Malformed blocked) comes = absurd comes
  too_long l (Outcome.Breaks (breach.Invalid e) blocked) comes = absurd comes
  too_long l (Outcome.Waits w) comes = absurd comes
  too_long l (Outcome.Greets dialer info question) comes = absurd comes
  too_long l (Outcome.Takes infos) comes = absurd comes
  too_long l (Outcome.Answers reply) comes = absurd comes
  too_long l (Outcome.Delivers message) comes = absurd comes
  too_long l Outcome.Ignores comes = absurd comes
  too_long l Outcome.IsEarly comes = absurd comes
  too_long l (Outcome.Reads k looked) comes = absurd comes
  too_long l (Outcome.Delays next) comes = absurd comes
  too_long l Outcome.LacksChannel comes = absurd comes

  no_channel : (l : LookedView) (x : Outcome C S) → ComesOfKind pace h n now kind.NoChannel l x → bare x ≡ Outcome.LacksChannel
  no_channel l Outcome.LacksChannel comes = refl
  no_channel l (Outcome.Breaks broken blocked) comes = absurd comes
  no_channel l (Outcome.Waits w) comes = absurd comes
  no_channel l (Outcome.Greets dialer info question) comes = absurd comes
  no_channel l (Outcome.Takes infos) comes = absurd comes
  no_channel l (Outcome.Answers reply) comes = absurd comes
  no_channel l (Outcome.Delivers message) comes = absurd comes
  no_channel l Outcome.Ignores comes = absurd comes
  no_channel l Outcome.IsEarly comes = absurd comes
  no_channel l (Outcome.Reads k looked) comes = absurd comes
  no_channel l (Outcome.Delays next) comes = absurd comes

  greeting : (l : LookedView) (x : Outcome C S) → ComesOfKind pace h n now kind.Greeting l x → bare x ≡ Outcome.Reads kind.Greeting l
  greeting l (Outcome.Reads k looked) comes = ap (λ q. Outcome.Reads q looked) comes.0 ∙ ap (Outcome.Reads kind.Greeting) comes.1
  greeting l (Outcome.Breaks broken blocked) comes = absurd comes
  greeting l (Outcome.Waits w) comes = absurd comes
  greeting l (Outcome.Greets dialer info question) comes = absurd comes
  greeting l (Outcome.Takes infos) comes = absurd comes
  greeting l (Outcome.Answers reply) comes = absurd comes
  greeting l (Outcome.Delivers message) comes = absurd comes
  greeting l Outcome.Ignores comes = absurd comes
  greeting l Outcome.IsEarly comes = absurd comes
  greeting l (Outcome.Delays next) comes = absurd comes
  greeting l Outcome.LacksChannel comes = absurd comes

  one_kind : (k : Kind) (l : LookedView) (x y : Outcome C S) → ComesOfKind pace h n now k l x → ComesOfKind pace h n now k l y → bare x ≡ bare y
  one_kind kind.NoGreeting l x y one other = breaks l x one ∙ sym (breaks l y other)
  one_kind kind.TooLong l x y one other = too_long l x one ∙ sym (too_long l y other)
  one_kind kind.NoChannel l x y one other = no_channel l x one ∙ sym (no_channel l y other)
  one_kind kind.Greeting l x y one other = greeting l x one ∙ sym (greeting l y other)
  one_kind kind.Gossip l x y one other = of_turn None l x y one other
  one_kind (kind.Message place) l x y one other = of_turn (Some place) l x y one other

-- what the first bytes and the length of a frame decide, at one time
pub one_head : {C S : Type 0} (b : Base C S) (h : List (Happening C S)) (n m : ℕ) (p : C) (t : Duration) (owed other : ℕ)
    (c : Cause) (x y : Outcome C S) → is_head c ≡ true → IsRight b h (Happening.Heard n p t owed c x) →
    IsRight b h (Happening.Heard m p t other c y) → bare x ≡ bare y
one_head {C} {S} b h n m p t owed other c x y is one two = go (link b p h) one two
  where
    of_cause : (held : Held) (c : Cause) → is_head c ≡ true → m ≡ n → IsPaced b.pace h n (as_nanos t) b.made.limits held c x →
        IsPaced b.pace h m (as_nanos t) b.made.limits held c y → bare x ≡ bare y
    of_cause held (Cause.OfFrame frame wall) is same one two = absurd cc
    of_cause held (Cause.OfVerdicts verdicts) is same one two = absurd cc
    of_cause held (Cause.OfHead longest head size) is same one two =
        one_kind b.pace h n (as_nanos t) (kind_of longest b.pace.channels.items b.made.limits (is_open held.phase) head size)
        (looked_of head size) x y one.1
        (subst (λ j. IsPaced b.pace h j (as_nanos t) b.made.limits held (Cause.OfHead longest head size) y) same two).1

    go : (o : Option Held) → IsSomeAnd o (IsHeard b h n p t owed c x) → IsSomeAnd o (IsHeard b h m p t other c y) → bare x ≡ bare y
    go None one two = absurd one
    go (Some held) one two = of_cause held c is (sym two.number ∙ one.number) one.paced two.paced
