-- The moments of the calls of a node that a driver makes never go back.
use Rattle.std.proofs.Common.{◌≡◌, ℕ, ◌≤◌, List, [], ◌∷◌, ◌++◌, Option, Some, None, refl, sym, ◌∙◌, ap, subst}
use Rattle.std.proofs.Common.{arith}
use Rattle.std.specs.Duration.{as_nanos}
use Rattle.std.specs.declared.time.Duration.{Duration}
use Rattle.p2p_tracker.specs.Calls.{Settings, Call, moment_of}
use Rattle.p2p_tracker.specs.History.{last_with, found_with}
use Rattle.p2p_directory.specs.Laws.Grants.{NeverGoBack, or_now}
use Rattle.p2p_driver.specs.Frames.{Outcome}
use Rattle.p2p_driver.specs.Happenings.{Happening, time_by, latest_at, latest_of, calls_of, calls_for}
use Rattle.p2p_driver.specs.Drivers.{Base, AreRight}

module _ {C S : Type 0} (s : Settings C S) where
  -- a later now is as good
  later_back : (cs : List (Call C S)) (now later : ℕ) → now ≤ later → NeverGoBack s now cs → NeverGoBack s later cs
  later_back [] now later le on = tt
  later_back (c ∷ cs) now later le on = go (moment_of c) (λ x. later_back cs now later le x) on
    where
      go : (o : Option ℕ) → (NeverGoBack s now cs → NeverGoBack s later cs) →
          (or_now now o ≤ now) × NeverGoBack s (or_now now o) cs →
          (or_now later o ≤ later) × NeverGoBack s (or_now later o) cs
      go None more on = (omega arith, more on.1)
      go (Some t) more on = (omega (arith, on.0), on.1)

module _ {C S : Type 0} where
  -- without a time, the latest stays
  pub latest_kept : (e : Happening C S) (h : List (Happening C S)) → time_by e ≡ None → latest_at h ≡ latest_at (e ∷ h)
  latest_kept e h none = go (last_with time_by h) ∙ sym (ap (λ o. latest_of (found_with o e (last_with time_by h))) none)
    where
      go : (found : Option (Duration × List (Happening C S))) → latest_of found ≡ latest_of (found_with None e found)
      go None = refl
      go (Some found) = refl

module _ {C S : Type 0} (b : Base C S) where
  abbrev d : Settings C S
  d = b.made.directory

  at_most : (n : ℕ) → n ≤ n
  at_most n = omega arith

  -- the calls so far, at a later time
  on : (h : List (Happening C S)) → NeverGoBack d (latest_at h) (calls_of h) → (t : ℕ) → latest_at h ≤ t → NeverGoBack d t (calls_of h)
  on h back t after = later_back d (calls_of h) (latest_at h) t after back

  -- the calls since a peer was heard have no moment but a block's, which is that
  heard : (q : C) (t : Duration) (outcome : Outcome C S) (cs : List (Call C S)) → NeverGoBack d (as_nanos t) cs →
      NeverGoBack d (as_nanos t) (calls_for q t outcome ++ cs)
  heard q t (Outcome.Waits waiting) cs before = before
  heard q t (Outcome.Greets dialer info question) cs before = (at_most (as_nanos t), (at_most (as_nanos t), before))
  heard q t (Outcome.Takes infos) cs before = (at_most (as_nanos t), before)
  heard q t (Outcome.Answers reply) cs before = before
  heard q t (Outcome.Delivers message) cs before = before
  heard q t Outcome.Ignores cs before = before
  heard q t (Outcome.Breaks breach (Some taken)) cs before = (at_most (as_nanos t), before)
  heard q t (Outcome.Breaks breach None) cs before = before
  heard q t Outcome.IsEarly cs before = before
  heard q t Outcome.LacksChannel cs before = before
  heard q t (Outcome.Delays next) cs before = before
  heard q t (Outcome.Reads kind looked) cs before = before

  pub in_time : (h : List (Happening C S)) → AreRight b h → NeverGoBack d (latest_at h) (calls_of h)
  in_time [] right = tt
  in_time (Happening.Arrived n origin t space ∷ h) right = on h (in_time h right.2) (as_nanos t) right.1
  in_time (Happening.Claimed n q origin t ∷ h) right = on h (in_time h right.2) (as_nanos t) right.1
  in_time (Happening.Refused n q t why ∷ h) right = on h (in_time h right.2) (as_nanos t) right.1
  in_time (Happening.Proved n q t draw ∷ h) right = (at_most (as_nanos t), on h (in_time h right.2) (as_nanos t) right.1)
  in_time (Happening.Unproved n q t why ∷ h) right = on h (in_time h right.2) (as_nanos t) right.1
  in_time (Happening.Adopted n q t outbound ∷ h) right = on h (in_time h right.2) (as_nanos t) right.1
  in_time (Happening.Left n t ∷ h) right = on h (in_time h right.2) (as_nanos t) right.1
  in_time (Happening.Dialed n q t draw word ingress ∷ h) right =
      (at_most (as_nanos t), on h (in_time h right.2) (as_nanos t) right.1)
  in_time (Happening.Undialed t ∷ h) right = on h (in_time h right.2) (as_nanos t) right.1
  in_time (Happening.Reached n q t ∷ h) right = on h (in_time h right.2) (as_nanos t) right.1
  in_time (Happening.Mistaken n q t ∷ h) right = on h (in_time h right.2) (as_nanos t) right.1
  in_time (Happening.Ended n q t direction ∷ h) right = (at_most (as_nanos t), on h (in_time h right.2) (as_nanos t) right.1)
  in_time (Happening.Failed n q t direction ∷ h) right = on h (in_time h right.2) (as_nanos t) right.1
  in_time (Happening.Released q t ∷ h) right = (at_most (as_nanos t), on h (in_time h right.2) (as_nanos t) right.1)
  in_time (Happening.SetCame t index primary secondary torn ∷ h) right =
      (at_most (as_nanos t), on h (in_time h right.2) (as_nanos t) right.1)
  in_time (Happening.StaleSetCame index primary secondary ∷ h) right =
      subst (λ t. (t ≤ t) × NeverGoBack d t (calls_of h))
      (latest_kept (Happening.StaleSetCame index primary secondary) h refl) (at_most (latest_at h), in_time h right.2)
  in_time (Happening.StreamLate n t ∷ h) right = on h (in_time h right.2) (as_nanos t) right.1
  in_time (Happening.LinkLate n q t ∷ h) right = on h (in_time h right.2) (as_nanos t) right.1
  in_time (Happening.Written n q t ∷ h) right = on h (in_time h right.2) (as_nanos t) right.1
  in_time (Happening.Spoken n q t place ∷ h) right = on h (in_time h right.2) (as_nanos t) right.1
  in_time (Happening.Heard n q t owed cause outcome ∷ h) right =
      heard q t outcome (calls_of h) (on h (in_time h right.2) (as_nanos t) right.1)
  in_time (Happening.Asked n q t owed fits question ∷ h) right = on h (in_time h right.2) (as_nanos t) right.1
  in_time (Happening.Given infos t ∷ h) right = (at_most (as_nanos t), on h (in_time h right.2) (as_nanos t) right.1)
  in_time (Happening.Barred q t taken ∷ h) right = (at_most (as_nanos t), on h (in_time h right.2) (as_nanos t) right.1)
  in_time (Happening.Parted q t ∷ h) right = on h (in_time h right.2) (as_nanos t) right.1
  in_time (Happening.Passed t ∷ h) right =
      (at_most (as_nanos t), (at_most (as_nanos t), on h (in_time h right.2) (as_nanos t) right.1))
  in_time (Happening.Taken action ∷ h) right =
      subst (λ t. NeverGoBack d t (calls_of h)) (latest_kept (Happening.Taken action) h refl) (in_time h right.2)
