-- What is kept of the frames that were read of links, after one more happening.
use Rattle.std.proofs.Common.{◌≡◌, ℕ, zero, suc, ◌+◌, ◌==◌, ◌≢◌, ◌≤◌, Bool, true, false, ◌||◌, ◌&&◌, List, [], ◌∷◌, ◌++◌, Option, Some, None, refl, sym, ◌∙◌, ap, subst, arith}
use Rattle.std.specs.Prelude.{if◌then◌else◌, length, replicate, slice_index}
use Rattle.std.specs.List.{list_any}
use Rattle.std.specs.Option.{IsSomeAnd}
use Rattle.std.specs.Duration.{as_nanos}
use Rattle.std.specs.declared.time.Duration.{Duration}
use Rattle.std.proofs.lemmas.Bool.Decides.{nat_tests}
use Rattle.std.proofs.lemmas.List.{length-replicate}
use Rattle.std.proofs.Math.Bool.{and-false}
use Rattle.p2p_tracker.specs.History.{last_with, found_with}
use Rattle.p2p_driver.specs.Answers.{IsKeptAt}
use Rattle.p2p_driver.specs.Frames.{Cause, Outcome}
use Rattle.p2p_driver.specs.Happenings.{Happening}
use Rattle.p2p_driver.specs.Looked.{LookedView}
use Rattle.p2p_driver.specs.Meters.{MetersView}
use Rattle.p2p_driver.specs.Reading.{is_of, kind_at_rate, rate_at, begins_as, ends_as, read_by, read_in, IsMetered, IsMeteredIf, IsMeteredSince, AreMetered}
use Rattle.p2p_driver.specs.Reads.{reads_of, unread, kept_in, Takes}
use Rattle.p2p_driver.specs.declared.heads.Kind.{Kind}
use Rattle.p2p_driver.specs.declared.heads.Kind.TheVariants as kind
use Rattle.p2p_driver.specs.declared.pace.Pace.{Pace}
use Rattle.p2p_driver.specs.declared.rate.Rate.{Rate}
use Rattle.p2p_driver.proofs.Kept.{kept_later, kept_empty}

some_is : {A : Type 0} {x y : A} → Some x ≡ Some y → x ≡ y
some_is e = cc

some_isnt : (m : MetersView) → ¬ (Some m ≡ None)
some_isnt m is = cc

-- nothing is kept of what wasn't read
zeros : (k place : ℕ) → slice_index (replicate k 0) place ≡ 0
zeros zero place = refl
zeros (suc k) zero = refl
zeros (suc k) (suc place) = zeros k place

kept_zero : (place : Option ℕ) (k : ℕ) → kept_in place (unread k) ≡ 0
kept_zero None k = refl
kept_zero (Some place) k = zeros k place

-- a frame of another kind isn't counted
uncounted : (j n : ℕ) (place : Option ℕ) (k : Kind) (t : ℕ) → is_of place k ≡ false →
    (if (n == j) && is_of place k then t ∷ [] else []) ≡ []
uncounted j n place k t isnt = ap (λ b. if b then t ∷ [] else []) (ap (λ b. (n == j) && b) isnt ∙ and-false (n == j))

-- the kind of a frame says by which rate it is read
of_itself : (place : Option ℕ) → is_of place (kind_at_rate place) ≡ true
of_itself None = refl
of_itself (Some place) = grind (arith, nat_tests)

of_other : (place other : Option ℕ) → is_of other (kind_at_rate place) ≡ true → other ≡ place
of_other None None is = refl
of_other None (Some other) is = absurd cc
of_other (Some place) None is = absurd cc
of_other (Some place) (Some other) is = ap (λ (x : ℕ). Some x) (sym_nat place other is)
  where
    sym_nat : (place other : ℕ) → (place == other) ≡ true → other ≡ place
    sym_nat place other is = grind (arith, nat_tests)

module _ {C S : Type 0} (pace : Pace) where
  -- .. at a later time
  one_later : (now t n : ℕ) (since : List (Happening C S)) (m : MetersView) → now ≤ t → IsMetered pace now n since m → IsMetered pace t n since m
  one_later now t n since m after kept = record {
    count = kept.count;
    kept = λ place rate is. kept_later _ _ (read_in n place since) (kept_in place m) now t (kept.kept place rate is) after;
  }

  if_later : (b : Bool) (now t n : ℕ) (since : List (Happening C S)) (o : Option MetersView) → now ≤ t →
      IsMeteredIf b pace now n since o → IsMeteredIf b pace t n since o
  if_later true now t n since o after kept = kept
  if_later false now t n since None after kept = kept
  if_later false now t n since (Some m) after kept = one_later now t n since m after kept

  since_later : (now t n : ℕ) (found : Option (Duration × List (Happening C S))) (o : Option MetersView) → now ≤ t →
      IsMeteredSince pace now n found o → IsMeteredSince pace t n found o
  since_later now t n None o after kept = kept
  since_later now t n (Some found) o after kept = if_later (list_any (ends_as n) found.1) now t n found.1 o after kept

  pub metered_later : (now t : ℕ) (h : List (Happening C S)) (reads : List (ℕ × MetersView)) → now ≤ t →
      AreMetered pace now h reads → AreMetered pace t h reads
  metered_later now t h reads after kept n = since_later now t n (last_with (begins_as n) h) (reads_of reads n) after (kept n)

  -- .. after one that doesn't concern the link
  one_stays : (now n : ℕ) (e : Happening C S) (since : List (Happening C S)) (m : MetersView) →
      ((place : Option ℕ) → read_by n place e ≡ []) → IsMetered pace now n since m → IsMetered pace now n (e ∷ since) m
  one_stays now n e since m none kept = record {
    count = kept.count;
    kept = λ place rate is. subst (λ xs. IsKeptAt rate now (xs ++ read_in n place since) (kept_in place m)) (sym (none place)) (kept.kept place rate is);
  }

  if_stays : (b : Bool) (now n : ℕ) (e : Happening C S) (since : List (Happening C S)) (o : Option MetersView) →
      ((place : Option ℕ) → read_by n place e ≡ []) → IsMeteredIf b pace now n since o → IsMeteredIf b pace now n (e ∷ since) o
  if_stays true now n e since o none kept = kept
  if_stays false now n e since None none kept = kept
  if_stays false now n e since (Some m) none kept = one_stays now n e since m none kept

  since_stays : (now n : ℕ) (e : Happening C S) (found : Option (Duration × List (Happening C S))) (o : Option MetersView) →
      begins_as n e ≡ None → ends_as n e ≡ false → ((place : Option ℕ) → read_by n place e ≡ []) →
      IsMeteredSince pace now n found o → IsMeteredSince pace now n (found_with (begins_as n e) e found) o
  since_stays now n e None o begins ends none kept =
      subst (λ b. IsMeteredSince pace now n (found_with b e None) o) (sym begins) kept
  since_stays now n e (Some found) o begins ends none kept =
      subst (λ b. IsMeteredSince pace now n (found_with b e (Some found)) o) (sym begins)
      (subst (λ b. IsMeteredIf (b || list_any (ends_as n) found.1) pace now n (e ∷ found.1) o) (sym ends)
      (if_stays (list_any (ends_as n) found.1) now n e found.1 o none kept))

  pub metered_stays : (now : ℕ) (e : Happening C S) (h : List (Happening C S)) (reads : List (ℕ × MetersView)) →
      ((j : ℕ) → begins_as j e ≡ None) → ((j : ℕ) → ends_as j e ≡ false) → ((j : ℕ) (place : Option ℕ) → read_by j place e ≡ []) →
      AreMetered pace now h reads → AreMetered pace now (e ∷ h) reads
  metered_stays now e h reads begins ends none kept n =
      since_stays now n e (last_with (begins_as n) h) (reads_of reads n) (begins n) (ends n) (none n) (kept n)

  -- NOTHING WAS READ of a link that begins
  none_read : (now n k : ℕ) → k ≡ length pace.channels.items + length pace.channels.items → IsMetered {C = C} {S = S} pace now n [] (unread k)
  none_read now n k is = record {
    count = length-replicate k 0 ∙ is;
    kept = λ place rate has. subst (IsKeptAt rate now []) (sym (kept_zero place k)) (kept_empty _ _ now);
  }

  pub metered_begins : (now n k : ℕ) (t : Duration) (e : Happening C S) → ((j : ℕ) → begins_as j e ≡ (if n == j then Some t else None)) →
      ((j : ℕ) → ends_as j e ≡ false) → ((j : ℕ) (place : Option ℕ) → read_by j place e ≡ []) → (h : List (Happening C S)) (reads reads2 : List (ℕ × MetersView)) →
      k ≡ length pace.channels.items + length pace.channels.items → ((j : ℕ) → reads_of reads2 j ≡ (if j == n then Some (unread k) else reads_of reads j)) →
      AreMetered pace now h reads → AreMetered pace now (e ∷ h) reads2
  metered_begins now n k t e starts over none h reads reads2 is tied kept j =
      subst (λ o. IsMeteredSince pace now j (found_with o e (last_with (begins_as j) h)) (reads_of reads2 j)) (sym (starts j)) (go (n == j) refl)
    where
      go : (b : Bool) → (n == j) ≡ b → IsMeteredSince pace now j (found_with (if b then Some t else None) e (last_with (begins_as j) h)) (reads_of reads2 j)
      go true same = subst (λ o. IsSomeAnd o (IsMetered {C = C} {S = S} pace now j [])) (sym (tied j ∙ ap (λ b. if b then Some (unread k) else reads_of reads j) other))
          (none_read now j k is)
        where
          other : (j == n) ≡ true
          other = grind (arith, nat_tests)
      go false same = subst (IsMeteredSince pace now j (found_with None e (last_with (begins_as j) h)))
          (sym (tied j ∙ ap (λ b. if b then Some (unread k) else reads_of reads j) other))
          (stays (last_with (begins_as j) h) (kept j))
        where
          other : (j == n) ≡ false
          other = grind (arith, nat_tests)

          stays : (found : Option (Duration × List (Happening C S))) → IsMeteredSince pace now j found (reads_of reads j) →
              IsMeteredSince pace now j (found_with None e found) (reads_of reads j)
          stays None kept = kept
          stays (Some found) kept = subst (λ b. IsMeteredIf (b || list_any (ends_as j) found.1) pace now j (e ∷ found.1) (reads_of reads j)) (sym (over j))
              (if_stays (list_any (ends_as j) found.1) now j e found.1 (reads_of reads j) (none j) kept)

  -- NOTHING IS KEPT of a link that ended
  pub metered_ends : (now n : ℕ) (e : Happening C S) → ((j : ℕ) → begins_as j e ≡ None) → ((j : ℕ) → ends_as j e ≡ (n == j)) →
      ((j : ℕ) (place : Option ℕ) → read_by j place e ≡ []) → (h : List (Happening C S)) (reads reads2 : List (ℕ × MetersView)) →
      ((j : ℕ) → reads_of reads2 j ≡ (if j == n then None else reads_of reads j)) →
      AreMetered pace now h reads → AreMetered pace now (e ∷ h) reads2
  metered_ends now n e begins ends unread h reads reads2 tied kept j = go (n == j) refl
    where
      go : (b : Bool) → (n == j) ≡ b → IsMeteredSince pace now j (found_with (begins_as j e) e (last_with (begins_as j) h)) (reads_of reads2 j)
      go true same = subst (λ o. IsMeteredSince pace now j (found_with o e (last_with (begins_as j) h)) (reads_of reads2 j)) (sym (begins j))
          (gone (last_with (begins_as j) h))
        where
          other : (j == n) ≡ true
          other = grind (arith, nat_tests)

          none : reads_of reads2 j ≡ None
          none = tied j ∙ ap (λ b. if b then None else reads_of reads j) other

          gone : (found : Option (Duration × List (Happening C S))) → IsMeteredSince pace now j (found_with None e found) (reads_of reads2 j)
          gone None = none
          gone (Some found) = subst (λ b. IsMeteredIf (b || list_any (ends_as j) found.1) pace now j (e ∷ found.1) (reads_of reads2 j)) (sym (ends j ∙ same)) none
      go false same = subst (IsMeteredSince pace now j (found_with (begins_as j e) e (last_with (begins_as j) h)))
          (sym (tied j ∙ ap (λ b. if b then None else reads_of reads j) other))
          (since_stays now j e (last_with (begins_as j) h) (reads_of reads j) (begins j) (ends j ∙ same) (unread j) (kept j))
        where
          other : (j == n) ≡ false
          other = grind (arith, nat_tests)

  -- A FRAME MAY BE READ of a link of which something is kept
  -- one of no rate
  pub metered_free : (now n : ℕ) (p : C) (t : Duration) (owed : ℕ) (cause : Cause) (l : LookedView) (h : List (Happening C S))
      (reads : List (ℕ × MetersView)) → AreMetered pace now h reads →
      AreMetered pace now (Happening.Heard n p t owed cause (Outcome.Reads kind.Greeting l) ∷ h) reads
  metered_free now n p t owed cause l h reads kept =
      metered_stays now (Happening.Heard n p t owed cause (Outcome.Reads kind.Greeting l)) h reads (λ j. refl) (λ j. refl)
      (λ j place. uncounted j n place kind.Greeting (as_nanos t) (never place)) kept
    where
      never : (place : Option ℕ) → is_of place kind.Greeting ≡ false
      never None = refl
      never (Some place) = refl

  one_read : (now n : ℕ) (place : Option ℕ) (rate : Rate) (e : Happening C S) (since : List (Happening C S)) (m m2 : MetersView) →
      rate_at pace place ≡ Some rate → ((other : Option ℕ) → read_by n other e ≡ (if is_of other (kind_at_rate place) then now ∷ [] else [])) →
      Takes rate now place m m2 → IsMetered pace now n since m → IsMetered pace now n (e ∷ since) m2
  one_read now n place rate e since m m2 has reads takes kept = record {
    count = takes.count ∙ kept.count;
    kept = λ other r is. go other r is (is_of other (kind_at_rate place)) refl;
  }
    where
      go : (other : Option ℕ) (r : Rate) → rate_at pace other ≡ Some r → (b : Bool) → is_of other (kind_at_rate place) ≡ b →
          IsKeptAt r now (read_by n other e ++ read_in n other since) (kept_in other m2)
      go other r is true same = let at = of_other place other same in
          let rates : rate ≡ r = some_is (sym has ∙ ap (rate_at pace) (sym at) ∙ is) in
          subst (λ xs. IsKeptAt r now (xs ++ read_in n other since) (kept_in other m2))
          (sym (reads other ∙ ap (λ b. if b then now ∷ [] else []) same))
          (subst (λ x. IsKeptAt r now (now ∷ read_in n x since) (kept_in x m2)) (sym at)
          (subst (λ q. IsKeptAt q now (now ∷ read_in n place since) (kept_in place m2)) rates
          (takes.read (read_in n place since) (kept.kept place rate has)).1))
      go other r is false same =
          subst (λ xs. IsKeptAt r now (xs ++ read_in n other since) (kept_in other m2))
          (sym (reads other ∙ ap (λ b. if b then now ∷ [] else []) same))
          (subst (IsKeptAt r now (read_in n other since)) (sym (takes.others other (differs other same))) (kept.kept other r is))
        where
          differs : (other : Option ℕ) → is_of other (kind_at_rate place) ≡ false → other ≢ place
          differs other unlike at = let yes = ap (λ x. is_of x (kind_at_rate place)) at ∙ of_itself place in absurd cc

  -- .. by a happening that is one, of gossip or of the channel at a position
  pub metered_takes : (e : Happening C S) (n : ℕ) (now : ℕ) (place : Option ℕ) (rate : Rate)
      (h : List (Happening C S)) (reads reads2 : List (ℕ × MetersView)) (m m2 : MetersView) →
      ((j : ℕ) → begins_as j e ≡ None) → ((j : ℕ) → ends_as j e ≡ false) →
      ((j : ℕ) (other : Option ℕ) → read_by j other e ≡ (if (n == j) && is_of other (kind_at_rate place) then now ∷ [] else [])) →
      rate_at pace place ≡ Some rate →
      reads_of reads n ≡ Some m → reads_of reads2 n ≡ Some m2 → Takes rate now place m m2 →
      ((j : ℕ) → (j == n) ≡ false → reads_of reads2 j ≡ reads_of reads j) →
      AreMetered pace now h reads → AreMetered pace now (e ∷ h) reads2
  metered_takes e n now place rate h reads reads2 m m2 begins ends reading has old new takes others kept j =
      subst (λ o. IsMeteredSince pace now j (found_with o e (last_with (begins_as j) h)) (reads_of reads2 j)) (sym (begins j)) (go (n == j) refl)
    where
      go : (b : Bool) → (n == j) ≡ b → IsMeteredSince pace now j (found_with None e (last_with (begins_as j) h)) (reads_of reads2 j)
      go false same = subst (IsMeteredSince pace now j (found_with None e (last_with (begins_as j) h))) (sym (others j other))
          (subst (λ o. IsMeteredSince pace now j (found_with o e (last_with (begins_as j) h)) (reads_of reads j)) (begins j)
          (since_stays now j e (last_with (begins_as j) h) (reads_of reads j) (begins j) (ends j)
          (λ place2. reading j place2 ∙ ap (λ b. if b && is_of place2 (kind_at_rate place) then now ∷ [] else []) same) (kept j)))
        where
          other : (j == n) ≡ false
          other = grind (arith, nat_tests)
      go true same = at (last_with (begins_as j) h) (subst (IsMeteredSince pace now j (last_with (begins_as j) h)) (ap (reads_of reads) (sym is) ∙ old) (kept j))
        where
          is : n ≡ j
          is = grind (arith, nat_tests)

          counts : (place2 : Option ℕ) → read_by j place2 e ≡ (if is_of place2 (kind_at_rate place) then now ∷ [] else [])
          counts place2 = reading j place2 ∙ ap (λ b. if b && is_of place2 (kind_at_rate place) then now ∷ [] else []) same

          here : reads_of reads2 j ≡ Some m2
          here = ap (reads_of reads2) (sym is) ∙ new

          ended : (b : Bool) (since : List (Happening C S)) → IsMeteredIf b pace now j since (Some m) → IsMeteredIf b pace now j (e ∷ since) (Some m2)
          ended true since kept = absurd (some_isnt m kept)
          ended false since kept = one_read now j place rate e since m m2 has counts takes kept

          at : (found : Option (Duration × List (Happening C S))) → IsMeteredSince pace now j found (Some m) →
              IsMeteredSince pace now j (found_with None e found) (reads_of reads2 j)
          at None kept = absurd (some_isnt m kept)
          at (Some found) kept = subst (λ b. IsMeteredIf (b || list_any (ends_as j) found.1) pace now j (e ∷ found.1) (reads_of reads2 j)) (sym (ends j))
              (subst (IsMeteredIf (list_any (ends_as j) found.1) pace now j (e ∷ found.1)) (sym here)
              (ended (list_any (ends_as j) found.1) found.1 kept))

  pub metered_reads : (n : ℕ) (p : C) (t : Duration) (owed : ℕ) (cause : Cause) (place : Option ℕ) (l : LookedView) (rate : Rate)
      (h : List (Happening C S)) (reads reads2 : List (ℕ × MetersView)) (m m2 : MetersView) → rate_at pace place ≡ Some rate →
      reads_of reads n ≡ Some m → reads_of reads2 n ≡ Some m2 → Takes rate (as_nanos t) place m m2 →
      ((j : ℕ) → (j == n) ≡ false → reads_of reads2 j ≡ reads_of reads j) →
      AreMetered pace (as_nanos t) h reads →
      AreMetered pace (as_nanos t) (Happening.Heard n p t owed cause (Outcome.Reads (kind_at_rate place) l) ∷ h) reads2
  metered_reads n p t owed cause place l rate h reads reads2 m m2 has old new takes others kept =
      metered_takes (Happening.Heard n p t owed cause (Outcome.Reads (kind_at_rate place) l)) n (as_nanos t) place rate h reads reads2 m m2
      (λ j. refl) (λ j. refl) (λ j other. refl) has old new takes others kept

  -- A MESSAGE IS SAID
  pub metered_says : (n : ℕ) (p : C) (t : Duration) (at : ℕ) (rate : Rate)
      (h : List (Happening C S)) (reads reads2 : List (ℕ × MetersView)) (m m2 : MetersView) → rate_at pace (Some at) ≡ Some rate →
      reads_of reads n ≡ Some m → reads_of reads2 n ≡ Some m2 → Takes rate (as_nanos t) (Some at) m m2 →
      ((j : ℕ) → (j == n) ≡ false → reads_of reads2 j ≡ reads_of reads j) →
      AreMetered pace (as_nanos t) h reads → AreMetered pace (as_nanos t) (Happening.Spoken n p t at ∷ h) reads2
  metered_says n p t at rate h reads reads2 m m2 has old new takes others kept =
      metered_takes (Happening.Spoken n p t at) n (as_nanos t) (Some at) rate h reads reads2 m m2
      (λ j. refl) (λ j. refl) (λ j other. refl) has old new takes others kept
