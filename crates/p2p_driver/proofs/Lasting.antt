-- Links by their numbers: a link that is there began with its number, and hasn't ended since; no link began with the
-- number of a stream that isn't proved.
use Rattle.std.proofs.Common.{◌≡◌, ℕ, ◌==◌, ◌<◌, Bool, true, false, ◌||◌, List, [], ◌∷◌, Option, Some, None, find, refl, sym, ◌∙◌, ap, subst, arith}
use Rattle.std.specs.Prelude.{if◌then◌else◌, is_some}
use Rattle.std.specs.List.{list_any}
use Rattle.std.specs.Option.{IsSomeAnd}
use Rattle.std.specs.declared.time.Duration.{Duration}
use Rattle.std.proofs.lemmas.Bool.Decides.{nat_tests}
use Rattle.std.proofs.lemmas.Map.Lookups.{CmpEqualImpliesEq}
use Rattle.p2p_tracker.specs.Calls.{Settings}
use Rattle.p2p_tracker.specs.History.{same, last_with, found_with}
use Rattle.p2p_driver.specs.declared.arrivals.Arrival.{Arrival}
use Rattle.p2p_driver.specs.declared.links.Held.{Held}
use Rattle.p2p_driver.specs.declared.origin.Origin.{Origin}
use Rattle.p2p_driver.specs.Arrivals.{has_number}
use Rattle.p2p_driver.specs.Drivers.{DriverView, Base, DriverStandsAt, AreRight, IsLinkOf, link, is_claimed}
use Rattle.p2p_driver.specs.Happenings.{Happening, latest_at, next_at, stream_at, came_by, leaves_by, claim_by, opened_by, ends_by}
use Rattle.p2p_driver.specs.Links.{link_of, link_with, link_as, taken_way, dial_with}
use Rattle.p2p_driver.specs.Reading.{begins_as, ends_as, IsMetered, IsMeteredIf, IsMeteredSince}
use Rattle.p2p_driver.specs.Reads.{reads_of}
use Rattle.p2p_driver.specs.declared.links.Direction.{Direction}
use Rattle.p2p_driver.proofs.LinkHistory.{link_dials, touch_by, link_later, link_opens, link_adopts, ended_link}
use Rattle.p2p_driver.proofs.Numbers.{before, number_below, IsOver, still_over, left_by, one_number}
use Rattle.p2p_driver.proofs.StreamHistory.{stream_after, stream_later, next_rises}

some_is : {A : Type 0} {x y : A} → Some x ≡ Some y → x ≡ y
some_is e = cc

no_link : (held : Held) → ¬ (None ≡ Some held)
no_link held is = cc

differ : ¬ (false ≡ true)
differ is = cc

equal : (m n : ℕ) → (m == n) ≡ true → m ≡ n
equal m n is = grind (arith, nat_tests)

itself : (n : ℕ) → (n == n) ≡ true
itself n = grind (arith, nat_tests)

apart : (m n : ℕ) → ¬ (m ≡ n) → (m == n) ≡ false
apart m n isnt = go (m == n) refl
  where
    go : (b : Bool) → (m == n) ≡ b → b ≡ false
    go true is = absurd (isnt (equal m n is))
    go false is = refl

less_apart : (m n : ℕ) → m < n → (n == m) ≡ false
less_apart m n less = grind (arith, nat_tests)

-- a link began, and hasn't ended since
abbrev pub Lasts : {C S : Type 0} → ℕ → Option (Duration × List (Happening C S)) → Type 0
Lasts n None = ⊥
Lasts n (Some found) = list_any (ends_as n) found.1 ≡ false

module _ {C S : Type 0} (b : Base C S) where
  abbrev d : Settings C S
  d = b.made.directory

  -- A STREAM THAT ISN'T PROVED

  found_as : (e : Happening C S) (found : Option (Duration × List (Happening C S))) →
      is_some (found_with None e found) ≡ is_some found
  found_as e None = refl
  found_as e (Some found) = refl

  step : (e : Happening C S) (h : List (Happening C S)) (n : ℕ) → begins_as n e ≡ None → (n < next_at h → came_by n e ≡ None) →
      (is_some (last_with (begins_as n) h) ≡ true → IsOver h n) → is_some (last_with (begins_as n) (e ∷ h)) ≡ true → IsOver (e ∷ h) n
  step e h n none came over is =
      let was = over (sym (found_as e (last_with (begins_as n) h)) ∙ sym (ap (λ o. is_some (found_with o e (last_with (begins_as n) h))) none) ∙ is) in
      still_over e h n (came was.1) was

  -- a stream that was proved left
  proved_over : (e : Happening C S) (m : ℕ) (r : C) (t : Duration) (h : List (Happening C S)) → AreRight b h → is_claimed b h m r ≡ true →
      ((n : ℕ) → came_by n e ≡ None) → claim_by m e ≡ None → leaves_by m e ≡ (m == m) →
      ((n : ℕ) → begins_as n e ≡ (if m == n then Some t else None)) → (n : ℕ) → (is_some (last_with (begins_as n) h) ≡ true → IsOver h n) →
      is_some (last_with (begins_as n) (e ∷ h)) ≡ true → IsOver (e ∷ h) n
  proved_over e m r t h right claimed came claim leaves begins n over is = go (m == n) refl
    where
      go : (x : Bool) → (m == n) ≡ x → IsOver (e ∷ h) n
      go true at = subst (IsOver (e ∷ h)) (equal m n at) (left_by b e m r h right claimed (came m) claim (leaves ∙ itself m))
      go false at = step e h n (begins n ∙ ap (λ x. if◌then◌else◌ {A = Option Duration} x (Some t) None) at) (λ below. came n) over is

  -- a link that began was a stream, which left
  began_over : (h : List (Happening C S)) → AreRight b h → (n : ℕ) → is_some (last_with (begins_as n) h) ≡ true → IsOver h n
  began_over [] right n is = absurd cc
  began_over (Happening.Arrived m origin t space ∷ h) right n is = step (Happening.Arrived m origin t space) h n refl
      (λ below. ap (λ e. if◌then◌else◌ {A = Option (Origin × Duration)} e (Some (origin, t)) None) (differs right.0.0 below)) (began_over h right.2 n) is
    where
      differs : m ≡ next_at h → n < next_at h → (m == n) ≡ false
      differs next below = grind (arith, nat_tests)
  began_over (Happening.Proved m r t draw ∷ h) right n is = proved_over (Happening.Proved m r t draw) m r t h right.2 right.0.0
      (λ n. refl) refl refl (λ n. refl) n (began_over h right.2 n) is
  began_over (Happening.Adopted m r t outbound ∷ h) right n is = proved_over (Happening.Adopted m r t outbound) m r t h right.2 right.0.0
      (λ n. refl) refl refl (λ n. refl) n (began_over h right.2 n) is
  began_over (Happening.Dialed m r t draw word ingress ∷ h) right n is = go (m == n) refl (began_over h right.2 n)
    where
      e : Happening C S
      e = Happening.Dialed m r t draw word ingress

      -- no stream has the next number
      none : (o : Option (Arrival C)) → (is_some o ≡ true → m < next_at h) → stream_after false None o ≡ None
      none None below = refl
      none (Some a) below = let less = below refl in let next = right.0.number in absurd (omega (arith, less, next))

      go : (x : Bool) → (m == n) ≡ x → (is_some (last_with (begins_as n) h) ≡ true → IsOver h n) → IsOver (e ∷ h) n
      go true at over = subst (IsOver (e ∷ h)) (equal m n at) (
        stream_later m e h refl ∙ none (stream_at m h) (number_below b h right.2 m),
        (let more = next_rises e h refl in let next = right.0.number in omega (arith, more, next)),
      )
      go false at over = step e h n (ap (λ x. if◌then◌else◌ {A = Option Duration} x (Some t) None) at) (λ below. refl) over is
  began_over (e ∷ h) right n is = step e h n refl (λ below. refl) (began_over h right.2 n) is

  -- nothing is kept of a link with the next number
  pub unread_next : (h : List (Happening C S)) (v : DriverView C S) → DriverStandsAt b h v → reads_of v.reads v.next ≡ None
  unread_next h v at = go (last_with (begins_as v.next) h) refl (at.reads v.next)
    where
      go : (found : Option (Duration × List (Happening C S))) → last_with (begins_as v.next) h ≡ found →
          IsMeteredSince b.pace (latest_at h) v.next found (reads_of v.reads v.next) → reads_of v.reads v.next ≡ None
      go None is kept = kept
      go (Some found) is kept = let over = began_over h at.right v.next (ap is_some is) in
          absurd (omega (arith, over.1, at.next))

  -- nothing is kept of a link with the number of such a stream
  pub unread_by : (h : List (Happening C S)) (v : DriverView C S) → DriverStandsAt b h v → (n : ℕ) →
      is_some (find (has_number n) v.arrivals) ≡ true → reads_of v.reads n ≡ None
  unread_by h v at n some = go (last_with (begins_as n) h) refl (at.reads n)
    where
      there : is_some (stream_at n h) ≡ true
      there = ap is_some (sym (at.arrivals.each n)) ∙ some

      go : (found : Option (Duration × List (Happening C S))) → last_with (begins_as n) h ≡ found →
          IsMeteredSince b.pace (latest_at h) n found (reads_of v.reads n) → reads_of v.reads n ≡ None
      go None is kept = kept
      go (Some found) is kept = let over = began_over h at.right n (ap is_some is) in
          absurd (differ (sym (ap is_some over.0) ∙ there))

  -- A LINK THAT THERE IS
  module _ (exact : CmpEqualImpliesEq b.made.directory.cmp) where
    abbrev Last : List (Happening C S) → Type 0
    Last h = (p : C) (held : Held) → link b p h ≡ Some held → Lasts held.number (last_with (begins_as held.number) h)

    lasts_on : (e : Happening C S) (n : ℕ) (found : Option (Duration × List (Happening C S))) → begins_as n e ≡ None → ends_as n e ≡ false →
        Lasts n found → Lasts n (found_with (begins_as n e) e found)
    lasts_on e n None none ends lasts = absurd lasts
    lasts_on e n (Some found) none ends lasts = subst (λ o. Lasts n (found_with o e (Some found))) (sym none)
        (ap (λ x. x || list_any (ends_as n) found.1) ends ∙ lasts)

    still : (e : Happening C S) (h : List (Happening C S)) → ((p : C) → opened_by d p e ≡ None) → ((n : ℕ) → begins_as n e ≡ None) →
        ((n : ℕ) → ends_as n e ≡ false) → Last h → Last (e ∷ h)
    still e h opens none ends last p held is =
        let was = before (ends_by d p e) (touch_by d p e) (link b p h) held (sym (link_later d p e h (opens p)) ∙ is) in
        subst (λ n. Lasts n (last_with (begins_as n) (e ∷ h))) was.2
        (lasts_on e was.0.number (last_with (begins_as was.0.number) h) (none was.0.number) (ends was.0.number) (last p was.0 was.1))

    -- a link began
    begun : (e : Happening C S) (m : ℕ) (r : C) (t : Duration) (new : Held) (h : List (Happening C S)) →
        ((n : ℕ) → begins_as n e ≡ (if m == n then Some t else None)) → ((n : ℕ) → ends_as n e ≡ false) →
        ((p : C) → link b p (e ∷ h) ≡ (if same d r p then Some new else link b p h)) → new.number ≡ m → Last h → Last (e ∷ h)
    begun e m r t new h begins ends tied number last p held is = go (same d r p) (sym (tied p) ∙ is)
      where
        by : (n : ℕ) (x : Bool) → (m == n) ≡ x → (x ≡ false → Lasts n (last_with (begins_as n) h)) → Lasts n (last_with (begins_as n) (e ∷ h))
        by n true at rest = subst (λ o. Lasts n (found_with o e (last_with (begins_as n) h)))
            (sym (begins n ∙ ap (λ x. if◌then◌else◌ {A = Option Duration} x (Some t) None) at)) refl
        by n false at rest = lasts_on e n (last_with (begins_as n) h)
            (begins n ∙ ap (λ x. if◌then◌else◌ {A = Option Duration} x (Some t) None) at) (ends n) (rest refl)

        go : (x : Bool) → (if x then Some new else link b p h) ≡ Some held → Lasts held.number (last_with (begins_as held.number) (e ∷ h))
        go true is = by held.number true (ap (λ k. m == k) (sym (ap (λ (y : Held). y.number) (some_is is)) ∙ number) ∙ itself m) (λ isnt. absurd cc)
        go false is = by held.number (m == held.number) refl (λ isnt. last p held is)

    -- .. or ended
    ended : (e : Happening C S) (m : ℕ) (r : C) (direction : Direction) (h : List (Happening C S)) → AreRight b h → IsLinkOf b h m r direction →
        ((n : ℕ) → begins_as n e ≡ None) → ((n : ℕ) → ends_as n e ≡ (m == n)) →
        ((p : C) → link b p (e ∷ h) ≡ (if same d r p then None else link b p h)) → Last h → Last (e ∷ h)
    ended e m r direction h right of_r begins ends tied last p held is = go (same d r p) refl (sym (tied p) ∙ is)
      where
        other : (o : Option Held) → link b r h ≡ o → IsSomeAnd o (λ held. (held.number ≡ m) × (held.direction ≡ direction)) → link b p h ≡ Some held → same d r p ≡ false → ¬ (m ≡ held.number)
        other None at is of_p differ number = is
        other (Some g) at is of_p differ number = let one = one_number b exact h right r p g held at of_p (is.0 ∙ number) in absurd cc

        go : (x : Bool) → same d r p ≡ x → (if x then None else link b p h) ≡ Some held → Lasts held.number (last_with (begins_as held.number) (e ∷ h))
        go true at is = absurd (no_link held is)
        go false at is = lasts_on e held.number (last_with (begins_as held.number) h) (begins held.number)
            (ends held.number ∙ apart m held.number (other (link b r h) refl of_r is at)) (last p held is)

    lasting : (h : List (Happening C S)) → AreRight b h → Last h
    lasting [] right = λ p held is. absurd (no_link held is)
    lasting (Happening.Arrived n origin t space ∷ h) right = still (Happening.Arrived n origin t space) h (λ p. refl) (λ n. refl) (λ n. refl) (lasting h right.2)
    lasting (Happening.Claimed n r origin t ∷ h) right = still (Happening.Claimed n r origin t) h (λ p. refl) (λ n. refl) (λ n. refl) (lasting h right.2)
    lasting (Happening.Refused n r t why ∷ h) right = still (Happening.Refused n r t why) h (λ p. refl) (λ n. refl) (λ n. refl) (lasting h right.2)
    lasting (Happening.Proved n r t draw ∷ h) right =
        begun (Happening.Proved n r t draw) n r t (link_with n t) h (λ n. refl) (λ n. refl) (λ p. link_opens d p r n t draw h) refl (lasting h right.2)
    lasting (Happening.Adopted n r t outbound ∷ h) right = begun (Happening.Adopted n r t outbound) n r t (link_as (taken_way outbound) n t) h
        (λ n. refl) (λ n. refl) (λ p. link_adopts d p r n t outbound h) refl (lasting h right.2)
    lasting (Happening.Unproved n r t why ∷ h) right = still (Happening.Unproved n r t why) h (λ p. refl) (λ n. refl) (λ n. refl) (lasting h right.2)
    lasting (Happening.Left n t ∷ h) right = still (Happening.Left n t) h (λ p. refl) (λ n. refl) (λ n. refl) (lasting h right.2)
    lasting (Happening.Ended n r t direction ∷ h) right = ended (Happening.Ended n r t direction) n r direction h right.2 right.0.0 (λ n. refl) (λ n. refl)
        (λ p. link_later d p (Happening.Ended n r t direction) h refl ∙ ended_link (same d r p) (link b p h)) (lasting h right.2)
    lasting (Happening.Failed n r t direction ∷ h) right = ended (Happening.Failed n r t direction) n r direction h right.2 right.0.0 (λ n. refl) (λ n. refl)
        (λ p. link_later d p (Happening.Failed n r t direction) h refl ∙ ended_link (same d r p) (link b p h)) (lasting h right.2)
    lasting (Happening.StreamLate n t ∷ h) right = still (Happening.StreamLate n t) h (λ p. refl) (λ n. refl) (λ n. refl) (lasting h right.2)
    lasting (Happening.LinkLate n r t ∷ h) right = still (Happening.LinkLate n r t) h (λ p. refl) (λ n. refl) (λ n. refl) (lasting h right.2)
    lasting (Happening.Dialed n r t draw word ingress ∷ h) right = begun (Happening.Dialed n r t draw word ingress) n r t (dial_with n t) h
        (λ n. refl) (λ n. refl) (λ p. link_dials d p r n t draw word ingress h) refl (lasting h right.2)
    lasting (Happening.Reached n r t ∷ h) right = still (Happening.Reached n r t) h (λ p. refl) (λ n. refl) (λ n. refl) (lasting h right.2)
    lasting (Happening.Mistaken n r t ∷ h) right = still (Happening.Mistaken n r t) h (λ p. refl) (λ n. refl) (λ n. refl) (lasting h right.2)
    lasting (Happening.Written n r t ∷ h) right = still (Happening.Written n r t) h (λ p. refl) (λ n. refl) (λ n. refl) (lasting h right.2)
    lasting (Happening.Spoken n r t place ∷ h) right = still (Happening.Spoken n r t place) h (λ p. refl) (λ n. refl) (λ n. refl) (lasting h right.2)
    lasting (Happening.Heard n r t owed cause outcome ∷ h) right =
        still (Happening.Heard n r t owed cause outcome) h (λ p. refl) (λ n. refl) (λ n. refl) (lasting h right.2)
    lasting (Happening.Asked n r t owed fits question ∷ h) right =
        still (Happening.Asked n r t owed fits question) h (λ p. refl) (λ n. refl) (λ n. refl) (lasting h right.2)
    lasting (e ∷ h) right = still e h (λ p. refl) (λ n. refl) (λ n. refl) (lasting h right.2)

    -- what is kept of a link that there is, and of what was done since it began
    pub metered_by : (h : List (Happening C S)) (v : DriverView C S) → DriverStandsAt b h v → (p : C) (held : Held) (n : ℕ) →
        link_of d.cmp v.links p ≡ Some held → held.number ≡ n →
        (found : Duration × List (Happening C S)) × (last_with (begins_as n) h ≡ Some found)
        × IsSomeAnd (reads_of v.reads n) (IsMetered b.pace v.latest n found.1)
    metered_by h v at p held n linked number =
        go (last_with (begins_as n) h) refl (subst (λ n. Lasts n (last_with (begins_as n) h)) number (lasting h at.right p held (sym (at.links p) ∙ linked)))
        (subst (λ l. IsMeteredSince b.pace l n (last_with (begins_as n) h) (reads_of v.reads n)) (sym at.latest) (at.reads n))
      where
        go : (found : Option (Duration × List (Happening C S))) → last_with (begins_as n) h ≡ found → Lasts n found →
            IsMeteredSince b.pace v.latest n found (reads_of v.reads n) →
            (found : Duration × List (Happening C S)) × (last_with (begins_as n) h ≡ Some found)
            × IsSomeAnd (reads_of v.reads n) (IsMetered b.pace v.latest n found.1)
        go None is lasts kept = absurd lasts
        go (Some found) is lasts kept = (found, is, subst (λ x. IsMeteredIf x b.pace v.latest n found.1 (reads_of v.reads n)) lasts kept)
