-- No number is a stream's that isn't proved and a link's: numbers rise, and a stream leaves as it becomes a
-- link.
use Rattle.std.proofs.Common.{◌≡◌, ℕ, ◌==◌, ◌<◌, Bool, true, false, List, [], ◌∷◌, Option, Some, None, find, refl, sym, ◌∙◌, ap, subst}
use Rattle.std.proofs.Common.{arith}
use Rattle.std.proofs.lemmas.Bool.Decides.{nat_tests}
use Rattle.std.specs.Prelude.{if◌then◌else◌, is_some}
use Rattle.std.specs.declared.time.Duration.{Duration}
use Rattle.p2p_discovery.specs.declared.types.ingress.Ingress.{Ingress}
use Rattle.p2p_tracker.specs.History.{same}
use Rattle.p2p_driver.specs.Arrivals.{has_number}
use Rattle.p2p_driver.specs.Happenings.{Happening, next_at, stream_at, came_by, leaves_by, claim_by, is_new, opened_by, ends_by}
use Rattle.p2p_driver.specs.Links.{link_of, link_with, link_as, taken_way, dial_with}
use Rattle.std.specs.declared.cmp.Ordering.{Ordering}
use Rattle.p2p_driver.specs.Drivers.{DriverView, Base, DriverStandsAt, IsRight, AreRight, s, link, is_claimed, is_claim_by}
use Rattle.p2p_driver.specs.declared.arrivals.Arrival.{Arrival}
use Rattle.p2p_driver.specs.declared.links.Held.{Held}
use Rattle.p2p_driver.proofs.StreamHistory.{stream_after, stream_later, next_stays, next_rises}
use Rattle.p2p_driver.proofs.LinkHistory.{Touch, touch_by, link_after, link_later, link_opens, link_adopts, link_dials}

-- the number of a link, if there is one
abbrev number_of : Option Held → ℕ
number_of None = 0
number_of (Some held) = held.number

-- a stream that is there after something was there before
was_there : {C : Type 0} (leaves : Bool) (claim : Option C) (o : Option (Arrival C)) →
    is_some (stream_after leaves claim o) ≡ true → is_some o ≡ true
was_there leaves claim None some = absurd cc
was_there leaves claim (Some a) some = refl

-- a link that is there after something was there before, with the same number
link_was : (ends : Bool) (touch : Touch) (o : Option Held) (held : Held) →
    link_after ends touch o ≡ Some held →
    (old : Held) × (o ≡ Some old) × (old.number ≡ held.number)
link_was ends touch None held is = absurd cc
link_was true touch (Some old) held is = absurd cc
link_was false touch (Some old) held is = (old, refl, ap number_of is)

-- who claims to be somebody is there
claims_is_some : {C : Type 0} (cmp : C → C → Ordering) (p : C) (o : Option (Arrival C)) →
    is_claim_by cmp p o ≡ true → is_some o ≡ true
claims_is_some cmp p None is = absurd cc
claims_is_some cmp p (Some a) is = refl

module _ {C S : Type 0} where
  -- what is no stream that came is of no number
  came_never : (n : ℕ) (e : Happening C S) → is_new e ≡ false → came_by n e ≡ None
  came_never n (Happening.Arrived m origin t space) new = absurd cc
  came_never n e new = refl

module _ {C S : Type 0} (b : Base C S) where
  -- a stream that comes has the next number
  new_is_next : (n : ℕ) (e : Happening C S) (h : List (Happening C S)) → IsRight b h e → is_new e ≡ true →
      (n == next_at h) ≡ false → came_by n e ≡ None
  new_is_next n (Happening.Arrived m origin t space) h right new other =
      ap (λ b. if b then Some (origin, t) else None) (differ m right.0)
    where
      differ : (m : ℕ) → m ≡ next_at h → (m == n) ≡ false
      differ m is = grind (arith, nat_tests)
  new_is_next n (Happening.Dialed m p t draw word ingress) h right new other = refl
  new_is_next n e h right new other = absurd cc

  -- by what is right no stream comes but with the next number
  came_not : (n : ℕ) (e : Happening C S) (h : List (Happening C S)) → IsRight b h e →
      (n == next_at h) ≡ false → came_by n e ≡ None
  came_not n e h right other = go (is_new e) refl
    where
      go : (new : Bool) → is_new e ≡ new → came_by n e ≡ None
      go true is = new_is_next n e h right is other
      go false is = came_never n e is

  -- a number below the next one stays below it
  stays_below : (n : ℕ) (e : Happening C S) (h : List (Happening C S)) → n < next_at h →
      n < next_at (e ∷ h)
  stays_below n e h less = go (is_new e) refl
    where
      go : (new : Bool) → is_new e ≡ new → n < next_at (e ∷ h)
      go true is = let more = next_rises e h is in grind (arith)
      go false is = subst (λ k. n < k) (sym (next_stays e h is)) less

  -- the stream of the next number is below the one after it
  next_below : (n : ℕ) (e : Happening C S) (h : List (Happening C S)) → IsRight b h e →
      is_some (stream_at n (e ∷ h)) ≡ true →
      (is_some (stream_at n h) ≡ true → n < next_at h) → n < next_at (e ∷ h)
  next_below n e h right some before = go (n == next_at h) (is_new e) refl refl
    where
      there : came_by n e ≡ None → n < next_at (e ∷ h)
      there none = stays_below n e h (before (was_there (leaves_by n e) (claim_by n e) (stream_at n h)
          (ap (λ o. is_some o) (sym (stream_later n e h none)) ∙ some)))

      go : (is_next new : Bool) → (n == next_at h) ≡ is_next → is_new e ≡ new → n < next_at (e ∷ h)
      go false new isnt is = there (came_not n e h right isnt)
      go true false same is = there (came_never n e is)
      go true true same is = let more = next_rises e h is in grind (arith, nat_tests)

  -- a stream that is there has a number below the next one
  pub below : (n : ℕ) (h : List (Happening C S)) → AreRight b h → is_some (stream_at n h) ≡ true →
      n < next_at h
  below n [] right some = absurd cc
  below n (e ∷ h) right some = next_below n e h right.0 some (below n h right.2)

  -- no stream has the number, nor will one have it
  abbrev pub IsUsed : ℕ → List (Happening C S) → Type 0
  IsUsed n h = (stream_at n h ≡ None) × (n < next_at h)

  used_later : (n : ℕ) (e : Happening C S) (h : List (Happening C S)) → IsRight b h e → IsUsed n h →
      IsUsed n (e ∷ h)
  used_later n e h right used = (
    stream_later n e h (came_not n e h right (other (next_at h) used.1))
        ∙ ap (λ o. stream_after (leaves_by n e) (claim_by n e) o) used.0,
    stays_below n e h used.1,
  )
    where
      other : (k : ℕ) → n < k → (n == k) ≡ false
      other k less = grind (arith, nat_tests)

  -- the number of a link is used: where neither a proof nor a dial begins one
  used_by_link : (q : C) (held : Held) (e : Happening C S) (h : List (Happening C S)) → IsRight b h e →
      opened_by (s b) q e ≡ None →
      ((old : Held) → link b q h ≡ Some old → IsUsed old.number h) →
      link b q (e ∷ h) ≡ Some held → IsUsed held.number (e ∷ h)
  used_by_link q held e h right opened before is =
      let old = link_was (ends_by (s b) q e) (touch_by (s b) q e) (link b q h) held
      (sym (link_later (s b) q e h opened) ∙ is) in
      used_later held.number e h right (subst (λ n. IsUsed n h) old.2 (before old.0 old.1))

  -- .. and where one does
  used_begun : (q : C) (held : Held) (e : Happening C S) (n : ℕ) (p : C) (new : Held) (h : List (Happening C S)) → IsRight b h e →
      IsUsed n (e ∷ h) → new.number ≡ n → link b q (e ∷ h) ≡ (if same (s b) p q then Some new else link b q h) →
      ((old : Held) → link b q h ≡ Some old → IsUsed old.number h) → link b q (e ∷ h) ≡ Some held → IsUsed held.number (e ∷ h)
  used_begun q held e n p new h right now number tied before is = go (same (s b) p q) (sym tied ∙ is)
    where
      go : (x : Bool) → (if x then Some new else link b q h) ≡ Some held → IsUsed held.number (e ∷ h)
      go true found = subst (λ k. IsUsed k (e ∷ h)) (sym number ∙ ap number_of found) now
      go false found = used_later held.number e h right (before held found)

  -- the number of a stream that was proved is used
  used_proof : (e : Happening C S) (n : ℕ) (p : C) (h : List (Happening C S)) → AreRight b h → is_claimed b h n p ≡ true →
      came_by n e ≡ None → claim_by n e ≡ None → leaves_by n e ≡ true → IsUsed n (e ∷ h)
  used_proof e n p h rights claimed came claim goes = (
    stream_later n e h came ∙ ap (λ x. stream_after x (claim_by n e) (stream_at n h)) goes
        ∙ ap (λ o. stream_after true o (stream_at n h)) claim ∙ leaves (stream_at n h),
    stays_below n e h (below n h rights (claims_is_some b.made.directory.cmp p (stream_at n h) claimed)),
  )
    where
      leaves : (o : Option (Arrival C)) → stream_after true None o ≡ None
      leaves None = refl
      leaves (Some a) = refl

  -- .. and that of a dial, which has the next one
  used_dial : (n : ℕ) (p : C) (t draw : Duration) (word : ℕ) (ingress : Ingress) (h : List (Happening C S)) → AreRight b h → n ≡ next_at h →
      IsUsed n (Happening.Dialed n p t draw word ingress ∷ h)
  used_dial n p t draw word ingress h rights next = (
    stream_later n e h refl ∙ none (stream_at n h) (below n h rights) next,
    (let more = next_rises e h refl in omega (arith, more, next)),
  )
    where
      e : Happening C S
      e = Happening.Dialed n p t draw word ingress

      none : (o : Option (Arrival C)) → (is_some o ≡ true → n < next_at h) → n ≡ next_at h → stream_after false None o ≡ None
      none None below is = refl
      none (Some a) below is = let less = below refl in absurd (omega (arith, less, is))

  itself : (n : ℕ) → (n == n) ≡ true
  itself n = grind (arith, nat_tests)

  -- the number of a link is used
  pub used : (h : List (Happening C S)) → AreRight b h → (q : C) (held : Held) → link b q h ≡ Some held →
      IsUsed held.number h
  used [] right q held is = absurd cc
  used (Happening.Proved n p t draw ∷ h) right q held is =
      used_begun q held (Happening.Proved n p t draw) n p (link_with n t) h right.0
      (used_proof (Happening.Proved n p t draw) n p h right.2 right.0.0 refl refl (itself n)) refl (link_opens (s b) q p n t draw h) (used h right.2 q) is
  used (Happening.Adopted n p t outbound ∷ h) right q held is =
      used_begun q held (Happening.Adopted n p t outbound) n p (link_as (taken_way outbound) n t) h right.0
      (used_proof (Happening.Adopted n p t outbound) n p h right.2 right.0.0 refl refl (itself n)) refl (link_adopts (s b) q p n t outbound h) (used h right.2 q) is
  used (Happening.Dialed n p t draw word ingress ∷ h) right q held is =
      used_begun q held (Happening.Dialed n p t draw word ingress) n p (dial_with n t) h right.0
      (used_dial n p t draw word ingress h right.2 right.0.number) refl (link_dials (s b) q p n t draw word ingress h) (used h right.2 q) is
  used (e ∷ h) right q held is = used_by_link q held e h right.0 refl (used h right.2 q) is

  -- so the number of a stream that is there is no link's
  pub unused : (h : List (Happening C S)) → AreRight b h → (n : ℕ) → is_some (stream_at n h) ≡ true →
      (q : C) (held : Held) → link b q h ≡ Some held → held.number ≡ n → ⊥
  unused h right n some q held is number =
      none (stream_at n h) some (subst (λ k. stream_at k h ≡ None) number (used h right q held is).0)
    where
      none : (o : Option (Arrival C)) → is_some o ≡ true → o ≡ None → ⊥
      none None some is = absurd cc
      none (Some a) some is = absurd cc

  -- .. as it is seen of a driver
  pub unused_next : (h : List (Happening C S)) (v : DriverView C S) → DriverStandsAt b h v → (q : C) (held : Held) →
      link_of b.made.directory.cmp v.links q ≡ Some held → held.number ≡ v.next → ⊥
  unused_next h v at q held is number = let below = used h at.right q held (sym (at.links q) ∙ is) in
      omega (arith, below.1, number, at.next)

  -- .. that of a stream that isn't proved is no link's
  pub unused_by : (h : List (Happening C S)) (v : DriverView C S) → DriverStandsAt b h v → (n : ℕ) →
      is_some (find (has_number n) v.arrivals) ≡ true → (q : C) (held : Held) →
      link_of (s b).cmp v.links q ≡ Some held → held.number ≡ n → ⊥
  unused_by h v at n some q held is = unused h at.right n
      (ap (λ o. is_some o) (sym (at.arrivals.each n)) ∙ some) q held (sym (at.links q) ∙ is)
