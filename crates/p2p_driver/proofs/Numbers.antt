-- No two links have one number.
use Rattle.std.proofs.Common.{◌≡◌, ℕ, ◌==◌, ◌<◌, ◌≤◌, Bool, true, false, cond, List, [], ◌∷◌, Option, Some, None, find, refl, sym, ◌∙◌, ap, subst}
use Rattle.std.proofs.Common.{arith}
use Rattle.std.proofs.lemmas.Bool.Decides.{nat_tests}
use Rattle.std.proofs.lemmas.Map.Views.{tells_apart}
use Rattle.std.proofs.lemmas.Map.Lookups.{CmpEqualImpliesEq}
use Rattle.std.specs.Prelude.{if◌then◌else◌, is_some}
use Rattle.std.specs.declared.time.Duration.{Duration}
use Rattle.p2p_tracker.specs.Calls.{Settings}
use Rattle.p2p_tracker.specs.History.{same}
use Rattle.p2p_driver.specs.declared.arrivals.Arrival.{Arrival}
use Rattle.p2p_driver.specs.declared.links.Held.{Held}
use Rattle.p2p_driver.specs.declared.origin.Origin.{Origin}
use Rattle.p2p_driver.specs.Arrivals.{has_number}
use Rattle.p2p_driver.specs.Happenings.{Happening, next_at, stream_at, came_by, leaves_by, claim_by, opened_by, ends_by, is_new}
use Rattle.p2p_driver.specs.Links.{link_with, link_as, taken_way, dial_with}
use Rattle.p2p_driver.specs.Drivers.{Base, AreRight, Rise, link, is_claimed, is_claim_by}
use Rattle.p2p_driver.proofs.Budget.{streams_of}
use Rattle.p2p_driver.proofs.LinkHistory.{Touch, touch_by, link_after, link_later, link_opens, link_adopts, link_dials}
use Rattle.p2p_driver.proofs.StreamHistory.{stream_after, stream_later, next_stays, next_rises}

some_is : {A : Type 0} {x y : A} → Some x ≡ Some y → x ≡ y
some_is e = cc

no_link : (g : Held) → ¬ (None ≡ Some g)
no_link g is = cc

itself : (n : ℕ) → (n == n) ≡ true
itself n = grind (arith, nat_tests)

-- a link that is there was there before, of the same number
pub before : (ends : Bool) (touch : Touch) (o : Option Held) (g : Held) → link_after ends touch o ≡ Some g →
    (g0 : Held) × (o ≡ Some g0) × (g0.number ≡ g.number)
before ends touch None g is = absurd cc
before true touch (Some held) g is = absurd cc
before false touch (Some held) g is = (held, refl, ap (λ (x : Held). x.number) (some_is is))

module _ {C : Type 0} where
  -- a number that is found is below the last
  found_below : (m k : ℕ) (xs : List (Arrival C)) → Rise m xs k → (n : ℕ) → is_some (find (has_number n) xs) ≡ true → n < k
  found_below m k [] rise n found = absurd cc
  found_below m k (a ∷ xs) rise n found = go (a.number == n) refl (λ found. found_below a.number k xs rise.1 n found) found
    where
      above : (j : ℕ) (ys : List (Arrival C)) → Rise j ys k → j < k
      above j [] rise = rise
      above j (y ∷ ys) rise = let further = above y.number ys rise.1 in omega (arith, rise.0, further)

      go : (e : Bool) → (a.number == n) ≡ e → (is_some (find (has_number n) xs) ≡ true → n < k) →
          is_some (cond e (Some a) (find (has_number n) xs)) ≡ true → n < k
      go true is rest found = let less = above a.number xs rise.1 in grind (arith, nat_tests)
      go false is rest found = rest found

module _ {C S : Type 0} where
  -- stream n came, and left
  abbrev pub IsOver : List (Happening C S) → ℕ → Type 0
  IsOver h n = (stream_at n h ≡ None) × (n < next_at h)

  no_fewer : (e : Happening C S) (h : List (Happening C S)) → next_at h ≤ next_at (e ∷ h)
  no_fewer e h = go (is_new e) refl
    where
      go : (b : Bool) → is_new e ≡ b → next_at h ≤ next_at (e ∷ h)
      go true is = omega (arith, next_rises e h is)
      go false is = omega (arith, next_stays e h is)

  pub still_over : (e : Happening C S) (h : List (Happening C S)) (n : ℕ) → came_by n e ≡ None → IsOver h n → IsOver (e ∷ h) n
  still_over e h n none over = (
    stream_later n e h none ∙ ap (stream_after (leaves_by n e) (claim_by n e)) over.0,
    omega (arith, no_fewer e h, over.1),
  )

module _ {C S : Type 0} (b : Base C S) where
  abbrev pub d : Settings C S
  d = b.made.directory

  pub claimed_is_there : (h : List (Happening C S)) (n : ℕ) (p : C) → is_claimed b h n p ≡ true → is_some (stream_at n h) ≡ true
  claimed_is_there h n p is = go (stream_at n h) is
    where
      go : (o : Option (Arrival C)) → is_claim_by b.made.directory.cmp p o ≡ true → is_some o ≡ true
      go None is = absurd cc
      go (Some a) is = refl

  pub number_below : (h : List (Happening C S)) → AreRight b h → (n : ℕ) → is_some (stream_at n h) ≡ true → n < next_at h
  number_below h right n is = let few = streams_of b h right in
      found_below 0 (next_at h) few.streams few.are.rise n (ap is_some (few.are.each n) ∙ is)

  -- a stream that is there isn't over
  pub not_over : (h : List (Happening C S)) (n m : ℕ) → n ≡ m → is_some (stream_at n h) ≡ true → ¬ (IsOver h m)
  not_over h n m is there over = let none = sym (ap (λ k. is_some (stream_at k h)) is) ∙ there in
      let nothing = ap is_some over.0 in absurd cc

  -- where no link begins
  step : (e : Happening C S) (h : List (Happening C S)) (p : C) → opened_by d p e ≡ None →
      ((n : ℕ) → n < next_at h → came_by n e ≡ None) →
      ((g : Held) → link b p h ≡ Some g → IsOver h g.number) →
      (g : Held) → link b p (e ∷ h) ≡ Some g → IsOver (e ∷ h) g.number
  step e h p opens none over g is =
      let was = before (ends_by d p e) (touch_by d p e) (link b p h) g (sym (link_later d p e h opens) ∙ is) in
      let was_over = over was.0 was.1 in
      subst (IsOver (e ∷ h)) was.2 (still_over e h was.0.number (none was.0.number was_over.1) was_over)

  -- no stream has the next number
  next_is_over : (e : Happening C S) (h : List (Happening C S)) → AreRight b h → (n : ℕ) → n ≡ next_at h → is_new e ≡ true →
      came_by n e ≡ None → leaves_by n e ≡ false → claim_by n e ≡ None → IsOver (e ∷ h) n
  next_is_over e h right n next new none leaves claim = (
    stream_later n e h none ∙ ap (λ x. stream_after x (claim_by n e) (stream_at n h)) leaves
        ∙ ap (λ o. stream_after false o (stream_at n h)) claim ∙ go (stream_at n h) (number_below h right n),
    omega (arith, next_rises e h new, next),
  )
    where
      go : (o : Option (Arrival C)) → (is_some o ≡ true → n < next_at h) → stream_after false None o ≡ None
      go None below = refl
      go (Some a) below = let less = below refl in absurd (omega (arith, less, next))

  -- a stream that was proved left
  pub left_by : (e : Happening C S) (n : ℕ) (r : C) (h : List (Happening C S)) → AreRight b h → is_claimed b h n r ≡ true →
      came_by n e ≡ None → claim_by n e ≡ None → leaves_by n e ≡ true → IsOver (e ∷ h) n
  left_by e n r h right claimed none claim leaves = (
    stream_later n e h none ∙ ap (λ x. stream_after x (claim_by n e) (stream_at n h)) leaves
        ∙ ap (λ o. stream_after true o (stream_at n h)) claim ∙ gone (stream_at n h),
    omega (arith, no_fewer e h, number_below h right n (claimed_is_there h n r claimed)),
  )
    where
      gone : (o : Option (Arrival C)) → stream_after true None o ≡ None
      gone None = refl
      gone (Some a) = refl

  -- .. where a link began on it
  over_begun : (e : Happening C S) (n : ℕ) (r : C) (new : Held) (h : List (Happening C S)) (p : C) (g : Held) → IsOver (e ∷ h) n → new.number ≡ n →
      ((m : ℕ) → came_by m e ≡ None) → link b p (e ∷ h) ≡ (if same d r p then Some new else link b p h) →
      link b p (e ∷ h) ≡ Some g → (link b p h ≡ Some g → IsOver h g.number) → IsOver (e ∷ h) g.number
  over_begun e n r new h p g over number came tied is rest = go (same d r p) (sym tied ∙ is)
    where
      go : (x : Bool) → (if x then Some new else link b p h) ≡ Some g → IsOver (e ∷ h) g.number
      go true is = subst (IsOver (e ∷ h)) (sym number ∙ ap (λ (x : Held). x.number) (some_is is)) over
      go false is = still_over e h g.number (came g.number) (rest is)

  -- the stream of each link came, and left
  pub over : (h : List (Happening C S)) → AreRight b h → (p : C) (g : Held) → link b p h ≡ Some g → IsOver h g.number
  over [] right p g is = absurd cc
  over (Happening.Arrived n origin t space ∷ h) right p g is = step (Happening.Arrived n origin t space) h p refl (λ m below. other m right.0.0 below) (λ g is. over h right.2 p g is) g is
    where
      other : (m : ℕ) → n ≡ next_at h → m < next_at h → came_by {C = C} {S = S} m (Happening.Arrived n origin t space) ≡ None
      other m next below = ap (λ e. if◌then◌else◌ {A = Option (Origin × Duration)} e (Some (origin, t)) None) (differs next below)
        where
          differs : n ≡ next_at h → m < next_at h → (n == m) ≡ false
          differs next below = grind (arith, nat_tests)
  over (Happening.Claimed n r origin t ∷ h) right p g is = step (Happening.Claimed n r origin t) h p refl (λ n below. refl) (λ g is. over h right.2 p g is) g is
  over (Happening.Refused n r t why ∷ h) right p g is = step (Happening.Refused n r t why) h p refl (λ n below. refl) (λ g is. over h right.2 p g is) g is
  over (Happening.Proved n r t draw ∷ h) right p g is = let e : Happening C S = Happening.Proved n r t draw in
      over_begun e n r (link_with n t) h p g (left_by e n r h right.2 right.0.0 refl refl (itself n)) refl (λ m. refl)
      (link_opens d p r n t draw h) is (λ is. over h right.2 p g is)
  over (Happening.Adopted n r t outbound ∷ h) right p g is = let e : Happening C S = Happening.Adopted n r t outbound in
      over_begun e n r (link_as (taken_way outbound) n t) h p g (left_by e n r h right.2 right.0.0 refl refl (itself n)) refl (λ m. refl)
      (link_adopts d p r n t outbound h) is (λ is. over h right.2 p g is)
  over (Happening.Unproved n r t why ∷ h) right p g is = step (Happening.Unproved n r t why) h p refl (λ n below. refl) (λ g is. over h right.2 p g is) g is
  over (Happening.Left n t ∷ h) right p g is = step (Happening.Left n t) h p refl (λ n below. refl) (λ g is. over h right.2 p g is) g is
  over (Happening.Dialed n r t draw word ingress ∷ h) right p g is = let e : Happening C S = Happening.Dialed n r t draw word ingress in
      over_begun e n r (dial_with n t) h p g (next_is_over e h right.2 n right.0.number refl refl refl refl) refl (λ m. refl)
      (link_dials d p r n t draw word ingress h) is (λ is. over h right.2 p g is)
  over (Happening.Reached n r t ∷ h) right p g is = step (Happening.Reached n r t) h p refl (λ n below. refl) (λ g is. over h right.2 p g is) g is
  over (Happening.Mistaken n r t ∷ h) right p g is = step (Happening.Mistaken n r t) h p refl (λ n below. refl) (λ g is. over h right.2 p g is) g is
  over (Happening.Ended n r t direction ∷ h) right p g is = step (Happening.Ended n r t direction) h p refl (λ n below. refl) (λ g is. over h right.2 p g is) g is
  over (Happening.Failed n r t direction ∷ h) right p g is = step (Happening.Failed n r t direction) h p refl (λ n below. refl) (λ g is. over h right.2 p g is) g is
  over (Happening.StreamLate n t ∷ h) right p g is = step (Happening.StreamLate n t) h p refl (λ n below. refl) (λ g is. over h right.2 p g is) g is
  over (Happening.LinkLate n r t ∷ h) right p g is = step (Happening.LinkLate n r t) h p refl (λ n below. refl) (λ g is. over h right.2 p g is) g is
  over (Happening.Written n r t ∷ h) right p g is = step (Happening.Written n r t) h p refl (λ n below. refl) (λ g is. over h right.2 p g is) g is
  over (Happening.Spoken n r t place ∷ h) right p g is = step (Happening.Spoken n r t place) h p refl (λ n below. refl) (λ g is. over h right.2 p g is) g is
  over (Happening.Heard n r t owed cause outcome ∷ h) right p g is = step (Happening.Heard n r t owed cause outcome) h p refl (λ n below. refl) (λ g is. over h right.2 p g is) g is
  over (Happening.Asked n r t owed fits question ∷ h) right p g is = step (Happening.Asked n r t owed fits question) h p refl (λ n below. refl) (λ g is. over h right.2 p g is) g is
  over (e ∷ h) right p g is = step e h p refl (λ n below. refl) (λ g is. over h right.2 p g is) g is

  module _ (exact : CmpEqualImpliesEq b.made.directory.cmp) where
    -- no two of them have one number
    abbrev pub AreNumbered : List (Happening C S) → Type 0
    AreNumbered h = (p q : C) (g k : Held) → link b p h ≡ Some g → link b q h ≡ Some k → g.number ≡ k.number → same d p q ≡ true

    still : (e : Happening C S) (h : List (Happening C S)) → ((p : C) → opened_by d p e ≡ None) → AreNumbered h → AreNumbered (e ∷ h)
    still e h opens one p q g k of_p of_q is =
        let at_p = before (ends_by d p e) (touch_by d p e) (link b p h) g (sym (link_later d p e h (opens p)) ∙ of_p) in
        let at_q = before (ends_by d q e) (touch_by d q e) (link b q h) k (sym (link_later d q e h (opens q)) ∙ of_q) in
        one p q at_p.0 at_q.0 at_p.1 at_q.1 (at_p.2 ∙ is ∙ sym at_q.2)

    -- a link began, with a number that none has
    begun : (e : Happening C S) (n : ℕ) (r : C) (new : Held) (h : List (Happening C S)) → new.number ≡ n →
        ((p : C) → link b p (e ∷ h) ≡ (if same d r p then Some new else link b p h)) → ((m : ℕ) → n ≡ m → IsOver h m → ⊥) →
        ((p : C) (g : Held) → link b p h ≡ Some g → IsOver h g.number) → AreNumbered h → AreNumbered (e ∷ h)
    begun e n r new h number tied unused is_over one p q g k of_p of_q is =
        go (same d r p) (same d r q) refl refl (sym (tied p) ∙ of_p) (sym (tied q) ∙ of_q)
      where
        number_is : (x : Held) → Some new ≡ Some x → n ≡ x.number
        number_is x is = sym number ∙ ap (λ (y : Held). y.number) (some_is is)

        go : (x y : Bool) → same d r p ≡ x → same d r q ≡ y →
            (if x then Some new else link b p h) ≡ Some g → (if y then Some new else link b q h) ≡ Some k → same d p q ≡ true
        go true true is_p is_q at_p at_q = subst (λ x. same d x q ≡ true) (tells_apart exact r p is_p) is_q
        go true false is_p is_q at_p at_q = absurd (unused k.number (number_is g at_p ∙ is) (is_over q k at_q))
        go false true is_p is_q at_p at_q = absurd (unused g.number (number_is k at_q ∙ sym is) (is_over p g at_p))
        go false false is_p is_q at_p at_q = one p q g k at_p at_q is

    -- .. the next one
    not_next : (h : List (Happening C S)) (n m : ℕ) → n ≡ next_at h → n ≡ m → IsOver h m → ⊥
    not_next h n m next is over = let less = over.1 in omega (arith, less, is, next)

    pub one_number : (h : List (Happening C S)) → AreRight b h → AreNumbered h
    one_number [] right = λ p q g k of_p of_q is. absurd (no_link g of_p)
    one_number (Happening.Proved n r t draw ∷ h) right = let there = claimed_is_there h n r right.0.0 in
        begun (Happening.Proved n r t draw) n r (link_with n t) h refl (λ p. link_opens d p r n t draw h)
        (λ m is over. not_over h n m is there over) (over h right.2) (one_number h right.2)
    one_number (Happening.Adopted n r t outbound ∷ h) right = let there = claimed_is_there h n r right.0.0 in
        begun (Happening.Adopted n r t outbound) n r (link_as (taken_way outbound) n t) h refl (λ p. link_adopts d p r n t outbound h)
        (λ m is over. not_over h n m is there over) (over h right.2) (one_number h right.2)
    one_number (Happening.Dialed n r t draw word ingress ∷ h) right =
        begun (Happening.Dialed n r t draw word ingress) n r (dial_with n t) h refl (λ p. link_dials d p r n t draw word ingress h)
        (λ m. not_next h n m right.0.number) (over h right.2) (one_number h right.2)
    one_number (e ∷ h) right = still e h (λ p. refl) (one_number h right.2)
