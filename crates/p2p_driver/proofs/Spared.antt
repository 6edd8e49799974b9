-- Streams that give way: by their numbers, and how long ago they came.
use Rattle.std.proofs.Common.{◌≡◌, ◌==◌, ◌<◌, ◌-◌, ℕ, zero, suc, true, false, cond, List, [], ◌∷◌, Some, None, find, slice_get, sym, ◌∙◌, ap, subst, arith}
use Rattle.std.specs.Duration.{as_nanos}
use Rattle.std.specs.Option.{IsSomeAnd}
use Rattle.std.specs.declared.time.Duration.{Duration}
use Rattle.std.proofs.lemmas.Bool.Decides.{nat_tests}
use Rattle.p2p_driver.specs.Arrivals.{has_number}
use Rattle.p2p_driver.specs.Drivers.{Base, IsRight, Rise}
use Rattle.p2p_driver.specs.Happenings.{Happening, stream_at}
use Rattle.p2p_driver.specs.declared.arrivals.Arrival.{Arrival}
use Rattle.p2p_driver.specs.declared.arrivals.Room.TheVariants as room
use Rattle.p2p_driver.specs.declared.origin.Origin.{Origin}
use Rattle.p2p_driver.proofs.Fairness.{spared}

no_some : {A : Type 0} (x : A) → ¬ (None ≡ Some x)
no_some x is = cc

some_is : {A : Type 0} {x y : A} → Some x ≡ Some y → x ≡ y
some_is e = cc

module _ {C : Type 0} where
  -- a stream is found by its number
  pub found_by : (m last : ℕ) (xs : List (Arrival C)) → Rise m xs last → (k : ℕ) (a : Arrival C) → slice_get xs k ≡ Some a →
      (m < a.number) × (find (has_number a.number) xs ≡ Some a)
  found_by m last [] rise k a at = absurd (no_some a at)
  found_by m last (x ∷ xs) rise zero a at = subst (λ (y : Arrival C). (m < y.number) × (find (has_number y.number) (x ∷ xs) ≡ Some y)) (some_is at)
      (rise.0, ap (λ b. cond b (Some x) (find (has_number x.number) xs)) (itself x.number))
    where
      itself : (n : ℕ) → (n == n) ≡ true
      itself n = grind (arith, nat_tests)
  found_by m last (x ∷ xs) rise (suc k) a at = let rest = found_by x.number last xs rise.1 k a at in (
    (let above = rise.0 in let later = rest.0 in omega (arith, above, later)),
    ap (λ b. cond b (Some x) (find (has_number a.number) xs)) (other x.number a.number rest.0) ∙ rest.1,
  )
    where
      other : (n m : ℕ) → n < m → (n == m) ≡ false
      other n m less = grind (arith, nat_tests)

-- one that gives way came longer ago than the grace
pub gives_way_late : {C S : Type 0} (b : Base C S) (h : List (Happening C S)) (n : ℕ) (origin : Origin) (t : Duration) (m : ℕ) →
    IsRight b h (Happening.Arrived n origin t (room.Of m)) →
    IsSomeAnd (stream_at m h) (λ a. as_nanos b.pace.grace < as_nanos t - as_nanos a.came)
gives_way_late b h n origin t m right = let arrivals = right.2.0 in
    let gives = spared b.pace (as_nanos t) arrivals origin m right.2.2 in
    let found = (found_by 0 _ arrivals right.2.1.rise gives.0 gives.1 gives.2).1 in
    subst (λ o. IsSomeAnd o (λ a. as_nanos b.pace.grace < as_nanos t - as_nanos a.came)) (right.2.1.each m)
    (subst (λ k. IsSomeAnd (find (has_number k) arrivals) (λ a. as_nanos b.pace.grace < as_nanos t - as_nanos a.came)) gives.3
    (subst (λ o. IsSomeAnd o (λ a. as_nanos b.pace.grace < as_nanos t - as_nanos a.came)) (sym found) gives.4))
