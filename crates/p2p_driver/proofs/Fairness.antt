-- Who gives way, and who has room.
use Rattle.std.proofs.Common.{◌≡◌, ◌≤◌, ◌<◌, ◌+◌, ◌-◌, ◌⊎◌, ◌&&◌, ◌||◌, not, inl, inr, ℕ, zero, suc, Bool, true, false}
use Rattle.std.proofs.Common.{List, [], ◌∷◌, ◌++◌, length, Option, Some, None, find, cond, refl, sym, ◌∙◌, ap, subst, arith, nat_le, nat_lt}
use Rattle.std.specs.Prelude.{◌==◌, option_map, unwrap_or, is_some, if◌then◌else◌}
use Rattle.std.specs.Duration.{as_nanos}
use Rattle.std.specs.List.{filter, count_by, list_all, slice_get}
use Rattle.std.proofs.lemmas.Bool.{cases_lt, le-leb}
use Rattle.std.proofs.lemmas.Bool.Decides.{nat_tests}
use Rattle.std.proofs.lemmas.List.{length-append}
use Rattle.std.proofs.lemmas.List.Sums.{sum_by-cons, sum_by-append, count_by-le-length, length-filter}
use Rattle.p2p_driver.specs.declared.origin.Origin.{Origin}
use Rattle.p2p_driver.specs.declared.arrivals.Arrival.{Arrival}
use Rattle.p2p_driver.specs.declared.arrivals.Room.{Room}
use Rattle.p2p_driver.specs.declared.arrivals.Room.TheVariants as room
use Rattle.p2p_driver.specs.declared.pace.Pace.{Pace}
use Rattle.p2p_driver.specs.Arrivals.{has_number, is_of, is_older, count_older, has_most, is_crowded, crowded_of, or_else}
use Rattle.p2p_driver.specs.Arrivals.{room_of, room_of_other, arrived, Gives, AreYoung}

-- IN A LIST

and_left : (a b : Bool) → (a && b) ≡ true → a ≡ true
and_left true b is = refl
and_left false b is = absurd cc

module _ {A : Type 0} where
  at_head : (x : A) (xs : List A) (a : A) → slice_get (x ∷ xs) 0 ≡ Some a → x ≡ a
  at_head x xs a at = ap (λ o. unwrap_or o a) at

  -- what is found is there
  IsFound : (A → Bool) → List A → A → Type 0
  IsFound p xs x = (k : ℕ) × (slice_get xs k ≡ Some x) × (p x ≡ true)

  found_in : (p : A → Bool) (y : A) (ys : List A) (x : A) (b : Bool) → p y ≡ b →
      cond b (Some y) (find p ys) ≡ Some x → (find p ys ≡ Some x → IsFound p ys x) →
      IsFound p (y ∷ ys) x
  unfolding IsFound
  found_in p y ys x true test same later =
      (0, same, subst (λ z. p z ≡ true) (ap (λ o. unwrap_or o x) same) test)
  found_in p y ys x false test same later = let r = later same in (suc r.0, r.1, r.2)

  found_at : (p : A → Bool) (xs : List A) (x : A) → find p xs ≡ Some x → IsFound p xs x
  found_at p [] x is = absurd cc
  found_at p (y ∷ ys) x is = found_in p y ys x (p y) refl is (found_at p ys x)

  -- what isn't found isn't there
  IsMissed : (A → Bool) → List A → Type 0
  IsMissed p xs = (k : ℕ) (a : A) → slice_get xs k ≡ Some a → p a ≡ false

  not_in : (p : A → Bool) (y : A) (ys : List A) (b : Bool) → p y ≡ b →
      cond b (Some y) (find p ys) ≡ None → (find p ys ≡ None → IsMissed p ys) → IsMissed p (y ∷ ys)
  unfolding IsMissed
  not_in p y ys true test same later k a at = absurd cc
  not_in p y ys false test same later zero a at = subst (λ z. p z ≡ false) (at_head y ys a at) test
  not_in p y ys false test same later (suc k) a at = later same k a at

  not_found : (p : A → Bool) (xs : List A) → find p xs ≡ None → IsMissed p xs
  unfolding IsMissed
  not_found p [] is k a at = absurd cc
  not_found p (y ∷ ys) is k a at = not_in p y ys (p y) refl is (not_found p ys) k a at

  all_from : (q : A → Bool) (xs : List A) → ((k : ℕ) (a : A) → slice_get xs k ≡ Some a → q a ≡ true) →
      list_all q xs ≡ true
  all_from q [] f = refl
  all_from q (x ∷ xs) f =
      ap (λ b. b && list_all q xs) (f 0 x refl) ∙ all_from q xs (λ k a at. f (suc k) a at)

  -- of those that pass one has the most
  HasBest : (A → ℕ) → (A → Bool) → List A → Type 0
  HasBest f p xs = (j : ℕ) × (b : A) × (slice_get xs j ≡ Some b) × (p b ≡ true)
      × ((i : ℕ) (c : A) → slice_get xs i ≡ Some c → p c ≡ true → f c ≤ f b)

  best_in : (f : A → ℕ) (p : A → Bool) (x : A) (xs : List A) (t : Bool) → p x ≡ t →
      IsMissed p xs ⊎ HasBest f p xs → IsMissed p (x ∷ xs) ⊎ HasBest f p (x ∷ xs)
  unfolding IsMissed HasBest
  best_in f p x xs true test (inl none) = inr (0, x, refl, test, most)
    where
      most : (i : ℕ) (c : A) → slice_get (x ∷ xs) i ≡ Some c → p c ≡ true → f c ≤ f x
      most zero c at passes = omega (arith, ap f (at_head x xs c at))
      most (suc i) c at passes = absurd (let fails = none i c at in cc)
  best_in f p x xs true test (inr (j, b, at_b, passes_b, most_b)) = elim (cases_lt (f b) (f x)) [
    | inl less ↦ inr (0, x, refl, test, here less)
    | inr more ↦ inr (suc j, b, at_b, passes_b, there more)
  ]
    where
      here : f b < f x → (i : ℕ) (c : A) → slice_get (x ∷ xs) i ≡ Some c → p c ≡ true → f c ≤ f x
      here less zero c at passes = omega (arith, ap f (at_head x xs c at))
      here less (suc i) c at passes = omega (arith, most_b i c at passes, less)

      there : f x ≤ f b → (i : ℕ) (c : A) → slice_get (x ∷ xs) i ≡ Some c → p c ≡ true → f c ≤ f b
      there more zero c at passes = omega (arith, ap f (at_head x xs c at), more)
      there more (suc i) c at passes = most_b i c at passes
  best_in f p x xs false test (inl none) = inl fails
    where
      fails : (i : ℕ) (c : A) → slice_get (x ∷ xs) i ≡ Some c → p c ≡ false
      fails zero c at = subst (λ z. p z ≡ false) (at_head x xs c at) test
      fails (suc i) c at = none i c at
  best_in f p x xs false test (inr (j, b, at_b, passes_b, most_b)) =
      inr (suc j, b, at_b, passes_b, most)
    where
      most : (i : ℕ) (c : A) → slice_get (x ∷ xs) i ≡ Some c → p c ≡ true → f c ≤ f b
      most zero c at passes =
          absurd (let fails = subst (λ z. p z ≡ false) (at_head x xs c at) test in cc)
      most (suc i) c at passes = most_b i c at passes

  none_in : (p : A → Bool) → IsMissed p []
  unfolding IsMissed
  none_in p k a at = absurd cc

  best : (f : A → ℕ) (p : A → Bool) (xs : List A) → IsMissed p xs ⊎ HasBest f p xs
  best f p [] = inl (none_in p)
  best f p (x ∷ xs) = best_in f p x xs (p x) refl (best f p xs)

-- HOW MANY THERE ARE

-- one, if that is so
one_if : Bool → ℕ
one_if b = cond b 1 0

at_most_one : (b : Bool) → one_if b ≤ 1
unfolding one_if
at_most_one true = omega arith
at_most_one false = omega arith

module _ {A : Type 0} where
  counted : (q : A → Bool) (x : A) (xs : List A) → count_by q (x ∷ xs) ≡ one_if (q x) + count_by q xs
  unfolding one_if
  counted q x xs = sum_by-cons (λ x. cond (q x) 1 0) x xs

  -- one that fails isn't counted
  fewer : (q : A → Bool) (xs : List A) (k : ℕ) (a : A) → slice_get xs k ≡ Some a → q a ≡ false →
      count_by q xs < length xs
  unfolding one_if
  fewer q [] k a at fails = absurd cc
  fewer q (x ∷ xs) zero a at fails =
      let it : one_if (q x) ≡ 0 = ap one_if (ap q (at_head x xs a at) ∙ fails) in
      omega (arith, counted q x xs, it, count_by-le-length q xs)
  fewer q (x ∷ xs) (suc k) a at fails =
      omega (arith, counted q x xs, at_most_one (q x), fewer q xs k a at fails)

  -- of some there are no more than of all
  of_some : (p q : A → Bool) (xs : List A) → count_by p (filter q xs) ≤ count_by p xs
  of_some p q [] = omega arith
  of_some p q (x ∷ xs) = go (q x) (of_some p q xs)
    where
      go : (b : Bool) → count_by p (filter q xs) ≤ count_by p xs →
          count_by p (cond b (x ∷ filter q xs) (filter q xs)) ≤ count_by p (x ∷ xs)
      go true less = omega (arith, counted p x xs, counted p x (filter q xs), less)
      go false less = omega (arith, counted p x xs, less)

  -- one more
  and_one : (p : A → Bool) (xs : List A) (x : A) →
      count_by p (xs ++ x ∷ []) ≡ count_by p xs + one_if (p x)
  unfolding one_if
  and_one p xs x = sum_by-append (λ x. cond (p x) 1 0) xs (x ∷ [])
      ∙ ap (λ n. count_by p xs + n) (counted p x [] ∙ omega arith)

-- WHO GIVES WAY

module _ {K : Type 0} (grace now : ℕ) (arrivals : List (Arrival K)) where
  older : (a : Arrival K) → is_older grace now a ≡ true → grace < now - as_nanos a.came
  older a is = grind (arith, nat_tests)

  young : (a : Arrival K) → is_older grace now a ≡ false → now - as_nanos a.came ≤ grace
  young a is = grind (arith, nat_tests)

  crowded : (x y : Option (Arrival K)) (n : ℕ) → option_map (λ a. a.number) (or_else x y) ≡ Some n →
      (a : Arrival K) × ((x ≡ Some a) ⊎ (y ≡ Some a)) × (a.number ≡ n)
  crowded (Some a) y n is = (a, inl refl, ap (λ o. unwrap_or o n) is)
  crowded None (Some a) n is = (a, inr refl, ap (λ o. unwrap_or o n) is)
  crowded None None n is = absurd cc

  nobody : (x y : Option (Arrival K)) → option_map (λ a. a.number) (or_else x y) ≡ None → y ≡ None
  nobody (Some a) y is = absurd cc
  nobody None (Some a) is = absurd cc
  nobody None None is = refl

  gives : (n : ℕ) → crowded_of grace now arrivals ≡ Some n → Gives grace now arrivals n
  unfolding IsFound
  gives n is = elim found.1 [
    | inl first ↦
        let at = found_at (λ a. is_crowded grace now arrivals a && not (is_some a.claim)) arrivals
        found.0 first in (
          at.0,
          found.0,
          at.1,
          found.2,
          older found.0
              (and_left _ _ (and_left _ _ at.2)),
        )
    | inr second ↦
        let at = found_at (is_crowded grace now arrivals) arrivals found.0 second in
        (at.0, found.0, at.1, found.2, older found.0 (and_left _ _ at.2))
  ]
    where
      found : (a : Arrival K) × ((find (λ a. is_crowded grace now arrivals a && not (is_some a.claim))
          arrivals ≡ Some a) ⊎ (find (is_crowded grace now arrivals) arrivals ≡ Some a))
          × (a.number ≡ n)
      found = crowded _ _ n is

  -- the one with the most is one from which one gives way
  crowds : HasBest (λ a. count_older grace now arrivals a.origin) (is_older grace now) arrivals →
      (k : ℕ) × (b : Arrival K) × (slice_get arrivals k ≡ Some b)
      × (is_crowded grace now arrivals b ≡ true)
  unfolding HasBest
  crowds (j, b, at, passes, most) = (
    j,
    b,
    at,
    ap (λ t. t && has_most grace now arrivals b) passes ∙ all_from _ arrivals within,
  )
    where
      count : Arrival K → ℕ
      count a = count_older grace now arrivals a.origin

      case_of : (k : ℕ) (c : Arrival K) → slice_get arrivals k ≡ Some c → (t : Bool) →
          is_older grace now c ≡ t → (not t || nat_le (count_older grace now arrivals c.origin)
          (count_older grace now arrivals b.origin)) ≡ true
      case_of k c at_c true is = le-leb _ _ (most k c at_c is)
      case_of k c at_c false is = refl

      within : (k : ℕ) (c : Arrival K) → slice_get arrivals k ≡ Some c →
          (not (is_older grace now c) || nat_le (count_older grace now arrivals c.origin)
          (count_older grace now arrivals b.origin)) ≡ true
      within k c at_c = case_of k c at_c (is_older grace now c) refl

  all_young : crowded_of grace now arrivals ≡ None → AreYoung grace now arrivals
  unfolding IsMissed
  all_young is k a at = elim (best (λ a. count_older grace now arrivals a.origin)
      (is_older grace now) arrivals) [
        | inl none ↦ young a (none k a at)
        | inr found ↦
            let one = crowds found in
            let missed = not_found (is_crowded grace now arrivals) arrivals (nobody _ _ is)
            one.0 one.1 one.2 in
            absurd (let both = sym missed ∙ one.3 in cc)
      ]

-- WHO HAS ROOM

number_of : Room → ℕ
number_of (room.Of n) = n
number_of _ = 0

of_other : (full busy : Bool) (o : Option ℕ) (n : ℕ) →
    (if full then room.None else if busy then room.Free else room_of_other o) ≡ room.Of n →
    o ≡ Some n
unfolding number_of
of_other true busy o n is = absurd cc
of_other false true o n is = absurd cc
of_other false false None n is = absurd cc
of_other false false (Some m) n is = ap Some (ap number_of is)

of_none : (full busy : Bool) (o : Option ℕ) → full ≡ false →
    (if full then room.None else if busy then room.Free else room_of_other o) ≡ room.None → o ≡ None
of_none true busy o is none = absurd cc
of_none false true o is none = absurd cc
of_none false false None is none = refl
of_none false false (Some m) is none = absurd cc

module _ {K : Type 0} (pace : Pace) (now : ℕ) (arrivals : List (Arrival K)) where
  pub spared : (origin : Origin) (n : ℕ) → room_of pace now arrivals origin ≡ room.Of n →
      Gives (as_nanos pace.grace) now arrivals n
  spared origin n is = gives (as_nanos pace.grace) now arrivals n (of_other _ _ _ n is)

  pub let_in : (origin : Origin) → room_of pace now arrivals origin ≡ room.None →
      count_by (is_of origin) arrivals < pace.by_address → AreYoung (as_nanos pace.grace) now arrivals
  let_in origin is few = all_young (as_nanos pace.grace) now arrivals (of_none _ _ _ free is)
    where
      free : nat_le pace.by_address (count_by (is_of origin) arrivals) ≡ false
      free = grind (arith, nat_tests)

  module _ (new : Arrival K) where
    -- the room, by what decides of it
    room_by : Bool → Bool → Option ℕ → Room
    room_by full busy o = if full then room.None else if busy then room.Free else room_of_other o

    has_it : (a : Arrival K) (n : ℕ) → a.number ≡ n → not (has_number n a) ≡ false
    has_it a n is = grind (arith, nat_tests)

    bounded_by : (full busy : Bool) (o : Option ℕ) →
        nat_lt (length arrivals) pace.arrivals ≡ busy →
        crowded_of (as_nanos pace.grace) now arrivals ≡ o → length arrivals ≤ pace.arrivals →
        length (arrived new (room_by full busy o) arrivals) ≤ pace.arrivals
    unfolding room_by
    bounded_by true busy o is at within = within
    bounded_by false true o is at within =
        let less : length arrivals < pace.arrivals = grind (arith, nat_tests) in
        omega (arith, length-append arrivals (new ∷ []), less)
    bounded_by false false None is at within = within
    bounded_by false false (Some n) is at within =
        let one = gives (as_nanos pace.grace) now arrivals n at in
        let q = λ (a : Arrival K). not (has_number n a) in
        let less = fewer q arrivals one.0 one.1 one.2 (has_it one.1 n one.3) in
        omega (arith, length-append (filter q arrivals) (new ∷ []), length-filter q arrivals, less, within)

    pub bounded : length arrivals ≤ pace.arrivals →
        length (arrived new (room_of pace now arrivals new.origin) arrivals) ≤ pace.arrivals
    unfolding room_by
    bounded within = bounded_by _ _ _ refl refl within

    -- one more of an origin that has fewer than it may have
    one_more : (origin : Origin) (xs : List (Arrival K)) →
        count_by (is_of origin) xs ≤ count_by (is_of origin) arrivals →
        count_by (is_of origin) arrivals ≤ pace.by_address →
        count_by (is_of new.origin) arrivals < pace.by_address →
        count_by (is_of origin) (xs ++ new ∷ []) ≤ pace.by_address
    unfolding one_if
    one_more origin xs less within few = go (is_of origin new) refl
      where
        same : is_of origin new ≡ true → new.origin.0 ≡ origin.0
        same is = grind (arith, nat_tests)

        go : (b : Bool) → is_of origin new ≡ b →
            count_by (is_of origin) (xs ++ new ∷ []) ≤ pace.by_address
        go true is =
            let it : one_if (is_of origin new) ≡ 1 = ap one_if is in
            let of_it : count_by (is_of new.origin) arrivals ≡ count_by (is_of origin) arrivals
            = ap (λ x. count_by (λ (a : Arrival K). a.origin.0 == x) arrivals) (same is) in
            omega (arith, and_one (is_of origin) xs new, it, of_it, less, few)
        go false is =
            let it : one_if (is_of origin new) ≡ 0 = ap one_if is in
            omega (arith, and_one (is_of origin) xs new, it, less, within)

    of_one_by : (origin : Origin) (full busy : Bool) (o : Option ℕ) →
        nat_le pace.by_address (count_by (is_of new.origin) arrivals) ≡ full →
        count_by (is_of origin) arrivals ≤ pace.by_address →
        count_by (is_of origin) (arrived new (room_by full busy o) arrivals) ≤ pace.by_address
    unfolding room_by
    of_one_by origin true busy o is within = within
    of_one_by origin false true o is within =
        let few : count_by (is_of new.origin) arrivals < pace.by_address = grind (arith, nat_tests) in
        one_more origin arrivals (omega arith) within few
    of_one_by origin false false None is within = within
    of_one_by origin false false (Some n) is within =
        let few : count_by (is_of new.origin) arrivals < pace.by_address = grind (arith, nat_tests) in
        one_more origin (filter (λ a. not (has_number n a)) arrivals)
        (of_some (is_of origin) (λ a. not (has_number n a)) arrivals) within few

    pub of_one : ((origin : Origin) → count_by (is_of origin) arrivals ≤ pace.by_address) →
        (origin : Origin) → count_by (is_of origin)
        (arrived new (room_of pace now arrivals new.origin) arrivals) ≤ pace.by_address
    unfolding room_by
    of_one within origin = of_one_by origin _ _ _ refl (within origin)
