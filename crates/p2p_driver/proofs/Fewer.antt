-- Lists that are shorter by what was left out, and counts of them.
use Rattle.std.proofs.Common.{◌≡◌, ◌==◌, zero, suc, ℕ, ◌+◌, ◌≤◌, ◌<◌, Bool, true, false, not, cond, List, [], ◌∷◌, ◌++◌, Option, Some, None, find, filter, refl, sym, ◌∙◌, ap}
use Rattle.std.proofs.Common.{arith}
use Rattle.std.specs.Prelude.{is_some, length, unwrap_or, if◌then◌else◌}
use Rattle.std.specs.List.{count_by, slice_get}
use Rattle.std.proofs.lemmas.Bool.Decides.{nat_tests}
use Rattle.std.proofs.lemmas.List.{length-append}
use Rattle.std.proofs.lemmas.List.Sums.{sum_by-cons, sum_by-append}
use Rattle.p2p_driver.specs.declared.arrivals.Arrival.{Arrival}
use Rattle.p2p_driver.specs.Arrivals.{has_number, is_unclaimed, with_claim, claimed}

module _ {X : Type 0} (p : X → Bool) where
  -- no more are left
  pub no_more : (xs : List X) → length (filter (λ x. not (p x)) xs) ≤ length xs
  no_more [] = grind (arith)
  no_more (x ∷ xs) = go (p x) (no_more xs)
    where
      go : (b : Bool) → length (filter (λ x. not (p x)) xs) ≤ length xs →
          length (cond (not b) (x ∷ filter (λ x. not (p x)) xs) (filter (λ x. not (p x)) xs)) ≤ length (x ∷ xs)
      go true before = grind (arith)
      go false before = grind (arith)

  -- fewer, where one was found
  pub one_less : (xs : List X) → is_some (find p xs) ≡ true →
      length (filter (λ x. not (p x)) xs) + 1 ≤ length xs
  one_less [] found = absurd cc
  one_less (x ∷ xs) found = go (p x) found (no_more xs) (one_less xs)
    where
      go : (b : Bool) → is_some (cond b (Some x) (find p xs)) ≡ true →
          length (filter (λ x. not (p x)) xs) ≤ length xs →
          (is_some (find p xs) ≡ true → length (filter (λ x. not (p x)) xs) + 1 ≤ length xs) →
          length (cond (not b) (x ∷ filter (λ x. not (p x)) xs) (filter (λ x. not (p x)) xs)) + 1 ≤ length (x ∷ xs)
      go true found most before = grind (arith)
      go false found most before = let less = before found in grind (arith)

  -- no more of a kind
  pub count_no_more : (q : X → Bool) (xs : List X) → count_by q (filter (λ x. not (p x)) xs) ≤ count_by q xs
  count_no_more q [] = grind (arith)
  count_no_more q (x ∷ xs) = go (p x) (count_no_more q xs)
    where
      one : (ys : List X) → count_by q (x ∷ ys) ≡ cond (q x) 1 0 + count_by q ys
      one ys = sum_by-cons (λ x. cond (q x) 1 0) x ys

      go : (b : Bool) → count_by q (filter (λ x. not (p x)) xs) ≤ count_by q xs →
          count_by q (cond (not b) (x ∷ filter (λ x. not (p x)) xs) (filter (λ x. not (p x)) xs)) ≤ count_by q (x ∷ xs)
      go true before = let all = one xs in grind (arith)
      go false before = let all = one xs in let left = one (filter (λ x. not (p x)) xs) in grind (arith)

-- one more of a kind, or none
pub count_append : {X : Type 0} (q : X → Bool) (xs : List X) (x : X) →
    count_by q (xs ++ x ∷ []) ≡ count_by q xs + cond (q x) 1 0
count_append q xs x = let both = sum_by-append (λ x. cond (q x) 1 0) xs (x ∷ []) in
    let last = sum_by-cons (λ x. cond (q x) 1 0) x [] in grind (arith)

module _ {C : Type 0} (n : ℕ) (xs : List (Arrival C)) where
  abbrev others : List (Arrival C)
  others = filter (λ a. not (has_number n a)) xs

  -- room for the claims of the streams that are left
  pub settles : (ys : List (Arrival C)) (k room : ℕ) → ys ≡ others → k ≡ count_by is_unclaimed ys →
      count_by is_unclaimed xs ≤ room → k ≤ room
  settles ys k room left is fits = let few = count_no_more (has_number n) is_unclaimed xs in
      let same = ap (λ ys. count_by is_unclaimed ys) left in grind (arith)

  -- .. and for their ends
  pub closes_room : (ys : List (Arrival C)) (room room2 : ℕ) → ys ≡ others →
      is_some (find (has_number n) xs) ≡ true → room2 + 1 ≡ room → length ys + room ≤ room2 + length xs
  closes_room ys room room2 left there is = let less = one_less (has_number n) xs there in
      let same = ap length left in grind (arith)

  pub leaves_fewer : (ys : List (Arrival C)) → ys ≡ others →
      is_some (find (has_number n) xs) ≡ true → length ys + 1 ≤ length xs
  leaves_fewer ys left there = let less = one_less (has_number n) xs there in
      let same = ap length left in grind (arith)

  -- one gave way to another
  pub crowds_claims : (new : Arrival C) (ys : List (Arrival C)) (k room room2 : ℕ) → ys ≡ others ++ new ∷ [] →
      k ≡ count_by is_unclaimed ys → room2 ≡ room + 1 → count_by is_unclaimed xs ≤ room → k ≤ room2
  crowds_claims new ys k room room2 left is more fits =
      let few = count_no_more (has_number n) is_unclaimed xs in
      let same = ap (λ ys. count_by is_unclaimed ys) left ∙ count_append is_unclaimed others new in
      let one = at_most_one (is_unclaimed new) in grind (arith)
    where
      at_most_one : (b : Bool) → cond b 1 0 ≤ 1
      at_most_one true = grind (arith)
      at_most_one false = grind (arith)

  pub crowds_room : (new : Arrival C) (ys : List (Arrival C)) (room room2 : ℕ) → ys ≡ others ++ new ∷ [] →
      is_some (find (has_number n) xs) ≡ true → room2 ≡ room → length ys + room ≤ room2 + length xs
  crowds_room new ys room room2 left there is = let less = one_less (has_number n) xs there in
      let same = ap length left ∙ length-append others (new ∷ []) in grind (arith)

-- a stream of those that are there is found by its number
pub found_at : {C : Type 0} (n : ℕ) (xs : List (Arrival C)) (k : ℕ) (a : Arrival C) → slice_get xs k ≡ Some a →
    a.number ≡ n → is_some (find (has_number n) xs) ≡ true
found_at n [] k a at is = absurd cc
found_at n (x ∷ xs) zero a at is = ap (λ b. is_some (cond b (Some x) (find (has_number n) xs))) same
  where
    same : (x.number == n) ≡ true
    same = let first = ap (λ o. (unwrap_or o a).number) at in grind (arith, nat_tests)
found_at n (x ∷ xs) (suc k) a at is = go (x.number == n) (found_at n xs k a at is)
  where
    go : (b : Bool) → is_some (find (has_number n) xs) ≡ true →
        is_some (cond b (Some x) (find (has_number n) xs)) ≡ true
    go true before = refl
    go false before = before

-- CLAIMS
module _ {C : Type 0} (n : ℕ) (p : C) where
  unclaimed_one : (a : Arrival C) → cond (is_unclaimed (with_claim n p a)) 1 0 ≤ cond (is_unclaimed a) 1 0
  unclaimed_one a = go (a.number == n) a.claim
    where
      go : (b : Bool) (claim : Option C) →
          cond (not (is_some (if◌then◌else◌ b (record a { claim = Some p }) (record a { claim = claim })).claim)) 1 0
          ≤ cond (not (is_some claim)) 1 0
      go true None = grind (arith)
      go true (Some q) = grind (arith)
      go false claim = grind (arith)

  unclaimed_head : (x a : Arrival C) → Some x ≡ Some a → a.claim ≡ None → is_unclaimed x ≡ true
  unclaimed_head x a found none = ap (λ o. is_unclaimed (unwrap_or o a)) found ∙ ap (λ claim. not (is_some claim)) none

  -- no more haven't claimed
  pub claims_no_more : (xs : List (Arrival C)) → count_by is_unclaimed (claimed n p xs) ≤ count_by is_unclaimed xs
  claims_no_more [] = grind (arith)
  claims_no_more (x ∷ xs) = let before = claims_no_more xs in let one = unclaimed_one x in
      let all = sum_by-cons (λ a. cond (is_unclaimed a) 1 0) x xs in
      let left = sum_by-cons (λ a. cond (is_unclaimed a) 1 0) (with_claim n p x) (claimed n p xs) in grind (arith)

  -- fewer, where one claims that hadn't
  pub claims_one_less : (xs : List (Arrival C)) (a : Arrival C) → find (has_number n) xs ≡ Some a → a.claim ≡ None →
      count_by is_unclaimed (claimed n p xs) + 1 ≤ count_by is_unclaimed xs
  claims_one_less [] a found none = absurd cc
  claims_one_less (x ∷ xs) a found none = go (x.number == n) refl found (claims_no_more xs)
      (λ found. claims_one_less xs a found none)
    where
      all : count_by is_unclaimed (x ∷ xs) ≡ cond (is_unclaimed x) 1 0 + count_by is_unclaimed xs
      all = sum_by-cons (λ a. cond (is_unclaimed a) 1 0) x xs

      left : count_by is_unclaimed (claimed n p (x ∷ xs))
          ≡ cond (is_unclaimed (with_claim n p x)) 1 0 + count_by is_unclaimed (claimed n p xs)
      left = sum_by-cons (λ a. cond (is_unclaimed a) 1 0) (with_claim n p x) (claimed n p xs)

      go : (b : Bool) → (x.number == n) ≡ b → cond b (Some x) (find (has_number n) xs) ≡ Some a →
          count_by is_unclaimed (claimed n p xs) ≤ count_by is_unclaimed xs →
          (find (has_number n) xs ≡ Some a → count_by is_unclaimed (claimed n p xs) + 1 ≤ count_by is_unclaimed xs) →
          count_by is_unclaimed (claimed n p (x ∷ xs)) + 1 ≤ count_by is_unclaimed (x ∷ xs)
      go true is found most before =
          let new = ap {B = ℕ} (λ b. cond (is_unclaimed (if◌then◌else◌ b (record x { claim = Some p }) x)) 1 0) is in
          let old = ap {B = ℕ} (λ b. cond b 1 0) (unclaimed_head x a found none) in
          let w = all in let y = left in grind (arith)
      go false is found most before =
          let less = before found in let one = unclaimed_one x in let w = all in let y = left in grind (arith)

  -- fewer, where one goes that hadn't claimed
  pub goes_one_less : (xs : List (Arrival C)) (a : Arrival C) → find (has_number n) xs ≡ Some a → a.claim ≡ None →
      count_by is_unclaimed (filter (λ a. not (has_number n a)) xs) + 1 ≤ count_by is_unclaimed xs
  goes_one_less [] a found none = absurd cc
  goes_one_less (x ∷ xs) a found none = go (x.number == n) found (count_no_more (has_number n) is_unclaimed xs)
      (λ found. goes_one_less xs a found none)
    where
      one : (ys : List (Arrival C)) → count_by is_unclaimed (x ∷ ys) ≡ cond (is_unclaimed x) 1 0 + count_by is_unclaimed ys
      one ys = sum_by-cons (λ a. cond (is_unclaimed a) 1 0) x ys

      go : (b : Bool) → cond b (Some x) (find (has_number n) xs) ≡ Some a →
          count_by is_unclaimed (filter (λ a. not (has_number n a)) xs) ≤ count_by is_unclaimed xs →
          (find (has_number n) xs ≡ Some a → count_by is_unclaimed (filter (λ a. not (has_number n a)) xs) + 1 ≤ count_by is_unclaimed xs) →
          count_by is_unclaimed (cond (not b) (x ∷ filter (λ a. not (has_number n a)) xs) (filter (λ a. not (has_number n a)) xs)) + 1
          ≤ count_by is_unclaimed (x ∷ xs)
      go true found most before =
          let old = ap {B = ℕ} (λ b. cond b 1 0) (unclaimed_head x a found none) in
          let w = one xs in grind (arith)
      go false found most before =
          let less = before found in let w = one xs in
          let y = one (filter (λ a. not (has_number n a)) xs) in grind (arith)

-- one that goes and is said leaves the room for the others' ends
pub found_some : {X : Type 0} (o : Option X) (a : X) → o ≡ Some a → is_some o ≡ true
found_some o a is = ap is_some is

pub some_unclaimed : (k room : ℕ) → k + 1 ≤ room → 0 < room
some_unclaimed k room fits = grind (arith)

-- what is found by a number has it
pub found_number : {C : Type 0} (n : ℕ) (xs : List (Arrival C)) (a : Arrival C) → find (has_number n) xs ≡ Some a → a.number ≡ n
found_number n [] a found = absurd cc
found_number n (x ∷ xs) a found = go (x.number == n) refl found (found_number n xs a)
  where
    go : (b : Bool) → (x.number == n) ≡ b → cond b (Some x) (find (has_number n) xs) ≡ Some a →
        (find (has_number n) xs ≡ Some a → a.number ≡ n) → a.number ≡ n
    go true is found later = sym (ap (λ o. (unwrap_or o x).number) found) ∙ same is
      where
        same : (x.number == n) ≡ true → x.number ≡ n
        same is = grind (arith, nat_tests)
    go false is found later = later found

pub none_of : {X : Type 0} (o : Option X) → is_some o ≡ false → o ≡ None
none_of None is = refl
none_of (Some x) is = absurd cc
