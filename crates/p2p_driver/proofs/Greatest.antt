-- How many inbound streams the origin has that has most of them.
use Rattle.std.proofs.Common.{◌≡◌, ◌&&◌, ◌||◌, not, nat_le, max, ℕ, ◌+◌, ◌<◌, Bool, true, false, List}
use Rattle.std.proofs.Common.{length, drop, get_or, sym, ◌∙◌, ap, arith}
use Rattle.std.proofs.Common.{inl, inr}
use Rattle.std.specs.List.{list_all}
use Rattle.std.proofs.lemmas.Bool.{le-leb}
use Rattle.std.proofs.lemmas.Bool.Decides.{leb_tells}
use Rattle.std.proofs.Math.Bool.{and_assoc}
use Rattle.p2p_driver.specs.declared.arrivals.Arrival.{Arrival}
use Rattle.p2p_driver.specs.Arrivals.{is_older, count_older}
use Rattle.p2p_driver.proofs.Firsts.{all_next}

more : (a n : ℕ) → n < a → nat_le a n ≡ false
more a n late = elim (leb_tells a n) [
  | inl x ↦ absurd (omega (arith, x.1, late))
  | inr x ↦ x.0
]

-- both are at most n if the greater is
both : (a b n : ℕ) → nat_le (max a b) n ≡ (nat_le a n && nat_le b n)
both a b n = elim (leb_tells a n) [
  | inl x ↦ elim (leb_tells b n) [
    | inl y ↦ le-leb (max a b) n (omega (arith, x.1, y.1))
        ∙ sym (ap (λ t. t && nat_le b n) x.0 ∙ y.0)
    | inr y ↦ more (max a b) n (omega (arith, y.1)) ∙ sym (ap (λ t. t && nat_le b n) x.0 ∙ y.0)
  ]
  | inr x ↦ more (max a b) n (omega (arith, x.1)) ∙ sym (ap (λ t. t && nat_le b n) x.0)
]

module _ {K : Type 0} (grace now : ℕ) (arrivals : List (Arrival K)) where
  -- the stream's origin has at most n, if the stream counts
  abbrev pub within : ℕ → Arrival K → Bool
  within n other =
      not (is_older grace now other) || nat_le (count_older grace now arrivals other.origin) n

  -- one that counts is walked
  pub counted : (most : ℕ) (i : ℕ) (x : Arrival K) → i < length arrivals → x ≡ get_or arrivals i x →
      is_older grace now x ≡ true → (n : ℕ) →
      (nat_le most n && list_all (within n) (drop i arrivals))
      ≡ (nat_le (max most (count_older grace now arrivals x.origin)) n
      && list_all (within n) (drop (i + 1) arrivals))
  counted most i x lt is older n =
      let count = count_older grace now arrivals x.origin in
      let rest = list_all (within n) (drop (i + 1) arrivals) in
      let it : within n (get_or arrivals i x) ≡ nat_le count n
      = ap (within n) (sym is) ∙ ap (λ b. not b || nat_le count n) older in
      ap (λ b. nat_le most n && b) (all_next (within n) arrivals i x lt
      ∙ ap (λ b. b && rest) it)
      ∙ sym (ap (λ b. b && rest) (both most count n) ∙ and_assoc (nat_le most n) (nat_le count n) rest)

  -- .. and one that doesn't
  pub uncounted : (most : ℕ) (i : ℕ) (x : Arrival K) → i < length arrivals → x ≡ get_or arrivals i x →
      is_older grace now x ≡ false → (n : ℕ) →
      (nat_le most n && list_all (within n) (drop i arrivals))
      ≡ (nat_le most n && list_all (within n) (drop (i + 1) arrivals))
  uncounted most i x lt is young n =
      let count = count_older grace now arrivals x.origin in
      let rest = list_all (within n) (drop (i + 1) arrivals) in
      let it : within n (get_or arrivals i x) ≡ true
      = ap (within n) (sym is) ∙ ap (λ b. not b || nat_le count n) young in
      ap (λ b. nat_le most n && b) (all_next (within n) arrivals i x lt ∙ ap (λ b. b && rest) it)
