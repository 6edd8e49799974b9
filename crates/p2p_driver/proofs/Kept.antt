-- What is kept of a rate says what is allowed.
use Rattle.std.proofs.Common.{◌≡◌, ℕ, ◌+◌, ◌-◌, ◌*◌, ◌<◌, ◌≤◌, ◌⊎◌, ◌&&◌, inl, inr, zero, suc}
use Rattle.std.proofs.Common.{max, List, [], ◌∷◌, Some, refl, sym, ◌∙◌, ap, add-one, zero-mul, zero-add, arith}
use Rattle.std.proofs.Common.{Bool, true, false, cond, subst}
use Rattle.std.specs.Prelude.{nat_le}
use Rattle.std.specs.List.{slice_get}
use Rattle.std.proofs.Math.Nat.{suc-mul}
use Rattle.std.proofs.lemmas.Bool.{cases_lt, le-leb}
use Rattle.std.proofs.Math.Bool.{and-false}
use Rattle.std.proofs.lemmas.Bool.Decides.{nat_tests}
use Rattle.std.proofs.lemmas.List.Sums.{sum_by-cons}
use Rattle.p2p_driver.specs.Rates.{IsAllowed, AreAllowed, AreBefore, IsKept, count_in}

-- one more of A
times : (n m A : ℕ) → n ≡ m + 1 → n * A ≡ m * A + A
times n m A is = ap (λ x. x * A) (is ∙ add-one m) ∙ suc-mul m A

module _ (burst A : ℕ) (some : 1 ≤ burst) where
  -- while less than a burst is ahead, one more is allowed
  pub allowed : (h : List ℕ) (full now : ℕ) → IsKept burst A now h full →
      full - (burst - 1) * A ≤ now → IsAllowed burst A h now
  allowed h full now kept early k a at =
      let one = times (k + 2) (k + 1) A (omega arith) in
      let all = times burst (burst - 1) A (omega arith) in
      omega (arith, kept.least k a at, kept.before k a at, early, one, all)

  -- .. and else none is
  pub refused : (h : List ℕ) (full now : ℕ) → IsKept burst A now h full →
      now < full - (burst - 1) * A → IsAllowed burst A h now → ⊥
  refused h full now kept late all = elim kept.reached [
    | inl none ↦ omega (arith, none, late)
    | inr found ↦
        let one = times (found.0 + 2) (found.0 + 1) A (omega arith) in
        let less = times burst (burst - 1) A (omega arith) in
        omega (
          arith,
          late,
          all found.0 found.1 found.2,
          kept.before found.0 found.1 found.2,
          found.3,
          one,
          less,
        )
  ]

  -- what is kept once one more has happened
  pub kept_with : (h : List ℕ) (full now : ℕ) → IsKept burst A now h full →
      IsKept burst A now (now ∷ h) (max full now + A)
  kept_with h full now kept = record {
    before = before;
    least = least;
    reached = inr (reached (cases_lt now full));
  } where
    before : (k a : ℕ) → slice_get (now ∷ h) k ≡ Some a → a ≤ now
    before zero a at = let is : now ≡ a = cc in omega (arith, is)
    before (suc k) a at = kept.before k a at

    least : (k a : ℕ) → slice_get (now ∷ h) k ≡ Some a →
        a + (k + 1) * A ≤ max (max full now + A) now
    least zero a at =
        let one = times 1 0 A refl in let is : now ≡ a = cc in omega (arith, one, is)
    least (suc k) a at =
        let one = times (suc k + 1) (k + 1) A (omega arith) in omega (arith, kept.least k a at, one)

    reached : (now < full) ⊎ (full ≤ now) → (k : ℕ) × (a : ℕ)
        × (slice_get (now ∷ h) k ≡ Some a) × (max full now + A ≡ a + (k + 1) * A)
    reached (inr early) = let one = times 1 0 A refl in (0, now, refl, omega (arith, one, early))
    reached (inl late) = elim kept.reached [
      | inl none ↦ absurd (omega (arith, none, late))
      | inr found ↦ let one = times (suc found.0 + 1) (found.0 + 1) A (omega arith) in
          (suc found.0, found.1, found.2, omega (arith, found.3, one, late))
    ]

-- once it is over, nothing need be kept
pub forgotten : (burst A : ℕ) (h : List ℕ) (full now : ℕ) → IsKept burst A now h full → full ≤ now →
    IsKept burst A now h 0
forgotten burst A h full now kept over = record {
  before = kept.before;
  least = λ k a at. omega (arith, kept.least k a at, over);
  reached = inl (omega arith);
}

-- nothing happened
pub kept_empty : (burst A now : ℕ) → IsKept burst A now [] 0
kept_empty burst A now = record {
  before = λ k a at. absurd cc;
  least = λ k a at. absurd cc;
  reached = inl (omega arith);
}

-- what is kept at a moment is kept later
pub kept_later : (burst A : ℕ) (h : List ℕ) (full now later : ℕ) → IsKept burst A now h full →
    now ≤ later → IsKept burst A later h full
kept_later burst A h full now later kept after = record {
  before = λ k a at. omega (arith, kept.before k a at, after);
  least = λ k a at. omega (arith, kept.least k a at, after);
  reached = elim kept.reached [
    | inl none ↦ inl (omega (arith, none, after))
    | inr found ↦ inr found
  ];
}

-- a window of a length that begins at a moment
module _ (from size : ℕ) where
  -- whether a moment is in it
  abbrev inside : ℕ → Bool
  inside x = nat_le from x && nat_le x (from + size)

  is_inside : (x : ℕ) → from ≤ x → x ≤ from + size → inside x ≡ true
  is_inside x late early =
      ap (λ b. b && nat_le x (from + size)) (le-leb from x late) ∙ le-leb x (from + size) early

  is_outside : (x : ℕ) → x < from → inside x ≡ false
  is_outside x early = ap (λ b. b && nat_le x (from + size)) earlier
    where
      earlier : nat_le from x ≡ false
      earlier = grind (arith, nat_tests)

  is_later : (x : ℕ) → from + size < x → inside x ≡ false
  is_later x late = ap (λ b. nat_le from x && b) later ∙ and-false (nat_le from x)
    where
      later : nat_le x (from + size) ≡ false
      later = grind (arith, nat_tests)

  counted : (x : ℕ) (h : List ℕ) (b : Bool) → inside x ≡ b →
      count_in from size (x ∷ h) ≡ cond b 1 0 + count_in from size h
  counted x h b is = sum_by-cons (λ m. cond (inside m) 1 0) x h
      ∙ ap (λ b. cond b 1 0 + count_in from size h) is

  module _ (burst A : ℕ) where
    -- so many of the newest moments that are no later than its end are no earlier than its begin
    since : (h : List ℕ) → AreAllowed burst A h → AreBefore (from + size) h → (k : ℕ) →
        k < count_in from size h → (a : ℕ) × (slice_get h k ≡ Some a) × (from ≤ a)
    since [] all before k less = absurd (omega (arith, less))
    since (x ∷ h) all before k less = elim (cases_lt x from) [
      | inl early ↦
          let one = counted x h false (is_outside x early) in
          let found = since h all.2 (λ k a at. before (suc k) a at) k (omega (arith, less, one)) in
          absurd (omega (arith, all.1 k found.0 found.1, found.2, early))
      | inr late ↦ elim (cases_lt 0 k) [
        | inl more ↦
            let one = counted x h true (is_inside x late (before 0 x refl)) in
            let found = since h all.2 (λ k a at. before (suc k) a at) (k - 1)
            (omega (arith, less, one, more)) in
            let next : k ≡ suc (k - 1) = omega (arith, more) in
            (found.0, subst (λ k. slice_get (x ∷ h) k ≡ Some found.0) (sym next) found.1, found.2)
        | inr first ↦
            let zeroth : k ≡ 0 = omega (arith, first) in
            (x, subst (λ k. slice_get (x ∷ h) k ≡ Some x) (sym zeroth) refl, late)
      ]
    ]

    -- in a window in which x is the newest no more happen than are allowed
    from_newest : 1 ≤ burst → (x : ℕ) (h : List ℕ) → AreAllowed burst A (x ∷ h) → (n : ℕ) →
        from ≤ x → x ≤ from + size → count_in from size h ≡ n → (1 + n) * A ≤ burst * A + size
    from_newest some x h all zero late early is =
        let one = times burst (burst - 1) A (omega (arith, some)) in
        let single = times 1 0 A refl in
        omega (arith, one, single)
    from_newest some x h all (suc n) late early is =
        let found = since h all.2 (λ k a at. omega (arith, all.1 k a at, early)) n
        (omega (arith, is)) in
        let same : (1 + suc n) * A ≡ (n + 2) * A = ap (λ k. k * A) (omega arith) in
        omega (arith, all.0 n found.0 found.1, found.2, all.1 n found.0 found.1, early, same)

    pub at_most : 1 ≤ burst → (h : List ℕ) → AreAllowed burst A h →
        count_in from size h * A ≤ burst * A + size
    at_most some [] all = subst (λ n. n ≤ burst * A + size) (sym (zero-mul A)) (omega arith)
    at_most some (x ∷ h) all =
        let fewer : inside x ≡ false → count_in from size (x ∷ h) * A ≤ burst * A + size
        = λ is. subst (λ n. n * A ≤ burst * A + size)
        (sym (counted x h false is ∙ zero-add (count_in from size h)))
        (at_most some h all.2) in
        elim (cases_lt x from) [
          | inl early ↦ fewer (is_outside x early)
          | inr late ↦ elim (cases_lt (from + size) x) [
            | inl after ↦ fewer (is_later x after)
            | inr early ↦ subst (λ n. n * A ≤ burst * A + size)
                (sym (counted x h true (is_inside x late early)))
                (from_newest some x h all (count_in from size h) late early refl)
          ]
        ]
