-- The laws of keys and signatures that are arrays of bytes, or one byte below a bound.
use Rattle.std.proofs.Common.{◌≡◌, ℕ, zero, suc, ◌≤◌, ◌<◌, Bool, true, false, cond, List, []}
use Rattle.std.proofs.Common.{◌∷◌, ◌++◌, length, replicate, Some, None, refl, sym, ap}
use Rattle.std.proofs.Common.{◌∙◌, arith, ltb, eqb}
use Rattle.std.specs.declared.cmp.Ordering.TheVariants.{Equal}
use Rattle.std.specs.Cmp.Lexicographic.{pointwise, slice_cmp, bytes_decides}
use Rattle.std.specs.Ordering.{nat_cmp}
use Rattle.std.proofs.lemmas.Bool.{lt-ltb, ltb-true}
use Rattle.std.proofs.lemmas.List.{take_at, length-take, length-append, length-replicate}
use Rattle.std.proofs.lemmas.Map.Lookups.{exact_bytes}
use Rattle.p2p_discovery.specs.Reading.{IsBytes}
use Rattle.p2p_discovery.specs.Fields.{IsSized}
use Rattle.p2p_discovery.specs.Fixed.{IsFixed}
use Rattle.p2p_discovery.specs.Arrays.{array_spelling, number_below}

pub array_is : (n : ℕ) (b : List ℕ) → length b ≡ n → array_spelling n b ≡ b
array_is n b h = take_at b (replicate n 0) n h

length-array : (n : ℕ) (b : List ℕ) → length (array_spelling n b) ≡ n
length-array n b =
    omega (
      arith,
      length-take n (b ++ replicate n 0),
      length-append b (replicate n 0),
      length-replicate {A = ℕ} n 0,
    )

module _ {K : Type 0} (to : List ℕ → K) (from : K → List ℕ) (again : (k : K) → to (from k) ≡ k)
    (only : (b : List ℕ) → from (to b) ≡ b) where
  some_is : (a b : K) → Some a ≡ Some b → a ≡ b
  some_is a b e = cc

  -- an array of n bytes is a value of a fixed number of bytes, and every n bytes are read
  pub fixed_array : (n : ℕ) → n ≤ 65535
      → IsFixed n (λ k. array_spelling n (from k)) (λ b. Some (to b)) (λ k. IsSized n (from k))
  fixed_array n small = record {
    small = small;
    len = λ k. length-array n (from k);
    again = λ k h.
        let is = array_is n (from k) h.0 in
        rw is (h, ap (λ (x : K). Some x) (again k));
    only = λ b k h e.
        let is : to b ≡ k = some_is (to b) k e in
        let bytes : from k ≡ b = ap from (sym is) ∙ only b in
        rw bytes (h, array_is n b h.0);
  }

  -- arrays that are equal by their bytes are one array
  pub one_array : (x y : K) → pointwise eqb (from x) (from y) ≡ true → x ≡ y
  one_array x y e = sym (again x) ∙ ap to ((bytes_decides (from x) (from y)).0 e) ∙ again y

  -- and so are arrays that compare as equal by their bytes
  pub exact_array : (x y : K) → slice_cmp nat_cmp (from x) (from y) ≡ Equal → x ≡ y
  exact_array x y e = sym (again x) ∙ ap to (exact_bytes (from x) (from y) e) ∙ again y

-- ---- one byte below a bound

below_is : (bound b n : ℕ) → cond (ltb b bound) (Some b) None ≡ Some n → (b < bound) × (b ≡ n)
below_is bound b n e = go (ltb b bound) refl e
  where
    go : (t : Bool) → ltb b bound ≡ t → cond t (Some b) None ≡ Some n → (b < bound) × (b ≡ n)
    go true h f = (ltb-true b bound h, (let e : Some b ≡ Some n = f in cc))
    go false h f = absurd (let e : None ≡ Some n = f in cc)

one_byte : (n : ℕ) → n < 256 → IsBytes (n ∷ [])
one_byte n h zero = h
one_byte n h (suc i) = omega arith

pub fixed_below : (bound : ℕ) → bound ≤ 256
    → IsFixed 1 (λ n. n ∷ []) (number_below bound) (λ n. n < bound)
fixed_below bound le = record {
  small = omega arith;
  len = λ n. refl;
  again = λ n h. ((refl, one_byte n (omega arith)), rw (lt-ltb n bound h) refl);
  only = elim [
    | [] ↦ λ n h e. absurd (omega (arith, h.0))
    | b ∷ [] ↦ λ n h e. let p = below_is bound b n e in rw (← p.1) (p.0, refl)
    | b ∷ c ∷ bytes ↦ λ n h e. absurd (omega (arith, h.0))
  ];
}
