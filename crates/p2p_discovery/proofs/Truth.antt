-- Truth values, orderings and tests of numbers.
use Rattle.std.proofs.Common.{◌≡◌, ◌+◌, ◌<◌, ℕ, suc, Bool, true, false, not, ◌&&◌, refl, ap, sym, arith}
use Rattle.std.specs.Prelude.{◌==◌, nat_lt, nat_le}
use Rattle.std.specs.Ordering.{is_eq}
use Rattle.std.specs.declared.cmp.Ordering.{Ordering}
use Rattle.std.specs.declared.cmp.Ordering.TheVariants.{Less, Equal, Greater}
use Rattle.std.proofs.lemmas.Bool.{true≢false}
use Rattle.std.proofs.lemmas.Bool.Decides.{nat_tests}

pub and-and_not : (x y : Bool) → false ≡ ((x && y) && not y)
and-and_not true true = refl
and-and_not true false = refl
and-and_not false y = refl

pub Equal-from_is_eq : (o : Ordering) → is_eq o ≡ true → o ≡ Equal
Equal-from_is_eq Less e = absurd (true≢false (sym e))
Equal-from_is_eq Equal e = refl
Equal-from_is_eq Greater e = absurd (true≢false (sym e))

pub Less-not_equal : Less ≡ Equal → ⊥
Less-not_equal e = true≢false (sym (ap is_eq e))

pub Greater-not_equal : Greater ≡ Equal → ⊥
Greater-not_equal e = true≢false (sym (ap is_eq e))

pub nat_eq-itself : (n : ℕ) → (n == n) ≡ true
nat_eq-itself n = grind (arith, nat_tests)

pub nat_eq-greater : (m n : ℕ) → n < m → (m == n) ≡ false
nat_eq-greater m n low = grind (arith, nat_tests, low)

pub nat_le-not_lt : (m n : ℕ) → nat_le m n ≡ not (nat_lt n m)
nat_le-not_lt m n = grind (arith, nat_tests)

pub suc-plus_one : (n : ℕ) → suc n ≡ n + 1
suc-plus_one n = omega arith
