-- The order of two lists of bytes is that of the numbers that their first four spell, where these differ.
use Rattle.std.proofs.Common.{◌≡◌, ℕ, ◌+◌, ◌*◌, ◌<◌, ◌≤◌, inl, inr, List, [], ◌∷◌, length, refl, sym, ◌∙◌, ap, arith}
use Rattle.std.specs.Int.{w32, from_be_bytes}
use Rattle.std.specs.Prelude.{◌⊎◌, slice_index}
use Rattle.std.specs.Ordering.{nat_cmp, ordering_then}
use Rattle.std.specs.Cmp.{nat_cmp_is}
use Rattle.std.specs.Cmp.Lexicographic.{slice_cmp}
use Rattle.std.specs.declared.cmp.Ordering.{Ordering}
use Rattle.std.specs.declared.cmp.Ordering.TheVariants.{Less, Equal, Greater}
use Rattle.std.proofs.lemmas.Bool.{cases_order}
use Rattle.std.proofs.lemmas.Map.Lookups.{exact_unsigned}

-- what isn't equal decides
decides : (o rest : Ordering) → (o ≡ Equal → ⊥) → ordering_then o rest ≡ o
decides Less rest not_equal = refl
decides Equal rest not_equal = absurd (not_equal refl)
decides Greater rest not_equal = refl

-- the first of two numbers, and then a byte behind each, decide as the numbers with these bytes do
merged : (m n x y : ℕ) (rest : Ordering) → x < 256 → y < 256 →
    ordering_then (nat_cmp m n) (ordering_then (nat_cmp x y) rest)
    ≡ ordering_then (nat_cmp (m * 256 + x) (n * 256 + y)) rest
merged m n x y rest small little = go (cases_order m n) (cases_order x y)
  where
    decided : (o : Ordering) → ((r : Ordering) → ordering_then o r ≡ o) → o ≡ nat_cmp m n →
        o ≡ nat_cmp (m * 256 + x) (n * 256 + y) →
        ordering_then (nat_cmp m n) (ordering_then (nat_cmp x y) rest)
        ≡ ordering_then (nat_cmp (m * 256 + x) (n * 256 + y)) rest
    decided o stays front whole =
        ap (λ o. ordering_then o (ordering_then (nat_cmp x y) rest)) (sym front)
        ∙ stays (ordering_then (nat_cmp x y) rest)
        ∙ sym (stays rest) ∙ ap (λ o. ordering_then o rest) whole

    behind : (o : Ordering) → Equal ≡ nat_cmp m n → o ≡ nat_cmp x y → o ≡ nat_cmp (m * 256 + x) (n * 256 + y) →
        ordering_then (nat_cmp m n) (ordering_then (nat_cmp x y) rest)
        ≡ ordering_then (nat_cmp (m * 256 + x) (n * 256 + y)) rest
    behind o front last whole =
        ap (λ o. ordering_then o (ordering_then (nat_cmp x y) rest)) (sym front)
        ∙ ap (λ o. ordering_then o rest) (sym last ∙ whole)

    go : (m ≡ n) ⊎ ((m < n) ⊎ (n < m)) → (x ≡ y) ⊎ ((x < y) ⊎ (y < x)) →
        ordering_then (nat_cmp m n) (ordering_then (nat_cmp x y) rest)
        ≡ ordering_then (nat_cmp (m * 256 + x) (n * 256 + y)) rest
    go (inr (inl lt)) _ = decided Less (λ r. refl) (nat_cmp_is m n Less lt)
        (nat_cmp_is (m * 256 + x) (n * 256 + y) Less (omega (arith, lt, small, little)))
    go (inr (inr gt)) _ = decided Greater (λ r. refl) (nat_cmp_is m n Greater gt)
        (nat_cmp_is (m * 256 + x) (n * 256 + y) Greater (omega (arith, gt, small, little)))
    go (inl is) (inl same) = behind Equal (nat_cmp_is m n Equal is) (nat_cmp_is x y Equal same)
        (nat_cmp_is (m * 256 + x) (n * 256 + y) Equal (omega (arith, is, same)))
    go (inl is) (inr (inl lt)) = behind Less (nat_cmp_is m n Equal is) (nat_cmp_is x y Less lt)
        (nat_cmp_is (m * 256 + x) (n * 256 + y) Less (omega (arith, is, lt)))
    go (inl is) (inr (inr gt)) = behind Greater (nat_cmp_is m n Equal is) (nat_cmp_is x y Greater gt)
        (nat_cmp_is (m * 256 + x) (n * 256 + y) Greater (omega (arith, is, gt)))

pub fronted : (xs ys : List ℕ) → 4 ≤ length xs → 4 ≤ length ys →
    ((i : ℕ) → slice_index xs i < 256) → ((i : ℕ) → slice_index ys i < 256) →
    (from_be_bytes w32 xs ≡ from_be_bytes w32 ys → ⊥) →
    slice_cmp nat_cmp xs ys ≡ nat_cmp (from_be_bytes w32 xs) (from_be_bytes w32 ys)
fronted (a ∷ b ∷ c ∷ d ∷ xs) (e ∷ f ∷ g ∷ h ∷ ys) _ _ small little other =
    let rest = slice_cmp nat_cmp xs ys in
    let m = ((a * 256 + b) * 256 + c) * 256 + d in
    let n = ((e * 256 + f) * 256 + g) * 256 + h in
    let first : m ≡ from_be_bytes w32 (a ∷ b ∷ c ∷ d ∷ xs) = omega arith in
    let second : n ≡ from_be_bytes w32 (e ∷ f ∷ g ∷ h ∷ ys) = omega arith in
    merged a e b f (ordering_then (nat_cmp c g) (ordering_then (nat_cmp d h) rest)) (small 1) (little 1)
    ∙ merged (a * 256 + b) (e * 256 + f) c g (ordering_then (nat_cmp d h) rest) (small 2) (little 2)
    ∙ merged ((a * 256 + b) * 256 + c) ((e * 256 + f) * 256 + g) d h rest (small 3) (little 3)
    ∙ decides (nat_cmp m n) rest (λ tied. other (sym first ∙ exact_unsigned m n tied ∙ second))
    ∙ ap (λ k. nat_cmp k n) first ∙ ap (nat_cmp (from_be_bytes w32 (a ∷ b ∷ c ∷ d ∷ xs))) second
fronted [] ys four _ small little other = absurd (omega (arith, four))
fronted (a ∷ []) ys four _ small little other = absurd (omega (arith, four))
fronted (a ∷ b ∷ []) ys four _ small little other = absurd (omega (arith, four))
fronted (a ∷ b ∷ c ∷ []) ys four _ small little other = absurd (omega (arith, four))
fronted (a ∷ b ∷ c ∷ d ∷ xs) [] _ four small little other = absurd (omega (arith, four))
fronted (a ∷ b ∷ c ∷ d ∷ xs) (e ∷ []) _ four small little other = absurd (omega (arith, four))
fronted (a ∷ b ∷ c ∷ d ∷ xs) (e ∷ f ∷ []) _ four small little other = absurd (omega (arith, four))
fronted (a ∷ b ∷ c ∷ d ∷ xs) (e ∷ f ∷ g ∷ []) _ four small little other = absurd (omega (arith, four))
