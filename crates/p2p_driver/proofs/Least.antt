-- The least deadline of inbound streams, while they are walked.
use Rattle.std.proofs.Common.{◌≡◌, ◌≤◌, ◌<◌, ℕ, Option, None, Some, List, slice_get}
use Rattle.p2p_driver.specs.declared.arrivals.Arrival.{Arrival}
use Rattle.std.proofs.Common.{◌+◌, length, get_or, refl, sym, ◌∙◌, ap, inl, inr, arith}
use Rattle.std.specs.Prelude.{unwrap_or}
use Rattle.std.proofs.lemmas.Bool.{cases_lt}
use Rattle.std.proofs.lemmas.Option.{slice_get-get_or, slice_get_within}
use Rattle.std.proofs.lemmas.List.{nil_from_length}
use Rattle.p2p_driver.specs.Arrivals.{deadline_of, lesser_of, IsLeastDeadline}

-- the least deadline of the first i, if there is one
abbrev pub IsLeast : {K : Type 0} → ℕ → ℕ → List (Arrival K) → ℕ → Option ℕ → Type 0
IsLeast {K} first handshake arrivals i None = i ≡ 0
IsLeast {K} first handshake arrivals i (Some least) =
    ((k : ℕ) (a : Arrival K) → k < i → slice_get arrivals k ≡ Some a →
    least ≤ deadline_of first handshake a)
    × ((k : ℕ) × (a : Arrival K) × (k < i)
    × (slice_get arrivals k ≡ Some a) × (deadline_of first handshake a ≡ least))

module _ {K : Type 0} (first handshake : ℕ) (arrivals : List (Arrival K)) where
  -- one more is walked
  pub least_next : (i : ℕ) (next : Option ℕ) (x : Arrival K) → i < length arrivals →
      x ≡ get_or arrivals i x → IsLeast first handshake arrivals i next →
      IsLeast first handshake arrivals (i + 1) (Some (lesser_of next (deadline_of first handshake x)))
  least_next i next x lt is before = go next before
    where
      at : slice_get arrivals i ≡ Some x
      at = slice_get-get_or arrivals i x lt ∙ ap Some (sym is)

      same : (k : ℕ) (a : Arrival K) → k ≡ i → slice_get arrivals k ≡ Some a → a ≡ x
      same k a here has =
          ap (λ o. unwrap_or o x) (sym has ∙ ap (slice_get arrivals) here ∙ at)

      go : (next : Option ℕ) → IsLeast first handshake arrivals i next →
          IsLeast first handshake arrivals (i + 1) (Some (lesser_of next (deadline_of first handshake x)))
      go None none = (
        λ k a within has.
            let it = same k a (omega (arith, within, none)) has in
            omega (arith, ap (deadline_of first handshake) it),
        (i, x, omega (arith), at, refl),
      )
      go (Some least) found = (
        λ k a within has. elim (cases_lt k i) [
          | inl early ↦ omega (arith, found.0 k a early has)
          | inr late ↦ let it = same k a (omega (arith, within, late)) has in
              omega (arith, ap (deadline_of first handshake) it)
        ],
        elim (cases_lt least (deadline_of first handshake x)) [
          | inl less ↦ (
            found.1.0,
            found.1.1,
            omega (arith, found.1.2),
            found.1.3,
            found.1.4 ∙ omega (arith, less),
          )
          | inr more ↦ (i, x, omega arith, at, omega (arith, more))
        ],
      )

  -- all are walked
  pub least_of_all : (i : ℕ) (next : Option ℕ) → length arrivals ≤ i →
      IsLeast first handshake arrivals i next → i ≤ length arrivals →
      IsLeastDeadline first handshake arrivals next
  least_of_all i None all none within = nil_from_length arrivals (omega (arith, none, within))
  least_of_all i (Some least) all found within = (
    λ k a has.
        found.0 k a (omega (arith, slice_get_within arrivals k a has, all)) has,
    (found.1.0, found.1.1, found.1.3, found.1.4),
  )
