-- How a list of infos is judged from each place on.
use Rattle.std.proofs.Common.{◌≡◌, ℕ, zero, suc, ◌<◌, Bool, true, false, List, [], ◌∷◌}
use Rattle.std.proofs.Common.{length, drop, get_or, refl, arith, is_some, if◌then◌else◌}
use Rattle.std.proofs.Math.Seq.{drop-nil}
use Rattle.p2p_discovery.specs.declared.discovery.Info.{Info}
use Rattle.p2p_discovery.specs.Judgement.{Judge, first_of, refusal_if, first_refusal_by, judged_before}

module _ {C S : Type 0} (j : Judge C S) (now : ℕ) where
  judges : (k : ℕ) (vs : List Bool) (is : List (Info C S)) (i : Info C S) → k < length is →
      get_or is k i ≡ i → first_refusal_by j (drop k vs) now (drop k is)
      ≡ first_of (refusal_if j (get_or vs k false) now i)
      (first_refusal_by j (drop (suc k) vs) now (drop (suc k) is))
  judges k vs [] i h e = absurd (omega (arith, h))
  judges zero [] (x ∷ is) i h e = rw e refl
  judges zero (v ∷ vs) (x ∷ is) i h e = rw e refl
  judges (suc k) [] (x ∷ is) i h e =
      let none : drop k [] ≡ [] = drop-nil {A = Bool} k in
      rw none at (judges k [] is i (omega (arith, h)) e)
  judges (suc k) (v ∷ vs) (x ∷ is) i h e = judges k vs is i (omega (arith, h)) e

  asks : (k : ℕ) (is : List (Info C S)) (i : Info C S) → k < length is → get_or is k i ≡ i →
      judged_before j now (drop k is) ≡ (if is_some (refusal_if j true now i) then []
      else i ∷ judged_before j now (drop (suc k) is))
  asks k [] i h e = absurd (omega (arith, h))
  asks zero (x ∷ is) i h e = rw e refl
  asks (suc k) (x ∷ is) i h e = asks k is i (omega (arith, h)) e
