-- Who gives way, by the greatest number of one origin.
use Rattle.std.proofs.Common.{◌≡◌, ◌&&◌, not, nat_le, ℕ, Bool, true, false, List, [], ◌∷◌}
use Rattle.std.proofs.Common.{Option, Some, None, find, cond, refl, sym, ◌∙◌, ap}
use Rattle.std.proofs.Math.Bool.{and-true}
use Rattle.std.specs.Prelude.{is_some, option_map}
use Rattle.p2p_driver.specs.declared.arrivals.Arrival.{Arrival}
use Rattle.p2p_driver.specs.Arrivals.{is_older, count_older, has_most, is_crowded, crowded_of, or_else, gives_way}

-- two tests that agree find the same
same_found : {A : Type 0} (p q : A → Bool) → ((x : A) → p x ≡ q x) → (xs : List A) → find p xs ≡ find q xs
same_found p q same [] = refl
same_found p q same (x ∷ xs) = ap (λ b. cond b (Some x) (find p xs)) (same x)
    ∙ ap (λ o. cond (q x) (Some x) o) (same_found p q same xs)

module _ {K : Type 0} (grace now : ℕ) (arrivals : List (Arrival K)) (most : ℕ)
    (is_most : (a : Arrival K) → has_most grace now arrivals a
    ≡ nat_le most (count_older grace now arrivals a.origin)) where
  -- one of those from which one gives way, by that number
  abbrev gives : Bool → Arrival K → Bool
  gives all a = gives_way grace now arrivals most all a

  crowds : (a : Arrival K) → is_crowded grace now arrivals a
      ≡ (is_older grace now a && nat_le most (count_older grace now arrivals a.origin))
  crowds a = ap (λ b. is_older grace now a && b) (is_most a)

  unclaimed : find (gives false) arrivals
      ≡ find (λ a. is_crowded grace now arrivals a && not (is_some a.claim)) arrivals
  unclaimed = same_found (gives false) (λ a. is_crowded grace now arrivals a && not (is_some a.claim))
      (λ a. ap (λ b. b && not (is_some a.claim)) (sym (crowds a))) arrivals

  any : find (gives true) arrivals ≡ find (is_crowded grace now arrivals) arrivals
  any = same_found (gives true) (is_crowded grace now arrivals)
      (λ a. and-true _ ∙ sym (crowds a)) arrivals

  number : Option (Arrival K) → Option ℕ
  number o = option_map (λ a. a.number) o

  -- the first that hasn't claimed
  pub first : (r : Option ℕ) (n : ℕ) → r ≡ option_map (λ a. a.number) (find (gives false) arrivals) → r ≡ Some n → Some n ≡ crowded_of grace now arrivals
  first r n is some = go (find (gives false) arrivals) (sym unclaimed) (sym some ∙ is)
    where
      go : (o : Option (Arrival K)) →
          find (λ a. is_crowded grace now arrivals a && not (is_some a.claim)) arrivals ≡ o →
          Some n ≡ option_map (λ a. a.number) o → Some n ≡ crowded_of grace now arrivals
      go (Some a) at is = is ∙ ap (λ o. option_map (λ a. a.number)
          (or_else o (find (is_crowded grace now arrivals) arrivals))) (sym at)
      go None at is = absurd cc

  -- .. or if all have, the first
  pub second : (r r2 : Option ℕ) → r ≡ option_map (λ a. a.number) (find (gives false) arrivals) → r ≡ None →
      r2 ≡ option_map (λ a. a.number) (find (gives true) arrivals) → r2 ≡ crowded_of grace now arrivals
  second r r2 is none is2 = is2 ∙ ap (option_map (λ a. a.number)) any
      ∙ go (find (gives false) arrivals) (sym unclaimed) (sym none ∙ is)
    where
      go : (o : Option (Arrival K)) →
          find (λ a. is_crowded grace now arrivals a && not (is_some a.claim)) arrivals ≡ o →
          None ≡ option_map (λ a. a.number) o →
          option_map (λ a. a.number) (find (is_crowded grace now arrivals) arrivals)
          ≡ crowded_of grace now arrivals
      go None at is = ap (λ o. option_map (λ a. a.number)
          (or_else o (find (is_crowded grace now arrivals) arrivals))) (sym at)
      go (Some a) at is = absurd cc
