-- The last of a list of sets.
use Rattle.std.proofs.Common.{◌≡◌, suc, ◌-◌, ◌+◌, ◌<◌, Bool, true, false, ◌||◌, cond, List, [], ◌∷◌}
use Rattle.std.proofs.Common.{length, get_or, Option, Some, None, refl, ap, ◌∙◌, sym, arith}
use Rattle.std.specs.Prelude.{nat_lt}
use Rattle.std.proofs.lemmas.List.Sums.{length-filter}
use Rattle.std.specs.List.{last_or, filter}
use Rattle.std.specs.Option.{option_map_or}
use Rattle.std.specs.Ordering.{is_eq}
use Rattle.std.specs.Cmp.{IsTotalOrder}
use Rattle.std.specs.declared.cmp.Ordering.{Ordering}
use Rattle.std.proofs.lemmas.Bool.{ltb-true, lt-ltb, or_right}
use Rattle.std.proofs.lemmas.Cmp.{tied_itself}
use Rattle.p2p_tracker.specs.declared.record.Role.{Role}
use Rattle.p2p_tracker.specs.declared.record.Role.TheVariants.{Primary, Secondary}
use Rattle.p2p_tracker.specs.Calls.{SetAt}
use Rattle.p2p_tracker.specs.PeerSets.{members, has_peers, set_count}
use Rattle.p2p_discovery.specs.Ordered.{has_key}
use Rattle.p2p_tracker.specs.Lists.{Somebody}

-- what stands at the last place is the last
pub last_is : {A : Type 0} (o : Option A) (xs : List A) (x : A) → 0 < length xs → x ≡ get_or xs (length xs - 1) x → Some x ≡ last_or o xs
last_is o [] x some at = absurd (omega arith)
last_is o (y ∷ []) x some at = ap Some at
last_is o (y ∷ z ∷ xs) x some at =
    let e : length (y ∷ z ∷ xs) - 1 ≡ suc (length (z ∷ xs) - 1) = omega arith in
    last_is (Some y) (z ∷ xs) x (omega arith) (at ∙ ap (λ k. get_or (y ∷ z ∷ xs) k x) e)

-- what passes as the last one is among those that pass
last_passes : {A : Type 0} (test : A → Bool) (o : Option A) (xs : List A) (x : A) → last_or o xs ≡ Some x →
    test x ≡ true → (option_map_or test o false || nat_lt 0 (length (filter test xs))) ≡ true
last_passes test o [] x is passes = ap (λ o. option_map_or test o false || false) is ∙ ap (λ b. b || false) passes
last_passes test o (y ∷ ys) x is passes =
    or_right (option_map_or test o false) (nat_lt 0 (length (filter test (y ∷ ys))))
    (go (test y) (last_passes test (Some y) ys x is passes))
  where
    go : (b : Bool) → (b || nat_lt 0 (length (filter test ys))) ≡ true → nat_lt 0 (length (cond b (y ∷ filter test ys) (filter test ys))) ≡ true
    go true e = lt-ltb 0 (suc (length (filter test ys))) (omega arith)
    go false e = e

-- who is in the last set is in some set
pub named_in_last : {C : Type 0} {cmp : C → C → Ordering} → IsTotalOrder cmp →
    (sets : List (SetAt C)) (set : SetAt C) → last_or None sets ≡ Some set → has_peers set ≡ true →
    Somebody (λ q. nat_lt 0 (set_count cmp Primary q sets) || nat_lt 0 (set_count cmp Secondary q sets))
named_in_last {C} {cmp} total sets set is some = go set.primary refl set.secondary refl some
  where
    first : (p : C) (ps : List C) → has_key cmp (p ∷ ps) p ≡ true
    first p ps = ap (λ o. is_eq o || has_key cmp ps p) (tied_itself total p)

    counted : (role : Role) (q : C) → has_key cmp (members role set) q ≡ true → nat_lt 0 (set_count cmp role q sets) ≡ true
    counted role q has = ap (nat_lt 0) (sym (length-filter (λ x. has_key cmp (members role x) q) sets))
        ∙ last_passes (λ x. has_key cmp (members role x) q) None sets set is has

    go : (ps : List C) → set.primary ≡ ps → (qs : List C) → set.secondary ≡ qs →
        nat_lt 0 (length ps + length qs) ≡ true →
        Somebody (λ q. nat_lt 0 (set_count cmp Primary q sets) || nat_lt 0 (set_count cmp Secondary q sets))
    go (p ∷ ps) e qs f h = (p, ap (λ b. b || nat_lt 0 (set_count cmp Secondary p sets)) (counted Primary p (ap (λ ps. has_key cmp ps p) e ∙ first p ps)))
    go [] e (q ∷ qs) f h = (
      q,
      or_right (nat_lt 0 (set_count cmp Primary q sets)) (nat_lt 0 (set_count cmp Secondary q sets))
          (counted Secondary q (ap (λ qs. has_key cmp qs q) f ∙ first q qs)),
    )
    go [] e [] f h = absurd (omega (arith, ltb-true 0 0 h))
