-- Walks from the latest place of a key to older ones.
use Rattle.std.proofs.Common.{◌≡◌, ℕ, zero, suc, ◌<◌, ◌≤◌, Bool, true, false, cond, filter, not, List, [], ◌∷◌, ◌++◌}
use Rattle.std.proofs.Common.{length, get_or, Option, Some, None, IfSome, refl, sym, ◌∙◌, ap, arith}
use Rattle.std.specs.Prelude.{◌==◌}
use Rattle.std.specs.List.{AllByRecursion}
use Rattle.std.specs.List.Sorted.{IsStrictlySortedBy}
use Rattle.std.specs.Ordering.{nat_cmp}
use Rattle.std.specs.declared.cmp.Ordering.TheVariants.{Less}
use Rattle.std.proofs.lemmas.Bool.Decides.{nat_tests}
use Rattle.std.proofs.lemmas.Cmp.{ranked}
use Rattle.std.proofs.lemmas.List.Elements.{filter-append}
use Rattle.std.proofs.lemmas.Bool.{eqb-true, or_parts, or_from}
use Rattle.p2p_discovery.proofs.Truth.{nat_eq-itself, nat_eq-greater}
use Rattle.p2p_tracker.specs.declared.kept.places.Place.{Place}
use Rattle.p2p_tracker.specs.Private.Places.{met, met_in, walk, unless_in, has_index, AreEarlier}

-- NUMBERS

-- a number that is not above n is none of those above n
none_above : (n : ℕ) (ns : List ℕ) (x : ℕ) → AllByRecursion (λ m. nat_cmp n m ≡ Less) ns → x ≤ n →
    has_index ns x ≡ false
none_above n [] x up low = refl
none_above n (m ∷ ns) x up low =
    let less : n < m = ranked n m Less (sym up.0) in
    or_from (m == x) (has_index ns x) (nat_eq-greater m x (omega (arith, less, low))) (none_above n ns x up.1 low)

-- WHERE WALKS GO

-- no place, or one in none of the sets
abbrev IsElsewhere : List ℕ → Option Place → Type 0
IsElsewhere ns o = IfSome o (λ p. has_index ns p.set ≡ false)

-- sets that a place is not in are passed
pub passed : (before : Option Place → List Place) (ns : List ℕ) (ls : List (List (Option Place))) (o : Option Place) →
    IsElsewhere ns o → met before ns ls o ≡ before o
passed before (n ∷ ns) (l ∷ ls) None h = passed (met_in before n l) ns ls None tt
passed before (n ∷ ns) (l ∷ ls) (Some p) h =
    let parts = or_parts (n == p.set) (has_index ns p.set) h in
    passed (met_in before n l) ns ls (Some p) parts.1
    ∙ ap (λ b. cond b (before (get_or l p.at None) ++ p ∷ []) (before (Some p))) parts.0
passed before _ _ o h = refl

-- from a place in one of the sets, a walk goes on from what stands beside it
pub met_at : (before : Option Place → List Place) (ns : List ℕ) (ls : List (List (Option Place))) (i : ℕ)
    (p : Place) → IsStrictlySortedBy nat_cmp ns → AreEarlier ns ls → i < length ns → get_or ns i 0 ≡ p.set →
    met before ns ls (Some p) ≡ met before ns ls (get_or (get_or ls i []) p.at None) ++ p ∷ []
unfolding IsStrictlySortedBy
met_at before [] ls i p up e low is = absurd (omega (arith, low))
met_at before (n ∷ ns) [] i p up e low is = absurd e
met_at before (n ∷ ns) (l ∷ ls) zero p up e low is =
    passed (met_in before n l) ns ls (Some p)
    (none_above n ns p.set up.0 (let h : p.set ≤ n = omega (arith, is) in h))
    ∙ ap (λ b. cond b (before (get_or l p.at None) ++ p ∷ []) (before (Some p)))
    (ap (λ k. n == k) (sym is) ∙ nat_eq-itself n)
    ∙ ap (λ ps. ps ++ p ∷ []) (sym (past (get_or l p.at None) (each l p.at e.0)))
  where
    each : (l : List (Option Place)) (j : ℕ) → AllByRecursion (λ o. IfSome o (λ x. x.set < n)) l →
        IfSome (get_or l j None) (λ x. x.set < n)
    each [] j h = tt
    each (o ∷ l) zero h = h.0
    each (o ∷ l) (suc j) h = each l j h.1

    past : (o : Option Place) → IfSome o (λ x. x.set < n) → met (met_in before n l) ns ls o ≡ before o
    past None h = passed (met_in before n l) ns ls None tt
    past (Some x) h =
        passed (met_in before n l) ns ls (Some x) (none_above n ns x.set up.0 (omega (arith, h)))
        ∙ ap (λ b. cond b (before (get_or l x.at None) ++ x ∷ []) (before (Some x))) (nat_eq-greater n x.set h)
met_at before (n ∷ ns) (l ∷ ls) (suc i) p up e low is =
    met_at (met_in before n l) ns ls i p up.1 e.1 (omega (arith, low)) is

-- as many lists as sets
pub as_many : (ns : List ℕ) (ls : List (List (Option Place))) → AreEarlier ns ls → length ns ≡ length ls
as_many [] [] e = refl
as_many (n ∷ ns) (l ∷ ls) e = ap suc (as_many ns ls e.1)
as_many _ _ e = absurd e

-- one more set
pub met_more : (before : Option Place → List Place) (ns : List ℕ) (ls : List (List (Option Place))) (n : ℕ)
    (l : List (Option Place)) (o : Option Place) → length ns ≡ length ls →
    met before (ns ++ n ∷ []) (ls ++ l ∷ []) o ≡ met_in (met before ns ls) n l o
met_more before [] (k ∷ ls) n l o e = absurd (omega (arith, e))
met_more before (m ∷ ns) [] n l o e = absurd (omega (arith, e))
met_more before (m ∷ ns) (k ∷ ls) n l o e = met_more (met_in before m k) ns ls n l o (omega (arith, e))
met_more before [] [] n l _ e = refl

pub earlier_more : (ns : List ℕ) (ls : List (List (Option Place))) (n : ℕ) (l : List (Option Place)) →
    AreEarlier ns ls → AllByRecursion (λ o. IfSome o (λ p. p.set < n)) l → AreEarlier (ns ++ n ∷ []) (ls ++ l ∷ [])
earlier_more [] [] n l e h = (h, tt)
earlier_more (m ∷ ns) (k ∷ ls) n l e h = (e.0, earlier_more ns ls n l e.1 h)
earlier_more _ _ n l e h = absurd e

-- WITHOUT ONE SET

-- the place is not in the set with this index
abbrev pub is_outside : ℕ → Place → Bool
is_outside n p = not (n == p.set)

-- walks that go on alike outside of a set are alike outside of it
alike : (n : ℕ) (ns : List ℕ) (ls : List (List (Option Place))) (f g : Option Place → List Place) →
    ((o : Option Place) → filter (is_outside n) (f o) ≡ filter (is_outside n) (g o)) → (o : Option Place) →
    filter (is_outside n) (met f ns ls o) ≡ filter (is_outside n) (met g ns ls o)
alike n (m ∷ ns) (l ∷ ls) f g h o = alike n ns ls (met_in f m l) (met_in g m l) step o
  where
    step : (o : Option Place) → filter (is_outside n) (met_in f m l o) ≡ filter (is_outside n) (met_in g m l o)
    step None = h None
    step (Some p) = go (m == p.set)
      where
        go : (b : Bool) → filter (is_outside n) (cond b (f (get_or l p.at None) ++ p ∷ []) (f (Some p)))
            ≡ filter (is_outside n) (cond b (g (get_or l p.at None) ++ p ∷ []) (g (Some p)))
        go true = filter-append (is_outside n) (f (get_or l p.at None)) (p ∷ [])
            ∙ ap (λ ps. ps ++ filter (is_outside n) (p ∷ [])) (h (get_or l p.at None))
            ∙ sym (filter-append (is_outside n) (g (get_or l p.at None)) (p ∷ []))
        go false = h (Some p)
alike n _ _ f g h o = h o

-- a walk through other sets meets no place in it
outside : (n : ℕ) (ns : List ℕ) (ls : List (List (Option Place))) (f : Option Place → List Place) →
    has_index ns n ≡ false → ((o : Option Place) → filter (is_outside n) (f o) ≡ f o) → (o : Option Place) →
    filter (is_outside n) (met f ns ls o) ≡ met f ns ls o
outside n (m ∷ ns) (l ∷ ls) f none h o =
    outside n ns ls (met_in f m l) (or_parts (m == n) (has_index ns n) none).1 step o
  where
    step : (o : Option Place) → filter (is_outside n) (met_in f m l o) ≡ met_in f m l o
    step None = h None
    step (Some p) = go (m == p.set) refl
      where
        go : (b : Bool) → (m == p.set) ≡ b →
            filter (is_outside n) (cond b (f (get_or l p.at None) ++ p ∷ []) (f (Some p)))
            ≡ cond b (f (get_or l p.at None) ++ p ∷ []) (f (Some p))
        go true e =
            let apart = (or_parts (m == n) (has_index ns n) none).0 in
            let other : (n == p.set) ≡ false = grind (arith, nat_tests, e, apart) in
            filter-append (is_outside n) (f (get_or l p.at None)) (p ∷ [])
            ∙ ap (λ ps. ps ++ filter (is_outside n) (p ∷ [])) (h (get_or l p.at None))
            ∙ ap (λ b. f (get_or l p.at None) ++ cond (not b) (p ∷ []) []) other
        go false e = h (Some p)
outside n _ _ f none h o = h o

-- where the first set goes, a walk meets the other places
pub met_later : (n : ℕ) (l : List (Option Place)) (ns : List ℕ) (ls : List (List (Option Place))) (o : Option Place)
    (here later : List Place) → has_index ns n ≡ false → filter (is_outside n) here ≡ [] →
    filter (is_outside n) later ≡ later → walk (n ∷ ns) (l ∷ ls) o ≡ here ++ later →
    walk ns ls (unless_in n o) ≡ later
met_later n l ns ls o here later none gone stay e = shorter o ∙ whole
  where
    nil : Option Place → List Place
    nil o = []

    first : (o : Option Place) → filter (is_outside n) (nil o) ≡ filter (is_outside n) (met_in nil n l o)
    first None = refl
    first (Some p) = go (n == p.set) refl
      where
        go : (b : Bool) → (n == p.set) ≡ b → [] ≡ filter (is_outside n) (cond b ([] ++ p ∷ []) [])
        go true e = sym (ap (λ b. cond (not b) (p ∷ []) []) e)
        go false e = refl

    whole : walk ns ls o ≡ later
    whole = sym (outside n ns ls nil none (λ o. refl) o) ∙ alike n ns ls nil (met_in nil n l) first o
        ∙ ap (filter (is_outside n)) e ∙ filter-append (is_outside n) here later
        ∙ ap (λ ps. ps ++ filter (is_outside n) later) gone ∙ stay

    shorter : (o : Option Place) → walk ns ls (unless_in n o) ≡ walk ns ls o
    shorter None = refl
    shorter (Some p) = go (p.set == n) refl
      where
        go : (b : Bool) → (p.set == n) ≡ b → walk ns ls (cond b None (Some p)) ≡ walk ns ls (Some p)
        go true e = passed nil ns ls None tt
            ∙ sym (passed nil ns ls (Some p) (ap (has_index ns) (eqb-true p.set n e) ∙ none))
        go false e = refl
