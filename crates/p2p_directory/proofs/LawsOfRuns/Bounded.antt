-- The present keys are at most those that the retained sets name, the persistent ones, and those that are held and not named.
use Rattle.std.proofs.Common.{◌≡◌, ℕ, zero, suc, ◌+◌, ◌-◌, ◌*◌, ◌<◌, ◌≤◌, Bool, true, false, cond, ◌||◌, List, [], ◌∷◌}
use Rattle.std.proofs.Common.{◌++◌, length, drop, refl, sym, ◌∙◌, ap, inl, inr, arith}
use Rattle.std.specs.Prelude.{count_by, nat_lt, not, ◌⊎◌}
use Rattle.std.specs.List.{AllByRecursion, list_any}
use Rattle.std.specs.List.Sorted.{IsStrictlySortedBy}
use Rattle.std.specs.Cmp.{IsTotalOrder}
use Rattle.std.specs.Ordering.{eq_by_cmp}
use Rattle.std.specs.Set.{is_member}
use Rattle.std.proofs.Math.Nat.{mul-le-mul_left}
use Rattle.std.proofs.lemmas.Bool.{ltb-true, or_cases, or_left, or_right, and_from}
use Rattle.std.proofs.lemmas.Cmp.{eq_by_cmp_equiv}
use Rattle.std.proofs.lemmas.List.{length-append, length-drop}
use Rattle.std.proofs.lemmas.List.Folds.{list_any-append}
use Rattle.std.proofs.lemmas.List.Sums.{sum_by-cons}
use Rattle.std.proofs.lemmas.Map.Keys.{IsDistinct-from_sorted}
use Rattle.std.proofs.lemmas.Map.Made.{length-le_from_is_member}
use Rattle.p2p_tracker.specs.Status.{is_inert}
use Rattle.p2p_tracker.specs.Calls.{Settings, Call, SetAt}
use Rattle.p2p_tracker.specs.History
use Rattle.p2p_tracker.specs.World
use Rattle.p2p_tracker.specs.World.{World}
use Rattle.p2p_tracker.specs.Answers.{is_present_in}
use Rattle.p2p_tracker.specs.Lists.{Lists}
use Rattle.p2p_directory.specs.Laws.Bounds.{names_in, NamesAtMost, is_left_over, IsBounded}

-- what each has, each that is left has
all_drop : {A : Type 0} (P : A → Type 0) (k : ℕ) (xs : List A) → AllByRecursion P xs → AllByRecursion P (drop k xs)
all_drop P zero xs h = h
all_drop P (suc k) [] h = tt
all_drop P (suc k) (x ∷ xs) h = all_drop P k xs h.1

count_any : {A : Type 0} (test : A → Bool) (xs : List A) → 0 < count_by test xs → list_any test xs ≡ true
count_any test [] h = absurd (omega arith)
count_any {A} test (x ∷ xs) h = go (test x) refl (count_any test xs)
  where
    go : (b : Bool) → test x ≡ b → (0 < count_by test xs → list_any test xs ≡ true) → (b || list_any test xs) ≡ true
    go true e rest = refl
    go false e rest = rest (omega (arith, h, sum_by-cons (λ z. cond (test z) 1 0) x xs, ap {B = ℕ} (λ c. cond c 1 0) e))

any_more : {A : Type 0} (p q : A → Bool) → ((x : A) → p x ≡ true → q x ≡ true) → (xs : List A) → list_any p xs ≡ true → list_any q xs ≡ true
any_more p q f [] e = e
any_more {A} p q f (x ∷ xs) e = go (or_cases (p x) (list_any p xs) e) (any_more p q f xs)
  where
    go : (p x ≡ true) ⊎ (list_any p xs ≡ true) → (list_any p xs ≡ true → list_any q xs ≡ true) → (q x || list_any q xs) ≡ true
    go (inl h) rest = or_left (q x) (list_any q xs) (f x h)
    go (inr h) rest = or_right (q x) (list_any q xs) (rest h)

module _ {C S : Type 0} (s : Settings C S) (n : ℕ) where
  -- the peers that sets name, set by set
  named_by : (xs : List (SetAt C)) → AllByRecursion (NamesAtMost s n) xs → List C
  named_by [] h = []
  named_by (x ∷ xs) h = h.0.peers ++ named_by xs h.1

  named_few : (xs : List (SetAt C)) (h : AllByRecursion (NamesAtMost s n) xs) → length (named_by xs h) ≤ n * length xs
  unfolding named_by
  named_few [] h = omega arith
  named_few (x ∷ xs) h = omega (arith, length-append h.0.peers (named_by xs h.1), h.0.few, named_few xs h.1)

  named_in : (p : C) (xs : List (SetAt C)) (h : AllByRecursion (NamesAtMost s n) xs) →
      list_any (λ x. names_in s x p) xs ≡ true → History.is_in s p (named_by xs h) ≡ true
  unfolding named_by
  named_in p [] h e = e
  named_in p (x ∷ xs) h e = list_any-append (λ q. History.same s q p) h.0.peers (named_by xs h.1)
      ∙ go (or_cases (names_in s x p) (list_any (λ y. names_in s y p) xs) e) (named_in p xs h.1)
    where
      go : (names_in s x p ≡ true) ⊎ (list_any (λ y. names_in s y p) xs ≡ true) →
          (list_any (λ y. names_in s y p) xs ≡ true → History.is_in s p (named_by xs h.1) ≡ true) →
          (History.is_in s p h.0.peers || History.is_in s p (named_by xs h.1)) ≡ true
      go (inl f) rest = or_left (History.is_in s p h.0.peers) (History.is_in s p (named_by xs h.1)) (h.0.all.members p ∙ f)
      go (inr f) rest = or_right (History.is_in s p h.0.peers) (History.is_in s p (named_by xs h.1)) (rest f)

  pub named_any : (p : C) (xs : List (SetAt C)) → History.is_named s p xs ≡ true → list_any (λ x. names_in s x p) xs ≡ true
  named_any p xs e = go (or_cases (nat_lt 0 (History.primary_count s p xs)) (nat_lt 0 (History.secondary_count s p xs)) e)
    where
      go : (nat_lt 0 (History.primary_count s p xs) ≡ true) ⊎ (nat_lt 0 (History.secondary_count s p xs) ≡ true) → list_any (λ x. names_in s x p) xs ≡ true
      go (inl f) =
          any_more (λ x. History.is_in s p x.primary) (λ x. names_in s x p)
          (λ x h. or_left (History.is_in s p x.primary) (History.is_in s p x.secondary) h) xs
          (count_any (λ x. History.is_in s p x.primary) xs (ltb-true 0 (History.primary_count s p xs) f))
      go (inr f) =
          any_more (λ x. History.is_in s p x.secondary) (λ x. names_in s x p)
          (λ x h. or_right (History.is_in s p x.primary) (History.is_in s p x.secondary) h) xs
          (count_any (λ x. History.is_in s p x.secondary) xs (ltb-true 0 (History.secondary_count s p xs) f))

  module _ (total : IsTotalOrder s.cmp) where
    -- membership, either way round
    member_in : (ps : List C) (p : C) → is_member (eq_by_cmp s.cmp) ps p ≡ true → History.is_in s p ps ≡ true
    member_in ps p e = any_more (eq_by_cmp s.cmp p) (λ q. History.same s q p) (λ q h. (eq_by_cmp_equiv total).symm q p ∙ h) ps e

    in_member : (ps : List C) (p : C) → History.is_in s p ps ≡ true → is_member (eq_by_cmp s.cmp) ps p ≡ true
    in_member ps p e = any_more (λ q. History.same s q p) (eq_by_cmp s.cmp p) (λ q h. (eq_by_cmp_equiv total).symm p q ∙ h) ps e

    -- a present key is one of the three
    one_of : (w : World C S) (h : AllByRecursion (NamesAtMost s n) w.sets) (qs rs : List C) →
        Lists s.cmp (History.is_persistent s) qs → Lists s.cmp (is_left_over s w) rs → (p : C) →
        is_present_in s w p ≡ true →
        History.is_in s p (named_by w.sets h ++ (qs ++ rs)) ≡ true
    one_of w h qs rs persistent left_over p e =
        list_any-append (λ q. History.same s q p) (named_by w.sets h) (qs ++ rs)
        ∙ ap (λ b. History.is_in s p (named_by w.sets h) || b) (list_any-append (λ q. History.same s q p) qs rs)
        ∙ go (History.is_persistent s p) (History.is_named s p w.sets) (not (is_inert (w.peer p).status))
        (λ f. persistent.members p ∙ f) (λ f. named_in p w.sets h (named_any p w.sets f))
        (λ f g. left_over.members p ∙ and_from (not (is_inert (w.peer p).status))
        (not (History.is_named s p w.sets)) g (ap not f)) refl e
      where
        go : (a b c : Bool) → (a ≡ true → History.is_in s p qs ≡ true) →
            (History.is_named s p w.sets ≡ true → History.is_in s p (named_by w.sets h) ≡ true) →
            (History.is_named s p w.sets ≡ false → c ≡ true → History.is_in s p rs ≡ true) →
            History.is_named s p w.sets ≡ b → (a || b || c) ≡ true →
            (History.is_in s p (named_by w.sets h) || (History.is_in s p qs || History.is_in s p rs)) ≡ true
        go true b c x y z named f =
            or_right (History.is_in s p (named_by w.sets h)) (History.is_in s p qs || History.is_in s p rs)
            (or_left (History.is_in s p qs) (History.is_in s p rs) (x refl))
        go false true c x y z named f = or_left (History.is_in s p (named_by w.sets h)) (History.is_in s p qs || History.is_in s p rs) (y named)
        go false false true x y z named f =
            or_right (History.is_in s p (named_by w.sets h)) (History.is_in s p qs || History.is_in s p rs)
            (or_right (History.is_in s p qs) (History.is_in s p rs) (z named refl))
        go false false false x y z named f = absurd (cc)

    -- keys that are present, each once, are at most so many
    pub some_bounded : (w : World C S) (h : AllByRecursion (NamesAtMost s n) w.sets) → length w.sets ≤ s.max_sets →
        (ps qs rs : List C) → IsStrictlySortedBy s.cmp ps →
        ((p : C) → History.is_in s p ps ≡ true → is_present_in s w p ≡ true) → Lists s.cmp (History.is_persistent s) qs → Lists s.cmp (is_left_over s w) rs →
        length ps ≤ n * s.max_sets + length qs + length rs
    some_bounded w h sets ps qs rs sorted present persistent left_over =
        let all : List C = named_by w.sets h ++ (qs ++ rs) in
        let most : length ps ≤ length all =
        length-le_from_is_member (eq_by_cmp_equiv total) ps all (IsDistinct-from_sorted s.cmp ps sorted)
        (λ p e. in_member all p (one_of w h qs rs persistent left_over p (present p (member_in ps p e)))) in
        omega (arith, most, length-append (named_by w.sets h) (qs ++ rs), length-append qs rs, named_few w.sets h, mul-le-mul_left n sets)

    -- the sets that are retained name at most n, and there are at most so many
    pub retained_few : (cs : List (Call C S)) → AllByRecursion (NamesAtMost s n) (History.taken_sets s (World.past s cs)) →
        AllByRecursion (NamesAtMost s n) (World.world_at s (World.past s cs)).sets × (length (World.world_at s (World.past s cs)).sets ≤ s.max_sets)
    retained_few cs h =
        let taken = History.taken_sets s (World.past s cs) in
        (all_drop (NamesAtMost s n) (length taken - s.max_sets) taken h, omega (arith, length-drop (length taken - s.max_sets) taken))

    -- at every point, where each set that was taken names at most n
    pub bounded : (cs : List (Call C S)) →
        AllByRecursion (NamesAtMost s n) (History.taken_sets s (World.past s cs)) →
        IsBounded s n (World.world_at s (World.past s cs))
    bounded cs h =
        let few = retained_few cs h in
        λ ps qs rs present persistent left_over.
        some_bounded (World.world_at s (World.past s cs)) few.0 few.1 ps qs rs present.sorted (λ p e. sym (present.members p) ∙ e) persistent left_over
