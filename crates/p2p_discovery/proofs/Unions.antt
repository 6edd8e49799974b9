-- Sorted lists without repeats as sets: one more member, and the members of two.
use Rattle.std.proofs.Common.{◌≡◌, ℕ, zero, suc, ◌+◌, ◌-◌, ◌<◌, ◌≤◌, Bool, true, false, cond, ◌||◌}
use Rattle.std.proofs.Common.{List, [], ◌∷◌, length, drop, get_or, Option, Some, None, refl, sym}
use Rattle.std.proofs.Common.{ap, subst, ◌∙◌, arith, ◌⊎◌, inl, inr, drop-cons, add-one}
use mathlib.Core.Bool.{true≢false}
use Rattle.std.specs.declared.cmp.Ordering.{Ordering}
use Rattle.std.specs.declared.cmp.Ordering.TheVariants.{Less, Equal, Greater}
use Rattle.std.specs.Cmp.{IsTotalOrder}
use Rattle.std.specs.Ordering.{is_eq, ordering_reverse}
use Rattle.std.specs.List.{Contains, AllByRecursion, list_any}
use Rattle.std.specs.List.Sorted.{IsStrictlySortedBy}
use Rattle.std.proofs.lemmas.Cmp.{tied_itself}
use Rattle.std.proofs.lemmas.List.{length-drop, nil_from_length}
use Rattle.std.proofs.lemmas.Bool.{or_cases, or_parts}
use Rattle.p2p_discovery.specs.Sizing.{IsUnion, IsUnionSize}
use Rattle.p2p_discovery.proofs.Truth.{Equal-from_is_eq, Less-not_equal, Greater-not_equal}

-- ---- members

abbrev pub In : {P : Type 0} → List P → P → Type 0
In [] q = ⊥
In (x ∷ xs) q = (x ≡ q) ⊎ In xs q

pub Contains-from_in : {P : Type 0} (xs : List P) (q : P) → In xs q → Contains xs q
Contains-from_in [] q h = absurd h
Contains-from_in (x ∷ xs) q (inl e) = (0, omega arith, e)
Contains-from_in (x ∷ xs) q (inr h) =
    let c = Contains-from_in xs q h in (suc c.0, omega (arith, c.1), c.2)

in_at : {P : Type 0} (xs : List P) (k : ℕ) (q : P) → k < length xs → get_or xs k q ≡ q → In xs q
in_at [] k q lt e = let no : ⊥ = omega arith in absurd no
in_at (x ∷ xs) zero q lt e = inl e
in_at (x ∷ xs) (suc k) q lt e = inr (in_at xs k q (omega arith) e)

pub In-from_contains : {P : Type 0} (xs : List P) (q : P) → Contains xs q → In xs q
In-from_contains xs q c = in_at xs c.0 q c.1 c.2

abbrev by_order : {A : Type 0} → Ordering → A → A → A → A
by_order Less a b c = a
by_order Equal a b c = b
by_order Greater a b c = c

-- one more member, where it stands in order
abbrev pub insert : {P : Type 0} → (P → P → Ordering) → P → List P → List P
insert R x [] = x ∷ []
insert R x (y ∷ ys) = by_order (R x y) (x ∷ y ∷ ys) (y ∷ ys) (y ∷ insert R x ys)

abbrev pub union : {P : Type 0} → (P → P → Ordering) → List P → List P → List P
union R xs [] = xs
union R xs (y ∷ ys) = insert R y (union R xs ys)

abbrev pub has : {P : Type 0} → (P → P → Ordering) → P → List P → Bool
has R z [] = false
has R z (x ∷ xs) = is_eq (R z x) || has R z xs

-- how many of the second list are in the first
abbrev pub common : {P : Type 0} → (P → P → Ordering) → List P → List P → ℕ
common R xs [] = 0
common R xs (y ∷ ys) = cond (has R y xs) (common R xs ys + 1) (common R xs ys)

some_is : {P : Type 0} (x y : P) → Some x ≡ Some y → x ≡ y
some_is x y e = cc

module _ {P : Type 0} {R : P → P → Ordering} (o : IsTotalOrder R)
    (exact : (x y : P) → R x y ≡ Equal → x ≡ y) where
  abbrev Below : P → List P → Type 0
  Below x ys = AllByRecursion (λ y. R x y ≡ Less) ys

  turned : (x y : P) (r : Ordering) → R x y ≡ r → R y x ≡ ordering_reverse r
  turned x y r e = o.antisymm y x ∙ ap ordering_reverse e

  not_below_itself : (x : P) → R x x ≡ Less → ⊥
  not_below_itself x e = Less-not_equal (sym e ∙ tied_itself o x)

  below_below : (x y : P) (zs : List P) → R x y ≡ Less → Below y zs → Below x zs
  below_below x y [] l h = tt
  below_below x y (z ∷ zs) l h = (o.trans x y z l h.0, below_below x y zs l h.1)

  below_in : (x : P) (ys : List P) (q : P) → Below x ys → In ys q → R x q ≡ Less
  below_in x [] q h k = absurd k
  below_in x (y ∷ ys) q h (inl e) = subst (λ z. R x z ≡ Less) e h.0
  below_in x (y ∷ ys) q h (inr k) = below_in x ys q h.1 k

  -- ---- one more member

  below_insert : (y x : P) (zs : List P) → R y x ≡ Less → Below y zs → Below y (insert R x zs)
  below_insert y x [] l h = (l, tt)
  below_insert y x (z ∷ zs) l h =
      elim (R x z) as (λ r. Below y (by_order r (x ∷ z ∷ zs) (z ∷ zs) (z ∷ insert R x zs))) [
        | Less ↦ (l, h)
        | Equal ↦ h
        | Greater ↦ (h.0, below_insert y x zs l h.1)
      ]

  inserted : (x y : P) (ys : List P) (r : Ordering) → R x y ≡ r → IsStrictlySortedBy R (y ∷ ys)
      → IsStrictlySortedBy R (insert R x ys)
      → IsStrictlySortedBy R (by_order r (x ∷ y ∷ ys) (y ∷ ys) (y ∷ insert R x ys))
  unfolding IsStrictlySortedBy
  inserted x y ys Less e s i = ((e, below_below x y ys e s.0), s)
  inserted x y ys Equal e s i = s
  inserted x y ys Greater e s i = (below_insert y x ys (turned x y Greater e) s.0, i)

  pub sorted_insert : (x : P) (ys : List P) → IsStrictlySortedBy R ys
      → IsStrictlySortedBy R (insert R x ys)
  unfolding IsStrictlySortedBy
  sorted_insert x [] s = (tt, tt)
  sorted_insert x (y ∷ ys) s = inserted x y ys (R x y) refl s (sorted_insert x ys s.1)

  pub insert_has_new : (x : P) (ys : List P) → In (insert R x ys) x
  insert_has_new x [] = inl refl
  insert_has_new x (y ∷ ys) = by (R x y) refl (insert_has_new x ys)
    where
      by : (r : Ordering) → R x y ≡ r → In (insert R x ys) x
          → In (by_order r (x ∷ y ∷ ys) (y ∷ ys) (y ∷ insert R x ys)) x
      by Less e k = inl refl
      by Equal e k = inl (sym (exact x y e))
      by Greater e k = inr k

  pub insert_has_old : (x : P) (ys : List P) (q : P) → In ys q → In (insert R x ys) q
  insert_has_old x [] q h = absurd h
  insert_has_old x (y ∷ ys) q h =
      elim (R x y) as (λ r. In (by_order r (x ∷ y ∷ ys) (y ∷ ys) (y ∷ insert R x ys)) q) [
        | Less ↦ inr h
        | Equal ↦ h
        | Greater ↦ elim h [ inl e ↦ inl e | inr k ↦ inr (insert_has_old x ys q k) ]
      ]

  pub insert_has_only : (x : P) (ys : List P) (q : P) → In (insert R x ys) q → (x ≡ q) ⊎ In ys q
  insert_has_only x [] q h = h
  insert_has_only x (y ∷ ys) q h = by (R x y) (insert_has_only x ys q) h
    where
      by : (r : Ordering) → (In (insert R x ys) q → (x ≡ q) ⊎ In ys q)
          → In (by_order r (x ∷ y ∷ ys) (y ∷ ys) (y ∷ insert R x ys)) q → (x ≡ q) ⊎ In (y ∷ ys) q
      by Less again k = k
      by Equal again k = inr k
      by Greater again (inl e) = inr (inl e)
      by Greater again (inr k) = elim (again k) [ inl e ↦ inl e | inr j ↦ inr (inr j) ]

  pub length-insert_new : (x : P) (ys : List P) → (In ys x → ⊥)
      → length (insert R x ys) ≡ length ys + 1
  length-insert_new x [] h = refl
  length-insert_new x (y ∷ ys) h = by (R x y) refl (length-insert_new x ys (λ k. h (inr k)))
    where
      by : (r : Ordering) → R x y ≡ r → length (insert R x ys) ≡ length ys + 1
          → length (by_order r (x ∷ y ∷ ys) (y ∷ ys) (y ∷ insert R x ys)) ≡ length (y ∷ ys) + 1
      by Less e again = omega arith
      by Equal e again = absurd (h (inl (sym (exact x y e))))
      by Greater e again = omega arith

  pub length-insert_old : (x : P) (ys : List P) → IsStrictlySortedBy R ys → In ys x
      → length (insert R x ys) ≡ length ys
  unfolding IsStrictlySortedBy
  length-insert_old x [] s h = absurd h
  length-insert_old x (y ∷ ys) s h = by (R x y) refl (length-insert_old x ys s.1) h
    where
      by : (r : Ordering) → R x y ≡ r → (In ys x → length (insert R x ys) ≡ length ys)
          → In (y ∷ ys) x → length (by_order r (x ∷ y ∷ ys) (y ∷ ys) (y ∷ insert R x ys))
          ≡ length (y ∷ ys)
      by Less e again (inl same) = absurd (not_below_itself x (subst (λ z. R x z ≡ Less) same e))
      by Less e again (inr k) =
          absurd (not_below_itself x (o.trans x y x e (below_in y ys x s.0 k)))
      by Equal e again k = refl
      by Greater e again (inl same) =
          absurd (Greater-not_equal (sym (subst (λ z. R x z ≡ Greater) same e) ∙ tied_itself o x))
      by Greater e again (inr k) = omega (arith, again k)

  -- ---- the members of two

  pub sorted_union : (xs ys : List P) → IsStrictlySortedBy R xs
      → IsStrictlySortedBy R (union R xs ys)
  sorted_union xs [] s = s
  sorted_union xs (y ∷ ys) s = sorted_insert y (union R xs ys) (sorted_union xs ys s)

  pub union_has_left : (xs ys : List P) (q : P) → In xs q → In (union R xs ys) q
  union_has_left xs [] q h = h
  union_has_left xs (y ∷ ys) q h = insert_has_old y (union R xs ys) q (union_has_left xs ys q h)

  pub union_has_right : (xs ys : List P) (q : P) → In ys q → In (union R xs ys) q
  union_has_right xs [] q h = absurd h
  union_has_right xs (y ∷ ys) q (inl e) =
      subst (λ z. In (insert R y (union R xs ys)) z) e (insert_has_new y (union R xs ys))
  union_has_right xs (y ∷ ys) q (inr k) =
      insert_has_old y (union R xs ys) q (union_has_right xs ys q k)

  pub union_has_only : (xs ys : List P) (q : P) → In (union R xs ys) q → In xs q ⊎ In ys q
  union_has_only xs [] q h = inl h
  union_has_only xs (y ∷ ys) q h =
      elim (insert_has_only y (union R xs ys) q h) [
        | inl e ↦ inr (inl e)
        | inr k ↦ elim (union_has_only xs ys q k) [ inl j ↦ inl j | inr j ↦ inr (inr j) ]
      ]

  in_from_has : (z : P) (xs : List P) → has R z xs ≡ true → In xs z
  in_from_has z [] e = absurd (true≢false (sym e))
  in_from_has z (x ∷ xs) e =
      elim (or_cases (is_eq (R z x)) (has R z xs) e) [
        | inl t ↦ inl (sym (exact z x (Equal-from_is_eq (R z x) t)))
        | inr t ↦ inr (in_from_has z xs t)
      ]

  not_in_from_has : (z : P) (xs : List P) → has R z xs ≡ false → In xs z → ⊥
  not_in_from_has z [] e h = h
  not_in_from_has z (x ∷ xs) e (inl same) =
      let n = or_parts (is_eq (R z x)) (has R z xs) e in
      true≢false (sym (ap is_eq (subst (λ w. R z w ≡ Equal) (sym same) (tied_itself o z))) ∙ n.0)
  not_in_from_has z (x ∷ xs) e (inr k) =
      let n = or_parts (is_eq (R z x)) (has R z xs) e in not_in_from_has z xs n.1 k

  pub length-union : (xs ys : List P) → IsStrictlySortedBy R xs → IsStrictlySortedBy R ys
      → length (union R xs ys) + common R xs ys ≡ length xs + length ys
  unfolding IsStrictlySortedBy
  length-union xs [] s t = refl
  length-union xs (y ∷ ys) s t = by (has R y xs) refl (length-union xs ys s t.1)
    where
      by : (b : Bool) → has R y xs ≡ b
          → length (union R xs ys) + common R xs ys ≡ length xs + length ys
          → length (insert R y (union R xs ys)) + cond b (common R xs ys + 1) (common R xs ys)
          ≡ length xs + length (y ∷ ys)
      by true e before =
          omega (
            arith,
            length-insert_old y (union R xs ys) (sorted_union xs ys s)
                (union_has_left xs ys y (in_from_has y xs e)),
          )
      by false e before =
          omega (
            arith,
            length-insert_new y (union R xs ys) (λ h.
                elim (union_has_only xs ys y h) [
                  | inl k ↦ not_in_from_has y xs e k
                  | inr k ↦ not_below_itself y (below_in y ys y t.0 k)
                ]),
          )

  -- ---- going over both at once

  has_none : (y : P) (xs : List P) → Below y xs → has R y xs ≡ false
  has_none y [] h = refl
  has_none y (x ∷ xs) h = rw h.0 (has_none y xs h.1)

  drop_head : (x : P) (xs zs : List P) → Below x zs → common R (x ∷ xs) zs ≡ common R xs zs
  drop_head x xs [] h = refl
  drop_head x xs (z ∷ zs) h = rw (turned x z Less h.0, drop_head x xs zs h.1) refl

  pub step_less : (x : P) (xs : List P) (y : P) (ys : List P) → R x y ≡ Less
      → IsStrictlySortedBy R (y ∷ ys) → common R (x ∷ xs) (y ∷ ys) ≡ common R xs (y ∷ ys)
  unfolding IsStrictlySortedBy
  step_less x xs y ys e t = drop_head x xs (y ∷ ys) (e, below_below x y ys e t.0)

  pub step_equal : (x : P) (xs : List P) (y : P) (ys : List P) → R x y ≡ Equal
      → IsStrictlySortedBy R (y ∷ ys) → common R (x ∷ xs) (y ∷ ys) ≡ common R xs ys + 1
  unfolding IsStrictlySortedBy
  step_equal x xs y ys e t =
      let below : Below x ys = subst (λ z. Below z ys) (sym (exact x y e)) t.0 in
      rw (turned x y Equal e, drop_head x xs ys below) refl

  pub step_greater : (x : P) (xs : List P) (y : P) (ys : List P) → R x y ≡ Greater
      → IsStrictlySortedBy R (x ∷ xs) → common R (x ∷ xs) (y ∷ ys) ≡ common R (x ∷ xs) ys
  unfolding IsStrictlySortedBy
  step_greater x xs y ys e s =
      let l : R y x ≡ Less = turned x y Greater e in
      rw (l, has_none y xs (below_below y x xs l s.0)) refl

  pub none_common : (ys : List P) → common R [] ys ≡ 0
  none_common [] = refl
  none_common (y ∷ ys) = none_common ys

  pub sorted_drop : (n : ℕ) (xs : List P) → IsStrictlySortedBy R xs
      → IsStrictlySortedBy R (drop n xs)
  unfolding IsStrictlySortedBy
  sorted_drop zero xs s = s
  sorted_drop (suc n) [] s = s
  sorted_drop (suc n) (x ∷ xs) s = sorted_drop n xs s.1

  first_of_rest : (xs : List P) (i : ℕ) (x : P) → i < length xs → x ≡ get_or xs i x
      → drop i xs ≡ x ∷ drop (i + 1) xs
  first_of_rest xs i x lt e = rw (add-one, drop-cons xs i x lt, ← e) refl

  module _ (xs ys : List P) (i j : ℕ) (x y : P) (in_xs : i < length xs) (in_ys : j < length ys)
      (at_x : x ≡ get_or xs i x) (at_y : y ≡ get_or ys j y) (s : IsStrictlySortedBy R xs)
      (t : IsStrictlySortedBy R ys) where
    rest_x : drop i xs ≡ x ∷ drop (i + 1) xs
    rest_x = first_of_rest xs i x in_xs at_x

    rest_y : drop j ys ≡ y ∷ drop (j + 1) ys
    rest_y = first_of_rest ys j y in_ys at_y

    pub less_met : R x y ≡ Less → common R (drop (i + 1) xs) (drop j ys)
        ≡ common R (drop i xs) (drop j ys)
    less_met e =
        rw (rest_x, rest_y)
        (sym
        (step_less x (drop (i + 1) xs) y (drop (j + 1) ys) e
        (subst (IsStrictlySortedBy R) rest_y (sorted_drop j ys t))))

    pub equal_met : R x y ≡ Equal → common R (drop (i + 1) xs) (drop (j + 1) ys) + 1
        ≡ common R (drop i xs) (drop j ys)
    equal_met e =
        rw (rest_x, rest_y)
        (sym
        (step_equal x (drop (i + 1) xs) y (drop (j + 1) ys) e
        (subst (IsStrictlySortedBy R) rest_y (sorted_drop j ys t))))

    pub greater_met : R x y ≡ Greater
        → common R (drop i xs) (drop (j + 1) ys) ≡ common R (drop i xs) (drop j ys)
    greater_met e =
        rw (rest_x, rest_y)
        (sym
        (step_greater x (drop (i + 1) xs) y (drop (j + 1) ys) e
        (subst (IsStrictlySortedBy R) rest_x (sorted_drop i xs s))))

  -- ---- the size of a union

  common_fits : (xs ys : List P) → common R xs ys ≤ length ys
  common_fits xs [] = omega arith
  common_fits xs (y ∷ ys) = by (has R y xs) (common_fits xs ys)
    where
      by : (b : Bool) → common R xs ys ≤ length ys
          → cond b (common R xs ys + 1) (common R xs ys) ≤ length (y ∷ ys)
      by true h = omega arith
      by false h = omega arith

  -- at the end of one of the lists all members of both were met
  pub met_all : (xs ys : List P) (i j met : ℕ) → (length xs ≤ i) ⊎ (length ys ≤ j)
      → met + common R (drop i xs) (drop j ys) ≡ common R xs ys
      → (met ≡ common R xs ys) × (met ≤ length ys)
  met_all xs ys i j met h e =
      let none : common R (drop i xs) (drop j ys) ≡ 0 = elim h [
        | inl le ↦
            ap (λ (w : List P). common R w (drop j ys))
            (nil_from_length (drop i xs) (omega (arith, length-drop i xs)))
            ∙ none_common (drop j ys)
        | inr le ↦
            ap (λ (w : List P). common R (drop i xs) w)
            (nil_from_length (drop j ys) (omega (arith, length-drop j ys)))
      ] in
      (omega (arith, e, none), omega (arith, e, none, common_fits xs ys))

  no_extension : (q : P) → ◌≡◌ {A = Option P} None (Some q) → ⊥
  no_extension q e = cc

  pub union_is : (xs ys : List P) → IsStrictlySortedBy R xs → IsUnion R xs ys None (union R xs ys)
  union_is xs ys s = record {
    sorted = sorted_union xs ys s;
    holds = λ q. (
      λ h. elim (union_has_only xs ys q (In-from_contains (union R xs ys) q h))
          [ inl k ↦ inl (Contains-from_in xs q k) | inr k ↦ inr (inl (Contains-from_in ys q k)) ],
      λ h. Contains-from_in (union R xs ys) q (elim h [
        | inl k ↦ union_has_left xs ys q (In-from_contains xs q k)
        | inr r ↦ elim r [
          | inl k ↦ union_has_right xs ys q (In-from_contains ys q k)
          | inr e ↦ absurd (no_extension q e)
        ]
      ]),
    );
  }

  pub union_size : (xs ys : List P) (met : ℕ) → IsStrictlySortedBy R xs → IsStrictlySortedBy R ys
      → met ≡ common R xs ys → length xs + (length ys - met) ≡ length (union R xs ys)
  union_size xs ys met s t e = omega (arith, length-union xs ys s t, common_fits xs ys)

  -- one that is in neither list makes the union larger by one
  pub extended : (xs ys : List P) (e : P) (size : ℕ) → (In xs e → ⊥) → (In ys e → ⊥)
      → IsUnionSize R xs ys None size → IsUnionSize R xs ys (Some e) (size + 1)
  extended xs ys e size no_x no_y u =
      let all = u.0 in
      let apart : In all e → ⊥ = λ h. elim ((u.1.holds e).0 (Contains-from_in all e h)) [
        | inl k ↦ no_x (In-from_contains xs e k)
        | inr r ↦ elim r [ inl k ↦ no_y (In-from_contains ys e k) | inr k ↦ no_extension e k ]
      ] in (
        insert R e all,
        record {
          sorted = sorted_insert e all u.1.sorted;
          holds = λ q. (
            λ h. elim (insert_has_only e all q (In-from_contains (insert R e all) q h)) [
              | inl k ↦ inr (inr (ap Some k))
              | inr k ↦ elim ((u.1.holds q).0 (Contains-from_in all q k)) [
                | inl j ↦ inl j
                | inr r ↦ elim r [ inl j ↦ inr (inl j) | inr j ↦ absurd (no_extension q j) ]
              ]
            ],
            λ h. Contains-from_in (insert R e all) q (elim h [
              | inl k ↦ insert_has_old e all q (In-from_contains all q ((u.1.holds q).1 (inl k)))
              | inr r ↦ elim r [
                | inl k ↦
                    insert_has_old e all q (In-from_contains all q ((u.1.holds q).1 (inr (inl k))))
                | inr k ↦ subst (λ z. In (insert R e all) z) (some_is e q k) (insert_has_new e all)
              ]
            ]),
          );
        },
        omega (arith, u.2, length-insert_new e all apart),
      )

  -- one that is in a list changes nothing
  pub unextended : (xs ys : List P) (e : P) (size : ℕ) → In xs e ⊎ In ys e
      → IsUnionSize R xs ys None size → IsUnionSize R xs ys (Some e) size
  unextended xs ys e size there u =
      let all = u.0 in
      let here : Contains all e =
      (u.1.holds e).1
      (elim there [
        | inl k ↦ inl (Contains-from_in xs e k)
        | inr k ↦ inr (inl (Contains-from_in ys e k))
      ]) in (
        all,
        record {
          sorted = u.1.sorted;
          holds = λ q. (
            λ h. elim ((u.1.holds q).0 h) [
              | inl j ↦ inl j
              | inr r ↦ elim r [ inl j ↦ inr (inl j) | inr j ↦ absurd (no_extension q j) ]
            ],
            λ h. elim h [
              | inl k ↦ (u.1.holds q).1 (inl k)
              | inr r ↦ elim r [
                | inl k ↦ (u.1.holds q).1 (inr (inl k))
                | inr k ↦ subst (Contains all) (some_is e q k) here
              ]
            ],
          );
        },
        u.2,
      )

  -- ---- all unions are of one size

  heads : (a b : P) (ws bs : List P) → IsStrictlySortedBy R (a ∷ ws) → IsStrictlySortedBy R (b ∷ bs)
      → In (b ∷ bs) a → In (a ∷ ws) b → a ≡ b
  unfolding IsStrictlySortedBy
  heads a b ws bs s t (inl e) h = sym e
  heads a b ws bs s t (inr k) (inl e) = e
  heads a b ws bs s t (inr k) (inr j) =
      absurd (not_below_itself a (o.trans a b a (below_in a ws b s.0 j) (below_in b bs a t.0 k)))

  behind : (a b q : P) (ws bs : List P) → IsStrictlySortedBy R (a ∷ ws) → a ≡ b → In ws q
      → In (b ∷ bs) q → In bs q
  unfolding IsStrictlySortedBy
  behind a b q ws bs s same k (inl e) =
      absurd (not_below_itself q (subst (λ z. R z q ≡ Less) (same ∙ e) (below_in a ws q s.0 k)))
  behind a b q ws bs s same k (inr j) = j

  same_len : (ws bs : List P) → IsStrictlySortedBy R ws → IsStrictlySortedBy R bs
      → ((q : P) → In ws q → In bs q) → ((q : P) → In bs q → In ws q) → length ws ≡ length bs
  same_len [] [] s t there back = refl
  same_len [] (b ∷ bs) s t there back = absurd (back b (inl refl))
  same_len (a ∷ ws) [] s t there back = absurd (there a (inl refl))
  same_len (a ∷ ws) (b ∷ bs) s t there back =
      let same = heads a b ws bs s t (there a (inl refl)) (back b (inl refl)) in
      let tails =
      same_len ws bs (sorted_drop 1 (a ∷ ws) s) (sorted_drop 1 (b ∷ bs) t)
      (λ q k. behind a b q ws bs s same k (there q (inr k)))
      (λ q k. behind b a q bs ws t (sym same) k (back q (inr k))) in
      omega (arith, tails)

  pub one_size : (xs ys : List P) (extension : Option P) (ws bs : List P)
      → IsUnion R xs ys extension ws → IsUnion R xs ys extension bs → length ws ≡ length bs
  one_size xs ys extension ws bs u v =
      same_len ws bs u.sorted v.sorted
      (λ q k. In-from_contains bs q ((v.holds q).1 ((u.holds q).0 (Contains-from_in ws q k))))
      (λ q k. In-from_contains ws q ((u.holds q).1 ((v.holds q).0 (Contains-from_in bs q k))))

  some_size : (xs ys : List P) (extension : Option P) (size : ℕ) → IsUnionSize R xs ys None size
      → (m : ℕ) × IsUnionSize R xs ys extension m × (size ≤ m) × (m ≤ size + 1)
  some_size xs ys None size u = (size, u, omega arith, omega arith)
  some_size xs ys (Some e) size u = by (has R e u.0) refl
    where
      by : (b : Bool) → has R e u.0 ≡ b
          → (m : ℕ) × IsUnionSize R xs ys (Some e) m × (size ≤ m) × (m ≤ size + 1)
      by true k = (
        size,
        unextended xs ys e size
            (elim ((u.1.holds e).0 (Contains-from_in u.0 e (in_from_has e u.0 k))) [
              | inl j ↦ inl (In-from_contains xs e j)
              | inr r ↦
                  elim r [
                    | inl j ↦ inr (In-from_contains ys e j)
                    | inr j ↦ absurd (no_extension e j)
                  ]
            ]) u,
        omega arith,
        omega arith,
      )
      by false k =
          let no : In u.0 e → ⊥ = not_in_from_has e u.0 k in (
            size + 1,
            extended xs ys e size
                (λ j. no (In-from_contains u.0 e ((u.1.holds e).1 (inl (Contains-from_in xs e j)))))
                (λ j.
                no
                (In-from_contains u.0 e ((u.1.holds e).1 (inr (inl (Contains-from_in ys e j))))))
                u,
            omega arith,
            omega arith,
          )

  -- Where each union with the one more fits, so does each without.
  pub fits_without : (xs ys : List P) (extension : Option P) (size limit : ℕ)
      → IsUnionSize R xs ys None size
      → ((all : List P) → IsUnion R xs ys extension all → length all < limit) → size < limit
  fits_without xs ys extension size limit u h =
      let m = some_size xs ys extension size u in
      omega (arith, m.2, m.1.2, h m.1.0 m.1.1)

  -- A union is no longer than its parts together.
  pub union_short : (xs ys : List P) (extension : Option P) (all : List P) → IsStrictlySortedBy R xs
      → IsStrictlySortedBy R ys → IsUnion R xs ys extension all
      → length all ≤ length xs + length ys + 1
  union_short xs ys extension all s t u =
      let m =
      some_size xs ys extension (length (union R xs ys))
      (union R xs ys, union_is xs ys s, refl) in
      omega (arith, one_size xs ys extension all m.1.0 u m.1.1, m.1.2, m.3, length-union xs ys s t)

-- ---- what a search by equality says

module _ {P : Type 0} (E : P → P → Bool) where
  pub in_from_any : ((x y : P) → E x y ≡ true → x ≡ y) → (xs : List P) (e : P)
      → list_any (λ y. E y e) xs ≡ true → In xs e
  in_from_any one [] e h = absurd (true≢false (sym h))
  in_from_any one (x ∷ xs) e h =
      elim (or_cases (E x e) (list_any (λ y. E y e) xs) h) [
        | inl t ↦ inl (one x e t)
        | inr t ↦ inr (in_from_any one xs e t)
      ]

  pub not_in_from_any : ((x : P) → E x x ≡ true) → (xs : List P) (e : P)
      → list_any (λ y. E y e) xs ≡ false → In xs e → ⊥
  not_in_from_any itself [] e h k = k
  not_in_from_any itself (x ∷ xs) e h (inl same) =
      let n = or_parts (E x e) (list_any (λ y. E y e) xs) h in
      true≢false (sym (subst (λ z. E z e ≡ true) (sym same) (itself e)) ∙ n.0)
  not_in_from_any itself (x ∷ xs) e h (inr k) =
      let n = or_parts (E x e) (list_any (λ y. E y e) xs) h in not_in_from_any itself xs e n.1 k
