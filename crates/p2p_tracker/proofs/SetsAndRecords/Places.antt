-- Where keys stand in lists, and in how many.
use Rattle.std.proofs.Common.{◌≡◌, ℕ, zero, suc, ◌+◌, ◌||◌, filter, ◌<◌, ◌++◌, Bool, true, ◌⊎◌, inl, inr, false, cond}
use Rattle.std.proofs.Common.{List, [], ◌∷◌, length, get_or, map, Option, Some, None, refl, sym, ◌∙◌, ap, arith}
use mathlib.Core.Bool.{true≢false}
use Rattle.std.specs.Cmp.{IsTotalOrder}
use Rattle.std.specs.Ordering.{is_eq}
use Rattle.std.specs.List.Sorted.{IsStrictlySortedBy}
use Rattle.std.specs.declared.cmp.Ordering.TheVariants.{Less}
use Rattle.std.proofs.lemmas.Cmp.{tied_itself}
use Rattle.std.proofs.lemmas.Map.Keys.{sorted_tail, Less-from_sorted}
use Rattle.std.specs.BTreeMap.{is_at}
use Rattle.std.specs.List.{count_by}
use Rattle.std.specs.Map.{keys_of}
use Rattle.std.proofs.lemmas.List.Sums.{length-filter}
use Rattle.p2p_discovery.specs.Ordered.{has_key}
use Rattle.p2p_tracker.specs.Private.Window.{SetWithBits, has_primary}
use Rattle.std.specs.declared.cmp.Ordering.{Ordering}
use Rattle.std.proofs.lemmas.Map.Lookups.{CmpEqualImpliesEq}
use Rattle.std.proofs.lemmas.Map.Views.{tells_apart}
use Rattle.p2p_tracker.specs.declared.kept.places.Place.{Place}
use Rattle.p2p_tracker.specs.Private.Places.{places_from, places_in, first_or}

-- the only place of a key
abbrev pub only : ℕ → ℕ → List Place
only set at = record { set = set; at = at } ∷ []

module _ {C : Type 0} (cmp : C → C → Ordering) where
  -- keys without q give it no place
  pub no_place : (set n : ℕ) (ks : List C) (q : C) → has_key cmp ks q ≡ false → places_from cmp set n ks q ≡ []
  no_place set n [] q none = refl
  no_place set n (k ∷ ks) q none = go (is_at (cmp k) q) none (no_place set (suc n) ks q)
    where
      go : (b : Bool) → (b || has_key cmp ks q) ≡ false →
          (has_key cmp ks q ≡ false → places_from cmp set (suc n) ks q ≡ []) →
          cond b (only set n) (places_from cmp set (suc n) ks q) ≡ []
      go true e rest = absurd (true≢false e)
      go false e rest = rest e

  -- each of ascending keys has its place among them
  pub its_place : IsTotalOrder cmp → (set n : ℕ) (ks : List C) (i : ℕ) (key : C) → i < length ks →
      key ≡ get_or ks i key → IsStrictlySortedBy cmp ks →
      places_from cmp set n ks key ≡ only set (n + i)
  its_place o set n [] i key low is up = absurd (omega (arith, low))
  its_place o set n (k ∷ ks) zero key low is up =
      let here : is_at (cmp k) key ≡ true = ap (λ x. is_at (cmp x) key) (sym is) ∙ ap is_eq (tied_itself o key) in
      ap (λ b. cond b (only set n) (places_from cmp set (suc n) ks key)) here
      ∙ ap (only set) (let e : n ≡ n + 0 = omega arith in e)
  its_place o set n (k ∷ ks) (suc i) key low is up =
      let less : cmp k key ≡ Less = ap (cmp k) is
      ∙ Less-from_sorted cmp (k ∷ ks) 0 (suc i) key up (omega arith) low in
      ap (λ b. cond b (only set n) (places_from cmp set (suc n) ks key)) (ap is_eq less)
      ∙ its_place o set (suc n) ks i key (omega (arith, low)) is (sorted_tail cmp k ks up)
      ∙ ap (only set) (let e : suc n + i ≡ n + suc i = omega arith in e)

  -- one more of ascending keys has its place
  pub one_added : IsTotalOrder cmp → CmpEqualImpliesEq cmp → (set : ℕ) (ks : List C) (i : ℕ) (key : C) →
      i < length ks → key ≡ get_or ks i key → IsStrictlySortedBy cmp ks →
      (q : C) (now : Option Place) → cond (is_at (cmp key) q) (Some (record { set = set; at = i })) now
      ≡ cond (is_at (cmp key) q) (first_or now (places_from cmp set 0 ks q)) now
  one_added o exact set ks i key low is up q now = go (is_at (cmp key) q) (λ e.
      ap (λ k. places_from cmp set 0 ks k) (sym (tells_apart exact key q e)) ∙ its_place o set 0 ks i key low is up
      ∙ ap (only set) (let e : 0 + i ≡ i = omega arith in e))
    where
      go : (b : Bool) → (b ≡ true → places_from cmp set 0 ks q ≡ only set i) →
          cond b (Some (record { set = set; at = i })) now ≡ cond b (first_or now (places_from cmp set 0 ks q)) now
      go true same = sym (ap (first_or now) (same refl))
      go false same = refl

  -- where each of the keys has its place, each key has the one among them, or else its own
  pub all_added : (set : ℕ) (ks : List C) (q : C) (old : Option Place) →
      cond (has_key cmp ks q) (first_or old (places_from cmp set 0 ks q)) old
      ≡ first_or old (places_from cmp set 0 ks q)
  all_added set ks q old = go (has_key cmp ks q) (no_place set 0 ks q)
    where
      go : (b : Bool) → (b ≡ false → places_from cmp set 0 ks q ≡ []) →
          cond b (first_or old (places_from cmp set 0 ks q)) old ≡ first_or old (places_from cmp set 0 ks q)
      go true none = refl
      go false none = sym (ap (first_or old) (none refl))

  -- a key stands once in a list that has it
  one_place : (set n : ℕ) (ks : List C) (q : C) → length (places_from cmp set n ks q) ≡ cond (has_key cmp ks q) 1 0
  one_place set n [] q = refl
  one_place set n (k ∷ ks) q = go (is_at (cmp k) q) (one_place set (suc n) ks q)
    where
      go : (b : Bool) → length (places_from cmp set (suc n) ks q) ≡ cond (has_key cmp ks q) 1 0 →
          length (cond b (only set n) (places_from cmp set (suc n) ks q)) ≡ cond (b || has_key cmp ks q) 1 0
      go true rest = refl
      go false rest = rest

  -- a key has no place in a list, or one, beside which stands what is its own
  pub one_or_none : CmpEqualImpliesEq cmp → (f : C → Option Place) (set n : ℕ) (ks : List C) (q : C) →
      (places_from cmp set n ks q ≡ []) ⊎
      ((i : ℕ) × (places_from cmp set n ks q ≡ only set (n + i)) × (get_or (map f ks) i None ≡ f q))
  one_or_none exact f set n [] q = inl refl
  one_or_none exact f set n (k ∷ ks) q = go (is_at (cmp k) q) refl (one_or_none exact f set (suc n) ks q)
    where
      go : (b : Bool) → is_at (cmp k) q ≡ b →
          (places_from cmp set (suc n) ks q ≡ []) ⊎
          ((i : ℕ) × (places_from cmp set (suc n) ks q ≡ only set (suc n + i)) × (get_or (map f ks) i None ≡ f q)) →
          (cond b (only set n) (places_from cmp set (suc n) ks q) ≡ []) ⊎
          ((i : ℕ) × (cond b (only set n) (places_from cmp set (suc n) ks q) ≡ only set (n + i)) ×
          (get_or (map f (k ∷ ks)) i None ≡ f q))
      go true e rest = inr (0, ap (only set) (let h : n ≡ n + 0 = omega arith in h), ap f (tells_apart exact k q e))
      go false e (inl none) = inl none
      go false e (inr found) = inr (
        suc found.0,
        found.1 ∙ ap (only set) (let h : suc n + found.0 ≡ n + suc found.0 = omega arith in h),
        found.2,
      )

  -- so its places are as many as the sets that have it
  pub places_counted : (sets : List (SetWithBits C)) (q : C) →
      length (places_in cmp sets q) ≡ count_by (has_primary cmp q) sets
  places_counted sets q = go sets ∙ length-filter (has_primary cmp q) sets
    where
      more : (b : Bool) (x : SetWithBits C) (ps rest : List Place) (others : List (SetWithBits C)) →
          length ps ≡ cond b 1 0 → length rest ≡ length others →
          length (ps ++ rest) ≡ length (cond b (x ∷ others) others)
      more true x [] rest others e f = absurd (omega (arith, e))
      more true x (p ∷ []) rest others e f = ap suc f
      more true x (p ∷ r ∷ ps) rest others e f = absurd (omega (arith, e))
      more false x [] rest others e f = f
      more false x (p ∷ ps) rest others e f = absurd (omega (arith, e))

      go : (sets : List (SetWithBits C)) → length (places_in cmp sets q) ≡ length (filter (has_primary cmp q) sets)
      go [] = refl
      go (x ∷ sets) = more (has_primary cmp q x) x (places_from cmp x.index 0 (keys_of x.primary) q)
          (places_in cmp sets q) (filter (has_primary cmp q) sets) (one_place x.index 0 (keys_of x.primary) q)
          (go sets)
