-- One record of all is the own one: how many others there are.
use Rattle.std.proofs.Common.{◌≡◌, suc, ◌+◌, Bool, true, false, cond, not, List, [], ◌∷◌, length, filter, Some, sym, ap, refl, ◌∙◌, arith}
use mathlib.Core.Bool.{true≢false}
use Rattle.std.specs.declared.cmp.Ordering.{Ordering}
use Rattle.std.specs.Cmp.{IsTotalOrder, eq_by_cmp_equiv}
use Rattle.std.specs.Ordering.{is_eq}
use Rattle.std.specs.Option.{option_map_or}
use Rattle.std.specs.List.Sorted.{IsStrictlySortedBy}
use Rattle.std.specs.Map.{keys_of, lookup}
use Rattle.std.specs.BTreeMap.{is_at}
use Rattle.std.proofs.lemmas.Cmp.{tied_itself}
use Rattle.std.proofs.lemmas.Map.{lookup-none}
use Rattle.std.proofs.lemmas.Map.Entries.{none_past_head}
use Rattle.std.proofs.lemmas.Map.Keys.{sorted_tail, IsDistinct-from_sorted}
use Rattle.std.proofs.lemmas.Map.Lookups.{CmpEqualImpliesEq}
use Rattle.std.proofs.lemmas.Map.Views.{tells_apart}

module _ {K X : Type 0} {cmp : K → K → Ordering} (total : IsTotalOrder cmp) (exact : CmpEqualImpliesEq cmp) (test : X → Bool) where
  -- whether the value at a key passes
  abbrev passes : List (K × X) → K → Bool
  passes es q = option_map_or test (lookup (is_at (cmp q)) es) false

  at_head : (e : K × X) (es : List (K × X)) → passes (e ∷ es) e.0 ≡ test e.1
  at_head e es = ap (λ b. option_map_or test (cond b (Some e.1) (lookup (is_at (cmp e.0)) es)) false) (ap is_eq (tied_itself total e.0))

  -- what is in the tail is found there alone
  in_tail : (e : K × X) (es : List (K × X)) (q : K) → IsStrictlySortedBy cmp (keys_of (e ∷ es)) →
      passes es q ≡ cond (is_at (cmp q) e.0) false (passes (e ∷ es) q)
  in_tail e es q up = go (is_at (cmp q) e.0) refl
    where
      go : (b : Bool) → is_at (cmp q) e.0 ≡ b → passes es q ≡ cond b false (option_map_or test (cond b (Some e.1) (lookup (is_at (cmp q)) es)) false)
      go true h = ap (λ o. option_map_or test o false)
          (lookup-none (is_at (cmp q)) es
          (none_past_head (eq_by_cmp_equiv total) q e es (IsDistinct-from_sorted cmp (keys_of (e ∷ es)) up) h))
      go false h = refl

  false_both : (b : Bool) → cond b false false ≡ false
  false_both true = refl
  false_both false = refl

  -- where no value passes, all are others
  none_passes : (es : List (K × X)) → IsStrictlySortedBy cmp (keys_of es) → ((q : K) → passes es q ≡ false) →
      length es ≡ length (filter (λ e. not (test e.1)) es)
  none_passes [] up h = refl
  none_passes (e ∷ es) up h =
      ap suc (none_passes es (sorted_tail cmp e.0 (keys_of es) up)
      (λ q. in_tail e es q up ∙ (λ i. cond (is_at (cmp q) e.0) false (h q i)) ∙ false_both (is_at (cmp q) e.0)))
      ∙ ap (λ b. length (cond (not b) (e ∷ filter (λ e. not (test e.1)) es) (filter (λ e. not (test e.1)) es))) (sym (h e.0) ∙ at_head e es)

  -- where that at one key alone passes, all but one are others
  pub one_passes : (own : K) (es : List (K × X)) → IsStrictlySortedBy cmp (keys_of es) →
      ((q : K) → passes es q ≡ is_at (cmp own) q) → length es ≡ length (filter (λ e. not (test e.1)) es) + 1
  one_passes own [] up h = absurd (true≢false (sym (h own ∙ ap is_eq (tied_itself total own))))
  one_passes own (e ∷ es) up h = go (test e.1) refl (one_passes own es tail)
    where
      tail : IsStrictlySortedBy cmp (keys_of es)
      tail = sorted_tail cmp e.0 (keys_of es) up

      others : List (K × X)
      others = filter (λ e. not (test e.1)) es

      here : is_at (cmp own) e.0 ≡ test e.1
      here = sym (h e.0) ∙ at_head e es

      mirrored : (q : K) → is_at (cmp q) e.0 ≡ is_at (cmp e.0) q
      mirrored q = (eq_by_cmp_equiv total).symm q e.0

      none_more : test e.1 ≡ true → (q : K) → passes es q ≡ false
      none_more own_here q =
          in_tail e es q up
          ∙ (λ i. cond (is_at (cmp q) e.0) false
          ((h q ∙ ap (λ k. is_at (cmp k) q) (tells_apart exact own e.0 (here ∙ own_here)) ∙ sym (mirrored q)) i))
          ∙ both (is_at (cmp q) e.0)
        where
          both : (b : Bool) → cond b false b ≡ false
          both true = refl
          both false = refl

      one_more : test e.1 ≡ false → (q : K) → passes es q ≡ is_at (cmp own) q
      one_more other q = in_tail e es q up ∙ by (is_at (cmp q) e.0) refl
        where
          by : (b : Bool) → is_at (cmp q) e.0 ≡ b → cond b false (passes (e ∷ es) q) ≡ is_at (cmp own) q
          by true same = sym (here ∙ other) ∙ ap (is_at (cmp own)) (sym (tells_apart exact q e.0 same))
          by false same = h q

      go : (b : Bool) → test e.1 ≡ b →
          (((q : K) → passes es q ≡ is_at (cmp own) q) → length es ≡ length others + 1) →
          suc (length es) ≡ length (cond (not b) (e ∷ others) others) + 1
      go true is later = omega (arith, none_passes es tail (none_more is))
      go false is later = omega (arith, later (one_more is))
