-- Keys with two moments: as they are kept and as contracts see them, and which have cooled.
use Rattle.std.proofs.Common.{◌≡◌, ℕ, ◌+◌, ◌≤◌, ◌<◌, Bool, true, false, cond, not, nat_lt, nat_le, List, [], ◌∷◌}
use Rattle.std.proofs.Common.{filter, length, Option, Some, None, refl, sym, ◌∙◌, ap, subst, arith}
use Rattle.std.specs.declared.cmp.Ordering.{Ordering}
use Rattle.std.specs.declared.time.Duration.{Duration}
use Rattle.std.specs.BTreeMap.{is_at}
use Rattle.std.specs.Cmp.{IsTotalOrder, eq_by_cmp_equiv}
use Rattle.std.specs.Duration.{as_nanos}
use Rattle.std.specs.List.{All}
use Rattle.std.specs.List.Sorted.{IsStrictlySortedBy}
use Rattle.std.specs.Map.{lookup, keys_of, values_of}
use Rattle.std.specs.Option.{option_map, option_map_or}
use Rattle.std.proofs.lemmas.Bool.Decides.{nat_tests}
use Rattle.std.proofs.lemmas.List.Elements.{All-head, All-tail}
use Rattle.std.proofs.lemmas.Map.Entries.{length-keys_of, option_filter, lookup-filter-values}
use Rattle.std.proofs.lemmas.Map.Keys.{IsDistinct-from_sorted}
use Rattle.std.proofs.lemmas.Map.Made.{lookup-map_values, keys_of-map_values}
use Rattle.p2p_tracker.specs.Calls.{Cooldown}
use Rattle.p2p_tracker.specs.Answers.{is_cooled_by}
use Rattle.p2p_tracker.specs.Lists.{Lists}
use Rattle.p2p_tracker.specs.Cooldowns.{cooldown_view, cooldowns_view, has_cooled, unless_cooled, cooldown_in}
use Rattle.p2p_tracker.proofs.SetsAndRecords.Listing.{listed_by_value}

-- AS CONTRACTS SEE THEM

put_seen : (b : Bool) (v : Duration × Duration) (o : Option (Duration × Duration)) →
    option_map cooldown_view (cond b (Some v) o) ≡ cond b (Some (cooldown_view v)) (option_map cooldown_view o)
put_seen true v o = refl
put_seen false v o = refl

module _ {C : Type 0} where
  -- what is in order by its keys is so as contracts see it
  pub sorted_seen : (cmp : C → C → Ordering) (es : List (C × (Duration × Duration))) (cs : List (C × Cooldown)) →
      cooldowns_view es ≡ cs → IsStrictlySortedBy cmp (keys_of es) → IsStrictlySortedBy cmp (keys_of cs)
  sorted_seen cmp es cs is up = subst (IsStrictlySortedBy cmp) (sym (keys_of-map_values cooldown_view es)
      ∙ ap keys_of is) up

  pub cooldown_seen : (cmp : C → C → Ordering) (es : List (C × (Duration × Duration))) (q : C) →
      cooldown_in cmp (cooldowns_view es) q ≡ option_map cooldown_view (lookup (is_at (cmp q)) es)
  cooldown_seen cmp es q = lookup-map_values cooldown_view (is_at (cmp q)) es

  -- a key is given moments
  pub cooldown_put : (cmp : C → C → Ordering) (old new : List (C × (Duration × Duration))) (key : C)
      (v : Duration × Duration) →
      ((q : C) → lookup (is_at (cmp q)) new ≡ cond (is_at (cmp key) q) (Some v) (lookup (is_at (cmp q)) old)) →
      (q : C) → cooldown_in cmp (cooldowns_view new) q ≡ cond (is_at (cmp key) q) (Some (cooldown_view v))
      (cooldown_in cmp (cooldowns_view old) q)
  cooldown_put cmp old new key v put q =
      cooldown_seen cmp new q ∙ ap (option_map cooldown_view) (put q)
      ∙ put_seen (is_at (cmp key) q) v (lookup (is_at (cmp q)) old)
      ∙ ap (cond (is_at (cmp key) q) (Some (cooldown_view v))) (sym (cooldown_seen cmp old q))

-- WHAT HAS COOLED

module _ {C : Type 0} (now : ℕ) where
  abbrev cooled_of : List (C × Cooldown) → List (C × Cooldown)
  cooled_of cs = filter (has_cooled now) cs

  abbrev left_of : List (C × Cooldown) → List (C × Cooldown)
  left_of cs = filter (λ e. not (has_cooled now e)) cs

  -- where nothing has, all are left
  pub none_cooled : (cs : List (C × Cooldown)) → cooled_of cs ≡ [] → left_of cs ≡ cs
  none_cooled [] e = refl
  none_cooled (c ∷ cs) e = go (has_cooled now c) e (none_cooled cs)
    where
      go : (b : Bool) → cond b (c ∷ cooled_of cs) (cooled_of cs) ≡ [] → (cooled_of cs ≡ [] → left_of cs ≡ cs) →
          cond (not b) (c ∷ left_of cs) (left_of cs) ≡ c ∷ cs
      go true e rest = absurd cc
      go false e rest = ap (λ ds. c ∷ ds) (rest e)

  -- .. and where it is before a bound of all dial moments, nothing has
  pub none_yet : (bound : ℕ) (es : List (C × (Duration × Duration))) →
      All (λ m. bound ≤ as_nanos m.1) (values_of es) → now < bound → cooled_of (cooldowns_view es) ≡ []
  none_yet bound [] all low = refl
  none_yet bound (e ∷ es) all low =
      let P : Duration × Duration → Type 0 = λ m. bound ≤ as_nanos m.1 in
      let here : bound ≤ as_nanos e.1.1 = All-head P e.1 (values_of es) all in
      let no : nat_le (as_nanos e.1.1) now ≡ false = grind (arith, nat_tests) in
      ap (λ b. cond b ((e.0, cooldown_view e.1) ∷ cooled_of (cooldowns_view es)) (cooled_of (cooldowns_view es))) no
      ∙ none_yet bound es (All-tail P e.1 (values_of es) all) low

  -- those whose dial moment is later are left
  pub later_left : (es : List (C × (Duration × Duration))) →
      cooldowns_view (filter (λ e. nat_lt now (as_nanos e.1.1)) es) ≡ left_of (cooldowns_view es)
  later_left [] = refl
  later_left (e ∷ es) = go (nat_lt now (as_nanos e.1.1)) (nat_le (as_nanos e.1.1) now) turned (later_left es)
    where
      later : List (C × (Duration × Duration))
      later = filter (λ e. nat_lt now (as_nanos e.1.1)) es

      seen : C × Cooldown
      seen = (e.0, cooldown_view e.1)

      turned : nat_lt now (as_nanos e.1.1) ≡ not (nat_le (as_nanos e.1.1) now)
      turned = grind (arith, nat_tests)

      go : (a b : Bool) → a ≡ not b → cooldowns_view later ≡ left_of (cooldowns_view es) →
          cooldowns_view (cond a (e ∷ later) later)
          ≡ cond (not b) (seen ∷ left_of (cooldowns_view es)) (left_of (cooldowns_view es))
      go a b is rest = ap (λ t. cooldowns_view (cond t (e ∷ later) later)) is ∙ by b
        where
          by : (b : Bool) → cooldowns_view (cond (not b) (e ∷ later) later)
              ≡ cond (not b) (seen ∷ left_of (cooldowns_view es)) (left_of (cooldowns_view es))
          by true = rest
          by false = ap (λ cs. seen ∷ cs) rest

  module _ {cmp : C → C → Ordering} (total : IsTotalOrder cmp) (cs : List (C × Cooldown))
      (up : IsStrictlySortedBy cmp (keys_of cs)) where
    pub left_cooldowns : (q : C) → cooldown_in cmp (left_of cs) q ≡ unless_cooled now (cooldown_in cmp cs q)
    left_cooldowns q =
        lookup-filter-values (eq_by_cmp_equiv total) (λ (k : Cooldown). not (nat_le k.dial_at now)) q cs
        (IsDistinct-from_sorted cmp (keys_of cs) up)
        ∙ go (cooldown_in cmp cs q)
      where
        by : (b : Bool) (k : Cooldown) → cond (not b) (Some k) None ≡ cond b None (Some k)
        by true k = refl
        by false k = refl

        go : (o : Option Cooldown) → option_filter (λ k. not (nat_le k.dial_at now)) o ≡ unless_cooled now o
        go None = refl
        go (Some k) = by (nat_le k.dial_at now) k

    -- the keys of those that have
    pub cooled_keys : Lists cmp (λ q. is_cooled_by now (cooldown_in cmp cs q)) (keys_of (cooled_of cs))
    cooled_keys =
        let lists = listed_by_value total (λ (k : Cooldown). nat_le k.dial_at now) cs up in
        record { sorted = lists.sorted; members = λ q. lists.members q ∙ by (cooldown_in cmp cs q) }
      where
        by : (o : Option Cooldown) → option_map_or (λ k. nat_le k.dial_at now) o false ≡ is_cooled_by now o
        by None = refl
        by (Some k) = refl

    -- how many have
    pub number_cooled : (n : ℕ) → n ≡ length (cooled_of cs) →
        (ps : List C) × Lists cmp (λ q. is_cooled_by now (cooldown_in cmp cs q)) ps × (n ≡ length ps)
    number_cooled n count = (keys_of (cooled_of cs), cooled_keys, count ∙ sym (length-keys_of (cooled_of cs)))

  -- one is counted, and then the others
  pub counted_one : (e : C × Cooldown) (cs : List (C × Cooldown)) (n one all : ℕ) →
      one ≡ cond (has_cooled now e) 1 0 → n + length (cooled_of (e ∷ cs)) ≡ all → n + one + length (cooled_of cs) ≡ all
  counted_one e cs n one all is so_far = go (has_cooled now e) is so_far
    where
      go : (b : Bool) → one ≡ cond b 1 0 → n + length (cond b (e ∷ cooled_of cs) (cooled_of cs)) ≡ all →
          n + one + length (cooled_of cs) ≡ all
      go true is so_far = omega arith
      go false is so_far = omega arith
