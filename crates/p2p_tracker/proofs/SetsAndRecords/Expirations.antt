-- The moments of blocks in order: they stay those of the blocks as blocks come and go.
use Rattle.std.proofs.Common.{◌≡◌, ℕ, suc, ◌+◌, ◌≤◌, ◌<◌, Bool, true, false, ◌&&◌, cond, not, nat_lt, nat_le, nat_eq}
use Rattle.std.proofs.Common.{List, [], ◌∷◌, filter, length, Option, Some, None, refl, sym, ◌∙◌, ap, arith}
use Rattle.std.specs.Prelude.{IfSome, IsSome, is_some, ◌↔◌}
use Rattle.std.specs.declared.cmp.Ordering.{Ordering}
use Rattle.std.specs.declared.cmp.Ordering.TheVariants.{Less, Equal, Greater}
use Rattle.std.specs.declared.time.Duration.{Duration}
use Rattle.std.specs.BTreeMap.{is_at}
use Rattle.std.specs.Cmp.{IsTotalOrder, eq_by_cmp_equiv}
use Rattle.std.specs.Duration.{as_nanos}
use Rattle.std.specs.List.{count_by, list_any}
use Rattle.std.specs.List.Sorted.{IsStrictlySortedBy}
use Rattle.std.specs.Map.{lookup, keys_of, remove_entry}
use Rattle.std.specs.Option.{option_map, option_map_or}
use Rattle.std.specs.Ordering.{is_eq, is_gt, ordering_then}
use Rattle.std.proofs.lemmas.Bool.Decides.{nat_tests}
use Rattle.std.proofs.lemmas.Bool.{lt-ltb}
use Rattle.std.proofs.lemmas.Cmp.{tied_itself}
use Rattle.std.proofs.lemmas.List.Sums.{length-filter}
use Rattle.std.proofs.lemmas.Map.{lookup-none}
use Rattle.std.proofs.lemmas.Map.Entries.{none_past_head}
use Rattle.std.proofs.lemmas.Map.Keys.{sorted_tail, IsDistinct-from_sorted}
use Rattle.std.proofs.lemmas.Map.Lookups.{CmpEqualImpliesEq}
use Rattle.std.proofs.lemmas.Map.Views.{tells_apart}
use Rattle.std.proofs.Math.Bool.{and-false, and-true}
use Rattle.p2p_tracker.specs.Blocks.{in_nanos, is_later, unblock_in}
use Rattle.p2p_tracker.specs.Lists.{IsLeastOf}
use Rattle.p2p_tracker.specs.Private.Expirations.{end_cmp, IsFirstOf, AreExpirations}
use Rattle.p2p_tracker.proofs.SetsAndRecords.Blocks.{lookup-in_nanos}

abbrev until : ℕ → Option ℕ → Bool
until n o = option_map_or (nat_eq n) o false

is_until : (n : ℕ) (o : Option ℕ) → until n o ≡ true → o ≡ Some n
is_until n None e = absurd cc
is_until n (Some m) e = ap Some (let f : m ≡ n = grind (arith, nat_tests) in f)

until_is : (n : ℕ) (o : Option ℕ) → o ≡ Some n → until n o ≡ true
until_is n o e = ap (until n) e ∙ (let f : nat_eq n n ≡ true = grind (arith, nat_tests) in f)

eq_turned : (m n : ℕ) (b : Bool) → nat_eq m n ≡ b → nat_eq n m ≡ b
eq_turned m n true e = grind (arith, nat_tests)
eq_turned m n false e = grind (arith, nat_tests)

-- two moments with their keys are equal where both are
tied : {C : Type 0} (cmp : C → C → Ordering) (m n : ℕ) (p q : C) →
    is_at (end_cmp cmp (m, p)) (n, q) ≡ (nat_eq m n && is_at (cmp p) q)
tied cmp m n p q = go (nat_lt m n) refl (nat_eq m n) refl
  where
    go : (a : Bool) → nat_lt m n ≡ a → (b : Bool) → nat_eq m n ≡ b →
        is_eq (ordering_then (cond a Less (cond b Equal Greater)) (cmp p q)) ≡ (b && is_eq (cmp p q))
    go true e true f = absurd (let g : nat_lt m n ≡ false = grind (arith, nat_tests) in let h = sym e ∙ g in cc)
    go true e false f = refl
    go false e true f = refl
    go false e false f = refl

-- an end that is not before another has no lesser moment
pub not_before : {C : Type 0} (cmp : C → C → Ordering) (e f : ℕ × C) → is_gt (end_cmp cmp e f) ≡ false → e.0 ≤ f.0
not_before cmp e f low = go (nat_lt e.0 f.0) refl (nat_eq e.0 f.0) refl low
  where
    go : (a : Bool) → nat_lt e.0 f.0 ≡ a → (b : Bool) → nat_eq e.0 f.0 ≡ b →
        is_gt (ordering_then (cond a Less (cond b Equal Greater)) (cmp e.1 f.1)) ≡ false → e.0 ≤ f.0
    go true g b h l = grind (arith, nat_tests)
    go false g true h l = grind (arith, nat_tests)
    go false g false h l = absurd cc

module _ {C : Type 0} {cmp : C → C → Ordering} (exact : CmpEqualImpliesEq cmp) where
  abbrev Has : List (ℕ × C) → ℕ → C → Bool
  Has expirations n q = list_any (is_at (end_cmp cmp (n, q))) expirations

  -- a key is given a moment, and had this one or none
  pub ends_more : (expirations new_ends : List (ℕ × C)) (old new : List (C × ℕ)) (key : C) (m : ℕ) → AreExpirations cmp expirations old →
      ((e : ℕ × C) → list_any (is_at (end_cmp cmp e)) new_ends
      ≡ cond (is_at (end_cmp cmp (m, key)) e) true (list_any (is_at (end_cmp cmp e)) expirations)) →
      ((q : C) → unblock_in cmp new q ≡ cond (is_at (cmp key) q) (Some m) (unblock_in cmp old q)) →
      ((n : ℕ) → until n (unblock_in cmp old key) ≡ true → n ≡ m) → AreExpirations cmp new_ends new
  ends_more expirations new_ends old new key m are more put one n q =
      more (n, q) ∙ ap (λ b. cond b true (Has expirations n q)) (tied cmp m n key q) ∙ go (is_at (cmp key) q) refl
      ∙ ap (until n) (sym (put q))
    where
      go : (k : Bool) → is_at (cmp key) q ≡ k →
          cond (nat_eq m n && k) true (Has expirations n q) ≡ until n (cond k (Some m) (unblock_in cmp old q))
      go false e = ap (λ b. cond b true (Has expirations n q)) (and-false (nat_eq m n)) ∙ are n q
      go true e = ap (λ b. cond b true (Has expirations n q)) (and-true (nat_eq m n)) ∙ same (nat_eq m n) refl
        where
          had : Has expirations n q ≡ until n (unblock_in cmp old key)
          had = are n q ∙ ap (λ p. until n (unblock_in cmp old p)) (sym (tells_apart exact key q e))

          same : (b : Bool) → nat_eq m n ≡ b → cond b true (Has expirations n q) ≡ nat_eq n m
          same true f = sym (eq_turned m n true f)
          same false f = by (until n (unblock_in cmp old key)) refl
            where
              by : (b : Bool) → until n (unblock_in cmp old key) ≡ b → Has expirations n q ≡ nat_eq n m
              by true g = absurd (let h = one n g in let i : nat_eq m n ≡ true = grind (arith, nat_tests) in let j =
                  sym f ∙ i in cc)
              by false g = had ∙ g ∙ sym (eq_turned m n false f)

  -- .. and had another
  pub ends_instead : (expirations new_ends : List (ℕ × C)) (old new : List (C × ℕ)) (key : C) (m before : ℕ) →
      AreExpirations cmp expirations old →
      ((e : ℕ × C) → list_any (is_at (end_cmp cmp e)) new_ends ≡
      cond (is_at (end_cmp cmp (before, key)) e) false
      (cond (is_at (end_cmp cmp (m, key)) e) true (list_any (is_at (end_cmp cmp e)) expirations))) →
      ((q : C) → unblock_in cmp new q ≡ cond (is_at (cmp key) q) (Some m) (unblock_in cmp old q)) →
      unblock_in cmp old key ≡ Some before → nat_eq before m ≡ false → AreExpirations cmp new_ends new
  ends_instead expirations new_ends old new key m before are instead put found other n q =
      instead (n, q)
      ∙ (λ i. cond (tied cmp before n key q i) false (cond (tied cmp m n key q i) true (Has expirations n q)))
      ∙ go (is_at (cmp key) q) refl ∙ ap (until n) (sym (put q))
    where
      go : (k : Bool) → is_at (cmp key) q ≡ k →
          cond (nat_eq before n && k) false (cond (nat_eq m n && k) true (Has expirations n q))
          ≡ until n (cond k (Some m) (unblock_in cmp old q))
      go false e = (λ i. cond (and-false (nat_eq before n) i) false (cond (and-false (nat_eq m n) i) true (Has expirations n q)))
          ∙ are n q
      go true e = (λ i. cond (and-true (nat_eq before n) i) false (cond (and-true (nat_eq m n) i) true (Has expirations n q)))
          ∙ same (nat_eq before n) refl (nat_eq m n) refl
        where
          had : Has expirations n q ≡ nat_eq n before
          had = are n q ∙ ap (λ p. until n (unblock_in cmp old p)) (sym (tells_apart exact key q e))
              ∙ ap (until n) found

          same : (b : Bool) → nat_eq before n ≡ b → (d : Bool) → nat_eq m n ≡ d →
              cond b false (cond d true (Has expirations n q)) ≡ nat_eq n m
          same true f d g = (let h : nat_eq n m ≡ false = grind (arith, nat_tests) in sym h)
          same false f true g = sym (eq_turned m n true g)
          same false f false g = had ∙ eq_turned before n false f ∙ sym (eq_turned m n false g)

  -- a block goes with its end
  pub ends_taken : (expirations new_ends : List (ℕ × C)) (old new : List (C × ℕ)) (key : C) (m : ℕ) → AreExpirations cmp expirations old →
      ((e : ℕ × C) → list_any (is_at (end_cmp cmp e)) new_ends
      ≡ cond (is_at (end_cmp cmp (m, key)) e) false (list_any (is_at (end_cmp cmp e)) expirations)) →
      ((q : C) → unblock_in cmp new q ≡ cond (is_at (cmp key) q) None (unblock_in cmp old q)) →
      Has expirations m key ≡ true → AreExpirations cmp new_ends new
  ends_taken expirations new_ends old new key m are taken gone has n q =
      taken (n, q) ∙ ap (λ b. cond b false (Has expirations n q)) (tied cmp m n key q) ∙ go (is_at (cmp key) q) refl
      ∙ ap (until n) (sym (gone q))
    where
      go : (k : Bool) → is_at (cmp key) q ≡ k →
          cond (nat_eq m n && k) false (Has expirations n q) ≡ until n (cond k None (unblock_in cmp old q))
      go false e = ap (λ b. cond b false (Has expirations n q)) (and-false (nat_eq m n)) ∙ are n q
      go true e = ap (λ b. cond b false (Has expirations n q)) (and-true (nat_eq m n)) ∙ same (nat_eq m n) refl
        where
          had : Has expirations n q ≡ nat_eq n m
          had = are n q ∙ ap (λ p. until n (unblock_in cmp old p)) (sym (tells_apart exact key q e))
              ∙ ap (until n) (is_until m (unblock_in cmp old key) (sym (are m key) ∙ has))

          same : (b : Bool) → nat_eq m n ≡ b → cond b false (Has expirations n q) ≡ false
          same true f = refl
          same false f = had ∙ eq_turned m n false f

  -- the moment of a key that is among the ends
  pub end_is : (expirations : List (ℕ × C)) (blocks : List (C × ℕ)) (e : ℕ × C) → AreExpirations cmp expirations blocks →
      list_any (is_at (end_cmp cmp e)) expirations ≡ true → unblock_in cmp blocks e.1 ≡ Some e.0
  end_is expirations blocks e are has = is_until e.0 (unblock_in cmp blocks e.1) (sym (are e.0 e.1) ∙ has)

  -- the end of a key that has a moment
  pub end_of : (expirations : List (ℕ × C)) (blocks : List (C × ℕ)) (q : C) (n : ℕ) → AreExpirations cmp expirations blocks →
      unblock_in cmp blocks q ≡ Some n → list_any (is_at (end_cmp cmp (n, q))) expirations ≡ true
  end_of expirations blocks q n are found = are n q ∙ until_is n (unblock_in cmp blocks q) found

  -- THE FIRST OF THEM

  -- no end is before the first, so no block is
  pub first_is_first : (expirations : List (ℕ × C)) (blocks : List (C × ℕ)) (e : ℕ × C) → AreExpirations cmp expirations blocks →
      list_any (is_at (end_cmp cmp e)) expirations ≡ true →
      ((f : ℕ × C) → list_any (is_at (end_cmp cmp f)) expirations ≡ true → is_gt (end_cmp cmp e f) ≡ false) →
      IsFirstOf cmp (unblock_in cmp blocks) (Some e)
  first_is_first expirations blocks e are has least = (
    end_is expirations blocks e are has,
    λ q n found. least (n, q) (end_of expirations blocks q n are found),
  )

  -- .. and it stays so where another key is given a moment behind it
  pub first_stays : (old new : List (C × ℕ)) (key : C) (m : ℕ) (first : Option (ℕ × C)) →
      ((q : C) → unblock_in cmp new q ≡ cond (is_at (cmp key) q) (Some m) (unblock_in cmp old q)) →
      IsFirstOf cmp (unblock_in cmp old) first → IsSome first →
      IfSome first (λ e. (is_at (cmp key) e.1 ≡ false) × (is_gt (end_cmp cmp e (m, key)) ≡ false)) →
      IsFirstOf cmp (unblock_in cmp new) first
  first_stays old new key m None put was some behind = absurd cc
  first_stays old new key m (Some e) put was some behind = (
    put e.1 ∙ ap (λ b. cond b (Some m) (unblock_in cmp old e.1)) behind.0 ∙ was.0,
    λ q n found. by q n (is_at (cmp key) q) refl (sym (put q) ∙ found),
  )
    where
      by : (q : C) (n : ℕ) (here : Bool) → is_at (cmp key) q ≡ here →
          cond here (Some m) (unblock_in cmp old q) ≡ Some n → is_gt (end_cmp cmp e (n, q)) ≡ false
      by q n true is found = let same : m ≡ n = cc in
          (λ i. is_gt (end_cmp cmp e (sym same i, sym (tells_apart exact key q is) i))) ∙ behind.1
      by q n false is found = was.1 q n found

-- the first end shows the least moment
pub first_is_least : {C : Type 0} (cmp : C → C → Ordering) (moment : C → Option ℕ) (first : Option (ℕ × C)) →
    IsFirstOf cmp moment first → IsLeastOf moment (option_map (λ e. e.0) first)
first_is_least cmp moment None is = is
first_is_least cmp moment (Some e) is = ((e.1, is.0), λ q n found. not_before cmp e (n, q) (is.1 q n found))

-- with no end there is no block
pub no_ends : {C : Type 0} {cmp : C → C → Ordering} → IsTotalOrder cmp →
    (expirations : List (ℕ × C)) (blocks : List (C × ℕ)) → AreExpirations cmp expirations blocks → expirations ≡ [] → blocks ≡ []
no_ends total expirations [] are none = refl
no_ends {C} {cmp} total expirations (b ∷ bs) are none =
    absurd (
    let here : unblock_in cmp (b ∷ bs) b.0 ≡ Some b.1 =
    ap (λ o. cond (is_eq o) (Some b.1) (unblock_in cmp bs b.0)) (tied_itself total b.0) in
    let e = sym (are b.1 b.0 ∙ until_is b.1 (unblock_in cmp (b ∷ bs) b.0) here)
    ∙ ap (list_any (is_at (end_cmp cmp (b.1, b.0)))) none in
    cc
    )

-- WHAT IS LEFT

pub count_step : (c a b d : ℕ) → suc a ≡ b → c + b ≡ d → c + 1 + a ≡ d
count_step c a b d e f = omega (arith, e, f)

pub count_last : (c a d : ℕ) → a ≡ 0 → c + a ≡ d → c ≡ d
count_last c a d e f = omega (arith, e, f)

gone-in_nanos : (b : Bool) (o : Option Duration) →
    option_map as_nanos (cond b None o) ≡ cond b None (option_map as_nanos o)
gone-in_nanos true o = refl
gone-in_nanos false o = refl

-- a key's moment goes
pub unblock_gone : {C : Type 0} (cmp : C → C → Ordering) (old new : List (C × Duration)) (key : C) →
    ((q : C) → lookup (is_at (cmp q)) new ≡ cond (is_at (cmp key) q) None (lookup (is_at (cmp q)) old)) →
    (q : C) → unblock_in cmp (in_nanos new) q ≡ cond (is_at (cmp key) q) None (unblock_in cmp (in_nanos old) q)
unblock_gone cmp old new key gone q =
    lookup-in_nanos (is_at (cmp q)) new ∙ ap (option_map as_nanos) (gone q)
    ∙ gone-in_nanos (is_at (cmp key) q) (lookup (is_at (cmp q)) old)
    ∙ ap (cond (is_at (cmp key) q) None) (sym (lookup-in_nanos (is_at (cmp q)) old))

pub removed-in_nanos : {C : Type 0} (test : C → Bool) (es : List (C × Duration)) →
    in_nanos (remove_entry test es) ≡ remove_entry test (in_nanos es)
removed-in_nanos test [] = refl
removed-in_nanos test (e ∷ es) = go (test e.0) (removed-in_nanos test es)
  where
    go : (b : Bool) → in_nanos (remove_entry test es) ≡ remove_entry test (in_nanos es) →
        in_nanos (cond b es (e ∷ remove_entry test es))
        ≡ cond b (in_nanos es) ((e.0, as_nanos e.1) ∷ remove_entry test (in_nanos es))
    go true rest = refl
    go false rest = ap (λ ds. (e.0, as_nanos e.1) ∷ ds) rest

module _ {C : Type 0} (now : ℕ) where
  -- the removal of an ended block leaves what is later
  pub left_removed : (test : C → Bool) (bs : List (C × ℕ)) (m : ℕ) → lookup test bs ≡ Some m → m ≤ now →
      filter (is_later now) (remove_entry test bs) ≡ filter (is_later now) bs
  left_removed test [] m found low = refl
  left_removed test (b ∷ bs) m found low = go (test b.0) found (λ f. left_removed test bs m f low)
    where
      go : (t : Bool) → cond t (Some b.1) (lookup test bs) ≡ Some m →
          (lookup test bs ≡ Some m → filter (is_later now) (remove_entry test bs) ≡ filter (is_later now) bs) →
          filter (is_later now) (cond t bs (b ∷ remove_entry test bs))
          ≡ cond (nat_lt now b.1) (b ∷ filter (is_later now) bs) (filter (is_later now) bs)
      go true f rest = (let one : b.1 ≡ m = cc in let no : nat_lt now b.1 ≡ false = grind (arith, nat_tests) in
          ap (λ t. cond t (b ∷ filter (is_later now) bs) (filter (is_later now) bs)) (sym no))
      go false f rest = ap (λ ds. cond (nat_lt now b.1) (b ∷ ds) ds) (rest f)

  abbrev ends_by : C × ℕ → Bool
  ends_by e = not (is_later now e)

  one_less : (test : C → Bool) (bs : List (C × ℕ)) (m : ℕ) → lookup test bs ≡ Some m → m ≤ now →
      suc (length (filter ends_by (remove_entry test bs))) ≡ length (filter ends_by bs)
  one_less test [] m found low = absurd cc
  one_less test (b ∷ bs) m found low = go (test b.0) found (λ f. one_less test bs m f low)
    where
      left : List (C × ℕ)
      left = filter ends_by (remove_entry test bs)

      all : List (C × ℕ)
      all = filter ends_by bs

      by : (t : Bool) → suc (length left) ≡ length all →
          suc (length (cond t (b ∷ left) left)) ≡ length (cond t (b ∷ all) all)
      by true e = ap suc e
      by false e = e

      go : (t : Bool) → cond t (Some b.1) (lookup test bs) ≡ Some m →
          (lookup test bs ≡ Some m → suc (length left) ≡ length all) →
          suc (length (filter ends_by (cond t bs (b ∷ remove_entry test bs))))
          ≡ length (cond (not (nat_lt now b.1)) (b ∷ all) all)
      go true f rest = (let one : b.1 ≡ m = cc in let no : nat_lt now b.1 ≡ false = grind (arith, nat_tests) in
          ap (λ t. length (cond (not t) (b ∷ all) all)) (sym no))
      go false f rest = by (not (nat_lt now b.1)) (rest f)

  -- .. and is one less that ends
  pub count_removed : (test : C → Bool) (bs : List (C × ℕ)) (m : ℕ) → lookup test bs ≡ Some m → m ≤ now →
      suc (count_by (λ e. not (is_later now e)) (remove_entry test bs)) ≡ count_by (λ e. not (is_later now e)) bs
  count_removed test bs m found low = ap suc (sym (length-filter ends_by (remove_entry test bs)))
      ∙ one_less test bs m found low ∙ length-filter ends_by bs

  -- where each block is later, all are left, and none ends
  all_later : {cmp : C → C → Ordering} → IsTotalOrder cmp → (bs : List (C × ℕ)) →
      IsStrictlySortedBy cmp (keys_of bs) →
      ((q : C) (n : ℕ) → unblock_in cmp bs q ≡ Some n → now < n) →
      (filter (is_later now) bs ≡ bs) × (length (filter ends_by bs) ≡ 0)
  all_later total [] up later = (refl, refl)
  all_later {cmp} total (b ∷ bs) up later =
      let here : unblock_in cmp (b ∷ bs) b.0 ≡ Some b.1 =
      ap (λ o. cond (is_eq o) (Some b.1) (unblock_in cmp bs b.0)) (tied_itself total b.0) in
      let rest = all_later total bs (sorted_tail cmp b.0 (keys_of bs) up)
      (λ q n found. past q n (is_at (cmp q) b.0) refl found) in
      let passes : nat_lt now b.1 ≡ true = lt-ltb now b.1 (later b.0 b.1 here) in (
        ap (λ t. cond t (b ∷ filter (is_later now) bs) (filter (is_later now) bs)) passes ∙ ap (λ ds. b ∷ ds) rest.0,
        ap (λ t. length (cond (not t) (b ∷ filter ends_by bs) (filter ends_by bs))) passes ∙ rest.1,
      )
    where
      past : (q : C) (n : ℕ) (t : Bool) → is_at (cmp q) b.0 ≡ t → unblock_in cmp bs q ≡ Some n → now < n
      past q n true same found = absurd (let none =
          lookup-none (is_at (cmp q)) bs (none_past_head (eq_by_cmp_equiv total) q b bs
          (IsDistinct-from_sorted cmp (keys_of (b ∷ bs)) up) same) in cc)
      past q n false other found = later q n (ap (λ t. cond t (Some b.1) (unblock_in cmp bs q)) other ∙ found)

  pub all_left : {cmp : C → C → Ordering} → IsTotalOrder cmp → (bs : List (C × ℕ)) →
      IsStrictlySortedBy cmp (keys_of bs) →
      ((q : C) (n : ℕ) → unblock_in cmp bs q ≡ Some n → now < n) → filter (is_later now) bs ≡ bs
  all_left total bs up later = (all_later total bs up later).0

  pub none_left : {cmp : C → C → Ordering} → IsTotalOrder cmp → (bs : List (C × ℕ)) →
      IsStrictlySortedBy cmp (keys_of bs) →
      ((q : C) (n : ℕ) → unblock_in cmp bs q ≡ Some n → now < n) → count_by (λ e. not (is_later now e)) bs ≡ 0
  none_left total bs up later = sym (length-filter ends_by bs) ∙ (all_later total bs up later).1

pub same_or_none : {m : ℕ} {o : Option ℕ} → o ≡ None → (n : ℕ) → until n o ≡ true → n ≡ m
same_or_none e n f = absurd (let g = sym (ap (until n) e) ∙ f in cc)

-- who is first where a list may be empty
pub none_first : {A B : Type 0} (o : Option B) (xs : List A) → o ≡ None → IsSome o ↔ (0 < length xs) → xs ≡ []
none_first o [] e some = refl
none_first o (x ∷ xs) e some = absurd (let f = sym (ap is_some e) ∙ some.1 (omega arith) in cc)

-- before the first nothing ends
pub none_ended : {C : Type 0} (cmp : C → C → Ordering) (moment : C → Option ℕ) (first : Option (ℕ × C)) (now : ℕ) →
    IsFirstOf cmp moment first → option_map_or (λ e. nat_le e.0 now) first false ≡ false →
    (q : C) (n : ℕ) → moment q ≡ Some n → now < n
none_ended cmp moment None now is later q n found = absurd (let none = sym (is q) ∙ found in cc)
none_ended cmp moment (Some e) now is later q n found =
    let low = not_before cmp e (n, q) (is.1 q n found) in grind (arith, nat_tests)
