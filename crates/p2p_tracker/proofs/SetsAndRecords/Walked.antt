-- Walks along keys in order and the entries of a map at once.
use Rattle.std.proofs.Common.{◌≡◌, Bool, true, false, cond, ℕ, ◌+◌, ◌<◌, ◌||◌, ◌&&◌, List, [], ◌∷◌, ◌++◌, length, drop}
use Rattle.std.proofs.Common.{get_or, refl, sym, ◌∙◌, ap, subst, Option, Some, None}
use Rattle.std.specs.BTreeMap.{is_at}
use Rattle.std.specs.Map.{keys_of, lookup}
use Rattle.std.specs.Map.Calls.{RetainsPairs}
use Rattle.std.specs.Option.{option_and_then, option_map_or}
use Rattle.std.proofs.lemmas.Map.{lookup-none}
use Rattle.std.proofs.lemmas.Map.Entries.{none_below_head, lookup_head, lookup_tail}
use Rattle.std.proofs.lemmas.Map.Lookups.{CmpEqualImpliesEq}
use Rattle.std.proofs.lemmas.Map.Views.{tells_apart}
use Rattle.std.specs.Cmp.{IsTotalOrder}
use Rattle.std.specs.List.{AllByRecursion, filter}
use Rattle.std.specs.List.Sorted.{IsStrictlySortedBy}
use Rattle.std.specs.Ordering.{is_eq, is_lt, ordering_reverse}
use Rattle.std.specs.declared.cmp.Ordering.{Ordering}
use Rattle.std.specs.declared.cmp.Ordering.TheVariants.{Less, Equal, Greater}
use Rattle.std.proofs.lemmas.List.{drop_more}
use Rattle.std.proofs.lemmas.Map.Keys.{sorted_head, sorted_tail}
use Rattle.p2p_discovery.specs.Ordered.{has_key}
use Rattle.p2p_tracker.specs.Private.Walked.{above}
use Rattle.p2p_tracker.proofs.SetsAndRecords.Naming.{sorted_drop, names-filter}

module _ {C : Type 0} {cmp : C → C → Ordering} (total : IsTotalOrder cmp) (key : C) where
  -- of keys that are all above one, all are above it, and none is it
  all_above : (qs : List C) → AllByRecursion (λ q. cmp key q ≡ Less) qs → above cmp key qs ≡ qs
  all_above [] h = refl
  all_above (q ∷ qs) h =
      ap (λ o. cond (is_lt o) (q ∷ above cmp key qs) (above cmp key qs)) h.0
      ∙ ap (λ rest. q ∷ rest) (all_above qs h.1)

  pub none_is_it : (qs : List C) → AllByRecursion (λ q. cmp key q ≡ Less) qs → has_key cmp qs key ≡ false
  none_is_it [] h = refl
  none_is_it (q ∷ qs) h =
      ap (λ o. is_eq o || has_key cmp qs key) (total.antisymm q key ∙ ap ordering_reverse h.0)
      ∙ none_is_it qs h.1

  -- what is above a key is above one that is equal to it or below it
  pub behind_equal : (q : C) → cmp q key ≡ Equal → (qs : List C) → AllByRecursion (λ y. cmp q y ≡ Less) qs →
      AllByRecursion (λ y. cmp key y ≡ Less) qs
  behind_equal q equal [] all = tt
  behind_equal q equal (y ∷ qs) all = (sym (total.congr q key y equal) ∙ all.0, behind_equal q equal qs all.1)

  pub behind_greater : (q : C) → cmp key q ≡ Less → (qs : List C) → AllByRecursion (λ y. cmp q y ≡ Less) qs →
      AllByRecursion (λ y. cmp key y ≡ Less) qs
  behind_greater q less [] all = tt
  behind_greater q less (y ∷ qs) all = (total.trans key q y less all.0, behind_greater q less qs all.1)

  module _ (keys : List C) (i : ℕ) (q : C) (low : i < length keys) (is : q ≡ get_or keys i q) where
    here : drop i keys ≡ q ∷ drop (i + 1) keys
    here = drop_more keys i q low ∙ ap (λ x. x ∷ drop (i + 1) keys) (sym is)

    -- a key before the one is passed
    pub less_rest : cmp q key ≡ Less → above cmp key (drop i keys) ≡ above cmp key (drop (i + 1) keys)
    less_rest less = ap (above cmp key) here
        ∙ ap (λ o. cond (is_lt o) (q ∷ above cmp key (drop (i + 1) keys)) (above cmp key (drop (i + 1) keys)))
        (total.antisymm key q ∙ ap ordering_reverse less)

    pub less_met : cmp q key ≡ Less → has_key cmp (drop i keys) key ≡ has_key cmp (drop (i + 1) keys) key
    less_met less = ap (λ ks. has_key cmp ks key) here ∙ ap (λ o. is_eq o || has_key cmp (drop (i + 1) keys) key) less

    module _ (up : IsStrictlySortedBy cmp keys) where
      behind : AllByRecursion (λ y. cmp q y ≡ Less) (drop (i + 1) keys)
      behind = sorted_head cmp q (drop (i + 1) keys) (subst (IsStrictlySortedBy cmp) here (sorted_drop cmp i keys up))

      -- a key that is the one is met
      pub equal_rest : cmp q key ≡ Equal → drop (i + 1) keys ≡ above cmp key (drop i keys)
      equal_rest equal =
          sym (all_above (drop (i + 1) keys) (behind_equal q equal (drop (i + 1) keys) behind))
          ∙ ap (λ o. cond (is_lt o) (q ∷ above cmp key (drop (i + 1) keys)) (above cmp key (drop (i + 1) keys)))
          (sym (total.antisymm key q ∙ ap ordering_reverse equal))
          ∙ ap (above cmp key) (sym here)

      -- .. and one above it ends the walk
      from_here : cmp q key ≡ Greater → AllByRecursion (λ y. cmp key y ≡ Less) (drop i keys)
      from_here greater =
          let less : cmp key q ≡ Less = total.antisymm key q ∙ ap ordering_reverse greater in
          subst (AllByRecursion (λ y. cmp key y ≡ Less)) (sym here)
          (less, behind_greater q less (drop (i + 1) keys) behind)

      pub greater_rest : cmp q key ≡ Greater → drop i keys ≡ above cmp key (drop i keys)
      greater_rest greater = sym (all_above (drop i keys) (from_here greater))

      pub greater_met : cmp q key ≡ Greater → has_key cmp (drop i keys) key ≡ false
      greater_met greater = none_is_it (drop i keys) (from_here greater)

-- WHAT A WALK LEAVES

-- a change where a test holds, of nothing
nothing_changed : {V : Type 0} (left : V → Option V) (b : Bool) → None ≡ cond b (option_and_then left None) None
nothing_changed left true = refl
nothing_changed left false = refl

-- no entry behind a key has it
pub none_behind : {C V : Type 0} {cmp : C → C → Ordering} → IsTotalOrder cmp → (k : C) (es : List (C × V)) →
    IsStrictlySortedBy cmp (keys_of es) → AllByRecursion (λ y. cmp k y ≡ Less) (keys_of es) → lookup (is_at (cmp k)) es ≡ None
none_behind total k [] up all = refl
none_behind {cmp = cmp} total k (e ∷ es) up all = lookup-none (is_at (cmp k)) (e ∷ es) (none_below_head total k e es up all.0)

module _ {C V F : Type 0} {cmp : C → C → Ordering} (total : IsTotalOrder cmp) (exact : CmpEqualImpliesEq cmp)
    (T : F → C → V → Bool → V → F → Type 0) (left : V → Option V) (Keeps : F → Type 0) (rest : F → List C) where
  abbrev changed : List C → C → Option V → Option V
  changed keys q o = cond (has_key cmp keys q) (option_and_then left o) o

  -- a call moves on behind the key, and changes what it is called at where the key is one of those that are left
  pub record IsStep (k : C) (v : V) (b : Bool) (w : V) (f f2 : F) : Type 0 where
    pub keeps : Keeps f2
    pub moves : rest f2 ≡ above cmp k (rest f)
    pub changes : cond b (Some w) None ≡ cond (has_key cmp (rest f) k) (left v) (Some v)

  module _ (step : (f : F) (k : C) (v : V) (b : Bool) (w : V) (f2 : F) → Keeps f → T f k v b w f2 → IsStep k v b w f f2) where
    at_head : (k : C) (v w : V) (b : Bool) (f f2 : F) (es left_es : List (C × V)) (q : C) → IsStep k v b w f f2 →
        cmp q k ≡ Equal → lookup (is_at (cmp q)) es ≡ None →
        lookup (is_at (cmp q)) left_es ≡ changed (rest f2) q (lookup (is_at (cmp q)) es) →
        lookup (is_at (cmp q)) (cond b ((k, w) ∷ left_es) left_es)
        ≡ changed (rest f) q (lookup (is_at (cmp q)) ((k, v) ∷ es))
    at_head k v w b f f2 es left_es q s equal none later =
        kept b
        ∙ s.changes
        ∙ ap (λ x. cond (has_key cmp (rest f) x) (left v) (Some v)) (sym (tells_apart exact q k (ap is_eq equal)))
        ∙ ap (changed (rest f) q) (sym (lookup_head (is_at (cmp q)) (k, v) es (ap is_eq equal)))
      where
        kept : (b : Bool) → lookup (is_at (cmp q)) (cond b ((k, w) ∷ left_es) left_es) ≡ cond b (Some w) None
        kept true = lookup_head (is_at (cmp q)) (k, w) left_es (ap is_eq equal)
        kept false = later ∙ ap (changed (rest f2) q) none ∙ sym (nothing_changed left (has_key cmp (rest f2) q))

    behind_head : (k : C) (v w : V) (b : Bool) (f f2 : F) (es left_es : List (C × V)) (q : C) → IsStep k v b w f f2 →
        is_at (cmp q) k ≡ false → changed (rest f2) q (lookup (is_at (cmp q)) es) ≡ changed (rest f) q (lookup (is_at (cmp q)) es) →
        lookup (is_at (cmp q)) left_es ≡ changed (rest f2) q (lookup (is_at (cmp q)) es) →
        lookup (is_at (cmp q)) (cond b ((k, w) ∷ left_es) left_es)
        ≡ changed (rest f) q (lookup (is_at (cmp q)) ((k, v) ∷ es))
    behind_head k v w b f f2 es left_es q s other same later =
        passes b ∙ later ∙ same
        ∙ ap (changed (rest f) q) (sym (lookup_tail (is_at (cmp q)) (k, v) es other))
      where
        passes : (b : Bool) → lookup (is_at (cmp q)) (cond b ((k, w) ∷ left_es) left_es) ≡ lookup (is_at (cmp q)) left_es
        passes true = lookup_tail (is_at (cmp q)) (k, w) left_es other
        passes false = refl

    -- what is at a key once the calls are made
    pub walked : (es : List (C × V)) → IsStrictlySortedBy cmp (keys_of es) → (f : F) → Keeps f → (kept : List (C × V)) →
        RetainsPairs T f es kept → (q : C) →
        lookup (is_at (cmp q)) kept ≡ changed (rest f) q (lookup (is_at (cmp q)) es)
    walked [] up f keeps kept ran q =
        ap (lookup (is_at (cmp q))) ran ∙ nothing_changed left (has_key cmp (rest f) q)
    walked ((k, v) ∷ es) up f keeps kept (b, w, f2, left_es, called, later, is) q =
        let s = step f k v b w f2 keeps called in
        let ih = walked es (sorted_tail cmp k (keys_of es) up) f2 s.keeps left_es later q in
        ap (lookup (is_at (cmp q))) is ∙ go (cmp q k) refl s ih
      where
        go : (o : Ordering) → cmp q k ≡ o → IsStep k v b w f f2 →
            lookup (is_at (cmp q)) left_es ≡ changed (rest f2) q (lookup (is_at (cmp q)) es) →
            lookup (is_at (cmp q)) (cond b ((k, w) ∷ left_es) left_es)
            ≡ changed (rest f) q (lookup (is_at (cmp q)) ((k, v) ∷ es))
        go Equal e s ih = at_head k v w b f f2 es left_es q s e
            (ap (λ x. lookup (is_at (cmp x)) es) (tells_apart exact q k (ap is_eq e))
            ∙ none_behind total k es (sorted_tail cmp k (keys_of es) up) (sorted_head cmp k (keys_of es) up)) ih
        go Less e s ih =
            let other : is_at (cmp q) k ≡ false = ap is_eq e in
            let none : lookup (is_at (cmp q)) es ≡ None =
            sym (lookup_tail (is_at (cmp q)) (k, v) es other)
            ∙ lookup-none (is_at (cmp q)) ((k, v) ∷ es) (none_below_head total q (k, v) es up e) in
            behind_head k v w b f f2 es left_es q s other
            (ap (changed (rest f2) q) none ∙ sym (nothing_changed left (has_key cmp (rest f2) q))
            ∙ nothing_changed left (has_key cmp (rest f) q) ∙ sym (ap (changed (rest f) q) none)) ih
        go Greater e s ih =
            behind_head k v w b f f2 es left_es q s (ap is_eq e)
            (ap (λ t. cond t (option_and_then left (lookup (is_at (cmp q)) es)) (lookup (is_at (cmp q)) es))
            (ap (λ ks. has_key cmp ks q) s.moves
            ∙ names-filter exact (λ x. is_lt (cmp k x)) (rest f) q
            ∙ ap (λ o. is_lt o && has_key cmp (rest f) q) (total.antisymm k q ∙ ap ordering_reverse e))) ih

-- WHO IS LISTED BY A WALK

module _ {C V : Type 0} (cmp : C → C → Ordering) (test : V → Bool) where
  -- the value at a key passes the test
  abbrev pub passes_in : List (C × V) → C → Bool
  passes_in es q = option_map_or test (lookup (is_at (cmp q)) es) false

  -- with nothing left nobody is listed
  pub none_listed : (ks : List C) → filter (passes_in []) ks ≡ []
  none_listed [] = refl
  none_listed (k ∷ ks) = none_listed ks

module _ {C V : Type 0} {cmp : C → C → Ordering} (total : IsTotalOrder cmp) (exact : CmpEqualImpliesEq cmp) (test : V → Bool) where
  module _ (e : C × V) (es : List (C × V)) (up : IsStrictlySortedBy cmp (keys_of (e ∷ es))) where
    -- of keys above the first entry the others tell
    others_tell : (ks : List C) → AllByRecursion (λ y. cmp e.0 y ≡ Less) ks → filter (passes_in cmp test (e ∷ es)) ks ≡ filter (passes_in cmp test es) ks
    others_tell [] all = refl
    others_tell (k ∷ ks) all =
        (λ i. cond (option_map_or test (lookup_tail (is_at (cmp k)) e es (ap is_eq (total.antisymm k e.0 ∙ ap ordering_reverse all.0)) i) false)
        (k ∷ others_tell ks all.1 i) (others_tell ks all.1 i))

    -- the first entry is listed where it is met and passes, and the others with those behind it
    abbrev IsListed : List C → Type 0
    IsListed ks = filter (passes_in cmp test (e ∷ es)) ks
        ≡ cond (has_key cmp ks e.0 && test e.1) (e.0 ∷ []) [] ++ filter (passes_in cmp test es) (above cmp e.0 ks)

    pub next_listed : (ks : List C) → IsStrictlySortedBy cmp ks → IsListed ks
    next_listed [] sorted = refl
    next_listed (k ∷ ks) sorted = go (cmp k e.0) refl (next_listed ks (sorted_tail cmp k ks sorted))
      where
        one : (b : Bool) (x : C) (xs : List C) → cond b (x ∷ xs) xs ≡ cond b (x ∷ []) [] ++ xs
        one true x xs = refl
        one false x xs = refl

        go : (o : Ordering) → cmp k e.0 ≡ o → IsListed ks → IsListed (k ∷ ks)
        go Less is later =
            let flipped : cmp e.0 k ≡ Greater = total.antisymm e.0 k ∙ ap ordering_reverse is in
            ap (λ o. cond (option_map_or test o false) (k ∷ filter (passes_in cmp test (e ∷ es)) ks) (filter (passes_in cmp test (e ∷ es)) ks))
            (lookup-none (is_at (cmp k)) (e ∷ es) (none_below_head total k e es up is))
            ∙ later
            ∙ (λ i. cond ((is_eq (sym is i) || has_key cmp ks e.0) && test e.1) (e.0 ∷ []) []
            ++ filter (passes_in cmp test es) (cond (is_lt (sym flipped i)) (k ∷ above cmp e.0 ks) (above cmp e.0 ks)))
        go Equal is later =
            let flipped : cmp e.0 k ≡ Equal = total.antisymm e.0 k ∙ ap ordering_reverse is in
            let all = behind_equal total e.0 k is ks (sorted_head cmp k ks sorted) in
            (λ i. cond (option_map_or test (lookup_head (is_at (cmp k)) e es (ap is_eq is) i) false)
            (k ∷ others_tell ks all i) (others_tell ks all i))
            ∙ one (test e.1) k (filter (passes_in cmp test es) ks)
            ∙ (λ i. cond ((is_eq (sym is i) || has_key cmp ks e.0) && test e.1) (tells_apart exact k e.0 (ap is_eq is) i ∷ []) []
            ++ filter (passes_in cmp test es) (cond (is_lt (sym flipped i)) (k ∷ above cmp e.0 ks) (sym (all_above total e.0 ks all) i)))
        go Greater is later =
            let less : cmp e.0 k ≡ Less = total.antisymm e.0 k ∙ ap ordering_reverse is in
            let all : AllByRecursion (λ y. cmp e.0 y ≡ Less) (k ∷ ks) = (less, behind_greater total e.0 k less ks (sorted_head cmp k ks sorted)) in
            others_tell (k ∷ ks) all
            ∙ (λ i. cond (sym (none_is_it total e.0 (k ∷ ks) all) i && test e.1) (e.0 ∷ []) []
            ++ filter (passes_in cmp test es) (sym (all_above total e.0 (k ∷ ks) all) i))

  -- an entry that doesn't pass lists nobody
  unlisted : (e : C × V) (es : List (C × V)) → IsStrictlySortedBy cmp (keys_of (e ∷ es)) → test e.1 ≡ false → (ks : List C) →
      filter (passes_in cmp test (e ∷ es)) ks ≡ filter (passes_in cmp test es) ks
  unlisted e es up fails [] = refl
  unlisted e es up fails (k ∷ ks) = λ i. cond (same (cmp k e.0) refl i) (k ∷ unlisted e es up fails ks i) (unlisted e es up fails ks i)
    where
      behind : lookup (is_at (cmp e.0)) es ≡ None
      behind = none_behind total e.0 es (sorted_tail cmp e.0 (keys_of es) up) (sorted_head cmp e.0 (keys_of es) up)

      same : (o : Ordering) → cmp k e.0 ≡ o → passes_in cmp test (e ∷ es) k ≡ passes_in cmp test es k
      same Equal is =
          ap (λ o. option_map_or test o false) (lookup_head (is_at (cmp k)) e es (ap is_eq is))
          ∙ fails
          ∙ sym (ap (λ o. option_map_or test o false) (ap (λ x. lookup (is_at (cmp x)) es) (tells_apart exact k e.0 (ap is_eq is)) ∙ behind))
      same _ is = ap (λ o. option_map_or test o false) (lookup_tail (is_at (cmp k)) e es (ap is_eq is))

  -- THE STEP: the next entry, and the keys above its own
  module _ (left left2 : List (C × V)) (e : C × V) (is : left ≡ e ∷ left2) (up : IsStrictlySortedBy cmp (keys_of left)) where
    pub ordered_left : IsStrictlySortedBy cmp (keys_of left2)
    ordered_left = sorted_tail cmp e.0 (keys_of left2) (subst (λ es. IsStrictlySortedBy cmp (keys_of es)) is up)

    pub left_listed : (ks ks2 : List C) → IsStrictlySortedBy cmp ks → ks2 ≡ above cmp e.0 ks → (b : Bool) →
        (has_key cmp ks e.0 && test e.1) ≡ b →
        filter (passes_in cmp test left) ks ≡ cond b (e.0 ∷ []) [] ++ filter (passes_in cmp test left2) ks2
    left_listed ks ks2 sorted moved b met =
        ap (λ es. filter (passes_in cmp test es) ks) is
        ∙ next_listed e left2 (subst (λ es. IsStrictlySortedBy cmp (keys_of es)) is up) ks sorted
        ∙ (λ i. cond (met i) (e.0 ∷ []) [] ++ filter (passes_in cmp test left2) (sym moved i))

    pub left_unlisted : (ks : List C) → test e.1 ≡ false → filter (passes_in cmp test left) ks ≡ filter (passes_in cmp test left2) ks
    left_unlisted ks fails =
        ap (λ es. filter (passes_in cmp test es) ks) is
        ∙ unlisted e left2 (subst (λ es. IsStrictlySortedBy cmp (keys_of es)) is up) fails ks
