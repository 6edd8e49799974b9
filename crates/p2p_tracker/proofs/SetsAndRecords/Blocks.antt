-- Keys with moments: as they are kept and as contracts see them, and who is blocked.
use Rattle.std.proofs.Common.{◌≡◌, ℕ, suc, ◌≤◌, Bool, true, false, ◌||◌, cond, not, nat_lt, List, [], ◌∷◌, filter}
use Rattle.std.proofs.Common.{length, Option, Some, None, refl, sym, ◌∙◌, ap, subst, arith}
use Rattle.std.specs.declared.cmp.Ordering.{Ordering}
use Rattle.std.specs.declared.time.Duration.{Duration}
use Rattle.std.specs.BTreeMap.{insert_entry, is_at}
use Rattle.std.specs.Cmp.{IsTotalOrder, eq_by_cmp_equiv}
use Rattle.std.specs.Duration.{as_nanos}
use Rattle.std.specs.List.{count_by, list_any}
use Rattle.std.specs.List.Sorted.{IsStrictlySortedBy}
use Rattle.std.specs.Map.{lookup, keys_of, remove_entry}
use Rattle.std.specs.Ordering.{is_eq, match_ordering}
use Rattle.std.specs.declared.cmp.Ordering.TheVariants.{Less, Equal, Greater}
use Rattle.std.proofs.lemmas.Cmp.{tied_itself}
use Rattle.std.specs.Option.{option_map, option_map_or}
use Rattle.std.proofs.lemmas.List.Sums.{length-filter}
use Rattle.std.proofs.lemmas.Map.Entries.{option_filter, lookup-filter-values}
use Rattle.std.proofs.lemmas.Map.Keys.{IsDistinct-from_sorted}
use Rattle.std.proofs.lemmas.Map.Lookups.{CmpEqualImpliesEq}
use Rattle.std.proofs.lemmas.Bool.{ltb-false, le-ltb, lt-ltb, not-true}
use Rattle.p2p_tracker.specs.Blocks.{is_blocked, in_nanos, is_later, IsAnyUntil, unblock_in}
use Rattle.p2p_discovery.specs.Ordered.{has_key}
use Rattle.p2p_tracker.specs.Directory.{if_later}
use Rattle.p2p_tracker.specs.Lists.{Lists, Somebody}
use Rattle.p2p_tracker.proofs.SetsAndRecords.Listing.{listed_by_value, somebody_passes}

-- AS CONTRACTS SEE THEM

put-in_nanos : (b : Bool) (moment : Duration) (o : Option Duration) →
    option_map as_nanos (cond b (Some moment) o) ≡ cond b (Some (as_nanos moment)) (option_map as_nanos o)
put-in_nanos true moment o = refl
put-in_nanos false moment o = refl

module _ {C : Type 0} where
  keys-in_nanos : (es : List (C × Duration)) → keys_of (in_nanos es) ≡ keys_of es
  keys-in_nanos [] = refl
  keys-in_nanos (e ∷ es) = ap (λ ks. e.0 ∷ ks) (keys-in_nanos es)

  -- what is in order by its keys is so as contracts see it
  pub sorted-in_nanos : (cmp : C → C → Ordering) (es : List (C × Duration)) (bs : List (C × ℕ)) →
      in_nanos es ≡ bs → IsStrictlySortedBy cmp (keys_of es) → IsStrictlySortedBy cmp (keys_of bs)
  sorted-in_nanos cmp es bs seen up = subst (IsStrictlySortedBy cmp) (sym (keys-in_nanos es) ∙ ap keys_of seen) up

  pub lookup-in_nanos : (test : C → Bool) (es : List (C × Duration)) → lookup test (in_nanos es) ≡ option_map as_nanos (lookup test es)
  lookup-in_nanos test [] = refl
  lookup-in_nanos test (e ∷ es) = go (test e.0) (lookup-in_nanos test es)
    where
      go : (b : Bool) → lookup test (in_nanos es) ≡ option_map as_nanos (lookup test es) →
          cond b (Some (as_nanos e.1)) (lookup test (in_nanos es)) ≡ option_map as_nanos (cond b (Some e.1) (lookup test es))
      go true rest = refl
      go false rest = rest

  -- a key is given a moment
  pub unblock_after : (cmp : C → C → Ordering) (old new : List (C × Duration)) (bs : List (C × ℕ)) (key : C) (moment : Duration) → in_nanos old ≡ bs →
      ((q : C) → lookup (is_at (cmp q)) new ≡ cond (is_at (cmp key) q) (Some moment) (lookup (is_at (cmp q)) old)) →
      (q : C) → unblock_in cmp (in_nanos new) q ≡ cond (is_at (cmp key) q) (Some (as_nanos moment)) (unblock_in cmp bs q)
  unblock_after cmp old new bs key moment seen put q =
      lookup-in_nanos (is_at (cmp q)) new
      ∙ ap (option_map as_nanos) (put q)
      ∙ put-in_nanos (is_at (cmp key) q) moment (lookup (is_at (cmp q)) old)
      ∙ ap (cond (is_at (cmp key) q) (Some (as_nanos moment))) (sym (lookup-in_nanos (is_at (cmp q)) old) ∙ ap (λ ds. unblock_in cmp ds q) seen)

-- who is blocked is seen so in the map, too
pub blocked_as : {C : Type 0} (cmp : C → C → Ordering) (es : List (C × Duration)) (key : C) (now : ℕ) →
    is_blocked (option_map as_nanos (lookup (is_at (cmp key)) es)) now ≡ is_blocked (unblock_in cmp (in_nanos es) key) now
blocked_as cmp es key now = ap (λ o. is_blocked o now) (sym (lookup-in_nanos (is_at (cmp key)) es))

-- an entry of a key that had none is taken out again
pub taken_back : {K X : Type 0} {cmp : K → K → Ordering} → IsTotalOrder cmp → (es more back : List (K × X)) (k : K) (v : X) →
    lookup (is_at (cmp k)) es ≡ None → more ≡ insert_entry cmp es k v → back ≡ remove_entry (is_at (cmp k)) more → back ≡ es
taken_back {K} {X} {cmp} total es more back k v none put out =
    out ∙ ap (remove_entry (is_at (cmp k))) put ∙ go es none
  where
    go : (ds : List (K × X)) → lookup (is_at (cmp k)) ds ≡ None → remove_entry (is_at (cmp k)) (insert_entry cmp ds k v) ≡ ds
    go [] f = ap (λ o. cond (is_eq o) [] ((k, v) ∷ [])) (tied_itself total k)
    go (d ∷ ds) f = by (cmp k d.0) refl f (go ds)
      where
        by : (o : Ordering) → cmp k d.0 ≡ o → cond (is_eq o) (Some d.1) (lookup (is_at (cmp k)) ds) ≡ None →
            (lookup (is_at (cmp k)) ds ≡ None → remove_entry (is_at (cmp k)) (insert_entry cmp ds k v) ≡ ds) →
            remove_entry (is_at (cmp k)) (match_ordering o ((k, v) ∷ d ∷ ds) ((d.0, v) ∷ ds) (d ∷ insert_entry cmp ds k v)) ≡ d ∷ ds
        by Less e n rest = ap (λ o. cond (is_eq o) (d ∷ ds) ((k, v) ∷ remove_entry (is_at (cmp k)) (d ∷ ds))) (tied_itself total k)
        by Equal e n rest = absurd cc
        by Greater e n rest = ap (λ o. cond (is_eq o) (insert_entry cmp ds k v) (d ∷ remove_entry (is_at (cmp k)) (insert_entry cmp ds k v))) e
            ∙ ap (λ es. d ∷ es) (rest n)

-- WHO IS BLOCKED

later_is_blocked : (now : ℕ) (o : Option ℕ) → option_map_or (nat_lt now) o false ≡ is_blocked o now
later_is_blocked now None = refl
later_is_blocked now (Some moment) = refl

module _ {C : Type 0} {cmp : C → C → Ordering} (total : IsTotalOrder cmp) where
  -- the keys whose moments are later than now are the blocked ones
  pub blocked_listed : (bs : List (C × ℕ)) (now : ℕ) → IsStrictlySortedBy cmp (keys_of bs) →
      Lists cmp (λ q. is_blocked (unblock_in cmp bs q) now) (keys_of (filter (is_later now) bs))
  blocked_listed bs now up =
      let lists = listed_by_value total (nat_lt now) bs up in
      record { sorted = lists.sorted; members = λ q. lists.members q ∙ later_is_blocked now (unblock_in cmp bs q) }

  -- where a moment is later, somebody is blocked
  pub somebody_blocked : CmpEqualImpliesEq cmp → (bs : List (C × ℕ)) (now : ℕ) →
      IsStrictlySortedBy cmp (keys_of bs) → list_any (is_later now) bs ≡ true →
      Somebody (λ q. is_blocked (unblock_in cmp bs q) now)
  somebody_blocked exact bs now up any =
      let some = somebody_passes total exact (is_later now) bs up any in
      (some.0, sym (later_is_blocked now (unblock_in cmp bs some.0)) ∙ some.1)

  -- what is left of a block when those that end are dropped
  pub left_blocks : (bs : List (C × ℕ)) (now : ℕ) → IsStrictlySortedBy cmp (keys_of bs) → (q : C) →
      unblock_in cmp (filter (is_later now) bs) q ≡ if_later now (unblock_in cmp bs q)
  left_blocks bs now up q =
      lookup-filter-values (eq_by_cmp_equiv total) (nat_lt now) q bs (IsDistinct-from_sorted cmp (keys_of bs) up)
      ∙ go (unblock_in cmp bs q)
    where
      go : (o : Option ℕ) → option_filter (nat_lt now) o ≡ if_later now o
      go None = refl
      go (Some moment) = refl

  -- whether any block ends, by how many do
  pub any_ends : CmpEqualImpliesEq cmp → (bs : List (C × ℕ)) (now n : ℕ) → IsStrictlySortedBy cmp (keys_of bs) →
      n ≡ count_by (λ e. not (is_later now e)) bs → IsAnyUntil (unblock_in cmp bs) now (nat_lt 0 n)
  any_ends exact bs now n up count = (from, to)
    where
      ends : C × ℕ → Bool
      ends e = not (nat_lt now e.1)

      counted : (xs : List (C × ℕ)) → nat_lt 0 (length (filter ends xs)) ≡ list_any ends xs
      counted [] = refl
      counted (x ∷ xs) = go (ends x) (counted xs)
        where
          go : (b : Bool) → nat_lt 0 (length (filter ends xs)) ≡ list_any ends xs →
              nat_lt 0 (length (cond b (x ∷ filter ends xs) (filter ends xs))) ≡ (b || list_any ends xs)
          go true rest = lt-ltb 0 (suc (length (filter ends xs))) (omega arith)
          go false rest = rest

      any : nat_lt 0 n ≡ list_any ends bs
      any = ap (nat_lt 0) (count ∙ sym (length-filter ends bs)) ∙ counted bs

      moment : (o : Option ℕ) → option_map_or (λ m. not (nat_lt now m)) o false ≡ true → (m : ℕ) × (o ≡ Some m) × (m ≤ now)
      moment None e = absurd (cc)
      moment (Some m) e = (m, refl, ltb-false now m (not-true (nat_lt now m) e))

      from : nat_lt 0 n ≡ true → (p : C) × (m : ℕ) × (unblock_in cmp bs p ≡ Some m) × (m ≤ now)
      from e =
          let some = somebody_passes total exact ends bs up (sym any ∙ e) in
          let found = moment (unblock_in cmp bs some.0) some.1 in
          (some.0, found.0, found.1, found.2)

      to : ((p : C) × (m : ℕ) × (unblock_in cmp bs p ≡ Some m) × (m ≤ now)) → nat_lt 0 n ≡ true
      to found = any ∙ go (list_any ends bs) refl
        where
          passes : option_map_or (λ m. not (nat_lt now m)) (unblock_in cmp bs found.0) false ≡ true
          passes = ap (λ o. option_map_or (λ m. not (nat_lt now m)) o false) found.2 ∙ ap not (le-ltb now found.1 found.3)

          nobody : (xs : List (C × ℕ)) → list_any ends xs ≡ false → filter ends xs ≡ []
          nobody [] e = refl
          nobody (x ∷ xs) e = step (ends x) e (nobody xs)
            where
              step : (b : Bool) → (b || list_any ends xs) ≡ false →
                  (list_any ends xs ≡ false → filter ends xs ≡ []) →
                  cond b (x ∷ filter ends xs) (filter ends xs) ≡ []
              step true e rest = absurd (cc)
              step false e rest = rest e

          go : (b : Bool) → list_any ends bs ≡ b → b ≡ true
          go true e = refl
          go false e =
              let lists = listed_by_value total (λ m. not (nat_lt now m)) bs up in
              absurd (let f = sym (ap (λ es. has_key cmp (keys_of es) found.0) (nobody bs e)) ∙ lists.members found.0 ∙ passes in cc)
