-- What holds between calls, at first and after a set was taken.
use Rattle.std.proofs.Common.{◌≡◌, ℕ, ◌+◌, ◌-◌, ◌^◌, ◌<◌, ◌≤◌, Bool, true, false, cond, ◌||◌, ◌&&◌}
use Rattle.std.proofs.Common.{not, nat_lt, List, [], ◌∷◌, ◌++◌, length, drop, length-append, Option}
use Rattle.std.proofs.Common.{Some, None, IfSome, sym, ap, subst, refl, ◌∙◌, arith}
use Rattle.std.specs.Prelude.{if◌then◌else◌, unwrap_or, ◌==◌}
use Rattle.std.specs.declared.cmp.Ordering.{Ordering}
use Rattle.std.specs.Option.{option_map, option_map_or}
use Rattle.std.specs.List.{count_by}
use Rattle.std.specs.BTreeMap.{is_at}
use Rattle.std.proofs.lemmas.List.Sums.{sum_by-append, sum_by-cons, count_by-le-length}
use Rattle.std.proofs.lemmas.Bool.Decides.{nat_tests}
use Rattle.p2p_discovery.specs.declared.discovery.Info.{Info}
use Rattle.p2p_discovery.specs.declared.types.ingress.Ingress.{Ingress}
use Rattle.p2p_tracker.specs.declared.record.Address.TheVariants.{Myself, Bootstrapper}
use Rattle.p2p_tracker.specs.declared.record.Status.{Status}
use Rattle.p2p_tracker.specs.declared.record.Status.TheVariants.{Inert, Reserved, Active}
use Rattle.p2p_tracker.specs.declared.record.Role.{Role}
use Rattle.p2p_tracker.specs.declared.record.Role.TheVariants.{Primary, Secondary}
use Rattle.p2p_tracker.specs.Calls.{SetAt, Cooldown}
use Rattle.p2p_tracker.specs.Status.{is_inert}
use Rattle.p2p_tracker.specs.Lists.{last_ingress_by, last_of}
use Rattle.p2p_tracker.specs.Record.{new_record, fresh, is_myself, is_named_or_persistent, is_eligible, is_deletable, with_counts, unless_deletable}
use Rattle.p2p_tracker.specs.Seen.{RecordView}
use Rattle.p2p_tracker.specs.Private.Counts.{one_set_more, one_set_less, record_leaving}
use Rattle.p2p_tracker.specs.PeerSets.{members, set_count, AreRolesDisjoint}
use Rattle.p2p_discovery.specs.Ordered.{has_key}
use Rattle.p2p_discovery.proofs.Truth.{and-and_not}
use Rattle.p2p_tracker.specs.Private.Counts.{newest_sets, leaving_count, surplus_count}
use Rattle.p2p_tracker.specs.Directory.{first_record, has_status, record_with_sets, is_connectable}
use Rattle.p2p_tracker.specs.Private.Counts.{record_joining, AreCounted, IsConsistent, HasOwn, KeepsAll, DropsFirst, DropsOldest, IsRestored}
use Rattle.p2p_tracker.proofs.SetsAndRecords.Counting
use Rattle.p2p_tracker.proofs.SetsAndRecords.Counting.{one, at_counts, at_its_counts}

-- COUNTS OF SETS

pub count_cons : {X : Type 0} (f : X → Bool) (x : X) (xs : List X) → count_by f (x ∷ xs) ≡ one (f x) + count_by f xs
count_cons f x xs = sum_by-cons (λ y. one (f y)) x xs

count_push : {X : Type 0} (f : X → Bool) (xs : List X) (x : X) → count_by f (xs ++ x ∷ []) ≡ count_by f xs + one (f x)
count_push f xs x = sum_by-append (λ y. cond {A = ℕ} (f y) 1 0) xs (x ∷ []) ∙ ap (λ m. count_by f xs + m) (omega arith)

-- with room for one more at most, the newest sets are the last ones
pub newest_last : {C : Type 0} (max : ℕ) (sets : List (SetAt C)) (set : SetAt C) → length sets ≤ max →
    newest_sets max (sets ++ set ∷ []) ≡ last_of max (sets ++ set ∷ [])
newest_last {C = C} max sets set few = go (nat_lt max (length (sets ++ set ∷ []))) refl
  where
    all : List (SetAt C)
    all = sets ++ set ∷ []

    go : (b : Bool) → nat_lt max (length all) ≡ b → cond b (drop 1 all) all ≡ drop (length all - max) all
    go true e = let n : length all - max ≡ 1 = grind (arith, nat_tests, length-append sets (set ∷ [])) in ap (λ k. drop k all) (sym n)
    go false e = let n : length all - max ≡ 0 = grind (arith, nat_tests) in ap (λ k. drop k all) (sym n)

few_by : {X : Type 0} (max : ℕ) (sets : List X) (b : Bool) → nat_lt max (length sets) ≡ b → length sets ≤ max + 1 → length (cond b (drop 1 sets) sets) ≤ max
few_by max [] true e h = omega arith
few_by max (x ∷ sets) true e h = omega (arith, h)
few_by max sets false e h = grind (arith, nat_tests)

-- whether the peer is in the set that goes, and what counts are left
record IsLeft (a b : Bool) (p s p2 s2 : ℕ) (c d : Bool) : Type 0 where
  primary : one a ≤ p
  secondary : one b ≤ s
  primary_left : p2 ≡ p + one c - one a
  secondary_left : s2 ≡ s + one d - one b

module _ {C : Type 0} (cmp : C → C → Ordering) where
  abbrev AreLeft : ℕ → List (SetAt C) → SetAt C → C → Type 0
  AreLeft max sets set q =
      (a : Bool) × (b : Bool) × IsLeft a b (set_count cmp Primary q sets) (set_count cmp Secondary q sets)
      (set_count cmp Primary q (newest_sets max (sets ++ set ∷ []))) (set_count cmp Secondary q (newest_sets max (sets ++ set ∷ [])))
      (has_key cmp set.primary q) (has_key cmp set.secondary q)

  kept_left : (sets kept : List (SetAt C)) (set : SetAt C) (q : C) → kept ≡ sets ++ set ∷ [] →
      IsLeft false false (set_count cmp Primary q sets) (set_count cmp Secondary q sets)
      (set_count cmp Primary q kept) (set_count cmp Secondary q kept) (has_key cmp set.primary q)
      (has_key cmp set.secondary q)
  kept_left sets kept set q e = record {
    primary = omega arith;
    secondary = omega arith;
    primary_left = ap (set_count cmp Primary q) e ∙ count_push (λ x. has_key cmp x.primary q) sets set ∙ omega arith;
    secondary_left = ap (set_count cmp Secondary q) e ∙ count_push (λ x. has_key cmp x.secondary q) sets set ∙ omega arith;
  }

  are_left : (max : ℕ) (sets : List (SetAt C)) (set : SetAt C) (q : C) → 0 < max → AreLeft max sets set q
  are_left max [] set q some =
      let e : nat_lt max 1 ≡ false = grind (arith, nat_tests) in
      (false, false, kept_left [] (cond (nat_lt max 1) [] (set ∷ [])) set q (ap (λ b. cond b [] (set ∷ [])) e))
  are_left max (x ∷ xs) set q some = go (nat_lt max (length (x ∷ (xs ++ set ∷ [])))) refl
    where
      kept : Bool → List (SetAt C)
      kept b = cond b (xs ++ set ∷ []) (x ∷ (xs ++ set ∷ []))

      go : (b : Bool) → nat_lt max (length (x ∷ (xs ++ set ∷ []))) ≡ b →
          (a : Bool) × (d : Bool) × IsLeft a d (set_count cmp Primary q (x ∷ xs)) (set_count cmp Secondary q (x ∷ xs))
          (set_count cmp Primary q (kept (nat_lt max (length (x ∷ (xs ++ set ∷ []))))))
          (set_count cmp Secondary q (kept (nat_lt max (length (x ∷ (xs ++ set ∷ []))))))
          (has_key cmp set.primary q) (has_key cmp set.secondary q)
      go true e = (
        has_key cmp x.primary q,
        has_key cmp x.secondary q,
        record {
          primary = omega (arith, count_cons (λ y. has_key cmp y.primary q) x xs);
          secondary = omega (arith, count_cons (λ y. has_key cmp y.secondary q) x xs);
          primary_left =
              ap (λ b. set_count cmp Primary q (kept b)) e ∙ count_push (λ y. has_key cmp y.primary q) xs set
              ∙ (let f = count_cons (λ y. has_key cmp y.primary q) x xs in omega (arith, f));
          secondary_left =
              ap (λ b. set_count cmp Secondary q (kept b)) e ∙ count_push (λ y. has_key cmp y.secondary q) xs set
              ∙ (let f = count_cons (λ y. has_key cmp y.secondary q) x xs in omega (arith, f));
        },
      )
      go false e = (false, false, kept_left (x ∷ xs) (kept (nat_lt max (length (x ∷ (xs ++ set ∷ []))))) set q (ap kept e))

module _ {C S : Type 0} where
  -- what goes is inert
  pub status_unless : (test : Status → Bool) → test Inert ≡ false → (r : RecordView C S) → has_status test (unless_deletable r) ≡ test r.status
  status_unless test idle r = go (is_named_or_persistent r) r.status refl
    where
      go : (wanted : Bool) (status : Status) → r.status ≡ status → has_status test (if not wanted && is_inert status then None else Some r) ≡ test r.status
      go true status e = refl
      go false Inert e = sym (ap test e ∙ idle)
      go false Reserved e = refl
      go false Active e = refl

module _ {C S : Type 0} (cmp : C → C → Ordering) where
  -- THE START

  -- what holds of the records at first
  pub first_consistent : (max : ℕ) (bootstrappers : List (C × Ingress)) (own : Info C S)
      (record_at : C → Option (RecordView C S)) → 0 < max → max < 2 ^ 64 - 1 →
      ((q : C) → record_at q ≡ first_record cmp bootstrappers own q) → IsConsistent cmp max [] record_at
  first_consistent max bootstrappers own record_at some small first = record {
    none_deletable = λ q. rw (first q) (none (is_at (cmp own.public_key) q) (last_ingress_by cmp q bootstrappers));
    counts = λ q. rw (first q) (counts_first (is_at (cmp own.public_key) q) (last_ingress_by cmp q bootstrappers));
    at_most_max = omega arith;
    max_positive = some;
    max_in_range = small;
  }
    where
      made : Bool → Option Ingress → Option (RecordView C S)
      made b o = cond b (Some (new_record (Myself own) true)) (option_map (λ ingress. new_record (Bootstrapper ingress) true) o)

      none : (b : Bool) (o : Option Ingress) → IfSome (made b o) (λ r. is_deletable r ≡ false)
      none false None = tt
      none _ _ = refl

      counts_first : (b : Bool) (o : Option Ingress) → AreCounted cmp [] own.public_key (made b o)
      counts_first true o = (refl, refl)
      counts_first false None = (refl, refl)
      counts_first false (Some a) = (refl, refl)

  -- the own record at first
  pub first_own : (bootstrappers : List (C × Ingress)) (own : Info C S) (record_at : C → Option (RecordView C S)) →
      ((q : C) → record_at q ≡ first_record cmp bootstrappers own q) → HasOwn cmp own.public_key record_at
  first_own bootstrappers own record_at first = record {
    is_own = λ q. rw (first q) (is (is_at (cmp own.public_key) q) (last_ingress_by cmp q bootstrappers));
    persists = λ q. rw (first q) (lasts (is_at (cmp own.public_key) q) (last_ingress_by cmp q bootstrappers));
  }
    where
      made : Bool → Option Ingress → Option (RecordView C S)
      made b o = cond b (Some (new_record (Myself own) true)) (option_map (λ ingress. new_record (Bootstrapper ingress) true) o)

      is : (b : Bool) (o : Option Ingress) → option_map_or (λ r. is_myself r.address) (made b o) false ≡ b
      is true o = refl
      is false None = refl
      is false (Some a) = refl

      lasts : (b : Bool) (o : Option Ingress) → IfSome (made b o) (λ r. is_myself r.address ≡ true → r.persistent ≡ true)
      lasts false None = tt
      lasts _ _ = λ e. refl

  -- A SET

  -- each count is in range
  in_range : (max : ℕ) (sets : List (SetAt C)) (old : C → Option (RecordView C S)) →
      IsConsistent cmp max sets old → (role : Role) (q : C) → set_count cmp role q sets < 2 ^ 64 - 1
  in_range max sets old was role q = let few = count_by-le-length (λ set. has_key cmp (members role set) q) sets in omega (arith, few, was.at_most_max, was.max_in_range)

  -- so one set more and then less leaves what was kept
  pub all_restored : (max : ℕ) (sets : List (SetAt C)) (old : C → Option (RecordView C S)) →
      IsConsistent cmp max sets old → (cooldowns : C → Option Cooldown) (q : C) (role : Role) →
      IsRestored cmp role (cooldowns q) (old q)
  all_restored max sets old was cooldowns q role =
      Counting.restored (cooldowns q) role (old q) (set_count cmp Primary q sets) (set_count cmp Secondary q sets)
      (was.counts q).0 (was.counts q).1 (was.none_deletable q)
      (in_range max sets old was Primary q) (in_range max sets old was Secondary q)

  -- what the peer is kept with, and whether it is torn down, once the oldest set went
  record IsDropped (p s p2 s2 : ℕ) (b : RecordView C S) (new : Option (RecordView C S)) (torn : Bool) : Type 0 where
    left : new ≡ at_counts p2 s2 b
    torn_down : torn ≡ ((not (is_inert b.status) && is_eligible (with_counts p s b)) && not (is_eligible (with_counts p2 s2 b)))

  stays_same : (all : List (SetAt C)) (mid new : C → Option (RecordView C S)) (torn : List C) → KeepsAll cmp mid new torn → (q : C) (b : RecordView C S) →
      mid q ≡ at_counts (set_count cmp Primary q all) (set_count cmp Secondary q all) b →
      IsDropped (set_count cmp Primary q all) (set_count cmp Secondary q all) (set_count cmp Primary q all)
      (set_count cmp Secondary q all) b (new q) (has_key cmp torn q)
  stays_same all mid new torn keeps q b is = record {
    left = (keeps q).0 ∙ is;
    torn_down = (keeps q).1 ∙ and-and_not (not (is_inert b.status)) (is_eligible (with_counts (set_count cmp Primary q all) (set_count cmp Secondary q all) b));
  }

  dropped : (all : List (SetAt C)) (over : Bool) (mid new : C → Option (RecordView C S)) (torn : List C) →
      DropsFirst cmp over all mid new torn → (q : C) (b : RecordView C S) →
      mid q ≡ at_counts (set_count cmp Primary q all) (set_count cmp Secondary q all) b →
      (let kept = cond over (drop 1 all) all in
      IsDropped (set_count cmp Primary q all) (set_count cmp Secondary q all) (set_count cmp Primary q kept)
      (set_count cmp Secondary q kept) b (new q) (has_key cmp torn q))
  dropped all false mid new torn drops q b is = stays_same all mid new torn drops q b is
  dropped [] true mid new torn drops q b is = stays_same [] mid new torn drops q b is
  dropped (x ∷ xs) true mid new torn drops q b is =
      let p = set_count cmp Primary q (x ∷ xs) in
      let s = set_count cmp Secondary q (x ∷ xs) in
      let e : p - one (has_key cmp x.primary q) ≡ set_count cmp Primary q xs = omega (arith, count_cons (λ y. has_key cmp y.primary q) x xs) in
      let f : s - one (has_key cmp x.secondary q) ≡ set_count cmp Secondary q xs = omega (arith, count_cons (λ y. has_key cmp y.secondary q) x xs) in
      let la : one (has_key cmp x.primary q) ≤ p = omega (arith, count_cons (λ y. has_key cmp y.primary q) x xs) in
      let lc : one (has_key cmp x.secondary q) ≤ s = omega (arith, count_cons (λ y. has_key cmp y.secondary q) x xs) in
      record {
        left =
            drops.records q
            ∙ ap (λ o. if has_key cmp x.secondary q then one_set_less Secondary
            (if has_key cmp x.primary q then one_set_less Primary o else o)
            else (if has_key cmp x.primary q then one_set_less Primary o else o)) is
            ∙ Counting.left (has_key cmp x.primary q) (has_key cmp x.secondary q) (drops.disjoint q) p s b la lc
            ∙ (λ i. at_counts (e i) (f i) b);
        torn_down =
            drops.torn_down q
            ∙ ap (λ o. (has_key cmp x.primary q && option_map_or (Counting.torn_without Primary) o false) ||
            (has_key cmp x.secondary q && option_map_or (Counting.torn_without Secondary) o false)) is
            ∙ Counting.torn_left (has_key cmp x.primary q) (has_key cmp x.secondary q) (drops.disjoint q) p s b la lc
            ∙ (λ i. (not (is_inert b.status) && is_eligible (with_counts p s b)) && not (is_eligible (with_counts (e i) (f i) b)));
      }

  -- what is kept of a peer, and whether it is torn down, after a set was taken
  pub record IsTakenAt (sets : List (SetAt C)) (cooldown : Option Cooldown) (old new : Option (RecordView C S)) (q : C) (torn : Bool) : Type 0 where
    pub records : new ≡ record_with_sets cmp sets cooldown q old
    pub torn_down : torn ≡ (is_connectable cmp old && not (option_map_or is_eligible new false))

  pub taken : (max : ℕ) (sets : List (SetAt C)) (set : SetAt C) (cooldowns : C → Option Cooldown) (old mid new : C → Option (RecordView C S)) (torn : List C) →
      IsConsistent cmp max sets old → AreRolesDisjoint cmp set →
      ((q : C) → mid q ≡ record_joining cmp set (cooldowns q) q (old q)) →
      DropsOldest cmp max (sets ++ set ∷ []) mid new torn →
      (q : C) → IsTakenAt (newest_sets max (sets ++ set ∷ [])) (cooldowns q) (old q) (new q) q (has_key cmp torn q)
  taken max sets set cooldowns old mid new torn was disjoint joins drops q = record {
    records = drop.left;
    torn_down =
        drop.torn_down
        ∙ (λ i. (not (is_inert b.status) && is_eligible (with_counts (all_p i) (all_s i) b)) && not
        (is_eligible (with_counts (left.primary_left i) (left.secondary_left i) b)))
        ∙ Counting.torn_same flags.0 flags.1 (has_key cmp set.primary q) (has_key cmp set.secondary q)
        (is_inert b.status) (is_myself b.address) b.persistent p s left.primary left.secondary
        ∙ (λ i. (not (is_inert b.status) && is_eligible (with_counts p s b)) && not
        (is_eligible (with_counts (sym left.primary_left i) (sym left.secondary_left i) b)))
        ∙ (λ i. sym (Counting.connectable_kept (with_counts p s b)) i && not (sym (Counting.eligible_kept (with_counts p2 s2 b)) i))
        ∙ (λ i. is_connectable cmp (sym before i) && not (option_map_or is_eligible (sym drop.left i) false));
  }
    where
      b : RecordView C S
      b = unwrap_or (old q) (fresh (cooldowns q))

      p : ℕ
      p = set_count cmp Primary q sets

      s : ℕ
      s = set_count cmp Secondary q sets

      p2 : ℕ
      p2 = set_count cmp Primary q (newest_sets max (sets ++ set ∷ []))

      s2 : ℕ
      s2 = set_count cmp Secondary q (newest_sets max (sets ++ set ∷ []))

      all_p : set_count cmp Primary q (sets ++ set ∷ []) ≡ p + one (has_key cmp set.primary q)
      all_p = count_push (λ x. has_key cmp x.primary q) sets set

      all_s : set_count cmp Secondary q (sets ++ set ∷ []) ≡ s + one (has_key cmp set.secondary q)
      all_s = count_push (λ x. has_key cmp x.secondary q) sets set

      before : old q ≡ at_counts p s b
      before = at_its_counts (cooldowns q) (old q) p s (was.counts q).0 (was.counts q).1 (was.none_deletable q)

      flags : AreLeft cmp max sets set q
      flags = are_left cmp max sets set q was.max_positive

      left : IsLeft flags.0 flags.1 p s p2 s2 (has_key cmp set.primary q) (has_key cmp set.secondary q)
      left = flags.2

      middle : mid q ≡ at_counts (set_count cmp Primary q (sets ++ set ∷ [])) (set_count cmp Secondary q (sets ++ set ∷ [])) b
      middle =
          joins q
          ∙ Counting.joined (cooldowns q) (has_key cmp set.primary q) (has_key cmp set.secondary q) (disjoint q)
          (old q) p s (was.counts q).0 (was.counts q).1 (was.none_deletable q)
          (in_range max sets old was Primary q) (in_range max sets old was Secondary q)
          ∙ (λ i. at_counts (sym all_p i) (sym all_s i) b)

      drop : IsDropped (set_count cmp Primary q (sets ++ set ∷ [])) (set_count cmp Secondary q (sets ++ set ∷ [])) p2 s2 b (new q) (has_key cmp torn q)
      drop = dropped (sets ++ set ∷ []) (nat_lt max (length (sets ++ set ∷ []))) mid new torn drops q b middle

  -- it holds between calls again
  pub taken_consistent : (max : ℕ) (sets : List (SetAt C)) (set : SetAt C) (cooldowns : C → Option Cooldown)
      (old new : C → Option (RecordView C S)) → IsConsistent cmp max sets old →
      ((q : C) → new q ≡ record_with_sets cmp (newest_sets max (sets ++ set ∷ [])) (cooldowns q) q (old q)) →
      IsConsistent cmp max (newest_sets max (sets ++ set ∷ [])) new
  taken_consistent max sets set cooldowns old new was is =
      let kept = newest_sets max (sets ++ set ∷ []) in record {
        none_deletable = λ q. subst (λ o. IfSome o (λ r. is_deletable r ≡ false)) (sym (is q))
            (Counting.none_deletable (with_counts (set_count cmp Primary q kept) (set_count cmp Secondary q kept) (unwrap_or (old q) (fresh (cooldowns q)))));
        counts = λ q. (
          ap (λ o. option_map_or (λ r. r.primary_sets) o 0) (is q)
              ∙ Counting.counted_primary (set_count cmp Primary q kept) (set_count cmp Secondary q kept)
              (unwrap_or (old q) (fresh (cooldowns q))),
          ap (λ o. option_map_or (λ r. r.secondary_sets) o 0) (is q)
              ∙ Counting.counted_secondary (set_count cmp Primary q kept) (set_count cmp Secondary q kept)
              (unwrap_or (old q) (fresh (cooldowns q))),
        );
        at_most_max = few_by max (sets ++ set ∷ []) (nat_lt max (length (sets ++ set ∷ []))) refl
            (omega (arith, length-append sets (set ∷ []), was.at_most_max));
        max_positive = was.max_positive;
        max_in_range = was.max_in_range;
      }

  -- other sets leave each status, but for who is inert
  pub status_with_sets : (test : Status → Bool) → test Inert ≡ false →
      (sets : List (SetAt C)) (k : Option Cooldown) (q : C) (o : Option (RecordView C S)) →
      has_status test (record_with_sets cmp sets k q o) ≡ has_status test o
  status_with_sets test idle sets k q None =
      status_unless test idle
      (with_counts (set_count cmp Primary q sets) (set_count cmp Secondary q sets) (fresh k)) ∙ idle
  status_with_sets test idle sets k q (Some r) = status_unless test idle (with_counts (set_count cmp Primary q sets) (set_count cmp Secondary q sets) r)

  -- a set that came and went leaves each record as it was
  pub left_again : (set : SetAt C) (k : Option Cooldown) (q : C) (o : Option (RecordView C S)) →
      AreRolesDisjoint cmp set → ((role : Role) → IsRestored cmp role k o) →
      record_leaving cmp set q (record_joining cmp set k q o) ≡ o
  left_again set k q o disjoint back = go (has_key cmp set.primary q) (has_key cmp set.secondary q) (disjoint q)
    where
      go : (a b : Bool) → (a ≡ true → b ≡ false) →
          (let joined =
          (if b then one_set_more Secondary k (if a then one_set_more Primary k o else o)
          else (if a then one_set_more Primary k o else o)) in
          if b then one_set_less Secondary (if a then one_set_less Primary joined else joined) else (if a then one_set_less Primary joined else joined)) ≡ o
      go true true h = absurd (let f = h refl in cc)
      go true false h = back Primary
      go false true h = back Secondary
      go false false h = refl

  -- A TRACK, from its parts: max2 is the greatest number, made the set, and sets1 the sets with it
  pub record IsTracked (max : ℕ) (sets sets2 : List (SetAt C)) (set : SetAt C) (cooldowns : C → Option Cooldown)
      (old new : C → Option (RecordView C S)) (torn : List C) : Type 0 where
    pub kept : sets2 ≡ last_of max (sets ++ set ∷ [])
    pub consistent : IsConsistent cmp max sets2 new
    pub records : (q : C) → new q ≡ record_with_sets cmp sets2 (cooldowns q) q (old q)
    pub torn_down : (q : C) → has_key cmp torn q ≡ (is_connectable cmp (old q) && not (option_map_or is_eligible (new q) false))

  whole : (max : ℕ) (sets : List (SetAt C)) (set : SetAt C) (cooldowns : C → Option Cooldown) (old mid new : C → Option (RecordView C S)) (torn : List C) →
      IsConsistent cmp max sets old → AreRolesDisjoint cmp set →
      ((q : C) → mid q ≡ record_joining cmp set (cooldowns q) q (old q)) →
      DropsOldest cmp max (sets ++ set ∷ []) mid new torn →
      IsTracked max sets (newest_sets max (sets ++ set ∷ [])) set cooldowns old new torn
  whole max sets set cooldowns old mid new torn was disjoint joins drops = record {
    kept = newest_last max sets set was.at_most_max;
    consistent = taken_consistent max sets set cooldowns old new was (λ q. (taken max sets set cooldowns old mid new torn was disjoint joins drops q).records);
    records = λ q. (taken max sets set cooldowns old mid new torn was disjoint joins drops q).records;
    torn_down = λ q. (taken max sets set cooldowns old mid new torn was disjoint joins drops q).torn_down;
  }

  pub tracked : (max max2 : ℕ) (sets sets1 sets2 : List (SetAt C)) (set made : SetAt C)
      (cooldowns : C → Option Cooldown) (old mid new : C → Option (RecordView C S)) (torn : List C) → max2 ≡ max →
      made ≡ set → sets1 ≡ sets ++ made ∷ [] → sets2 ≡ newest_sets max2 sets1 →
      IsConsistent cmp max sets old → AreRolesDisjoint cmp made →
      ((q : C) → mid q ≡ record_joining cmp made (cooldowns q) q (old q)) →
      DropsOldest cmp max2 sets1 mid new torn →
      IsTracked max sets sets2 set cooldowns old new torn
  tracked max max2 sets sets1 sets2 set made cooldowns old mid new torn same_max is came went was disjoint joins drops =
      let sets_is : sets1 ≡ sets ++ set ∷ [] = came ∙ ap (λ x. sets ++ x ∷ []) is in
      let left : sets2 ≡ newest_sets max (sets ++ set ∷ []) = went ∙ (λ i. newest_sets (same_max i) (sets_is i)) in
      subst (λ xs. IsTracked max sets xs set cooldowns old new torn) (sym left)
      (whole max sets set cooldowns old mid new torn was (subst (AreRolesDisjoint cmp) is disjoint)
      (λ q. joins q ∙ ap (λ x. record_joining cmp x (cooldowns q) q (old q)) is)
      (subst (λ m. DropsOldest cmp m (sets ++ set ∷ []) mid new torn) same_max (subst (λ xs. DropsOldest cmp max2 xs mid new torn) sets_is drops)))

-- who goes once there is one set more goes since there is one too many
surplus_is : {C : Type 0} (max : ℕ) (sets : List (SetAt C)) (set : SetAt C) → 0 < max → length sets ≤ max →
    surplus_count max (sets ++ set ∷ []) ≤ leaving_count max sets
surplus_is max [] set some few = go (nat_lt max 1) refl
  where
    go : (b : Bool) → nat_lt max 1 ≡ b → (if b then length set.primary + length set.secondary else 0) ≤ 0
    go true e = absurd (grind (arith, nat_tests))
    go false e = omega arith
surplus_is max (x ∷ xs) set some few = go (nat_lt max (length (x ∷ (xs ++ set ∷ [])))) refl (length (x ∷ xs) == max) refl
  where
    n : ℕ
    n = length x.primary + length x.secondary

    go : (b : Bool) → nat_lt max (length (x ∷ (xs ++ set ∷ []))) ≡ b → (d : Bool) → (length (x ∷ xs) == max) ≡ d → (if b then n else 0) ≤ (if d then n else 0)
    go true e false f = absurd (grind (arith, nat_tests, length-append xs (set ∷ [])))
    go _ e _ f = omega arith

pub room_left : {C : Type 0} (max max2 room count : ℕ) (sets sets1 : List (SetAt C)) (made : SetAt C) →
    max2 ≡ max → sets1 ≡ sets ++ made ∷ [] → 0 < max → length sets ≤ max → count ≡ leaving_count max2 sets →
    count ≤ room → surplus_count max2 sets1 ≤ room
room_left max max2 room count sets sets1 made same_max came some few counts fits =
    let less = surplus_is max sets made some few in
    let left : surplus_count max2 sets1 ≡ surplus_count max (sets ++ made ∷ []) = (λ i. surplus_count (same_max i) (came i)) in
    let right : count ≡ leaving_count max sets = counts ∙ ap (λ m. leaving_count m sets) same_max in
    omega (arith, less, left, right, fits)
