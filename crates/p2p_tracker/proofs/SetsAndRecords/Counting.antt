-- Records counted for the sets that come and go, at one key.
use Rattle.std.proofs.Common.{◌≡◌, ℕ, ◌+◌, ◌-◌, ◌^◌, ◌<◌, ◌≤◌, min, Bool, true, false, cond, ◌||◌, ◌&&◌, not, nat_lt}
use Rattle.std.proofs.Common.{Option, Some, None, IfSome, sym, ap, refl, ◌∙◌, arith}
use Rattle.std.specs.Prelude.{if◌then◌else◌, unwrap_or}
use Rattle.std.specs.Option.{option_map_or}
use Rattle.std.proofs.lemmas.Bool.{lt-ltb, or_right}
use Rattle.std.proofs.lemmas.Bool.Decides.{nat_tests}
use Rattle.std.proofs.Math.Bool.{or-true, or-false, and-false}
use Rattle.p2p_discovery.proofs.Truth.{and-and_not}
use Rattle.p2p_tracker.specs.declared.record.Role.{Role}
use Rattle.p2p_tracker.specs.declared.record.Role.TheVariants.{Primary, Secondary}
use Rattle.p2p_tracker.specs.Calls.{Cooldown}
use Rattle.p2p_tracker.specs.Status.{is_inert}
use Rattle.p2p_tracker.specs.Record.{fresh, is_myself, is_named_or_persistent, is_eligible, is_deletable, with_counts, unless_deletable}
use Rattle.p2p_tracker.specs.Seen.{RecordView}
use Rattle.p2p_tracker.specs.Private.Counts.{is_torn_down_without, one_set_more, one_set_less}

-- one set, or none
abbrev pub one : Bool → ℕ
one b = cond b 1 0

-- TESTS OF COUNTS

abbrev wanted : ℕ → ℕ → Bool → Bool
wanted p s persistent = nat_lt 0 p || nat_lt 0 s || persistent

-- reserved or connected, and eligible
abbrev connectable : (i m : Bool) (w : Bool) → Bool
connectable i m w = not i && (not m && w)

-- who is in a set is wanted
wanted_primary : (p s : ℕ) (persistent : Bool) → 1 ≤ p → wanted p s persistent ≡ true
wanted_primary p s persistent h = ap (λ b. (b || nat_lt 0 s) || persistent) (lt-ltb 0 p (omega (arith, h)))

wanted_secondary : (p s : ℕ) (persistent : Bool) → 1 ≤ s → wanted p s persistent ≡ true
wanted_secondary p s persistent h =
    ap (λ b. b || persistent) (or_right (nat_lt 0 p) (nat_lt 0 s) (lt-ltb 0 s (omega (arith, h))))

-- with and without the sets that come, the same are torn down by one that goes
by_counts : (a b c d persistent : Bool) (p s : ℕ) → one a ≤ p → one b ≤ s → wanted p s persistent ≡ false →
    wanted (p + one c - one a) (s + one d - one b) persistent ≡ wanted (p + one c) (s + one d) persistent
by_counts true b c d persistent p s la lb e = absurd (let f = sym (wanted_primary p s persistent la) ∙ e in cc)
by_counts false true c d persistent p s la lb e = absurd (let f = sym (wanted_secondary p s persistent lb) ∙ e in cc)
by_counts false false c d persistent p s la lb e = λ i. wanted (zero_off (p + one c) i) (zero_off (s + one d) i) persistent
  where
    zero_off : (n : ℕ) → n - 0 ≡ n
    zero_off n = omega arith

wanted_more : (c d persistent : Bool) (p s : ℕ) → wanted p s persistent ≡ true → wanted (p + one c) (s + one d) persistent ≡ true
wanted_more c d true p s e = or-true (nat_lt 0 (p + one c) || nat_lt 0 (s + one d))
wanted_more true d false p s e = wanted_primary (p + 1) (s + one d) false (omega arith)
wanted_more false true false p s e = wanted_secondary (p + 0) (s + 1) false (omega arith)
wanted_more false false false p s e = (λ i. wanted (sym (zero_on p) i) (sym (zero_on s) i) false) ∙ e
  where
    zero_on : (n : ℕ) → n ≡ n + 0
    zero_on n = omega arith

pub torn_same : (a b c d i m persistent : Bool) (p s : ℕ) → one a ≤ p → one b ≤ s →
    (connectable i m (wanted (p + one c) (s + one d) persistent) && not (not m && wanted (p + one c - one a) (s + one d - one b) persistent))
    ≡ (connectable i m (wanted p s persistent) && not (not m && wanted (p + one c - one a) (s + one d - one b) persistent))
torn_same a b c d i m persistent p s la lb = go (wanted p s persistent) refl
  where
    new : Bool
    new = wanted (p + one c - one a) (s + one d - one b) persistent

    none : (i m w : Bool) → (connectable i m w && not (not m && w)) ≡ (connectable i m false && not (not m && w))
    none true m w = refl
    none false true w = refl
    none false false true = refl
    none false false false = refl

    go : (w : Bool) → wanted p s persistent ≡ w →
        (connectable i m (wanted (p + one c) (s + one d) persistent) && not (not m && new)) ≡ (connectable i m w && not (not m && new))
    go true e = ap (λ w. connectable i m w && not (not m && new)) (wanted_more c d persistent p s e)
    go false e =
        let same = by_counts a b c d persistent p s la lb e in
        (λ j. connectable i m (wanted (p + one c) (s + one d) persistent) && not (not m && same j))
        ∙ none i m (wanted (p + one c) (s + one d) persistent)
        ∙ (λ j. connectable i m false && not (not m && sym same j))

uncapped : (n : ℕ) → n < 2 ^ 64 - 1 → min (n + 1) (2 ^ 64 - 1) ≡ n + 1
uncapped n h = omega (arith, h)

plus_none : (n : ℕ) → n ≡ n + 0
plus_none n = omega arith

minus_none : (n : ℕ) → n ≡ n - 0
minus_none n = omega arith

and_last : (x y : Bool) → false ≡ (x && (y && false))
and_last true true = refl
and_last _ _ = refl

unwanted : (w i : Bool) → (not w && i) ≡ true → false ≡ w
unwanted true i e = absurd (cc)
unwanted false i e = refl

counted_by : (w i : Bool) (n : ℕ) → (not w && i) ≡ true → (nat_lt 0 n ≡ true → w ≡ true) → 0 ≡ n
counted_by w i n e h = go (nat_lt 0 n) refl
  where
    go : (b : Bool) → nat_lt 0 n ≡ b → 0 ≡ n
    go true f = absurd (let x = unwanted w i e ∙ h f in cc)
    go false f = grind (arith, nat_tests)

module _ {C S : Type 0} where
  -- what is kept of a peer with these counts
  abbrev pub at_counts : ℕ → ℕ → RecordView C S → Option (RecordView C S)
  at_counts p s r = unless_deletable (with_counts p s r)

  stays : (r : RecordView C S) → is_named_or_persistent r ≡ true → unless_deletable r ≡ Some r
  stays r e = ap (λ w. if not w && is_inert r.status then None else Some r) e

  -- who is in a set has a record
  pub stays_primary : (p s : ℕ) (r : RecordView C S) → 1 ≤ p → at_counts p s r ≡ Some (with_counts p s r)
  stays_primary p s r h = stays (with_counts p s r) (wanted_primary p s r.persistent h)

  stays_secondary : (p s : ℕ) (r : RecordView C S) → 1 ≤ s → at_counts p s r ≡ Some (with_counts p s r)
  stays_secondary p s r h = stays (with_counts p s r) (wanted_secondary p s r.persistent h)

  -- what is kept has its counts
  pub at_its_counts : (k : Option Cooldown) (o : Option (RecordView C S)) (p s : ℕ) →
      option_map_or (λ r. r.primary_sets) o 0 ≡ p → option_map_or (λ r. r.secondary_sets) o 0 ≡ s →
      IfSome o (λ r. is_deletable r ≡ false) → o ≡ at_counts p s (unwrap_or o (fresh k))
  at_its_counts k None p s e f h = λ i. at_counts (e i) (f i) (fresh k)
  at_its_counts k (Some r) p s e f h = sym (ap (λ b. if b then None else Some r) h) ∙ (λ i. at_counts (e i) (f i) r)

  base_primary : (k : Option Cooldown) (o : Option (RecordView C S)) → (unwrap_or o (fresh k)).primary_sets ≡ option_map_or (λ r. r.primary_sets) o 0
  base_primary k None = refl
  base_primary k (Some r) = refl

  base_secondary : (k : Option Cooldown) (o : Option (RecordView C S)) → (unwrap_or o (fresh k)).secondary_sets ≡ option_map_or (λ r. r.secondary_sets) o 0
  base_secondary k None = refl
  base_secondary k (Some r) = refl

  more_primary : (k : Option Cooldown) (o : Option (RecordView C S)) (p s : ℕ) →
      (unwrap_or o (fresh k)).primary_sets ≡ p → (unwrap_or o (fresh k)).secondary_sets ≡ s → p < 2 ^ 64 - 1 →
      one_set_more Primary k o ≡ at_counts (p + 1) s (unwrap_or o (fresh k))
  more_primary k o p s e f h =
      (λ i. Some (with_counts (min (e i + 1) (2 ^ 64 - 1)) (f i) (unwrap_or o (fresh k))))
      ∙ ap (λ n. Some (with_counts n s (unwrap_or o (fresh k)))) (uncapped p h)
      ∙ sym (stays_primary (p + 1) s (unwrap_or o (fresh k)) (omega arith))

  more_secondary : (k : Option Cooldown) (o : Option (RecordView C S)) (p s : ℕ) →
      (unwrap_or o (fresh k)).primary_sets ≡ p → (unwrap_or o (fresh k)).secondary_sets ≡ s → s < 2 ^ 64 - 1 →
      one_set_more Secondary k o ≡ at_counts p (s + 1) (unwrap_or o (fresh k))
  more_secondary k o p s e f h =
      (λ i. Some (with_counts (e i) (min (f i + 1) (2 ^ 64 - 1)) (unwrap_or o (fresh k))))
      ∙ ap (λ n. Some (with_counts p n (unwrap_or o (fresh k)))) (uncapped s h)
      ∙ sym (stays_secondary p (s + 1) (unwrap_or o (fresh k)) (omega arith))

  -- a set that comes, with the peer as a primary (a) or secondary one (c)
  pub joined : (k : Option Cooldown) (a c : Bool) → (a ≡ true → c ≡ false) → (o : Option (RecordView C S)) (p s : ℕ) →
      option_map_or (λ r. r.primary_sets) o 0 ≡ p → option_map_or (λ r. r.secondary_sets) o 0 ≡ s →
      IfSome o (λ r. is_deletable r ≡ false) → p < 2 ^ 64 - 1 → s < 2 ^ 64 - 1 →
      (if c then one_set_more Secondary k (if a then one_set_more Primary k o else o) else (if a then one_set_more Primary k o else o))
      ≡ at_counts (p + one a) (s + one c) (unwrap_or o (fresh k))
  joined k true true disjoint o p s e f h hp hs = absurd (let x = disjoint refl in cc)
  joined k true false disjoint o p s e f h hp hs =
      more_primary k o p s (base_primary k o ∙ e) (base_secondary k o ∙ f) hp ∙ (λ i. at_counts (p + 1) (plus_none s i) (unwrap_or o (fresh k)))
  joined k false true disjoint o p s e f h hp hs =
      more_secondary k o p s (base_primary k o ∙ e) (base_secondary k o ∙ f) hs ∙ (λ i. at_counts (plus_none p i) (s + 1) (unwrap_or o (fresh k)))
  joined k false false disjoint o p s e f h hp hs =
      at_its_counts k o p s e f h ∙ (λ i. at_counts (plus_none p i) (plus_none s i) (unwrap_or o (fresh k)))

  -- a set that goes
  pub left : (a c : Bool) → (a ≡ true → c ≡ false) → (p s : ℕ) (r : RecordView C S) → one a ≤ p → one c ≤ s →
      (let o = at_counts p s r in if c then one_set_less Secondary (if a then one_set_less Primary o else o) else (if a then one_set_less Primary o else o))
      ≡ at_counts (p - one a) (s - one c) r
  left true true disjoint p s r la lc = absurd (let x = disjoint refl in cc)
  left true false disjoint p s r la lc = ap (one_set_less Primary) (stays_primary p s r la) ∙ (λ i. at_counts (p - 1) (minus_none s i) r)
  left false true disjoint p s r la lc = ap (one_set_less Secondary) (stays_secondary p s r lc) ∙ (λ i. at_counts (minus_none p i) (s - 1) r)
  left false false disjoint p s r la lc = λ i. at_counts (minus_none p i) (minus_none s i) r

  -- TESTS OF WHAT IS KEPT

  pub connectable_kept : (r : RecordView C S) →
      option_map_or (λ x. not (is_inert x.status) && is_eligible x) (unless_deletable r) false
      ≡ (not (is_inert r.status) && is_eligible r)
  connectable_kept r = go (is_deletable r) refl
    where
      go : (b : Bool) → is_deletable r ≡ b →
          option_map_or (λ x. not (is_inert x.status) && is_eligible x) (if b then None else Some r) false
          ≡ (not (is_inert r.status) && is_eligible r)
      go true e = and_last (not (is_inert r.status)) (not (is_myself r.address))
          ∙ (λ i. not (is_inert r.status) &&
          (not (is_myself r.address) && unwanted (is_named_or_persistent r) (is_inert r.status) e i))
      go false e = refl

  pub eligible_kept : (r : RecordView C S) → option_map_or is_eligible (unless_deletable r) false ≡ is_eligible r
  eligible_kept r = go (is_deletable r) refl
    where
      go : (b : Bool) → is_deletable r ≡ b → option_map_or is_eligible (if b then None else Some r) false ≡ is_eligible r
      go true e = sym (and-false (not (is_myself r.address))) ∙ (λ i. not (is_myself r.address) && unwanted (is_named_or_persistent r) (is_inert r.status) e i)
      go false e = refl

  -- (a name that does not unfold by itself)
  abbrev pub torn_without : Role → RecordView C S → Bool
  torn_without role r = is_torn_down_without role r

  -- who is torn down by a set that goes
  pub torn_left : (a c : Bool) → (a ≡ true → c ≡ false) → (p s : ℕ) (r : RecordView C S) → one a ≤ p → one c ≤ s →
      ((a && option_map_or (is_torn_down_without Primary) (at_counts p s r) false) ||
      (c && option_map_or (is_torn_down_without Secondary) (at_counts p s r) false))
      ≡ ((not (is_inert r.status) && is_eligible (with_counts p s r)) && not (is_eligible (with_counts (p - one a) (s - one c) r)))
  unfolding is_torn_down_without
  torn_left true true disjoint p s r la lc = absurd (let x = disjoint refl in cc)
  torn_left true false disjoint p s r la lc =
      (λ i. or-false (option_map_or (is_torn_down_without Primary) (stays_primary p s r la i) false) i)
      ∙ (λ i. (not (is_inert r.status) && is_eligible (with_counts p s r)) && not (is_eligible (with_counts (p - 1) (minus_none s i) r)))
  torn_left false true disjoint p s r la lc =
      (λ i. option_map_or (is_torn_down_without Secondary) (stays_secondary p s r lc i) false)
      ∙ (λ i. (not (is_inert r.status) && is_eligible (with_counts p s r)) && not (is_eligible (with_counts (minus_none p i) (s - 1) r)))
  torn_left false false disjoint p s r la lc =
      and-and_not (not (is_inert r.status)) (is_eligible (with_counts p s r))
      ∙ (λ i. (not (is_inert r.status) && is_eligible (with_counts p s r)) && not (is_eligible (with_counts (minus_none p i) (minus_none s i) r)))

  -- WHAT HOLDS OF WHAT IS KEPT

  pub counted_primary : (p s : ℕ) (r : RecordView C S) → option_map_or (λ x. x.primary_sets) (at_counts p s r) 0 ≡ p
  counted_primary p s r = go (is_deletable (with_counts p s r)) refl
    where
      go : (b : Bool) → is_deletable (with_counts p s r) ≡ b → option_map_or (λ x. x.primary_sets) (if b then None else Some (with_counts p s r)) 0 ≡ p
      go true e = counted_by (wanted p s r.persistent) (is_inert r.status) p e (λ f. ap (λ b. (b || nat_lt 0 s) || r.persistent) f)
      go false e = refl

  pub counted_secondary : (p s : ℕ) (r : RecordView C S) → option_map_or (λ x. x.secondary_sets) (at_counts p s r) 0 ≡ s
  counted_secondary p s r = go (is_deletable (with_counts p s r)) refl
    where
      go : (b : Bool) → is_deletable (with_counts p s r) ≡ b → option_map_or (λ x. x.secondary_sets) (if b then None else Some (with_counts p s r)) 0 ≡ s
      go true e = counted_by (wanted p s r.persistent) (is_inert r.status) s e (λ f. ap (λ b. b || r.persistent) (or_right (nat_lt 0 p) (nat_lt 0 s) f))
      go false e = refl

  pub none_deletable : (r : RecordView C S) → IfSome (unless_deletable r) (λ x. is_deletable x ≡ false)
  none_deletable r = go (is_deletable r) refl
    where
      go : (b : Bool) → is_deletable r ≡ b → IfSome (if b then None else Some r) (λ x. is_deletable x ≡ false)
      go true e = tt
      go false e = e

  -- one set more and then less
  pub restored : (k : Option Cooldown) (role : Role) (o : Option (RecordView C S)) (p s : ℕ) →
      option_map_or (λ r. r.primary_sets) o 0 ≡ p → option_map_or (λ r. r.secondary_sets) o 0 ≡ s →
      IfSome o (λ r. is_deletable r ≡ false) → p < 2 ^ 64 - 1 → s < 2 ^ 64 - 1 → one_set_less role (one_set_more role k o) ≡ o
  restored k Primary o p s e f h hp hs =
      ap (one_set_less Primary) (more_primary k o p s (base_primary k o ∙ e) (base_secondary k o ∙ f) hp)
      ∙ ap (one_set_less Primary) (stays_primary (p + 1) s (unwrap_or o (fresh k)) (omega arith))
      ∙ (λ i. at_counts (less p i) s (unwrap_or o (fresh k)))
      ∙ sym (at_its_counts k o p s e f h)
    where
      less : (n : ℕ) → n + 1 - 1 ≡ n
      less n = omega arith
  restored k Secondary o p s e f h hp hs =
      ap (one_set_less Secondary) (more_secondary k o p s (base_primary k o ∙ e) (base_secondary k o ∙ f) hs)
      ∙ ap (one_set_less Secondary) (stays_secondary p (s + 1) (unwrap_or o (fresh k)) (omega arith))
      ∙ (λ i. at_counts p (less s i) (unwrap_or o (fresh k)))
      ∙ sym (at_its_counts k o p s e f h)
    where
      less : (n : ℕ) → n + 1 - 1 ≡ n
      less n = omega arith
