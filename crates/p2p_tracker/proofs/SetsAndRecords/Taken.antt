-- What holds between calls, after a set was taken: bits, counts, and whose record is the own one.
use Rattle.std.proofs.Common.{◌≡◌, ℕ, ◌+◌, ◌≤◌, Bool, true, false, ◌||◌, ◌&&◌, not, List, [], ◌∷◌, ◌++◌, map, drop}
use Rattle.std.proofs.Common.{length, Option, Some, None, IfSome, sym, ap, subst, refl, ◌∙◌, arith}
use Rattle.std.specs.Prelude.{if◌then◌else◌, unwrap_or, nat_lt}
use Rattle.std.specs.declared.cmp.Ordering.{Ordering}
use Rattle.std.specs.Cmp.{IsTotalOrder}
use Rattle.std.specs.Ordering.{is_eq}
use Rattle.std.specs.Option.{option_map_or}
use Rattle.std.specs.BTreeMap.{is_at}
use Rattle.std.proofs.lemmas.Cmp.{tied_itself}
use Rattle.std.proofs.lemmas.List.{map-append, length-map, drop-map}
use Rattle.std.proofs.Math.Bool.{or-true}
use Rattle.p2p_tracker.specs.declared.record.Role.TheVariants.{Primary, Secondary}
use Rattle.p2p_tracker.specs.Calls.{SetAt, Cooldown}
use Rattle.p2p_tracker.specs.Lists.{last_of}
use Rattle.p2p_tracker.specs.Record.{fresh, is_myself, is_eligible, with_counts}
use Rattle.p2p_tracker.specs.Seen.{RecordView}
use Rattle.p2p_tracker.specs.PeerSets.{set_count, AreRolesDisjoint}
use Rattle.p2p_discovery.specs.Ordered.{has_key}
use Rattle.p2p_tracker.specs.Directory.{is_known, record_with_sets, is_connectable}
use Rattle.p2p_tracker.specs.Private.Window.{SetWithBits, plain_set, plain_sets, set_with_bits, sets_with_bits}
use Rattle.p2p_tracker.specs.Private.Counts.{newest_sets, record_joining, DropsOldest, HasOwn, IsInvariant}
use Rattle.p2p_tracker.proofs.SetsAndRecords.Counting.{one, stays_primary}
use Rattle.p2p_tracker.proofs.SetsAndRecords.Consistent.{count_cons, tracked, IsTracked}
use Rattle.p2p_tracker.proofs.SetsAndRecords.Changes.{IsSound, own_unless, sound_unless}
use Rattle.p2p_tracker.proofs.SetsAndRecords.Windows.{plain_again}

-- the newest of lists whose values changed
newest_map : {A B : Type 0} (f : A → B) (max : ℕ) (xs : List A) → map f (newest_sets max xs) ≡ newest_sets max (map f xs)
newest_map f max xs = go (nat_lt max (length xs)) ∙ ap (λ n. if nat_lt max n then drop 1 (map f xs) else map f xs) (sym (length-map xs f))
  where
    go : (b : Bool) → map f (if b then drop 1 xs else xs) ≡ (if b then drop 1 (map f xs) else map f xs)
    go true = sym (drop-map f 1 xs)
    go false = refl

module _ {C : Type 0} {cmp : C → C → Ordering} (total : IsTotalOrder cmp) where
  -- two tests that agree on peers give them the same bits
  same_peers : (f g : C → Bool) (peers : List C) → ((q : C) → has_key cmp peers q ≡ true → f q ≡ g q) →
      map {B = C × Bool} (λ q. (q, f q)) peers ≡ map {B = C × Bool} (λ q. (q, g q)) peers
  same_peers f g [] same = refl
  same_peers f g (p ∷ peers) same =
      let first : f p ≡ g p = same p (ap (λ b. b || has_key cmp peers p) (ap is_eq (tied_itself total p))) in
      ap (λ (b : Bool). (p, b) ∷ map {B = C × Bool} (λ q. (q, f q)) peers) first
      ∙ ap (λ (es : List (C × Bool)). (p, g p) ∷ es) (same_peers f g peers (λ q h. same q (ap (λ b. is_at (cmp p) q || b) h ∙ or-true (is_at (cmp p) q))))

  -- .. on those of sets
  same_bits : (f g : C → Bool) (sets : List (SetAt C)) → ((q : C) → 1 ≤ set_count cmp Primary q sets → f q ≡ g q) →
      sets_with_bits f sets ≡ sets_with_bits g sets
  same_bits f g [] same = refl
  same_bits f g (x ∷ sets) same =
      let counted : (q : C) →
      set_count cmp Primary q (x ∷ sets) ≡ one (has_key cmp x.primary q) + set_count cmp Primary q sets =
      λ q. count_cons (λ (y : SetAt C). has_key cmp y.primary q) x sets in
      let first = same_peers f g x.primary (λ q h. same q (let n = counted q ∙ ap (λ b. one b + set_count cmp Primary q sets) h in omega (arith, n))) in
      let rest = same_bits f g sets (λ q low. same q (let n = counted q in omega (arith, n, low))) in
      λ i. record { index = x.index; primary = first i; secondary = x.secondary } ∷ rest i

module _ {C S : Type 0} (cmp : C → C → Ordering) where
  -- who is primary in one of the sets is known as before
  known_with_sets : (limit : ℕ) (sets : List (SetAt C)) (k : Option Cooldown) (q : C)
      (o : Option (RecordView C S)) → 1 ≤ set_count cmp Primary q sets →
      is_known limit (record_with_sets cmp sets k q o) ≡ is_known limit o
  known_with_sets limit sets k q o low =
      ap (is_known limit)
      (stays_primary (set_count cmp Primary q sets) (set_count cmp Secondary q sets) (unwrap_or o (fresh k)) low)
      ∙ go o
    where
      go : (o : Option (RecordView C S)) →
          is_known limit
          (Some (with_counts (set_count cmp Primary q sets) (set_count cmp Secondary q sets)
          (unwrap_or o (fresh k)))) ≡ is_known limit o
      go None = refl
      go (Some r) = refl

  own_with_sets : {me : C} (sets : List (SetAt C)) (cooldowns : C → Option Cooldown)
      (old new : C → Option (RecordView C S)) → HasOwn cmp me old →
      ((q : C) → new q ≡ record_with_sets cmp sets (cooldowns q) q (old q)) → HasOwn cmp me new
  own_with_sets sets cooldowns old new was is = record {
    is_own = λ q. ap (λ o. option_map_or (λ r. is_myself r.address) o false) (is q)
        ∙ own_unless (counted q (old q)) (lasts q (old q) (was.persists q)) ∙ before q (old q) ∙ was.is_own q;
    persists = λ q. subst (λ o. IfSome o (λ r. is_myself r.address ≡ true → r.persistent ≡ true)) (sym (is q))
        (persists (record_with_sets cmp sets (cooldowns q) q (old q))
        (sound_unless (counted q (old q)) (lasts q (old q) (was.persists q))));
  }
    where
      counted : C → Option (RecordView C S) → RecordView C S
      counted q o = with_counts (set_count cmp Primary q sets) (set_count cmp Secondary q sets) (unwrap_or o (fresh (cooldowns q)))

      lasts : (q : C) (o : Option (RecordView C S)) →
          IfSome o (λ r. is_myself r.address ≡ true → r.persistent ≡ true) →
          is_myself (unwrap_or o (fresh (cooldowns q))).address ≡ true →
          (unwrap_or o (fresh (cooldowns q))).persistent ≡ true
      lasts q None h e = absurd cc
      lasts q (Some r) h e = h e

      before : (q : C) (o : Option (RecordView C S)) → is_myself (unwrap_or o (fresh (cooldowns q))).address ≡ option_map_or (λ r. is_myself r.address) o false
      before q None = refl
      before q (Some r) = refl

      persists : (o : Option (RecordView C S)) → IsSound o → IfSome o (λ r. is_myself r.address ≡ true → r.persistent ≡ true)
      persists None sound = tt
      persists (Some r) sound = sound.1

  -- A TRACK, from its parts: made is the set with no bit, window1 the sets with it
  pub record IsTaken (max limit : ℕ) (me : C) (window window2 : List (SetWithBits C)) (set : SetAt C)
      (cooldowns : C → Option Cooldown) (old new : C → Option (RecordView C S)) (torn : List C) : Type 0 where
    pub invariant : IsInvariant cmp max limit me window2 new
    pub kept : plain_sets window2 ≡ last_of max (plain_sets window ++ set ∷ [])
    pub records : (q : C) → new q ≡ record_with_sets cmp (plain_sets window2) (cooldowns q) q (old q)
    pub torn_down : (q : C) → has_key cmp torn q ≡ (is_connectable cmp (old q) && not (option_map_or is_eligible (new q) false))

  pub taken_window : {me : C} → IsTotalOrder cmp →
      (max max2 limit : ℕ) (window window1 window2 : List (SetWithBits C)) (set : SetAt C) (made : SetWithBits C)
      (cooldowns : C → Option Cooldown) (old mid new : C → Option (RecordView C S)) (torn : List C) →
      max2 ≡ max → made ≡ set_with_bits (λ q. false) set →
      window1 ≡ window ++ set_with_bits (λ q. is_known limit (old q)) (plain_set made) ∷ [] →
      window2 ≡ newest_sets max2 window1 →
      IsInvariant cmp max limit me window old → AreRolesDisjoint cmp (plain_set made) →
      ((q : C) → mid q ≡ record_joining cmp (plain_set made) (cooldowns q) q (old q)) →
      DropsOldest cmp max2 (plain_sets window1) mid new torn →
      IsTaken max limit me window window2 set cooldowns old new torn
  taken_window total max max2 limit window window1 window2 set made cooldowns old mid new torn same_max is came went was disjoint joins drops = record {
    invariant = record {
      counts = whole.consistent;
      own = own_with_sets (plain_sets window2) cooldowns old new was.own whole.records;
      bits = marked2 ∙ same_bits total known (λ q. is_known limit (new q)) (plain_sets window2)
          (λ q low. sym
          (ap (is_known limit) (whole.records q) ∙ known_with_sets limit (plain_sets window2) (cooldowns q) q
          (old q) low));
    };
    kept = whole.kept;
    records = whole.records;
    torn_down = whole.torn_down;
  }
    where
      known : C → Bool
      known q = is_known limit (old q)

      plain1 : plain_sets window1 ≡ plain_sets window ++ plain_set made ∷ []
      plain1 = ap plain_sets came ∙ map-append plain_set window (set_with_bits known (plain_set made) ∷ [])
          ∙ ap (λ x. plain_sets window ++ x ∷ []) (plain_again known (plain_set made))

      plain2 : plain_sets window2 ≡ newest_sets max2 (plain_sets window1)
      plain2 = ap plain_sets went ∙ newest_map plain_set max2 window1

      whole : IsTracked cmp max (plain_sets window) (plain_sets window2) set cooldowns old new torn
      whole =
          tracked cmp max max2 (plain_sets window) (plain_sets window1) (plain_sets window2) set (plain_set made)
          cooldowns old mid new torn same_max (ap plain_set is ∙ plain_again (λ q. false) set) plain1 plain2
          was.counts disjoint joins drops

      marked1 : window1 ≡ sets_with_bits known (plain_sets window1)
      marked1 =
          came ∙ ap (λ w. w ++ set_with_bits known (plain_set made) ∷ []) was.bits
          ∙ sym (map-append (set_with_bits known) (plain_sets window) (plain_set made ∷ []))
          ∙ ap (sets_with_bits known) (sym plain1)

      marked2 : window2 ≡ sets_with_bits known (plain_sets window2)
      marked2 = went ∙ ap (newest_sets max2) marked1 ∙ sym (newest_map (set_with_bits known) max2 (plain_sets window1)) ∙ ap (sets_with_bits known) (sym plain2)
