-- What holds between calls, after the record of one peer changed, and after a set was taken.
use Rattle.std.proofs.Common.{◌≡◌, ℕ, Bool, true, false, ◌||◌, ◌&&◌, not, List, [], ◌∷◌, ◌++◌, map, Option, Some, None, IfSome, sym, ap, subst, refl, ◌∙◌}
use Rattle.std.specs.Prelude.{if◌then◌else◌, nat_lt, nat_le}
use Rattle.std.specs.declared.cmp.Ordering.{Ordering}
use Rattle.std.specs.Option.{option_map, option_map_or, option_and_then}
use Rattle.std.proofs.lemmas.Bool.{and_parts, and_from, or_right}
use Rattle.std.specs.BTreeMap.{is_at}
use Rattle.std.proofs.lemmas.List.{append-nil}
use Rattle.std.proofs.lemmas.Map.Lookups.{CmpEqualImpliesEq}
use Rattle.std.proofs.lemmas.Map.Views.{tells_apart}
use Rattle.std.proofs.Math.Bool.{and-false}
use Rattle.p2p_discovery.specs.declared.discovery.Info.{Info}
use Rattle.p2p_discovery.specs.declared.types.ingress.Ingress.{Ingress}
use Rattle.p2p_tracker.specs.declared.directory.Metadata.{Metadata}
use Rattle.p2p_tracker.specs.declared.directory.Metadata.TheVariants.{Dialer, Listener}
use Rattle.p2p_tracker.specs.declared.record.Address.{Address}
use Rattle.p2p_tracker.specs.declared.record.Address.TheVariants.{Unknown, Myself, Bootstrapper, Discovered}
use Rattle.p2p_tracker.specs.declared.record.Status.{Status}
use Rattle.p2p_tracker.specs.declared.record.Status.TheVariants.{Inert, Reserved, Active}
use Rattle.p2p_tracker.specs.declared.record.dialing.ReserveResult.TheVariants as answer
use Rattle.p2p_tracker.specs.Calls.{SetAt, Cooldown}
use Rattle.p2p_tracker.specs.Lists.{first_greatest}
use Rattle.p2p_tracker.specs.Record.{is_myself, is_named_or_persistent, is_outbound_target, is_dial_candidate}
use Rattle.p2p_tracker.specs.Record.{has_valid_ingress, ingress_of, may_be_dialled, reserve_answer, is_eligible}
use Rattle.p2p_tracker.specs.Record.{is_grant, may_come, wants_by, is_deletable, reserved_record, unless_deletable}
use Rattle.p2p_tracker.specs.Record.{after_failure, after_success, address_after_update, address_after_offer}
use Rattle.p2p_tracker.specs.Seen.{RecordView, ConfigView, DirectoryView}
use Rattle.p2p_tracker.specs.Status.{is_active, is_inert}
use Rattle.p2p_tracker.specs.Directory.{ChangesAt, ChangesRecord}
use Rattle.p2p_tracker.specs.Directory.{is_known, released_record, address_after_release, kept_after_release, connected_record, updated_record}
use Rattle.p2p_tracker.specs.Private.Window.{SetWithBits, plain_sets, sets_with_bits, bits_with, with_bit_of}
use Rattle.p2p_tracker.specs.Private.Dialling.{granted_of}
use Rattle.p2p_tracker.specs.Private.Counts.{IsConsistent, HasOwn, AreMarked, IsInvariant}
use Rattle.p2p_tracker.proofs.SetsAndRecords.Counting
use Rattle.p2p_tracker.proofs.SetsAndRecords.Counting.{one}
use Rattle.p2p_tracker.proofs.SetsAndRecords.Infos.{address_after-one_more}
use Rattle.p2p_tracker.proofs.SetsAndRecords.Windows.{plain_with_bit}

-- ONE RECORD

module _ {C S : Type 0} where
  -- a record that stands between calls: it isn't deletable, and persists where it is the own one
  abbrev pub IsSound : Option (RecordView C S) → Type 0
  IsSound o = IfSome o (λ r. (is_deletable r ≡ false) × (is_myself r.address ≡ true → r.persistent ≡ true))

  -- counts stay, and whose record it is
  pub record IsKept (o o2 : Option (RecordView C S)) : Type 0 where
    pub sound : IsSound o2
    pub primary : option_map_or (λ r. r.primary_sets) o2 0 ≡ option_map_or (λ r. r.primary_sets) o 0
    pub secondary : option_map_or (λ r. r.secondary_sets) o2 0 ≡ option_map_or (λ r. r.secondary_sets) o 0
    pub own : option_map_or (λ r. is_myself r.address) o2 false ≡ option_map_or (λ r. is_myself r.address) o false

  pub kept_same : (o : Option (RecordView C S)) → IsSound o → IsKept o o
  kept_same o sound = record { sound = sound; primary = refl; secondary = refl; own = refl }

  pub kept_reserved : (now draw cooldown : ℕ) (o : Option (RecordView C S)) → IsSound o → IsKept o (option_map (reserved_record now draw cooldown) o)
  kept_reserved now draw cooldown None sound = kept_same None sound
  kept_reserved now draw cooldown (Some r) sound = record { sound = (and-false (not (is_named_or_persistent r)), sound.1); primary = refl; secondary = refl; own = refl }

  success_own : (dialer : Bool) (a : Address C S) → is_myself (if dialer then after_success a else a) ≡ is_myself a
  success_own false a = refl
  success_own true Unknown = refl
  success_own true (Myself own) = refl
  success_own true (Bootstrapper ingress) = refl
  success_own true (Discovered info fails) = refl

  pub kept_connected : (dialer : Bool) (o : Option (RecordView C S)) → IsSound o → IsKept o (option_map (connected_record dialer) o)
  kept_connected dialer None sound = kept_same None sound
  kept_connected dialer (Some r) sound = record {
    sound = (and-false (not (is_named_or_persistent r)), λ own. sound.1 (sym (success_own dialer r.address) ∙ own));
    primary = refl;
    secondary = refl;
    own = success_own dialer r.address;
  }

  update_own : (info : Info C S) (a : Address C S) → is_myself (address_after_update info a) ≡ is_myself a
  update_own info (Discovered known fails) = go (nat_lt known.timestamp info.timestamp)
    where
      go : (b : Bool) → is_myself (if b then Discovered info 0 else Discovered known fails) ≡ false
      go true = refl
      go false = refl
  update_own info _ = refl

  infos_own : (o : Option (Info C S)) (a : Address C S) → is_myself (address_after_offer o a) ≡ is_myself a
  infos_own None a = refl
  infos_own (Some info) a = update_own info a

  pub kept_updated : (infos : List (Info C S)) (o : Option (RecordView C S)) → IsSound o → IsKept o (option_map (updated_record infos) o)
  kept_updated infos None sound = kept_same None sound
  kept_updated infos (Some r) sound = record {
    sound = (sound.0, λ own. sound.1 (sym (infos_own (first_greatest infos) r.address) ∙ own));
    primary = refl;
    secondary = refl;
    own = infos_own (first_greatest infos) r.address;
  }

  -- who may come is inert
  pub may_come_inert : (now : ℕ) (r : RecordView C S) → may_come now r ≡ true → is_inert r.status ≡ true
  may_come_inert now r can = go (is_eligible r) (is_myself r.address) (is_inert r.status) (nat_lt now r.next_reservable_at) can
    where
      go : (eligible own inert late : Bool) →
          (eligible && is_grant (if own || not inert then answer.Unavailable else if late then answer.RateLimited else answer.Reserved)) ≡ true → inert ≡ true
      go eligible own true late e = refl
      go true true false late e = absurd cc
      go true false false late e = absurd cc
      go false own false late e = absurd cc

  -- who is reserved is wanted as before
  known_reserved : (limit now draw cooldown : ℕ) (o : Option (RecordView C S)) →
      option_map_or (may_come now) o false ≡ true →
      is_known limit (option_map (reserved_record now draw cooldown) o) ≡ is_known limit o
  known_reserved limit now draw cooldown None can = refl
  known_reserved limit now draw cooldown (Some r) can = ap not (wants r.address (idle r.status (may_come_inert now r can)))
    where
      idle : (status : Status) → is_inert status ≡ true → is_active status ≡ false
      idle Inert e = refl
      idle Reserved e = refl
      idle Active e = absurd cc

      wants : (a : Address C S) → is_active r.status ≡ false → wants_by limit Reserved a ≡ wants_by limit r.status a
      wants (Discovered info fails) e = ap (λ b. not b && nat_le limit fails) (sym e)
      wants _ e = refl

  -- one more info is offered after those before, where it is of the record's peer
  pub updated_more : (here : Bool) (infos : List (Info C S)) (i : Info C S)
      (old now new : Option (RecordView C S)) → now ≡ option_map (updated_record infos) old →
      new ≡ (if here then option_map (updated_record (i ∷ [])) now else now) → new ≡ option_map (updated_record (infos ++ (if here then i ∷ [] else []))) old
  updated_more false infos i old now new before one = one ∙ before ∙ ap (λ is. option_map (updated_record is) old) (sym (append-nil infos))
  updated_more true infos i None now new before one = one ∙ ap (option_map (updated_record (i ∷ []))) before
  updated_more true infos i (Some r) now new before one =
      one ∙ ap (option_map (updated_record (i ∷ []))) before ∙ (λ k. Some (record r { address = sym (address_after-one_more infos i r.address) k }))

  -- WHAT GOES

  -- the own record doesn't go
  pub own_unless : (r : RecordView C S) → (is_myself r.address ≡ true → r.persistent ≡ true) →
      option_map_or (λ x. is_myself x.address) (unless_deletable r) false ≡ is_myself r.address
  own_unless r persists = go (is_deletable r) (is_myself r.address) refl refl
    where
      wanted : (p s : Bool) (persistent : Bool) → persistent ≡ true → ((p || s) || persistent) ≡ true
      wanted p s persistent e = or_right (p || s) persistent e

      lasting : is_myself r.address ≡ true → is_deletable r ≡ false
      lasting own = ap (λ b. not b && is_inert r.status) (wanted (nat_lt 0 r.primary_sets) (nat_lt 0 r.secondary_sets) r.persistent (persists own))

      go : (b m : Bool) → is_deletable r ≡ b → is_myself r.address ≡ m → option_map_or (λ x. is_myself x.address) (if b then None else Some r) false ≡ m
      go true true e f = absurd (let x = sym e ∙ lasting f in cc)
      go true false e f = refl
      go false m e f = f

  pub sound_unless : (r : RecordView C S) → (is_myself r.address ≡ true → r.persistent ≡ true) → IsSound (unless_deletable r)
  sound_unless r persists = go (is_deletable r) refl
    where
      go : (b : Bool) → is_deletable r ≡ b → IsSound (if b then None else Some r)
      go true e = tt
      go false e = (e, persists)

  failed_own : (ingress : Ingress) (a : Address C S) → is_myself (after_failure ingress a) ≡ is_myself a
  failed_own ingress Unknown = refl
  failed_own ingress _ = refl

  released_own : (m : Metadata C S) (a : Address C S) → is_myself (address_after_release m a) ≡ is_myself a
  released_own (Listener p) a = refl
  released_own (Dialer p ingress) a = failed_own ingress a

  pub kept_released : (m : Metadata C S) (o : Option (RecordView C S)) → IsSound o → IsKept o (kept_after_release m o)
  kept_released m None sound = kept_same None sound
  kept_released m (Some r) sound =
      let persists : is_myself (address_after_release m r.address) ≡ true → r.persistent ≡ true = λ own. sound.1 (sym (released_own m r.address) ∙ own) in
      record {
        sound = sound_unless (released_record m r) persists;
        primary = Counting.counted_primary r.primary_sets r.secondary_sets (released_record m r);
        secondary = Counting.counted_secondary r.primary_sets r.secondary_sets (released_record m r);
        own = own_unless (released_record m r) persists ∙ released_own m r.address;
      }

module _ {C : Type 0} (cmp : C → C → Ordering) where
  -- a bit set anew
  set_anew : (p : C) (b : Bool) (known : C → Bool) (sets : List (SetAt C)) →
      map (with_bit_of cmp p b) (sets_with_bits known sets)
      ≡ sets_with_bits (λ q. if is_at (cmp p) q then b else known q) sets
  set_anew p b known [] = refl
  set_anew p b known (x ∷ sets) = λ i. record { index = x.index; primary = peers x.primary i; secondary = x.secondary } ∷ set_anew p b known sets i
    where
      peers : (qs : List C) → bits_with cmp p b (map (λ q. (q, known q)) qs) ≡ map (λ q. (q, if is_at (cmp p) q then b else known q)) qs
      peers [] = refl
      peers (q ∷ qs) = ap (λ es. (q, if is_at (cmp p) q then b else known q) ∷ es) (peers qs)

module _ {C S : Type 0} (cmp : C → C → Ordering) where
  -- WHAT HOLDS BETWEEN CALLS

  pub each_sound : {me : C} (max limit : ℕ) (window : List (SetWithBits C)) (old : C → Option (RecordView C S)) →
      IsInvariant cmp max limit me window old → (q : C) → IsSound (old q)
  each_sound max limit window old was q = go (old q) (was.counts.none_deletable q) (was.own.persists q)
    where
      go : (o : Option (RecordView C S)) → IfSome o (λ r. is_deletable r ≡ false) → IfSome o (λ r. is_myself r.address ≡ true → r.persistent ≡ true) → IsSound o
      go None e f = tt
      go (Some r) e f = (e, f)

  pub counts_kept : (max : ℕ) (sets : List (SetAt C)) (old new : C → Option (RecordView C S)) →
      IsConsistent cmp max sets old → ((q : C) → IsKept (old q) (new q)) → IsConsistent cmp max sets new
  counts_kept max sets old new was keeps = record {
    none_deletable = λ q. stays (new q) (keeps q).sound;
    counts = λ q. ((keeps q).primary ∙ (was.counts q).0, (keeps q).secondary ∙ (was.counts q).1);
    at_most_max = was.at_most_max;
    max_positive = was.max_positive;
    max_in_range = was.max_in_range;
  }
    where
      stays : (o : Option (RecordView C S)) → IsSound o → IfSome o (λ r. is_deletable r ≡ false)
      stays None sound = tt
      stays (Some r) sound = sound.0

  own_kept : {me : C} (old new : C → Option (RecordView C S)) → HasOwn cmp me old →
      ((q : C) → IsKept (old q) (new q)) → HasOwn cmp me new
  own_kept old new was keeps = record {
    is_own = λ q. (keeps q).own ∙ was.is_own q;
    persists = λ q. lasts (new q) (keeps q).sound;
  }
    where
      lasts : (o : Option (RecordView C S)) → IsSound o → IfSome o (λ r. is_myself r.address ≡ true → r.persistent ≡ true)
      lasts None sound = tt
      lasts (Some r) sound = sound.1

  -- the bits stay right where nobody's info comes to be wanted or not
  pub bits_same : (limit : ℕ) (window : List (SetWithBits C)) (old new : C → Option (RecordView C S)) →
      AreMarked cmp limit window old → ((q : C) → is_known limit (new q) ≡ is_known limit (old q)) →
      AreMarked cmp limit window new
  bits_same limit window old new was same = was ∙ (λ i. sets_with_bits (λ q. sym (same q) i) (plain_sets window))

  -- they are right again where the one of p is set anew, if nobody else's info comes to be wanted or not
  pub bits_anew : (limit : ℕ) (window window2 : List (SetWithBits C)) (old new : C → Option (RecordView C S))
      (p : C) (b : Bool) → AreMarked cmp limit window old →
      ((q : C) → is_known limit (new q) ≡ (if is_at (cmp p) q then b else is_known limit (old q))) →
      window2 ≡ map (with_bit_of cmp p b) window → AreMarked cmp limit window2 new
  bits_anew limit window window2 old new p b was same is =
      is ∙ ap (map (with_bit_of cmp p b)) was ∙ set_anew cmp p b (λ q. is_known limit (old q)) (plain_sets window)
      ∙ (λ i. sets_with_bits (λ q. sym (same q) i) (sym (plain_with_bit cmp p b window) i))
      ∙ ap (λ w. sets_with_bits (λ q. is_known limit (new q)) (plain_sets w)) (sym is)

  module _ (exact : CmpEqualImpliesEq cmp) where
    -- what is known of each peer, where the record of p changed
    pub known_anew : (limit : ℕ) (old new : C → Option (RecordView C S)) (p : C) (f : Option (RecordView C S) → Option (RecordView C S)) (b : Bool) →
        ((q : C) → new q ≡ (if is_at (cmp p) q then f (old q) else old q)) → b ≡ is_known limit (new p) → (q : C) →
        is_known limit (new q) ≡ (if is_at (cmp p) q then b else is_known limit (old q))
    known_anew limit old new p f b change is q = go (is_at (cmp p) q) refl
      where
        go : (here : Bool) → is_at (cmp p) q ≡ here → is_known limit (new q) ≡ (if here then b else is_known limit (old q))
        go true e = ap (λ k. is_known limit (new k)) (sym (tells_apart exact p q e)) ∙ sym is
        go false e = ap (is_known limit) (change q ∙ (λ i. if e i then f (old q) else old q))

    -- the bit of p is what it is
    pub marked_again : (limit : ℕ) (window : List (SetWithBits C)) (old : C → Option (RecordView C S)) (p : C)
        (b : Bool) → AreMarked cmp limit window old → b ≡ is_known limit (old p) →
        map (with_bit_of cmp p b) window ≡ window
    marked_again limit window old p b was is =
        bits_anew limit window (map (with_bit_of cmp p b) window) old old p b was
        (λ q. same q (is_at (cmp p) q) refl) refl
        ∙ ap (sets_with_bits (λ q. is_known limit (old q))) (plain_with_bit cmp p b window) ∙ sym was
      where
        same : (q : C) (here : Bool) → is_at (cmp p) q ≡ here →
            is_known limit (old q) ≡ (if here then b else is_known limit (old q))
        same q true e = ap (λ k. is_known limit (old k)) (sym (tells_apart exact p q e)) ∙ sym is
        same q false e = refl

    -- one record changes, and its bit is set anew
    pub changed_at : {me : C} (max limit : ℕ) (window window2 : List (SetWithBits C))
        (old new : C → Option (RecordView C S)) (p : C) (f : Option (RecordView C S) → Option (RecordView C S))
        (b : Bool) → IsInvariant cmp max limit me window old →
        ((q : C) → new q ≡ (if is_at (cmp p) q then f (old q) else old q)) →
        ((o : Option (RecordView C S)) → IsSound o → IsKept o (f o)) → b ≡ is_known limit (new p) →
        window2 ≡ map (with_bit_of cmp p b) window → IsInvariant cmp max limit me window2 new
    changed_at max limit window window2 old new p f b was change keeps is anew = record {
      counts = subst (λ sets. IsConsistent cmp max sets new)
          (sym (ap plain_sets anew ∙ plain_with_bit cmp p b window))
          (counts_kept max (plain_sets window) old new was.counts each);
      own = own_kept old new was.own each;
      bits = bits_anew limit window window2 old new p b was.bits (known_anew limit old new p f b change is) anew;
    }
      where
        sound : (q : C) → IsSound (old q)
        sound = each_sound max limit window old was

        each : (q : C) → IsKept (old q) (new q)
        each q = subst (IsKept (old q)) (sym (change q)) (go (is_at (cmp p) q))
          where
            go : (here : Bool) → IsKept (old q) (if here then f (old q) else old q)
            go true = keeps (old q) (sound q)
            go false = kept_same (old q) (sound q)

  -- p is reserved
  pub reserved_at : {me : C} (max limit : ℕ) (window : List (SetWithBits C)) (old new : C → Option (RecordView C S)) (p : C)
      (now draw cooldown : ℕ) → CmpEqualImpliesEq cmp → IsInvariant cmp max limit me window old →
      ((q : C) → new q
      ≡ (if is_at (cmp p) q then option_map (reserved_record now draw cooldown) (old q) else old q)) →
      option_map_or (may_come now) (old p) false ≡ true → IsInvariant cmp max limit me window new
  reserved_at max limit window old new p now draw cooldown exact was change can = record {
    counts = counts_kept max (plain_sets window) old new was.counts each;
    own = own_kept old new was.own each;
    bits = bits_same limit window old new was.bits same;
  }
    where
      each : (q : C) → IsKept (old q) (new q)
      each q = subst (IsKept (old q)) (sym (change q)) (go (is_at (cmp p) q))
        where
          go : (here : Bool) → IsKept (old q) (if here then option_map (reserved_record now draw cooldown) (old q) else old q)
          go true = kept_reserved now draw cooldown (old q) (each_sound max limit window old was q)
          go false = kept_same (old q) (each_sound max limit window old was q)

      same : (q : C) → is_known limit (new q) ≡ is_known limit (old q)
      same q = ap (is_known limit) (change q) ∙ go (is_at (cmp p) q) refl
        where
          go : (here : Bool) → is_at (cmp p) q ≡ here →
              is_known limit (if here then option_map (reserved_record now draw cooldown) (old q) else old q)
              ≡ is_known limit (old q)
          go true e = known_reserved limit now draw cooldown (old q)
              (ap (λ k. option_map_or (may_come now) (old k) false) (sym (tells_apart exact p q e)) ∙ can)
          go false e = refl

  -- who is granted a reservation may come
  pub granted_may_come : (dialer : Bool) (cfg : ConfigView) (now : ℕ) (p : C) (o : Option (RecordView C S)) (m : Metadata C S) →
      option_and_then (granted_of dialer cfg now p) o ≡ Some m → option_map_or (may_come now) o false ≡ true
  unfolding granted_of
  granted_may_come dialer cfg now p None m e = absurd cc
  granted_may_come false cfg now p (Some r) m e = go (may_come now r) e
    where
      go : (b : Bool) → (if b then Some (Listener p) else None) ≡ Some m → b ≡ true
      go true f = refl
      go false f = absurd cc
  granted_may_come true cfg now p (Some r) m e = go (may_be_dialled now cfg.allow_private_ips cfg.allow_dns r) refl e
    where
      known : (address : Address C S) → has_valid_ingress cfg.allow_private_ips cfg.allow_dns address ≡ true → not (is_myself address) ≡ true
      known Unknown h = absurd cc
      known (Myself own) h = absurd cc
      known (Bootstrapper ingress) h = refl
      known (Discovered info fails) h = refl

      wanted : (prim sec pers : Bool) → (prim || pers) ≡ true → (prim || sec || pers) ≡ true
      wanted false false pers h = h
      wanted _ _ pers h = refl

      go : (b : Bool) → may_be_dialled now cfg.allow_private_ips cfg.allow_dns r ≡ b →
          (if b then option_map (Dialer p) (ingress_of r.address) else None) ≡ Some m → may_come now r ≡ true
      go true h f =
          let parts = and_parts (is_dial_candidate cfg.allow_private_ips cfg.allow_dns r) (is_grant (reserve_answer now r)) h in
          let candidate = and_parts (is_inert r.status && is_outbound_target r) (has_valid_ingress cfg.allow_private_ips cfg.allow_dns r.address) parts.0 in
          let target = (and_parts (is_inert r.status) (is_outbound_target r) candidate.0).1 in
          and_from (is_eligible r) (is_grant (reserve_answer now r))
          (and_from (not (is_myself r.address)) (is_named_or_persistent r) (known r.address candidate.1)
          (wanted (nat_lt 0 r.primary_sets) (nat_lt 0 r.secondary_sets) r.persistent target)) parts.1
      go false h f = absurd cc

  -- each record changes, and the bits are right again
  pub changed_with_bits : {me : C} (max limit : ℕ) (window window2 : List (SetWithBits C))
      (old new : C → Option (RecordView C S)) → IsInvariant cmp max limit me window old →
      ((q : C) → IsKept (old q) (new q)) → plain_sets window2 ≡ plain_sets window →
      AreMarked cmp limit window2 new → IsInvariant cmp max limit me window2 new
  changed_with_bits max limit window window2 old new was keeps sets bits = record {
    counts = subst (λ sets. IsConsistent cmp max sets new) (sym sets) (counts_kept max (plain_sets window) old new was.counts keeps);
    own = own_kept old new was.own keeps;
    bits = bits;
  }

  -- WHAT CALLERS SEE

  -- one record changes, and nothing else
  pub changes_view : (d : DirectoryView C S) (config : ConfigView) (window window2 : List (SetWithBits C))
      (records records2 : List (C × RecordView C S)) (blocks : List (C × ℕ)) (cooldowns : List (C × Cooldown))
      (p : C) (f : Option (RecordView C S) → Option (RecordView C S)) (b : Bool) →
      record {
        config = config;
        sets = plain_sets window;
        records = records;
        blocks = blocks;
        cooldowns =
            cooldowns;
      } ≡ d → window2 ≡ map (with_bit_of cmp p b) window → ChangesAt cmp records records2 p f →
      ChangesRecord cmp d (record { config = config; sets = plain_sets window2; records = records2; blocks = blocks; cooldowns = cooldowns }) p f
  changes_view d config window window2 records records2 blocks cooldowns p f b view anew change =
      subst (λ d. ChangesRecord cmp d
      (record {
        config = config;
        sets = plain_sets window2;
        records = records2;
        blocks = blocks;
        cooldowns =
            cooldowns;
      }) p f) view
      (record { config = refl; sets = ap plain_sets anew ∙ plain_with_bit cmp p b window; blocks = refl; cooldowns = refl; records = change })
