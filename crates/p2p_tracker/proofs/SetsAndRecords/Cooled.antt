-- The moments of records are those that are kept of their peers: calls keep it so.
use Rattle.std.proofs.Common.{◌≡◌, ℕ, Bool, true, false, ◌||◌, cond, List, [], ◌∷◌, filter, Option, Some, None}
use Rattle.std.proofs.Common.{IfSome, sym, ap, refl, ◌∙◌}
use Rattle.std.specs.Prelude.{if◌then◌else◌, nat_le}
use Rattle.std.specs.declared.cmp.Ordering.{Ordering}
use Rattle.std.specs.Option.{option_map}
use Rattle.std.specs.BTreeMap.{is_at}
use Rattle.std.specs.Map.{keys_of}
use Rattle.p2p_discovery.specs.declared.discovery.Info.{Info}
use Rattle.p2p_discovery.specs.declared.types.ingress.Ingress.{Ingress}
use Rattle.p2p_tracker.specs.declared.record.Address.TheVariants.{Myself, Bootstrapper}
use Rattle.p2p_tracker.specs.declared.directory.Metadata.{Metadata}
use Rattle.p2p_tracker.specs.Calls.{SetAt, Cooldown}
use Rattle.p2p_tracker.specs.Lists.{last_ingress_by}
use Rattle.p2p_tracker.specs.Cooldowns.{reservable_from, dialable_from, has_cooled, unless_cooled}
use Rattle.p2p_tracker.specs.Answers.{is_cooled_by}
use Rattle.p2p_tracker.specs.Record.{new_record, with_cooldown, reserved_record, is_deletable, with_counts, fresh}
use Rattle.p2p_tracker.specs.Seen.{RecordView}
use Rattle.p2p_tracker.specs.Moments.{moments_after}
use Rattle.p2p_tracker.specs.PeerSets.{set_count}
use Rattle.p2p_tracker.specs.declared.record.Role.TheVariants.{Primary, Secondary}
use Rattle.p2p_tracker.specs.Directory.{first_record, released_record, kept_after_release}
use Rattle.p2p_tracker.specs.Directory.{connected_record, updated_record, record_with_sets}
use Rattle.p2p_discovery.specs.Ordered.{has_key}
use Rattle.p2p_tracker.specs.Private.Counts.{AreCooled, changed_if, cleared_at}

module _ {C S : Type 0} where
  -- what is kept has these moments
  abbrev pub HasMoments : Option Cooldown → Option (RecordView C S) → Type 0
  HasMoments k o = o ≡ option_map (with_cooldown k) o

  -- a change leaves moments as they are
  abbrev pub KeepsMoments : (Option (RecordView C S) → Option (RecordView C S)) → Type 0
  KeepsMoments f = (k : Option Cooldown) (o : Option (RecordView C S)) → HasMoments k o → HasMoments k (f o)

  -- what may go has its moments
  goes : (k : Option Cooldown) (r : RecordView C S) (b : Bool) →
      (if b then None else Some (with_cooldown k r)) ≡ option_map (with_cooldown k) (if b then None else Some r)
  goes k r true = refl
  goes k r false = refl

  pub connect_keeps : (dialer : Bool) → KeepsMoments (option_map (connected_record dialer))
  connect_keeps dialer k None e = refl
  connect_keeps dialer k (Some r) e = ap (option_map (connected_record dialer)) e

  pub update_keeps : (infos : List (Info C S)) → KeepsMoments (option_map (updated_record infos))
  update_keeps infos k None e = refl
  update_keeps infos k (Some r) e = ap (option_map (updated_record infos)) e

  pub release_keeps : (m : Metadata C S) → KeepsMoments (kept_after_release m)
  release_keeps m k None e = refl
  release_keeps m k (Some r) e = ap (kept_after_release m) e
      ∙ goes k (released_record m r) (is_deletable (released_record m r))

  -- moments that are given
  pub given : (k : Option Cooldown) (o : Option (RecordView C S)) → HasMoments k (option_map (with_cooldown k) o)
  given k None = refl
  given k (Some r) = refl

  cleared_twice : (o : Option (RecordView C S)) → option_map (with_cooldown None) (option_map (with_cooldown None) o)
      ≡ option_map (with_cooldown None) o
  cleared_twice None = refl
  cleared_twice (Some r) = refl

  -- the moments of a record
  pub moments_of_record : (k : Option Cooldown) (o : Option (RecordView C S)) → HasMoments k o →
      IfSome o (λ r. (r.next_reservable_at ≡ reservable_from k) × (r.next_dial_at ≡ dialable_from k))
  moments_of_record k None e = tt
  moments_of_record k (Some r) e = let same : r ≡ with_cooldown k r = cc in (
    ap (λ x. x.next_reservable_at) same,
    ap (λ x. x.next_dial_at) same,
  )

  -- what is forgotten of a peer
  pub forgotten : (now : ℕ) (k k2 : Option Cooldown) (old new : Option (RecordView C S)) → HasMoments k old →
      k2 ≡ unless_cooled now k → new ≡ option_map (with_cooldown k2) old →
      new ≡ (if is_cooled_by now k then option_map (with_cooldown None) old else old)
  forgotten now None k2 old new has is change = change ∙ ap (λ x. option_map (with_cooldown x) old) is ∙ sym has
  forgotten now (Some c) k2 old new has is change = change ∙ ap (λ x. option_map (with_cooldown x) old) is
      ∙ go (nat_le c.dial_at now)
    where
      go : (b : Bool) → option_map (with_cooldown (if b then None else Some c)) old
          ≡ (if b then option_map (with_cooldown None) old else old)
      go true = refl
      go false = sym has

module _ {C S : Type 0} (cmp : C → C → Ordering) where
  -- moments that have cooled are cleared, of one peer and of the others
  pub cleared_step : (now : ℕ) (e : C × Cooldown) (es : List (C × Cooldown)) (q : C) (o : Option (RecordView C S)) →
      cleared_at cmp now es q (cleared_at cmp now (e ∷ []) q o) ≡ cleared_at cmp now (e ∷ es) q o
  cleared_step now e es q o = go (has_cooled now e)
    where
      rest : List (C × Cooldown)
      rest = filter (has_cooled now) es

      clear : Bool → Option (RecordView C S) → Option (RecordView C S)
      clear b o = if b then option_map (with_cooldown None) o else o

      by : (here there : Bool) → clear there (clear (here || false) o) ≡ clear (here || there) o
      by true true = cleared_twice o
      by _ _ = refl

      go : (b : Bool) → clear (has_key cmp (keys_of rest) q) (clear (has_key cmp (keys_of (cond b (e ∷ []) [])) q) o)
          ≡ clear (has_key cmp (keys_of (cond b (e ∷ rest) rest)) q) o
      go true = by (is_at (cmp e.0) q) (has_key cmp (keys_of rest) q)
      go false = refl

  -- .. so that the moments that are left are those that are kept
  pub cleared_left : (now : ℕ) (k : Option Cooldown) (o : Option (RecordView C S)) → HasMoments k o →
      changed_if cmp (is_cooled_by now k) (option_map (with_cooldown None)) o
      ≡ option_map (with_cooldown (unless_cooled now k)) o
  cleared_left now None o has = has
  cleared_left now (Some c) o has = go (nat_le c.dial_at now)
    where
      go : (b : Bool) → (if b then option_map (with_cooldown None) o else o)
          ≡ option_map (with_cooldown (if b then None else Some c)) o
      go true = refl
      go false = has

  -- at first no moments are kept
  pub first_cooled : (bootstrappers : List (C × Ingress)) (own : Info C S) (q : C) →
      HasMoments None (first_record cmp bootstrappers own q)
  first_cooled bootstrappers own q = go (is_at (cmp own.public_key) q) (last_ingress_by cmp q bootstrappers)
    where
      made : Bool → Option Ingress → Option (RecordView C S)
      made b o = if b then Some (new_record (Myself own) true) else option_map (λ ingress. new_record
          (Bootstrapper ingress) true) o

      go : (b : Bool) (o : Option Ingress) → HasMoments None (made b o)
      go true o = refl
      go false None = refl
      go false (Some a) = refl

  -- one record changes
  pub cooled_at : (old new : C → Option (RecordView C S)) (cooldowns : C →
      Option Cooldown) (p : C) (f : Option (RecordView C S) → Option (RecordView C S)) → AreCooled cmp old cooldowns →
      ((q : C) → new q ≡ (if is_at (cmp p) q then f (old q) else old q)) → KeepsMoments f → AreCooled cmp new cooldowns
  cooled_at old new cooldowns p f was change keeps q = change q ∙ go (is_at (cmp p) q)
      ∙ ap (option_map (with_cooldown (cooldowns q))) (sym (change q))
    where
      go : (b : Bool) → HasMoments (cooldowns q) (if b then f (old q) else old q)
      go true = keeps (cooldowns q) (old q) (was q)
      go false = was q

  -- each record changes
  pub cooled_each : (old new : C → Option (RecordView C S)) (cooldowns : C → Option Cooldown) (f : C →
      Option (RecordView C S) → Option (RecordView C S)) → AreCooled cmp old cooldowns →
      ((q : C) → new q ≡ f q (old q)) → ((q : C) (o : Option (RecordView C S)) → HasMoments (cooldowns q) o →
      HasMoments (cooldowns q) (f q o)) → AreCooled cmp new cooldowns
  cooled_each old new cooldowns f was change keeps q = change q ∙ keeps q (old q) (was q)
      ∙ ap (option_map (with_cooldown (cooldowns q))) (sym (change q))

  -- p is reserved, and the moments of this grant are kept
  pub cooled_reserved : (old new : C → Option (RecordView C S)) (cooldowns cooldowns2 : C →
      Option Cooldown) (p : C) (now draw cooldown : ℕ) → AreCooled cmp old cooldowns →
      ((q : C) → new q ≡ (if is_at (cmp p) q then option_map (reserved_record now draw cooldown) (old q) else old q)) →
      ((q : C) → cooldowns2 q ≡ (if is_at (cmp p) q then Some (moments_after now draw cooldown) else cooldowns q)) →
      AreCooled cmp new cooldowns2
  cooled_reserved old new cooldowns cooldowns2 p now draw cooldown was change kept q =
      change q ∙ go (is_at (cmp p) q) ∙ (λ i. option_map (with_cooldown (sym (kept q) i)) (sym (change q) i))
    where
      granted : (o : Option (RecordView C S)) → HasMoments (Some (moments_after now draw cooldown))
          (option_map (reserved_record now draw cooldown) o)
      granted None = refl
      granted (Some r) = refl

      go : (b : Bool) → HasMoments (if b then Some (moments_after now draw cooldown) else cooldowns q)
          (if b then option_map (reserved_record now draw cooldown) (old q) else old q)
      go true = granted (old q)
      go false = was q

  -- these are the sets
  pub cooled_with_sets : (sets : List (SetAt C)) (k : Option Cooldown) (q : C) (o : Option (RecordView C S)) →
      HasMoments k o → HasMoments k (record_with_sets cmp sets k q o)
  cooled_with_sets sets k q None e = goes k (counted (fresh k)) (is_deletable (counted (fresh k)))
    where
      counted : RecordView C S → RecordView C S
      counted r = with_counts (set_count cmp Primary q sets) (set_count cmp Secondary q sets) r
  cooled_with_sets sets k q (Some r) e = ap (record_with_sets cmp sets k q) e
      ∙ goes k (counted r) (is_deletable (counted r))
    where
      counted : RecordView C S → RecordView C S
      counted r = with_counts (set_count cmp Primary q sets) (set_count cmp Secondary q sets) r
