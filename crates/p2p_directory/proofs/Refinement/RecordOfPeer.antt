-- What a directory that refines a world keeps of one peer.
use Rattle.std.proofs.Common.{◌≡◌, ℕ, suc, ◌+◌, ◌-◌, ◌^◌, min, Bool, true, false, ◌||◌, ◌&&◌, not, List, [], ◌∷◌, Option, Some, None, sym, ap, refl, ◌∙◌, arith}
use Rattle.std.specs.Prelude.{if◌then◌else◌, nat_lt, nat_le}
use Rattle.std.specs.Option.{is_some, option_map_or}
use Rattle.std.specs.List.{list_any}
use Rattle.std.proofs.Math.Bool.{and-false}
use Rattle.p2p_discovery.specs.declared.discovery.Info.{Info}
use Rattle.p2p_discovery.specs.declared.types.ingress.Ingress.{Ingress}
use Rattle.p2p_discovery.specs.Ingress.{same_ingress}
use Rattle.p2p_discovery.proofs.Truth.{nat_le-not_lt}
use Rattle.p2p_tracker.specs.Blocks.{is_blocked}
use Rattle.p2p_tracker.specs.declared.record.Address.{Address}
use Rattle.p2p_tracker.specs.declared.record.Address.TheVariants.{Unknown, Myself, Discovered}
use Rattle.p2p_tracker.specs.declared.record.Status.{Status}
use Rattle.p2p_tracker.specs.declared.record.Status.TheVariants.{Inert}
use Rattle.p2p_tracker.specs.declared.record.dialing.ReserveResult.TheVariants as reserve
use Rattle.p2p_tracker.specs.Calls.{Settings, SetAt, Direction, Cooldown}
use Rattle.p2p_tracker.specs.Calls.Direction.{Listener, Dialer}
use Rattle.p2p_tracker.specs.History.{same, is_own, is_persistent, is_named, is_present_with, primary_count, secondary_count, is_entitled}
use Rattle.p2p_tracker.specs.Status.{is_inert}
use Rattle.p2p_tracker.specs.World
use Rattle.p2p_tracker.specs.World.{Known, Peer, last_ingress, new_known}
use Rattle.p2p_tracker.specs.Lists.{last_ingress_by}
use Rattle.p2p_tracker.specs.Cooldowns.{reservable_from, dialable_from}
use Rattle.p2p_tracker.specs.Record.{fresh, is_myself, is_eligible, is_grant, may_come, after_failure, with_counts, unless_deletable}
use Rattle.p2p_tracker.specs.Seen.{RecordView}
use Rattle.p2p_tracker.specs.Directory.{address_after_release, released_record, is_connectable, record_with_sets}
use Rattle.p2p_directory.specs.Refinement.{metadata_of, address_given, address_known, address_of}

module _ {C S : Type 0} (s : Settings C S) where
  -- the record of a present peer
  abbrev pub record_with : C → List (SetAt C) → Option Cooldown → Peer C S → RecordView C S
  record_with p sets cooldown peer = record {
    address = address_of s p peer.known;
    status = peer.status;
    primary_sets = primary_count s p sets;
    secondary_sets = secondary_count s p sets;
    persistent = is_persistent s p;
    next_reservable_at = reservable_from cooldown;
    next_dial_at = dialable_from cooldown;
  }

  -- what is shown of a peer
  abbrev pub shown : C → List (SetAt C) → Option Cooldown → Peer C S → Option (RecordView C S)
  shown p sets cooldown peer = if is_present_with s p sets peer.status then Some (record_with p sets cooldown peer) else None

  -- ADDRESSES

  given_not_own : (given : Option Ingress) → is_myself {C = C} {S = S} (address_given given) ≡ false
  given_not_own None = refl
  given_not_own (Some ingress) = refl

  with_not_own : (given : Option Ingress) (fails : ℕ) (info : Option (Info C S)) → is_myself (address_known given fails info) ≡ false
  with_not_own given fails None = given_not_own given
  with_not_own given fails (Some info) = refl

  pub myself_is_own : (p : C) (known : Known C S) → is_myself (address_of s p known) ≡ is_own s p
  myself_is_own p known = go (is_own s p)
    where
      go : (b : Bool) → is_myself (if b then Myself s.own else address_known (last_ingress s p s.bootstrappers) known.fails known.info) ≡ b
      go true = refl
      go false = with_not_own (last_ingress s p s.bootstrappers) known.fails known.info

  -- TESTS

  -- a present peer's record is eligible where the peer is entitled
  pub eligible_is_entitled : (p : C) (sets : List (SetAt C)) (cooldown : Option Cooldown) (peer : Peer C S) →
      is_eligible (record_with p sets cooldown peer) ≡ is_entitled s p sets
  eligible_is_entitled p sets cooldown peer = ap (λ b. not b && (is_named s p sets || is_persistent s p)) (myself_is_own p peer.known)

  pub absent_not_entitled : (own named persistent inert : Bool) → ((persistent || named) || not inert) ≡ false → (not own && (named || persistent)) ≡ false
  absent_not_entitled true named persistent inert e = refl
  absent_not_entitled false true true inert e = absurd (cc)
  absent_not_entitled false true false inert e = absurd (cc)
  absent_not_entitled false false true inert e = absurd (cc)
  absent_not_entitled false false false inert e = refl

  -- what is kept of it is eligible where the peer is entitled
  pub shown_entitled : (p : C) (sets : List (SetAt C)) (cooldown : Option Cooldown) (peer : Peer C S) →
      option_map_or is_eligible (shown p sets cooldown peer) false ≡ is_entitled s p sets
  shown_entitled p sets cooldown peer = go (is_present_with s p sets peer.status) refl
    where
      go : (b : Bool) → is_present_with s p sets peer.status ≡ b →
          option_map_or is_eligible (if b then Some (record_with p sets cooldown peer) else None) false
          ≡ is_entitled s p sets
      go true e = eligible_is_entitled p sets cooldown peer
      go false e = sym (absent_not_entitled (is_own s p) (is_named s p sets) (is_persistent s p) (is_inert peer.status) e)

  -- reserved or connected, and eligible
  pub shown_busy : (p : C) (sets : List (SetAt C)) (cooldown : Option Cooldown) (peer : Peer C S) →
      is_connectable s.cmp (shown p sets cooldown peer) ≡ (not (is_inert peer.status) && is_entitled s p sets)
  shown_busy p sets cooldown peer = go (is_present_with s p sets peer.status) refl
    where
      and_false : (b : Bool) → false ≡ (b && false)
      and_false true = refl
      and_false false = refl

      go : (b : Bool) → is_present_with s p sets peer.status ≡ b →
          is_connectable s.cmp (if b then Some (record_with p sets cooldown peer) else None) ≡ (not (is_inert peer.status) && is_entitled s p sets)
      go true e = λ i. not (is_inert peer.status) && eligible_is_entitled p sets cooldown peer i
      go false e =
          and_false (not (is_inert peer.status))
          ∙ ap (λ b. not (is_inert peer.status) && b) (sym (absent_not_entitled (is_own s p) (is_named s p sets) (is_persistent s p) (is_inert peer.status) e))

  -- it may come
  pub is_granted : (m i late : Bool) →
      is_grant (if m || not i then reserve.Unavailable else if late then reserve.RateLimited else reserve.Reserved)
      ≡ (not m && i && not late)
  is_granted true i late = refl
  is_granted false true true = refl
  is_granted false true false = refl
  is_granted false false late = refl

  pub shown_may_come : (p : C) (sets : List (SetAt C)) (cooldown : Option Cooldown) (peer : Peer C S) (unblock : Option ℕ) (t : ℕ) →
      (not (is_blocked unblock t) && option_map_or (may_come t) (shown p sets cooldown peer) false) ≡ World.may_listen s p t sets peer unblock cooldown
  shown_may_come p sets cooldown peer unblock t = go (is_present_with s p sets peer.status) refl
    where
      bools : (free own wanted inert late : Bool) →
          (free && ((not own && wanted) && (not own && inert && not late)))
          ≡ ((((not own && wanted) && inert) && free) && not late)
      bools true true wanted inert late = refl
      bools true false true true late = refl
      bools true false true false late = refl
      bools true false false inert late = refl
      bools false true wanted inert late = refl
      bools false false true true late = refl
      bools false false true false late = refl
      bools false false false inert late = refl

      go : (b : Bool) → is_present_with s p sets peer.status ≡ b →
          (not (is_blocked unblock t) && option_map_or (may_come t) (if b then Some (record_with p sets cooldown peer) else None) false)
          ≡ (((is_entitled s p sets && is_inert peer.status) && not (is_blocked unblock t)) && nat_le (reservable_from cooldown) t)
      go true e =
          (λ i. not (is_blocked unblock t) &&
          (eligible_is_entitled p sets cooldown peer i && is_granted (myself_is_own p peer.known i)
          (is_inert peer.status) (nat_lt t (reservable_from cooldown)) i))
          ∙ bools (not (is_blocked unblock t)) (is_own s p) (is_named s p sets || is_persistent s p)
          (is_inert peer.status) (nat_lt t (reservable_from cooldown))
          ∙ (λ i. ((is_entitled s p sets && is_inert peer.status) && not (is_blocked unblock t)) && sym (nat_le-not_lt (reservable_from cooldown) t) i)
      go false e =
          and-false (not (is_blocked unblock t))
          ∙ sym (ap (λ b. ((b && is_inert peer.status) && not (is_blocked unblock t)) && nat_le (reservable_from cooldown) t)
          (absent_not_entitled (is_own s p) (is_named s p sets) (is_persistent s p) (is_inert peer.status) e))

  -- A RELEASE

  capped : (m : ℕ) → min (min m (2 ^ 64 - 1) + 1) (2 ^ 64 - 1) ≡ min (suc m) (2 ^ 64 - 1)
  capped m = omega arith

  -- what the release of a dial makes of an address
  failed_given : (given : Option Ingress) (a : Ingress) → after_failure {C = C} {S = S} a (address_given given) ≡ address_given given
  failed_given None a = refl
  failed_given (Some ingress) a = refl

  failed_with : (given : Option Ingress) (fails : ℕ) (info : Option (Info C S)) (a : Ingress) →
      after_failure a (address_known given fails info) ≡ address_known given (if World.is_failed_dial s info (Dialer a) then suc fails else fails) info
  failed_with given fails None a = failed_given given a
  failed_with given fails (Some info) a = go (same_ingress info.ingress a)
    where
      go : (b : Bool) → ◌≡◌ {A = Address C S} (Discovered info (if b then min (min fails (2 ^ 64 - 1) + 1) (2 ^ 64 - 1) else min fails (2 ^ 64 - 1)))
          (Discovered info (min (if b then suc fails else fails) (2 ^ 64 - 1)))
      go true = ap (Discovered info) (capped fails)
      go false = refl

  not_failed : (info : Option (Info C S)) → World.is_failed_dial s info Listener ≡ false
  not_failed None = refl
  not_failed (Some info) = refl

  abbrev pub failed_once : Known C S → Direction → Known C S
  failed_once known direction = if World.is_failed_dial s known.info direction then record known { fails = suc known.fails } else known

  address_released : (key p : C) (known : Known C S) (direction : Direction) →
      address_after_release (metadata_of {S = S} key direction) (address_of s p known) ≡ address_of s p (failed_once known direction)
  address_released key p known Listener = ap (λ b. address_of s p (if b then record known { fails = suc known.fails } else known)) (sym (not_failed known.info))
  address_released key p known (Dialer a) = go (is_own s p) ∙ out (World.is_failed_dial s known.info (Dialer a))
    where
      given : Option Ingress
      given = last_ingress s p s.bootstrappers

      go : (b : Bool) → after_failure a (if b then Myself s.own else address_known given known.fails known.info)
          ≡ (if b then Myself s.own else address_known given (if World.is_failed_dial s known.info (Dialer a) then suc known.fails else known.fails) known.info)
      go true = refl
      go false = failed_with given known.fails known.info a

      out : (b : Bool) → (if is_own s p then Myself s.own else address_known given (if b then suc known.fails else known.fails) known.info)
          ≡ address_of s p (if b then record known { fails = suc known.fails } else known)
      out true = refl
      out false = refl

  -- the record that a release leaves, if it isn't deletable
  pub release_of_record : (key p : C) (sets : List (SetAt C)) (cooldown : Option Cooldown) (peer : Peer C S) (direction : Direction) →
      released_record (metadata_of key direction) (record_with p sets cooldown peer)
      ≡ record_with p sets cooldown (record { status = Inert; known = failed_once peer.known direction })
  release_of_record key p sets cooldown peer direction =
      λ i. record {
        address = address_released key p peer.known direction i;
        status = Inert;
        primary_sets = primary_count s p sets;
        secondary_sets = secondary_count s p sets;
        persistent = is_persistent s p;
        next_reservable_at = reservable_from cooldown;
        next_dial_at = dialable_from cooldown;
      }

  -- A SET

  -- a record goes where its peer is absent
  pub settled : (p : C) (sets : List (SetAt C)) (cooldown : Option Cooldown) (status : Status) (known : Known C S) →
      unless_deletable (record_with p sets cooldown (record { status = status; known = known }))
      ≡ shown p sets cooldown (record { status = status; known = known })
  settled p sets cooldown status known = go (is_persistent s p) (is_named s p sets) (is_inert status)
    where
      r : RecordView C S
      r = record_with p sets cooldown (record { status = status; known = known })

      go : (persistent named inert : Bool) → (if not (named || persistent) && inert then None else Some r)
          ≡ (if (persistent || named) || not inert then Some r else None)
      go true true inert = refl
      go true false inert = refl
      go false true inert = refl
      go false false true = refl
      go false false false = refl

  pub some_given : (q : C) (bs : List (C × Ingress)) → is_some (last_ingress_by s.cmp q bs) ≡ list_any (λ b. same s b.0 q) bs
  some_given q [] = refl
  some_given q (b ∷ bs) = go (same s b.0 q) (last_ingress_by s.cmp q bs) (list_any (λ x. same s x.0 q) bs) (some_given q bs)
    where
      go : (t : Bool) (o : Option Ingress) (any : Bool) → is_some o ≡ any →
          is_some (elim o [ None ↦ (if t then Some b.1 else None) | Some a ↦ Some a ]) ≡ (t || any)
      go true None any e = refl
      go true (Some a) any e = refl
      go false None any e = e
      go false (Some a) any e = e

  pub absent_parts : (own any named inert : Bool) → (((own || any) || named) || not inert) ≡ false → (own ≡ false) × (any ≡ false) × (inert ≡ true)
  absent_parts false false false true e = (refl, refl, refl)
  absent_parts _ _ _ _ e = absurd (cc)

  pub inert_only : (st : Status) → is_inert st ≡ true → st ≡ Inert
  inert_only Inert e = refl
  inert_only _ e = absurd (cc)

  no_ingress : (o : Option Ingress) → is_some o ≡ false → address_given {C = C} {S = S} o ≡ Unknown
  no_ingress None e = refl
  no_ingress (Some a) e = absurd (cc)

  -- of an absent peer nothing is known but its moments
  absent_blank : (q : C) (sets : List (SetAt C)) (cooldown : Option Cooldown) (peer : Peer C S) (m n : ℕ) →
      is_present_with s q sets peer.status ≡ false → peer.known ≡ new_known s q →
      with_counts m n (fresh cooldown) ≡ with_counts m n (record_with q sets cooldown peer)
  absent_blank q sets cooldown peer m n absent known =
      let parts = absent_parts (is_own s q) (list_any (λ b. same s b.0 q) s.bootstrappers) (is_named s q sets) (is_inert peer.status) absent in
      let given : address_given (last_ingress s q s.bootstrappers) ≡ Unknown =
      no_ingress (last_ingress s q s.bootstrappers) (some_given q s.bootstrappers ∙ parts.1) in
      let address : address_of s q peer.known ≡ Unknown =
      ap (address_of s q) known
      ∙ (λ i. if parts.0 i then Myself s.own else address_known (last_ingress s q s.bootstrappers) 0
      (if parts.0 i then Some s.own else None)) ∙ given in
      let inert : peer.status ≡ Inert = inert_only peer.status parts.2 in
      let persistent : is_persistent s q ≡ false = (λ i. parts.0 i || parts.1 i) in
      sym (λ i. record {
        address = address i;
        status = inert i;
        primary_sets = m;
        secondary_sets = n;
        persistent = persistent i;
        next_reservable_at = reservable_from cooldown;
        next_dial_at = dialable_from cooldown;
      })

  -- with other sets it is the record that the world has with them
  pub shown_with_sets : (q : C) (sets sets2 : List (SetAt C)) (cooldown : Option Cooldown) (peer : Peer C S) →
      (is_present_with s q sets peer.status ≡ false → peer.known ≡ new_known s q) →
      record_with_sets s.cmp sets2 cooldown q (shown q sets cooldown peer) ≡ shown q sets2 cooldown peer
  shown_with_sets q sets sets2 cooldown peer forgotten = go (is_present_with s q sets peer.status) refl ∙ settled q sets2 cooldown peer.status peer.known
    where
      go : (b : Bool) → is_present_with s q sets peer.status ≡ b →
          record_with_sets s.cmp sets2 cooldown q (if b then Some (record_with q sets cooldown peer) else None)
          ≡ unless_deletable (record_with q sets2 cooldown peer)
      go true e = refl
      go false e = ap unless_deletable (absent_blank q sets cooldown peer (primary_count s q sets2) (secondary_count s q sets2) e (forgotten e))
