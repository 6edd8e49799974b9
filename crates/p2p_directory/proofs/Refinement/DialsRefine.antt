-- Who may be dialled, who is blocked, and what is told of the sets: a directory answers what the world that it refines says.
use Rattle.std.proofs.Common.{◌≡◌, ℕ, Bool, true, false, ◌||◌, ◌&&◌, not, List, Option, Some, None, sym, ap, refl, ◌∙◌}
use Rattle.std.specs.Prelude.{if◌then◌else◌, nat_lt, nat_le}
use Rattle.std.specs.Cmp.{both_ways}
use Rattle.std.specs.Option.{option_map_or, option_and_then}
use Rattle.std.proofs.lemmas.Bool.{and_parts, and_from}
use Rattle.p2p_discovery.specs.declared.types.ingress.Ingress.{Ingress}
use Rattle.p2p_discovery.specs.declared.discovery.Info.{Info}
use Rattle.p2p_discovery.proofs.Truth.{nat_le-not_lt}
use Rattle.p2p_tracker.specs.Blocks.{is_blocked}
use Rattle.p2p_tracker.specs.declared.record.Address.TheVariants.{Myself}
use Rattle.p2p_tracker.specs.Calls.{Settings, SetAt, Cooldown}
use Rattle.p2p_tracker.specs.History.{is_own, is_persistent, is_named, is_present_with, is_entitled}
use Rattle.p2p_tracker.specs.History.{primary_count, secondary_count}
use Rattle.p2p_tracker.specs.Status.{is_inert}
use Rattle.p2p_tracker.specs.World
use Rattle.p2p_tracker.specs.World.{World, Known, Peer, last_ingress, is_target}
use Rattle.p2p_tracker.specs.Cooldowns.{reservable_from, dialable_from}
use Rattle.p2p_tracker.specs.Answers
use Rattle.p2p_tracker.specs.Answers.{is_present_in, is_dialable, query_moment, IsDialable, was_granted}
use Rattle.p2p_tracker.specs.Record.{DialView, is_grant, may_come, has_valid_ingress, ingress_of, is_dial_candidate}
use Rattle.p2p_tracker.specs.Record.{may_be_dialled, reserve_answer, dial_status, is_now, later_moment}
use Rattle.p2p_tracker.specs.Directory.{may_listen_in, may_dial_in, ingress_in, is_dialable_in, query_moment_in, AreDialableIn}
use Rattle.p2p_tracker.specs.Seen.{DirectoryView}
use Rattle.p2p_directory.specs.Refinement.{Refines, address_given, address_known, address_of}
use Rattle.p2p_tracker.proofs.Definitions.Listed
use Rattle.p2p_tracker.proofs.Definitions.Listed.{lists_alike, somebody_alike}
use Rattle.p2p_tracker.proofs.SetsAndRecords.Dialables.{later_parts, later_moments, shuffle}
use Rattle.p2p_directory.proofs.Definitions.Targets.{parts_of_target, dialled_is_target}
use Rattle.p2p_directory.proofs.Refinement.RecordOfPeer.{record_with, shown, shown_may_come, absent_not_entitled}
use Rattle.p2p_directory.proofs.Refinement.RecordOfPeer.{myself_is_own, is_granted}
use Rattle.p2p_directory.specs.Laws.Refined.{DialsAnswerAs}

module _ {C S : Type 0} (s : Settings C S) where
  -- ONE PEER

  -- an address is valid where the peer isn't the local node, and its ingress is known and valid
  valid_shown : (p : C) (known : Known C S) →
      has_valid_ingress s.allow_private_ips s.allow_dns (address_of s p known)
      ≡ (not (is_own s p) && World.is_valid_address s (World.address_with s p known.info))
  valid_shown p known = go (is_own s p)
    where
      given : (o : Option Ingress) → has_valid_ingress {C = C} {S = S} s.allow_private_ips s.allow_dns (address_given o) ≡ World.is_valid_address s o
      given None = refl
      given (Some a) = refl

      known_by : (info : Option (Info C S)) →
          has_valid_ingress s.allow_private_ips s.allow_dns
          (address_known (last_ingress s p s.bootstrappers) known.fails info)
          ≡ World.is_valid_address s (World.address_with s p info)
      known_by None = given (last_ingress s p s.bootstrappers)
      known_by (Some i) = refl

      go : (own : Bool) →
          has_valid_ingress s.allow_private_ips s.allow_dns
          (if own then Myself s.own else address_known (last_ingress s p s.bootstrappers) known.fails known.info)
          ≡ (not own && World.is_valid_address s (World.address_with s p known.info))
      go true = refl
      go false = known_by known.info

  -- the parts of what makes a dial
  record Parts (inert target own valid : Bool) : Type 0 where
    is_inert : inert ≡ true
    is_target : target ≡ true
    is_other : not own ≡ true
    is_valid : valid ≡ true

  parts_of : (inert target own valid : Bool) → ((inert && target) && (not own && valid)) ≡ true → Parts inert target own valid
  parts_of inert target own valid h =
      let all = and_parts (inert && target) (not own && valid) h in
      let first = and_parts inert target all.0 in
      let second = and_parts (not own) valid all.1 in
      record { is_inert = first.0; is_target = first.1; is_other = second.0; is_valid = second.1 }

  -- who is to be dialled is in a set, or persistent
  target_wanted : (prim sec pers : Bool) → (prim || pers) ≡ true → ((prim || sec) || pers) ≡ true
  target_wanted false false pers e = e
  target_wanted _ _ pers e = refl

  abbrev candidate : C → List (SetAt C) → Peer C S → Bool
  candidate p sets peer =
      (is_inert peer.status && World.is_dial_target s p sets) && (not (is_own s p) && World.is_valid_address s (World.address_with s p peer.known.info))

  -- a record is a candidate where its peer is a target
  candidate_target : (p : C) (sets : List (SetAt C)) (peer : Peer C S) → candidate p sets peer ≡ is_target s p sets peer
  candidate_target p sets peer = both_ways (candidate p sets peer) (is_target s p sets peer) to from
    where
      i : Bool
      i = is_inert peer.status

      t : Bool
      t = World.is_dial_target s p sets

      v : Bool
      v = World.is_valid_address s (World.address_with s p peer.known.info)

      to : candidate p sets peer ≡ true → is_target s p sets peer ≡ true
      to h =
          let parts = parts_of i t (is_own s p) v h in
          and_from _ t (and_from _ v (and_from (is_entitled s p sets) i (and_from (not (is_own s p)) _ parts.is_other
          (target_wanted (nat_lt 0 (primary_count s p sets)) (nat_lt 0 (secondary_count s p sets))
          (is_persistent s p) parts.is_target)) parts.is_inert) parts.is_valid) parts.is_target

      from : is_target s p sets peer ≡ true → candidate p sets peer ≡ true
      from h =
          let h3 = and_parts ((is_entitled s p sets && i) && v) t h in
          let h2 = and_parts (is_entitled s p sets && i) v h3.0 in
          let h1 = and_parts (is_entitled s p sets) i h2.0 in
          let h0 = and_parts (not (is_own s p)) _ h1.0 in
          and_from (i && t) _ (and_from i t h1.1 h3.1) (and_from (not (is_own s p)) v h0.0 h2.1)

  shown_candidate : (p : C) (sets : List (SetAt C)) (cooldown : Option Cooldown) (peer : Peer C S) →
      is_dial_candidate s.allow_private_ips s.allow_dns (record_with s p sets cooldown peer)
      ≡ is_target s p sets peer
  shown_candidate p sets cooldown peer =
      ap (λ b. (is_inert peer.status && World.is_dial_target s p sets) && b) (valid_shown p peer.known)
      ∙ candidate_target p sets peer

  -- who is absent is no target
  absent_no_target : (p : C) (sets : List (SetAt C)) (peer : Peer C S) → is_present_with s p sets peer.status ≡ false → is_target s p sets peer ≡ false
  absent_no_target p sets peer e =
      ap (λ b. ((b && is_inert peer.status) && World.is_valid_address s (World.address_with s p peer.known.info)) && World.is_dial_target s p sets)
      (absent_not_entitled s (is_own s p) (is_named s p sets) (is_persistent s p) (is_inert peer.status) e)

  -- a target is granted a reservation where its reservable moment has come
  target_reserved : (p : C) (sets : List (SetAt C)) (cooldown : Option Cooldown) (peer : Peer C S) (t : ℕ) →
      is_target s p sets peer ≡ true →
      is_grant (reserve_answer t (record_with s p sets cooldown peer)) ≡ nat_le (reservable_from cooldown) t
  target_reserved p sets cooldown peer t h =
      let parts = parts_of_target s p sets peer h in
      let other = (and_parts (not (is_own s p)) _ parts.entitled_is).0 in
      let late = nat_lt t (reservable_from cooldown) in
      (λ i. is_granted s (myself_is_own s p peer.known i) (is_inert peer.status) late i)
      ∙ (λ i. other i && parts.inert_is i && not late)
      ∙ sym (nat_le-not_lt (reservable_from cooldown) t)

  alike_where : (a b c : Bool) → (a ≡ true → b ≡ c) → (a && b) ≡ (a && c)
  alike_where true b c h = h refl
  alike_where false b c h = refl

  shown_may_dial : (p : C) (sets : List (SetAt C)) (cooldown : Option Cooldown) (peer : Peer C S) (unblock : Option ℕ) (t : ℕ) →
      (not (is_blocked unblock t) && option_map_or (may_be_dialled t s.allow_private_ips s.allow_dns)
      (shown s p sets cooldown peer) false) ≡ World.may_dial s p t sets peer unblock cooldown
  shown_may_dial p sets cooldown peer unblock t = go (is_present_with s p sets peer.status) refl
      ∙ shuffle (is_target s p sets peer) free (nat_le (reservable_from cooldown) t)
    where
      free : Bool
      free = not (is_blocked unblock t)

      go : (b : Bool) → is_present_with s p sets peer.status ≡ b →
          (free && option_map_or (may_be_dialled t s.allow_private_ips s.allow_dns)
          (if b then Some (record_with s p sets cooldown peer) else None) false)
          ≡ (free && (is_target s p sets peer && nat_le (reservable_from cooldown) t))
      go true h =
          (λ i. free && (shown_candidate p sets cooldown peer i
          && is_grant (reserve_answer t (record_with s p sets cooldown peer))))
          ∙ ap (λ b. free && b) (alike_where (is_target s p sets peer) _ _
          (target_reserved p sets cooldown peer t))
      go false h =
          ap (λ b. free && (b && nat_le (reservable_from cooldown) t))
          (sym (absent_no_target p sets peer h))

  -- DIALS

  pub tie_may_listen : (w : World C S) (d : DirectoryView C S) (p : C) (t : ℕ) → Refines s w d →
      may_listen_in s.cmp d t p ≡ World.may_listen s p t w.sets (w.peer p) (w.unblock p) (w.cooldown p)
  tie_may_listen w d p t stands =
      (λ i. not (is_blocked (stands.blocks p i) t) && option_map_or (may_come t) (stands.records p i) false)
      ∙ shown_may_come s p w.sets (w.cooldown p) (w.peer p) (w.unblock p) t

  -- a listen does what it may
  granted_is : (p : C) (t draw : ℕ) (granted : Bool) → was_granted (World.listen_event s p t draw granted) ≡ granted
  granted_is p t draw true = refl
  granted_is p t draw false = refl

  pub tie_may_dial : (w : World C S) (d : DirectoryView C S) (p : C) (t : ℕ) → Refines s w d →
      may_dial_in s.cmp d t p ≡ World.may_dial s p t w.sets (w.peer p) (w.unblock p) (w.cooldown p)
  tie_may_dial w d p t stands =
      (λ i. not (is_blocked (stands.blocks p i) t) && option_map_or
      (may_be_dialled t (stands.config i).allow_private_ips (stands.config i).allow_dns) (stands.records p i)
      false)
      ∙ shown_may_dial p w.sets (w.cooldown p) (w.peer p) (w.unblock p) t

  -- the ingress that is kept of a peer that may be dialled
  pub tie_ingress : (w : World C S) (d : DirectoryView C S) (p : C) (t : ℕ) → Refines s w d →
      World.may_dial s p t w.sets (w.peer p) (w.unblock p) (w.cooldown p) ≡ true →
      ingress_in s.cmp d p ≡ World.address_with s p (w.peer p).known.info
  tie_ingress w d p t stands may = ap (option_and_then (λ r. ingress_of r.address)) (stands.records p) ∙ go (is_present_in s w p) refl (is_own s p) refl
    where
      entitled : is_entitled s p w.sets ≡ true
      entitled = (dialled_is_target s p w.sets (w.peer p) t (w.unblock p) (w.cooldown p) may).entitled_is

      given : (o : Option Ingress) → ingress_of {C = C} {S = S} (address_given o) ≡ o
      given None = refl
      given (Some a) = refl

      known_by : (info : Option (Info C S)) →
          ingress_of (address_known (last_ingress s p s.bootstrappers) (w.peer p).known.fails info)
          ≡ World.address_with s p info
      known_by None = given (last_ingress s p s.bootstrappers)
      known_by (Some i) = refl

      go : (b : Bool) → is_present_in s w p ≡ b → (own : Bool) → is_own s p ≡ own →
          option_and_then (λ r. ingress_of r.address)
          (if b then Some (record_with s p w.sets (w.cooldown p) (w.peer p)) else None)
          ≡ World.address_with s p (w.peer p).known.info
      go true h true o = absurd (let f = sym (ap (λ b. not b && (is_named s p w.sets || is_persistent s p)) o) ∙ entitled in cc)
      go true h false o =
          (λ i. ingress_of (if o i then Myself s.own else address_known (last_ingress s p s.bootstrappers) (w.peer p).known.fails (w.peer p).known.info))
          ∙ known_by (w.peer p).known.info
      go false h own o =
          absurd (let f =
          sym (absent_not_entitled s (is_own s p) (is_named s p w.sets) (is_persistent s p)
          (is_inert (w.peer p).status) h) ∙ entitled in cc)

  -- DIALABLE

  shown_dialable : (p : C) (sets : List (SetAt C)) (cooldown : Option Cooldown) (peer : Peer C S) (unblock : Option ℕ) (t : ℕ) →
      (not (is_blocked unblock t) && option_map_or (λ r. is_now (dial_status t s.allow_private_ips s.allow_dns r)) (shown s p sets cooldown peer) false)
      ≡ Answers.is_dialable_with s p t sets peer unblock cooldown
  shown_dialable p sets cooldown peer unblock t = go (is_present_with s p sets peer.status) refl
      ∙ shuffle (is_target s p sets peer) free (nat_le (dialable_from cooldown) t)
    where
      free : Bool
      free = not (is_blocked unblock t)

      go : (b : Bool) → is_present_with s p sets peer.status ≡ b →
          (free && option_map_or (λ r. is_now (dial_status t s.allow_private_ips s.allow_dns r))
          (if b then Some (record_with s p sets cooldown peer) else None) false)
          ≡ (free && (is_target s p sets peer && nat_le (dialable_from cooldown) t))
      go true h =
          (λ i. free && is_now
          (if not (shown_candidate p sets cooldown peer i) then DialView.Unavailable else if nat_lt t
          (dialable_from cooldown) then DialView.After (dialable_from cooldown) else DialView.Now))
          ∙ ap (λ b. free && b) (later_parts (is_target s p sets peer) (dialable_from cooldown) t)
      go false h = ap (λ b. free && (b && nat_le (dialable_from cooldown) t)) (sym (absent_no_target p sets peer h))

  shown_query : (p : C) (sets : List (SetAt C)) (cooldown : Option Cooldown) (peer : Peer C S) (unblock : Option ℕ) (t : ℕ) →
      option_and_then
      (λ r. if is_blocked unblock t then unblock else later_moment
      (dial_status t s.allow_private_ips s.allow_dns r)) (shown s p sets cooldown peer)
      ≡ (if is_blocked unblock t then (if is_present_with s p sets peer.status then unblock else None)
      else if is_target s p sets peer && nat_lt t (dialable_from cooldown) then Some (dialable_from cooldown) else None)
  shown_query p sets cooldown peer unblock t = go (is_present_with s p sets peer.status) refl
    where
      nothing : Option ℕ
      nothing = None

      none : (b : Bool) → nothing ≡ (if b then nothing else nothing)
      none true = refl
      none false = refl

      go : (b : Bool) → is_present_with s p sets peer.status ≡ b →
          option_and_then
          (λ r. if is_blocked unblock t then unblock else later_moment
          (dial_status t s.allow_private_ips s.allow_dns r))
          (if b then Some (record_with s p sets cooldown peer) else None)
          ≡ (if is_blocked unblock t then (if b then unblock else None) else if is_target s p sets peer &&
          nat_lt t (dialable_from cooldown) then Some (dialable_from cooldown) else None)
      go true h =
          (λ i. if is_blocked unblock t then unblock
          else later_moment
          (if not (shown_candidate p sets cooldown peer i) then DialView.Unavailable else if nat_lt t
          (dialable_from cooldown) then DialView.After (dialable_from cooldown) else DialView.Now))
          ∙ ap (λ o. if is_blocked unblock t then unblock else o) (later_moments (is_target s p sets peer) (dialable_from cooldown) t)
      go false h =
          none (is_blocked unblock t)
          ∙ ap (λ b. if is_blocked unblock t then None else if b && nat_lt t (dialable_from cooldown)
          then Some (dialable_from cooldown) else None) (sym (absent_no_target p sets peer h))

  pub tie_is_dialable : (w : World C S) (d : DirectoryView C S) (t : ℕ) → Refines s w d → (p : C) → is_dialable_in s.cmp d t p ≡ is_dialable s w t p
  tie_is_dialable w d t stands p =
      (λ i. not (is_blocked (stands.blocks p i) t) && option_map_or
      (λ r. is_now (dial_status t (stands.config i).allow_private_ips (stands.config i).allow_dns r))
      (stands.records p i) false)
      ∙ shown_dialable p w.sets (w.cooldown p) (w.peer p) (w.unblock p) t

  tie_query : (w : World C S) (d : DirectoryView C S) (t : ℕ) → Refines s w d → (p : C) → query_moment_in s.cmp d t p ≡ query_moment s w t p
  tie_query w d t stands p =
      (λ i. option_and_then
      (λ r. if is_blocked (stands.blocks p i) t then stands.blocks p i else later_moment
      (dial_status t (stands.config i).allow_private_ips (stands.config i).allow_dns r)) (stands.records p i))
      ∙ shown_query p w.sets (w.cooldown p) (w.peer p) (w.unblock p) t

  pub tie_dialable : (w : World C S) (d : DirectoryView C S) (t : ℕ) (ps : List C) (next : Option ℕ) →
      Refines s w d → AreDialableIn s.cmp d t ps next → IsDialable s w t ps next
  tie_dialable w d t ps next stands told = (
    lists_alike s.cmp (is_dialable_in s.cmp d t) (is_dialable s w t) ps (tie_is_dialable w d t stands) told.0,
    Listed.least_alike (query_moment_in s.cmp d t) (query_moment s w t) next (λ p. sym (tie_query w d t stands p)) told.1,
  )

  -- all answers of this file
  pub answer : (w : World C S) (d : DirectoryView C S) → Refines s w d → DialsAnswerAs s w d
  answer w d refines = record {
    dialable = λ t ps next. tie_dialable w d t ps next refines;
    listens = λ p t. tie_may_listen w d p t refines;
    grants = λ p t draw. granted_is p t draw (World.may_listen s p t w.sets (w.peer p) (w.unblock p) (w.cooldown p));
    dials = λ p t. tie_may_dial w d p t refines;
  }
