-- What is known of peers: that connects and updates are steps of the world that a directory refines, and what it tells of them.
use Rattle.std.proofs.Common.{◌≡◌, ℕ, ◌-◌, ◌^◌, ◌<◌, min, Bool, true, false, ◌||◌, ◌&&◌, not, List, [], Option, Some, None, sym, ap, refl, ◌∙◌, length, map, arith, zip, filter_map, ◌==◌}
use Rattle.std.specs.Prelude.{if◌then◌else◌, nat_lt, nat_le, slice_get}
use Rattle.std.specs.declared.cmp.Ordering.TheVariants.{Equal}
use Rattle.std.specs.BTreeMap.{is_at}
use Rattle.std.specs.Cmp.{IsTotalOrder}
use Rattle.std.specs.List.{list_any}
use Rattle.std.specs.List.Sorted.{IsStrictlySortedBy}
use Rattle.std.specs.Map.{keys_of}
use Rattle.std.specs.Option.{option_map, option_map_or, option_and_then}
use Rattle.std.proofs.lemmas.Bool.Decides.{nat_tests}
use Rattle.std.proofs.lemmas.Map.Views.{tells_apart}
use Rattle.std.proofs.Math.Bool.{or-true}
use Rattle.p2p_discovery.specs.declared.discovery.Info.{Info}
use Rattle.p2p_discovery.specs.declared.types.ingress.Ingress.{Ingress}
use Rattle.p2p_tracker.specs.declared.record.Address.TheVariants.{Myself, Discovered}
use Rattle.p2p_tracker.specs.declared.record.Status.{Status}
use Rattle.p2p_tracker.specs.declared.record.Status.TheVariants.{Inert, Reserved, Active}
use Rattle.p2p_tracker.specs.Calls.{Settings, SetAt, Cooldown}
use Rattle.p2p_tracker.specs.Calls.Event.{Connected, Updated}
use Rattle.p2p_tracker.specs.History.{same, is_own, is_persistent, is_named, is_present_with, is_newer, primary_count, secondary_count}
use Rattle.p2p_tracker.specs.Status.{is_inert, is_reserved}
use Rattle.p2p_tracker.specs.Lists.{first_greatest}
use Rattle.p2p_tracker.specs.World.{World, Known, Peer, last_ingress, new_known, world_with, status_connected}
use Rattle.p2p_tracker.specs.Cooldowns.{reservable_from, dialable_from}
use Rattle.p2p_tracker.specs.World
use Rattle.p2p_tracker.specs.Answers.{is_present_in, wants, wants_with, active_info, sharable_of, sharable_info, ingress_with, held_ingress, shared_info, infos_for, IsNumberTracked}
use Rattle.p2p_tracker.specs.Moments.{epoch_millis}
use Rattle.p2p_tracker.specs.PeerSets.{set_with}
use Rattle.p2p_tracker.specs.Record.{is_myself, after_success, address_after_offer, address_after_infos, wants_by, sharable_by, ingress_of}
use Rattle.p2p_tracker.specs.Seen.{RecordView, DirectoryView, record_of}
use Rattle.p2p_tracker.specs.Directory.{connected_record, updated_record, infos_of, sharable_in, sharable_of_record, ingress_in, shared_at, infos_in, is_known, bit_vec_at, other_keys, Connects, Updates}
use Rattle.p2p_directory.specs.Refinement.{Refines, address_given, address_known, address_of}
use Rattle.p2p_directory.specs.Run.{bit_vec_of, bit_vec_in}
use Rattle.p2p_tracker.proofs.SetsAndRecords.Listing.{listed_by_value}
use Rattle.p2p_tracker.proofs.Definitions.Knowledge.{later, updated_all_with_best}
use Rattle.p2p_directory.proofs.Refinement.RecordOfPeer.{record_with, shown, myself_is_own, absent_parts, inert_only}
use Rattle.p2p_directory.proofs.Refinement.CallsRefine.{tie_status, same_blocks, same_cooldowns, unchanged, remains}
use Rattle.p2p_directory.specs.Laws.Refined.{KnowledgeAnswersAs}

-- the cap of failures is above each limit
capped : (limit fails : ℕ) → limit < 2 ^ 64 → nat_le limit (min fails (2 ^ 64 - 1)) ≡ nat_le limit fails
capped limit fails fits = grind (arith, nat_tests)

module _ {C S : Type 0} (s : Settings C S) where
  -- ADDRESSES

  succeeded_given : (given : Option Ingress) → after_success {C = C} {S = S} (address_given given) ≡ address_given given
  succeeded_given None = refl
  succeeded_given (Some ingress) = refl

  -- no failure is left
  succeeded : (p : C) (k : Known C S) → after_success (address_of s p k) ≡ address_of s p (record k { fails = 0 })
  succeeded p k = go (is_own s p) k.info
    where
      given : Option Ingress
      given = last_ingress s p s.bootstrappers

      go : (own : Bool) (info : Option (Info C S)) →
          after_success (if own then Myself s.own else address_known given k.fails info) ≡ (if own then Myself s.own else address_known given 0 info)
      go false None = succeeded_given given
      go _ _ = refl

  connected_address : (p : C) (k : Known C S) (dialer : Bool) →
      (if dialer then after_success (address_of s p k) else address_of s p k) ≡ address_of s p (if dialer then record k { fails = 0 } else k)
  connected_address p k true = succeeded p k
  connected_address p k false = refl

  -- the best of the infos is known then
  offered_given : (given : Option Ingress) (j : Info C S) → address_after_offer (Some j) (address_given given) ≡ Discovered j 0
  offered_given None j = refl
  offered_given (Some ingress) j = refl

  offered : (given : Option Ingress) (fails : ℕ) (info x : Option (Info C S)) →
      address_after_offer x (address_known given fails info) ≡ address_known given (if is_newer info x then 0 else fails) (later info x)
  offered given fails None None = refl
  offered given fails (Some i) None = refl
  offered given fails None (Some j) = offered_given given j
  offered given fails (Some i) (Some j) = go (nat_lt i.timestamp j.timestamp)
    where
      go : (b : Bool) → (if b then Discovered j 0 else Discovered i (min fails (2 ^ 64 - 1)))
          ≡ address_known given (if b then 0 else fails) (if b then Some j else Some i)
      go true = refl
      go false = refl

  own_offered : (x : Option (Info C S)) → address_after_offer x (Myself s.own) ≡ Myself s.own
  own_offered None = refl
  own_offered (Some i) = refl

  -- what an update makes of what is known of p
  abbrev updated_known : C → List (Info C S) → Known C S → Known C S
  updated_known p is k = if is_own s p then k else World.known_with_infos s k is

  updated_address : (p : C) (is : List (Info C S)) (k : Known C S) → address_after_infos is (address_of s p k) ≡ address_of s p (updated_known p is k)
  updated_address p is k = go (is_own s p)
    where
      given : Option Ingress
      given = last_ingress s p s.bootstrappers

      known : (own : Bool) → Known C S
      known own = if own then k else World.known_with_infos s k is

      go : (own : Bool) → address_after_infos is (if own then Myself s.own else address_known given k.fails k.info)
          ≡ (if own then Myself s.own else address_known given (known own).fails (known own).info)
      go true = own_offered (first_greatest is)
      go false = offered given k.fails k.info (first_greatest is) ∙ ap (λ x. address_known given x.fails x.info) (sym (updated_all_with_best s k is))

  -- RECORDS

  updated_shown : (p : C) (sets : List (SetAt C)) (cooldown : Option Cooldown) (peer : Peer C S) (is : List (Info C S)) →
      updated_record is (record_with s p sets cooldown peer)
      ≡ record_with s p sets cooldown (record { status = peer.status; known = updated_known p is peer.known })
  updated_shown p sets cooldown peer is =
      λ i. record {
        address = updated_address p is peer.known i;
        status = peer.status;
        primary_sets = primary_count s p sets;
        secondary_sets = secondary_count s p sets;
        persistent = is_persistent s p;
        next_reservable_at = reservable_from cooldown;
        next_dial_at = dialable_from cooldown;
      }

  abbrev connected_known : Bool → Known C S → Known C S
  connected_known dialer k = if dialer then record k { fails = 0 } else k

  connected_shown : (p : C) (sets : List (SetAt C)) (cooldown : Option Cooldown) (peer : Peer C S) (dialer : Bool) →
      connected_record dialer (record_with s p sets cooldown peer)
      ≡ record_with s p sets cooldown (record { status = Active; known = connected_known dialer peer.known })
  connected_shown p sets cooldown peer dialer =
      λ i. record {
        address = connected_address p peer.known dialer i;
        status = Active;
        primary_sets = primary_count s p sets;
        secondary_sets = secondary_count s p sets;
        persistent = is_persistent s p;
        next_reservable_at = reservable_from cooldown;
        next_dial_at = dialable_from cooldown;
      }

  -- the status of what is kept of p is reserved where p is
  pub tie_reserved : (w : World C S) (d : DirectoryView C S) (p : C) → Refines s w d →
      option_map_or is_reserved (option_map (λ r. r.status) (record_of s.cmp d p)) false ≡ is_reserved (w.peer p).status
  tie_reserved w d p stands = ap (λ o. option_map_or is_reserved o false) (tie_status s w d p stands)
      ∙ go (is_persistent s p || is_named s p w.sets) (w.peer p).status
    where
      go : (wanted : Bool) (status : Status) →
          option_map_or is_reserved (if wanted || not (is_inert status) then Some status else None) false
          ≡ is_reserved status
      go true Inert = refl
      go true Reserved = refl
      go true Active = refl
      go false Inert = refl
      go false Reserved = refl
      go false Active = refl

  -- CHANGES

  pub tie_update : (w : World C S) (d d' : DirectoryView C S) (infos : List (Info C S)) → Refines s w d →
      Updates s.cmp d d' infos → Refines s (world_with s (Updated infos) w) d'
  tie_update w d d' infos stands change = record {
    config = change.config ∙ stands.config;
    sets = change.sets ∙ stands.sets;
    blocks = same_blocks s w d d' stands change.blocks;
    cooldowns = same_cooldowns s w d d' stands change.cooldowns;
    records = λ q.
        change.records q
        ∙ ap (option_map (updated_record (infos_of s.cmp infos q))) (stands.records q)
        ∙ go q (is_present_with s q w.sets (w.peer q).status);
  }
    where
      go : (q : C) (b : Bool) →
          option_map (updated_record (infos_of s.cmp infos q))
          (if b then Some (record_with s q w.sets (w.cooldown q) (w.peer q)) else None)
          ≡ (if b
          then Some (record_with s q w.sets (w.cooldown q)
          (record {
            status = (w.peer q).status;
            known =
                if b then updated_known q (infos_of s.cmp infos q) (w.peer q).known else new_known s q;
          }))
          else None)
      go q true = ap Some (updated_shown q w.sets (w.cooldown q) (w.peer q) (infos_of s.cmp infos q))
      go q false = refl

  module _ (exact : (p q : C) → s.cmp p q ≡ Equal → p ≡ q) where
    pub tie_connect : (w : World C S) (d d' : DirectoryView C S) (p : C) (dialer : Bool) → Refines s w d →
        (w.peer p).status ≡ Reserved → Connects s.cmp d d' p dialer →
        Refines s (world_with s (Connected p dialer) w) d'
    tie_connect w d d' p dialer stands reserved change = record {
      config = change.config ∙ stands.config;
      sets = change.sets ∙ stands.sets;
      blocks = same_blocks s w d d' stands change.blocks;
      cooldowns = same_cooldowns s w d d' stands change.cooldowns;
      records = λ q. change.records q ∙ at q (is_at (s.cmp p) q) refl;
    }
      where
        at : (q : C) (b : Bool) → is_at (s.cmp p) q ≡ b →
            (if is_at (s.cmp p) q then option_map (connected_record dialer) (record_of s.cmp d q) else record_of s.cmp d q)
            ≡ shown s q w.sets (w.cooldown q) (World.peer_after s q (Connected p dialer) w.sets (w.peer q))
        at q b e = (λ i. changed (e i)) ∙ go b e ∙ (λ i. left (sym e i))
          where
            st : Status
            st = (w.peer q).status

            k : Known C S
            k = (w.peer q).known

            changed : Bool → Option (RecordView C S)
            changed same = if same then option_map (connected_record dialer) (record_of s.cmp d q) else record_of s.cmp d q

            left : Bool → Option (RecordView C S)
            left same = shown s q w.sets (w.cooldown q) (record {
              status = if same then status_connected s st else st;
              known = if is_present_with s q w.sets (if same then status_connected s st else st)
                  then (if same && dialer then record k { fails = 0 } else k) else new_known s q;
            })

            go : (same : Bool) → is_at (s.cmp p) q ≡ same → changed same ≡ left same
            go true e =
                let is : st ≡ Reserved = ap (λ x. (w.peer x).status) (sym (tells_apart exact p q e)) ∙ reserved in
                let here : is_present_with s q w.sets st ≡ true = ap (is_present_with s q w.sets) is ∙ or-true (is_persistent s q || is_named s q w.sets) in
                ap (option_map (connected_record dialer))
                (stands.records q
                ∙ (λ i. if here i then Some (record_with s q w.sets (w.cooldown q) (w.peer q)) else None))
                ∙ ap Some (connected_shown q w.sets (w.cooldown q) (w.peer q) dialer)
                ∙ remains s q w.sets (w.cooldown q) Active (connected_known dialer k) (or-true (is_persistent s q || is_named s q w.sets))
                ∙ (λ i. shown s q w.sets (w.cooldown q) (record {
                  status = status_connected s (sym is i);
                  known = if is_present_with s q w.sets (status_connected s (sym is i)) then connected_known dialer k else new_known s q;
                }))
            go false e = stands.records q ∙ unchanged s q w.sets (w.cooldown q) (w.peer q)

  -- WHAT MAY BE SHARED

  shared_given : (given : Option Ingress) (status : Status) → sharable_by {C = C} {S = S} status (address_given given) ≡ None
  shared_given None status = refl
  shared_given (Some ingress) status = refl

  shared_known : (given : Option Ingress) (fails : ℕ) (status : Status) (info : Option (Info C S)) →
      sharable_by status (address_known given fails info) ≡ active_info s status info
  shared_known given fails Active None = shared_given given Active
  shared_known given fails Inert None = shared_given given Inert
  shared_known given fails Reserved None = shared_given given Reserved
  shared_known given fails Active (Some i) = refl
  shared_known given fails Inert (Some i) = refl
  shared_known given fails Reserved (Some i) = refl

  pub tie_info : (w : World C S) (d : DirectoryView C S) (p : C) → Refines s w d → sharable_in s.cmp d p ≡ sharable_info s w p
  tie_info w d p stands = ap told (stands.records p) ∙ go (is_present_with s p w.sets (w.peer p).status) refl
    where
      peer : Peer C S
      peer = w.peer p

      told : Option (RecordView C S) → Option (Info C S)
      told o = elim o [ None ↦ None | Some r ↦ sharable_of_record r ]

      present : (own : Bool) →
          sharable_by peer.status
          (if own then Myself s.own else address_known (last_ingress s p s.bootstrappers) peer.known.fails
          peer.known.info)
          ≡ (if own then Some s.own else active_info s peer.status peer.known.info)
      present true = refl
      present false = shared_known (last_ingress s p s.bootstrappers) peer.known.fails peer.status peer.known.info

      go : (b : Bool) → is_present_with s p w.sets peer.status ≡ b →
          told (if b then Some (record_with s p w.sets (w.cooldown p) peer) else None) ≡ sharable_of s p peer
      go true e = present (is_own s p)
      go false e =
          let parts = absent_parts s (is_own s p) (list_any (λ b. same s b.0 p) s.bootstrappers) (is_named s p w.sets) (is_inert peer.status) e in
          sym (λ i. if parts.0 i then Some s.own else active_info s (inert_only s peer.status parts.2 i) peer.known.info)

  -- the address that is held of a present peer
  held_given : (given : Option Ingress) → ingress_of {C = C} {S = S} (address_given given) ≡ given
  held_given None = refl
  held_given (Some ingress) = refl

  held_known : (p : C) (fails : ℕ) (info : Option (Info C S)) →
      ingress_of (address_known (last_ingress s p s.bootstrappers) fails info) ≡ World.address_with s p info
  held_known p fails None = held_given (last_ingress s p s.bootstrappers)
  held_known p fails (Some i) = refl

  pub tie_held_ingress : (w : World C S) (d : DirectoryView C S) (p : C) → Refines s w d → ingress_in s.cmp d p ≡ held_ingress s w p
  tie_held_ingress w d p stands = ap (option_and_then (λ r. ingress_of r.address)) (stands.records p) ∙ go (is_present_in s w p)
    where
      peer : Peer C S
      peer = w.peer p

      present : (own : Bool) →
          ingress_of (if own then Myself s.own else address_known (last_ingress s p s.bootstrappers) peer.known.fails peer.known.info)
          ≡ (if own then Some s.own.ingress else World.address_with s p peer.known.info)
      present true = refl
      present false = held_known p peer.known.fails peer.known.info

      go : (b : Bool) →
          option_and_then (λ r. ingress_of r.address)
          (if b then Some (record_with s p w.sets (w.cooldown p) peer) else None)
          ≡ (if b then ingress_with s p peer else None)
      go true = present (is_own s p)
      go false = refl

  -- of a peer with its bit
  told_alike : (w : World C S) (d : DirectoryView C S) (millis : ℕ) (e : C × Bool) → Refines s w d →
      shared_at s.cmp d.records millis e ≡ shared_info s w millis e
  told_alike w d millis (q, true) stands = refl
  told_alike w d millis (q, false) stands = ap (timely millis) (tie_info w d q stands)
    where
      timely : ℕ → Option (Info C S) → Option (Info C S)
      timely millis o = elim o [ None ↦ None | Some i ↦ if nat_le i.timestamp millis then Some i else None ]

  pub tie_infos : (w : World C S) (d : DirectoryView C S) (index : ℕ) (bits : List Bool) (t : ℕ) → Refines s w d →
      infos_in s.cmp d index bits t ≡ infos_for s w index bits t
  tie_infos w d index bits t stands = λ i. answered (λ e. told_alike w d (epoch_millis t) e stands i) (set_with index (stands.sets i))
    where
      answered : (C × Bool → Option (Info C S)) → Option (SetAt C) → Option (List (Info C S))
      answered told o = elim o [
        | None ↦ Some []
        | Some x ↦ if length bits == length x.primary then Some (filter_map told (zip x.primary bits)) else None
      ]

  -- BITS

  wanted_given : (limit : ℕ) (given : Option Ingress) (status : Status) → wants_by {C = C} {S = S} limit status (address_given given) ≡ true
  wanted_given limit None status = refl
  wanted_given limit (Some ingress) status = refl

  wanted_known : s.dial_fail_limit < 2 ^ 64 → (given : Option Ingress) (fails : ℕ) (status : Status) (info : Option (Info C S)) →
      wants_by s.dial_fail_limit status (address_known given fails info) ≡ wants_with s status fails info
  wanted_known fits given fails Active None = wanted_given s.dial_fail_limit given Active
  wanted_known fits given fails Inert None = wanted_given s.dial_fail_limit given Inert
  wanted_known fits given fails Reserved None = wanted_given s.dial_fail_limit given Reserved
  wanted_known fits given fails Active (Some i) = refl
  wanted_known fits given fails _ (Some i) = capped s.dial_fail_limit fails fits

  known_shown : s.dial_fail_limit < 2 ^ 64 →
      (sets : List (SetAt C)) (q : C) (cooldown : Option Cooldown) (peer : Peer C S) →
      (is_present_with s q sets peer.status ≡ false → peer.known ≡ new_known s q) →
      is_known s.dial_fail_limit (shown s q sets cooldown peer) ≡ not (wants s q peer)
  known_shown fits sets q cooldown peer forgotten = go (is_present_with s q sets peer.status) refl
    where
      present : (own : Bool) →
          wants_by s.dial_fail_limit peer.status
          (if own then Myself s.own else address_known (last_ingress s q s.bootstrappers) peer.known.fails
          peer.known.info)
          ≡ (not own && wants_with s peer.status peer.known.fails peer.known.info)
      present true = refl
      present false = wanted_known fits (last_ingress s q s.bootstrappers) peer.known.fails peer.status peer.known.info

      go : (b : Bool) → is_present_with s q sets peer.status ≡ b →
          is_known s.dial_fail_limit (if b then Some (record_with s q sets cooldown peer) else None)
          ≡ not (wants s q peer)
      go true e = ap not (present (is_own s q))
      go false e =
          let parts = absent_parts s (is_own s q) (list_any (λ b. same s b.0 q) s.bootstrappers) (is_named s q sets) (is_inert peer.status) e in
          sym ((λ i. not (not (parts.0 i) && wants_with s (inert_only s peer.status parts.2 i) (forgotten e i).fails (forgotten e i).info))
          ∙ ap (λ own. not (wants_with s Inert 0 (if own then Some s.own else None))) parts.0)

  bits_fused : {A B D : Type 0} (f : A → B) (g : B → D) (h : A → D) → ((a : A) → h a ≡ g (f a)) → (o : Option A) →
      option_map h o ≡ option_map g (option_map f o)
  bits_fused f g h same None = refl
  bits_fused f g h same (Some a) = ap Some (same a)

  pub tie_bits : s.dial_fail_limit < 2 ^ 64 → (w : World C S) (d : DirectoryView C S) (place : ℕ) →
      ((p : C) → is_present_in s w p ≡ false → (w.peer p).known ≡ new_known s p) → Refines s w d →
      bit_vec_at s.cmp d place ≡ bit_vec_in s w place
  tie_bits fits w d place forgotten stands =
      (λ i. option_map (λ (set : SetAt C). record { index = set.index; bits = map (λ q. known q i) set.primary }) (slice_get (stands.sets i) place))
      ∙ bits_fused (λ (x : SetAt C). (x.index, map (λ q. not (wants s q (w.peer q))) x.primary)) bit_vec_of
      (λ x. record { index = x.index; bits = map (λ q. not (wants s q (w.peer q))) x.primary }) (λ x. refl)
      (slice_get w.sets place)
    where
      known : (q : C) → is_known d.config.dial_fail_limit (record_of s.cmp d q) ≡ not (wants s q (w.peer q))
      known q = (λ i. is_known (stands.config i).dial_fail_limit (stands.records q i)) ∙ known_shown fits w.sets q (w.cooldown q) (w.peer q) (forgotten q)

  -- HOW MANY

  -- of a peer whose record is kept, whether it is another than the own one
  other_shown : (p : C) (sets : List (SetAt C)) (cooldown : Option Cooldown) (peer : Peer C S) →
      option_map_or (λ (r : RecordView C S). not (is_myself r.address)) (shown s p sets cooldown peer) false
      ≡ (is_present_with s p sets peer.status && not (is_own s p))
  other_shown p sets cooldown peer = go (is_present_with s p sets peer.status)
    where
      go : (b : Bool) →
          option_map_or (λ (r : RecordView C S). not (is_myself r.address))
          (if b then Some (record_with s p sets cooldown peer) else None) false ≡ (b && not (is_own s p))
      go true = ap not (myself_is_own s p peer.known)
      go false = refl

  pub tie_tracked : IsTotalOrder s.cmp → (w : World C S) (d : DirectoryView C S) → Refines s w d →
      IsStrictlySortedBy s.cmp (keys_of d.records) → IsNumberTracked s w (length (other_keys d.records))
  tie_tracked total w d stands up =
      let lists = listed_by_value total (λ (r : RecordView C S). not (is_myself r.address)) d.records up in (
        other_keys d.records,
        record {
          sorted = lists.sorted;
          members = λ p. lists.members p
              ∙ ap (λ o. option_map_or (λ (r : RecordView C S). not (is_myself r.address)) o false)
              (stands.records p) ∙ other_shown p w.sets (w.cooldown p) (w.peer p);
        },
        refl,
      )

  -- all answers of this file
  pub answer : IsTotalOrder s.cmp → s.dial_fail_limit < 2 ^ 64 → (w : World C S) (d : DirectoryView C S) →
      ((p : C) → is_present_in s w p ≡ false → (w.peer p).known ≡ new_known s p) → Refines s w d →
      KnowledgeAnswersAs s w d
  answer total fits w d forgotten refines = record {
    tracked = tie_tracked total w d refines;
    info = λ p. tie_info w d p refines;
    ingress = λ p. tie_held_ingress w d p refines;
    infos = λ index bits t. tie_infos w d index bits t refines;
    bits = λ place. tie_bits fits w d place forgotten refines;
  }
