-- What a call changes of a directory is a step of the world that it refines.
use Rattle.std.proofs.Common.{◌≡◌, ℕ, suc, Bool, true, false, ◌||◌, ◌&&◌, not, List, [], ◌∷◌, ◌++◌, Option, Some, None, sym, ap, subst, refl, ◌∙◌}
use Rattle.std.specs.Prelude.{if◌then◌else◌, is_some, nat_lt, nat_le}
use Rattle.std.specs.declared.cmp.Ordering.TheVariants.{Equal}
use Rattle.std.specs.BTreeMap.{is_at}
use Rattle.std.specs.Option.{option_map, option_map_or}
use Rattle.std.specs.List.{list_any, list_all, last_or}
use Rattle.std.proofs.lemmas.Map.Views.{tells_apart}
use Rattle.std.proofs.Math.Bool.{or-true}
use Rattle.p2p_discovery.specs.declared.types.ingress.Ingress.{Ingress}
use Rattle.p2p_tracker.specs.Blocks.{is_blocked, unblock_in}
use Rattle.p2p_tracker.specs.declared.record.Address.TheVariants.{Myself, Bootstrapper}
use Rattle.p2p_tracker.specs.declared.record.Status.{Status}
use Rattle.p2p_tracker.specs.declared.record.Status.TheVariants.{Inert, Reserved}
use Rattle.p2p_tracker.specs.Calls.{Settings, Call, SetAt, Direction, Grant, Cooldown}
use Rattle.p2p_tracker.specs.Calls.Event.{SetTaken, Granted, Released, Forgot}
use Rattle.p2p_tracker.specs.History.{same, is_own, is_persistent, is_named, is_present_with}
use Rattle.p2p_tracker.specs.Status.{is_inert}
use Rattle.p2p_tracker.specs.World
use Rattle.p2p_tracker.specs.World.{World, Known, Peer, may_listen, new_known, world_with}
use Rattle.p2p_tracker.specs.Lists.{last_ingress_by, last_of}
use Rattle.p2p_tracker.specs.Cooldowns.{reservable_from, cooldown_in, unless_cooled}
use Rattle.p2p_tracker.specs.Answers.{is_present_in, IsTeardown, status_in, is_cooled_by, is_cooled_at, IsNumberCooled}
use Rattle.p2p_tracker.specs.Record.{new_record, with_cooldown, is_eligible, reserved_record, unless_deletable}
use Rattle.p2p_tracker.specs.Seen.{RecordView, DirectoryView, unblock_of, cooldown_of, record_of, peers_of}
use Rattle.p2p_tracker.specs.Moments.{moments_after}
use Rattle.p2p_tracker.specs.PeerSets.{latest_index, is_above, set_with}
use Rattle.p2p_tracker.specs.Directory.{is_cooled_in, IsNumberCooledIn, ForgetsCooled, first_record, kept_after_release, record_with_sets, is_connectable, ChangesRecord, Reserves, TakesSet, AreTornDown}
use Rattle.p2p_directory.specs.Refinement.{Refines, config_of, metadata_of, address_known}
use Rattle.p2p_directory.proofs.Refinement.RecordOfPeer.{record_with, shown, shown_entitled, shown_busy, shown_with_sets, some_given, release_of_record, settled, failed_once}
use Rattle.p2p_tracker.proofs.Definitions.Listed.{lists_alike}
use Rattle.p2p_directory.proofs.Definitions.Start.{new_world, new_at_start}
use Rattle.p2p_directory.proofs.Definitions.Latest
use Rattle.p2p_directory.proofs.Definitions.Latest.{latest_decides}
use Rattle.p2p_directory.specs.Laws.Refined.{CallsAnswerAs}

above_latest : {C : Type 0} (index : ℕ) (o : Option (SetAt C)) → is_above index (option_map (λ set. set.index) o) ≡ Latest.is_above index o
above_latest index None = refl
above_latest index (Some set) = refl

module _ {C S : Type 0} (s : Settings C S) where
  -- QUESTIONS

  pub tie_status : (w : World C S) (d : DirectoryView C S) (p : C) → Refines s w d → option_map (λ r. r.status) (record_of s.cmp d p) ≡ status_in s w p
  tie_status w d p stands = ap (option_map (λ r. r.status)) (stands.records p) ∙ go (is_present_in s w p)
    where
      go : (b : Bool) →
          option_map (λ r. r.status) (if b then Some (record_with s p w.sets (w.cooldown p) (w.peer p)) else None)
          ≡ (if b then Some (w.peer p).status else None)
      go true = refl
      go false = refl

  pub tie_above : (cs : List (Call C S)) (d : DirectoryView C S) (index : ℕ) → Refines s (World.world_at s (World.past s cs)) d →
      is_above index (latest_index d.sets) ≡ list_all (λ x. nat_lt x.index index) (World.world_at s (World.past s cs)).sets
  tie_above cs d index stands =
      ap (λ sets. is_above index (latest_index sets)) stands.sets
      ∙ above_latest index (last_or None (World.world_at s (World.past s cs)).sets)
      ∙ sym (latest_decides s cs index)

  pub tie_torn : (w v : World C S) (d d' : DirectoryView C S) (torn : List C) → Refines s w d → Refines s v d' →
      AreTornDown s.cmp d d' torn → IsTeardown s w v torn
  tie_torn w v d d' torn stands stands' down = record {
    sorted = down.sorted;
    members = λ q.
        down.members q
        ∙ (λ i. is_connectable s.cmp (stands.records q i) && not (option_map_or is_eligible (stands'.records q i) false))
        ∙ (λ i. shown_busy s q w.sets (w.cooldown q) (w.peer q) i && not (shown_entitled s q v.sets (v.cooldown q) (v.peer q) i));
  }

  -- THE START

  started : (q : C) → first_record s.cmp s.bootstrappers s.own q ≡ shown s q [] None (record { status = Inert; known = new_known s q })
  started q = go (is_own s q) (last_ingress_by s.cmp q s.bootstrappers) (list_any (λ b. same s b.0 q) s.bootstrappers) (some_given s q s.bootstrappers)
    where
      shown_by : (own : Bool) (given : Option Ingress) (any : Bool) → Option (RecordView C S)
      shown_by own given any =
          if ((own || any) || false) || false
          then Some (record {
            address = if own then Myself s.own else address_known given 0 (if own then Some s.own else None);
            status = Inert;
            primary_sets = 0;
            secondary_sets = 0;
            persistent = own || any;
            next_reservable_at = 0;
            next_dial_at = 0;
          })
          else None

      go : (own : Bool) (given : Option Ingress) (any : Bool) → is_some given ≡ any →
          (if own then Some (new_record (Myself s.own) true) else option_map (λ ingress. new_record (Bootstrapper ingress) true) given) ≡ shown_by own given any
      go true given any e = refl
      go false None any e = ap (shown_by false None) e
      go false (Some a) any e = ap (shown_by false (Some a)) e

  pub tie_start : (d : DirectoryView C S) → d.config ≡ config_of s → d.sets ≡ [] → d.blocks ≡ [] →
      d.cooldowns ≡ [] → ((q : C) → record_of s.cmp d q ≡ first_record s.cmp s.bootstrappers s.own q) →
      Refines s (World.world_at s []) d
  tie_start d config sets blocks cooldowns records =
      let start : Refines s (new_world s) d = record {
        config = config;
        sets = sets;
        records = λ q. records q ∙ started q;
        blocks = λ q. ap (λ blocks. unblock_in s.cmp blocks q) blocks;
        cooldowns = λ q. ap (λ cooldowns. cooldown_in s.cmp cooldowns q) cooldowns;
      } in subst (λ w. Refines s w d) (sym (new_at_start s)) start

  -- CHANGES

  -- blocks that stay are those of the world
  pub same_blocks : (w : World C S) (d d' : DirectoryView C S) → Refines s w d → d'.blocks ≡ d.blocks → (q : C) → unblock_of s.cmp d' q ≡ w.unblock q
  same_blocks w d d' stands same q = ap (λ blocks. unblock_in s.cmp blocks q) same ∙ stands.blocks q

  -- moments that stay are those of the world
  pub same_cooldowns : (w : World C S) (d d' : DirectoryView C S) → Refines s w d → d'.cooldowns ≡ d.cooldowns → (q : C) → cooldown_of s.cmp d' q ≡ w.cooldown q
  same_cooldowns w d d' stands same q = ap (λ cooldowns. cooldown_in s.cmp cooldowns q) same ∙ stands.cooldowns q

  -- a peer that an event does not change
  pub unchanged : (p : C) (sets : List (SetAt C)) (cooldown : Option Cooldown) (peer : Peer C S) →
      shown s p sets cooldown peer
      ≡ shown s p sets cooldown
      (record {
        status = peer.status;
        known =
            if is_present_with s p sets peer.status then peer.known else new_known s p;
      })
  unchanged p sets cooldown peer = go (is_present_with s p sets peer.status)
    where
      go : (b : Bool) → (if b then Some (record_with s p sets cooldown peer) else None)
          ≡ (if b then Some (record_with s p sets cooldown (record { status = peer.status; known = if b then peer.known else new_known s p })) else None)
      go true = refl
      go false = refl

  -- a peer that is present after an event
  pub remains : (p : C) (sets : List (SetAt C)) (cooldown : Option Cooldown) (status : Status) (known : Known C S) → is_present_with s p sets status ≡ true →
      Some (record_with s p sets cooldown (record { status = status; known = known }))
      ≡ shown s p sets cooldown
      (record { status = status; known = if is_present_with s p sets status then known else new_known s p })
  remains p sets cooldown status known e =
      λ i. if sym e i then Some (record_with s p sets cooldown (record { status = status; known = if sym e i then known else new_known s p })) else None

  -- the same where it may be absent then
  settles : (p : C) (sets : List (SetAt C)) (cooldown : Option Cooldown) (status : Status) (known : Known C S) →
      shown s p sets cooldown (record { status = status; known = known })
      ≡ shown s p sets cooldown
      (record { status = status; known = if is_present_with s p sets status then known else new_known s p })
  settles p sets cooldown status known = unchanged p sets cooldown (record { status = status; known = known })

  module _ (exact : (p q : C) → s.cmp p q ≡ Equal → p ≡ q) where
    one_key : (p q : C) → is_at (s.cmp p) q ≡ true → p ≡ q
    one_key p q e = tells_apart exact p q e

    -- a peer that may be listened for is present
    listened_present : (own named persistent inert free late : Bool) →
        ((((not own && (named || persistent)) && inert) && free) && late) ≡ true →
        (((persistent || named) || not inert)) ≡ true
    listened_present true named persistent inert free late e = absurd (cc)
    listened_present false true true inert free late e = refl
    listened_present false true false inert free late e = refl
    listened_present false false true inert free late e = refl
    listened_present false false false inert free late e = absurd (cc)

    pub tie_grant : (w : World C S) (d d' : DirectoryView C S) (p : C) (t draw : ℕ) (direction : Direction) →
        Refines s w d → may_listen s p t w.sets (w.peer p) (w.unblock p) (w.cooldown p) ≡ true →
        Reserves s.cmp d d' p t draw →
        Refines s (world_with s (Granted p (record { t = t; draw = draw; direction = direction })) w) d'
    tie_grant w d d' p t draw direction stands may change = record {
      config = change.config ∙ stands.config;
      sets = change.sets ∙ stands.sets;
      blocks = same_blocks w d d' stands change.blocks;
      cooldowns = λ q. change.cooldowns q ∙ (λ i. if is_at (s.cmp p) q then Some (moments_after t draw (stands.config i).cooldown) else stands.cooldowns q i);
      records = λ q. change.records q ∙ at q (is_at (s.cmp p) q) refl;
    }
      where
        present : is_present_with s p w.sets (w.peer p).status ≡ true
        present = listened_present (is_own s p) (is_named s p w.sets) (is_persistent s p)
            (is_inert (w.peer p).status) (not (is_blocked (w.unblock p) t))
            (nat_le (reservable_from (w.cooldown p)) t) may

        grant : Grant
        grant = record { t = t; draw = draw; direction = direction }

        at : (q : C) (b : Bool) → is_at (s.cmp p) q ≡ b →
            (if is_at (s.cmp p) q then option_map (reserved_record t draw d.config.cooldown) (record_of s.cmp d q) else record_of s.cmp d q)
            ≡ shown s q w.sets (World.cooldown_after s q (Granted p grant) (w.cooldown q)) (World.peer_after s q (Granted p grant) w.sets (w.peer q))
        at q b e = (λ i. changed (e i)) ∙ go b e ∙ (λ i. left (sym e i))
          where
            st : Status
            st = (w.peer q).status

            k : Known C S
            k = (w.peer q).known

            granted : Cooldown
            granted = moments_after t draw s.cooldown

            changed : Bool → Option (RecordView C S)
            changed same = if same then option_map (reserved_record t draw d.config.cooldown) (record_of s.cmp d q) else record_of s.cmp d q

            left : Bool → Option (RecordView C S)
            left same = shown s q w.sets (if same then Some granted else w.cooldown q) (record {
              status = if same then Reserved else st;
              known = if is_present_with s q w.sets (if same then Reserved else st) then k else new_known s q;
            })

            go : (same : Bool) → is_at (s.cmp p) q ≡ same → changed same ≡ left same
            go true e =
                let here : is_present_with s q w.sets st ≡ true = subst (λ x. is_present_with s x w.sets (w.peer x).status ≡ true) (one_key p q e) present in
                ap (option_map (reserved_record t draw d.config.cooldown))
                (stands.records q
                ∙ (λ i. if here i then Some (record_with s q w.sets (w.cooldown q) (w.peer q)) else None))
                ∙ (λ i. Some (reserved_record t draw (stands.config i).cooldown (record_with s q w.sets (w.cooldown q) (w.peer q))))
                ∙ remains q w.sets (Some granted) Reserved k (or-true (is_persistent s q || is_named s q w.sets))
            go false e = stands.records q ∙ unchanged q w.sets (w.cooldown q) (w.peer q)

    pub tie_release : (w : World C S) (d d' : DirectoryView C S) (p : C) (direction : Direction) → Refines s w d →
        is_inert (w.peer p).status ≡ false →
        ChangesRecord s.cmp d d' p (kept_after_release (metadata_of p direction)) →
        Refines s (world_with s (Released p direction) w) d'
    tie_release w d d' p direction stands busy change = record {
      config = change.config ∙ stands.config;
      sets = change.sets ∙ stands.sets;
      blocks = same_blocks w d d' stands change.blocks;
      cooldowns = same_cooldowns w d d' stands change.cooldowns;
      records = λ q. change.records q ∙ at q (is_at (s.cmp p) q) refl;
    }
      where
        present : is_present_with s p w.sets (w.peer p).status ≡ true
        present = ap (λ b. (is_persistent s p || is_named s p w.sets) || not b) busy ∙ or-true (is_persistent s p || is_named s p w.sets)

        ended : Option (RecordView C S) → Option (RecordView C S)
        ended o = kept_after_release (metadata_of p direction) o

        at : (q : C) (b : Bool) → is_at (s.cmp p) q ≡ b →
            (if is_at (s.cmp p) q then ended (record_of s.cmp d q) else record_of s.cmp d q)
            ≡ shown s q w.sets (w.cooldown q) (World.peer_after s q (Released p direction) w.sets (w.peer q))
        at q b e = (λ i. changed (e i)) ∙ go b e ∙ (λ i. left (sym e i))
          where
            st : Status
            st = (w.peer q).status

            k : Known C S
            k = (w.peer q).known

            changed : Bool → Option (RecordView C S)
            changed same = if same then ended (record_of s.cmp d q) else record_of s.cmp d q

            left : Bool → Option (RecordView C S)
            left same = shown s q w.sets (w.cooldown q) (record {
              status = if same then Inert else st;
              known = if is_present_with s q w.sets (if same then Inert else st)
                  then (if same && World.is_failed_dial s k.info direction then record k { fails = suc k.fails }
                  else k) else new_known s q;
            })

            go : (same : Bool) → is_at (s.cmp p) q ≡ same → changed same ≡ left same
            go true e =
                let here : is_present_with s q w.sets st ≡ true = subst (λ x. is_present_with s x w.sets (w.peer x).status ≡ true) (one_key p q e) present in
                ap ended (stands.records q ∙ (λ i. if here i then Some (record_with s q w.sets (w.cooldown q) (w.peer q)) else None))
                ∙ ap unless_deletable (release_of_record s p q w.sets (w.cooldown q) (w.peer q) direction)
                ∙ settled s q w.sets (w.cooldown q) Inert (failed_once s k direction)
                ∙ settles q w.sets (w.cooldown q) Inert (failed_once s k direction)
            go false e = stands.records q ∙ unchanged q w.sets (w.cooldown q) (w.peer q)

  -- a set that is taken
  pub tie_track : (w : World C S) (d d' : DirectoryView C S) (set : SetAt C) → Refines s w d →
      ((p : C) → is_present_in s w p ≡ false → (w.peer p).known ≡ new_known s p) → TakesSet s.cmp d d' set →
      Refines s (world_with s (SetTaken set) w) d'
  tie_track w d d' set stands forgotten change = record {
    config = change.config ∙ stands.config;
    sets = sets;
    blocks = same_blocks w d d' stands change.blocks;
    cooldowns = same_cooldowns w d d' stands change.cooldowns;
    records = λ q.
        change.records q
        ∙ (λ i. record_with_sets s.cmp (sets i) (stands.cooldowns q i) q (stands.records q i))
        ∙ shown_with_sets s q w.sets (last_of s.max_sets (w.sets ++ set ∷ [])) (w.cooldown q) (w.peer q) (forgotten q)
        ∙ unchanged q (last_of s.max_sets (w.sets ++ set ∷ [])) (w.cooldown q) (w.peer q);
  }
    where
      sets : d'.sets ≡ last_of s.max_sets (w.sets ++ set ∷ [])
      sets = change.sets ∙ (λ i. last_of (stands.config i).max_sets (stands.sets i ++ set ∷ []))

  -- a peer that is present or not, with these moments
  abbrev kept : World C S → C → Option Cooldown → Bool → Option (RecordView C S)
  kept w q o b = if b then Some (record_with s q w.sets o (w.peer q)) else None

  -- moments are forgotten
  pub tie_forget : (w : World C S) (d d' : DirectoryView C S) (t : ℕ) → Refines s w d → ForgetsCooled s.cmp d d' t → Refines s (world_with s (Forgot t) w) d'
  tie_forget w d d' t stands change = record {
    config = change.config ∙ stands.config;
    sets = change.sets ∙ stands.sets;
    blocks = same_blocks w d d' stands change.blocks;
    cooldowns = λ q. change.cooldowns q ∙ ap (unless_cooled t) (stands.cooldowns q) ∙ left q (w.cooldown q);
    records = λ q.
        change.records q
        ∙ (λ i. if is_cooled_by t (stands.cooldowns q i) then option_map (with_cooldown None) (stands.records q i) else stands.records q i)
        ∙ at q (w.cooldown q) (is_present_in s w q)
        ∙ unchanged q w.sets (World.cooldown_after s q (Forgot t) (w.cooldown q)) (w.peer q);
  }
    where
      left : (q : C) (o : Option Cooldown) → unless_cooled t o ≡ World.cooldown_after s q (Forgot t) o
      left q None = refl
      left q (Some c) = refl

      at : (q : C) (o : Option Cooldown) (b : Bool) →
          (if is_cooled_by t o then option_map (with_cooldown None) (kept w q o b) else kept w q o b)
          ≡ kept w q (World.cooldown_after s q (Forgot t) o) b
      at q None b = refl
      at q (Some c) b = go (nat_le c.dial_at t) b
        where
          go : (cooled b : Bool) →
              (if cooled then option_map (with_cooldown None) (kept w q (Some c) b) else kept w q (Some c) b)
              ≡ kept w q (if cooled then None else Some c) b
          go true true = refl
          go true false = refl
          go false b = refl

  -- how many are
  pub tie_number_cooled : (w : World C S) (d : DirectoryView C S) (t n : ℕ) → Refines s w d → IsNumberCooledIn s.cmp d t n → IsNumberCooled s w t n
  tie_number_cooled w d t n stands (ps, lists, count) = (
    ps,
    lists_alike s.cmp (is_cooled_in s.cmp d t) (is_cooled_at s w t) ps
        (λ q. ap (is_cooled_by t) (stands.cooldowns q)) lists,
    count,
  )

  -- all answers of this file, and those that sets give
  pub answer : (w : World C S) (d : DirectoryView C S) → Refines s w d → CallsAnswerAs s w d
  answer w d refines = record {
    status = λ p. tie_status w d p refines;
    peer_set = λ index. ap (λ sets. option_map peers_of (set_with index sets)) refines.sets;
    latest_set_index = ap latest_index refines.sets;
    number_cooled = λ t n. tie_number_cooled w d t n refines;
  }
