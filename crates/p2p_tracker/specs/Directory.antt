-- What contracts see of a directory, and what its calls answer and change.
use Rattle.std.specs.Prelude.{ℕ, ◌≡◌, Bool, true, false, not, ◌&&◌, ◌||◌, if◌then◌else◌, List, ◌++◌}
use Rattle.std.specs.Prelude.{◌∷◌, [], map, filter, slice_get, Option, Some, None, unwrap_or}
use Rattle.std.specs.Prelude.{nat_lt, ◌==◌, length, zip, filter_map, nat_le}
use Rattle.std.specs.List.{last_or}
use Rattle.std.specs.Option.{option_map, option_map_or, option_and_then}
use Rattle.std.specs.Map.{keys_of}
use Rattle.std.specs.BTreeMap.{is_at}
use Rattle.std.specs.declared.cmp.Ordering.{Ordering}
use Rattle.p2p_discovery.specs.declared.discovery.Info.{Info}
use Rattle.p2p_discovery.specs.declared.discovery.BitVec.{BitVec}
use Rattle.p2p_discovery.specs.declared.types.ingress.Ingress.{Ingress}
use Rattle.p2p_tracker.specs.Seen.{DirectoryView, record_at, record_of, unblock_of, cooldown_of, peers_of, set_in, key_of}
use Rattle.p2p_tracker.specs.Seen.{RecordView}
use Rattle.p2p_tracker.specs.declared.record.Address.{Address}
use Rattle.p2p_tracker.specs.declared.record.Address.TheVariants.{Myself, Bootstrapper}
use Rattle.p2p_tracker.specs.declared.record.Status.{Status}
use Rattle.p2p_tracker.specs.declared.record.Status.TheVariants.{Inert, Active}
use Rattle.p2p_tracker.specs.declared.record.Role.TheVariants.{Primary, Secondary}
use Rattle.p2p_tracker.specs.declared.directory.TrackedPeers.{TrackedPeers}
use Rattle.p2p_tracker.specs.declared.directory.PeerSetUpdate.{PeerSetUpdate}
use Rattle.p2p_tracker.specs.declared.directory.Metadata.{Metadata}
use Rattle.p2p_tracker.specs.declared.directory.Metadata.TheVariants.{Dialer, Listener}
use Rattle.p2p_tracker.specs.Calls.{SetAt, Cooldown}
use Rattle.p2p_tracker.specs.Status.{is_inert, is_reserved}
use Rattle.p2p_tracker.specs.Lists.{last_ingress_by, last_of, Lists, IsLeastOf}
use Rattle.p2p_tracker.specs.Blocks.{is_blocked}
use Rattle.p2p_tracker.specs.Answers.{is_cooled_by}
use Rattle.p2p_tracker.specs.Moments.{epoch_millis, moments_after}
use Rattle.p2p_tracker.specs.Record.{new_record, fresh, is_myself, is_eligible, after_failure}
use Rattle.p2p_tracker.specs.Record.{after_success, reserved_record, with_counts, unless_deletable}
use Rattle.p2p_tracker.specs.Record.{address_after_infos, wants_info, sharable_by, may_come}
use Rattle.p2p_tracker.specs.Record.{may_be_dialled, ingress_of, DialView, dial_status, is_now}
use Rattle.p2p_tracker.specs.Record.{later_moment, with_cooldown}
use Rattle.p2p_tracker.specs.PeerSets.{set_count, set_with}
use Rattle.p2p_tracker.specs.Cooldowns.{unless_cooled}

-- the peers of the retained set with an index, if there is one
abbrev pub peer_set_in : {C S : Type 0} → DirectoryView C S → ℕ → Option (TrackedPeers C S)
peer_set_in d index = option_map peers_of (set_with index d.sets)

-- a moment, if it is later than now
abbrev pub if_later : ℕ → Option ℕ → Option ℕ
if_later now moment = if is_blocked moment now then moment else None

module _ {C S : Type 0} where
  -- there is a record, and its status passes a test
  abbrev pub has_status : (Status → Bool) → Option (RecordView C S) → Bool
  has_status test o = option_map_or (λ r. test r.status) o false

  -- .. its peer is reserved or connected
  abbrev pub is_busy : Option (RecordView C S) → Bool
  is_busy o = has_status (λ status. not (is_inert status)) o

  -- the address after its reservation was released
  abbrev pub address_after_release : Metadata C S → Address C S → Address C S
  address_after_release (Dialer key ingress) address = after_failure ingress address
  address_after_release (Listener key) address = address

  -- the record after its reservation was released
  abbrev pub released_record : Metadata C S → RecordView C S → RecordView C S
  released_record metadata r =
      record r { status = Inert; address = address_after_release metadata r.address }

  -- what is kept of a peer after its reservation was released: nothing, where its record is
  -- deletable then
  abbrev pub kept_after_release : Metadata C S → Option (RecordView C S) → Option (RecordView C S)
  kept_after_release metadata o =
      option_and_then (λ r. unless_deletable (released_record metadata r)) o

  -- the peer's info is known, and not wanted
  abbrev pub is_known : ℕ → Option (RecordView C S) → Bool
  is_known limit o = option_map_or (λ r. not (wants_info limit r)) o false

  -- the record once its peer is connected, as its dialer or not
  abbrev pub connected_record : Bool → RecordView C S → RecordView C S
  connected_record dialer r = record r {
    status = Active;
    address = if dialer then after_success r.address else r.address;
  }

  -- the record once these infos of its peer were offered
  abbrev pub updated_record : List (Info C S) → RecordView C S → RecordView C S
  updated_record infos r = record r { address = address_after_infos infos r.address }

  -- the info of a peer that others may be told
  abbrev pub sharable_of_record : RecordView C S → Option (Info C S)
  sharable_of_record r = sharable_by r.status r.address

  -- the peers that have a record, but for the local node
  abbrev pub other_keys : List (C × RecordView C S) → List C
  other_keys records = keys_of (filter (λ e. not (is_myself e.1.address)) records)

module _ {C S : Type 0} (cmp : C → C → Ordering) where
  -- a peer is reserved or connected
  abbrev pub IsBusy : DirectoryView C S → C → Type 0
  IsBusy d q = is_busy (record_of cmp d q) ≡ true

  -- a peer is reserved
  abbrev pub IsReserved : DirectoryView C S → C → Type 0
  IsReserved d q = has_status is_reserved (record_of cmp d q) ≡ true

  -- whoever is reserved or connected stays so
  abbrev pub StayBusy : DirectoryView C S → DirectoryView C S → Type 0
  StayBusy old new = (q : C) → IsBusy old q → IsBusy new q

  -- whoever is reserved stays so
  abbrev pub StayReserved : DirectoryView C S → DirectoryView C S → Type 0
  StayReserved old new = (q : C) → IsReserved old q → IsReserved new q

  -- THE START

  -- what is kept of a peer at first: the own record, else that of its last bootstrapper ingress
  abbrev pub first_record : List (C × Ingress) → Info C S → C → Option (RecordView C S)
  first_record bootstrappers own q =
      if is_at (cmp own.public_key) q then Some (new_record (Myself own) true)
      else option_map (λ ingress. new_record (Bootstrapper ingress) true)
      (last_ingress_by cmp q bootstrappers)

  -- ONE PEER

  -- what is kept of p becomes f of it, and of each other peer it stays
  abbrev pub ChangesAt : List (C × RecordView C S) → List (C × RecordView C S) → C →
      (Option (RecordView C S) → Option (RecordView C S)) → Type 0
  ChangesAt old new p f =
      (q : C) → record_at cmp new q ≡ (if is_at (cmp p) q then f (record_at cmp old q) else record_at cmp old q)

  -- .. and all else of a directory stays
  pub record ChangesRecord (old new : DirectoryView C S) (p : C)
      (f : Option (RecordView C S) → Option (RecordView C S)) : Type 0 where
    pub config : new.config ≡ old.config
    pub sets : new.sets ≡ old.sets
    pub blocks : new.blocks ≡ old.blocks
    pub cooldowns : new.cooldowns ≡ old.cooldowns
    pub records : ChangesAt old.records new.records p f

  -- p is reserved at a moment, with a draw, the moments of this grant are kept, and all else stays
  pub record Reserves (old new : DirectoryView C S) (p : C) (now draw : ℕ) : Type 0 where
    pub config : new.config ≡ old.config
    pub sets : new.sets ≡ old.sets
    pub blocks : new.blocks ≡ old.blocks
    pub cooldowns : (q : C) → cooldown_of cmp new q ≡ (if is_at (cmp p) q
        then Some (moments_after now draw old.config.cooldown)
        else cooldown_of cmp old q)
    pub records : ChangesAt old.records new.records p
        (option_map (reserved_record now draw old.config.cooldown))

  -- a reservation is released
  abbrev pub Releases : DirectoryView C S → DirectoryView C S → Metadata C S → Type 0
  Releases old new metadata = ChangesRecord old new (key_of metadata) (kept_after_release metadata)

  -- p is connected, as its dialer or not
  abbrev pub Connects : DirectoryView C S → DirectoryView C S → C → Bool → Type 0
  Connects old new p dialer = ChangesRecord old new p (option_map (connected_record dialer))

  -- INFOS

  -- those of some infos that are of a peer
  abbrev pub infos_of : List (Info C S) → C → List (Info C S)
  infos_of infos q = filter (λ i. is_at (cmp i.public_key) q) infos

  -- infos are offered to the records of their peers, and all else stays
  pub record Updates (old new : DirectoryView C S) (infos : List (Info C S)) : Type 0 where
    pub config : new.config ≡ old.config
    pub sets : new.sets ≡ old.sets
    pub blocks : new.blocks ≡ old.blocks
    pub cooldowns : new.cooldowns ≡ old.cooldowns
    pub records : (q : C) →
        record_of cmp new q ≡ option_map (updated_record (infos_of infos q)) (record_of cmp old q)

  -- the info of a peer that others may be told, if there is one
  abbrev pub sharable_in : DirectoryView C S → C → Option (Info C S)
  sharable_in d q = option_and_then sharable_of_record (record_of cmp d q)

  -- of a peer with its bit, by all that is kept: its sharable info, where the bit is 0 and the
  -- timestamp isn't above these milliseconds
  abbrev pub shared_at : List (C × RecordView C S) → ℕ → C × Bool → Option (Info C S)
  shared_at records millis (q, true) = None
  shared_at records millis (q, false) =
      elim (option_and_then sharable_of_record (record_at cmp records q)) [
        | None ↦ None
        | Some i ↦ if nat_le i.timestamp millis then Some i else None
      ]

  -- .. of peers with their bits, in list order
  abbrev pub shared_of : List (C × RecordView C S) → ℕ → List C → List Bool → List (Info C S)
  shared_of records millis ps bits = filter_map (shared_at records millis) (zip ps bits)

  -- .. unless the bits are of another number
  abbrev pub shared_for : List (C × RecordView C S) → ℕ → List C → List Bool →
      Option (List (Info C S))
  shared_for records millis ps bits =
      if length bits == length ps then Some (shared_of records millis ps bits) else None

  -- the infos for an index and bits at a moment: no infos for an index that isn't retained, none at
  -- all for another number of bits
  abbrev pub infos_in : DirectoryView C S → ℕ → List Bool → ℕ → Option (List (Info C S))
  infos_in d index bits now = elim (set_with index d.sets) [
    | None ↦ Some []
    | Some set ↦ shared_for d.records (epoch_millis now) set.primary bits
  ]

  -- a peer's info is wanted: by its record, and where there is none
  abbrev pub wants_in : DirectoryView C S → C → Bool
  wants_in d q = option_map_or (wants_info d.config.dial_fail_limit) (record_of cmp d q) true

  -- for each primary peer of a set, whether its info is known, and not wanted
  abbrev pub known_bits : DirectoryView C S → SetAt C → List Bool
  known_bits d set = map (λ q. is_known d.config.dial_fail_limit (record_of cmp d q)) set.primary

  -- the bits of the set at a place, with its index, if there is one
  abbrev pub bit_vec_at : DirectoryView C S → ℕ → Option BitVec
  bit_vec_at d place =
      option_map (λ set. record { index = set.index; bits = known_bits d set })
      (slice_get d.sets place)

  -- q is the local node: its record has the own info
  abbrev pub is_own_in : DirectoryView C S → C → Bool
  is_own_in d q = option_map_or (λ r. is_myself r.address) (record_of cmp d q) false

  -- .. as if no info but that of the local node were known
  abbrev pub full_bit_vec_at : DirectoryView C S → ℕ → Option BitVec
  full_bit_vec_at d place =
      option_map (λ set. record { index = set.index; bits = map (is_own_in d) set.primary })
      (slice_get d.sets place)

  -- A SET

  -- what is kept of a peer with these moments once these are the retained sets: its counts are
  -- theirs, a new record begins with the moments, and a record that is deletable is none
  abbrev pub record_with_sets : List (SetAt C) → Option Cooldown → C → Option (RecordView C S) →
      Option (RecordView C S)
  record_with_sets sets cooldown q o =
      unless_deletable (with_counts (set_count cmp Primary q sets) (set_count cmp Secondary q sets)
      (unwrap_or o (fresh cooldown)))

  -- a set is retained, as one of so many at most, and each record has the counts of the sets
  pub record TakesSet (old new : DirectoryView C S) (set : SetAt C) : Type 0 where
    pub config : new.config ≡ old.config
    pub sets : new.sets ≡ last_of old.config.max_sets (old.sets ++ set ∷ [])
    pub blocks : new.blocks ≡ old.blocks
    pub cooldowns : new.cooldowns ≡ old.cooldowns
    pub records : (q : C) →
        record_of cmp new q ≡ record_with_sets new.sets (cooldown_of cmp old q) q (record_of cmp old q)

  -- reserved or connected, and eligible
  abbrev pub is_connectable : Option (RecordView C S) → Bool
  is_connectable o = option_map_or (λ r. not (is_inert r.status) && is_eligible r) o false

  -- a peer is reserved or connected, was eligible, and isn't any more
  abbrev pub is_torn_down_by : DirectoryView C S → DirectoryView C S → C → Bool
  is_torn_down_by old new q =
      is_connectable (record_of cmp old q) && not (option_map_or is_eligible (record_of cmp new q) false)

  -- the sorted peers that a change tears down
  abbrev pub AreTornDown : DirectoryView C S → DirectoryView C S → List C → Type 0
  AreTornDown old new = Lists cmp (is_torn_down_by old new)

  -- BLOCKS

  -- a peer is blocked at a moment
  abbrev pub is_blocked_in : DirectoryView C S → ℕ → C → Bool
  is_blocked_in d now q = is_blocked (unblock_of cmp d q) now

  -- a block of p may be taken at a moment: p isn't the local node, and isn't blocked
  abbrev pub may_block : DirectoryView C S → ℕ → C → Bool
  may_block d now p = not (is_own_in d p) && not (is_blocked_in d now p)

  -- p is blocked until a moment, and all else stays
  pub record BlocksUntil (old new : DirectoryView C S) (p : C) (moment : ℕ) : Type 0 where
    pub config : new.config ≡ old.config
    pub sets : new.sets ≡ old.sets
    pub records : new.records ≡ old.records
    pub cooldowns : new.cooldowns ≡ old.cooldowns
    pub blocks : (q : C) →
        unblock_of cmp new q ≡ (if is_at (cmp p) q then Some moment else unblock_of cmp old q)

  -- the blocks that hold until now, or until an earlier moment, end, and all else stays
  pub record EndsBlocks (old new : DirectoryView C S) (now : ℕ) : Type 0 where
    pub config : new.config ≡ old.config
    pub sets : new.sets ≡ old.sets
    pub records : new.records ≡ old.records
    pub cooldowns : new.cooldowns ≡ old.cooldowns
    pub blocks : (q : C) → unblock_of cmp new q ≡ if_later now (unblock_of cmp old q)

  -- COOLDOWNS

  -- moments are kept of a peer, and its dial moment is at most now
  abbrev pub is_cooled_in : DirectoryView C S → ℕ → C → Bool
  is_cooled_in d now q = is_cooled_by now (cooldown_of cmp d q)

  -- how many such peers there are
  abbrev pub IsNumberCooledIn : DirectoryView C S → ℕ → ℕ → Type 0
  IsNumberCooledIn d now n =
      (ps : List C) × Lists cmp (is_cooled_in d now) ps × (n ≡ length ps)

  -- the dial moment that is kept of q, if one is
  abbrev pub dial_moment_in : DirectoryView C S → C → Option ℕ
  dial_moment_in d q = option_map (λ c. c.dial_at) (cooldown_of cmp d q)

  -- the moments of each such peer are forgotten, those of its record are the epoch, and all else
  -- stays
  pub record ForgetsCooled (old new : DirectoryView C S) (now : ℕ) : Type 0 where
    pub config : new.config ≡ old.config
    pub sets : new.sets ≡ old.sets
    pub blocks : new.blocks ≡ old.blocks
    pub cooldowns : (q : C) → cooldown_of cmp new q ≡ unless_cooled now (cooldown_of cmp old q)
    pub records : (q : C) → record_of cmp new q ≡ (if is_cooled_in old now q
        then option_map (with_cooldown None) (record_of cmp old q)
        else record_of cmp old q)

  -- WHO MAY COME, AND WHO MAY BE DIALLED

  -- a peer that isn't blocked at a moment has a record that passes a test
  abbrev pub is_free_and : (RecordView C S → Bool) → DirectoryView C S → ℕ → C → Bool
  is_free_and test d now q =
      not (is_blocked_in d now q) && option_map_or test (record_of cmp d q) false

  -- a peer that comes at a moment is granted a reservation
  abbrev pub may_listen_in : DirectoryView C S → ℕ → C → Bool
  may_listen_in d now q = is_free_and (may_come now) d now q

  -- a dial of a peer at a moment is granted a reservation
  abbrev pub may_dial_in : DirectoryView C S → ℕ → C → Bool
  may_dial_in d now q =
      is_free_and (may_be_dialled now d.config.allow_private_ips d.config.allow_dns) d now q

  -- where a peer that has a record is reached, if that is known
  abbrev pub ingress_in : DirectoryView C S → C → Option Ingress
  ingress_in d q = option_and_then (λ r. ingress_of r.address) (record_of cmp d q)

  -- when a record's peer may be dialled, asked at a moment
  abbrev pub dial_status_in : DirectoryView C S → ℕ → RecordView C S → DialView
  dial_status_in d now r =
      dial_status now d.config.allow_private_ips d.config.allow_dns r

  -- a peer may be dialled at a moment
  abbrev pub is_dialable_in : DirectoryView C S → ℕ → C → Bool
  is_dialable_in d now q = is_free_and (λ r. is_now (dial_status_in d now r)) d now q

  -- when a peer that has a record may become dialable, asked at a moment: where it is blocked once
  -- its block ends, else at its later dial moment
  abbrev pub query_moment_in : DirectoryView C S → ℕ → C → Option ℕ
  query_moment_in d now q = option_and_then (λ r. if is_blocked_in d now q then unblock_of cmp d q
      else later_moment (dial_status_in d now r)) (record_of cmp d q)

  -- the sorted peers that may be dialled at a moment, and when to ask again
  abbrev pub AreDialableIn : DirectoryView C S → ℕ → List C → Option ℕ → Type 0
  AreDialableIn d now ps next =
      Lists cmp (is_dialable_in d now) ps × IsLeastOf (query_moment_in d now) next

  -- ALL PEERS OF THE SETS

  -- a peer is primary in some retained set
  abbrev pub is_primary_of : DirectoryView C S → C → Bool
  is_primary_of d q = nat_lt 0 (set_count cmp Primary q d.sets)

  -- a peer is secondary in some retained set, and primary in none
  abbrev pub is_secondary_of : DirectoryView C S → C → Bool
  is_secondary_of d q = nat_lt 0 (set_count cmp Secondary q d.sets) && not (is_primary_of d q)

  -- some retained set has a peer
  abbrev pub is_named_of : DirectoryView C S → C → Bool
  is_named_of d q =
      nat_lt 0 (set_count cmp Primary q d.sets) || nat_lt 0 (set_count cmp Secondary q d.sets)

  -- the sorted peers of the retained sets: one that is primary in some is primary only
  abbrev pub AreAllOf : DirectoryView C S → TrackedPeers C S → Type 0
  AreAllOf d all =
      Lists cmp (is_primary_of d) all.primary × Lists cmp (is_secondary_of d) all.secondary

  -- the last retained set, and all peers
  abbrev pub IsUpdateOf : DirectoryView C S → Option (PeerSetUpdate C S) → Type 0
  IsUpdateOf d None = last_or None d.sets ≡ None
  IsUpdateOf d (Some update) =
      (last_or None d.sets ≡ Some (set_in update)) × AreAllOf d update.all

  -- OTHERS

  -- what is kept of q, until when it is blocked, and the moments that are kept are as they were
  pub record IsAsBefore (old new : DirectoryView C S) (q : C) : Type 0 where
    pub record_stays : record_of cmp new q ≡ record_of cmp old q
    pub unblock_stays : unblock_of cmp new q ≡ unblock_of cmp old q
    pub cooldown_stays : cooldown_of cmp new q ≡ cooldown_of cmp old q

  -- so of each key but p, and the retained sets stay
  pub record LeavesOthers (old new : DirectoryView C S) (p : C) : Type 0 where
    pub sets : new.sets ≡ old.sets
    pub others : (q : C) → is_at (cmp p) q ≡ false → IsAsBefore old new q
