-- Private: dials by the records alone, and what the records list.
use Rattle.std.specs.Prelude.{ℕ, Bool, true, false, List, [], ◌∷◌, min, Option, Some, None}
use Rattle.std.specs.Prelude.{if◌then◌else◌, nat_lt, not, ◌&&◌, ◌||◌}
use Rattle.std.specs.Option.{option_and_then, option_map}
use Rattle.std.specs.declared.cmp.Ordering.{Ordering}
use Rattle.p2p_tracker.specs.declared.directory.Config.{Config}
use Rattle.p2p_tracker.specs.declared.directory.Metadata.{Metadata}
use Rattle.p2p_tracker.specs.declared.directory.Metadata.TheVariants.{Dialer, Listener}
use Rattle.p2p_tracker.specs.Record.{DialView, ingress_of, may_be_dialled, may_come, dial_status}
use Rattle.p2p_tracker.specs.Seen.{RecordView, ConfigView, DirectoryView, record_at}
use Rattle.p2p_tracker.specs.Directory.{is_blocked_in}
use Rattle.p2p_tracker.specs.Blocks.{unblock_in}

module _ {C S : Type 0} where
  -- whom a reservation that is asked for at a moment is for, by the peer's record, if it is
  -- granted: for a dial, or else inbound
  unfoldable pub granted_of : Bool → ConfigView → ℕ → C → RecordView C S → Option (Metadata C S)
  granted_of true cfg now p r =
      if may_be_dialled now cfg.allow_private_ips cfg.allow_dns r
      then option_map (Dialer p) (ingress_of r.address)
      else None
  granted_of false cfg now p r = if may_come now r then Some (Listener p) else None

  -- when a record's peer may be dialled, asked at a moment, where its block holds until another
  abbrev pub dial_state : Config → ℕ → Option ℕ → RecordView C S → DialView
  dial_state cfg now None r = dial_status now cfg.allow_private_ips cfg.allow_dns r
  dial_state cfg now (Some until) r =
      if nat_lt now until then DialView.After until
      else dial_status now cfg.allow_private_ips cfg.allow_dns r

-- the lesser of two moments, if there is one
abbrev pub earliest : Option ℕ → Option ℕ → Option ℕ
earliest None b = b
earliest (Some a) None = Some a
earliest (Some a) (Some b) = Some (min a b)

-- the least moment that an element has, if one has any
abbrev pub least_by : {A : Type 0} → (A → Option ℕ) → List A → Option ℕ
least_by moment [] = None
least_by moment (x ∷ xs) = earliest (moment x) (least_by moment xs)

module _ {C S : Type 0} where
  -- the peer is primary in some set
  abbrev pub is_primary_record : RecordView C S → Bool
  is_primary_record r = nat_lt 0 r.primary_sets

  -- the peer is secondary in some set, and primary in none
  abbrev pub is_secondary_record : RecordView C S → Bool
  is_secondary_record r = nat_lt 0 r.secondary_sets && not (is_primary_record r)

  -- the peer is in some set
  abbrev pub is_record_in_set : RecordView C S → Bool
  is_record_in_set r = is_primary_record r || is_secondary_record r

module _ {C S : Type 0} (cmp : C → C → Ordering) where
  -- .. by the records
  abbrev pub granted_in : Bool → ConfigView → List (C × RecordView C S) → ℕ → C →
      Option (Metadata C S)
  granted_in dialer cfg records now p =
      option_and_then (granted_of dialer cfg now p) (record_at cmp records p)

  -- .. by a directory
  abbrev pub reservation_in : Bool → DirectoryView C S → ℕ → C → Option (Metadata C S)
  reservation_in dialer d now p =
      if is_blocked_in cmp d now p then None else granted_in dialer d.config d.records now p

  -- when a peer may be dialled, asked at a moment, by its entry of the records and these blocks
  abbrev pub entry_state : List (C × ℕ) → Config → ℕ → C × RecordView C S → DialView
  entry_state blocks cfg now entry =
      dial_state cfg now (unblock_in cmp blocks entry.0) entry.1
