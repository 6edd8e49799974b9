-- What contracts see of a record, and what its calls answer and change. Moments are nanoseconds
-- since the epoch.
use Rattle.std.specs.Prelude.{ℕ, ◌+◌, ◌-◌, ◌^◌, Bool, true, false, not, ◌&&◌, ◌||◌, if◌then◌else◌}
use Rattle.std.specs.Prelude.{min, nat_lt, nat_le, List, Option, Some, None}
use Rattle.std.specs.Duration.{as_nanos}
use Rattle.p2p_discovery.specs.declared.discovery.Info.{Info}
use Rattle.p2p_discovery.specs.Ingress.{same_ingress, is_valid}
use Rattle.p2p_discovery.specs.declared.types.ingress.Ingress.{Ingress}
use Rattle.p2p_tracker.specs.Seen.{RecordView}
use Rattle.p2p_tracker.specs.declared.record.Address.{Address}
use Rattle.p2p_tracker.specs.declared.record.Address.TheVariants.{Unknown, Myself, Bootstrapper}
use Rattle.p2p_tracker.specs.declared.record.Address.TheVariants.{Discovered}
use Rattle.p2p_tracker.specs.declared.record.Status.{Status}
use Rattle.p2p_tracker.specs.declared.record.Status.TheVariants.{Inert, Reserved}
use Rattle.p2p_tracker.specs.declared.record.dialing.DialStatus.{DialStatus}
use Rattle.p2p_tracker.specs.declared.record.dialing.DialStatus.TheVariants as dial
use Rattle.p2p_tracker.specs.declared.record.dialing.ReserveResult.{ReserveResult}
use Rattle.p2p_tracker.specs.declared.record.dialing.ReserveResult.TheVariants as answer
use Rattle.p2p_tracker.specs.Moments.{cap, jitter}
use Rattle.p2p_tracker.specs.Calls.{Cooldown}
use Rattle.p2p_tracker.specs.Status.{is_inert, is_active}
use Rattle.p2p_tracker.specs.Lists.{first_greatest}
use Rattle.p2p_tracker.specs.Cooldowns.{reservable_from, dialable_from}

-- the answer grants a reservation
abbrev pub is_grant : ReserveResult → Bool
is_grant answer.Reserved = true
is_grant _ = false

-- when a peer may be dialled: now, after a moment in nanoseconds since the epoch, or never
pub data DialView : Type 0 where
  Now : DialView
  After : (moment : ℕ) → DialView
  Unavailable : DialView

-- .. of the code's answer, whose moment is a duration
abbrev pub dial_view : DialStatus → DialView
dial_view dial.Now = DialView.Now
dial_view (dial.After moment) = DialView.After (as_nanos moment)
dial_view dial.Unavailable = DialView.Unavailable

-- the peer may be dialled now
abbrev pub is_now : DialView → Bool
is_now DialView.Now = true
is_now _ = false

-- the moment after which the peer may be dialled, if it is not now
abbrev pub later_moment : DialView → Option ℕ
later_moment (DialView.After moment) = Some moment
later_moment _ = None

module _ {C S : Type 0} where
  -- A NEW RECORD

  -- the record of a peer of which nothing is known but its address
  abbrev pub new_record : Address C S → Bool → RecordView C S
  new_record address persistent = record {
    address = address;
    status = Inert;
    primary_sets = 0;
    secondary_sets = 0;
    persistent = persistent;
    next_reservable_at = 0;
    next_dial_at = 0;
  }

  -- the record of a peer of which nothing is known
  abbrev pub blank : RecordView C S
  blank = new_record Unknown false

  -- the record with these moments, or from the epoch on where there are none
  abbrev pub with_cooldown : Option Cooldown → RecordView C S → RecordView C S
  with_cooldown cooldown r = record r {
    next_reservable_at = reservable_from cooldown;
    next_dial_at = dialable_from cooldown;
  }

  -- the record of a peer of which nothing is known but these moments
  abbrev pub fresh : Option Cooldown → RecordView C S
  fresh cooldown = with_cooldown cooldown blank

  -- QUESTIONS

  -- the record is that of the local node
  abbrev pub is_myself : Address C S → Bool
  is_myself (Myself info) = true
  is_myself _ = false

  -- in a set, or persistent
  abbrev pub is_named_or_persistent : RecordView C S → Bool
  is_named_or_persistent r = nat_lt 0 r.primary_sets || nat_lt 0 r.secondary_sets || r.persistent

  -- its peer may be connected
  abbrev pub is_eligible : RecordView C S → Bool
  is_eligible r = not (is_myself r.address) && is_named_or_persistent r

  -- it may go
  abbrev pub is_deletable : RecordView C S → Bool
  is_deletable r = not (is_named_or_persistent r) && is_inert r.status

  -- reserved or connected, and no longer eligible
  abbrev pub needs_teardown : RecordView C S → Bool
  needs_teardown r = not (is_inert r.status) && not (is_eligible r)

  -- its peer is to be dialled
  abbrev pub is_outbound_target : RecordView C S → Bool
  is_outbound_target r = nat_lt 0 r.primary_sets || r.persistent

  -- RESERVATION

  -- what a peer is told that asks for a reservation at a moment
  abbrev pub reserve_answer : ℕ → RecordView C S → ReserveResult
  reserve_answer now r =
      if is_myself r.address || not (is_inert r.status) then answer.Unavailable
      else if nat_lt now r.next_reservable_at then answer.RateLimited
      else answer.Reserved

  -- the record once a reservation was granted at a moment
  abbrev pub reserved_record : ℕ → ℕ → ℕ → RecordView C S → RecordView C S
  reserved_record now draw cooldown r = record r {
    status = Reserved;
    next_reservable_at = cap (now + cooldown);
    next_dial_at = cap (cap (now + cooldown) + jitter draw cooldown);
  }

  -- the record after it was asked for a reservation
  abbrev pub record_after_asking : ReserveResult → ℕ → ℕ → ℕ → RecordView C S → RecordView C S
  record_after_asking answer.Reserved now draw cooldown r = reserved_record now draw cooldown r
  record_after_asking answer.RateLimited now draw cooldown r = r
  record_after_asking answer.Unavailable now draw cooldown r = r

  -- its peer may come at a moment: it is eligible, and is told that it is reserved
  abbrev pub may_come : ℕ → RecordView C S → Bool
  may_come now r = is_eligible r && is_grant (reserve_answer now r)

  -- FAILURES

  -- one more failure, capped, where the peer is known by this ingress
  abbrev pub after_failure : Ingress → Address C S → Address C S
  after_failure ingress (Discovered info fails) =
      Discovered info (if same_ingress info.ingress ingress then min (fails + 1) (2 ^ 64 - 1)
      else fails)
  after_failure ingress Unknown = Unknown
  after_failure ingress (Myself info) = Myself info
  after_failure ingress (Bootstrapper before) = Bootstrapper before

  -- SETS

  -- the record with these numbers of sets
  abbrev pub with_counts : ℕ → ℕ → RecordView C S → RecordView C S
  with_counts primary secondary r = record r { primary_sets = primary; secondary_sets = secondary }

  -- the record, unless it is deletable
  abbrev pub unless_deletable : RecordView C S → Option (RecordView C S)
  unless_deletable r = if is_deletable r then None else Some r

  -- INFOS

  -- an info is taken: of the local node never, where none is known always, else a newer one
  abbrev pub takes_info : Info C S → Address C S → Bool
  takes_info info Unknown = true
  takes_info info (Myself own) = false
  takes_info info (Bootstrapper ingress) = true
  takes_info info (Discovered known fails) = nat_lt known.timestamp info.timestamp

  -- the address once an info was offered: one that is taken has not failed yet
  abbrev pub address_after_update : Info C S → Address C S → Address C S
  address_after_update info address = if takes_info info address then Discovered info 0 else address

  -- .. once an info was offered, if there is one
  abbrev pub address_after_offer : Option (Info C S) → Address C S → Address C S
  address_after_offer None address = address
  address_after_offer (Some info) address = address_after_update info address

  -- .. once these infos were offered: of them the first of greatest timestamp, if it is taken
  abbrev pub address_after_infos : List (Info C S) → Address C S → Address C S
  address_after_infos infos address = address_after_offer (first_greatest infos) address

  -- no failure, where the peer's info is known
  abbrev pub after_success : Address C S → Address C S
  after_success Unknown = Unknown
  after_success (Myself own) = Myself own
  after_success (Bootstrapper ingress) = Bootstrapper ingress
  after_success (Discovered info fails) = Discovered info 0

  -- an info is wanted: of the local node never, where none is known always, else of a peer that is
  -- not connected where dials failed so often
  abbrev pub wants_by : ℕ → Status → Address C S → Bool
  wants_by limit status Unknown = true
  wants_by limit status (Myself own) = false
  wants_by limit status (Bootstrapper ingress) = true
  wants_by limit status (Discovered info fails) = not (is_active status) && nat_le limit fails

  -- .. of its peer
  abbrev pub wants_info : ℕ → RecordView C S → Bool
  wants_info limit r = wants_by limit r.status r.address

  -- the info that others may be told: the own always, another peer's while it is connected
  abbrev pub sharable_by : Status → Address C S → Option (Info C S)
  sharable_by status Unknown = None
  sharable_by status (Myself own) = Some own
  sharable_by status (Bootstrapper ingress) = None
  sharable_by status (Discovered info fails) = if is_active status then Some info else None

  -- INGRESS AND DIALS

  -- the ingress that an address holds
  abbrev pub ingress_of : Address C S → Option Ingress
  ingress_of Unknown = None
  ingress_of (Myself own) = Some own.ingress
  ingress_of (Bootstrapper ingress) = Some ingress
  ingress_of (Discovered info fails) = Some info.ingress

  -- the ingress is known and valid, and not that of the local node
  abbrev pub has_valid_ingress : Bool → Bool → Address C S → Bool
  has_valid_ingress allow_private_ips allow_dns Unknown = false
  has_valid_ingress allow_private_ips allow_dns (Myself own) = false
  has_valid_ingress allow_private_ips allow_dns (Bootstrapper ingress) =
      is_valid allow_private_ips allow_dns ingress
  has_valid_ingress allow_private_ips allow_dns (Discovered info fails) =
      is_valid allow_private_ips allow_dns info.ingress

  -- its peer may be dialled at some moment: it is inert, to be dialled, and of valid ingress
  abbrev pub is_dial_candidate : Bool → Bool → RecordView C S → Bool
  is_dial_candidate allow_private_ips allow_dns r =
      is_inert r.status && is_outbound_target r
      && has_valid_ingress allow_private_ips allow_dns r.address

  -- when its peer may be dialled, asked at a moment
  abbrev pub dial_status : ℕ → Bool → Bool → RecordView C S → DialView
  dial_status now allow_private_ips allow_dns r =
      if not (is_dial_candidate allow_private_ips allow_dns r) then DialView.Unavailable
      else if nat_lt now r.next_dial_at then DialView.After r.next_dial_at
      else DialView.Now

  -- its peer may be accepted: it may be connected, and is neither reserved nor connected
  abbrev pub is_acceptable : RecordView C S → Bool
  is_acceptable r = is_eligible r && is_inert r.status

  -- a dial of its peer is granted at a moment: it is a candidate, and is told that it is reserved
  abbrev pub may_be_dialled : ℕ → Bool → Bool → RecordView C S → Bool
  may_be_dialled now allow_private_ips allow_dns r =
      is_dial_candidate allow_private_ips allow_dns r && is_grant (reserve_answer now r)
