-- What contracts see of a directory. Moments are nanoseconds since the epoch.
use Rattle.std.specs.Prelude.{ℕ, Bool, List, Option}
use Rattle.std.specs.Duration.{as_nanos}
use Rattle.std.specs.Int.NonZero.{non_zero_usize_get}
use Rattle.std.specs.Map.{lookup}
use Rattle.std.specs.BTreeMap.{is_at}
use Rattle.std.specs.declared.cmp.Ordering.{Ordering}
use Rattle.p2p_tracker.specs.declared.directory.Config.{Config}
use Rattle.p2p_tracker.specs.declared.directory.Metadata.{Metadata}
use Rattle.p2p_tracker.specs.declared.directory.Metadata.TheVariants.{Dialer, Listener}
use Rattle.p2p_tracker.specs.declared.directory.PeerSetUpdate.{PeerSetUpdate}
use Rattle.p2p_tracker.specs.declared.directory.TrackedPeers.{TrackedPeers}
use Rattle.p2p_tracker.specs.declared.record.Address.{Address}
use Rattle.p2p_tracker.specs.declared.record.Status.{Status}
use Rattle.p2p_tracker.specs.Calls.{SetAt, Cooldown}
use Rattle.p2p_tracker.specs.Blocks.{unblock_in}
use Rattle.p2p_tracker.specs.Cooldowns.{cooldown_in}

-- what is kept of one peer
pub record RecordView (C S : Type 0) : Type 0 where
  pub address : Address C S
  pub status : Status
  pub primary_sets : ℕ
  pub secondary_sets : ℕ
  pub persistent : Bool
  pub next_reservable_at : ℕ
  pub next_dial_at : ℕ

-- the configuration, with durations in nanoseconds
pub record ConfigView : Type 0 where
  pub allow_private_ips : Bool
  pub allow_dns : Bool
  pub max_sets : ℕ
  pub dial_fail_limit : ℕ
  pub cooldown : ℕ
  pub block_duration : ℕ

abbrev pub config_view : Config → ConfigView
config_view cfg = record {
  allow_private_ips = cfg.allow_private_ips;
  allow_dns = cfg.allow_dns;
  max_sets = non_zero_usize_get cfg.max_sets;
  dial_fail_limit = cfg.dial_fail_limit;
  cooldown = as_nanos cfg.peer_connection_cooldown;
  block_duration = as_nanos cfg.block_duration;
}

-- the retained sets from the oldest on, and in order of their keys what is kept of each peer, until
-- when each block holds, and the moments of each last grant that isn't forgotten
pub record DirectoryView (C S : Type 0) : Type 0 where
  pub config : ConfigView
  pub sets : List (SetAt C)
  pub records : List (C × RecordView C S)
  pub blocks : List (C × ℕ)
  pub cooldowns : List (C × Cooldown)

module _ {C S : Type 0} (cmp : C → C → Ordering) where
  -- what is kept of a peer, by all that is kept
  abbrev pub record_at : List (C × RecordView C S) → C → Option (RecordView C S)
  record_at records q = lookup (is_at (cmp q)) records

  -- what a directory keeps of a peer
  abbrev pub record_of : DirectoryView C S → C → Option (RecordView C S)
  record_of d q = record_at d.records q

  -- until when a peer's block holds, if there is one
  abbrev pub unblock_of : DirectoryView C S → C → Option ℕ
  unblock_of d q = unblock_in cmp d.blocks q

  -- the moments that are kept of a peer's last grant, if it isn't forgotten
  abbrev pub cooldown_of : DirectoryView C S → C → Option Cooldown
  cooldown_of d q = cooldown_in cmp d.cooldowns q

-- WHAT IS TOLD OR GIVEN

-- the peers of a set, by role
abbrev pub peers_of : {C S : Type 0} → SetAt C → TrackedPeers C S
peers_of set = record { primary = set.primary; secondary = set.secondary }

-- the set that an update tells of
abbrev pub set_in : {C S : Type 0} → PeerSetUpdate C S → SetAt C
set_in update = record {
  index = update.index;
  primary = update.latest.primary;
  secondary = update.latest.secondary;
}

-- whom a reservation is for
abbrev pub key_of : {P S : Type 0} → Metadata P S → P
key_of (Dialer key ingress) = key
key_of (Listener key) = key
