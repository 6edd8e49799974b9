-- How a directory refines a world: what it keeps is what the world says, at each key.
use Rattle.std.specs.Prelude.{ℕ, ◌≡◌, ◌-◌, ◌^◌, min, if◌then◌else◌, Option, Some, None}
use Rattle.p2p_discovery.specs.declared.discovery.Info.{Info}
use Rattle.p2p_discovery.specs.declared.types.ingress.Ingress.{Ingress}
use Rattle.p2p_tracker.specs.declared.record.Address.{Address}
use Rattle.p2p_tracker.specs.declared.record.Address.TheVariants.{Unknown, Myself, Bootstrapper}
use Rattle.p2p_tracker.specs.declared.record.Address.TheVariants.{Discovered}
use Rattle.p2p_tracker.specs.declared.directory.Metadata.{Metadata}
use Rattle.p2p_tracker.specs.declared.directory.Metadata.TheVariants as metadata
use Rattle.p2p_tracker.specs.Calls.{Settings, Direction}
use Rattle.p2p_tracker.specs.Calls.Direction.{Listener, Dialer}
use Rattle.p2p_tracker.specs.History.{is_own, is_persistent, primary_count, secondary_count}
use Rattle.p2p_tracker.specs.World.{World, Known, last_ingress}
use Rattle.p2p_tracker.specs.Cooldowns.{reservable_from, dialable_from}
use Rattle.p2p_tracker.specs.Answers.{is_present_in}
use Rattle.p2p_tracker.specs.Seen.{RecordView, ConfigView, DirectoryView, record_of, unblock_of}
use Rattle.p2p_tracker.specs.Seen.{cooldown_of}

-- the metadata of a reservation of p
abbrev pub metadata_of : {C S : Type 0} → C → Direction → Metadata C S
metadata_of p Listener = metadata.Listener p
metadata_of p (Dialer ingress) = metadata.Dialer p ingress

-- the address that is kept of a peer with no info: that of the last bootstrapper ingress, if there
-- is one
abbrev pub address_given : {C S : Type 0} → Option Ingress → Address C S
address_given None = Unknown
address_given (Some ingress) = Bootstrapper ingress

-- the address that is kept of a peer, with the count of failures capped
abbrev pub address_known : {C S : Type 0} → Option Ingress → ℕ → Option (Info C S) → Address C S
address_known given fails None = address_given given
address_known given fails (Some info) = Discovered info (min fails (2 ^ 64 - 1))

module _ {C S : Type 0} (s : Settings C S) where
  -- the configuration that the setup has
  abbrev pub config_of : ConfigView
  config_of = record {
    allow_private_ips = s.allow_private_ips;
    allow_dns = s.allow_dns;
    max_sets = s.max_sets;
    dial_fail_limit = s.dial_fail_limit;
    cooldown = s.cooldown;
    block_duration = s.block_duration;
  }

  -- the address that is kept of p
  abbrev pub address_of : C → Known C S → Address C S
  address_of p known =
      if is_own s p then Myself s.own
      else address_known (last_ingress s p s.bootstrappers) known.fails known.info

  -- the record of a present peer
  abbrev pub record_in : World C S → C → RecordView C S
  record_in w p = record {
    address = address_of p (w.peer p).known;
    status = (w.peer p).status;
    primary_sets = primary_count s p w.sets;
    secondary_sets = secondary_count s p w.sets;
    persistent = is_persistent s p;
    next_reservable_at = reservable_from (w.cooldown p);
    next_dial_at = dialable_from (w.cooldown p);
  }

  -- a directory has the setup's configuration, the retained sets, a record exactly of each present
  -- peer, the unblock moments, and the moments of the last grants that aren't forgotten
  pub record Refines (w : World C S) (d : DirectoryView C S) : Type 0 where
    pub config : d.config ≡ config_of
    pub sets : d.sets ≡ w.sets
    pub records : (p : C) → record_of s.cmp d p ≡
        (if is_present_in s w p then Some (record_in w p) else None)
    pub blocks : (p : C) → unblock_of s.cmp d p ≡ w.unblock p
    pub cooldowns : (p : C) → cooldown_of s.cmp d p ≡ w.cooldown p
