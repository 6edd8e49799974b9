-- What each call answers, in the world at the point before it. w is a world, p a key, t a moment.
use Rattle.std.specs.Prelude.{◌≡◌, ℕ, Bool, true, false, not, ◌&&◌}
use Rattle.std.specs.Prelude.{if◌then◌else◌, List, [], map, length, zip, filter_map, Option}
use Rattle.std.specs.Prelude.{Some, None, option_map, nat_lt, nat_le, ◌==◌}
use Rattle.std.specs.List.{slice_get, last_or}
use Rattle.p2p_discovery.specs.declared.discovery.Info.{Info}
use Rattle.p2p_discovery.specs.declared.types.ingress.Ingress.{Ingress}
use Rattle.p2p_tracker.specs.declared.record.Status.{Status}
use Rattle.p2p_tracker.specs.Calls.{Settings, SetAt, Direction, Cooldown, Event}
use Rattle.p2p_tracker.specs.declared.record.Status.TheVariants.{Active}
use Rattle.p2p_tracker.specs.Calls.Event.{SetTaken, Granted, Blocked}
use Rattle.p2p_tracker.specs.History.{is_own, is_entitled}
use Rattle.p2p_tracker.specs.History.{is_present_with, primary_count, secondary_count}
use Rattle.p2p_tracker.specs.Status.{is_inert, is_reserved}
use Rattle.p2p_tracker.specs.Moments.{epoch_millis}
use Rattle.p2p_tracker.specs.PeerSets.{set_with, latest_index}
use Rattle.p2p_tracker.specs.Blocks.{IsAnyUntil, is_blocked}
use Rattle.p2p_tracker.specs.Lists.{Lists, IsLeastOf}
use Rattle.p2p_tracker.specs.World.{World, Peer, is_target, may_listen, address_with}
use Rattle.p2p_tracker.specs.Cooldowns.{dialable_from}

-- WHAT AN EVENT DID

-- `dial` and `listen`: the reservation was granted
abbrev pub was_granted : {C S : Type 0} → Event C S → Bool
was_granted (Granted p grant) = true
was_granted _ = false

-- `dial` and `listen`: what the reservation is for, if one was granted
abbrev pub granted_direction : {C S : Type 0} → Event C S → Option Direction
granted_direction (Granted p grant) = Some grant.direction
granted_direction _ = None

-- `track`: the set was taken
abbrev pub was_taken : {C S : Type 0} → Event C S → Bool
was_taken (SetTaken taken) = true
was_taken _ = false

-- `block`: the block was taken
abbrev pub was_blocked : {C S : Type 0} → Event C S → Bool
was_blocked (Blocked p t) = true
was_blocked _ = false

-- moments are kept, and the dial moment is at most t
abbrev pub is_cooled_by : ℕ → Option Cooldown → Bool
is_cooled_by t None = false
is_cooled_by t (Some cooldown) = nat_le cooldown.dial_at t

module _ {C S : Type 0} (s : Settings C S) where
  -- PRESENCE AND STATUS

  -- p is present in the world
  abbrev pub is_present_in : World C S → C → Bool
  is_present_in w p = is_present_with s p w.sets (w.peer p).status

  -- `status`
  abbrev pub status_in : World C S → C → Option Status
  status_in w p = if is_present_in w p then Some (w.peer p).status else None

  -- p is present, and not the own key
  abbrev pub is_tracked : World C S → C → Bool
  is_tracked w p = is_present_in w p && not (is_own s p)

  -- `tracked`: the number of present keys other than the own
  abbrev pub IsNumberTracked : World C S → ℕ → Type 0
  IsNumberTracked w n = (ps : List C) × Lists s.cmp (is_tracked w) ps × (n ≡ length ps)

  -- `connect` is done, else it finds nothing reserved
  abbrev pub may_connect : World C S → C → Bool
  may_connect w p = is_reserved (w.peer p).status

  -- `release` is done, else it finds nothing held
  abbrev pub may_release : World C S → C → Bool
  may_release w p = not (is_inert (w.peer p).status)

  -- RETAINED SETS

  -- `get_peer_set`
  abbrev pub set_with_index : World C S → ℕ → Option (SetAt C)
  set_with_index w index = set_with index w.sets

  -- the set at a place, by index
  abbrev pub set_at_place : World C S → ℕ → Option (SetAt C)
  set_at_place w place = slice_get w.sets place

  -- the retained set with the greatest index
  abbrev pub latest_set : World C S → Option (SetAt C)
  latest_set w = last_or None w.sets

  -- `latest_set_index`
  abbrev pub latest_index_in : World C S → Option ℕ
  latest_index_in w = latest_index w.sets

  -- p has a primary membership
  abbrev pub is_primary_in : World C S → C → Bool
  is_primary_in w p = nat_lt 0 (primary_count s p w.sets)

  -- a key with a primary membership is primary only
  abbrev pub is_secondary_in : World C S → C → Bool
  is_secondary_in w p = nat_lt 0 (secondary_count s p w.sets) && not (is_primary_in w p)

  -- `all`
  abbrev pub AreAll : World C S → List C → List C → Type 0
  AreAll w primary secondary =
      Lists s.cmp (is_primary_in w) primary × Lists s.cmp (is_secondary_in w) secondary

  -- `latest_update`: the last retained set, and the primary and secondary of all
  abbrev pub IsLatestUpdate : World C S → Option (SetAt C × List C × List C) → Type 0
  IsLatestUpdate w None = latest_set w ≡ None
  IsLatestUpdate w (Some update) = (latest_set w ≡ Some update.0) × AreAll w update.1 update.2

  -- TEARDOWN

  -- p isn't inert, was entitled in the world w before a track, and isn't in the world v after it
  abbrev pub is_torn_down : World C S → World C S → C → Bool
  is_torn_down w v p =
      not (is_inert (w.peer p).status) && is_entitled s p w.sets && not (is_entitled s p v.sets)

  -- what a track that was taken tears down: w before it, v after it
  abbrev pub IsTeardown : World C S → World C S → List C → Type 0
  IsTeardown w v = Lists s.cmp (is_torn_down w v)

  -- `track`, where it did e: w before it, v after it
  abbrev pub IsTrackAnswer : Event C S → World C S → World C S → Option (List C) → Type 0
  IsTrackAnswer e w v None = was_taken e ≡ false
  IsTrackAnswer e w v (Some ps) = (was_taken e ≡ true) × IsTeardown w v ps

  -- BLOCKS

  -- p is blocked at t
  abbrev pub is_blocked_at : World C S → ℕ → C → Bool
  is_blocked_at w t p = is_blocked (w.unblock p) t

  -- `blocked_peers`
  abbrev pub AreBlocked : World C S → ℕ → List C → Type 0
  AreBlocked w t = Lists s.cmp (is_blocked_at w t)

  -- `next_unblock`
  abbrev pub IsNextUnblock : World C S → Option ℕ → Type 0
  IsNextUnblock w = IsLeastOf w.unblock

  -- `unblock_expired`: whether some unblock moment is at most t
  abbrev pub IsAnyExpired : World C S → ℕ → Bool → Type 0
  IsAnyExpired w t some = IsAnyUntil w.unblock t some

  -- COOLDOWNS

  -- p's last grant isn't forgotten, and its dial moment is at most t
  abbrev pub is_cooled_at : World C S → ℕ → C → Bool
  is_cooled_at w t p = is_cooled_by t (w.cooldown p)

  -- `forget_cooled`: the number of such peers
  abbrev pub IsNumberCooled : World C S → ℕ → ℕ → Type 0
  IsNumberCooled w t n = (ps : List C) × Lists s.cmp (is_cooled_at w t) ps × (n ≡ length ps)

  -- WHO MAY COME

  -- `eligible`
  abbrev pub is_eligible_at : World C S → C → ℕ → Bool
  is_eligible_at w p t = is_entitled s p w.sets && not (is_blocked (w.unblock p) t)

  -- `acceptable`
  abbrev pub is_acceptable_at : World C S → C → ℕ → Bool
  is_acceptable_at w p t = is_eligible_at w p t && is_inert (w.peer p).status

  -- `may_listen`: a listen of p at t is granted
  abbrev pub may_listen_at : World C S → C → ℕ → Bool
  may_listen_at w p t = may_listen s p t w.sets (w.peer p) (w.unblock p) (w.cooldown p)

  -- WANT AND BITS

  -- no info, or not active and too many failures
  abbrev pub wants_with : Status → ℕ → Option (Info C S) → Bool
  wants_with status fails None = true
  wants_with Active fails (Some i) = false
  wants_with status fails (Some i) = nat_le s.dial_fail_limit fails

  -- p's info is wanted: never the own one
  abbrev pub wants : C → Peer C S → Bool
  wants p peer = not (is_own s p) && wants_with peer.status peer.known.fails peer.known.info

  -- for each primary peer of a set in order, the opposite of want
  abbrev pub bits_of : World C S → SetAt C → List Bool
  bits_of w x = map (λ q. not (wants q (w.peer q))) x.primary

  -- `get_random_bit_vec`: index and bits of the set at that place
  abbrev pub bits_at : World C S → ℕ → Option (ℕ × List Bool)
  bits_at w place = option_map (λ x. (x.index, bits_of w x)) (set_at_place w place)

  -- SHARABLE

  -- the info, if active
  abbrev pub active_info : Status → Option (Info C S) → Option (Info C S)
  active_info Active info = info
  active_info _ info = None

  -- the own info, and the info of an active peer
  abbrev pub sharable_of : C → Peer C S → Option (Info C S)
  sharable_of p peer = if is_own s p then Some s.own else active_info peer.status peer.known.info

  -- `info`
  abbrev pub sharable_info : World C S → C → Option (Info C S)
  sharable_info w p = sharable_of p (w.peer p)

  -- the address of a present peer: the own one, else that of its info, else the last one that the
  -- bootstrappers give it
  abbrev pub ingress_with : C → Peer C S → Option Ingress
  ingress_with p peer =
      if is_own s p then Some s.own.ingress else address_with s p peer.known.info

  -- `ingress`: that of a present peer, whether or not it may be dialled
  abbrev pub held_ingress : World C S → C → Option Ingress
  held_ingress w p = if is_present_in w p then ingress_with p (w.peer p) else None

  -- of a peer with its bit: its sharable info, where the bit is 0 and the timestamp isn't above
  -- these milliseconds
  abbrev pub shared_info : World C S → ℕ → C × Bool → Option (Info C S)
  shared_info w millis (p, true) = None
  shared_info w millis (p, false) = elim (sharable_info w p) [
    | None ↦ None
    | Some i ↦ if nat_le i.timestamp millis then Some i else None
  ]

  -- the infos that peers with their bits make, in list order
  abbrev pub shared_infos : World C S → ℕ → List C → List Bool → List (Info C S)
  shared_infos w millis ps bits = filter_map (shared_info w millis) (zip ps bits)

  -- `infos`: no infos for an index that isn't retained, none at all for another number of bits
  abbrev pub infos_for : World C S → ℕ → List Bool → ℕ → Option (List (Info C S))
  infos_for w index bits t = elim (set_with_index w index) [
    | None ↦ Some []
    | Some x ↦ if length bits == length x.primary
        then Some (shared_infos w (epoch_millis t) x.primary bits)
        else None
  ]

  -- DIALABLE

  -- a target that isn't blocked, whose dial moment has come
  abbrev pub is_dialable_with : C → ℕ → List (SetAt C) → Peer C S → Option ℕ → Option Cooldown →
      Bool
  is_dialable_with p t sets peer unblock cooldown =
      is_target s p sets peer && not (is_blocked unblock t) && nat_le (dialable_from cooldown) t

  -- .. in the world at t
  abbrev pub is_dialable : World C S → ℕ → C → Bool
  is_dialable w t p = is_dialable_with p t w.sets (w.peer p) (w.unblock p) (w.cooldown p)

  -- when p may become dialable: a present peer that is blocked at its block's end, a target at its
  -- later dial moment
  abbrev pub query_moment : World C S → ℕ → C → Option ℕ
  query_moment w t p =
      if is_blocked (w.unblock p) t then (if is_present_in w p then w.unblock p else None)
      else if is_target s p w.sets (w.peer p) && nat_lt t (dialable_from (w.cooldown p))
      then Some (dialable_from (w.cooldown p))
      else None

  -- `dialable`: the peers, and the next query
  abbrev pub IsDialable : World C S → ℕ → List C → Option ℕ → Type 0
  IsDialable w t ps next = Lists s.cmp (is_dialable w t) ps × IsLeastOf (query_moment w t) next
