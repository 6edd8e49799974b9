-- The world that a past makes, what a call does in it, and the step of one accepted call.
use Rattle.std.specs.Prelude.{ℕ, Bool, false, not, ◌&&◌, ◌||◌, if◌then◌else◌, List, [], ◌∷◌, Option}
use Rattle.std.specs.Prelude.{Some, None, nat_lt, nat_le, suc, ◌+◌, ◌++◌, filter}
use Rattle.std.specs.List.{list_all}
use Rattle.p2p_discovery.specs.declared.discovery.Info.{Info}
use Rattle.p2p_discovery.specs.declared.types.ingress.Ingress.{Ingress}
use Rattle.p2p_discovery.specs.Ingress.{is_valid}
use Rattle.p2p_tracker.specs.declared.record.Status.{Status}
use Rattle.p2p_tracker.specs.Calls.{Settings, Call, SetAt, Grant, Cooldown, Event, Direction}
use Rattle.p2p_tracker.specs.Calls.Call.{Track, Dial, Listen, Connect, Release, Update, Block}
use Rattle.p2p_tracker.specs.Calls.Call.{UnblockExpired, ForgetCooled, Ask}
use Rattle.p2p_tracker.specs.declared.record.Status.TheVariants.{Inert, Reserved, Active}
use Rattle.p2p_tracker.specs.Calls.Direction.{Listener, Dialer}
use Rattle.p2p_tracker.specs.Calls.Event.{Nothing, SetTaken, Granted, Connected, Released, Updated}
use Rattle.p2p_tracker.specs.Calls.Event.{Blocked, Expired, Forgot}
use Rattle.p2p_tracker.specs.Lists.{last_ingress_by, last_of}
use Rattle.p2p_tracker.specs.Blocks.{is_blocked}
use Rattle.p2p_tracker.specs.Cooldowns.{reservable_from}
use Rattle.p2p_tracker.specs.PeerSets.{set_of}
use Rattle.p2p_tracker.specs.History.{is_own, taken_sets, retained_sets, primary_count}
use Rattle.p2p_tracker.specs.History.{is_persistent, is_entitled, status_at, held_at, life, info_in}
use Rattle.p2p_tracker.specs.History.{fails_in, cooldown_at, unblock_at, same, is_present_with}
use Rattle.p2p_tracker.specs.History.{is_dial_at, moments_of}
use Rattle.p2p_tracker.specs.Status.{is_inert}
use Rattle.p2p_tracker.specs.Moments.{cap}

-- what is known of a peer, and goes when the peer goes
pub record Known (C S : Type 0) : Type 0 where
  pub info : Option (Info C S)
  pub fails : ℕ

-- a peer: how it stands, and what is known of it
pub record Peer (C S : Type 0) : Type 0 where
  pub status : Status
  pub known : Known C S

-- what a directory keeps: the retained sets, the oldest first, and for each key its peer, until
-- when its block holds, and the moments of its last grant, unless that is forgotten
pub record State (C S : Type 0) : Type 0 where
  pub sets : List (SetAt C)
  pub peer : C → Peer C S
  pub unblock : C → Option ℕ
  pub cooldown : C → Option Cooldown

-- a directory's state, and for each key the grant that is held beside it
pub record World (C S : Type 0) : Type 0 where
  pub state : State C S
  pub open state use *
  pub held : C → Option Grant

module _ {C S : Type 0} (s : Settings C S) where
  -- THE WORLD THAT A PAST MAKES

  -- what is known of p by its life
  abbrev pub known_in : C → List (Event C S) → Known C S
  known_in p l = record { info = info_in s p l; fails = fails_in s p l }

  -- p at the end of a past
  abbrev pub peer_at : C → List (Event C S) → Peer C S
  peer_at p h = record { status = status_at s p h; known = known_in p (life s p h) }

  -- the state at the end of a past
  abbrev pub state_at : List (Event C S) → State C S
  state_at h = record {
    sets = retained_sets s h;
    peer = λ p. peer_at p h;
    unblock = λ p. unblock_at s p h;
    cooldown = λ p. cooldown_at s p h;
  }

  -- the world at the end of a past
  abbrev pub world_at : List (Event C S) → World C S
  world_at h = record { state = state_at h; held = λ p. held_at s p h }

  -- ADDRESS AND GRANT

  -- the last bootstrapper ingress of p
  abbrev pub last_ingress : C → List (C × Ingress) → Option Ingress
  last_ingress p bootstrappers = last_ingress_by s.cmp p bootstrappers

  -- the info's ingress, else the last bootstrapper ingress of p
  abbrev pub address_with : C → Option (Info C S) → Option Ingress
  address_with p None = last_ingress p s.bootstrappers
  address_with p (Some i) = Some i.ingress

  -- the address is known and valid
  abbrev pub is_valid_address : Option Ingress → Bool
  is_valid_address None = false
  is_valid_address (Some a) = is_valid s.allow_private_ips s.allow_dns a

  -- in a primary set, or persistent
  abbrev pub is_dial_target : C → List (SetAt C) → Bool
  is_dial_target p sets = nat_lt 0 (primary_count s p sets) || is_persistent s p

  -- p is entitled, inert, of valid address, and an outbound target
  abbrev pub is_target : C → List (SetAt C) → Peer C S → Bool
  is_target p sets peer =
      is_entitled s p sets && is_inert peer.status &&
      is_valid_address (address_with p peer.known.info) && is_dial_target p sets

  -- a listen of p at t is granted
  abbrev pub may_listen : C → ℕ → List (SetAt C) → Peer C S → Option ℕ → Option Cooldown → Bool
  may_listen p t sets peer unblock cooldown =
      is_entitled s p sets && is_inert peer.status && not (is_blocked unblock t) &&
      nat_le (reservable_from cooldown) t

  -- a dial of p at t is granted: of a target that isn't blocked, whose reservable moment has come
  abbrev pub may_dial : C → ℕ → List (SetAt C) → Peer C S → Option ℕ → Option Cooldown → Bool
  may_dial p t sets peer unblock cooldown =
      is_target p sets peer && not (is_blocked unblock t) && nat_le (reservable_from cooldown) t

  -- WHAT A CALL DOES, in a world

  -- a listen of p: a grant, or nothing
  abbrev pub listen_event : C → ℕ → ℕ → Bool → Event C S
  listen_event p t draw granted =
      if granted then Granted p (record { t = t; draw = draw; direction = Listener }) else Nothing

  -- a dial of p at an address: a grant, or nothing
  abbrev pub dial_event : C → ℕ → ℕ → Bool → Option Ingress → Event C S
  dial_event p t draw granted None = Nothing
  dial_event p t draw granted (Some a) =
      if granted then Granted p (record { t = t; draw = draw; direction = Dialer a }) else Nothing

  -- only what is reserved can connect
  abbrev pub connect_event : C → Bool → Status → Event C S
  connect_event p dialer Inert = Nothing
  connect_event p dialer Reserved = Connected p dialer
  connect_event p dialer Active = Nothing

  -- only what is held can be released
  abbrev pub release_event : C → Option Grant → Event C S
  release_event p None = Nothing
  release_event p (Some grant) = Released p grant.direction

  -- a track is taken where its index is above each of these sets'; a peer in both roles is primary
  -- only
  abbrev pub track_event : List (SetAt C) → ℕ → List C → List C → Event C S
  track_event sets index primary secondary =
      if list_all (λ x. nat_lt x.index index) sets
      then SetTaken (set_of s.cmp index primary secondary)
      else Nothing

  -- a block is taken where p isn't the own key and isn't blocked at t
  abbrev pub block_event : C → ℕ → Option ℕ → Event C S
  block_event p t unblock =
      if not (is_own s p) && not (is_blocked unblock t) then Blocked p t else Nothing

  -- what each call does in a world, with the sets that a track is held against
  abbrev pub event_in : List (SetAt C) → World C S → Call C S → Event C S
  event_in sets w (Track index primary secondary) = track_event sets index primary secondary
  event_in sets w (Dial p t draw) =
      dial_event p t draw (may_dial p t w.sets (w.peer p) (w.unblock p) (w.cooldown p))
      (address_with p (w.peer p).known.info)
  event_in sets w (Listen p t draw) =
      listen_event p t draw (may_listen p t w.sets (w.peer p) (w.unblock p) (w.cooldown p))
  event_in sets w (Connect p dialer) = connect_event p dialer (w.peer p).status
  event_in sets w (Release p) = release_event p (w.held p)
  event_in sets w (Update infos) = Updated infos
  event_in sets w (Block p t) = block_event p t (w.unblock p)
  event_in sets w (UnblockExpired t) = Expired t
  event_in sets w (ForgetCooled t) = Forgot t
  event_in sets w (Ask question) = Nothing

  -- a past with one more call: what it does in the world at that point; a track is held against
  -- every set taken before
  abbrev pub past_after : List (Event C S) → Call C S → List (Event C S)
  past_after h c = event_in (taken_sets s h) (world_at h) c ∷ h

  -- the past that calls make, both the newest first
  abbrev pub past : List (Call C S) → List (Event C S)
  past [] = []
  past (c ∷ cs) = past_after (past cs) c

  -- THE STEP: what one accepted call changes of a world. That it leads to the world recomputed with
  -- one more call is the main law.

  -- a set that is taken is the latest, and at most so many of the latest stay
  abbrev pub sets_after : Event C S → List (SetAt C) → List (SetAt C)
  sets_after (SetTaken taken) sets = last_of s.max_sets (sets ++ taken ∷ [])
  sets_after _ sets = sets

  -- what a connect makes of a status: nothing where there is no grant
  abbrev pub status_connected : Status → Status
  status_connected Inert = Inert
  status_connected _ = Active

  -- what an event makes of the status of p
  abbrev pub status_after : C → Event C S → Status → Status
  status_after p (Granted q grant) status = if same s q p then Reserved else status
  status_after p (Connected q dialer) status =
      if same s q p then status_connected status else status
  status_after p (Released q direction) status = if same s q p then Inert else status
  status_after p _ status = status

  -- what an event makes of the grant that is held of p
  abbrev pub held_after : C → Event C S → Option Grant → Option Grant
  held_after p (Granted q grant) held = if same s q p then Some grant else held
  held_after p (Released q direction) held = if same s q p then None else held
  held_after p _ held = held

  -- one info, taken where none is known or it is strictly newer
  abbrev pub known_with_info : Known C S → Info C S → Option (Info C S) → Known C S
  known_with_info k i None = record k { info = Some i; fails = 0 }
  known_with_info k i (Some j) =
      if nat_lt j.timestamp i.timestamp then record k { info = Some i; fails = 0 } else k

  -- one info after the other
  abbrev pub known_with_infos : Known C S → List (Info C S) → Known C S
  known_with_infos k [] = k
  known_with_infos k (i ∷ is) = known_with_infos (known_with_info k i k.info) is

  -- a release in this direction counts as a failure
  abbrev pub is_failed_dial : Option (Info C S) → Direction → Bool
  is_failed_dial None direction = false
  is_failed_dial (Some i) direction = is_dial_at i.ingress direction

  -- what an event makes of what is known of p, if it stays present
  abbrev pub known_after : C → Event C S → Known C S → Known C S
  known_after p (Updated infos) k =
      if is_own s p then k else known_with_infos k (filter (λ i. same s i.public_key p) infos)
  known_after p (Connected q dialer) k = if same s q p && dialer then record k { fails = 0 } else k
  known_after p (Released q direction) k =
      if same s q p && is_failed_dial k.info direction then record k { fails = suc k.fails } else k
  known_after p _ k = k

  -- what is known of a peer that is new
  abbrev pub new_known : C → Known C S
  new_known p = record { info = if is_own s p then Some s.own else None; fails = 0 }

  -- of a peer that is gone info and failures are forgotten
  abbrev pub peer_after : C → Event C S → List (SetAt C) → Peer C S → Peer C S
  peer_after p e sets peer = record {
    status = status_after p e peer.status;
    known = if is_present_with s p sets (status_after p e peer.status)
        then known_after p e peer.known
        else new_known p;
  }

  -- what an event makes of the unblock moment of p
  abbrev pub unblock_after : C → Event C S → Option ℕ → Option ℕ
  unblock_after p (Blocked q t) moment =
      if same s q p then Some (cap (t + s.block_duration)) else moment
  unblock_after p (Expired t) None = None
  unblock_after p (Expired t) (Some moment) = if nat_le moment t then None else Some moment
  unblock_after p _ moment = moment

  -- what an event makes of the moments that are kept of p
  abbrev pub cooldown_after : C → Event C S → Option Cooldown → Option Cooldown
  cooldown_after p (Granted q grant) cooldown =
      if same s q p then Some (moments_of s grant) else cooldown
  cooldown_after p (Forgot t) None = None
  cooldown_after p (Forgot t) (Some cooldown) =
      if nat_le cooldown.dial_at t then None else Some cooldown
  cooldown_after p _ cooldown = cooldown

  -- what an event changes of a state
  abbrev pub state_after : Event C S → State C S → State C S
  state_after e d = record {
    sets = sets_after e d.sets;
    peer = λ p. peer_after p e (sets_after e d.sets) (d.peer p);
    unblock = λ p. unblock_after p e (d.unblock p);
    cooldown = λ p. cooldown_after p e (d.cooldown p);
  }

  -- what an event changes of a world
  abbrev pub world_with : Event C S → World C S → World C S
  world_with e w = record { state = state_after e w.state; held = λ p. held_after p e (w.held p) }

  -- the change of one accepted call: a track is held against the retained sets alone
  abbrev pub step : World C S → Call C S → World C S
  step w c = world_with (event_in w.sets w c) w
