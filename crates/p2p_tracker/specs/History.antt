-- What the past says of a directory. A past is the list of what the accepted calls did, the newest
-- first. p is a key, t a moment.
use Rattle.std.specs.Prelude.{ℕ, ◌≡◌, ◌+◌, Bool, true, false, not, ◌&&◌, ◌||◌, if◌then◌else◌}
use Rattle.std.specs.Prelude.{List, [], ◌∷◌, ◌++◌, Option, Some, None, nat_lt, nat_le}
use Rattle.std.specs.Prelude.{filter, count_by, option_map}
use Rattle.std.specs.List.{list_any}
use Rattle.std.specs.BTreeMap.{is_at}
use Rattle.p2p_discovery.specs.declared.discovery.Info.{Info}
use Rattle.p2p_discovery.specs.declared.types.ingress.Ingress.{Ingress}
use Rattle.p2p_discovery.specs.Ingress.{same_ingress}
use Rattle.p2p_tracker.specs.Status.{is_inert}
use Rattle.p2p_tracker.specs.Lists.{last_of, first_greatest}
use Rattle.p2p_tracker.specs.Moments.{cap, moments_after}
use Rattle.p2p_tracker.specs.declared.record.Status.{Status}
use Rattle.p2p_tracker.specs.Calls.{Settings, SetAt, Direction, Grant, Cooldown, Event}
use Rattle.p2p_tracker.specs.declared.record.Status.TheVariants.{Inert, Reserved, Active}
use Rattle.p2p_tracker.specs.Calls.Direction.{Listener, Dialer}
use Rattle.p2p_tracker.specs.Calls.Event.{SetTaken, Granted, Connected, Released, Updated, Blocked}
use Rattle.p2p_tracker.specs.Calls.Event.{Expired, Forgot}
use Rattle.p2p_tracker.specs.PeerSets.{set_count}
use Rattle.p2p_discovery.specs.Ordered.{has_key}
use Rattle.p2p_tracker.specs.declared.record.Role.TheVariants.{Primary, Secondary}

-- LOOKING BACK

-- a value that the event e gives, else what was found before it
abbrev pub found_with : {E A : Type 0} → Option A → E → Option (A × List E) → Option (A × List E)
found_with (Some a) e before = Some (a, [])
found_with None e None = None
found_with None e (Some found) = Some (found.0, e ∷ found.1)

-- the last event that gives a value: the value, and the events after it
abbrev pub last_with : {E A : Type 0} → (E → Option A) → List E → Option (A × List E)
last_with gives [] = None
last_with gives (e ∷ h) = found_with (gives e) e (last_with gives h)

-- a value that was found, unless an event after it ended it
abbrev pub unless_ended : {E A : Type 0} → (A → E → Bool) → Option (A × List E) → Option A
unless_ended ends None = None
unless_ended ends (Some found) = if list_any (ends found.0) found.1 then None else Some found.0

-- the last value given, unless a later event ended it
abbrev pub last_unless_ended : {E A : Type 0} → (E → Option A) → (A → E → Bool) → List E → Option A
last_unless_ended gives ends h = unless_ended ends (last_with gives h)

-- INFOS AND DIALS

-- there is a second info, and it is newer than the first, if there is a first
abbrev pub is_newer : {C S : Type 0} → Option (Info C S) → Option (Info C S) → Bool
is_newer old None = false
is_newer None (Some j) = true
is_newer (Some i) (Some j) = nat_lt i.timestamp j.timestamp

-- the direction is a dial at this ingress
abbrev pub is_dial_at : Ingress → Direction → Bool
is_dial_at ingress Listener = false
is_dial_at ingress (Dialer a) = same_ingress ingress a

module _ {C S : Type 0} (s : Settings C S) where
  -- KEYS, an event's or a stored one first

  -- the keys compare as equal
  abbrev pub same : C → C → Bool
  same q p = is_at (s.cmp q) p

  -- p is the own key
  abbrev pub is_own : C → Bool
  is_own p = same s.own.public_key p

  -- p is one of these keys
  abbrev pub is_in : C → List C → Bool
  is_in p ps = has_key s.cmp ps p

  -- keys that compare as equal are one key
  abbrev pub IsExact : Type 0
  IsExact = (q p : C) → same q p ≡ true → q ≡ p

  -- RETAINED SETS AND COUNTS

  -- the set that was taken by the event
  abbrev pub set_by : Event C S → List (SetAt C)
  set_by (SetTaken taken) = taken ∷ []
  set_by _ = []

  -- each set that was taken, the oldest first
  abbrev pub taken_sets : List (Event C S) → List (SetAt C)
  taken_sets [] = []
  taken_sets (e ∷ h) = taken_sets h ++ set_by e

  -- the last ones taken, the oldest first
  abbrev pub retained_sets : List (Event C S) → List (SetAt C)
  retained_sets h = last_of s.max_sets (taken_sets h)

  -- how many of these sets have p in primary
  abbrev pub primary_count : C → List (SetAt C) → ℕ
  primary_count p sets = set_count s.cmp Primary p sets

  -- how many of these sets have p in secondary
  abbrev pub secondary_count : C → List (SetAt C) → ℕ
  secondary_count p sets = set_count s.cmp Secondary p sets

  -- one of these sets has p
  abbrev pub is_named : C → List (SetAt C) → Bool
  is_named p sets = nat_lt 0 (primary_count p sets) || nat_lt 0 (secondary_count p sets)

  -- the own key and every bootstrapper's key
  abbrev pub is_persistent : C → Bool
  is_persistent p = is_own p || list_any (λ b. same b.0 p) s.bootstrappers

  -- p is another key than the own, and named or persistent
  abbrev pub is_entitled : C → List (SetAt C) → Bool
  is_entitled p sets = not (is_own p) && (is_named p sets || is_persistent p)

  -- STATUS

  -- the grant of p that the event is
  abbrev pub grant_by : C → Event C S → Option Grant
  grant_by p (Granted q grant) = if same q p then Some grant else None
  grant_by p _ = None

  -- the event is a release of p
  abbrev pub is_release : C → Event C S → Bool
  is_release p (Released q direction) = same q p
  is_release p _ = false

  -- the event is a connect of p
  abbrev pub is_connect : C → Event C S → Bool
  is_connect p (Connected q dialer) = same q p
  is_connect p _ = false

  -- by the last grant and the events after it
  abbrev pub status_since : C → Option (Grant × List (Event C S)) → Status
  status_since p None = Inert
  status_since p (Some found) =
      if list_any (is_release p) found.1 then Inert
      else if list_any (is_connect p) found.1 then Active
      else Reserved

  -- inert unless granted and not released since; then active if connected since, else reserved
  abbrev pub status_at : C → List (Event C S) → Status
  status_at p h = status_since p (last_with (grant_by p) h)

  -- the grant that is held: the last, unless it was released
  abbrev pub held_at : C → List (Event C S) → Option Grant
  held_at p h = last_unless_ended (grant_by p) (λ grant. is_release p) h

  -- PRESENCE AND LIFE

  -- p is persistent, or named, or not inert
  abbrev pub is_present_with : C → List (SetAt C) → Status → Bool
  is_present_with p sets status = is_persistent p || is_named p sets || not (is_inert status)

  -- .. at the end of a past
  abbrev pub is_present : C → List (Event C S) → Bool
  is_present p h = is_present_with p (retained_sets h) (status_at p h)

  -- what the calls did after the last point at which p was absent; all of it where there is no such
  -- point
  unfoldable pub life : C → List (Event C S) → List (Event C S)
  life p [] = []
  life p (e ∷ h) = if is_present p (e ∷ h) then e ∷ life p h else []

  -- KNOWLEDGE OF A PEER, from its life l

  -- p's infos in one event
  abbrev pub infos_by : C → Event C S → List (Info C S)
  infos_by p (Updated infos) = filter (λ i. same i.public_key p) infos
  infos_by p _ = []

  -- p's infos in the updates, in order
  abbrev pub infos_offered : C → List (Event C S) → List (Info C S)
  infos_offered p [] = []
  infos_offered p (e ∷ l) = infos_offered p l ++ infos_by p e

  -- of the own key the own info, of another the first of greatest timestamp in its life
  abbrev pub info_in : C → List (Event C S) → Option (Info C S)
  info_in p l = if is_own p then Some s.own else first_greatest (infos_offered p l)

  -- the event e, after the events l, brought p's info
  abbrev pub is_brought_by : C → Event C S → List (Event C S) → Bool
  is_brought_by p e l = is_newer (info_in p l) (info_in p (e ∷ l))

  -- the event is a connect of p as its dialer
  abbrev pub connects_as_dialer : C → Event C S → Bool
  connects_as_dialer p (Connected q dialer) = same q p && dialer
  connects_as_dialer p _ = false

  -- the events after the one that brought p's info and after p's last connect as its dialer
  abbrev pub since_cleared : C → List (Event C S) → List (Event C S)
  since_cleared p [] = []
  since_cleared p (e ∷ l) =
      if is_brought_by p e l || connects_as_dialer p e then [] else e ∷ since_cleared p l

  -- a release of p whose grant was a dial at this ingress
  abbrev pub is_failure : C → Ingress → Event C S → Bool
  is_failure p ingress (Released q direction) = same q p && is_dial_at ingress direction
  is_failure p ingress _ = false

  -- the failures at the info's ingress
  abbrev pub failures_of : C → Option (Info C S) → List (Event C S) → ℕ
  failures_of p None l = 0
  failures_of p (Some i) l = count_by (is_failure p i.ingress) l

  -- how often dials at the ingress of its info failed since it was brought and since the last
  -- connect as its dialer
  abbrev pub fails_in : C → List (Event C S) → ℕ
  fails_in p l = failures_of p (info_in p l) (since_cleared p l)

  -- COOLDOWNS, which know no life

  -- the moments of a grant
  abbrev pub moments_of : Grant → Cooldown
  moments_of grant = moments_after grant.t grant.draw s.cooldown

  -- the event forgets the grant: its dial moment has come
  abbrev pub is_forgetting : Grant → Event C S → Bool
  is_forgetting grant (Forgot t) = nat_le (moments_of grant).dial_at t
  is_forgetting grant _ = false

  -- the moments of the last grant of p, unless it was forgotten
  abbrev pub cooldown_at : C → List (Event C S) → Option Cooldown
  cooldown_at p h = option_map moments_of (last_unless_ended (grant_by p) is_forgetting h)

  -- BLOCKS, which know no life

  -- until when a block of p holds that was taken
  abbrev pub block_by : C → Event C S → Option ℕ
  block_by p (Blocked q t) = if same q p then Some (cap (t + s.block_duration)) else None
  block_by p _ = None

  -- the event ends each block that holds until this moment
  abbrev pub is_expiry : ℕ → Event C S → Bool
  is_expiry moment (Expired t) = nat_le moment t
  is_expiry moment _ = false

  -- until when p's block holds, if there is one
  abbrev pub unblock_at : C → List (Event C S) → Option ℕ
  unblock_at p h = last_unless_ended (block_by p) is_expiry h
