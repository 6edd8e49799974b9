-- A history with dials that is right: memory is refused for one, and a tick later two peers are dialled. The stream of one
-- is proved to be another's, and its link ends. That of the other is proved, its peer greets as one that was dialled, and
-- its link ends, too. So the premises of the laws are met by dials. Keys and signatures are of one byte.
use Rattle.std.proofs.Common.{◌≡◌, ℕ, Bool, true, false, ◌&&◌, ◌||◌, List, [], ◌∷◌, Option, Some, None, refl, sym, ◌∙◌, ap, subst}
use Rattle.std.proofs.Common.{arith}
use Rattle.std.specs.Prelude.{if◌then◌else◌, length}
use Rattle.std.specs.BTreeMap.{is_at}
use Rattle.std.specs.Duration.{as_nanos}
use Rattle.std.specs.Ordering.{nat_cmp}
use Rattle.std.specs.List.Sorted.{IsStrictlySortedBy}
use Rattle.std.specs.declared.time.Duration.{Duration}
use Rattle.std.proofs.lemmas.Map.Lookups.{exact_unsigned}
use Rattle.std.proofs.lemmas.Map.Views.{tells_apart}
use Rattle.p2p_discovery.specs.declared.discovery.Info.{Info}
use Rattle.p2p_discovery.specs.declared.discovery.Payload.TheVariants as payload
use Rattle.p2p_discovery.specs.Payload.{body_at, payload_at}
use Rattle.p2p_discovery.specs.Counted.{length_at}
use Rattle.p2p_discovery.specs.Varint.{groups, groups_at}
use Rattle.p2p_discovery.specs.Info as texts
use Rattle.p2p_discovery.specs.Ingress.{ingress_at, is_valid}
use Rattle.p2p_discovery.specs.Socket.{ip_at, socket_at}
use Rattle.p2p_discovery.specs.Lists.{spellings}
use Rattle.p2p_discovery.specs.Ordered.{has_key}
use Rattle.p2p_tracker.specs.Answers.{is_dialable, query_moment, IsDialable}
use Rattle.p2p_tracker.specs.Calls.{Settings, Call}
use Rattle.p2p_tracker.specs.Calls.Call.{Track, Dial, Update}
use Rattle.p2p_tracker.specs.History.{life, is_entitled}
use Rattle.p2p_tracker.specs.PeerSets.{set_of}
use Rattle.p2p_directory.specs.Run.{world_after}
use Rattle.p2p_directory.proofs.Definitions.GossipExamples.{wire, signed, own_of_9, asker}
use Rattle.p2p_driver.specs.Drivers.{Base, AreRight, kept}
use Rattle.p2p_driver.specs.Frames.{Cause, Outcome}
use Rattle.p2p_driver.specs.Happenings.{Happening, link_count, outbound_count}
use Rattle.p2p_driver.specs.Laws.{has_greeted}
use Rattle.p2p_driver.specs.Looked.{looked_of}
use Rattle.p2p_driver.specs.declared.actions.Action.TheVariants as action
use Rattle.p2p_driver.specs.declared.actions.Event.TheVariants as event
use Rattle.p2p_driver.specs.declared.actions.Why.TheVariants as why
use Rattle.p2p_driver.specs.declared.heads.Kind.TheVariants as kind
use Rattle.p2p_driver.specs.declared.links.Direction.TheVariants as way
use Rattle.p2p_driver.specs.declared.links.Waiting.{Waiting}
use Rattle.p2p_driver.specs.declared.pace.Pace.{Pace}

abbrev seconds : ℕ → Duration
seconds n = record { secs = n; nanos = 0 }

-- WHO MAY BE DIALLED

abbrev d : Settings ℕ ℕ
d = asker.directory

abbrev infos : List (Info ℕ ℕ)
infos = signed 1 100000 ∷ signed 2 100000 ∷ []

-- once two peers are named, and their addresses known
abbrev named : List (Call ℕ ℕ)
named = Update infos ∷ Track 0 (1 ∷ 2 ∷ []) [] ∷ []

-- .. and one of them was dialled
abbrev called : List (Call ℕ ℕ)
called = Dial 1 (as_nanos (seconds 40)) 0 ∷ named

-- nobody else is entitled
other : (p : ℕ) → is_at (nat_cmp 1) p ≡ false → is_at (nat_cmp 2) p ≡ false → is_entitled d p (set_of nat_cmp 0 (1 ∷ 2 ∷ []) [] ∷ []) ≡ false
other p one two = go (is_at (nat_cmp 9) p) refl
  where
    go : (own : Bool) → is_at (nat_cmp 9) p ≡ own → is_entitled d p (set_of nat_cmp 0 (1 ∷ 2 ∷ []) [] ∷ []) ≡ false
    go true own = simp own refl
    go false own = simp (own, one, two) refl

unless : (e i v t n l : Bool) → e ≡ false → (e && i && v && t && n && l) ≡ false
unless true i v t n l is = absurd cc
unless false i v t n l is = refl

none_unless : (e i v t l : Bool) (moment : Option ℕ) → e ≡ false → (if e && i && v && t && l then moment else None) ≡ None
none_unless true i v t l moment is = absurd cc
none_unless false i v t l moment is = refl

by_key : (P : ℕ → Type 0) → P 1 → P 2 → ((p : ℕ) → is_at (nat_cmp 1) p ≡ false → is_at (nat_cmp 2) p ≡ false → P p) → (p : ℕ) → P p
by_key P first second others p = go (is_at (nat_cmp 1) p) (is_at (nat_cmp 2) p) refl refl
  where
    go : (one two : Bool) → is_at (nat_cmp 1) p ≡ one → is_at (nat_cmp 2) p ≡ two → P p
    go true two is isnt = subst P (tells_apart exact_unsigned 1 p is) first
    go false true is isnt = subst P (tells_apart exact_unsigned 2 p isnt) second
    go false false is isnt = others p is isnt

dialable : IsDialable d (world_after d named) (as_nanos (seconds 40)) (1 ∷ 2 ∷ []) None
unfolding life is_valid IsStrictlySortedBy
dialable = (
  record {
    sorted = ((refl, tt), (tt, tt));
    members = by_key (λ p. has_key nat_cmp (1 ∷ 2 ∷ []) p ≡ is_dialable d (world_after d named) (as_nanos (seconds 40)) p) refl refl
        (λ p one two. (λ i. one i || (two i || false)) ∙ sym (unless (is_entitled d p (world_after d named).sets) _ _ _ _ _ (other p one two)));
  },
  by_key (λ p. query_moment d (world_after d named) (as_nanos (seconds 40)) p ≡ None) refl refl
      (λ p one two. none_unless (is_entitled d p (world_after d named).sets) _ _ _ _ _ (other p one two)),
)

one_left : IsDialable d (world_after d called) (as_nanos (seconds 41)) (2 ∷ []) None
unfolding life is_valid IsStrictlySortedBy
one_left = (
  record {
    sorted = (tt, tt);
    members = by_key (λ p. has_key nat_cmp (2 ∷ []) p ≡ is_dialable d (world_after d called) (as_nanos (seconds 41)) p) refl refl
        (λ p one two. ap (λ b. b || false) two ∙ sym (unless (is_entitled d p (world_after d called).sets) _ _ _ _ _ (other p one two)));
  },
  by_key (λ p. query_moment d (world_after d called) (as_nanos (seconds 41)) p ≡ None) refl refl
      (λ p one two. none_unless (is_entitled d p (world_after d called).sets) _ _ _ _ _ (other p one two)),
)

-- THE HISTORY

abbrev greeter : Info ℕ ℕ
greeter = signed 2 100000

abbrev hello : List ℕ
hello = wire.spelling (payload.Greeting greeter)

abbrev waits : Waiting
waits = record { frame = hello; wall = seconds 100; infos = 1; count = 1 }

abbrev heard : ℕ → Cause → Outcome ℕ ℕ → Happening ℕ ℕ
heard t c x = Happening.Heard 2 2 (seconds t) 0 c x

module _ (given : Pace) where
  abbrev b : Base ℕ ℕ
  b = record {
    made = asker;
    pace = record given { links = 4; inbound = 4; outbound = 4; dials = 4; owed = 4; queue = 4; tick = seconds 30 };
    greeting = wire.spelling (payload.Greeting own_of_9);
    wire = wire;
  }

  abbrev set : List (Happening ℕ ℕ)
  set = Happening.SetCame (seconds 1) 0 (1 ∷ 2 ∷ []) [] [] ∷ []

  abbrev known : List (Happening ℕ ℕ)
  known = Happening.Given infos (seconds 1) ∷ set

  abbrev refused : List (Happening ℕ ℕ)
  refused = Happening.Undialed (seconds 2) ∷ known

  abbrev dialed : List (Happening ℕ ℕ)
  dialed = Happening.Dialed 1 1 (seconds 40) (seconds 0) 0 (signed 1 100000).ingress ∷ refused

  abbrev dialed_too : List (Happening ℕ ℕ)
  dialed_too = Happening.Dialed 2 2 (seconds 41) (seconds 0) 0 greeter.ingress ∷ dialed

  abbrev mistaken : List (Happening ℕ ℕ)
  mistaken = Happening.Mistaken 1 1 (seconds 42) ∷ dialed_too

  abbrev reached : List (Happening ℕ ℕ)
  reached = Happening.Reached 2 2 (seconds 43) ∷ mistaken

  abbrev first_ended : List (Happening ℕ ℕ)
  first_ended = Happening.Failed 1 1 (seconds 44) way.Dialing ∷ reached

  abbrev taken_first : List (Happening ℕ ℕ)
  taken_first = Happening.Taken (action.Dial (record { 0 = 1 }) 1 (signed 1 100000).ingress) ∷ first_ended

  abbrev taken_second : List (Happening ℕ ℕ)
  taken_second = Happening.Taken (action.Dial (record { 0 = 2 }) 2 greeter.ingress) ∷ taken_first

  abbrev taken_close : List (Happening ℕ ℕ)
  taken_close = Happening.Taken (action.Close (record { 0 = 1 }) why.WrongKey) ∷ taken_second

  abbrev taken_greeting : List (Happening ℕ ℕ)
  taken_greeting = Happening.Taken (action.Send (record { 0 = 2 }) b.greeting) ∷ taken_close

  abbrev written : List (Happening ℕ ℕ)
  written = Happening.Written 2 2 (seconds 44) ∷ taken_greeting

  abbrev greeting_read : List (Happening ℕ ℕ)
  greeting_read = heard 45 (Cause.OfHead 300 hello (length hello)) (Outcome.Reads kind.Greeting (looked_of hello (length hello))) ∷ written

  abbrev greeting_waits : List (Happening ℕ ℕ)
  greeting_waits = heard 45 (Cause.OfFrame hello (seconds 100)) (Outcome.Waits waits) ∷ greeting_read

  abbrev greeted : List (Happening ℕ ℕ)
  greeted = heard 46 (Cause.OfVerdicts (true ∷ [])) (Outcome.Greets true greeter None) ∷ greeting_waits

  abbrev told : List (Happening ℕ ℕ)
  told = Happening.Taken (action.Told (event.Up (record { 0 = 2 }) 2)) ∷ greeted

  abbrev ended : List (Happening ℕ ℕ)
  ended = Happening.Ended 2 2 (seconds 47) way.Outbound ∷ told

  set_right : AreRight b set
  unfolding life IsStrictlySortedBy
  set_right = (
    (omega arith, (refl, record { sorted = tt; members = λ p. refl })),
    omega arith,
    tt,
  )

  refused_right : AreRight b refused
  unfolding life is_valid
  refused_right = ((refl, omega arith, (2, refl)), omega arith, (tt, omega arith, set_right))

  dialed_right : AreRight b dialed
  unfolding life is_valid
  dialed_right = (
    record {
      number = refl;
      place = refl;
      tried = omega arith;
      chosen = record { peers = 1 ∷ 2 ∷ []; next = None; dialable = dialable; chosen = refl };
      draws = refl;
      address = refl;
      granted = refl;
    },
    omega arith,
    refused_right,
  )

  dialed_too_right : AreRight b dialed_too
  unfolding life is_valid
  dialed_too_right = (
    record {
      number = refl;
      place = refl;
      tried = omega arith;
      chosen = record { peers = 2 ∷ []; next = None; dialable = one_left; chosen = refl };
      draws = refl;
      address = refl;
      granted = refl;
    },
    omega arith,
    dialed_right,
  )

  reached_right : AreRight b reached
  reached_right = ((refl, refl, refl), omega arith, ((refl, refl, refl), omega arith, dialed_too_right))

  first_ended_right : AreRight b first_ended
  unfolding life is_valid
  first_ended_right = (((refl, refl), refl), omega arith, reached_right)

  taken_first_right : AreRight b taken_first
  taken_first_right = (
    (
      action.Dial (record { 0 = 2 }) 2 greeter.ingress ∷ action.Close (record { 0 = 1 }) why.WrongKey
          ∷ action.Send (record { 0 = 2 }) b.greeting ∷ [],
      refl,
    ),
    tt,
    first_ended_right,
  )

  taken_second_right : AreRight b taken_second
  taken_second_right = (
    (action.Close (record { 0 = 1 }) why.WrongKey ∷ action.Send (record { 0 = 2 }) b.greeting ∷ [], refl),
    tt,
    taken_first_right,
  )

  taken_close_right : AreRight b taken_close
  taken_close_right = ((action.Send (record { 0 = 2 }) b.greeting ∷ [], refl), tt, taken_second_right)

  taken_greeting_right : AreRight b taken_greeting
  taken_greeting_right = (([], refl), tt, taken_close_right)

  written_right : AreRight b written
  written_right = ((refl, omega arith), omega arith, taken_greeting_right)

  greeting_read_right : AreRight b greeting_read
  unfolding groups spellings
  greeting_read_right = (
    record { number = refl; dials = tt; comes = refl; owes = refl; done = tt; paced = (refl, (refl, refl)); room = tt },
    omega arith,
    written_right,
  )

  waits_right : AreRight b greeting_waits
  unfolding payload_at body_at length_at groups groups_at texts.info_at ingress_at ip_at socket_at
  waits_right = (
    record {
      number = refl;
      dials = tt;
      comes = ((refl, refl), (greeter, refl, refl, refl, refl));
      owes = refl;
      done = tt;
      paced = refl;
      room = tt;
    },
    omega arith,
    greeting_read_right,
  )

  greeted_right : AreRight b greeted
  unfolding payload_at body_at length_at groups groups_at texts.info_at ingress_at ip_at socket_at
  greeted_right = (
    record { number = refl; dials = refl; comes = (refl, (refl, refl)); owes = refl; done = tt; paced = tt; room = tt },
    omega arith,
    waits_right,
  )

  -- all of it is right
  pub right : AreRight b ended
  right = (((refl, refl), refl), omega arith, (([], refl), tt, greeted_right))

  -- the peer has greeted, and its link was outbound; the grant of the other is kept
  pub shown : (has_greeted d 2 told ≡ true) × (outbound_count told ≡ 1) × (link_count ended ≡ 0) × (kept b 1 ended ≡ Some (seconds 40))
      × (kept b 2 ended ≡ None)
  shown = (refl, refl, refl, refl, refl)
