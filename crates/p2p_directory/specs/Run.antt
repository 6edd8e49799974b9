-- The replies to a run of commands, by the calls accepted before each, and what the run leaves.
use Rattle.std.specs.Prelude.{ℕ, ◌≡◌, ◌⊎◌, Bool, true, false, not, if◌then◌else◌}
use Rattle.std.specs.Prelude.{List, [], ◌∷◌, map, Option, is_some, length, ◌<◌}
use Rattle.std.specs.Option.{option_map, IsSomeAnd}
use Rattle.std.specs.Duration.{as_nanos}
use Rattle.std.specs.Int.NonZero.{non_zero_usize_get}
use Rattle.std.specs.declared.cmp.Ordering.{Ordering}
use Rattle.p2p_discovery.specs.declared.discovery.BitVec.{BitVec}
use Rattle.p2p_discovery.specs.declared.discovery.Info.{Info}
use Rattle.p2p_discovery.specs.declared.types.ingress.Ingress.{Ingress}
use Rattle.p2p_tracker.specs.declared.directory.Config.{Config}
use Rattle.p2p_directory.specs.declared.run.commands.Command.{Command}
use Rattle.p2p_directory.specs.declared.run.commands.Command.TheVariants as command
use Rattle.p2p_directory.specs.declared.run.commands.Reply.{Reply}
use Rattle.p2p_directory.specs.declared.run.commands.Reply.TheVariants as reply
use Rattle.p2p_tracker.specs.declared.directory.PeerSetUpdate.{PeerSetUpdate}
use Rattle.p2p_tracker.specs.declared.directory.Metadata.{Metadata}
use Rattle.p2p_discovery.specs.Ingress.{takes_none}
use Rattle.p2p_tracker.specs.Calls.{Settings, SetAt, Question, Call, Event}
use Rattle.p2p_tracker.specs.Calls.Question.{StatusOf, NumberTracked, NextUnblock, BlockedAt}
use Rattle.p2p_tracker.specs.Calls.Question.{PeerSet, LatestIndex, AllPeers, LatestUpdate, InfoOf}
use Rattle.p2p_tracker.specs.Calls.Question.{InfosFor, BitsAt, IsEligible, IsAcceptable, DialableAt}
use Rattle.p2p_tracker.specs.Calls.Question.{IngressOf, MayListen}
use Rattle.p2p_tracker.specs.Calls.Call.{Track, Dial, Listen, Connect, Release, Update, Block}
use Rattle.p2p_tracker.specs.Calls.Call.{UnblockExpired, ForgetCooled, Ask}
use Rattle.p2p_tracker.specs.PeerSets.{has_peers}
use Rattle.p2p_tracker.specs.Lists.{Somebody}
use Rattle.p2p_tracker.specs.History.{is_named, is_own, taken_sets}
use Rattle.p2p_tracker.specs.Status.{is_inert}
use Rattle.p2p_tracker.specs.World.{World, world_at, past, event_in}
use Rattle.p2p_tracker.specs.Answers.{IsTrackAnswer, was_granted, was_taken, was_blocked}
use Rattle.p2p_tracker.specs.Answers.{may_connect, may_release, status_in, IsNumberTracked}
use Rattle.p2p_tracker.specs.Answers.{set_with_index, set_at_place, latest_index_in, bits_at}
use Rattle.p2p_tracker.specs.Answers.{AreAll, IsLatestUpdate, sharable_info, infos_for}
use Rattle.p2p_tracker.specs.Answers.{is_blocked_at, AreBlocked, IsNextUnblock, IsAnyExpired}
use Rattle.p2p_tracker.specs.Answers.{IsNumberCooled, is_eligible_at, is_acceptable_at, is_dialable}
use Rattle.p2p_tracker.specs.Answers.{IsDialable, held_ingress, may_listen_at}
use Rattle.p2p_tracker.specs.Seen.{peers_of, set_in}
use Rattle.p2p_directory.specs.Refinement.{metadata_of}

-- WHAT A RUN IS GIVEN

-- the setup that a caller gives, with the order of the keys; durations in nanoseconds
abbrev pub settings : {C S : Type 0} →
    (C → C → Ordering) → List (C × Ingress) → Info C S → Config → Settings C S
settings cmp bootstrappers myself cfg = record {
  cmp = cmp;
  own = myself;
  bootstrappers = bootstrappers;
  allow_private_ips = cfg.allow_private_ips;
  allow_dns = cfg.allow_dns;
  max_sets = non_zero_usize_get cfg.max_sets;
  dial_fail_limit = cfg.dial_fail_limit;
  cooldown = as_nanos cfg.peer_connection_cooldown;
  block_duration = as_nanos cfg.block_duration;
}

-- the call that a command makes, if it is accepted
abbrev pub call_of : {C S : Type 0} → Command C S → Call C S
call_of (command.Track index peers) = Track index peers.primary peers.secondary
call_of (command.Dial p now draw) = Dial p (as_nanos now) (as_nanos draw)
call_of (command.Listen p now draw) = Listen p (as_nanos now) (as_nanos draw)
call_of (command.Connect p dialer) = Connect p dialer
call_of (command.Release p) = Release p
call_of (command.UpdatePeers infos) = Update infos.items
call_of (command.Block p now) = Block p (as_nanos now)
call_of (command.UnblockExpired now) = UnblockExpired (as_nanos now)
call_of (command.ForgetCooled now) = ForgetCooled (as_nanos now)
call_of command.NextUnblock = Ask NextUnblock
call_of (command.BlockedPeers now) = Ask (BlockedAt (as_nanos now))
call_of (command.Status p) = Ask (StatusOf p)
call_of (command.GetPeerSet index) = Ask (PeerSet index)
call_of command.LatestSetIndex = Ask LatestIndex
call_of command.LatestUpdate = Ask LatestUpdate
call_of command.All = Ask AllPeers
call_of (command.Info p) = Ask (InfoOf p)
call_of (command.Ingress p) = Ask (IngressOf p)
call_of (command.Infos v now) = Ask (InfosFor v.index v.bits (as_nanos now))
call_of (command.GetRandomBitVec place) = Ask (BitsAt place)
call_of (command.Eligible p now) = Ask (IsEligible p (as_nanos now))
call_of (command.Acceptable p now) = Ask (IsAcceptable p (as_nanos now))
call_of (command.MayListen p now) = Ask (MayListen p (as_nanos now))
call_of (command.Dialable now) = Ask (DialableAt (as_nanos now))
call_of command.Tracked = Ask NumberTracked

-- .. one for each command, in order
abbrev pub calls_of : {C S : Type 0} → List (Command C S) → List (Call C S)
calls_of commands = map call_of commands

-- an index and its bits, as one value
abbrev pub bit_vec_of : ℕ × List Bool → BitVec
bit_vec_of (index, bits) = record { index = index; bits = bits }

-- what an update tells: the last retained set, and the primary and secondary peers of all
abbrev pub update_in : {C S : Type 0} → PeerSetUpdate C S → SetAt C × List C × List C
update_in update = (set_in update, update.all.primary, update.all.secondary)

-- whether a command was an accepted call, by its reply
abbrev pub was_made : {C S : Type 0} → Reply C S → Bool
was_made reply.OutOfMemory = false
was_made reply.NotReserved = false
was_made reply.NotHeld = false
was_made _ = true

module _ {C S : Type 0} (s : Settings C S) where
  -- the bits of the set at a place in the world w, with its index, if there is one
  abbrev pub bit_vec_in : World C S → ℕ → Option BitVec
  bit_vec_in w place = option_map bit_vec_of (bits_at s w place)

  -- .. as if no info but the own one were known
  abbrev pub full_bit_vec_in : World C S → ℕ → Option BitVec
  full_bit_vec_in w place =
      option_map (λ x. bit_vec_of (x.index, map (is_own s) x.primary)) (set_at_place s w place)

  -- ONE REPLY. `before` are the calls accepted before, the newest first; w is the world that they
  -- make, e what the call does in it, v the world after that

  -- the reply to a question
  abbrev pub Informs : World C S → Question C → Reply C S → Type 0
  Informs w (StatusOf p) r = r ≡ reply.Status (status_in s w p)
  Informs w NumberTracked (reply.Tracked n) = IsNumberTracked s w n
  Informs w NextUnblock (reply.NextUnblock moment) =
      IsNextUnblock s w (option_map as_nanos moment)
  Informs w (BlockedAt t) (reply.BlockedPeers peers) = AreBlocked s w t peers
  Informs w (PeerSet index) r =
      r ≡ reply.GetPeerSet (option_map peers_of (set_with_index s w index))
  Informs w LatestIndex r = r ≡ reply.LatestSetIndex (latest_index_in s w)
  Informs w AllPeers (reply.All all) = AreAll s w all.primary all.secondary
  Informs w LatestUpdate (reply.LatestUpdate update) =
      IsLatestUpdate s w (option_map update_in update)
  Informs w (InfoOf p) r = r ≡ reply.Info (sharable_info s w p)
  Informs w (IngressOf p) r = r ≡ reply.Ingress (held_ingress s w p)
  Informs w (InfosFor index bits t) (reply.Infos infos) =
      option_map (λ v. v.items) infos ≡ infos_for s w index bits t
  Informs w (BitsAt place) r = r ≡ reply.GetRandomBitVec (bit_vec_in w place)
  Informs w (IsEligible p t) r = r ≡ reply.Eligible (is_eligible_at s w p t)
  Informs w (IsAcceptable p t) r = r ≡ reply.Acceptable (is_acceptable_at s w p t)
  Informs w (MayListen p t) r = r ≡ reply.MayListen (may_listen_at s w p t)
  Informs w (DialableAt t) (reply.Dialable answer) =
      IsDialable s w t answer.peers.items (option_map as_nanos answer.next_query_at)
  Informs w _ r = ⊥

  -- the reply to a call that is made
  abbrev pub Replies : Event C S → World C S → World C S → Call C S → Reply C S → Type 0
  Replies e w v (Track index primary secondary) (reply.Track torn) = IsTrackAnswer s e w v torn
  Replies e w v (Dial p t draw) r = r ≡ reply.Dial (was_granted e)
  Replies e w v (Listen p t draw) r = r ≡ reply.Listen (was_granted e)
  Replies e w v (Connect p dialer) r =
      r ≡ (if may_connect s w p then reply.Connect else reply.NotReserved)
  Replies e w v (Release p) r = r ≡ (if may_release s w p then reply.Release else reply.NotHeld)
  Replies e w v (Update infos) r = r ≡ reply.UpdatePeers
  Replies e w v (Block p t) r = r ≡ reply.Block (was_blocked e)
  Replies e w v (UnblockExpired t) (reply.UnblockExpired some) = IsAnyExpired s w t some
  Replies e w v (ForgetCooled t) (reply.ForgetCooled n) = IsNumberCooled s w t n
  Replies e w v (Ask question) r = Informs w question r
  Replies e w v _ r = ⊥

  -- which questions may want memory: for a name, in an info or as an address, for infos or bits
  -- where there are some, and for a list or the peers of a set where somebody is listed
  abbrev pub MayWantToTell : World C S → Question C → Type 0
  MayWantToTell w (BlockedAt t) = Somebody (is_blocked_at s w t)
  MayWantToTell w (PeerSet index) =
      IsSomeAnd (set_with_index s w index) (λ x. has_peers x ≡ true)
  MayWantToTell w LatestUpdate = Somebody (λ p. is_named s p w.sets)
  MayWantToTell w AllPeers = Somebody (λ p. is_named s p w.sets)
  MayWantToTell w (InfoOf p) = IsSomeAnd (sharable_info s w p) (λ i. takes_none i.ingress ≡ false)
  MayWantToTell w (IngressOf p) = IsSomeAnd (held_ingress s w p) (λ a. takes_none a ≡ false)
  MayWantToTell w (InfosFor index bits t) =
      IsSomeAnd (infos_for s w index bits t) (λ infos. 0 < length infos)
  MayWantToTell w (BitsAt place) = is_some (set_at_place s w place) ≡ true
  MayWantToTell w (DialableAt t) = Somebody (is_dialable s w t)
  MayWantToTell w _ = ⊥

  -- which calls may want memory: a track or block that is taken, a dial or listen that is granted,
  -- such a question, and no other
  abbrev pub MayWantMemory : Event C S → World C S → Call C S → Type 0
  MayWantMemory e w (Track index primary secondary) = was_taken e ≡ true
  MayWantMemory e w (Dial p t draw) = was_granted e ≡ true
  MayWantMemory e w (Listen p t draw) = was_granted e ≡ true
  MayWantMemory e w (Block p t) = was_blocked e ≡ true
  MayWantMemory e w (Ask question) = MayWantToTell w question
  MayWantMemory e w _ = ⊥

  -- want of memory where it is allowed, or the reply
  abbrev pub MayReply : Event C S → World C S → World C S → Call C S → Reply C S → Type 0
  MayReply e w v c r = ((r ≡ reply.OutOfMemory) × MayWantMemory e w c) ⊎ Replies e w v c r

  -- the world that these calls make
  abbrev pub world_after : List (Call C S) → World C S
  world_after cs = world_at s (past s cs)

  -- what a further call does
  abbrev pub event_of : List (Call C S) → Call C S → Event C S
  event_of before c = event_in s (taken_sets s (past s before)) (world_after before) c

  -- the reply to a call at its point
  abbrev pub IsAnswer : List (Call C S) → Call C S → Reply C S → Type 0
  IsAnswer before c r =
      MayReply (event_of before c) (world_after before) (world_after (c ∷ before)) c r

  -- ALL REPLIES

  -- the accepted calls after one more, by its reply
  abbrev pub next : List (Call C S) → Call C S → Reply C S → List (Call C S)
  next before c r = if was_made r then c ∷ before else before

  -- the accepted calls, the newest first, after those before
  abbrev pub accepted : List (Call C S) → List (Call C S) → List (Reply C S) → List (Call C S)
  accepted before [] rs = before
  accepted before (c ∷ cs) [] = before
  accepted before (c ∷ cs) (r ∷ rs) = accepted (next before c r) cs rs

  -- the world after all of them
  abbrev pub world_left : List (Call C S) → List (Reply C S) → World C S
  world_left cs rs = world_after (accepted [] cs rs)

  -- one reply for each call, each the answer at its point
  abbrev pub AreAnswers : List (Call C S) → List (Call C S) → List (Reply C S) → Type 0
  AreAnswers before [] [] = Unit {0}
  AreAnswers before [] (r ∷ rs) = ⊥
  AreAnswers before (c ∷ cs) [] = ⊥
  AreAnswers before (c ∷ cs) (r ∷ rs) =
      IsAnswer before c r × AreAnswers (next before c r) cs rs

  -- WHAT IS HELD

  -- a reservation for exactly the peers that aren't inert, with the metadata of their last grant
  pub record Holds (w : World C S) (held : C → Option (Metadata C S)) : Type 0 where
    pub peers : (q : C) → is_some (held q) ≡ not (is_inert (w.peer q).status)
    pub metadata : (q : C) →
        held q ≡ option_map (λ grant. metadata_of q grant.direction) (w.held q)
