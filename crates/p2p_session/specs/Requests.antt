-- One call of a session by its number: what the number and the arguments ask for, and what is done.
use Rattle.std.specs.Prelude.{◌≡◌, ℕ, ◌==◌, ◌&&◌, if◌then◌else◌, Bool, true, false, List, [], ◌∷◌}
use Rattle.std.specs.Prelude.{length, Option, Some, None, Ok, Err, ◌⊎◌}
use Rattle.p2p_discovery.specs.Reading.{IsBytes}
use Rattle.p2p_tracker.specs.Calls.Call.{Dial, Listen, Connect, Release, Block, UnblockExpired}
use Rattle.p2p_tracker.specs.Calls.Call.{ForgetCooled, Ask}
use Rattle.p2p_tracker.specs.Calls.Question.{StatusOf, NumberTracked, NextUnblock, BlockedAt}
use Rattle.p2p_tracker.specs.Calls.Question.{PeerSet, LatestIndex, AllPeers, LatestUpdate, InfoOf}
use Rattle.p2p_tracker.specs.Calls.Question.{BitsAt, IsEligible, IsAcceptable, DialableAt}
use Rattle.p2p_tracker.specs.Calls.Question.{IngressOf, MayListen}
use Rattle.p2p_session.specs.declared.refusal.Refusal.{Refusal}
use Rattle.p2p_session.specs.declared.session.Session.{Session}
use Rattle.p2p_session.specs.declared.setup.Numbers.{Numbers}
use Rattle.p2p_session.specs.Schemes.{Scheme}
use Rattle.p2p_session.specs.declared.refusal.Refusal.TheVariants as refusal
use Rattle.p2p_session.specs.Answers.{Refuses}
use Rattle.p2p_session.specs.Given.{Asked, numbers_of}
use Rattle.p2p_session.specs.Sessions.{at_moment, of_peer, of_peer_at, with_draw, Serves, OfNode}
use Rattle.p2p_session.specs.Sessions.{Tracks, ServesRead, updated_by, infos_for, Receives, Looks}
use Rattle.p2p_session.specs.Sessions.{InitsBy, Look}
use Rattle.p2p_session.specs.Sessions.Look.{Room, Retained, NextCooled, Held, Wanted, Check}

-- what is asked for
pub data Request (C S : Type 0) : Type 0 where
  -- a call that is answered by a number, or why its arguments can't be read
  Numbered : (given : Asked C S) → Request C S
  -- .. whose answer is written
  Written : (given : Asked C S) → Request C S
  -- the calls whose arguments take memory to be read: a set to track, infos to update peers, and
  -- bits that are answered by infos
  SetOf : (index : ℕ) (primary secondary : List ℕ) → Request C S
  Infos : (infos : List ℕ) → Request C S
  Bits : (bits : List ℕ) (seconds nanos : ℕ) → Request C S
  -- a frame with its verdicts
  Frame : (frame : List ℕ) (seconds nanos : ℕ) (verdicts : List ℕ) → Request C S
  -- a look at the node
  Looking : (look : Look) → Request C S
  -- a node is made
  Init : (numbers : Numbers) (namespace bootstrappers myself : List ℕ) → Request C S

-- a number and arguments
pub record Spelling : Type 0 where
  pub number : ℕ
  pub numbers : List ℕ
  pub first : List ℕ
  pub second : List ℕ
  pub third : List ℕ

-- an argument can't be read
abbrev pub IsUnread : {C S : Type 0} → Request C S → Type 0
IsUnread r = (why : Refusal) × ((r ≡ Numbered (Err why)) ⊎ (r ≡ Written (Err why)))

-- ---- what number and arguments ask for

-- a bool is 0 or 1
abbrev pub bool_at : ℕ → Option Bool
bool_at n = if n == 0 then Some false else if n == 1 then Some true else None

abbrev pub with_bool : {A : Type 0} → Option Bool → (Bool → Option A) → Option A
with_bool (Some b) f = f b
with_bool None f = None

abbrev pub is_empty : List ℕ → Bool
is_empty bytes = length bytes == 0

-- .. where bytes that aren't taken are empty
abbrev pub when : {A : Type 0} → Bool → Option A → Option A
when b o = if b then o else None

module _ {C S : Type 0} (k : Scheme C S) where
  -- A table with a line for each call, by its number in logs. These take nothing:
  abbrev pub of_nothing : ℕ → Option (Request C S)
  of_nothing number =
      if number == 3 then Some (Looking Room)
      else if number == 13 then Some (Written (Ok (Ask NextUnblock)))
      else if number == 17 then Some (Written (Ok (Ask LatestIndex)))
      else if number == 18 then Some (Written (Ok (Ask LatestUpdate)))
      else if number == 19 then Some (Written (Ok (Ask AllPeers)))
      else if number == 26 then Some (Looking Retained)
      else if number == 27 then Some (Looking NextCooled)
      else if number == 28 then Some (Numbered (Ok (Ask NumberTracked)))
      else None

  -- .. bytes, or nothing:
  abbrev pub of_bytes : ℕ → List ℕ → Option (Request C S)
  of_bytes number bytes =
      if number == 6 then Some (Looking (Held bytes))
      else if number == 8 then Some (Numbered (of_peer k bytes (λ p. Release p)))
      else if number == 9 then Some (Infos bytes)
      else if number == 15 then Some (Numbered (of_peer k bytes (λ p. Ask (StatusOf p))))
      else if number == 20 then Some (Written (of_peer k bytes (λ p. Ask (InfoOf p))))
      else if number == 33 then Some (Written (of_peer k bytes (λ p. Ask (IngressOf p))))
      else when (is_empty bytes) (of_nothing number)

  -- .. a number, and bytes or none:
  abbrev pub of_number : ℕ → ℕ → List ℕ → List ℕ → Option (Request C S)
  of_number number n first second =
      if number == 2 then Some (SetOf n first second)
      else if number == 7 then when (is_empty second) (with_bool (bool_at n)
      (λ dialer. Some (Numbered (of_peer k first (λ p. Connect p dialer)))))
      else when (is_empty first && is_empty second) (
      if number == 16 then Some (Written (Ok (Ask (PeerSet n))))
      else if number == 22 then Some (Written (Ok (Ask (BitsAt n))))
      else if number == 29 then Some (Looking (Wanted n))
      else None)

  -- .. a moment:
  abbrev pub of_moment : ℕ → ℕ → ℕ → Option (Request C S)
  of_moment number seconds nanos =
      if number == 11 then Some (Numbered (at_moment seconds nanos (λ now. UnblockExpired now)))
      else if number == 12 then Some (Numbered (at_moment seconds nanos (λ now. ForgetCooled now)))
      else if number == 14 then
      Some (Written (at_moment seconds nanos (λ now. Ask (BlockedAt now))))
      else if number == 25 then
      Some (Written (at_moment seconds nanos (λ now. Ask (DialableAt now))))
      else None

  -- .. a moment, and bytes or none:
  abbrev pub of_bytes_at : ℕ → List ℕ → ℕ → ℕ → Option (Request C S)
  of_bytes_at number bytes seconds nanos =
      if number == 10 then Some (Numbered (of_peer_at k bytes seconds nanos (λ p now. Block p now)))
      else if number == 21 then Some (Bits bytes seconds nanos)
      else if number == 23 then
      Some (Numbered (of_peer_at k bytes seconds nanos (λ p now. Ask (IsEligible p now))))
      else if number == 24 then
      Some (Numbered (of_peer_at k bytes seconds nanos (λ p now. Ask (IsAcceptable p now))))
      else if number == 32 then
      Some (Numbered (of_peer_at k bytes seconds nanos (λ p now. Ask (MayListen p now))))
      else if number == 30 then Some (Looking (Check bytes seconds nanos))
      else when (is_empty bytes) (of_moment number seconds nanos)

  -- .. a moment, and a frame with its verdicts, or as above:
  abbrev pub of_frame : ℕ → List ℕ → List ℕ → ℕ → ℕ → Option (Request C S)
  of_frame number first second seconds nanos =
      if number == 31 then Some (Frame first seconds nanos second)
      else when (is_empty second) (of_bytes_at number first seconds nanos)

  -- .. a moment, a draw and a peer:
  abbrev pub of_draw : ℕ → List ℕ → ℕ → ℕ → ℕ → ℕ → Option (Request C S)
  of_draw number peer seconds nanos draw_seconds draw_nanos =
      if number == 4 then
      Some (Numbered (with_draw k peer seconds nanos draw_seconds draw_nanos
      (λ p now draw. Dial p now draw)))
      else if number == 5 then
      Some (Numbered (with_draw k peer seconds nanos draw_seconds draw_nanos
      (λ p now draw. Listen p now draw)))
      else None

  -- .. a setup:
  abbrev pub of_setup : ℕ → ℕ → ℕ → (Bool → Bool → Numbers) → List ℕ → List ℕ → List ℕ →
      Option (Request C S)
  of_setup number private_ips dns numbers namespace bootstrappers myself =
      when (number == 1)
      (with_bool (bool_at private_ips) (λ private_ips. with_bool (bool_at dns) (λ dns.
      Some (Init (numbers private_ips dns) namespace bootstrappers myself))))

  -- what is asked for by a number, numbers, and bytes in three places, of which those that the call
  -- doesn't take are empty; nothing if this is no call
  abbrev pub request_of : ℕ → List ℕ → List ℕ → List ℕ → List ℕ → Option (Request C S)
  request_of number [] first second third =
      when (is_empty second && is_empty third) (of_bytes number first)
  request_of number (n ∷ []) first second third =
      when (is_empty third) (of_number number n first second)
  request_of number (seconds ∷ nanos ∷ []) first second third =
      when (is_empty third) (of_frame number first second seconds nanos)
  request_of number (seconds ∷ nanos ∷ draw_seconds ∷ draw_nanos ∷ []) first second third =
      when (is_empty second && is_empty third)
      (of_draw number first seconds nanos draw_seconds draw_nanos)
  request_of number (private_ips ∷ dns ∷ sets ∷ fails ∷ cooldown_seconds ∷ cooldown_nanos
      ∷ block_seconds ∷ block_nanos ∷ bits ∷ peers ∷ data_length ∷ count
      ∷ bound_seconds ∷ bound_nanos ∷ []) namespace bootstrappers myself =
      of_setup number private_ips dns (λ private_ips dns. numbers_of private_ips dns sets fails
      cooldown_seconds cooldown_nanos block_seconds block_nanos bits peers data_length count
      bound_seconds bound_nanos) namespace bootstrappers myself
  request_of number _ first second third = None

  -- ---- what is done

  -- What was asked for is done: for a call the node makes exactly that call, wherever it stands.
  -- Where nothing was asked for, this is answered before all else, and nothing changes. Where an
  -- answer is a number, nothing is written.
  abbrev pub ServesRequest : Option (Request C S) → List ℕ → List ℕ → Session C S → Session C S →
      ℕ → Type 0
  ServesRequest None out out2 before after n =
      (after ≡ before) × Refuses refusal.BadCall out out2 n
  ServesRequest (Some (Numbered given)) out out2 before after n =
      (out2 ≡ out) × Serves k given [] [] before.node after.node n
  ServesRequest (Some (Written given)) out out2 before after n =
      Serves k given out out2 before.node after.node n
  ServesRequest (Some (SetOf index primary secondary)) out out2 before after n =
      OfNode (λ v v2. Tracks k index primary secondary out out2 v v2 n) out out2
      before.node after.node n
  ServesRequest (Some (Infos infos)) out out2 before after n =
      (out2 ≡ out) × ServesRead k infos (updated_by k infos) [] [] before.node after.node n
  ServesRequest (Some (Bits bits seconds nanos)) out out2 before after n =
      ServesRead k bits (infos_for k bits seconds nanos) out out2 before.node after.node n
  ServesRequest (Some (Frame frame seconds nanos verdicts)) out out2 before after n =
      Receives k frame seconds nanos verdicts out out2 before.node after.node n
  ServesRequest (Some (Looking look)) out out2 before after n =
      Looks k look out out2 before.node after.node n
  ServesRequest (Some (Init numbers namespace bootstrappers myself)) out out2 before after n =
      (out2 ≡ out) × InitsBy k numbers namespace bootstrappers myself before after n

  -- .. by number and arguments
  abbrev pub ServesCall : ℕ → List ℕ → List ℕ → List ℕ → List ℕ → List ℕ → List ℕ →
      Session C S → Session C S → ℕ → Type 0
  ServesCall number numbers first second third out out2 before after n =
      ServesRequest (request_of number numbers first second third) out out2 before after n

  -- ---- the law of spellings

  -- this is asked for by a spelling, of which the first bytes are bytes
  abbrev pub Spells : Spelling → Request C S → Type 0
  Spells s r = IsBytes s.first
      × (request_of s.number s.numbers s.first s.second s.third ≡ Some r)

  -- a request has one spelling, unless an argument of it can't be read
  abbrev pub AreSpelledOnce : Type 0
  AreSpelledOnce = (r : Request C S) (a b : Spelling) → Spells a r → Spells b r →
      (a ≡ b) ⊎ IsUnread r
