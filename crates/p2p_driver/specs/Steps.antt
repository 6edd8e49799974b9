-- What calls of a node make of it, wherever it stood.
use Rattle.std.specs.Prelude.{ℕ, ◌≡◌, ◌≤◌, ◌+◌, Bool, true, false, ◌&&◌, not, nat_lt}
use Rattle.std.specs.Prelude.{◌%◌, List, ◌∷◌, ◌++◌, length, slice_get, Option, Some, None}
use Rattle.std.specs.Prelude.{is_some, IfSome, ◌||◌}
use Rattle.std.specs.declared.cmp.Ordering.{Ordering}
use Rattle.p2p_discovery.specs.declared.types.ingress.Ingress.{Ingress}
use Rattle.p2p_tracker.specs.Calls.{Settings, Call}
use Rattle.p2p_tracker.specs.Calls.Call.{Track, Block, Dial}
use Rattle.p2p_tracker.specs.Lists.{Somebody}
use Rattle.p2p_tracker.specs.World.{World}
use Rattle.p2p_tracker.specs.Answers.{is_dialable, IsDialable, held_ingress, was_granted}
use Rattle.p2p_tracker.specs.Answers.{IsTrackAnswer, may_listen_at, may_release, was_taken}
use Rattle.p2p_tracker.specs.Answers.{may_connect, was_blocked, is_eligible_at}
use Rattle.p2p_directory.specs.Run.{event_of, world_after}
use Rattle.p2p_directory.specs.Nodes.{NodeView, Made, NodeStandsAt, AtEach}
use Rattle.p2p_directory.specs.Received.{Wire}
use Rattle.std.specs.BTreeMap.{is_at}
use Rattle.p2p_driver.specs.declared.actions.Why.{Why}
use Rattle.p2p_driver.specs.declared.actions.Why.TheVariants as why
use Rattle.std.specs.Duration.{as_nanos}
use Rattle.std.specs.declared.time.Duration.{Duration}
use Rattle.p2p_driver.specs.Frames.{Outcome}
use Rattle.p2p_driver.specs.Questions.{IsQuestion}
use Rattle.p2p_driver.specs.Happenings.{calls_for}
use Rattle.p2p_driver.specs.Links.{link_of, count_of}
use Rattle.p2p_driver.specs.declared.links.Direction.TheVariants.{Inbound, Dialing, Outbound}
use Rattle.p2p_driver.specs.declared.links.Direction.TheVariants.{TakenOver}
use Rattle.p2p_driver.specs.declared.links.Asked.{Asked}
use Rattle.p2p_driver.specs.declared.links.Held.{Held}
use Rattle.p2p_driver.specs.declared.pace.Pace.{Pace}

-- the moment comes before another, if there is one
abbrev pub is_before : ℕ → Option ℕ → Bool
is_before t None = true
is_before t (Some moment) = nat_lt t moment

-- from a moment on, and before another, nobody may be dialled in a world
abbrev pub IsQuietIn : {C S : Type 0} → Settings C S → World C S → ℕ → Option ℕ → Type 0
IsQuietIn s w from until = (t : ℕ) → from ≤ t → is_before t until ≡ true → (p : _) →
    is_dialable s w t p ≡ false

-- of those who may be dialled in a world at t, in the order of their keys, p is the one at the
-- position that a random word gives
pub record IsChosenIn {C S : Type 0} (s : Settings C S) (w : World C S) (t word : ℕ) (p : C) :
    Type 0 where
  pub peers : List C
  pub next : Option ℕ
  pub dialable : IsDialable s w t peers next
  pub chosen : slice_get peers (word % length peers) ≡ Some p

-- a block of p at t, after these calls of a node, is taken, or isn't
abbrev pub IsBlock : {C S : Type 0} → Made C S → List (Call C S) → C → ℕ → Bool → Type 0
IsBlock m calls p t taken = taken ≡ was_blocked (event_of m.directory calls (Block p t))

-- what is done at t with what comes of a frame of p, after these calls: a peer that has greeted is
-- asked, or a block is taken, if memory is there
abbrev pub IsDone : {C S : Type 0} → Wire C S → Made C S → ℕ → Asked → List (Call C S) → C →
    Duration → Outcome C S → Type 0
IsDone wire m refresh asked calls p t (Outcome.Greets dialer info question) =
    IfSome question (IsQuestion wire m (world_after m.directory
    (calls_for p t (Outcome.Greets dialer info question) ++ calls)) refresh asked)
IsDone wire m refresh asked calls p t (Outcome.Breaks breach blocked) =
    IfSome blocked (IsBlock m calls p (as_nanos t))
IsDone wire m refresh asked calls p t outcome = Unit {0}

module _ {C S : Type 0} (cmp : C → C → Ordering) where
  -- wherever a node stood, it stands after these calls too, the newest first
  abbrev pub Makes : List (Call C S) → NodeView C S → NodeView C S → Type 0
  Makes cs v v2 = AtEach cmp v (λ m calls. NodeStandsAt m (cs ++ calls) v2)

  -- .. a listen is granted
  abbrev pub MayListen : C → ℕ → NodeView C S → Type 0
  MayListen p t v = AtEach cmp v (λ m calls.
      may_listen_at m.directory (world_after m.directory calls) p t ≡ true)

  -- .. a peer is reserved or connected
  abbrev pub IsBusy : C → NodeView C S → Type 0
  IsBusy p v = AtEach cmp v (λ m calls.
      may_release m.directory (world_after m.directory calls) p ≡ true)

  -- .. a peer may be connected, or not
  abbrev pub IsEligible : C → ℕ → Bool → NodeView C S → Type 0
  IsEligible p t eligible v = AtEach cmp v (λ m calls.
      eligible ≡ is_eligible_at m.directory (world_after m.directory calls) p t)

  -- .. a peer is reserved, and not connected
  abbrev pub MayConnect : C → NodeView C S → Type 0
  MayConnect p v = AtEach cmp v (λ m calls.
      may_connect m.directory (world_after m.directory calls) p ≡ true)

  -- .. a block is taken, or isn't, if it is made
  abbrev pub IsBlocked : C → ℕ → Option Bool → NodeView C S → Type 0
  IsBlocked p t blocked v =
      IfSome blocked (λ taken. AtEach cmp v (λ m calls. IsBlock m calls p t taken))

  -- .. a block would be taken
  abbrev pub MayBlock : C → ℕ → NodeView C S → Type 0
  MayBlock p t v = AtEach cmp v (λ m calls. IsBlock m calls p t true)

  -- .. it stands after the calls for what comes of a frame of p at t
  abbrev pub MakesFor : C → Duration → Outcome C S → NodeView C S → NodeView C S → Type 0
  MakesFor p t outcome = Makes (calls_for p t outcome)

  -- .. a dial is granted
  abbrev pub IsGranted : C → ℕ → ℕ → NodeView C S → Type 0
  IsGranted p t draw v = AtEach cmp v (λ m calls.
      was_granted (event_of m.directory calls (Dial p t draw)) ≡ true)

  -- .. these peers may be dialled, and it is of use to look again then
  abbrev pub AreDialable : ℕ → List C → Option ℕ → NodeView C S → Type 0
  AreDialable t ps next v = AtEach cmp v (λ m calls.
      IsDialable m.directory (world_after m.directory calls) t ps next)

  -- .. from a moment on, and before another, nobody may be dialled
  abbrev pub StaysQuiet : ℕ → Option ℕ → NodeView C S → Type 0
  StaysQuiet t next v = AtEach cmp v (λ m calls.
      IsQuietIn m.directory (world_after m.directory calls) t next)

  -- .. a peer is that one of those who may be dialled that stands at the position of a random word
  abbrev pub IsChosen : ℕ → ℕ → C → NodeView C S → Type 0
  IsChosen t word p v = AtEach cmp v (λ m calls. IsChosenIn m.directory
      (world_after m.directory calls) t word p)

  -- .. somebody may be
  abbrev pub MayBeDialled : ℕ → NodeView C S → Type 0
  MayBeDialled t v = AtEach cmp v (λ m calls.
      Somebody (is_dialable m.directory (world_after m.directory calls) t))

  -- .. this address is known of a peer
  abbrev pub IsAddress : C → Ingress → NodeView C S → Type 0
  IsAddress p ingress v = AtEach cmp v (λ m calls.
      held_ingress m.directory (world_after m.directory calls) p ≡ Some ingress)

  -- .. a track is accepted
  abbrev pub IsTaken : ℕ → List C → List C → NodeView C S → Type 0
  IsTaken index primary secondary v = AtEach cmp v (λ m calls.
      was_taken (event_of m.directory calls (Track index primary secondary)) ≡ true)

  -- .. a track is accepted and tears down these peers, or isn't accepted
  abbrev pub TearsDown : ℕ → List C → List C → Option (List C) → NodeView C S → Type 0
  TearsDown index primary secondary torn v = AtEach cmp v (λ m calls.
      let s = m.directory in
      let c = Track index primary secondary in
      IsTrackAnswer s (event_of s calls c) (world_after s calls) (world_after s (c ∷ calls)) torn)

-- a peer may come in, by whether a listen would be granted: there is a place for one more link, and
-- it has no link
abbrev pub comes_by : {C : Type 0} → (C → C → Ordering) → Pace → List (C × Held) → C → Bool → Bool
comes_by cmp pace links p granted =
    (nat_lt (length links) pace.links && nat_lt (count_of Inbound links) pace.inbound)
    && (not (is_some (link_of cmp links p)) && granted)

-- how many of these links have outbound places
abbrev pub outbound_of : {C : Type 0} → List (C × Held) → ℕ
outbound_of links =
    count_of Dialing links + count_of Outbound links + count_of TakenOver links

-- one more has an outbound place
abbrev pub is_outbound_free : {C : Type 0} → Pace → List (C × Held) → Bool
is_outbound_free pace links = nat_lt (outbound_of links) pace.outbound

-- a peer may come in by a grant that is kept of it, by whether there is one, and whether it may be
-- connected: there is a place for one more link, outbound or inbound
abbrev pub adopts_by : {C : Type 0} → Pace → List (C × Held) → Bool → Bool → Bool
adopts_by pace links kept eligible = nat_lt (length links) pace.links
    && ((is_outbound_free pace links || nat_lt (count_of Inbound links) pace.inbound)
    && (kept && eligible))

-- another dial has a place: there is one for one more link, one for one more outbound link, and one
-- for one more dial under way
abbrev pub dials_by : {C : Type 0} → Pace → List (C × Held) → Bool
dials_by pace links = nat_lt (length links) pace.links
    && (is_outbound_free pace links && nat_lt (count_of Dialing links) pace.dials)

-- a stream has claimed to be p's
abbrev pub is_claim_of : {C : Type 0} → (C → C → Ordering) → C → Option C → Bool
is_claim_of cmp p None = false
is_claim_of cmp p (Some q) = is_at (cmp q) p

-- why a stream that is proved doesn't become a link, by whether it has claimed to be its peer's,
-- and whether that one may come in
abbrev pub no_proof_of : Bool → Bool → Option Why
no_proof_of false comes = Some why.WrongKey
no_proof_of true false = Some why.NotGranted
no_proof_of true true = None
