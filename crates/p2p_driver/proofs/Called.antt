-- What the replies of a node say.
use Rattle.std.proofs.Common.{◌≡◌, ℕ, Bool, true, false, List, [], ◌∷◌, Option, Some, None, inl, inr, refl, sym, ◌∙◌, ap, subst}
use Rattle.std.specs.Prelude.{if◌then◌else◌}
use Rattle.std.specs.Duration.{as_nanos}
use Rattle.std.specs.declared.time.Duration.{Duration}
use Rattle.std.specs.declared.cmp.Ordering.{Ordering}
use Rattle.p2p_tracker.specs.Calls.{Call, Event}
use Rattle.p2p_discovery.specs.declared.types.ingress.Ingress.{Ingress}
use Rattle.p2p_tracker.specs.Calls.Call.{Track, Dial, Listen, Release, UnblockExpired, ForgetCooled, Ask}
use Rattle.p2p_tracker.specs.Calls.Question.{IngressOf}
use Rattle.p2p_tracker.specs.Answers.{was_granted, was_taken, IsTrackAnswer, may_listen_at, may_release, held_ingress}
use Rattle.p2p_tracker.specs.World.{World, listen_event}
use Rattle.p2p_tracker.specs.declared.directory.TrackedPeers.{TrackedPeers}
use Rattle.p2p_directory.specs.declared.run.commands.Command.TheVariants as command
use Rattle.p2p_directory.specs.declared.run.commands.Reply.{Reply}
use Rattle.p2p_directory.specs.declared.run.commands.Reply.TheVariants as reply
use Rattle.p2p_directory.specs.Nodes.{NodeView, Made, NodeStandsAt, IsStepped, IsStepAnswer, StandsSomewhere, made_of}
use Rattle.p2p_directory.specs.Run.{next, world_after, event_of, was_made, Replies}
use Rattle.p2p_driver.specs.Steps.{Makes, MayListen, IsBusy, IsTaken, TearsDown, IsGranted, IsAddress}

module _ {C S : Type 0} (cmp : C → C → Ordering) where
  -- a listen of a peer that may come is granted, or wants memory
  granted_or_none : (m : Made C S) (cs : List (Call C S)) (p : C) (t draw : ℕ) (r : Reply C S) →
      may_listen_at m.directory (world_after m.directory cs) p t ≡ true →
      IsStepAnswer m cs (Listen p t draw) r → ¬ (r ≡ reply.Listen true) → was_made r ≡ false
  granted_or_none m cs p t draw r may (inl (inl (out, want))) isnt = ap was_made out
  granted_or_none m cs p t draw r may (inl (inr is)) isnt = absurd (isnt (is ∙ ap reply.Listen (granted may)))
    where
      granted : may_listen_at m.directory (world_after m.directory cs) p t ≡ true →
          was_granted (event_of m.directory cs (Listen p t draw)) ≡ true
      granted may = ap (λ b. was_granted (listen_event m.directory p t draw b)) may
  granted_or_none m cs p t draw r may (inr (takes, out)) isnt = ap was_made out

  -- a dial that is granted is, or wants memory
  dialed_or_none : (m : Made C S) (cs : List (Call C S)) (p : C) (t draw : ℕ) (r : Reply C S) →
      was_granted (event_of m.directory cs (Dial p t draw)) ≡ true →
      IsStepAnswer m cs (Dial p t draw) r → ¬ (r ≡ reply.Dial true) → was_made r ≡ false
  dialed_or_none m cs p t draw r granted (inl (inl (out, want))) isnt = ap was_made out
  dialed_or_none m cs p t draw r granted (inl (inr is)) isnt = absurd (isnt (is ∙ ap reply.Dial granted))
  dialed_or_none m cs p t draw r granted (inr (takes, out)) isnt = ap was_made out

  -- a release of a peer that is busy is done
  released : (m : Made C S) (cs : List (Call C S)) (p : C) (r : Reply C S) →
      IsStepAnswer m cs (Release p) r →
      may_release m.directory (world_after m.directory cs) p ≡ true → r ≡ reply.Release
  released m cs p r (inl (inl (out, none))) may = absurd none
  released m cs p r (inl (inr is)) may = is ∙ ap (λ b. if b then reply.Release else reply.NotHeld) may
  released m cs p r (inr (takes, out)) may = absurd cc

  module _ (v v2 : NodeView C S) (p : C) (now draw : Duration) (r : Reply C S)
      (stepped : IsStepped cmp (command.Listen p now draw) r v v2) where
    -- a listen that was granted
    pub listens : r ≡ reply.Listen true → Makes cmp (Listen p (as_nanos now) (as_nanos draw) ∷ []) v v2
    listens is given cs at = subst (λ r. NodeStandsAt (made_of cmp given)
        (next (made_of cmp given).directory cs (Listen p (as_nanos now) (as_nanos draw)) r) v2) is (stepped given cs at).left

    -- .. that may be, and wasn't
    pub unheard : StandsSomewhere cmp v → MayListen cmp p (as_nanos now) v → ¬ (r ≡ reply.Listen true) → was_made r ≡ false
    unheard at may isnt = granted_or_none (made_of cmp at.given) at.calls p (as_nanos now) (as_nanos draw) r
        (may at.given at.calls at.stands) (stepped at.given at.calls at.stands).answer isnt

  module _ (v v2 : NodeView C S) (p : C) (now draw : Duration) (r : Reply C S)
      (stepped : IsStepped cmp (command.Dial p now draw) r v v2) where
    -- a dial that was granted
    pub dials : r ≡ reply.Dial true → Makes cmp (Dial p (as_nanos now) (as_nanos draw) ∷ []) v v2
    dials is given cs at = subst (λ r. NodeStandsAt (made_of cmp given)
        (next (made_of cmp given).directory cs (Dial p (as_nanos now) (as_nanos draw)) r) v2) is (stepped given cs at).left

    -- .. that is granted, and wasn't made
    pub undialed : StandsSomewhere cmp v → IsGranted cmp p (as_nanos now) (as_nanos draw) v → ¬ (r ≡ reply.Dial true) → was_made r ≡ false
    undialed at granted isnt = dialed_or_none (made_of cmp at.given) at.calls p (as_nanos now) (as_nanos draw) r
        (granted at.given at.calls at.stands) (stepped at.given at.calls at.stands).answer isnt

  -- an address that is told is held
  told_address : (m : Made C S) (cs : List (Call C S)) (p : C) (a : Ingress) →
      IsStepAnswer m cs (Ask (IngressOf p)) (reply.Ingress (Some a)) → held_ingress m.directory (world_after m.directory cs) p ≡ Some a
  told_address m cs p a (inl (inl (out, may))) = absurd cc
  told_address m cs p a (inl (inr is)) = sym (ap told is)
    where
      told : Reply C S → Option Ingress
      told (reply.Ingress o) = o
      told r = None
  told_address m cs p a (inr (takes, out)) = absurd cc

  pub addressed : (v v2 : NodeView C S) (p : C) (a : Ingress) → IsStepped cmp (command.Ingress p) (reply.Ingress (Some a)) v v2 → IsAddress cmp p a v
  addressed v v2 p a stepped given cs at = told_address (made_of cmp given) cs p a (stepped given cs at).answer

  pub releases : (v v2 : NodeView C S) (p : C) (r : Reply C S) → IsBusy cmp p v →
      IsStepped cmp (command.Release p) r v v2 → Makes cmp (Release p ∷ []) v v2
  releases v v2 p r busy stepped given cs at =
      let m = made_of cmp given in
      let step = stepped given cs at in
      subst (λ r. NodeStandsAt m (next m.directory cs (Release p) r) v2)
      (released m cs p r step.answer (busy given cs at)) step.left

  tracked_reply : (e : Event C S) (w v : World C S) (m : Made C S) (index : ℕ) (primary secondary : List C) (r : Reply C S) →
      Replies m.directory e w v (Track index primary secondary) r → (torn : Option (List C)) × (r ≡ reply.Track torn)
  tracked_reply e w v m index primary secondary (reply.Track torn) answer = (torn, refl)
  tracked_reply e w v m index primary secondary r answer = absurd answer

  wanted_track : (m : Made C S) (cs : List (Call C S)) (index : ℕ) (primary secondary : List C) (r : Reply C S) →
      ((torn : Option (List C)) → ¬ (r ≡ reply.Track torn)) → IsStepAnswer m cs (Track index primary secondary) r → was_made r ≡ false
  wanted_track m cs index primary secondary r none (inl (inl (out, may))) = ap was_made out
  wanted_track m cs index primary secondary r none (inl (inr answer)) =
      let found = tracked_reply (event_of m.directory cs (Track index primary secondary)) (world_after m.directory cs)
      (world_after m.directory (Track index primary secondary ∷ cs)) m index primary secondary r answer in
      absurd (none found.0 found.1)
  wanted_track m cs index primary secondary r none (inr (may, out)) = ap was_made out

  -- only a set that is accepted wants memory
  taken_if : (m : Made C S) (cs : List (Call C S)) (index : ℕ) (primary secondary : List C) (r : Reply C S) →
      ((torn : Option (List C)) → ¬ (r ≡ reply.Track torn)) → IsStepAnswer m cs (Track index primary secondary) r →
      was_taken (event_of m.directory cs (Track index primary secondary)) ≡ true
  taken_if m cs index primary secondary r none (inl (inl (out, may))) = may
  taken_if m cs index primary secondary r none (inl (inr answer)) =
      let found = tracked_reply (event_of m.directory cs (Track index primary secondary)) (world_after m.directory cs)
      (world_after m.directory (Track index primary secondary ∷ cs)) m index primary secondary r answer in
      absurd (none found.0 found.1)
  taken_if m cs index primary secondary r none (inr (takes, out)) = absurd cc

  torn_is : (m : Made C S) (cs : List (Call C S)) (index : ℕ) (primary secondary : List C) (r : Reply C S) (torn : Option (List C)) →
      r ≡ reply.Track torn → let c = Track index primary secondary in IsStepAnswer m cs c r →
      IsTrackAnswer m.directory (event_of m.directory cs c) (world_after m.directory cs) (world_after m.directory (c ∷ cs)) torn
  torn_is m cs index primary secondary r torn is (inl (inl (out, may))) = absurd cc
  torn_is m cs index primary secondary r torn is (inl (inr answer)) =
      let c = Track index primary secondary in
      subst (Replies m.directory (event_of m.directory cs c) (world_after m.directory cs) (world_after m.directory (c ∷ cs)) c) is answer
  torn_is m cs index primary secondary r torn is (inr (may, out)) = absurd cc

  module _ (v v2 : NodeView C S) (index : ℕ) (peers : TrackedPeers C S) (r : Reply C S)
      (stepped : IsStepped cmp (command.Track index peers) r v v2) where
    pub tracks : (torn : Option (List C)) → r ≡ reply.Track torn → Makes cmp (Track index peers.primary peers.secondary ∷ []) v v2
    tracks torn is given cs at = subst (λ r. NodeStandsAt (made_of cmp given)
        (next (made_of cmp given).directory cs (Track index peers.primary peers.secondary) r) v2) is (stepped given cs at).left

    pub tears_down : (torn : Option (List C)) → r ≡ reply.Track torn → TearsDown cmp index peers.primary peers.secondary torn v
    tears_down torn is given cs at =
        torn_is (made_of cmp given) cs index peers.primary peers.secondary r torn is (stepped given cs at).answer

    pub untracked : ((torn : Option (List C)) → ¬ (r ≡ reply.Track torn)) → StandsSomewhere cmp v → was_made r ≡ false
    untracked none at =
        wanted_track (made_of cmp at.given) at.calls index peers.primary peers.secondary r none (stepped at.given at.calls at.stands).answer

  pub passes : (v v2 v3 : NodeView C S) (now : Duration) (n : ℕ) (any : Bool) →
      IsStepped cmp (command.ForgetCooled now) (reply.ForgetCooled n) v v2 → IsStepped cmp (command.UnblockExpired now) (reply.UnblockExpired any) v2 v3 →
      Makes cmp (UnblockExpired (as_nanos now) ∷ ForgetCooled (as_nanos now) ∷ []) v v3
  passes v v2 v3 now n any forgot unblocked given cs at =
      (unblocked given (ForgetCooled (as_nanos now) ∷ cs) (forgot given cs at).left).left

  -- a track that isn't replied is accepted
  pub taken_by_track : (v v2 : NodeView C S) (index : ℕ) (peers : TrackedPeers C S) (r : Reply C S) →
      IsStepped cmp (command.Track index peers) r v v2 → ((torn : Option (List C)) → ¬ (r ≡ reply.Track torn)) →
      IsTaken cmp index peers.primary peers.secondary v
  taken_by_track v v2 index peers r stepped none given cs at =
      taken_if (made_of cmp given) cs index peers.primary peers.secondary r none (stepped given cs at).answer
