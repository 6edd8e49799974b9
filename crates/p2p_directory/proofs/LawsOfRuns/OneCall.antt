-- One more call: how each peer stands after it, and what is granted then.
use Rattle.std.proofs.Common.{◌≡◌, ℕ, ◌≤◌, Bool, true, false, not, ◌&&◌, ◌||◌, List, ◌∷◌, Option, Some, None, inl, inr, refl, sym, ◌∙◌, ap, subst}
use Rattle.std.specs.Prelude.{if◌then◌else◌, is_some, nat_lt}
use Rattle.std.specs.List.{list_any, list_all}
use Rattle.std.specs.Cmp.{IsTotalOrder}
use Rattle.std.specs.Ordering.{is_eq}
use Rattle.std.proofs.lemmas.Cmp.{tied_itself}
use Rattle.std.proofs.lemmas.Map.Views.{tells_apart}
use Rattle.std.proofs.lemmas.Map.Lookups.{CmpEqualImpliesEq}
use Rattle.p2p_discovery.specs.declared.discovery.Info.{Info}
use Rattle.p2p_discovery.specs.declared.types.ingress.Ingress.{Ingress}
use Rattle.p2p_tracker.specs.declared.record.Status.{Status}
use Rattle.p2p_tracker.specs.declared.record.Status.TheVariants.{Inert, Reserved, Active}
use Rattle.p2p_tracker.specs.Calls.{Settings, Call, Event, SetAt, Grant, Question, reserved_by}
use Rattle.p2p_tracker.specs.Calls.Call.{Track, Dial, Listen, Connect, Release, Update, Block, UnblockExpired, ForgetCooled, Ask}
use Rattle.p2p_tracker.specs.Calls.Event.{Nothing, SetTaken, Granted, Blocked}
use Rattle.p2p_tracker.specs.Blocks.{is_blocked}
use Rattle.p2p_tracker.specs.PeerSets.{set_of}
use Rattle.p2p_tracker.specs.History.{same, is_own, last_with, is_release, is_connect, grant_by, status_at, held_at, status_since, unless_ended}
use Rattle.p2p_tracker.specs.Status.{is_inert, is_reserved}
use Rattle.p2p_tracker.specs.Answers.{may_connect, was_granted, is_present_in}
use Rattle.p2p_tracker.specs.World
use Rattle.p2p_tracker.specs.World.{World, Peer, past, status_after}
use Rattle.p2p_directory.specs.declared.run.commands.Reply.{Reply}
use Rattle.p2p_directory.specs.declared.run.commands.Reply.TheVariants as reply
use Rattle.p2p_directory.specs.Run.{world_after, event_of}
use Rattle.p2p_directory.specs.Nodes.{Made, IsStepAnswer}
use Rattle.p2p_directory.specs.Laws.Steps.{is_busy_in, is_busy_after, LeavesMoments}
use Rattle.p2p_directory.proofs.Definitions.Law
use Rattle.p2p_directory.proofs.LawsOfRuns.Forgotten

some_is : {A : Type 0} {x y : A} → Some x ≡ Some y → x ≡ y
some_is e = cc

module _ {C S : Type 0} (s : Settings C S) where
  -- a grant is held of exactly those that are not inert
  pub held_is_busy : (p : C) (h : List (Event C S)) → is_some (held_at s p h) ≡ not (is_inert (status_at s p h))
  held_is_busy p h = go (last_with (grant_by s p) h)
    where
      two : (grant : Grant) (since : List (Event C S)) (b c : Bool) →
          is_some (if b then None else Some grant) ≡ not (is_inert (if b then Inert else (if c then Active else Reserved)))
      two grant since true c = refl
      two grant since false true = refl
      two grant since false false = refl

      go : (found : Option (Grant × List (Event C S))) →
          is_some (unless_ended (λ grant. is_release s p) found) ≡ not (is_inert (status_since s p found))
      go None = refl
      go (Some found) = two found.0 found.1 (list_any (is_release s p) found.1) (list_any (is_connect s p) found.1)

  module _ (some : 1 ≤ s.max_sets) where
    -- the status after one more call, by what it does in the world
    status_in_world : (cs : List (Call C S)) (c : Call C S) (p : C) → let w = world_after s cs in
        ((world_after s (c ∷ cs)).peer p).status ≡ status_after s p (World.event_in s w.sets w c) (w.peer p).status
    status_in_world cs c p = ap (λ (w : World C S). (w.peer p).status) (Law.recomputed_is_one_step s some cs c)

    pub status_is : (cs : List (Call C S)) (c : Call C S) (p : C) →
        ((world_after s (c ∷ cs)).peer p).status ≡ status_after s p (event_of s cs c) ((world_after s cs).peer p).status
    status_is cs c p = status_in_world cs c p
        ∙ ap (λ e. status_after s p e ((world_after s cs).peer p).status) (sym (Law.does_same s cs c some))

    -- WHO IS BUSY

    module _ (exact : CmpEqualImpliesEq s.cmp) (cs : List (Call C S)) where
      abbrev w : World C S
      w = world_after s cs

      of_status : (c : Call C S) (p : C) (b : Bool) →
          not (is_inert (status_after s p (World.event_in s w.sets w c) (w.peer p).status)) ≡ b → is_busy_in (world_after s (c ∷ cs)) p ≡ b
      of_status c p b is = ap (λ status. not (is_inert status)) (status_in_world cs c p) ∙ is

      -- a grant of q
      of_grant : (b : Bool) (status : Status) → not (is_inert (if b then Reserved else status)) ≡ b || not (is_inert status)
      of_grant true status = refl
      of_grant false status = refl

      listened : (q : C) (t draw : ℕ) (p : C) (b : Bool) (status : Status) →
          not (is_inert (status_after s p (World.listen_event s q t draw b) status))
          ≡ (was_granted (World.listen_event s q t draw b) && same s q p) || not (is_inert status)
      listened q t draw p true status = of_grant (same s q p) status
      listened q t draw p false status = refl

      dialled : (q : C) (t draw : ℕ) (p : C) (b : Bool) (o : Option Ingress) (status : Status) →
          not (is_inert (status_after s p (World.dial_event s q t draw b o) status))
          ≡ (was_granted (World.dial_event s q t draw b o) && same s q p) || not (is_inert status)
      dialled q t draw p b None status = refl
      dialled q t draw p true (Some a) status = of_grant (same s q p) status
      dialled q t draw p false (Some a) status = refl

      connected : (q : C) (dialer : Bool) (p : C) (of_q of_p : Status) →
          not (is_inert (status_after s p (World.connect_event s q dialer of_q) of_p)) ≡ not (is_inert of_p)
      connected q dialer p Inert of_p = refl
      connected q dialer p Active of_p = refl
      connected q dialer p Reserved of_p = go (same s q p) of_p
        where
          go : (b : Bool) (status : Status) → not (is_inert (if b then World.status_connected s status else status)) ≡ not (is_inert status)
          go true Inert = refl
          go true Reserved = refl
          go true Active = refl
          go false status = refl

      -- a release of q, of whom something is held or not
      released : (q p : C) (o : Option Grant) → w.held q ≡ o →
          not (is_inert (status_after s p (World.release_event s q o) (w.peer p).status)) ≡ (not (same s q p) && is_busy_in w p)
      released q p (Some grant) is = go (same s q p) (w.peer p).status
        where
          go : (b : Bool) (status : Status) → not (is_inert (if b then Inert else status)) ≡ (not b && not (is_inert status))
          go true status = refl
          go false status = refl
      released q p None is = go (same s q p) refl
        where
          go : (b : Bool) → same s q p ≡ b → is_busy_in w p ≡ (not b && is_busy_in w p)
          go true e = ap (is_busy_in w) (sym (tells_apart exact q p e)) ∙ sym (held_is_busy q (past s cs)) ∙ ap is_some is
          go false e = refl

      pub busy_is : (c : Call C S) (p : C) →
          is_busy_in (world_after s (c ∷ cs)) p ≡ is_busy_after s c (was_granted (event_of s cs c)) p (is_busy_in w p)
      busy_is (Track index primary secondary) p = of_status (Track index primary secondary) p _
          (go (list_all (λ x. nat_lt x.index index) w.sets) (set_of s.cmp index primary secondary))
        where
          go : (b : Bool) (x : SetAt C) → not (is_inert (status_after s p (if b then SetTaken x else Nothing) (w.peer p).status)) ≡ is_busy_in w p
          go true x = refl
          go false x = refl
      busy_is (Dial q t draw) p = of_status (Dial q t draw) p _
          (dialled q t draw p (World.may_dial s q t w.sets (w.peer q) (w.unblock q) (w.cooldown q)) (World.address_with s q (w.peer q).known.info) (w.peer p).status)
      busy_is (Listen q t draw) p = of_status (Listen q t draw) p _
          (listened q t draw p (World.may_listen s q t w.sets (w.peer q) (w.unblock q) (w.cooldown q)) (w.peer p).status)
      busy_is (Connect q dialer) p = of_status (Connect q dialer) p _ (connected q dialer p (w.peer q).status (w.peer p).status)
      busy_is (Release q) p = of_status (Release q) p _ (released q p (w.held q) refl)
      busy_is (Update infos) p = of_status (Update infos) p _ refl
      busy_is (Block q t) p = of_status (Block q t) p _ (go (not (is_own s q) && not (is_blocked (w.unblock q) t)))
        where
          go : (b : Bool) → not (is_inert (status_after s p (if b then Blocked q t else Nothing) (w.peer p).status)) ≡ is_busy_in w p
          go true = refl
          go false = refl
      busy_is (UnblockExpired t) p = of_status (UnblockExpired t) p _ refl
      busy_is (ForgetCooled t) p = of_status (ForgetCooled t) p _ refl
      busy_is (Ask question) p = of_status (Ask question) p _ refl

    -- INFOS

    pub infos_leave : (cs : List (Call C S)) (infos : List (Info C S)) → LeavesMoments (world_after s cs) (world_after s (Update infos ∷ cs))
    infos_leave cs infos =
        subst (LeavesMoments (world_after s cs)) (sym (Law.recomputed_is_one_step s some cs (Update infos)))
        (record { sets = refl; status = λ p. refl; unblock = λ p. refl; cooldown = λ p. refl; held = λ p. refl })

    -- a query changes nothing, since of an absent peer all is forgotten already
    pub asks_leave : (cs : List (Call C S)) (question : Question C) → world_after s (Ask question ∷ cs) ≡ world_after s cs
    asks_leave cs question = Law.recomputed_is_one_step s some cs (Ask question) ∙ nothing_changes (world_after s cs) (Forgotten.absent s cs)
      where
        nothing_changes : (w : World C S) → ((p : C) → is_present_in s w p ≡ false → (w.peer p).known ≡ World.new_known s p) → World.world_with s Nothing w ≡ w
        nothing_changes w forgotten = λ i. record {
          state = record {
            sets = w.sets;
            peer = λ p. record { status = (w.peer p).status; known = go p (is_present_in s w p) refl i };
            unblock = w.unblock;
            cooldown = w.cooldown;
          };
          held = w.held;
        }
          where
            go : (p : C) (b : Bool) → is_present_in s w p ≡ b → (if b then (w.peer p).known else World.new_known s p) ≡ (w.peer p).known
            go p true e = refl
            go p false e = sym (forgotten p e)

    -- CONNECTS AFTER GRANTS

    module _ (total : IsTotalOrder s.cmp) (cs : List (Call C S)) where
      abbrev before : World C S
      before = world_after s cs

      granted_by : (c : Call C S) (p : C) (grant : Grant) →
          World.event_in s before.sets before c ≡ Granted p grant → may_connect s (world_after s (c ∷ cs)) p ≡ true
      granted_by c p grant is =
          ap is_reserved (status_in_world cs c p)
          ∙ ap (λ e. is_reserved (status_after s p e ((world_after s cs).peer p).status)) is
          ∙ ap (λ o. is_reserved (if is_eq o then Reserved else ((world_after s cs).peer p).status)) (tied_itself total p)

      -- whom a call grants may be connected then
      pub connects : (c : Call C S) (p : C) → reserved_by c ≡ Some p → was_granted (event_of s cs c) ≡ true →
          may_connect s (world_after s (c ∷ cs)) p ≡ true
      connects (Listen q t draw) p of_p granted =
          subst (λ p. may_connect s (world_after s (Listen q t draw ∷ cs)) p ≡ true) (some_is of_p)
          (go (World.may_listen s q t before.sets (before.peer q) (before.unblock q) (before.cooldown q)) refl granted)
        where
          go : (b : Bool) → World.may_listen s q t before.sets (before.peer q) (before.unblock q) (before.cooldown q) ≡ b → was_granted (World.listen_event s q t draw b) ≡ true →
              may_connect s (world_after s (Listen q t draw ∷ cs)) q ≡ true
          go true e is = granted_by (Listen q t draw) q _ (ap (World.listen_event s q t draw) e)
          go false e is = absurd cc
      connects (Dial q t draw) p of_p granted =
          subst (λ p. may_connect s (world_after s (Dial q t draw ∷ cs)) p ≡ true) (some_is of_p)
          (go (World.may_dial s q t before.sets (before.peer q) (before.unblock q) (before.cooldown q)) refl (World.address_with s q (before.peer q).known.info) refl granted)
        where
          go : (b : Bool) → World.may_dial s q t before.sets (before.peer q) (before.unblock q) (before.cooldown q) ≡ b →
              (o : Option Ingress) → World.address_with s q (before.peer q).known.info ≡ o → was_granted (World.dial_event s q t draw b o) ≡ true →
              may_connect s (world_after s (Dial q t draw ∷ cs)) q ≡ true
          go b e None f is = absurd cc
          go true e (Some a) f is = granted_by (Dial q t draw) q _ (λ i. World.dial_event s q t draw (e i) (f i))
          go false e (Some a) f is = absurd cc
      connects (Track index primary secondary) p of_p granted = absurd cc
      connects (Connect q dialer) p of_p granted = absurd cc
      connects (Release q) p of_p granted = absurd cc
      connects (Update infos) p of_p granted = absurd cc
      connects (Block q t) p of_p granted = absurd cc
      connects (UnblockExpired t) p of_p granted = absurd cc
      connects (ForgetCooled t) p of_p granted = absurd cc
      connects (Ask question) p of_p granted = absurd cc

module _ {C S : Type 0} (m : Made C S) where
  -- the reply to a connect of a peer that is reserved
  pub connected_reply : (cs : List (Call C S)) (p : C) (dialer : Bool) (r : Reply C S) → IsStepAnswer m cs (Connect p dialer) r →
      may_connect m.directory (world_after m.directory cs) p ≡ true → r ≡ reply.Connect
  connected_reply cs p dialer r (inl (inl (out, none))) may = absurd none
  connected_reply cs p dialer r (inl (inr is)) may = is ∙ ap (λ b. if b then reply.Connect else reply.NotReserved) may
  connected_reply cs p dialer r (inr (may_reserve, out)) may = absurd cc

  -- the reply to a listen says whether it was granted, and so does that to a dial
  pub listen_told : (cs : List (Call C S)) (p : C) (t draw : ℕ) (b : Bool) →
      IsStepAnswer m cs (Listen p t draw) (reply.Listen b) → was_granted (event_of m.directory cs (Listen p t draw)) ≡ b
  listen_told cs p t draw b (inl (inl (out, may))) = absurd cc
  listen_told cs p t draw b (inl (inr answer)) = let f = sym answer in cc
  listen_told cs p t draw b (inr (may, out)) = absurd cc

  pub dial_told : (cs : List (Call C S)) (p : C) (t draw : ℕ) (b : Bool) →
      IsStepAnswer m cs (Dial p t draw) (reply.Dial b) → was_granted (event_of m.directory cs (Dial p t draw)) ≡ b
  dial_told cs p t draw b (inl (inl (out, may))) = absurd cc
  dial_told cs p t draw b (inl (inr answer)) = let f = sym answer in cc
  dial_told cs p t draw b (inr (may, out)) = absurd cc
