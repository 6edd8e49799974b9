-- What a call leaves held at a node, by its reply: what the worlds before and after it say of grants.
use Rattle.std.proofs.Common.{◌≡◌, ℕ, ◌≤◌, ◌&&◌, Bool, true, false, not, List, ◌∷◌, Option, Some, None, inl, inr, refl, sym, ◌∙◌, ap, subst}
use Rattle.std.specs.Prelude.{if◌then◌else◌, nat_lt}
use Rattle.std.specs.List.{list_all}
use Rattle.std.specs.Option.{option_map, IsSomeAnd}
use Rattle.std.specs.BTreeMap.{is_at}
use Rattle.std.specs.Cmp.{IsTotalOrder}
use Rattle.std.specs.declared.cmp.Ordering.{Ordering}
use Rattle.std.proofs.lemmas.Map.Lookups.{CmpEqualImpliesEq}
use Rattle.std.proofs.lemmas.Map.Views.{tells_apart}
use Rattle.p2p_discovery.specs.declared.discovery.PayloadConfig.{PayloadConfig}
use Rattle.p2p_discovery.specs.declared.types.ingress.Ingress.{Ingress}
use Rattle.p2p_discovery.specs.Judgement.{Verifier}
use Rattle.p2p_tracker.specs.declared.directory.Metadata.{Metadata}
use Rattle.p2p_tracker.specs.declared.directory.Metadata.TheVariants as metadata
use Rattle.p2p_tracker.specs.declared.record.Status.{Status}
use Rattle.p2p_tracker.specs.declared.record.Status.TheVariants.{Inert, Reserved, Active}
use Rattle.p2p_tracker.specs.Answers.{was_granted, may_release}
use Rattle.p2p_tracker.specs.Blocks.{is_blocked}
use Rattle.p2p_tracker.specs.Calls.{Settings, Call, SetAt, Event, Grant}
use Rattle.p2p_tracker.specs.Calls.Call.{Track, Dial, Listen, Connect, Release, Update, Block, UnblockExpired, ForgetCooled, Ask}
use Rattle.p2p_tracker.specs.Calls.Direction.{Listener, Dialer}
use Rattle.p2p_tracker.specs.Calls.Event.{Nothing, SetTaken, Granted, Released, Blocked}
use Rattle.p2p_tracker.specs.History.{is_own}
use Rattle.p2p_tracker.specs.PeerSets.{set_of}
use Rattle.p2p_tracker.specs.World
use Rattle.p2p_tracker.specs.World.{World}
use Rattle.p2p_directory.specs.declared.run.commands.Command.{Command}
use Rattle.p2p_directory.specs.declared.run.commands.Reply.{Reply}
use Rattle.p2p_directory.specs.declared.run.commands.Reply.TheVariants as reply
use Rattle.p2p_directory.specs.Held.{held_of, AddsHeld, DropsHeld}
use Rattle.p2p_directory.specs.Nodes.{Made, NodeView, NodeStandsAt, IsStepAnswer, IsStepped, StandsSomewhere, made_of, LeavesHeld, HoldsAfter}
use Rattle.p2p_directory.specs.Private.Serving.{ServerView, node_at}
use Rattle.p2p_directory.specs.Private.Slots.{AreSlots}
use Rattle.p2p_directory.specs.Refinement.{metadata_of}
use Rattle.p2p_directory.specs.Run.{call_of, was_made, world_after, next}
use Rattle.p2p_directory.proofs.Definitions.Law
use Rattle.p2p_directory.proofs.Refinement.DialsRefine
use Rattle.p2p_directory.proofs.Reservations.Slots.{held_is, same_contents}

module _ {C S : Type 0} (m : Made C S) (some : 1 ≤ m.directory.max_sets) (exact : CmpEqualImpliesEq m.directory.cmp)
    (calls : List (Call C S)) (v v2 : NodeView C S) (at : NodeStandsAt m calls v) where
  abbrev s : Settings C S
  s = m.directory

  abbrev w : World C S
  w = world_after s calls

  abbrev held_before : C → Option (Metadata C S)
  held_before = held_of s.cmp v.held

  abbrev held_left : C → Option (Metadata C S)
  held_left = held_of s.cmp v2.held

  -- .. and the same is held where nothing was done
  unmade : NodeStandsAt m calls v2 → (q : C) → held_left q ≡ held_before q
  unmade left q = left.holds.metadata q ∙ sym (at.holds.metadata q)

  -- what is held after one more call that does e
  by_event : (c : Call C S) (e : Event C S) → World.event_in s w.sets w c ≡ e → NodeStandsAt m (c ∷ calls) v2 → (q : C) →
      held_left q ≡ option_map (λ g. metadata_of q g.direction) (World.held_after s q e (w.held q))
  by_event c e is left q = left.holds.metadata q
      ∙ ap (λ (x : World C S). option_map (λ g. metadata_of q g.direction) (x.held q)) (Law.recomputed_is_one_step s some calls c)
      ∙ ap (λ e. option_map (λ g. metadata_of q g.direction) (World.held_after s q e (w.held q))) is

  -- .. that leaves each grant
  kept : (c : Call C S) (e : Event C S) → World.event_in s w.sets w c ≡ e → ((q : C) → World.held_after s q e (w.held q) ≡ w.held q) →
      NodeStandsAt m (c ∷ calls) v2 → (q : C) → held_left q ≡ held_before q
  kept c e is keeps left q =
      by_event c e is left q ∙ ap (option_map (λ g. metadata_of q g.direction)) (keeps q) ∙ sym (at.holds.metadata q)

  -- .. that grants p
  added : (c : Call C S) (p : C) (grant : Grant) → World.event_in s w.sets w c ≡ Granted p grant → NodeStandsAt m (c ∷ calls) v2 →
      AddsHeld s.cmp held_before held_left p (Some (metadata_of p grant.direction))
  added c p grant is left q = by_event c (Granted p grant) is left q ∙ go (is_at (s.cmp p) q) refl
    where
      go : (b : Bool) → is_at (s.cmp p) q ≡ b →
          option_map (λ (g : Grant). metadata_of q g.direction) (if b then Some grant else w.held q)
          ≡ (if b then Some (metadata_of p grant.direction) else held_before q)
      go true e = ap (λ k. Some (metadata_of k grant.direction)) (sym (tells_apart exact p q e))
      go false e = sym (at.holds.metadata q)

  -- .. that releases p, or finds nothing to release
  dropped : (p : C) → NodeStandsAt m (Release p ∷ calls) v2 → DropsHeld s.cmp held_before held_left p
  dropped p left q = go (w.held p) refl
    where
      at_key : (b : Bool) → option_map (λ (g : Grant). metadata_of q g.direction) (if b then None else w.held q)
          ≡ (if b then None else held_before q)
      at_key true = refl
      at_key false = sym (at.holds.metadata q)

      none : (b : Bool) → is_at (s.cmp p) q ≡ b → w.held p ≡ None → held_before q ≡ (if b then None else held_before q)
      none true e is = at.holds.metadata q
          ∙ ap (λ k. option_map (λ (g : Grant). metadata_of q g.direction) (w.held k)) (sym (tells_apart exact p q e))
          ∙ ap (option_map (λ (g : Grant). metadata_of q g.direction)) is
      none false e is = refl

      go : (o : Option Grant) → w.held p ≡ o → held_left q ≡ (if is_at (s.cmp p) q then None else held_before q)
      go None is = kept (Release p) Nothing (ap (World.release_event s p) is) (λ q. refl) left q ∙ none (is_at (s.cmp p) q) refl is
      go (Some grant) is =
          by_event (Release p) (Released p grant.direction) (ap (World.release_event s p) is) left q ∙ at_key (is_at (s.cmp p) q)

  -- BY THE REPLY: v and v2 stand before and after it, and hold the same list where they hold the same of each peer
  module _ (same : ((q : C) → held_left q ≡ held_before q) → v2.held ≡ v.held) where
    -- whatever was done, where no event of the call changes a grant
    whatever : (c : Call C S) (r : Reply C S) (e : Event C S) → World.event_in s w.sets w c ≡ e →
        ((q : C) → World.held_after s q e (w.held q) ≡ w.held q) → NodeStandsAt m (next s calls c r) v2 → v2.held ≡ v.held
    whatever c r e is keeps left = same (go (was_made r) left)
      where
        go : (b : Bool) → NodeStandsAt m (if b then c ∷ calls else calls) v2 → (q : C) → held_left q ≡ held_before q
        go true left = kept c e is keeps left
        go false left = unmade left

    -- want of memory
    wanting : (c : Call C S) (r : Reply C S) → r ≡ reply.OutOfMemory → NodeStandsAt m (next s calls c r) v2 → v2.held ≡ v.held
    wanting c r out left = same (unmade (subst (λ r. NodeStandsAt m (next s calls c r) v2) out left))

    listened : (p : C) (t draw : ℕ) (r : Reply C S) → let c = Listen p t draw in IsStepAnswer m calls c r →
        NodeStandsAt m (next s calls c r) v2 → LeavesHeld s.cmp c r v v2
    listened p t draw r (inl (inl (out, may))) left =
        let c : Call C S = Listen p t draw in subst (λ r. LeavesHeld s.cmp c r v v2) (sym out) (wanting c r out left)
    listened p t draw r (inr (may, out)) left =
        let c : Call C S = Listen p t draw in subst (λ r. LeavesHeld s.cmp c r v v2) (sym out) (wanting c r out left)
    listened p t draw r (inl (inr is)) left =
        let c : Call C S = Listen p t draw in
        subst (λ r. LeavesHeld s.cmp c r v v2) (sym is)
        (go (World.may_listen s p t w.sets (w.peer p) (w.unblock p) (w.cooldown p)) refl
        (subst (λ r. NodeStandsAt m (next s calls c r) v2) is left))
      where
        go : (b : Bool) → World.may_listen s p t w.sets (w.peer p) (w.unblock p) (w.cooldown p) ≡ b → NodeStandsAt m (Listen p t draw ∷ calls) v2 →
            LeavesHeld s.cmp (Listen p t draw) (reply.Listen (was_granted (World.listen_event s p t draw b))) v v2
        go true e left = added (Listen p t draw) p (record { t = t; draw = draw; direction = Listener }) (ap (World.listen_event s p t draw) e) left
        go false e left = same (kept (Listen p t draw) Nothing (ap (World.listen_event s p t draw) e) (λ q. refl) left)

    dialled : (p : C) (t draw : ℕ) (r : Reply C S) → let c = Dial p t draw in IsStepAnswer m calls c r →
        NodeStandsAt m (next s calls c r) v2 → LeavesHeld s.cmp c r v v2
    dialled p t draw r (inl (inl (out, may))) left =
        let c : Call C S = Dial p t draw in subst (λ r. LeavesHeld s.cmp c r v v2) (sym out) (wanting c r out left)
    dialled p t draw r (inr (may, out)) left =
        let c : Call C S = Dial p t draw in subst (λ r. LeavesHeld s.cmp c r v v2) (sym out) (wanting c r out left)
    dialled p t draw r (inl (inr is)) left =
        let c : Call C S = Dial p t draw in
        subst (λ r. LeavesHeld s.cmp c r v v2) (sym is)
        (go (World.may_dial s p t w.sets (w.peer p) (w.unblock p) (w.cooldown p)) refl (World.address_with s p (w.peer p).known.info) refl
        (subst (λ r. NodeStandsAt m (next s calls c r) v2) is left))
      where
        go : (b : Bool) → World.may_dial s p t w.sets (w.peer p) (w.unblock p) (w.cooldown p) ≡ b →
            (o : Option Ingress) → World.address_with s p (w.peer p).known.info ≡ o → NodeStandsAt m (Dial p t draw ∷ calls) v2 →
            LeavesHeld s.cmp (Dial p t draw) (reply.Dial (was_granted (World.dial_event s p t draw b o))) v v2
        go b e None f left = same (kept (Dial p t draw) Nothing (ap (World.dial_event s p t draw (World.may_dial s p t w.sets (w.peer p) (w.unblock p) (w.cooldown p))) f) (λ q. refl) left)
        go true e (Some a) f left =
            let is : World.event_in s w.sets w (Dial p t draw) ≡ Granted p (record { t = t; draw = draw; direction = Dialer a }) =
            (λ i. World.dial_event s p t draw (e i) (f i)) in
            subst (λ o. IsSomeAnd o (λ ingress. AddsHeld s.cmp held_before held_left p (Some (metadata.Dialer p ingress))))
            (sym (DialsRefine.tie_ingress s w v.directory p t at.refines e ∙ f))
            (added (Dial p t draw) p (record { t = t; draw = draw; direction = Dialer a }) is left)
        go false e (Some a) f left = same (kept (Dial p t draw) Nothing (λ i. World.dial_event s p t draw (e i) (f i)) (λ q. refl) left)

    released : (p : C) (r : Reply C S) → IsStepAnswer m calls (Release p) r →
        NodeStandsAt m (next s calls (Release p) r) v2 → LeavesHeld s.cmp (Release p) r v v2
    released p r (inl (inl (out, may))) left = absurd may
    released p r (inr (may, out)) left = absurd cc
    released p r (inl (inr is)) left =
        subst (λ r. LeavesHeld s.cmp (Release p) r v v2) (sym is)
        (go (may_release s w p) (subst (λ r. NodeStandsAt m (next s calls (Release p) r) v2) is left))
      where
        go : (b : Bool) → NodeStandsAt m (next s calls (Release p) (if b then reply.Release else reply.NotHeld)) v2 →
            LeavesHeld s.cmp (Release p) (if b then reply.Release else reply.NotHeld) v v2
        go true left = dropped p left
        go false left = same (unmade left)

    pub leaves_held : (c : Call C S) (r : Reply C S) → IsStepAnswer m calls c r → NodeStandsAt m (next s calls c r) v2 → LeavesHeld s.cmp c r v v2
    leaves_held (Track index primary secondary) r answer left =
        whatever (Track index primary secondary) r _ refl (go (list_all (λ x. nat_lt x.index index) w.sets) (set_of s.cmp index primary secondary)) left
      where
        go : (b : Bool) (x : SetAt C) (q : C) → World.held_after s q (if b then SetTaken x else Nothing) (w.held q) ≡ w.held q
        go true x q = refl
        go false x q = refl
    leaves_held (Dial p t draw) r answer left = dialled p t draw r answer left
    leaves_held (Listen p t draw) r answer left = listened p t draw r answer left
    leaves_held (Connect p dialer) r answer left = whatever (Connect p dialer) r _ refl (go (w.peer p).status) left
      where
        go : (status : Status) (q : C) → World.held_after s q (World.connect_event s p dialer status) (w.held q) ≡ w.held q
        go Inert q = refl
        go Reserved q = refl
        go Active q = refl
    leaves_held (Release p) r answer left = released p r answer left
    leaves_held (Update infos) r answer left = whatever (Update infos) r _ refl (λ q. refl) left
    leaves_held (Block p t) r answer left =
        whatever (Block p t) r _ refl (go (not (is_own s p) && not (is_blocked (w.unblock p) t))) left
      where
        go : (b : Bool) (q : C) → World.held_after s q (if b then Blocked p t else Nothing) (w.held q) ≡ w.held q
        go true q = refl
        go false q = refl
    leaves_held (UnblockExpired t) r answer left = whatever (UnblockExpired t) r _ refl (λ q. refl) left
    leaves_held (ForgetCooled t) r answer left = whatever (ForgetCooled t) r _ refl (λ q. refl) left
    leaves_held (Ask question) r answer left = whatever (Ask question) r _ refl (λ q. refl) left

-- a node of a server that is stepped, wherever it stands
module _ {C S : Type 0} {cmp : C → C → Ordering} (total : IsTotalOrder cmp) (exact : CmpEqualImpliesEq cmp)
    (limits : PayloadConfig) (verifier : Verifier C) where
  pub holds_after : (x : Command C S) (r : Reply C S) (v v2 : ServerView C S) → AreSlots cmp v.slots → AreSlots cmp v2.slots →
      let n = node_at limits verifier v in
      let n2 = node_at limits verifier v2 in
      StandsSomewhere cmp n → IsStepped cmp x r n n2 → HoldsAfter cmp x r n n2
  holds_after x r v v2 are are2 somewhere steps =
      let n = node_at limits verifier v in
      let n2 = node_at limits verifier v2 in
      let step = steps somewhere.given somewhere.calls somewhere.stands in
      leaves_held (made_of cmp somewhere.given) somewhere.given.cfg.max_sets.ok exact somewhere.calls n n2 somewhere.stands
      (λ held. same_contents total exact v.slots v2.slots are are2
      (λ q. sym (held_is total exact v2.slots are2 q) ∙ held q ∙ held_is total exact v.slots are q))
      (call_of x) r step.answer step.left
