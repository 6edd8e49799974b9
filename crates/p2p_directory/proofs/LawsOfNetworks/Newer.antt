-- Infos of a peer that stays present only get newer.
use Rattle.std.proofs.Common.{◌≡◌, ℕ, Bool, true, false, ◌&&◌, List, [], ◌∷◌, ◌++◌, Option, Some}
use Rattle.std.proofs.Common.{None, refl, sym, subst, ◌≤◌, inl, inr}
use Rattle.std.specs.Prelude.{if◌then◌else◌, filter, ◌==◌, ◌⊎◌}
use Rattle.p2p_discovery.specs.declared.discovery.Info.{Info}
use Rattle.p2p_directory.specs.declared.node.network.commands.NetworkCommand.{NetworkCommand}
use Rattle.p2p_directory.specs.declared.node.network.commands.NetworkCommand.TheVariants as command
use Rattle.p2p_directory.specs.declared.node.network.commands.NetworkReply.{NetworkReply}
use Rattle.p2p_directory.specs.declared.node.network.commands.NetworkReply.TheVariants as reply
use Rattle.p2p_tracker.specs.Lists.{first_greatest}
use Rattle.p2p_tracker.specs.Calls.{Settings, Call, Event}
use Rattle.p2p_tracker.specs.Calls.Call.{Update}
use Rattle.p2p_tracker.specs.Calls.Event.{Connected, Released, Updated}
use Rattle.p2p_tracker.specs.History
use Rattle.p2p_tracker.specs.World
use Rattle.p2p_tracker.specs.World.{World, Known}
use Rattle.p2p_tracker.specs.Answers.{is_present_in}
use Rattle.p2p_directory.specs.Run.{call_of, was_made, world_after}
use Rattle.p2p_directory.specs.Received.{Wire, applies}
use Rattle.p2p_directory.specs.Nodes.{Made, calls_with}
use Rattle.p2p_directory.specs.Exchange.{infos_applied}
use Rattle.p2p_directory.specs.Network.{infos_of_frame, Done, changed_by, calls_then, calls_at}
use Rattle.p2p_directory.specs.Laws.Gossip.{IsSince}
use Rattle.std.specs.declared.cmp.Ordering.{Ordering}
use Rattle.p2p_directory.specs.Laws.Network.{AreMade, StaysPresent, HoldsSince, OnlyGetNewer}
use Rattle.p2p_tracker.proofs.Definitions.Knowledge
use Rattle.p2p_directory.proofs.Definitions.Law
use Rattle.p2p_directory.proofs.LawsOfGossip.Updates.{since_first}

-- ONE CALL

module _ {C S : Type 0} (s : Settings C S) (n : ℕ) where
  since_later_left : (a b : Option (Info C S)) → IsSince n a → IsSince n (Knowledge.later a b)
  since_later_left None b h = absurd h
  since_later_left (Some i) b h = since_first s n i b h

  after_event : (p : C) (e : Event C S) (k : Known C S) → IsSince n k.info →
      IsSince n (World.known_after s p e k).info
  after_event p (Updated infos) k h = go (History.is_own s p)
    where
      mine : List (Info C S)
      mine = filter (λ i. History.same s i.public_key p) infos

      go : (b : Bool) → IsSince n (if b then k else World.known_with_infos s k mine).info
      go true = h
      go false = subst (λ (x : Known C S). IsSince n x.info)
          (sym (Knowledge.updated_all_with_best s k mine))
          (since_later_left k.info (first_greatest mine) h)
  after_event p (Connected q dialer) k h = go (History.same s q p && dialer) _ h
    where
      go : (b : Bool) (x : Known C S) → IsSince n x.info → IsSince n (if b then x else k).info
      go true x f = f
      go false x f = h
  after_event p (Released q direction) k h =
      go (History.same s q p && World.is_failed_dial s k.info direction) _ h
    where
      go : (b : Bool) (x : Known C S) → IsSince n x.info → IsSince n (if b then x else k).info
      go true x f = f
      go false x f = h
  after_event p e k h = h

  after_step : (w : World C S) (c : Call C S) (p : C) →
      is_present_in s (World.step s w c) p ≡ true → IsSince n (w.peer p).known.info →
      IsSince n ((World.step s w c).peer p).known.info
  after_step w c p present h =
      let e = World.event_in s w.sets w c in
      subst (λ b. IsSince n
      (if b then World.known_after s p e (w.peer p).known else World.new_known s p).info)
      (sym present) (after_event p e (w.peer p).known h)

  pub after_call : 1 ≤ s.max_sets → (cs : List (Call C S)) (c : Call C S) (p : C) →
      is_present_in s (world_after s (c ∷ cs)) p ≡ true →
      IsSince n ((world_after s cs).peer p).known.info →
      IsSince n ((world_after s (c ∷ cs)).peer p).known.info
  after_call some cs c p present h =
      let one = Law.recomputed_is_one_step s some cs c in
      subst (λ w. IsSince n (w.peer p).known.info) (sym one)
      (after_step (world_after s cs) c p
      (subst (λ w. is_present_in s w p ≡ true) one present) h)

-- ONE COMMAND

module _ {C S : Type 0} where
  -- one more call, or none
  abbrev IsOneMore : List (Call C S) → List (Call C S) → Type 0
  IsOneMore before after = (after ≡ before) ⊎ ((c : Call C S) × (after ≡ c ∷ before))

  one_if : (b : Bool) (c : Call C S) (calls : List (Call C S)) →
      IsOneMore calls (if b then c ∷ calls else calls)
  one_if true c calls = inr (c, refl)
  one_if false c calls = inl refl

  one_with : (o : Option (List (Info C S))) (calls : List (Call C S)) →
      IsOneMore calls (calls_with o calls)
  one_with None calls = inl refl
  one_with (Some infos) calls = inr (Update infos, refl)

  one_then : (wire : Wire C S) (m : Made C S) (c : NetworkCommand C S) (r : NetworkReply C S)
      (calls : List (Call C S)) → IsOneMore calls (calls_then wire m c r calls)
  one_then wire m (command.Call i x) (reply.Call r) calls =
      one_if (was_made r) (call_of x) calls
  one_then wire m (command.Frame i frame now) (reply.Frame r) calls =
      one_if (applies r) (Update (infos_of_frame wire m.limits frame)) calls
  one_then wire m (command.Exchange asker replier place asker_now replier_now) (reply.Exchange r)
      calls = one_with (infos_applied r) calls
  one_then wire m c r calls = inl refl

module _ {C S : Type 0} (wire : Wire C S) (size : ℕ) (node : ℕ → Made C S) where
  one_at : (x : NetworkCommand C S × NetworkReply C S) (done : Done C S) (i : ℕ) →
      IsOneMore (calls_at wire size node done i) (calls_at wire size node (x ∷ done) i)
  one_at x done i = go (changed_by x.0 == i)
    where
      go : (b : Bool) → IsOneMore (calls_at wire size node done i)
          (if b then calls_then wire (node i) x.0 x.1 (calls_at wire size node done i)
          else calls_at wire size node done i)
      go true = one_then wire (node i) x.0 x.1 (calls_at wire size node done i)
      go false = inl refl

  module _ (n : ℕ) (some : 1 ≤ (node n).directory.max_sets) (p : C) (t : ℕ) where
    abbrev Present : List (Call C S) → Type 0
    Present calls =
        is_present_in (node n).directory (world_after (node n).directory calls) p ≡ true

    abbrev Since : List (Call C S) → Type 0
    Since calls = IsSince t ((world_after (node n).directory calls).peer p).known.info

    newer_calls : (before after : List (Call C S)) → IsOneMore before after → Present after →
        Since before → Since after
    newer_calls before after (inl same) present h = subst Since (sym same) h
    newer_calls before after (inr more) present h = subst Since (sym more.1)
        (after_call (node n).directory t some before more.0 p (subst Present more.1 present) h)

    pub newer : (later done : Done C S) → HoldsSince wire size node n p t done →
        StaysPresent wire size node n p later done →
        HoldsSince wire size node n p t (later ++ done)
    newer [] done h stays = h
    newer (x ∷ later) done h stays =
        newer_calls (calls_at wire size node (later ++ done) n)
        (calls_at wire size node (x ∷ (later ++ done)) n) (one_at x (later ++ done) n)
        stays.0 (newer later done h stays.1)

  pub only_get_newer : (cmp : C → C → Ordering) → AreMade wire size node cmp →
      (all : Done C S) → OnlyGetNewer wire size node all
  only_get_newer cmp made all later done n p t is there h stays =
      subst (HoldsSince wire size node n p t) (sym is)
      (newer n (made n there).sets p t later done h stays)
