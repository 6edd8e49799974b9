-- Where want of memory is told, nothing was changed.
use Rattle.std.proofs.Common.{◌≡◌, inl, inr, ℕ, ◌-◌, ◌≤◌, ◌<◌, ◌^◌, Bool, true, false, List, ◌∷◌}
use Rattle.std.proofs.Common.{Option, Some, None, refl, sym, ◌∙◌, subst, arith}
use Rattle.std.specs.Prelude.{if◌then◌else◌}
use Rattle.p2p_tracker.specs.Calls.{Call, Question, Settings}
use Rattle.p2p_tracker.specs.Calls.Call.{Track, Dial, Listen, Connect, Release, Update, Block}
use Rattle.p2p_tracker.specs.Calls.Call.{UnblockExpired, ForgetCooled, Ask}
use Rattle.p2p_tracker.specs.Calls.Event.{Nothing}
use Rattle.p2p_tracker.specs.Answers.{is_present_in}
use Rattle.p2p_tracker.specs.World.{World, world_with, new_known}
use Rattle.p2p_directory.specs.declared.node.received.Received.{Received}
use Rattle.p2p_directory.specs.declared.node.received.Received.TheVariants as received
use Rattle.p2p_directory.specs.declared.run.commands.Reply.{Reply}
use Rattle.p2p_directory.specs.declared.run.commands.Reply.TheVariants as reply
use Rattle.p2p_directory.specs.Nodes.{Made, IsStepAnswer}
use Rattle.p2p_directory.specs.Run.{event_of, next, was_made, world_after}
use Rattle.p2p_directory.proofs.Definitions.Law.{recomputed_is_one_step}
use Rattle.p2p_directory.proofs.LawsOfRuns.Forgotten.{absent}
use Rattle.p2p_session.specs.declared.refusal.Refusal.TheVariants as refusal
use Rattle.p2p_session.specs.Alike.{HasValues, TellsOfCall, TellsOfFrame}
use Rattle.p2p_session.specs.Answers.{Tells, truth}
use Rattle.p2p_session.specs.Refusals.{number_of}
use Rattle.p2p_session.specs.Schemes.{Scheme}
use Rattle.p2p_session.specs.Sessions.{TellsReply}
use Rattle.p2p_session.proofs.Alike.{CallForm, call_form}

-- ---- a question changes nothing

module _ {C S : Type 0} (s : Settings C S) where
  nothing_changes : (w : World C S) →
      ((p : C) → is_present_in s w p ≡ false → (w.peer p).known ≡ new_known s p) →
      world_with s Nothing w ≡ w
  nothing_changes w forgotten = λ i. record {
    state = record {
      sets = w.sets;
      peer = λ p. record { status = (w.peer p).status; known = go p (is_present_in s w p) refl i };
      unblock = w.unblock;
      cooldown = w.cooldown;
    };
    held = w.held;
  }
    where
      go : (p : C) (b : Bool) → is_present_in s w p ≡ b →
          (if b then (w.peer p).known else new_known s p) ≡ (w.peer p).known
      go p true e = refl
      go p false e = sym (forgotten p e)

  asked : 1 ≤ s.max_sets → (before : List (Call C S)) (question : Question C) (made : Bool) →
      world_after s (if made then Ask question ∷ before else before) ≡ world_after s before
  asked some before question true =
      recomputed_is_one_step s some before (Ask question)
      ∙ nothing_changes (world_after s before) (absent s before)
  asked some before question false = refl

-- ---- no other call is answered so

module _ {C S : Type 0} (k : Scheme C S) (out out2 : List ℕ) where
  abbrev Told : Reply C S → Type 0
  Told r = TellsReply k r out out2 (number_of refusal.Memory)

  truth_told : (x : Bool) → Tells (truth x) out out2 (number_of refusal.Memory) → ⊥
  truth_told true t = let e : 2 ^ 64 - 1 ≡ 1 = t.0 in omega (arith, e)
  truth_told false t = let e : 2 ^ 64 - 1 ≡ 0 = t.0 in omega (arith, e)

  track_told : (x : Option (List C)) → Told (reply.Track x) → ⊥
  track_told x (inl h) = absurd (let e = h.0 in cc)
  track_told None (inr t) = let e : 2 ^ 64 - 1 ≡ 2 ^ 64 - 3 = t.0 in omega (arith, e)
  track_told (Some x) (inr t) = let e = t.count in omega (arith, e)

  connect_told : (x : Bool) → Told (if x then reply.Connect else reply.NotReserved) → ⊥
  connect_told true (inl h) = absurd (let e = h.0 in cc)
  connect_told false (inl h) = absurd (let e = h.0 in cc)
  connect_told true (inr t) = let e : 2 ^ 64 - 1 ≡ 1 = t.0 in omega (arith, e)
  connect_told false (inr t) = let e : 2 ^ 64 - 1 ≡ 2 ^ 64 - 5 = t.0 in omega (arith, e)

  release_told : (x : Bool) → Told (if x then reply.Release else reply.NotHeld) → ⊥
  release_told true (inl h) = absurd (let e = h.0 in cc)
  release_told false (inl h) = absurd (let e = h.0 in cc)
  release_told true (inr t) = let e : 2 ^ 64 - 1 ≡ 1 = t.0 in omega (arith, e)
  release_told false (inr t) = let e : 2 ^ 64 - 1 ≡ 2 ^ 64 - 6 = t.0 in omega (arith, e)

  -- so the call is a question, or nothing is changed
  changes_nothing : (s : Settings C S) → 1 ≤ s.max_sets →
      (before : List (Call C S)) (call : Call C S) (r : Reply C S) →
      CallForm call r → HasValues k r → Told r →
      world_after s (next s before call r) ≡ world_after s before
  changes_nothing s some before (Track index primary secondary) r (x, e) h t =
      absurd (track_told x (subst Told e t))
  changes_nothing s some before (Dial p at draw) r (x, e) h t = absurd (go (subst Told e t))
    where
      go : Told (reply.Dial x) → ⊥
      go (inl h) = absurd (let e = h.0 in cc)
      go (inr t) = truth_told x t
  changes_nothing s some before (Listen p at draw) r (x, e) h t = absurd (go (subst Told e t))
    where
      go : Told (reply.Listen x) → ⊥
      go (inl h) = absurd (let e = h.0 in cc)
      go (inr t) = truth_told x t
  changes_nothing s some before (Connect p dialer) r (x, e) h t =
      absurd (connect_told x (subst Told e t))
  changes_nothing s some before (Release p) r (x, e) h t = absurd (release_told x (subst Told e t))
  changes_nothing s some before (Update infos) r e h t = absurd (go (subst Told e t))
    where
      go : Told reply.UpdatePeers → ⊥
      go (inl h) = absurd (let e = h.0 in cc)
      go (inr t) = truth_told true t
  changes_nothing s some before (Block p at) r (x, e) h t = absurd (go (subst Told e t))
    where
      go : Told (reply.Block x) → ⊥
      go (inl h) = absurd (let e = h.0 in cc)
      go (inr t) = truth_told x t
  changes_nothing s some before (UnblockExpired at) r (x, e) h t = absurd (go (subst Told e t))
    where
      go : Told (reply.UnblockExpired x) → ⊥
      go (inl h) = absurd (let e = h.0 in cc)
      go (inr t) = truth_told x t
  changes_nothing s some before (ForgetCooled at) r (x, e) h t =
      absurd (go (subst (HasValues k) e h) (subst Told e t))
    where
      go : HasValues k (reply.ForgetCooled x) → Told (reply.ForgetCooled x) → ⊥
      go few (inl h) = absurd (let e = h.0 in cc)
      go few (inr t) = let below : x < 2 ^ 63 = few in let e : 2 ^ 64 - 1 ≡ x = t.0 in
          omega (arith, below, e)
  changes_nothing s some before (Ask question) r e h t = asked s some before question (was_made r)

  unmade : (s : Settings C S) (before : List (Call C S)) (call : Call C S) (r : Reply C S) →
      r ≡ reply.OutOfMemory →
      world_after s (next s before call r) ≡ world_after s before
  unmade s before call r e =
      subst (λ x. world_after s (next s before call x) ≡ world_after s before) (sym e) refl

  after_answer : (m : Made C S) → 1 ≤ m.directory.max_sets →
      (before : List (Call C S)) (call : Call C S) (r : Reply C S) →
      IsStepAnswer m before call r → HasValues k r → Told r →
      world_after m.directory (next m.directory before call r) ≡ world_after m.directory before
  after_answer m some before call r (inl (inl want)) values told =
      unmade m.directory before call r want.0
  after_answer m some before call r (inl (inr replies)) values told =
      let s = m.directory in
      let form = call_form s (event_of s before call) (world_after s before)
      (world_after s (call ∷ before)) call r replies in
      changes_nothing s some before call r form values told
  after_answer m some before call r (inr room) values told = unmade m.directory before call r room.1

  pub unchanged : (call : Call C S) (r : Reply C S)
      (a : TellsOfCall k call r out out2 (number_of refusal.Memory)) →
      1 ≤ a.m.directory.max_sets →
      world_after a.m.directory (next a.m.directory a.before call r)
      ≡ world_after a.m.directory a.before
  unchanged call r a some = after_answer a.m some a.before call r a.answer a.values a.told

  pub refused : (frame : List ℕ) (r : Received C S) →
      TellsOfFrame k frame r out out2 (number_of refusal.Memory) →
      r ≡ received.Memory
  refused frame received.Memory a = refl
  refused frame _ a = absurd (let e = a.told.count in omega (arith, e))
