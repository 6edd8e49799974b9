-- A node stands where its server does.
use Rattle.std.proofs.Common.{◌≡◌, ◌||◌, Bool, true, false, List, [], ◌∷◌, Option, Some, None, is_some, inl, refl, sym, ◌∙◌, ap, subst, cond}
use Rattle.std.specs.Map.{keys_of}
use Rattle.std.specs.Option.{option_map_or}
use Rattle.std.specs.List.{list_any}
use Rattle.std.specs.BTreeMap.{is_at}
use Rattle.std.specs.Prelude.{if◌then◌else◌}
use Rattle.std.specs.declared.cmp.Ordering.{Ordering}
use Rattle.p2p_tracker.specs.declared.directory.Metadata.{Metadata}
use Rattle.p2p_directory.specs.declared.run.commands.Command.{Command}
use Rattle.p2p_directory.specs.declared.run.commands.Reply.{Reply}
use Rattle.p2p_tracker.specs.Calls.{Settings, Call}
use Rattle.p2p_tracker.specs.World.{World}
use Rattle.p2p_directory.specs.Held.{held_of}
use Rattle.p2p_directory.specs.Refinement.{Refines}
use Rattle.p2p_directory.specs.Run.{call_of, world_after, next, Holds}
use Rattle.p2p_directory.specs.Nodes.{Made, NodeView, NodeStandsAt, IsStepped, made_of, StandsSomewhere}
use Rattle.p2p_directory.specs.Nodes.{IsSame, KeepsRoom, has_slot, is_named}
use Rattle.p2p_directory.specs.Private.Networks.{IsNodeServedAt, has_room}
use Rattle.p2p_directory.specs.Private.Serving.{ServerView, StandsAt, node_at, has_slot_for, reserved_peer}
use Rattle.p2p_directory.specs.Private.Serving as serving
use Rattle.p2p_directory.specs.Private.Slots.{contents, held_in, slot_of, AreSlots, KeepsSlots}
use Rattle.p2p_directory.specs.Private.Slots as in_slots
use Rattle.p2p_discovery.specs.declared.discovery.PayloadConfig.{PayloadConfig}
use Rattle.p2p_discovery.specs.Judgement.{Verifier}
use Rattle.std.specs.Cmp.{IsTotalOrder}
use Rattle.std.proofs.lemmas.Map.Lookups.{CmpEqualImpliesEq}
use Rattle.p2p_directory.proofs.Reservations.Slots.{held_is, same_contents}

holds_alike : {C S : Type 0} (s : Settings C S) (w : World C S) (h h2 : C → Option (Metadata C S)) → ((q : C) → h2 q ≡ h q) → Holds s w h → Holds s w h2
holds_alike s w h h2 same holds = record { peers = λ q. ap is_some (same q) ∙ holds.peers q; metadata = λ q. same q ∙ holds.metadata q }

module _ {C S : Type 0} (m : Made C S) (calls : List (Call C S)) (n : NodeView C S) (v : ServerView C S)
    (directory : n.directory ≡ v.directory) (held : (q : C) → held_of m.directory.cmp n.held q ≡ held_in m.directory.cmp v.slots q) where
  pub of_node : NodeStandsAt m calls n → StandsAt m.directory calls v
  of_node at = record {
    limit_fits = at.limit_fits;
    refines = subst (Refines m.directory (world_after m.directory calls)) directory at.refines;
    holds = holds_alike m.directory (world_after m.directory calls) (held_of m.directory.cmp n.held)
        (held_in m.directory.cmp v.slots) (λ q. sym (held q)) at.holds;
  }

  pub of_server : n.limits ≡ m.limits → n.verifier ≡ m.verifier → StandsAt m.directory calls v → NodeStandsAt m calls n
  of_server limits verifier at = record {
    limit_fits = at.limit_fits;
    refines = subst (Refines m.directory (world_after m.directory calls)) (sym directory) at.refines;
    holds = holds_alike m.directory (world_after m.directory calls) (held_in m.directory.cmp v.slots) (held_of m.directory.cmp n.held) held at.holds;
    limits = limits;
    verifier = verifier;
  }

-- STEPS

-- a command that was served: v is the server before it, v2 after it
pub served : {C S : Type 0} (m : Made C S) (calls : List (Call C S)) (n n2 : NodeView C S) (v v2 : ServerView C S) (c : Call C S) (r : Reply C S) →
    n.directory ≡ v.directory → ((q : C) → held_of m.directory.cmp n.held q ≡ held_in m.directory.cmp v.slots q) →
    n2.directory ≡ v2.directory →
    ((q : C) → held_of m.directory.cmp n2.held q ≡ held_in m.directory.cmp v2.slots q) → n2.limits ≡ n.limits →
    n2.verifier ≡ n.verifier →
    (StandsAt m.directory calls v → serving.IsCallServedAt m.directory calls c r v2) → NodeStandsAt m calls n → IsNodeServedAt m calls c r n2
served m calls n n2 v v2 c r directory held directory2 held2 limits verifier serves at =
    let answers = serves (of_node m calls n v directory held at) in
    record {
      answer = answers.answer;
      left =
          of_server m (next m.directory calls c r) n2 v2 directory2 held2 (limits ∙ at.limits)
          (verifier ∙ at.verifier) answers.left;
    }

-- a command that a server served, where nothing is left to do: n is the node before it, n2 after it
pub stepped_by : {C S : Type 0} (cmp : C → C → Ordering) (x : Command C S) (r : Reply C S) (n n2 : NodeView C S) (v v2 : ServerView C S) →
    n.directory ≡ v.directory → ((q : C) → held_of cmp n.held q ≡ held_in cmp v.slots q) →
    n2.directory ≡ v2.directory →
    ((q : C) → held_of cmp n2.held q ≡ held_in cmp v2.slots q) → n2.limits ≡ n.limits →
    n2.verifier ≡ n.verifier → serving.IsServed cmp x r v v2 → IsStepped cmp x r n n2
stepped_by cmp x r n n2 v v2 directory held directory2 held2 limits verifier serves = λ given calls at.
    let m = made_of cmp given in
    let answers = served m calls n n2 v v2 (call_of x) r directory held directory2 held2 limits verifier
    (serves given.bootstrappers.items given.myself given.cfg calls) at in
    record { answer = inl answers.answer; left = answers.left }

-- IT STANDS SOMEWHERE after each step

pub still : {C S : Type 0} (cmp : C → C → Ordering) (x : Command C S) (r : Reply C S) (n n2 : NodeView C S) →
    StandsSomewhere cmp n → IsStepped cmp x r n n2 → StandsSomewhere cmp n2
still cmp x r n n2 somewhere steps =
    let m = made_of cmp somewhere.given in
    record {
      given = somewhere.given;
      calls = next m.directory somewhere.calls (call_of x) r;
      stands = (steps somewhere.given somewhere.calls somewhere.stands).left;
    }

-- .. where nothing is seen to change but slots
pub stands_same : {C S : Type 0} (m : Made C S) (calls : List (Call C S)) (n n2 : NodeView C S) →
    IsSame n n2 → NodeStandsAt m calls n → NodeStandsAt m calls n2
stands_same m calls n n2 same at = subst (NodeStandsAt m calls) (sym same) (record {
  limit_fits = at.limit_fits;
  refines = at.refines;
  holds = at.holds;
  limits = at.limits;
  verifier = at.verifier;
})

pub still_same : {C S : Type 0} (cmp : C → C → Ordering) (n n2 : NodeView C S) → IsSame n n2 →
    StandsSomewhere cmp n → StandsSomewhere cmp n2
still_same cmp n n2 same somewhere = record {
  given = somewhere.given;
  calls = somewhere.calls;
  stands = stands_same (made_of cmp somewhere.given) somewhere.calls n n2 same somewhere.stands;
}

-- there is a slot of q where its key is among those of slots
pub slot_is : {C S : Type 0} (cmp : C → C → Ordering) (slots : List (C × Option (Metadata C S)))
    (q : C) → in_slots.has_slot cmp slots q ≡ list_any (is_at (cmp q)) (keys_of slots)
slot_is cmp [] q = refl
slot_is {C} {S} cmp (slot ∷ slots) q = go (is_at (cmp q) slot.0) (slot_is cmp slots q)
  where
    go : (b : Bool) → in_slots.has_slot cmp slots q ≡ list_any (is_at (cmp q)) (keys_of slots) →
        is_some (cond b (Some slot.1) (slot_of cmp slots q))
        ≡ b || list_any (is_at (cmp q)) (keys_of slots)
    go true h = refl
    go false h = h

-- there is room for a command at a node where there is a slot for it
pub room_is : {C S : Type 0} (cmp : C → C → Ordering) (limits : PayloadConfig) (verifier : Verifier C)
    (v : ServerView C S) (x : Command C S) →
    has_slot_for cmp v.slots x ≡ has_room cmp (node_at limits verifier v) x
room_is {C} cmp limits verifier v x = go (reserved_peer x)
  where
    go : (o : Option C) → option_map_or (in_slots.has_slot cmp v.slots) o true
        ≡ option_map_or (has_slot cmp (node_at limits verifier v)) o true
    go None = refl
    go (Some q) = slot_is cmp v.slots q

module _ {C S : Type 0} {cmp : C → C → Ordering} (total : IsTotalOrder cmp) (exact : CmpEqualImpliesEq cmp)
    (limits : PayloadConfig) (verifier : Verifier C) where
  pub step_of : (x : Command C S) (r : Reply C S) (v v2 : ServerView C S) → AreSlots cmp v.slots → AreSlots cmp v2.slots →
      serving.IsServed cmp x r v v2 → IsStepped cmp x r (node_at limits verifier v) (node_at limits verifier v2)
  step_of x r v v2 are are2 serves =
      stepped_by cmp x r (node_at limits verifier v) (node_at limits verifier v2) v v2 refl
      (held_is total exact v.slots are) refl (held_is total exact v2.slots are2) refl refl serves

  pub step_alone : (x : Command C S) (r : Reply C S) (v v2 : ServerView C S) → AreSlots cmp v.slots → AreSlots cmp v2.slots →
      serving.IsSteppedAlone cmp x r v v2 → IsStepped cmp x r (node_at limits verifier v) (node_at limits verifier v2)
  step_alone x r v v2 are are2 steps = λ given calls at.
      let m = made_of cmp given in
      let n = node_at limits verifier v in
      let n2 = node_at limits verifier v2 in
      let answers = steps given.bootstrappers.items given.myself given.cfg calls (of_node m calls n v refl (held_is total exact v.slots are) at) in
      record {
        answer = answers.answer;
        left = of_server m (next m.directory calls (call_of x) r) n2 v2 refl (held_is total exact v2.slots are2) at.limits at.verifier answers.left;
      }

  -- what is held of it is the same list, where the same is held of each peer
  pub same_node : (v v2 : ServerView C S) → AreSlots cmp v.slots → AreSlots cmp v2.slots → v2.directory ≡ v.directory →
      ((q : C) → held_in cmp v2.slots q ≡ held_in cmp v.slots q) →
      IsSame (node_at limits verifier v) (node_at limits verifier v2)
  same_node v v2 are are2 directory held i = record {
    directory = directory i;
    held = same_contents total exact v.slots v2.slots are are2 held i;
    slots = keys_of v2.slots;
    limits = limits;
    verifier = verifier;
  }

  -- a slot is left for the peer that is named, if one is, where something is held of it
  pub keeps_room : (named : Option C) (v v2 : ServerView C S) → AreSlots cmp v2.slots →
      KeepsSlots cmp named v.slots v2.slots →
      KeepsRoom cmp named (node_at limits verifier v) (node_at limits verifier v2)
  keeps_room named v v2 are2 kept q = sym (slot_is cmp v2.slots q) ∙ kept q
      ∙ ap (λ o. if is_named cmp named q then is_some o else in_slots.has_slot cmp v.slots q)
      (sym (held_is total exact v2.slots are2 q))
      ∙ ap (λ b. if is_named cmp named q then is_some (held_of cmp (contents v2.slots) q) else b)
      (slot_is cmp v.slots q)
