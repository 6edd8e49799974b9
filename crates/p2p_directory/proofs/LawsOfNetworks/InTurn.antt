-- What is done in turn to nodes by calls of their own is a run of a network.
use Rattle.std.proofs.Common.{◌≡◌, ◌<◌, ℕ, length, Bool, true, false, cond, List, [], ◌∷◌, Result}
use Rattle.std.proofs.Common.{Ok, Err, Option, inl, inr, refl, sym, ap, subst, arith}
use Rattle.std.specs.Prelude.{◌⊎◌, ◌==◌, not, if◌then◌else◌, slice_index_or}
use Rattle.std.specs.declared.cmp.Ordering.{Ordering}
use Rattle.p2p_tracker.specs.Calls.{Call}
use Rattle.p2p_directory.specs.declared.node.setup.Setup.{Setup}
use Rattle.p2p_directory.specs.declared.node.network.commands.NetworkCommand.{NetworkCommand}
use Rattle.p2p_directory.specs.declared.node.network.commands.NetworkCommand.TheVariants as command
use Rattle.p2p_directory.specs.declared.node.network.commands.NetworkReply.{NetworkReply}
use Rattle.p2p_directory.specs.declared.node.network.commands.NetworkReply.TheVariants as reply
use Rattle.p2p_directory.specs.declared.run.commands.Reply.TheVariants as run_reply
use Rattle.p2p_directory.specs.Received.{Wire}
use Rattle.p2p_directory.specs.Nodes.{NodeView, Made, NodeStandsAt, IsAskedAt, IsAsked}
use Rattle.p2p_directory.specs.Network.{Done, changed_by, calls_then, calls_at, are_there}
use Rattle.p2p_directory.specs.Network.{node_made, StandAfter, IsNetworkServedAt, LacksRoom}
use Rattle.p2p_directory.specs.Network.{IsServedAmong, IsNetworkAnswer, AreNetworkAnswers}
use Rattle.p2p_directory.specs.Network.{done_after}
use Rattle.p2p_directory.specs.Laws.InTurn.{AreServedInTurn, is_refused, not_refused, commands_of}
use Rattle.p2p_directory.specs.Laws.InTurn.{replies_of, Steps, IsNetworkRun}
use Rattle.p2p_directory.proofs.Nodes.Networks.{stands_at, none_more, step_more, ask_more}
use Rattle.p2p_directory.proofs.Nodes.Networks.{frame_more, exchange_more, answered_served}

was_refused : (b : Bool) → not b ≡ false → b ≡ true
was_refused true e = refl
was_refused false e = absurd (cc)

module _ {C S : Type 0} (cmp : C → C → Ordering) (wire : Wire C S) (setups : List (Setup C S))
    (other : Setup C S) where
  abbrev size : ℕ
  size = length setups

  abbrev node : ℕ → Made C S
  node = node_made cmp other setups

  abbrev made : ℕ → Setup C S
  made i = slice_index_or setups i other

  module _ (done : Done C S) where
    abbrev calls : ℕ → List (Call C S)
    calls i = calls_at wire size node done i

    -- ONE COMMAND

    abbrev IsServed : NetworkCommand C S → NetworkReply C S → List (NodeView C S) → Type 0
    IsServed c r vs = IsNetworkServedAt wire size node done c r vs

    stands : (vs : List (NodeView C S)) → StandAfter wire size node done vs → (i : ℕ)
        (v : NodeView C S) → i < length vs →
        NodeStandsAt (node i) (calls i) (slice_index_or vs i v)
    stands vs at i v lt = stands_at wire size node done vs at i v lt

    asked_at : {E : Type 0} (i place : ℕ) (r : Result (Option (List ℕ)) E)
        (vs : List (NodeView C S)) → StandAfter wire size node done vs → i < length vs →
        ((v : NodeView C S) → IsAsked cmp wire place r (slice_index_or vs i v)) →
        IsAskedAt (node i) wire (calls i) place r
    asked_at i place r [] at lt asked = absurd (omega (arith, lt))
    asked_at i place r (v ∷ vs) at lt asked =
        asked v (made i) (calls i) (stands (v ∷ vs) at i v lt)

    served : (c : NetworkCommand C S) (r : NetworkReply C S) (vs vs2 : List (NodeView C S)) →
        StandAfter wire size node done vs → IsServedAmong cmp wire c r vs vs2 →
        IsNetworkServedAt wire size node done c r vs2
    served c reply.NoNode vs vs2 at h =
        subst (IsServed c reply.NoNode) (sym h.1)
        (answered_served wire size node done c reply.NoNode vs
        (none_more wire size node done vs at c (subst (λ n. are_there n c ≡ false) at.count h.0)))
    served (command.Call i x) (reply.Call r) vs vs2 at h =
        subst (IsServed (command.Call i x) (reply.Call r)) (sym h.others)
        (step_more wire size node done vs at i x r h.node h.there
        (h.stepped h.node (made i) (calls i) (stands vs at i h.node h.there)))
    served (command.Ask i place) (reply.Ask frame) vs vs2 at h =
        subst (IsServed (command.Ask i place) (reply.Ask frame)) (sym h.same)
        (answered_served wire size node done (command.Ask i place) (reply.Ask frame) vs
        (ask_more wire size node done vs at {E = Unit {0}} i place (Ok frame) h.there
        (asked_at {E = Unit {0}} i place (Ok frame) vs at h.there h.asked)))
    served (command.Ask i place) reply.OutOfMemory vs vs2 at h =
        subst (IsServed (command.Ask i place) reply.OutOfMemory)
        (sym h.same)
        (answered_served wire size node done (command.Ask i place) reply.OutOfMemory vs
        (ask_more wire size node done vs at {E = Unit {0}} i place (Err tt) h.there
        (asked_at {E = Unit {0}} i place (Err tt) vs at h.there h.asked)))
    served (command.Frame i frame now) (reply.Frame r) vs vs2 at h =
        subst (IsServed (command.Frame i frame now) (reply.Frame r)) (sym h.others)
        (answered_served wire size node done (command.Frame i frame now) (reply.Frame r) _
        (frame_more wire size node done vs at i frame now r h.node h.there
        (h.received h.node (made i) (calls i) (stands vs at i h.node h.there))))
    served (command.Exchange i j place s t) (reply.Exchange r) vs vs2 at h =
        subst (IsServed (command.Exchange i j place s t) (reply.Exchange r)) (sym h.others)
        (answered_served wire size node done (command.Exchange i j place s t) (reply.Exchange r) _
        (exchange_more wire size node done vs at i j place s t r h.node h.there h.other h.apart
        (h.exchanged h.node (made i) (calls i) (stands vs at i h.node h.there)
        (made j) (calls j) (stands vs at j h.node h.other))))
    served c r vs vs2 at h = absurd h

    -- one that was refused left all nodes at the same points

    no_call : (m : Made C S) (c : NetworkCommand C S) (before : List (Call C S)) →
        calls_then wire m c (reply.Call run_reply.OutOfMemory) before ≡ before
    no_call m (command.Call i x) before = refl
    no_call m _ before = refl

    same_calls : (c : NetworkCommand C S) (i : ℕ) →
        calls_at wire size node ((c, reply.Call run_reply.OutOfMemory) ∷ done) i ≡ calls i
    same_calls c i = go (changed_by c == i)
      where
        go : (b : Bool) →
            (if b then calls_then wire (node i) c (reply.Call run_reply.OutOfMemory) (calls i)
            else calls i) ≡ calls i
        go true = no_call (node i) c (calls i)
        go false = refl

    unmoved : (c : NetworkCommand C S) (r : NetworkReply C S) (vs : List (NodeView C S)) →
        is_refused r ≡ true → StandAfter wire size node ((c, r) ∷ done) vs →
        StandAfter wire size node done vs
    unmoved c (reply.Call run_reply.OutOfMemory) vs is at = record {
      count = at.count;
      each = λ i v lt. subst (λ cs. NodeStandsAt (node i) cs (slice_index_or vs i v))
          (same_calls c i) (at.each i v lt);
    }
    unmoved c _ vs is at = absurd (cc)

    -- one that wasn't was answered
    answered : (c : NetworkCommand C S) (r : NetworkReply C S) → not (is_refused r) ≡ true →
        IsNetworkAnswer wire size node done c r ⊎ LacksRoom wire size node c r →
        IsNetworkAnswer wire size node done c r
    answered c r kept (inl answer) = answer
    answered c r kept (inr lacks) =
        absurd (let e : not (is_refused r) ≡ false =
        ap (λ q. not (is_refused q)) lacks.refused in cc)

  -- ALL COMMANDS

  in_turn : (done : Done C S) (steps : Steps C S) (vs vs2 : List (NodeView C S)) →
      StandAfter wire size node done vs → AreServedInTurn cmp wire steps vs vs2 →
      AreNetworkAnswers wire size node done (commands_of (not_refused steps))
      (replies_of (not_refused steps))
      × StandAfter wire size node (done_after wire size node done
      (commands_of (not_refused steps)) (replies_of (not_refused steps))) vs2
  in_turn done [] vs vs2 at same = (tt, subst (StandAfter wire size node done) (sym same) at)
  in_turn done (x ∷ steps) vs vs2 at h =
      go (not (is_refused x.1)) refl (served done x.0 x.1 vs h.0 at h.1)
      (λ before stand. in_turn before steps h.0 vs2 stand h.2)
    where
      go : (b : Bool) → not (is_refused x.1) ≡ b →
          IsNetworkServedAt wire size node done x.0 x.1 h.0 →
          ((before : Done C S) → StandAfter wire size node before h.0 →
          AreNetworkAnswers wire size node before (commands_of (not_refused steps))
          (replies_of (not_refused steps))
          × StandAfter wire size node (done_after wire size node before
          (commands_of (not_refused steps)) (replies_of (not_refused steps))) vs2) →
          AreNetworkAnswers wire size node done
          (commands_of (cond b (x ∷ not_refused steps) (not_refused steps)))
          (replies_of (cond b (x ∷ not_refused steps) (not_refused steps)))
          × StandAfter wire size node (done_after wire size node done
          (commands_of (cond b (x ∷ not_refused steps) (not_refused steps)))
          (replies_of (cond b (x ∷ not_refused steps) (not_refused steps)))) vs2
      go true kept one rest =
          let later = rest ((x.0, x.1) ∷ done) one.stand in
          ((answered done x.0 x.1 kept one.answer, later.0), later.1)
      go false dropped one rest =
          rest done (unmoved done x.0 x.1 h.0 (was_refused (is_refused x.1) dropped) one.stand)

  pub is_run : (steps : Steps C S) (vs vs2 : List (NodeView C S)) →
      StandAfter wire size node [] vs → AreServedInTurn cmp wire steps vs vs2 →
      IsNetworkRun wire size node (not_refused steps) vs2
  is_run steps vs vs2 at h =
      let run = in_turn [] steps vs vs2 at h in record { answers = run.0; stand = run.1 }
