-- Any number of nodes: what one of them answers is what is replied to a command, and where all then
-- stand.
use Rattle.std.proofs.Common.{◌≡◌, ◌<◌, ◌≤◌, ◌^◌, ℕ, length, Bool, true, false, List, ◌∷◌, Option, Some, None, inl, inr, ◌++◌, ◌-◌}
use Rattle.std.proofs.Common.{Result, Ok, Err, refl, sym, ◌∙◌, ap, subst, arith}
use Rattle.std.specs.Prelude.{if◌then◌else◌, IfOk, IfSome, ◌==◌, not, ◌&&◌, slice_index_or}
use Rattle.std.specs.Prelude.{slice_set, nat_lt, OnOk, ◌⊎◌}
use Rattle.std.specs.Duration.{as_nanos}
use Rattle.std.specs.Option.{option_map_or}
use Rattle.std.specs.declared.cmp.Ordering.{Ordering}
use Rattle.std.specs.declared.time.Duration.{Duration}
use Rattle.std.proofs.lemmas.Bool.{eqb-true, eqb-false, lt-ltb, le-ltb}
use Rattle.std.proofs.lemmas.List.{get_or-set_same, get_or-set_other}
use Rattle.std.proofs.lemmas.List.{length-set, get_or_default, get_or_append_left}
use Rattle.std.proofs.lemmas.List.{get_or-append_right, set-append_left, set-append_right}
use Rattle.p2p_directory.specs.declared.node.received.Received.{Received}
use Rattle.p2p_directory.specs.declared.node.exchanged.Exchanged.{Exchanged}
use Rattle.p2p_directory.specs.declared.node.network.commands.NetworkCommand.{NetworkCommand}
use Rattle.p2p_directory.specs.declared.node.network.commands.NetworkCommand.TheVariants as command
use Rattle.p2p_directory.specs.declared.node.network.commands.NetworkReply.{NetworkReply}
use Rattle.p2p_directory.specs.declared.node.network.commands.NetworkReply.TheVariants as reply
use Rattle.p2p_directory.specs.declared.run.commands.Command.{Command}
use Rattle.p2p_directory.specs.declared.run.commands.Reply.{Reply}
use Rattle.p2p_tracker.specs.Calls.{Call}
use Rattle.p2p_directory.specs.Run.{call_of}
use Rattle.p2p_directory.specs.Received.{Wire, verdicts_of}
use Rattle.p2p_directory.specs.Nodes.{Made, NodeView, NodeStandsAt, IsReceivedAt, IsAskedAt, IsSteppedAt, IsStepAnswer}
use Rattle.p2p_directory.specs.Nodes.{IsSame, KeepsRoom, has_slot, named_peer}
use Rattle.p2p_directory.specs.Network.{Done, changed_by, calls_then, is_node, calls_at, are_there}
use Rattle.p2p_directory.specs.Network.{standing_at, StandAfter, IsNetworkAnswer, AreSame, KeepRoom}
use Rattle.p2p_directory.specs.Network as network
use Rattle.p2p_directory.specs.Laws.Network.{IsWritten}
use Rattle.p2p_directory.specs.Exchange.{Carries, Exchanges, IsExchangedAt}
use Rattle.p2p_directory.specs.Private.Networks.{reply_to_ask, has_room, HasRoomFor, GrowSlots}
use Rattle.p2p_directory.specs.Private.Networks.{KeepSlots, IsAnsweredAt, IsNodeServedAt, ExchangesAmong}
use Rattle.p2p_directory.specs.Private.Serving.{reserved_peer}
use Rattle.p2p_directory.proofs.Nodes.Among.{not_two}
use Rattle.p2p_directory.proofs.Nodes.Frames.{calls_after_frame, frame_may_want_memory}
use Rattle.p2p_directory.proofs.Nodes.Standing.{stands_same}

module _ {C S : Type 0} (wire : Wire C S) (size : ℕ) (node : ℕ → Made C S) (done : Done C S)
    (es : List (NodeView C S)) (at : StandAfter wire size node done es) where
  pub is_there : (i : ℕ) → i < length es → is_node wire size node i ≡ true
  is_there i lt = lt-ltb i size (subst (λ n. i < n) at.count lt)

  pub is_absent : (i : ℕ) → length es ≤ i → is_node wire size node i ≡ false
  is_absent i le = le-ltb i size (subst (λ n. n ≤ i) at.count le)

  -- one of the endpoints
  pub stands_at : (i : ℕ) (e : NodeView C S) → i < length es →
      NodeStandsAt (node i) (calls_at wire size node done i) (slice_index_or es i e)
  stands_at i e lt = at.each i e (subst (λ n. i < n) at.count lt)

  pub stands_there : (i : ℕ) (e : NodeView C S) → i < length es → e ≡ slice_index_or es i e →
      NodeStandsAt (node i) (calls_at wire size node done i) e
  stands_there i e lt is = subst
      (λ x. NodeStandsAt (node i) (calls_at wire size node done i) x) (sym is)
      (stands_at i e lt)

  -- ALL OF THEM, after one more command

  -- what each accepted
  calls_more : (c : NetworkCommand C S) (r : NetworkReply C S) (i : ℕ) (v : NodeView C S) →
      ((changed_by c == i) ≡ true → NodeStandsAt (node i)
      (calls_then wire (node i) c r (calls_at wire size node done i)) v) →
      ((changed_by c == i) ≡ false → NodeStandsAt (node i) (calls_at wire size node done i) v) →
      NodeStandsAt (node i) (calls_at wire size node ((c, r) ∷ done) i) v
  calls_more c r i v changed kept = go (changed_by c == i) refl
    where
      go : (b : Bool) → (changed_by c == i) ≡ b → NodeStandsAt (node i) (if b
          then calls_then wire (node i) c r (calls_at wire size node done i)
          else calls_at wire size node done i) v
      go true e = changed e
      go false e = kept e

  -- none changed
  same_more : (c : NetworkCommand C S) (r : NetworkReply C S) →
      ((i : ℕ) → calls_then wire (node i) c r (calls_at wire size node done i)
      ≡ calls_at wire size node done i) →
      StandAfter wire size node ((c, r) ∷ done) es
  same_more c r same = record {
    count = at.count;
    each = λ i v lt. calls_more c r i (slice_index_or es i v)
        (λ e. subst (λ calls. NodeStandsAt (node i) calls (slice_index_or es i v))
        (sym (same i)) (at.each i v lt))
        (λ e. at.each i v lt);
  }

  -- one changed
  pub set_more : (c : NetworkCommand C S) (r : NetworkReply C S) (e2 : NodeView C S) →
      changed_by c < length es → NodeStandsAt (node (changed_by c))
      (calls_then wire (node (changed_by c)) c r (calls_at wire size node done (changed_by c)))
      e2 →
      StandAfter wire size node ((c, r) ∷ done) (slice_set es (changed_by c) e2)
  set_more c r e2 lt one = record {
    count = length-set es (changed_by c) e2 ∙ at.count;
    each = λ i v in_size. let inside = subst (λ n. i < n) (sym at.count) in_size in
        calls_more c r i (slice_index_or (slice_set es (changed_by c) e2) i v)
        (λ e. let same = eqb-true (changed_by c) i e in
        subst (NodeStandsAt (node i) (calls_then wire (node i) c r (calls_at wire size node done i)))
        (sym (ap (λ j. slice_index_or (slice_set es (changed_by c) e2) j v) (sym same)
        ∙ get_or-set_same es (changed_by c) e2 v lt))
        (subst (λ j. NodeStandsAt (node j) (calls_then wire (node j) c r
        (calls_at wire size node done j)) e2) same one))
        (λ e. subst (NodeStandsAt (node i) (calls_at wire size node done i))
        (sym (get_or-set_other es (changed_by c) i e2 v
        (λ f. eqb-false (changed_by c) i e (sym f))))
        (at.each i v in_size));
  }

  -- WHAT IS REPLIED

  -- there is no such node
  pub none_more : (c : NetworkCommand C S) → are_there size c ≡ false →
      IsAnsweredAt wire size node done c reply.NoNode es
  none_more c none = record {
    answer = none;
    stand = same_more c reply.NoNode (λ i. same c (node i) (calls_at wire size node done i));
  }
    where
      same : (c : NetworkCommand C S) (m : Made C S) (calls : List (Call C S)) →
          calls_then wire m c reply.NoNode calls ≡ calls
      same (command.Call i x) m calls = refl
      same _ m calls = refl

  pub call_more : (i : ℕ) (x : Command C S) (r : Reply C S) (e2 : NodeView C S) →
      i < length es → IsNodeServedAt (node i) (calls_at wire size node done i) (call_of x) r
      e2 →
      IsAnsweredAt wire size node done (command.Call i x) (reply.Call r)
      (slice_set es i e2)
  call_more i x r e2 lt h = record {
    answer = (is_there i lt, h.answer);
    stand = set_more (command.Call i x) (reply.Call r) e2 lt h.left;
  }

  pub step_more : (i : ℕ) (x : Command C S) (r : Reply C S) (e2 : NodeView C S) →
      i < length es → IsSteppedAt (node i) (calls_at wire size node done i) (call_of x) r
      e2 →
      network.IsNetworkServedAt wire size node done (command.Call i x) (reply.Call r)
      (slice_set es i e2)
  step_more i x r e2 lt h = record {
    answer = go h.answer;
    stand = set_more (command.Call i x) (reply.Call r) e2 lt h.left;
  }
    where
      go : IsStepAnswer (node i) (calls_at wire size node done i) (call_of x) r →
          IsNetworkAnswer wire size node done (command.Call i x) (reply.Call r)
          ⊎ network.LacksRoom wire size node (command.Call i x) (reply.Call r)
      go (inl answer) = inl (is_there i lt, answer)
      go (inr lacks) = inr (record {
        i = i;
        x = x;
        called = refl;
        there = is_there i lt;
        reserves = lacks.0;
        refused = ap (λ q. reply.Call q) lacks.1;
      })

  pub ask_more : {E : Type 0} (i place : ℕ) (r : Result (Option (List ℕ)) E) → i < length es →
      IsAskedAt (node i) wire (calls_at wire size node done i) place r →
      IsAnsweredAt wire size node done (command.Ask i place) (reply_to_ask r) es
  ask_more i place (Ok frame) lt h = record {
    answer = (is_there i lt, h.frame);
    stand = same_more (command.Ask i place) (reply.Ask frame) (λ k. refl);
  }
  ask_more i place (Err e) lt h = record {
    answer = (is_there i lt, h.err);
    stand = same_more (command.Ask i place) reply.OutOfMemory (λ k. refl);
  }

  pub frame_more : (i : ℕ) (frame : List ℕ) (now : Duration) (r : Received C S)
      (e2 : NodeView C S) → i < length es →
      IsReceivedAt (node i) wire (calls_at wire size node done i) verdicts_of frame (as_nanos now) r
      e2 →
      IsAnsweredAt wire size node done (command.Frame i frame now) (reply.Frame r)
      (slice_set es i e2)
  frame_more i frame now r e2 lt h =
      let calls = calls_at wire size node done i in
      let at_i = standing_at wire size node done i in
      let same = calls_after_frame wire at_i (as_nanos now) calls frame
      (frame_may_want_memory wire at_i frame (as_nanos now)) r h.answer in
      record {
        answer = (is_there i lt, h.answer);
        stand = set_more (command.Frame i frame now) (reply.Frame r) e2 lt
            (subst (λ cs. NodeStandsAt (node i) cs e2) same h.left);
      }

  pub are_served : (asker replier : ℕ) → asker < length es → replier < length es →
      (asker ≡ replier → ⊥) → (is_node wire size node asker
      && (is_node wire size node replier && not (asker == replier))) ≡ true
  are_served asker replier asks replies apart = go (is_node wire size node asker)
      (is_node wire size node replier) (asker == replier) (is_there asker asks)
      (is_there replier replies) (λ e. apart (eqb-true asker replier e))
    where
      go : (a b c : Bool) → a ≡ true → b ≡ true → (c ≡ true → ⊥) → (a && (b && not c)) ≡ true
      go true true false p q r = refl
      go true true true p q r = absurd (r refl)
      go true false c p q r = absurd (cc)
      go false b c p q r = absurd (cc)

  pub not_served : (asker replier : ℕ) → (length es ≤ asker)
      ⊎ ((asker < length es × length es ≤ replier)
      ⊎ (asker < length es × replier < length es × asker ≡ replier)) →
      (is_node wire size node asker
      && (is_node wire size node replier && not (asker == replier))) ≡ false
  not_served asker replier none = subst (λ n. (nat_lt asker n && (nat_lt replier n
      && not (asker == replier))) ≡ false) at.count (not_two (length es) asker replier none)

  pub exchange_more : (asker replier place : ℕ) (now now2 : Duration) (r : Exchanged C S)
      (e2 : NodeView C S) → asker < length es → replier < length es →
      (asker ≡ replier → ⊥) →
      IsExchangedAt (node asker) (node replier) wire (calls_at wire size node done asker)
      (calls_at wire size node done replier) place (as_nanos now) (as_nanos now2) r e2 →
      IsAnsweredAt wire size node done (command.Exchange asker replier place now now2)
      (reply.Exchange r) (slice_set es asker e2)
  exchange_more asker replier place now now2 r e2 asks replies apart h = record {
    answer = (are_served asker replier asks replies apart, h.answer);
    stand = set_more (command.Exchange asker replier place now now2) (reply.Exchange r) e2 asks
        h.left;
  }

-- the answer at its point is one of the two
pub answered_served : {C S : Type 0} (wire : Wire C S) (size : ℕ) (node : ℕ → Made C S)
    (done : Done C S) (c : NetworkCommand C S) (r : NetworkReply C S) (vs : List (NodeView C S)) →
    IsAnsweredAt wire size node done c r vs → network.IsNetworkServedAt wire size node done c r vs
answered_served wire size node done c r vs h = record { answer = inl h.answer; stand = h.stand }

-- what is told of bits has a spelling
pub ask_written : {C S E : Type 0} (wire : Wire C S) (size : ℕ) (node : ℕ → Made C S)
    (IsKey : C → Type 0) (IsSignature : S → Type 0) (done : Done C S) (i place : ℕ)
    (r : Result (Option (List ℕ)) E) →
    IfOk r (λ _. IfSome ((standing_at wire size node done i).bits place)
    (λ v. (v.index < 2 ^ 64) × (length v.bits < 2 ^ 64))) →
    IsWritten wire size node IsKey IsSignature done (command.Ask i place) (reply_to_ask r)
ask_written wire size node IsKey IsSignature done i place (Ok frame) h = h
ask_written wire size node IsKey IsSignature done i place (Err e) h = tt

-- SLOTS

module _ {C S : Type 0} (cmp : C → C → Ordering) (es : List (NodeView C S)) (i : ℕ)
    (e2 d : NodeView C S) (lt : i < length es) where
  -- what holds of a node and the one in its place holds of each and itself
  at_each : (R : NodeView C S → NodeView C S → Type 0) →
      ((x : NodeView C S) → R x x) → R (slice_index_or es i d) e2 →
      (k : ℕ) (e : NodeView C S) →
      R (slice_index_or es k e) (slice_index_or (slice_set es i e2) k e)
  at_each R itself one k e = go (i == k) refl
    where
      go : (b : Bool) → (i == k) ≡ b →
          R (slice_index_or es k e) (slice_index_or (slice_set es i e2) k e)
      go true f = subst
          (λ j. R (slice_index_or es j e) (slice_index_or (slice_set es i e2) j e))
          (eqb-true i k f)
          (subst (λ x. R x (slice_index_or (slice_set es i e2) i e))
          (get_or_default es i d e lt)
          (subst (R (slice_index_or es i d)) (sym (get_or-set_same es i e2 e lt)) one))
      go false f = subst (R (slice_index_or es k e))
          (sym (get_or-set_other es i k e2 e (λ g. eqb-false i k f (sym g))))
          (itself (slice_index_or es k e))

  pub same_set : IsSame (slice_index_or es i d) e2 → AreSame es (slice_set es i e2)
  same_set same = record {
    count = length-set es i e2;
    each = at_each (λ x y. IsSame x y) (λ x. refl) same;
  }

  pub grow_slots : ((q : C) → has_slot cmp (slice_index_or es i d) q ≡ true → has_slot cmp e2 q ≡ true) →
      GrowSlots cmp es (slice_set es i e2)
  grow_slots more k e q inside = at_each
      (λ x y. (q : C) → has_slot cmp x q ≡ true → has_slot cmp y q ≡ true) (λ x q h. h) more k e q

  pub same_slots : ((q : C) → has_slot cmp e2 q ≡ has_slot cmp (slice_index_or es i d) q) →
      (k : ℕ) (e : NodeView C S) (q : C) →
      has_slot cmp (slice_index_or (slice_set es i e2) k e) q ≡ has_slot cmp (slice_index_or es k e) q
  same_slots = at_each (λ x y. (q : C) → has_slot cmp y q ≡ has_slot cmp x q) (λ x q. refl)

  -- a slot is left where something is held of the peer that is named, or else where there was one
  pub keep_room : (x : Command C S) → KeepsRoom cmp (named_peer x) (slice_index_or es i d) e2 →
      KeepRoom cmp (command.Call i x) es (slice_set es i e2)
  keep_room x one k e inside = go (i == k) refl
    where
      go : (b : Bool) → (i == k) ≡ b → KeepsRoom cmp (if b then named_peer x else None)
          (slice_index_or es k e) (slice_index_or (slice_set es i e2) k e)
      go true f = subst (λ j. KeepsRoom cmp (named_peer x)
          (slice_index_or es j e) (slice_index_or (slice_set es i e2) j e))
          (eqb-true i k f)
          (subst (λ x2. KeepsRoom cmp (named_peer x) x2 (slice_index_or (slice_set es i e2) i e))
          (get_or_default es i d e lt)
          (subst (KeepsRoom cmp (named_peer x) (slice_index_or es i d))
          (sym (get_or-set_same es i e2 e lt)) one))
      go false f = λ q. ap (λ (v : NodeView C S). has_slot cmp v q)
          (get_or-set_other es i k e2 e (λ g. eqb-false i k f (sym g)))

-- .. also if there is no such node
pub keep_room_of_none : {C S : Type 0} (cmp : C → C → Ordering) (es : List (NodeView C S)) (i : ℕ)
    (x : Command C S) → length es ≤ i → KeepRoom cmp (command.Call i x) es es
keep_room_of_none {C} {S} cmp es i x none k v inside = go (i == k) refl
  where
    go : (b : Bool) → (i == k) ≡ b → KeepsRoom cmp (if b then named_peer x else None)
        (slice_index_or es k v) (slice_index_or es k v)
    go true f = let same = eqb-true i k f in absurd (omega (arith, same, none, inside))
    go false f = λ q. refl

-- there is room for a command once there is room where it is for
pub room_in_place : {C S : Type 0} (cmp : C → C → Ordering) (es : List (NodeView C S)) (i : ℕ)
    (e2 : NodeView C S) (x : Command C S) → i < length es → has_room cmp e2 x ≡ true →
    HasRoomFor cmp (slice_set es i e2) (command.Call i x)
room_in_place {C} {S} cmp es i e2 x lt h e inside = subst (λ (y : NodeView C S).
    has_room cmp y x ≡ true) (sym (get_or-set_same es i e2 e lt)) h

-- there is room for a command where there are more slots
pub room_for_grows : {C S : Type 0} (cmp : C → C → Ordering) (es es2 : List (NodeView C S))
    (x : NetworkCommand C S) → length es2 ≡ length es → GrowSlots cmp es es2 → HasRoomFor cmp es x →
    HasRoomFor cmp es2 x
room_for_grows {C} {S} cmp es es2 (command.Call i x) same more h = λ e lt.
    let inside = subst (λ n. i < n) same lt in
    grown (slice_index_or es i e) (slice_index_or es2 i e) (reserved_peer x)
    (λ q. more i e q inside) (h e inside)
  where
    grown : (v v2 : NodeView C S) (o : Option C) →
        ((q : C) → has_slot cmp v q ≡ true → has_slot cmp v2 q ≡ true) →
        option_map_or (has_slot cmp v) o true ≡ true → option_map_or (has_slot cmp v2) o true ≡ true
    grown v v2 None more h = refl
    grown v v2 (Some q) more h = more q h
room_for_grows cmp es es2 _ same more h = tt

-- .. or just the same
pub room_for_stays : {C S : Type 0} (cmp : C → C → Ordering) (es es2 : List (NodeView C S))
    (x : NetworkCommand C S) → length es2 ≡ length es → KeepSlots cmp es es2 → HasRoomFor cmp es x →
    HasRoomFor cmp es2 x
room_for_stays cmp es es2 x same kept h =
    room_for_grows cmp es es2 x same (λ i e q lt is. kept i e q lt ∙ is) h

-- nodes that are the same but for slots are so one after the other, and stand where they stood
pub same_again : {C S : Type 0} (vs vs2 vs3 : List (NodeView C S)) → AreSame vs vs2 →
    AreSame vs2 vs3 → AreSame vs vs3
same_again {C} {S} vs vs2 vs3 one two = record {
  count = two.count ∙ one.count;
  each = λ k v. two.each k v ∙ ap (λ (x : NodeView C S). record x { slots = (slice_index_or vs3 k v).slots })
      (one.each k v);
}

pub same_stand : {C S : Type 0} (wire : Wire C S) (size : ℕ) (node : ℕ → Made C S) (done : Done C S)
    {vs vs2 : List (NodeView C S)} → AreSame vs vs2 → StandAfter wire size node done vs →
    StandAfter wire size node done vs2
same_stand wire size node done same at = record {
  count = same.count ∙ at.count;
  each = λ i v lt. stands_same (node i) (calls_at wire size node done i) _ _ (same.each i v)
      (at.each i v lt);
}

-- where it went well
pub on_ok : {A E P Q : Type 0} (r : Result A E) → OnOk r P → (P → Q) → OnOk r Q
on_ok (Ok x) h f = f h
on_ok (Err e) h f = tt

-- AN EXCHANGE of two among all

pub exchanged_among : {C S : Type 0} (cmp : C → C → Ordering) (wire : Wire C S)
    (asker replier place s t : ℕ) (r : Exchanged C S) (es es2 : List (NodeView C S))
    (a b left : NodeView C S) → es2 ≡ slice_set es asker left →
    ((e : NodeView C S) → a ≡ slice_index_or es asker e) →
    ((e : NodeView C S) → b ≡ slice_index_or es replier e) →
    Exchanges cmp wire place s t r a b left →
    Carries cmp wire place s t r a b left → left.slots ≡ a.slots →
    ExchangesAmong cmp wire asker replier place s t r es es2
exchanged_among {C} {S} cmp wire asker replier place s t r es es2 a b left rest of_a of_b seen
    carried same =
    record {
      left = left;
      rest = rest;
      seen = λ e. subst (λ (x : NodeView C S × NodeView C S).
          Exchanges cmp wire place s t r x.0 x.1 left)
          (λ i. (of_a e i, of_b e i)) seen;
      carried = λ e. subst (λ (x : NodeView C S × NodeView C S).
          Carries cmp wire place s t r x.0 x.1 left)
          (λ i. (of_a e i, of_b e i)) carried;
      slots = λ e. same ∙ ap (λ (x : NodeView C S). x.slots) (of_a e);
    }

-- TWO PARTS of a list, of which one is changed

module _ {A : Type 0} (all front back : List A) (whole : all ≡ front ++ back) where
  pub set_in_front : (i : ℕ) (x : A) → i < length front →
      slice_set front i x ++ back ≡ slice_set all i x
  set_in_front i x lt =
      sym (ap (λ ys. slice_set ys i x) whole ∙ set-append_left front back i x lt)

  pub set_in_back : (i : ℕ) (x : A) → length front ≡ i →
      front ++ slice_set back 0 x ≡ slice_set all i x
  set_in_back i x at = sym (ap (λ ys. slice_set ys i x) whole
      ∙ set-append_right front back i i x at (omega arith)
      ∙ ap (λ n. front ++ slice_set back n x) (let none : i - i ≡ 0 = omega arith in none))

  -- an element of either part
  pub of_front : (i : ℕ) (x d : A) → i < length front →
      slice_index_or front i x ≡ slice_index_or all i d
  of_front i x d lt = get_or_default front i x d lt
      ∙ sym (get_or_append_left front back d i lt) ∙ ap (λ ys. slice_index_or ys i d) (sym whole)

  pub first_of_back : (i : ℕ) (x d : A) → length front ≡ i → 0 < length back →
      slice_index_or back 0 x ≡ slice_index_or all i d
  first_of_back i x d at some = get_or_default back 0 x d some
      ∙ ap (λ n. slice_index_or back n d) (let none : 0 ≡ i - i = omega arith in none)
      ∙ sym (get_or-append_right front back i i d at (omega arith))
      ∙ ap (λ ys. slice_index_or ys i d) (sym whole)
