use Rattle.std.proofs.Common.{◌≡◌, List, [], ◌∷◌, ◌++◌, false, length, Result, sym, ap, subst, ◌∙◌}
use Rattle.std.proofs.Common.{refl, ℕ, ◌≤◌, take, drop, arith}
use Rattle.std.proofs.lemmas.List.{length-take, length_push, with_items_is}
use Rattle.std.specs.Prelude.{OnOk, slice_index_or}
use Rattle.std.specs.List.{All}
use Rattle.std.specs.Result.{is_err}
use Rattle.p2p_directory.specs.Network.{AreNetworkAnswers, StandAfter, done_after, node_made}
use Rattle.p2p_directory.specs.Private.Networks.{HasRoomFor, KeepSlots}
use Rattle.p2p_directory.proofs.Nodes.NetworkRuns.{one_more, reply_push}
use Rattle.p2p_directory.proofs.Nodes.Networks.{room_for_stays, same_stand}
use Rattle.p2p_tracker.proofs.SetsAndRecords.Moved.{item_left, item_moved, item_has, all_moved}
use Rattle.std.specs.declared.cmp.Ordering.{Ordering}
use Rattle.std.proofs.lemmas.Bool.{ltb-true}
use Rattle.p2p_directory.specs.declared.node.setup.Setup.{Setup}
use Rattle.p2p_directory.specs.Received.{Wire}
use Rattle.p2p_directory.specs.Laws.Network as networks
use Rattle.p2p_directory.specs.Laws.Network.{AreMade}
use Rattle.p2p_directory.proofs.LawsOfNetworks.Laws
use Rattle.p2p_directory.proofs.Nodes.ReadBack.{wire_in}
use Rattle.p2p_directory.proofs.node.network.run_network.Goals as goal

went_well : {T E P : Type 0} (r : Result T E) → is_err r ≡ false → OnOk r P → P
went_well (Result.Ok v) e h = h
went_well (Result.Err v) e h = absurd (cc)

pub loop-command-init : goal.loop-command-init
loop-command-init g c =
    let wire = wire_in g.C.PublicKey.verifies g.C.FixedBytes g.C.Signature.FixedBytes in
    let same = with_items_is c.nodes.inside.nodes c.make_room.new.nodes
    (omega (arith, c.make_room.auto.nodes, c.deref_mut.ensures.len)) in
    record {
      rest = c.into_iter-command-iterator.ensures.into_iter_gives.0;
      answers = λ other. rw c.in_ok-replies.ensures.items tt;
      written = λ other. tt;
      carried = λ other. tt;
      stand = λ other. let size = length c.args.setups.items in
          let node = node_made g.C.Ord.cmp other c.args.setups.items in
          subst (StandAfter wire size node []) (sym same)
          (same_stand wire size node [] c.make_room.ensures.same
          (subst (StandAfter wire size node []) (sym c.nodes.view_is ∙ sym c.deref_mut.ensures.value)
          (c.in_ok-nodes.ensures.stand other)));
      replies = rw c.in_ok-replies.ensures.items refl;
      room_for_replies = omega (arith, c.in_ok-replies.ensures.exact, c.len.ensures);
      slots = subst (λ es. All (HasRoomFor g.C.Ord.cmp es) c.args.commands.items) (sym same)
          (subst (All (HasRoomFor g.C.Ord.cmp c.make_room.new.nodes)) c.deref.ensures.value
          (went_well c.make_room.result (sym c.is_err.ensures.value ∙ c.if-is_err.false)
          c.make_room.ensures.room));
      count = refl;
    }

pub serve-requires : goal.serve-requires
serve-requires g c = record {
  room = rw c.deref_mut-in-loop-command.ensures.value
      (item_has (HasRoomFor g.C.Ord.cmp c.loop-command.nodes.items) c.loop-command.yielded
      c.loop-command.command-iterator.rest.items c.next.new.self.rest.items c.args.commands.items
      c.in-Some.command c.loop-command.invariant.rest c.in-Some.ensures.steps.0
      c.loop-command.invariant.slots);
}

pub push_reserved-requires : goal.push_reserved-requires
push_reserved-requires g c =
    let kept = c.loop-command.invariant in
    let more = item_left c.loop-command.yielded c.loop-command.command-iterator.rest.items
    c.next.new.self.rest.items c.args.commands.items c.in-Some.command kept.rest
    c.in-Some.ensures.steps.0 in
    omega (arith, more, c.loop-command.replies.ok, kept.replies, kept.room_for_replies)

pub loop-command-preserved : goal.loop-command-preserved
loop-command-preserved g c =
    let wire = wire_in g.C.PublicKey.verifies g.C.FixedBytes g.C.Signature.FixedBytes in
    let kept = c.loop-command.invariant in
    let xs = c.loop-command.yielded in
    let x = c.in-Some.command in
    let rs = c.loop-command.replies.items in
    let r = c.serve.result in
    let setups = c.args.setups.items in
    let pushed = c.push_reserved.ensures in
    let value = c.deref_mut-in-loop-command.ensures.value in
    let es = c.loop-command.nodes.items in
    let es2 = c.serve.new.nodes in
    let same = with_items_is c.loop-command.nodes es2 (omega (
      arith,
      c.serve.auto.nodes,
      c.deref_mut-in-loop-command.ensures.len,
    )) in
    let inside : length es2 ≡ length es = omega (arith, c.serve.auto.nodes, ap length value) in
    record {
      rest = item_moved xs c.loop-command.command-iterator.rest.items c.next.new.self.rest.items
          c.args.commands.items x kept.rest c.in-Some.ensures.steps.0;
      answers = λ other. let size = length setups in
          let node = node_made g.C.Ord.cmp other setups in
          rw pushed.items (one_more wire size node xs rs x r es2 (kept.answers other)
          (c.serve.ensures.answered setups (done_after wire size node [] xs rs) other
          (rw value (kept.stand other)))).0;
      written = λ other. let size = length setups in
          let node = node_made g.C.Ord.cmp other setups in
          rw pushed.items (reply_push wire size node (networks.IsWritten wire size node g.C.FixedBytes.IsValue
          g.C.Signature.FixedBytes.IsValue) [] xs rs x r (kept.answers other) (kept.written other)
          (c.serve.ensures.written setups (done_after wire size node [] xs rs) other
          (rw value (kept.stand other))));
      carried = λ other. let size = length setups in
          let node = node_made g.C.Ord.cmp other setups in
          rw pushed.items (reply_push wire size node (networks.CarriesExchange wire size node)
          [] xs rs x r (kept.answers other) (kept.carried other)
          (c.serve.ensures.carried setups (done_after wire size node [] xs rs) other
          (rw value (kept.stand other))));
      stand = λ other. let size = length setups in
          let node = node_made g.C.Ord.cmp other setups in
          subst (λ es. StandAfter wire size node
          (done_after wire size node [] (xs ++ x ∷ []) c.push_reserved.new.self.items) es)
          (sym same)
          (rw pushed.items (one_more wire size node xs rs x r es2 (kept.answers other)
          (c.serve.ensures.answered setups (done_after wire size node [] xs rs) other
          (rw value (kept.stand other)))).1);
      replies = ap length pushed.items
          ∙ omega (arith, length_push rs r, length_push xs x, kept.replies);
      room_for_replies = pushed.capacity ∙ kept.room_for_replies;
      slots = subst (λ es. All (HasRoomFor g.C.Ord.cmp es) c.args.commands.items) (sym same)
          (λ k d lt. room_for_stays g.C.Ord.cmp es es2 (slice_index_or c.args.commands.items k d)
          inside (subst (λ es. KeepSlots g.C.Ord.cmp es es2) value c.serve.ensures.slots)
          (kept.slots k d lt));
      count = ap length same ∙ inside ∙ kept.count;
    }

pub invariant_of-result : goal.invariant_of-result
invariant_of-result g c =
    let same = with_items_is c.nodes.inside.nodes c.make_room.new.nodes
    (omega (arith, c.make_room.auto.nodes, c.deref_mut.ensures.len)) in (
      c.nodes.invariant.0,
      omega (
        arith,
        c.nodes.invariant.1,
        c.loop-command.invariant.count,
        ap length same,
        c.make_room.auto.nodes,
        ap length c.deref_mut.ensures.value,
      ),
    )

all_taken : (g : _) (c : goal.After-drop-command-iterator g) →
    c.loop-command.yielded ≡ c.args.commands.items
all_taken g c =
    let rest = c.loop-command.command-iterator.rest in
    all_moved c.loop-command.yielded rest.items c.args.commands.items
    c.loop-command.invariant.rest (sym rest.ok.0 ∙ c.in-None.ensures.steps.0)

pub returns-clause-answers : goal.returns-clause-answers
returns-clause-answers g c = λ other.
    let wire = wire_in g.C.PublicKey.verifies g.C.FixedBytes g.C.Signature.FixedBytes in
    subst (λ xs. AreNetworkAnswers wire (length c.args.setups.items)
    (node_made g.C.Ord.cmp other c.args.setups.items) [] xs c.loop-command.replies.items)
    (all_taken g c) (c.loop-command.invariant.answers other)

pub returns-clause-stand : goal.returns-clause-stand
returns-clause-stand g c = λ other.
    let wire = wire_in g.C.PublicKey.verifies g.C.FixedBytes g.C.Signature.FixedBytes in
    let size = length c.args.setups.items in
    let node = node_made g.C.Ord.cmp other c.args.setups.items in
    subst (λ xs. StandAfter wire size node
    (done_after wire size node [] xs c.loop-command.replies.items)
    c.loop-command.nodes.items) (all_taken g c) (c.loop-command.invariant.stand other)

-- WHAT THE REPLIES SAY OF EACH OTHER

are_made : {C S : Type 0} (wire : Wire C S) (cmp : C → C → Ordering) (other : Setup C S)
    (setups : List (Setup C S)) →
    AreMade wire (length setups) (node_made cmp other setups) cmp
are_made wire cmp other setups = λ i is. record {
  order = refl;
  me = refl;
  sets = (slice_index_or setups i other).cfg.max_sets.ok;
}

pub returns-clause-at_each_point : goal.returns-clause-at_each_point
returns-clause-at_each_point g c = λ other.
    let wire = wire_in g.C.PublicKey.verifies g.C.FixedBytes g.C.Signature.FixedBytes in
    let setups = c.args.setups.items in
    Laws.at_each_point wire (length setups) (node_made g.C.Ord.cmp other setups) g.C.Ord.cmp
    (are_made wire g.C.Ord.cmp other setups) g.met.C.PublicKey.exact g.met.C.Ord.total
    c.args.commands.items c.loop-command.replies.items (returns-clause-answers g c other)

pub returns-clause-of_each_reply : goal.returns-clause-of_each_reply
returns-clause-of_each_reply g c = λ other.
    let wire = wire_in g.C.PublicKey.verifies g.C.FixedBytes g.C.Signature.FixedBytes in
    let setups = c.args.setups.items in
    let size = length setups in
    let node = node_made g.C.Ord.cmp other setups in
    let rs = c.loop-command.replies.items in
    Laws.of_each_reply g.met.C.FixedBytes.fixed g.met.C.Signature.FixedBytes.fixed
    g.C.PublicKey.verifies size node g.C.Ord.cmp g.met.C.Ord.total g.met.C.PublicKey.exact
    (are_made wire g.C.Ord.cmp other setups)
    (λ i there. c.requires.bits i other (ltb-true i size there))
    (λ i there. (c.in_ok-nodes.ensures.own i other (ltb-true i size there)).0)
    (λ i there. (c.in_ok-nodes.ensures.own i other (ltb-true i size there)).1)
    c.args.commands.items rs (returns-clause-answers g c other)
    (subst (λ xs. networks.OfEachReply wire size node (networks.CarriesExchange wire size node)
    [] xs rs) (all_taken g c) (c.loop-command.invariant.carried other))
    (subst (λ xs. networks.AreWritten wire size node g.C.FixedBytes.IsValue
    g.C.Signature.FixedBytes.IsValue [] xs rs) (all_taken g c)
    (c.loop-command.invariant.written other))

-- what is written back over all of a list has no more
room_left : {A : Type 0} (len cap : ℕ) (new old : List A) → len ≡ length old → length old ≤ cap →
    length (take len (new ++ drop (length new) old)) ≤ cap
room_left len cap new old is room = omega (arith, length-take len (new ++ drop (length new) old), is, room)

pub invariant_of-finish : goal.invariant_of-finish
invariant_of-finish g c = (
  c.nodes.invariant.0,
  room_left c.nodes.inside.nodes.len _ c.make_room.new.nodes
      c.nodes.inside.nodes.items c.nodes.inside.nodes.ok.0 c.nodes.invariant.1,
)
