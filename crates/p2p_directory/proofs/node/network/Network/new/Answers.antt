use Rattle.std.proofs.Common.{◌≡◌, length, sym, ◌∙◌, ap, subst, arith}
use Rattle.std.proofs.lemmas.List.{length_push, length-append}
use Rattle.std.specs.List.{All}
use Rattle.p2p_discovery.specs.Info.{IsInfo, IsKeyed}
use Rattle.p2p_directory.proofs.Nodes.NetworkRuns.{OfBoth, both_push, all_push, IsNew, stand_at_start}
use Rattle.p2p_directory.proofs.Nodes.ReadBack.{wire_in}
use Rattle.p2p_tracker.proofs.SetsAndRecords.Moved.{item_left, item_moved, all_moved}
use Rattle.p2p_directory.proofs.node.network.Network.new.Goals as goal

pub loop-setup-init : goal.loop-setup-init
loop-setup-init g c = record {
  rest = c.into_iter-setup-iterator.ensures.into_iter_gives.0;
  count = ap length c.in_ok-nodes.ensures.items;
  room_for_nodes = omega (arith, c.in_ok-nodes.ensures.exact, c.len-2.ensures);
  stand = λ k a b lt. absurd (omega (arith, lt));
  own = λ k d lt. absurd (omega (arith, lt));
}

pub push_reserved-requires : goal.push_reserved-requires
push_reserved-requires g c =
    let kept = c.loop-setup.invariant in
    let more = item_left c.loop-setup.yielded c.loop-setup.setup-iterator.rest.items
    c.next.new.self.rest.items c.args.setups.items c.in-Some.setup kept.rest
    c.in-Some.ensures.steps.0 in
    omega (arith, more, c.loop-setup.nodes.ok, kept.count, kept.room_for_nodes)

pub loop-setup-preserved : goal.loop-setup-preserved
loop-setup-preserved g c =
    let kept = c.loop-setup.invariant in
    let xs = c.loop-setup.yielded in
    let x = c.in-Some.setup in
    let es = c.loop-setup.nodes.items in
    let e = c.in-Ok.node in
    let pushed = c.push_reserved.ensures in
    record {
      rest = item_moved xs c.loop-setup.setup-iterator.rest.items c.next.new.self.rest.items
          c.args.setups.items x kept.rest c.in-Some.ensures.steps.0;
      count = ap length pushed.items ∙ omega (arith, length_push es e, length_push xs x, kept.count);
      room_for_nodes = pushed.capacity ∙ kept.room_for_nodes;
      stand = rw pushed.items (both_push (IsNew g.C.Ord.cmp) xs es x e kept.count kept.stand
          c.in-Ok.ensures.stands);
      own = all_push (λ s. IsInfo s.myself × IsKeyed g.C.FixedBytes.IsValue
          g.C.Signature.FixedBytes.IsValue s.myself) xs x kept.own c.in-Ok.ensures.own;
    }

pub invariant_of-finish : goal.invariant_of-finish
invariant_of-finish g c =
    let kept = c.loop-setup.invariant in (
      c.in_ok-room.ensures.items,
      omega (
        arith,
        kept.count,
        ap length kept.rest,
        length-append c.loop-setup.yielded c.loop-setup.setup-iterator.rest.items,
        c.in_ok-room.ensures.exact,
        c.len.ensures,
      ),
    )

pub invariant_of-result : goal.invariant_of-result
invariant_of-result g c =
    let kept = c.loop-setup.invariant in (
      c.in_ok-room.ensures.items,
      omega (
        arith,
        kept.count,
        ap length kept.rest,
        length-append c.loop-setup.yielded c.loop-setup.setup-iterator.rest.items,
        c.in_ok-room.ensures.exact,
        c.len.ensures,
      ),
    )

all_taken : (g : _) (c : goal.After-drop-setup-iterator-2 g) →
    c.loop-setup.yielded ≡ c.args.setups.items
all_taken g c =
    let rest = c.loop-setup.setup-iterator.rest in
    all_moved c.loop-setup.yielded rest.items c.args.setups.items c.loop-setup.invariant.rest
    (sym rest.ok.0 ∙ c.in-None.ensures.steps.0)

pub returns-clause-stand : goal.returns-clause-stand
returns-clause-stand g c = λ other.
    let kept = c.loop-setup.invariant in
    let es = c.loop-setup.nodes.items in
    stand_at_start g.C.Ord.cmp
    (wire_in g.C.PublicKey.verifies g.C.FixedBytes g.C.Signature.FixedBytes)
    c.args.setups.items es other (kept.count ∙ ap length (all_taken g c))
    (subst (λ xs. OfBoth (IsNew g.C.Ord.cmp) xs es) (all_taken g c) kept.stand)

pub returns-clause-own : goal.returns-clause-own
returns-clause-own g c = subst (All (λ s. IsInfo s.myself × IsKeyed g.C.FixedBytes.IsValue
    g.C.Signature.FixedBytes.IsValue s.myself)) (all_taken g c) c.loop-setup.invariant.own
