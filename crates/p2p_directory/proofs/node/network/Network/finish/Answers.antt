use Rattle.std.proofs.Common.{[], ◌∷◌, ◌++◌, refl, sym, ◌∙◌, ap, subst, length, arith}
use Rattle.std.proofs.lemmas.List.{length_push}
use Rattle.p2p_directory.specs.Network.{AreReleased}
use Rattle.p2p_directory.proofs.Nodes.NetworkRuns.{both_push, IsReleased, are_released}
use Rattle.p2p_tracker.proofs.SetsAndRecords.Moved.{item_left, item_moved, all_moved}
use Rattle.p2p_directory.proofs.node.network.Network.finish.Goals as goal

pub loop-node-init : goal.loop-node-init
loop-node-init g c = record {
  taken = [];
  rest = refl;
  count = ap length c.self.invariant.0;
  released = λ k a b lt. absurd (omega (arith, lt));
  room = omega (arith, c.self.invariant.1, ap length c.into_iter-left.ensures.rest);
}

pub push_reserved-requires : goal.push_reserved-requires
push_reserved-requires g c =
    let kept = c.loop-node.invariant in
    let more = item_left kept.taken c.loop-node.left.rest.items c.next.new.self.rest.items
    c.into_iter-left.result.rest.items c.in-Some.node kept.rest c.in-Some.ensures.items in
    omega (arith, more, c.loop-node.directories.ok, kept.count, kept.room)

pub loop-node-preserved : goal.loop-node-preserved
loop-node-preserved g c =
    let kept = c.loop-node.invariant in
    let end = c.in-Some.node in
    let pushed = c.push_reserved.ensures in
    record {
      taken = kept.taken ++ end ∷ [];
      rest = item_moved kept.taken c.loop-node.left.rest.items c.next.new.self.rest.items
          c.into_iter-left.result.rest.items end kept.rest c.in-Some.ensures.items;
      count = ap length pushed.items ∙ omega (
        arith,
        kept.count,
        length_push c.loop-node.directories.items c.finish.result,
        length_push kept.taken end,
      );
      released = rw pushed.items (both_push (IsReleased g.C.Ord.cmp) kept.taken
          c.loop-node.directories.items end c.finish.result kept.count kept.released
          c.finish.ensures);
      room = omega (arith, kept.room, pushed.capacity);
    }

pub returns : goal.returns
returns g c =
    let kept = c.loop-node.invariant in
    let rest = c.loop-node.left.rest in
    let all = all_moved kept.taken rest.items c.into_iter-left.result.rest.items kept.rest
    (sym rest.ok.0 ∙ c.in_default.ensures.cases.0) ∙ c.into_iter-left.ensures.rest in
    rw (← c.self.view_is) (subst (λ es. AreReleased g.C.Ord.cmp es c.loop-node.directories.items)
    all (are_released g.C.Ord.cmp kept.taken c.loop-node.directories.items kept.count
    kept.released))
