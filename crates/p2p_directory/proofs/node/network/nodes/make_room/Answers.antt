use Rattle.std.proofs.Common.{◌∙◌, subst, get_or, below_more}
use Rattle.std.proofs.lemmas.List.{get_or_default}
use Rattle.p2p_directory.specs.Private.Networks.{HasRoomFor}
use Rattle.p2p_directory.proofs.Nodes.Networks.{room_for_grows, same_again}
use Rattle.p2p_directory.proofs.node.network.nodes.make_room.Goals as goal

pub loop-command-preserved : goal.loop-command-preserved
loop-command-preserved g c =
    let es = c.loop-command.nodes in
    let es2 = c.make_one.new.nodes in
    let xs = c.args.commands.now in
    let i = c.loop-command.command-index in
    let same = c.make_one.ensures.same in
    record {
      room = λ k d lt. below_more (λ k. HasRoomFor g.C.Ord.cmp es2 (get_or xs k d)) i
          (λ k lt. room_for_grows g.C.Ord.cmp es es2 (get_or xs k d) same.count
          c.in_ok-make_one.ensures.slots (c.loop-command.invariant.room k d lt))
          (subst (HasRoomFor g.C.Ord.cmp es2) (c.command-item.is
          ∙ get_or_default xs i c.command-item.result d c.loop-command-test.true)
          c.in_ok-make_one.ensures.room) k lt;
      same = same_again _ es es2 c.loop-command.invariant.same same;
    }

pub returns-in_err-make_one-clause-same : goal.returns-in_err-make_one-clause-same
returns-in_err-make_one-clause-same g c = same_again _ c.loop-command.nodes _ c.loop-command.invariant.same
    c.make_one.ensures.same
