use Rattle.std.proofs.Common.{◌≡◌, true, ◌∙◌, subst, get_or, below_more}
use Rattle.std.proofs.lemmas.List.{get_or_default}
use Rattle.p2p_directory.specs.Private.Serving.{has_slot_for}
use Rattle.p2p_directory.proofs.Reservations.Replies.{room_grows}
use Rattle.p2p_directory.proofs.run.make_room.Goals as goal

pub loop-command-preserved : goal.loop-command-preserved
loop-command-preserved g c =
    let cmp = g.C.Ord.cmp in
    let slots = c.loop-command.slots in
    let slots2 = c.make_for.new.self in
    let xs = c.args.commands.now in
    let i = c.loop-command.command-index in
    let made = c.in_ok-make_for.ensures in
    record {
      room = λ k d lt. below_more (λ k. has_slot_for cmp slots2 (get_or xs k d) ≡ true) i
          (λ k lt. room_grows cmp slots slots2 (get_or xs k d) made.slots (c.loop-command.invariant.room k d lt))
          (subst (λ x. has_slot_for cmp slots2 x ≡ true) (c.command-item.is
          ∙ get_or_default xs i c.command-item.result d c.loop-command-test.true) made.room) k lt;
      held = λ q. c.make_for.ensures.held q ∙ c.loop-command.invariant.held q;
      ordered = λ are. c.make_for.ensures.ordered (c.loop-command.invariant.ordered are);
    }
