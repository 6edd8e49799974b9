use Rattle.std.proofs.Common.{◌≡◌, ◌<◌, ◌^◌, [], true, length, sym, ap, subst, ◌∙◌, refl, arith}
use Rattle.std.specs.Prelude.{is_some}
use Rattle.std.proofs.lemmas.List.{length_push}
use Rattle.p2p_directory.specs.Refinement.{Refines}
use Rattle.p2p_directory.specs.Run.{settings, calls_of, world_after, accepted, AreAnswers, Holds}
use Rattle.p2p_directory.specs.Private.Serving.{has_slot_for}
use Rattle.p2p_directory.specs.Private.Slots.{held_in}
use Rattle.p2p_directory.proofs.Definitions.Keys.{exact_from}
use Rattle.p2p_directory.proofs.LawsOfRuns.Laws.{laws_of_run}
use Rattle.p2p_directory.proofs.Reservations.Served.{are_held, stands_at_start}
use Rattle.p2p_tracker.proofs.SetsAndRecords.Moved.{item_left, item_moved, item_has, all_moved}
use Rattle.p2p_directory.proofs.Reservations.Replies.{one_more, room_stays}
use Rattle.p2p_directory.proofs.run.run.Goals as goal

pub new-server-requires : goal.new-server-requires
new-server-requires g c =
    let s = settings g.C.Ord.cmp c.args.bootstrappers.items c.args.myself c.args.cfg in
    let at = stands_at_start s (record { directory = c.in-Ok.directory; slots = c.in_ok-slots.slots })
    (omega (arith, c.well_formed)) c.in-Ok.ensures.config c.in-Ok.ensures.sets c.in-Ok.ensures.blocks
    c.in-Ok.ensures.cooldowns c.in-Ok.ensures.records c.in_ok-slots.ensures.empty in
    record {
      held = are_held s (world_after s []) c.in-Ok.directory (held_in g.C.Ord.cmp c.in_ok-slots.slots) at.refines at.holds;
      ordered = c.in_ok-slots.ensures.ordered;
    }

-- the limit is a `usize`
fits : (g : _) (c : goal.After-into_iter-command-iterator g) → c.args.cfg.dial_fail_limit < 2 ^ 64
fits g c = omega (arith, c.well_formed)

pub loop-command-init : goal.loop-command-init
loop-command-init g c =
    let s = settings g.C.Ord.cmp c.args.bootstrappers.items c.args.myself c.args.cfg in
    record {
      rest = c.into_iter-command-iterator.ensures.into_iter_gives.0;
      answers = rw c.in_ok-replies.ensures.items tt;
      left =
          rw c.new-server.ensures
          (stands_at_start s (record { directory = c.in-Ok.directory; slots = c.in_ok-slots.slots }) (fits g c)
          c.in-Ok.ensures.config c.in-Ok.ensures.sets c.in-Ok.ensures.blocks c.in-Ok.ensures.cooldowns
          c.in-Ok.ensures.records c.in_ok-slots.ensures.empty);
      replies = rw c.in_ok-replies.ensures.items refl;
      room_for_replies = omega (arith, c.in_ok-replies.ensures.exact, c.len.ensures);
      slots = rw (c.new-server.ensures, ← c.deref.ensures.value) c.in_ok-slots.ensures.room;
    }

pub serve-requires : goal.serve-requires
serve-requires g c = record {
  room =
      item_has (λ x. has_slot_for g.C.Ord.cmp c.loop-command.server.slots x ≡ true) c.loop-command.yielded
      c.loop-command.command-iterator.rest.items c.next.new.self.rest.items c.args.commands.items
      c.in-Some.command
      c.loop-command.invariant.rest c.in-Some.ensures.steps.0 c.loop-command.invariant.slots;
}

pub push_reserved-requires : goal.push_reserved-requires
push_reserved-requires g c =
    let more = item_left c.loop-command.yielded c.loop-command.command-iterator.rest.items
    c.next.new.self.rest.items c.args.commands.items c.in-Some.command c.loop-command.invariant.rest
    c.in-Some.ensures.steps.0 in
    omega (arith, more, c.loop-command.replies.ok, c.loop-command.invariant.replies, c.loop-command.invariant.room_for_replies)

pub loop-command-preserved : goal.loop-command-preserved
loop-command-preserved g c =
    let s = settings g.C.Ord.cmp c.args.bootstrappers.items c.args.myself c.args.cfg in
    let kept = c.loop-command.invariant in
    let xs = c.loop-command.yielded in
    let x = c.in-Some.command in
    let rs = c.loop-command.replies.items in
    let r = c.serve.result in
    let served = c.serve.ensures.served c.args.bootstrappers.items c.args.myself c.args.cfg (accepted s [] (calls_of xs) rs) kept.left in
    let done = one_more s xs rs x r c.serve.new.self kept.answers served in
    record {
      rest = item_moved xs c.loop-command.command-iterator.rest.items c.next.new.self.rest.items c.args.commands.items x kept.rest c.in-Some.ensures.steps.0;
      answers = rw c.push_reserved.ensures.items done.0;
      left = rw c.push_reserved.ensures.items done.1;
      replies = ap length c.push_reserved.ensures.items ∙ omega (arith, length_push rs r, length_push xs x, kept.replies);
      room_for_replies = c.push_reserved.ensures.capacity ∙ kept.room_for_replies;
      slots = λ k d lt. room_stays g.C.Ord.cmp c.loop-command.server.slots c.serve.new.self.slots _ c.serve.ensures.slots (kept.slots k d lt);
    }

all_taken : (g : _) (c : goal.After-into_run g) →
    c.loop-command.yielded ≡ c.args.commands.items
all_taken g c =
    let rest = c.loop-command.command-iterator.rest in
    all_moved c.loop-command.yielded rest.items c.args.commands.items
    c.loop-command.invariant.rest (sym rest.ok.0 ∙ c.in-None.ensures.steps.0)

pub returns-clause-answers : goal.returns-clause-answers
returns-clause-answers g c =
    let s = settings g.C.Ord.cmp c.args.bootstrappers.items c.args.myself c.args.cfg in
    rw c.into_run.ensures.replies (subst (λ xs. AreAnswers s [] (calls_of xs) c.loop-command.replies.items)
    (all_taken g c) c.loop-command.invariant.answers)

pub returns-clause-directory : goal.returns-clause-directory
returns-clause-directory g c =
    let s = settings g.C.Ord.cmp c.args.bootstrappers.items c.args.myself c.args.cfg in
    let kept = c.loop-command.invariant in
    rw (c.into_run.ensures.replies, c.into_run.ensures.directory)
    (subst (λ xs. Refines s (world_after s (accepted s [] (calls_of xs) c.loop-command.replies.items)) c.loop-command.server.directory) (all_taken g c) kept.left.refines)

pub returns-clause-held : goal.returns-clause-held
returns-clause-held g c =
    let s = settings g.C.Ord.cmp c.args.bootstrappers.items c.args.myself c.args.cfg in
    let kept = c.loop-command.invariant in
    let holds = subst
    (λ xs. Holds s (world_after s (accepted s [] (calls_of xs) c.loop-command.replies.items))
    (held_in g.C.Ord.cmp c.loop-command.server.slots)) (all_taken g c) kept.left.holds in
    let held = c.into_run.ensures.held in
    rw c.into_run.ensures.replies (record { peers = λ q. ap is_some (held q) ∙ holds.peers q; metadata = λ q. held q ∙ holds.metadata q })

pub returns-clause-laws : goal.returns-clause-laws
returns-clause-laws g c =
    let s = settings g.C.Ord.cmp c.args.bootstrappers.items c.args.myself c.args.cfg in
    laws_of_run s (exact_from s g.C.Ord.cmp refl g.met.C.PublicKey.exact)
    (calls_of c.args.commands.items) c.into_run.result.replies.items (returns-clause-answers g c)
    g.met.C.Ord.total c.args.cfg.max_sets.ok
