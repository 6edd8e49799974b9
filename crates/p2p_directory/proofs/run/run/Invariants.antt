use Rattle.std.proofs.Common.{◌≡◌, ◌++◌, [], length, vec_capacity}
use Rattle.std.specs.List.{AllPass}
use Rattle.p2p_directory.specs.Run.{settings, calls_of, accepted, AreAnswers}
use Rattle.p2p_directory.specs.Private.Serving.{has_slot_for, StandsAt}
use Rattle.p2p_directory.proofs.run.run.Given as goal

-- the replies so far answer the commands so far, the server stands where those that were accepted lead, and there is room for all
abbrev pub invariant-loop-command : goal.invariant-loop-command
invariant-loop-command g l =
    let s = settings g.C.Ord.cmp l.fn.bootstrappers.items l.fn.myself l.fn.cfg in
    record {
      rest : l.yielded ++ l.command-iterator.rest.items ≡ l.fn.commands.items;
      answers : AreAnswers s [] (calls_of l.yielded) l.replies.items;
      left : StandsAt s (accepted s [] (calls_of l.yielded) l.replies.items) l.server;
      replies : length l.replies.items ≡ length l.yielded;
      room_for_replies : vec_capacity l.replies ≡ length l.fn.commands.items;
      slots : AllPass (has_slot_for g.C.Ord.cmp l.server.slots) l.fn.commands.items;
    }
