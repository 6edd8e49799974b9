use Rattle.std.proofs.Common.{◌≡◌, ◌≤◌, ◌++◌, length, vec_capacity}
use Rattle.p2p_directory.specs.Pairs.{replies_in}
use Rattle.p2p_directory.proofs.node.pair.pair_replies.Given as goal

-- the replies so far are told
abbrev pub invariant-loop-reply : goal.invariant-loop-reply
invariant-loop-reply g l = record {
  rest : l.yielded ++ l.reply-iterator.rest.items ≡ l.fn.told.items;
  told : replies_in l.replies.items ≡ l.yielded;
  count : length l.replies.items ≡ length l.yielded;
  room : length l.fn.told.items ≤ vec_capacity l.replies;
}
