use Rattle.std.proofs.Common.{◌≡◌, ◌≤◌, take, length, vec_capacity}
use Rattle.p2p_directory.proofs.node.exchanges.copied.Given as goal

-- those before this place are copied, and there is room for all
abbrev pub invariant-loop-info : goal.invariant-loop-info
invariant-loop-info g l = record {
  copied : l.copy.items ≡ take l.info-index l.infos;
  room : length l.infos ≤ vec_capacity l.copy;
}
