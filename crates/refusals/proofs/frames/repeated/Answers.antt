use Rattle.std.proofs.Common.{arith, ap, length}
use Rattle.std.specs.List.{concat}
use Rattle.p2p_discovery.specs.Laws.Data.{joined_push}
use Rattle.refusals.proofs.frames.repeated.Goals as goal

pub loop-part-preserved : goal.loop-part-preserved
loop-part-preserved c = record {
  total = omega (
    arith,
    ap (λ w. length (concat w)) c.in_ok-push_back.ensures.items,
    joined_push c.loop-part.buffers.items c.from_static.result,
    ap length c.from_static.ensures,
    c.loop-part.invariant.total,
  );
  bound = omega arith;
}
