use Rattle.std.proofs.Common.{refl, ◌∙◌, ap, List, ℕ}
use Rattle.std.specs.Duration.{as_nanos}
use Rattle.p2p_tracker.specs.Blocks.{unblock_in}
use Rattle.p2p_tracker.proofs.SetsAndRecords.Blocks.{left_blocks, any_ends}
use Rattle.p2p_tracker.proofs.directory.Directory.unblock_expired.Goals as goal

pub returns-clause-answer : goal.returns-clause-answer
returns-clause-answer g c = rw (← c.self.view_is)
    (any_ends g.met.C.Ord.total g.met.C.PublicKey.exact c.self.inside.blocks (as_nanos c.args.now)
    c.drop_until.result c.drop_until.ensures.sorted c.drop_until.ensures.count)

pub returns-clause-ended : goal.returns-clause-ended
returns-clause-ended g c = rw (← c.self.view_is) (record {
  config = refl;
  sets = refl;
  records = refl;
  cooldowns = refl;
  blocks = λ q. ap (λ (bs : List (g.row.C.Denot × ℕ)). unblock_in g.C.Ord.cmp bs q) c.drop_until.ensures.left
      ∙ left_blocks g.met.C.Ord.total c.self.inside.blocks (as_nanos c.args.now) c.drop_until.ensures.sorted q;
})
