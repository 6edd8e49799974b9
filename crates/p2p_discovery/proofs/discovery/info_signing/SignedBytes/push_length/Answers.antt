use Rattle.std.proofs.Common.{◌++◌, ap, arith, ◌∙◌, sym}
use Rattle.p2p_discovery.specs.Laws.Varint.{groups_small}
use Rattle.p2p_discovery.proofs.GroupWrites.{groups_two}
use Rattle.p2p_discovery.proofs.discovery.info_signing.SignedBytes.push_length.Goals as goal

pub returns-then-count-lt128-clause-items : goal.returns-then-count-lt128-clause-items
returns-then-count-lt128-clause-items c = c.push.ensures ∙ ap (λ w. c.args.self.now ++ w) (sym (groups_small 5 c.args.count (omega arith) (omega arith)))

pub returns-else-count-lt128-clause-items : goal.returns-else-count-lt128-clause-items
returns-else-count-lt128-clause-items c =
    c.push-else-count-lt128.ensures
    ∙ ap (λ w. c.args.self.now ++ w) (sym (groups_two 3 c.args.count c.if-count-lt128.false (omega arith)))
