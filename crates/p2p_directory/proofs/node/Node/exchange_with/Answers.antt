use Rattle.std.proofs.Common.{refl, sym, ◌∙◌}
use Rattle.std.specs.Duration.{as_nanos}
use Rattle.p2p_discovery.specs.Payload.{payload_spelling}
use Rattle.p2p_directory.specs.Nodes.{standing_of}
use Rattle.p2p_directory.proofs.Nodes.Exchanging.{handed, all_spelled}
use Rattle.p2p_directory.proofs.Nodes.ReadBack.{wire_in}
use Rattle.p2p_directory.proofs.node.Node.exchange_with.Goals as goal

pub returns-in-Ok-Some-clause-seen : goal.returns-in-Ok-Some-clause-seen
returns-in-Ok-Some-clause-seen g c =
    let wire = wire_in g.C.PublicKey.verifies g.C.FixedBytes g.C.Signature.FixedBytes in
    record {
      answer = handed (payload_spelling g.C.FixedBytes.spelled g.C.Signature.FixedBytes.spelled)
          (standing_of g.C.Ord.cmp wire c.args.self.now)
          (standing_of g.C.Ord.cmp wire c.args.replier.now)
          c.args.place (as_nanos c.args.asker_now) (as_nanos c.args.replier_now) c.in-Ok-Some.frame
          c.hand_to.result _ refl (sym c.in-Ok-Some.field-0-is ∙ c.in-Ok-Some.ensures.seen.frame)
          c.in-Ok-Some.ensures.spelled c.hand_to.ensures.answer;
      left = c.hand_to.ensures.left;
    }

pub returns-in-Ok-Some-clause-spelled : goal.returns-in-Ok-Some-clause-spelled
returns-in-Ok-Some-clause-spelled g c =
    let wire = wire_in g.C.PublicKey.verifies g.C.FixedBytes g.C.Signature.FixedBytes in
    all_spelled g.C.FixedBytes.IsValue g.C.Signature.FixedBytes.IsValue
    (payload_spelling g.C.FixedBytes.spelled g.C.Signature.FixedBytes.spelled)
    (standing_of g.C.Ord.cmp wire c.args.self.now)
    (standing_of g.C.Ord.cmp wire c.args.replier.now)
    c.args.place (as_nanos c.args.replier_now) c.in-Ok-Some.frame
    c.hand_to.result _ refl (sym c.in-Ok-Some.field-0-is ∙ c.in-Ok-Some.ensures.seen.frame)
    c.in-Ok-Some.ensures.spelled c.hand_to.ensures.spelled
