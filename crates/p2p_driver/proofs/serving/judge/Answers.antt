use Rattle.std.proofs.Common.{◌≡◌, ap, subst, ◌∙◌}
use Rattle.std.specs.Duration.{as_nanos}
use Rattle.p2p_directory.specs.declared.node.received.Answer.{Answer}
use Rattle.p2p_directory.specs.declared.node.received.Answer.TheVariants as answer
use Rattle.p2p_directory.specs.declared.node.received.Received.{Received}
use Rattle.p2p_directory.specs.Nodes.{IsReceived, given_verdicts}
use Rattle.p2p_directory.specs.declared.node.received.Received.TheVariants as received
use Rattle.p2p_directory.specs.Received.{Wire, received_of, applies}
use Rattle.p2p_driver.specs.Drivers.{wire_with}
use Rattle.p2p_driver.proofs.Judging.{told, seen_as, answer_of, received_as, greeting_made, list_made}
use Rattle.p2p_driver.proofs.serving.judge.Given as given
use Rattle.p2p_driver.proofs.serving.judge.Goals as goal

-- how keys are, by the type of the keys
abbrev wire_in : (g : given.Over) → Wire g.row.C.Denot g.row.C-Signature.Denot
wire_in g = wire_with g.C.PublicKey.verifies g.C.FixedBytes.spelled g.C.Signature.FixedBytes.spelled g.C.FixedBytes.SIZE
    g.C.FixedBytes.value g.C.Signature.FixedBytes.SIZE g.C.Signature.FixedBytes.value

-- the answer that was matched
of_field : (g : given.Over) (a : Answer g.row.C.Denot g.row.C-Signature.Denot) (r r2 : Received g.row.C.Denot g.row.C-Signature.Denot) →
    a ≡ answer.Received r → r ≡ r2 → received_of (wire_in g) a ≡ r2
of_field g a r r2 is is2 = ap (received_of (wire_in g)) is ∙ is2

pub returns-in-Ok-Received-Greeted : goal.returns-in-Ok-Received-Greeted
returns-in-Ok-Received-Greeted g c =
    let all = c.as_slice.ensures.value ∙ c.in-Ok-padded.ensures in
    let key = c.in-Ok-Received-Greeted.field-0-0-0 in
    let tells = told g.C.Ord.cmp (wire_in g) c.args.node.now c.args.waiting.now c.args.verdicts.now c.args.phase c.args.peer.now
    c.requires.waits c.requires.counted (received.Greeted key)
    (answer_of g.C.Ord.cmp (wire_in g) c.args.node.now c.args.waiting.now c.args.verdicts.now c.as_slice.result.now c.in-Ok.frame (received.Greeted key)
    all c.in-Ok.ensures.cases (seen_as (of_field g c.in-Ok-Received-Greeted.field-0 c.in-Ok-Received-Greeted.field-0-0 (received.Greeted key) c.in-Ok-Received-Greeted.field-0-is c.in-Ok-Received-Greeted.field-0-0-is) c.in-Ok-Received-Greeted.ensures.seen).answer) in (
      tells.0,
      λ dialer question. (tells.1, tells.2),
      greeting_made g.C.Ord.cmp (wire_in g) c.args.node.now c.args.waiting.now c.args.verdicts.now c.answer_with_verdicts.new.self key
          (received_as g.C.Ord.cmp (wire_in g) c.args.node.now c.args.waiting.now c.args.verdicts.now c.answer_with_verdicts.new.self c.as_slice.result.now c.in-Ok.frame (received.Greeted key)
          all c.in-Ok.ensures.cases (subst (λ r. IsReceived g.C.Ord.cmp (wire_in g) (given_verdicts c.as_slice.result.now) c.in-Ok.frame (as_nanos c.args.waiting.now.wall) r
          c.args.node.now c.answer_with_verdicts.new.self)
          (of_field g c.in-Ok-Received-Greeted.field-0 c.in-Ok-Received-Greeted.field-0-0 (received.Greeted key) c.in-Ok-Received-Greeted.field-0-is c.in-Ok-Received-Greeted.field-0-0-is) c.in-Ok-Received-Greeted.ensures.received)) tells.0 tells.1 tells.3,
    )

pub returns-in-Ok-Received-Applied : goal.returns-in-Ok-Received-Applied
returns-in-Ok-Received-Applied g c =
    let all = c.as_slice.ensures.value ∙ c.in-Ok-padded.ensures in
    let count = c.in-Ok-Received-Applied.count in
    let tells = told g.C.Ord.cmp (wire_in g) c.args.node.now c.args.waiting.now c.args.verdicts.now c.args.phase c.args.peer.now
    c.requires.waits c.requires.counted (received.Applied count)
    (answer_of g.C.Ord.cmp (wire_in g) c.args.node.now c.args.waiting.now c.args.verdicts.now c.as_slice.result.now c.in-Ok.frame (received.Applied count)
    all c.in-Ok.ensures.cases (seen_as (of_field g c.in-Ok-Received-Applied.field-0 c.in-Ok-Received-Applied.field-0-0 (received.Applied count) c.in-Ok-Received-Applied.field-0-is c.in-Ok-Received-Applied.field-0-0-is) c.in-Ok-Received-Applied.ensures.seen).answer) in (
      tells.0,
      tells.4,
      (tells.1, tells.2),
      list_made g.C.Ord.cmp (wire_in g) c.args.node.now c.args.waiting.now c.args.verdicts.now c.answer_with_verdicts.new.self count
          (received_as g.C.Ord.cmp (wire_in g) c.args.node.now c.args.waiting.now c.args.verdicts.now c.answer_with_verdicts.new.self c.as_slice.result.now c.in-Ok.frame (received.Applied count)
          all c.in-Ok.ensures.cases (subst (λ r. IsReceived g.C.Ord.cmp (wire_in g) (given_verdicts c.as_slice.result.now) c.in-Ok.frame (as_nanos c.args.waiting.now.wall) r
          c.args.node.now c.answer_with_verdicts.new.self)
          (of_field g c.in-Ok-Received-Applied.field-0 c.in-Ok-Received-Applied.field-0-0 (received.Applied count) c.in-Ok-Received-Applied.field-0-is c.in-Ok-Received-Applied.field-0-0-is) c.in-Ok-Received-Applied.ensures.received)) tells.0 tells.1 tells.3,
    )

pub returns-in-Ok-Received-Invalid : goal.returns-in-Ok-Received-Invalid
returns-in-Ok-Received-Invalid g c =
    let all = c.as_slice.ensures.value ∙ c.in-Ok-padded.ensures in
    let e = c.in-Ok-Received-Invalid.error in
    let tells = told g.C.Ord.cmp (wire_in g) c.args.node.now c.args.waiting.now c.args.verdicts.now c.args.phase c.args.peer.now
    c.requires.waits c.requires.counted (received.Invalid e)
    (answer_of g.C.Ord.cmp (wire_in g) c.args.node.now c.args.waiting.now c.args.verdicts.now c.as_slice.result.now c.in-Ok.frame (received.Invalid e)
    all c.in-Ok.ensures.cases (seen_as (of_field g c.in-Ok-Received-Invalid.field-0 c.in-Ok-Received-Invalid.field-0-0 (received.Invalid e) c.in-Ok-Received-Invalid.field-0-is c.in-Ok-Received-Invalid.field-0-0-is) c.in-Ok-Received-Invalid.ensures.seen).answer) in (
      c.in-Ok-Received-Invalid.ensures.unchanged
          (ap applies (of_field g c.in-Ok-Received-Invalid.field-0 c.in-Ok-Received-Invalid.field-0-0 (received.Invalid e) c.in-Ok-Received-Invalid.field-0-is c.in-Ok-Received-Invalid.field-0-0-is)),
      tells.0,
      tells.1,
      tells.2,
    )
