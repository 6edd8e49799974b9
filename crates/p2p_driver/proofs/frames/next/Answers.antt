use Rattle.std.proofs.Common.{subst, sym, ap, ◌∙◌}
use Rattle.p2p_directory.specs.Received.{Wire}
use Rattle.p2p_discovery.specs.Judgement.{judge_of}
use Rattle.p2p_driver.specs.Drivers.{wire_with}
use Rattle.p2p_driver.specs.Frames.{begins_with, is_unasked}
use Rattle.p2p_driver.specs.Hearing.{TellsPayload}
use Rattle.p2p_driver.proofs.Payloads.{tells_next}
use Rattle.p2p_driver.proofs.frames.next.Given as given
use Rattle.p2p_driver.proofs.frames.next.Goals as goal

-- how keys are, by the type of the keys
abbrev wire_in : (g : given.Over) → Wire g.row.C.Denot g.row.C-Signature.Denot
wire_in g = wire_with g.C.PublicKey.verifies g.C.FixedBytes.spelled g.C.Signature.FixedBytes.spelled g.C.FixedBytes.SIZE
    g.C.FixedBytes.value g.C.Signature.FixedBytes.SIZE g.C.Signature.FixedBytes.value

pub returns : goal.returns
returns g c = tells_next g.C.Ord.cmp (wire_in g) c.args.node.now.limits
    (judge_of g.C.Ord.cmp g.C.PublicKey.verifies c.args.node.now.verifier) c.args.owed c.args.frame.now c.args.wall c.payload.result
    (sym (c.begins_with.ensures ∙ ap (begins_with 1) c.as_slice.ensures) ∙ c.if-begins_with.false)
    (sym (c.is_unasked.ensures ∙ ap (is_unasked c.args.owed) c.as_slice-2.ensures) ∙ c.if-is_unasked.false)
    (subst (λ f. TellsPayload g.C.Ord.cmp (wire_in g) c.args.node.now.limits (judge_of g.C.Ord.cmp g.C.PublicKey.verifies c.args.node.now.verifier)
    f c.args.wall c.payload.result) c.in-Ok.ensures.cases
    (subst (λ l. TellsPayload g.C.Ord.cmp (wire_in g) l (judge_of g.C.Ord.cmp g.C.PublicKey.verifies c.args.node.now.verifier)
    c.in-Ok.kept c.args.wall c.payload.result) c.in-Ok-decode.ensures.limits
    (subst (λ vf. TellsPayload g.C.Ord.cmp (wire_in g) c.in-Ok-decode.decoded.limits (judge_of g.C.Ord.cmp g.C.PublicKey.verifies vf)
    c.in-Ok.kept c.args.wall c.payload.result) c.verifier.ensures c.payload.ensures)))
