use Rattle.std.proofs.Common.{subst}
use Rattle.p2p_directory.specs.Received.{Wire}
use Rattle.p2p_discovery.specs.Judgement.{judge_of}
use Rattle.p2p_driver.specs.Drivers.{wire_with}
use Rattle.p2p_driver.specs.Hearing.{TellsFirst}
use Rattle.p2p_driver.proofs.frames.first.Given as given
use Rattle.p2p_driver.proofs.frames.first.Goals as goal

-- how keys are, by the type of the keys
abbrev wire_in : (g : given.Over) → Wire g.row.C.Denot g.row.C-Signature.Denot
wire_in g = wire_with g.C.PublicKey.verifies g.C.FixedBytes.spelled g.C.Signature.FixedBytes.spelled g.C.FixedBytes.SIZE
    g.C.FixedBytes.value g.C.Signature.FixedBytes.SIZE g.C.Signature.FixedBytes.value

pub returns : goal.returns
returns g c =
    subst (λ f. TellsFirst g.C.Ord.cmp (wire_in g) c.args.node.now.limits (judge_of g.C.Ord.cmp g.C.PublicKey.verifies c.args.node.now.verifier)
    c.args.peer.now f c.args.wall c.greeting.result) c.in-Ok.ensures.cases
    (subst (λ l. TellsFirst g.C.Ord.cmp (wire_in g) l (judge_of g.C.Ord.cmp g.C.PublicKey.verifies c.args.node.now.verifier)
    c.args.peer.now c.in-Ok.kept c.args.wall c.greeting.result) c.in-Ok-decode.ensures.limits (c.greeting.ensures
    (judge_of g.C.Ord.cmp g.C.PublicKey.verifies c.args.node.now.verifier)))
