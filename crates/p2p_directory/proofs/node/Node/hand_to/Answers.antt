use Rattle.std.specs.Duration.{as_nanos}
use Rattle.p2p_directory.specs.Nodes.{standing_of}
use Rattle.p2p_directory.proofs.Nodes.ReadBack.{wire_in}
use Rattle.p2p_directory.proofs.node.Node.hand_to.Goals as goal

pub returns-in-Err-clause-answer : goal.returns-in-Err-clause-answer
returns-in-Err-clause-answer g c = λ v fits spelled.
    (c.in-Err.ensures.replies v fits spelled).1
    (standing_of g.C.Ord.cmp
    (wire_in g.C.PublicKey.verifies g.C.FixedBytes g.C.Signature.FixedBytes)
    c.args.self.now)
    (as_nanos c.args.asker_now)
