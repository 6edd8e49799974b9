use Rattle.std.proofs.Common.{◌≡◌, ℕ, List, refl, subst}
use Rattle.std.specs.Duration.{as_nanos}
use Rattle.std.specs.declared.time.Duration.{Duration}
use Rattle.p2p_directory.specs.declared.node.received.Received.{Received}
use Rattle.p2p_directory.specs.declared.node.received.Received.TheVariants as received
use Rattle.p2p_directory.specs.Nodes.{NodeView, IsReceived}
use Rattle.p2p_directory.specs.Received.{Wire, verdicts_of}
use Rattle.p2p_driver.specs.Drivers.{wire_with}
use Rattle.p2p_driver.proofs.Judging.{replies, malformed}
use Rattle.p2p_driver.proofs.serving.serve.Given as given
use Rattle.p2p_driver.proofs.serving.serve.Goals as goal

-- how keys are, by the type of the keys
abbrev wire_in : (g : given.Over) → Wire g.row.C.Denot g.row.C-Signature.Denot
wire_in g = wire_with g.C.PublicKey.verifies g.C.FixedBytes.spelled g.C.Signature.FixedBytes.spelled g.C.FixedBytes.SIZE
    g.C.FixedBytes.value g.C.Signature.FixedBytes.SIZE g.C.Signature.FixedBytes.value

-- the frame that was copied
of_copy : (g : given.Over) (f f2 : List ℕ) (wall : Duration) (r : Received g.row.C.Denot g.row.C-Signature.Denot)
    (v v2 : NodeView g.row.C.Denot g.row.C-Signature.Denot) → f ≡ f2 →
    IsReceived g.C.Ord.cmp (wire_in g) verdicts_of f (as_nanos wall) r v v2 → IsReceived g.C.Ord.cmp (wire_in g) verdicts_of f2 (as_nanos wall) r v v2
of_copy g f f2 wall r v v2 is received = subst (λ f. IsReceived g.C.Ord.cmp (wire_in g) verdicts_of f (as_nanos wall) r v v2) is received

pub returns-in-Reply : goal.returns-in-Reply
returns-in-Reply g c = (
  c.in-Reply.ensures.unchanged refl,
  λ given calls at. replies g.C.Ord.cmp (wire_in g) c.args.node.now c.receive.new.self c.args.frame.now c.args.wall c.requires
      given calls at c.in-Reply.reply
      (of_copy g c.in-Ok.copy c.args.frame.now c.args.wall (received.Reply c.in-Reply.reply) c.args.node.now c.receive.new.self c.in-Ok.ensures.cases c.in-Reply.ensures.received),
)

pub returns-in-Malformed : goal.returns-in-Malformed
returns-in-Malformed g c = (
  c.in-Malformed.ensures.unchanged refl,
  λ blocked given calls at. malformed g.C.Ord.cmp (wire_in g) c.args.node.now c.receive.new.self c.args.frame.now c.args.wall c.requires
      given calls at
      (of_copy g c.in-Ok.copy c.args.frame.now c.args.wall (received.Malformed) c.args.node.now c.receive.new.self c.in-Ok.ensures.cases c.in-Malformed.ensures.received) blocked,
)
