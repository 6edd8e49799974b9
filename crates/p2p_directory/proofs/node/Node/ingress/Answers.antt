use Rattle.std.specs.Prelude.{Option, Result, Ok, Err, IfOk, OnErr}
use Rattle.p2p_discovery.specs.declared.types.ingress.Ingress.{Ingress}
use Rattle.p2p_directory.specs.declared.run.commands.Command.TheVariants as command
use Rattle.p2p_directory.specs.declared.run.commands.Reply.{Reply}
use Rattle.p2p_directory.specs.declared.run.commands.Reply.TheVariants as reply
use Rattle.p2p_directory.specs.Nodes.{IsStepped}
use Rattle.p2p_directory.specs.Private.Serving.{ingress_reply}
use Rattle.p2p_directory.proofs.Nodes.Standing.{step_of}
use Rattle.p2p_directory.proofs.node.Node.ingress.Goals as goal

-- what holds of the reply to a question of an address holds of the address, or of want of memory
if_found : {C S E : Type 0} (P : Reply C S → Type 0) (r : Result (Option Ingress) E) → P (ingress_reply r) → IfOk r (λ ingress. P (reply.Ingress ingress))
if_found P (Ok ingress) is = is
if_found P (Err e) is = _

if_refused : {C S E : Type 0} (P : Reply C S → Type 0) (r : Result (Option Ingress) E) → P (ingress_reply r) → OnErr r (P reply.OutOfMemory)
if_refused P (Ok ingress) is = _
if_refused P (Err e) is = is

pub returns-clause-ingress : goal.returns-clause-ingress
returns-clause-ingress g c = if_found (λ r. IsStepped g.C.Ord.cmp (command.Ingress c.args.peer.now) r c.args.self.now c.args.self.now) c.ingress.result (rw (← c.self.view_is)
    (step_of g.met.C.Ord.total g.met.C.PublicKey.exact c.self.inside.payload c.self.inside.verifier (command.Ingress c.args.peer.now) (ingress_reply c.ingress.result)
    c.self.inside.server c.self.inside.server c.self.invariant.1 c.self.invariant.1 c.ingress.ensures))

pub returns-clause-err : goal.returns-clause-err
returns-clause-err g c = if_refused (λ r. IsStepped g.C.Ord.cmp (command.Ingress c.args.peer.now) r c.args.self.now c.args.self.now) c.ingress.result (rw (← c.self.view_is)
    (step_of g.met.C.Ord.total g.met.C.PublicKey.exact c.self.inside.payload c.self.inside.verifier (command.Ingress c.args.peer.now) (ingress_reply c.ingress.result)
    c.self.inside.server c.self.inside.server c.self.invariant.1 c.self.invariant.1 c.ingress.ensures))
