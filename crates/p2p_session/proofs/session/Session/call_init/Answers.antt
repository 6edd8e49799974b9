use Rattle.std.proofs.Common.{sym}
use Rattle.p2p_session.proofs.Requests.{serves_init}
use Rattle.p2p_session.proofs.session.Session.call_init.Goals as goal
use Rattle.p2p_session.specs.Schemes.{scheme_by}

pub returns-in-Some-Some : goal.returns-in-Some-Some
returns-in-Some-Some g c =
    serves_init (scheme_by g.C.PartialOrd g.C.Ord g.C.PartialEq g.C.FixedBytes g.C.PublicKey g.C.Signature.PartialEq g.C.Signature.FixedBytes)
    c.args.number c.args.numbers.now c.args.namespace.now c.args.bootstrappers.now c.args.myself.now
    c.in-Some-Some.private_ips c.in-Some-Some.dns c.if-number-ne1.false c.requires
    (sym c.in-Some-Some.ensures) (sym c.in-Some-Some.ensures')
    c.nanos_of.result c.nanos_of-in-Some-Some.result c.nanos_of-in-Some-Some-2.result
    (c.nanos_of.ensures _) (c.nanos_of-in-Some-Some.ensures _) (c.nanos_of-in-Some-Some-2.ensures _)
    c.args.self.now c.init.new.self c.init.result c.init.ensures
