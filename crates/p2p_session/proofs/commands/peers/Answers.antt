use Rattle.std.proofs.Common.{Ok, subst, sym}
use Rattle.p2p_session.specs.Given.{ArePeersRead}
use Rattle.p2p_session.proofs.commands.peers.Goals as goal
use Rattle.p2p_session.specs.Schemes.{scheme_by}

pub returns : goal.returns
returns g c = subst (λ peers. ArePeersRead (scheme_by g.C.PartialOrd g.C.Ord g.C.PartialEq g.C.FixedBytes g.C.PublicKey g.C.Signature.PartialEq g.C.Signature.FixedBytes) c.args.primary.now c.args.secondary.now (Ok peers))
    (sym c.new.ensures) (c.in_ok-primary.ensures.set, c.in_ok-secondary.ensures.set)
