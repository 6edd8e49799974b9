use Rattle.std.proofs.Common.{sym, ◌∙◌, ap}
use Rattle.std.specs.Map.{keys_of}
use Rattle.p2p_discovery.specs.Ordered.{has_key}
use Rattle.p2p_tracker.proofs.SetsAndRecords.Windows.{keys_with_bit}
use Rattle.p2p_tracker.proofs.kept.peer_set.PeerSet.set_bit.Goals as goal

pub invariant_of-self : goal.invariant_of-self
invariant_of-self g c = λ q named.
    let peers = ap keys_of c.update_at.ensures.after ∙ keys_with_bit c.self.inside.primary c.args.place c.args.known in
    c.self.invariant q (ap (λ keys. has_key g.C.Ord.cmp keys q) (sym peers) ∙ named)
