use Rattle.std.proofs.Common.{◌≡◌, false, not, ◌&&◌, sym, ◌∙◌, ap}
use Rattle.std.specs.Map.{keys_of}
use Rattle.p2p_discovery.specs.Ordered.{has_key}
use Rattle.p2p_tracker.proofs.SetsAndRecords.Naming.{names-filter}
use Rattle.p2p_tracker.proofs.SetsAndRecords.Windows.{unset_is, keys_with_bits}
use Rattle.p2p_tracker.proofs.kept.peer_set.PeerSet.new.Goals as goal

-- a peer in both roles is primary only
pub invariant_of-result : goal.invariant_of-result
invariant_of-result g c = λ q named.
    let cmp = g.C.Ord.cmp in
    let peers : keys_of c.in_ok-primary.primary ≡ c.args.primary =
    ap keys_of (c.in_ok-primary.ensures ∙ unset_is c.args.primary)
    ∙ keys_with_bits (λ q. false) c.args.primary in
    ap (λ keys. has_key cmp keys q) c.in_ok-secondary.ensures
    ∙ names-filter g.met.C.PublicKey.exact (λ p. not (has_key cmp c.args.primary p)) c.args.secondary q
    ∙ ap (λ b. not b && has_key cmp c.args.secondary q) (ap (λ keys. has_key cmp keys q) (sym peers) ∙ named)
