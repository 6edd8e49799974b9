-- Equal addresses are one address: the tests of addresses answer true exactly of equal values.
use Rattle.std.proofs.Common.{◌≡◌, ℕ, Bool, ◌&&◌, ◌==◌, sym, ap}
use mathlib.Core.Bool.{true≢false}
use Rattle.std.specs.Bool.{Decides}
use Rattle.std.specs.Cmp.{IsEquivalence, IsPartialEquivalence, decided, partial_equiv_from_equiv}
use Rattle.std.specs.Cmp.{unsigned_Decides, first_so, second_so}
use Rattle.std.specs.Cmp.Lexicographic.{bytes_decides}
use Rattle.p2p_discovery.specs.declared.types.socket.IpAddr.{IpAddr}
use Rattle.p2p_discovery.specs.declared.types.socket.IpAddr.TheVariants.{V4, V6}
use Rattle.p2p_discovery.specs.declared.types.socket.SocketAddr.{SocketAddr}
use Rattle.p2p_discovery.specs.declared.types.ingress.Ingress.{Ingress}
use Rattle.p2p_discovery.specs.declared.types.ingress.Ingress.TheVariants.{Socket, Dns}
use Rattle.p2p_discovery.specs.declared.types.address.Address.{Address}
use Rattle.p2p_discovery.specs.declared.types.address.Address.TheVariants.{Symmetric, Asymmetric}
use Rattle.p2p_discovery.specs.Ingress.{same_ip, same_socket, same_ingress}
use Rattle.p2p_discovery.specs.Address.{same_address}

-- two parts, each decided by its test
pub both_decide : {A B C : Type 0} (s t : Bool) (P : A → B → C) (a a2 : A) (b b2 : B)
    → Decides s (a ≡ a2) → Decides t (b ≡ b2)
    → (P a b ≡ P a2 b2 → a ≡ a2) → (P a b ≡ P a2 b2 → b ≡ b2) → Decides (s && t) (P a b ≡ P a2 b2)
both_decide s t P a a2 b b2 d e first second = (
  λ h. (λ i. P (d.0 (first_so s t h) i) (e.0 (second_so s t h) i)),
  λ h. (λ i. d.1 (first h) i && e.1 (second h) i),
)

pub ip_decides : (a b : IpAddr) → Decides (same_ip a b) (a ≡ b)
ip_decides (V4 a) (V4 b) = (λ h. ap V4 ((bytes_decides a b).0 h), λ h. (bytes_decides a b).1 (cc))
ip_decides (V6 a) (V6 b) = (λ h. ap V6 ((bytes_decides a b).0 h), λ h. (bytes_decides a b).1 (cc))
ip_decides (V4 a) (V6 b) = (λ h. absurd (true≢false (sym h)), λ h. absurd cc)
ip_decides (V6 a) (V4 b) = (λ h. absurd (true≢false (sym h)), λ h. absurd cc)

abbrev socket_of : IpAddr → ℕ → SocketAddr
socket_of ip port = record { ip = ip; port = port }

pub socket_decides : (a b : SocketAddr) → Decides (same_socket a b) (a ≡ b)
socket_decides a b =
    both_decide (same_ip a.ip b.ip) (a.port == b.port) socket_of a.ip b.ip a.port b.port
    (ip_decides a.ip b.ip) (unsigned_Decides a.port b.port) (λ h. ap (λ (s : SocketAddr). s.ip) h)
    (λ h. ap (λ (s : SocketAddr). s.port) h)

pub ingress_decides : (a b : Ingress) → Decides (same_ingress a b) (a ≡ b)
ingress_decides (Socket a) (Socket b) =
    (λ h. ap Socket ((socket_decides a b).0 h), λ h. (socket_decides a b).1 (cc))
ingress_decides (Dns host port) (Dns host2 port2) =
    both_decide _ _ Dns host host2 port port2 (bytes_decides host host2)
    (unsigned_Decides port port2) (λ h. cc) (λ h. cc)
ingress_decides (Socket a) (Dns host port) = (λ h. absurd (true≢false (sym h)), λ h. absurd cc)
ingress_decides (Dns host port) (Socket a) = (λ h. absurd (true≢false (sym h)), λ h. absurd cc)

pub ingress_equivalence : IsEquivalence same_ingress
ingress_equivalence = decided same_ingress ingress_decides

pub ingress_laws : IsPartialEquivalence same_ingress
ingress_laws = partial_equiv_from_equiv ingress_equivalence

pub address_decides : (a b : Address) → Decides (same_address a b) (a ≡ b)
address_decides (Symmetric a) (Symmetric b) =
    (λ h. ap Symmetric ((socket_decides a b).0 h), λ h. (socket_decides a b).1 (cc))
address_decides (Asymmetric i e) (Asymmetric i2 e2) =
    both_decide _ _ Asymmetric i i2 e e2 (ingress_decides i i2) (socket_decides e e2) (λ h. cc)
    (λ h. cc)
address_decides (Symmetric a) (Asymmetric i e) = (λ h. absurd (true≢false (sym h)), λ h. absurd cc)
address_decides (Asymmetric i e) (Symmetric a) = (λ h. absurd (true≢false (sym h)), λ h. absurd cc)

pub address_equivalence : IsEquivalence same_address
address_equivalence = decided same_address address_decides

pub address_laws : IsPartialEquivalence same_address
address_laws = partial_equiv_from_equiv address_equivalence
