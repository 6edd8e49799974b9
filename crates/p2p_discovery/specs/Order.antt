-- The order of addresses: by the form, then part by part, and bytes by the first that differ.
use Rattle.std.specs.Prelude.{ℕ, List}
use Rattle.std.specs.declared.cmp.Ordering.{Ordering}
use Rattle.std.specs.declared.cmp.Ordering.TheVariants.{Less, Greater}
use Rattle.std.specs.Ordering.{nat_cmp, ordering_then}
use Rattle.std.specs.Cmp.Lexicographic.{slice_cmp}
use Rattle.p2p_discovery.specs.declared.types.socket.IpAddr.{IpAddr}
use Rattle.p2p_discovery.specs.declared.types.socket.IpAddr.TheVariants.{V4, V6}
use Rattle.p2p_discovery.specs.declared.types.socket.SocketAddr.{SocketAddr}
use Rattle.p2p_discovery.specs.declared.types.ingress.Ingress.{Ingress}
use Rattle.p2p_discovery.specs.declared.types.ingress.Ingress.TheVariants.{Socket, Dns}
use Rattle.p2p_discovery.specs.declared.types.address.Address.{Address}
use Rattle.p2p_discovery.specs.declared.types.address.Address.TheVariants.{Symmetric, Asymmetric}

abbrev pub bytes_cmp : List ℕ → List ℕ → Ordering
bytes_cmp = slice_cmp nat_cmp

abbrev pub ip_cmp : IpAddr → IpAddr → Ordering
ip_cmp (V4 a) (V4 b) = bytes_cmp a b
ip_cmp (V4 a) (V6 b) = Less
ip_cmp (V6 a) (V4 b) = Greater
ip_cmp (V6 a) (V6 b) = bytes_cmp a b

abbrev pub socket_cmp : SocketAddr → SocketAddr → Ordering
socket_cmp a b = ordering_then (ip_cmp a.ip b.ip) (nat_cmp a.port b.port)

abbrev pub ingress_cmp : Ingress → Ingress → Ordering
ingress_cmp (Socket a) (Socket b) = socket_cmp a b
ingress_cmp (Socket a) (Dns host port) = Less
ingress_cmp (Dns host port) (Socket b) = Greater
ingress_cmp (Dns host port) (Dns host2 port2) =
    ordering_then (bytes_cmp host host2) (nat_cmp port port2)

abbrev pub address_cmp : Address → Address → Ordering
address_cmp (Symmetric a) (Symmetric b) = socket_cmp a b
address_cmp (Symmetric a) (Asymmetric ingress egress) = Less
address_cmp (Asymmetric ingress egress) (Symmetric b) = Greater
address_cmp (Asymmetric ingress egress) (Asymmetric ingress2 egress2) =
    ordering_then (ingress_cmp ingress ingress2) (socket_cmp egress egress2)
